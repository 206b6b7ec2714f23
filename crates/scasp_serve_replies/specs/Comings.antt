-- What a session comes to within a slice of calls.
use Rattle.std.specs.Prelude.{◌≡◌, ℕ, ◌-◌, Option, Some, ⊤}
use Rattle.scasp_cert.specs.Certificate.{certificate_of}
use Rattle.scasp_cert.specs.declared.certificate.Cert.{Cert}
use Rattle.scasp_fill.specs.Finishing.Finishes.{Finishes}
use Rattle.scasp_fill.specs.Finishing.Right.{Completes}
use Rattle.scasp_fill.specs.declared.finishing.finishing.Finished.TheVariants as finished
use Rattle.scasp_search.specs.Rests.{rest_of}
use Rattle.scasp_search.specs.declared.search.Search.{Search}
use Rattle.scasp_search_walk.specs.declared.events.Advance.{Advance}
use Rattle.scasp_search_walk.specs.declared.events.Advance.TheVariants as advance
use Rattle.scasp_serve_replies.specs.declared.coming.Coming.{Coming}
use Rattle.scasp_serve_replies.specs.declared.coming.Coming.TheVariants.{Answer, Without}
use Rattle.scasp_serve_replies.specs.declared.coming.NoAnswer.TheVariants.{Paused, Ended, Spent, Overflow}
use Rattle.scasp_sessions.specs.Calls.{IsAdvanced}
use Rattle.scasp_sessions.specs.Tables.{Table, search_of, with_search}
use Rattle.scasp_syntax.specs.declared.program.Program.{Program}

-- This comes of what the search gives. A tree is given hints and clash lines that make it right; where they are not found since a list that is asked
-- about it overflows, that is an overflow.
abbrev pub ComesOf : Program → Advance Cert → Coming → Type 0
ComesOf p (advance.Answer tree) (Answer cert) = Completes p (certificate_of tree) (certificate_of cert)
ComesOf p (advance.Answer tree) (Without Overflow) = Finishes p (certificate_of tree) finished.Overflow
ComesOf p advance.Paused (Without Paused) = ⊤
ComesOf p advance.Ended (Without Ended) = ⊤
ComesOf p advance.Spent (Without Spent) = ⊤
ComesOf p advance.Overflow (Without Overflow) = ⊤
ComesOf p _ _ = ⊥

-- From the old search this comes within a slice of so many calls, and then it is the new one. A tree that no hints and clash lines make accepted is
-- passed over, and the slice goes on with the calls that are left.
pub data GoesOn (p : Program) : Search → ℕ → Coming → Search → Type 0 where
  comes : (old new : Search) (calls : ℕ) (given : Advance Cert) (coming : Coming) → IsAdvanced old calls given new → ComesOf p given coming
      → GoesOn p old calls coming new
  passes : (old between new : Search) (calls : ℕ) (tree : Cert) (coming : Coming) → IsAdvanced old calls (advance.Answer tree) between
      → Finishes p (certificate_of tree) finished.Passed
      → GoesOn p between (calls - ((rest_of between).calls - (rest_of old).calls)) coming new
      → GoesOn p old calls coming new

-- the search of the session with the number goes on so, and nothing else changes
pub record SessionGoesOn (p : Program) (old : Table) (id calls : ℕ) (coming : Coming) (new : Table) : Type 0 where
  pub before : Search
  pub after : Search
  pub there : search_of id old.opened ≡ Some before
  pub goes : GoesOn p before calls coming after
  pub rest : new ≡ record old { opened = with_search id after old.opened }
