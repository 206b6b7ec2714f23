-- Words for contracts of private functions.
use Rattle.std.specs.Prelude.{◌≡◌, ◌+◌, ℕ, List, Option, None, Some}
use Rattle.scasp_cert.specs.Certificate.{Certificate, certificate_of}
use Rattle.scasp_cert.specs.declared.certificate.Cert.{Cert}
use Rattle.scasp_fill.specs.Finishing.Finishes.{Finishes}
use Rattle.scasp_fill.specs.Finishing.Right.{Completes}
use Rattle.scasp_fill.specs.declared.finishing.finishing.Finished.TheVariants as finished
use Rattle.scasp_print_samples.specs.Samples.{NamesSample}
use Rattle.scasp_print_samples.specs.Tables.{IsTable}
use Rattle.scasp_search_walk.specs.declared.events.Advance.{Advance}
use Rattle.scasp_search_walk.specs.declared.events.Advance.TheVariants as advance
use Rattle.scasp_serve_replies.specs.Comings.{ComesOf, SessionGoesOn}
use Rattle.scasp_serve_replies.specs.Tallies.{tally_of, with_tally}
use Rattle.scasp_serve_replies.specs.Texts.{answer_text}
use Rattle.scasp_serve_replies.specs.declared.coming.Coming.{Coming}
use Rattle.scasp_serve_replies.specs.declared.coming.Coming.TheVariants.{Answer, Without}
use Rattle.scasp_serve_replies.specs.declared.coming.NoAnswer.TheVariants.{Paused, Ended, Spent, Overflow}
use Rattle.scasp_serve_replies.specs.declared.coming.Step.{Step}
use Rattle.scasp_serve_replies.specs.declared.coming.Step.TheVariants.{Comes, Passes}
use Rattle.scasp_serve_replies.specs.declared.desk.Desk.{Desk}
use Rattle.scasp_sessions.specs.Tables.{Table, search_of}
use Rattle.scasp_syntax.specs.declared.program.Program.{Program}

-- a tree comes to this
abbrev pub TreeComes : Program → Certificate → Step → Type 0
TreeComes p tree (Comes (Answer cert)) = Completes p tree (certificate_of cert)
TreeComes p tree (Comes (Without Paused)) = ⊥
TreeComes p tree (Comes (Without Ended)) = ⊥
TreeComes p tree (Comes (Without Spent)) = ⊥
TreeComes p tree (Comes (Without Overflow)) = Finishes p tree finished.Overflow
TreeComes p tree Passes = Finishes p tree finished.Passed

-- what the search gives is a tree that is passed over
pub data IsPassed (p : Program) : Advance Cert → Type 0 where
  is_passed : (tree : Cert) → Finishes p (certificate_of tree) finished.Passed → IsPassed p (advance.Answer tree)

-- what the search gives comes to this
abbrev pub StepOf : Program → Advance Cert → Step → Type 0
StepOf p given (Comes coming) = ComesOf p given coming
StepOf p given Passes = IsPassed p given

-- this comes of a session; none where no such session is open
abbrev pub Found : Program → Table → ℕ → ℕ → Option Coming → Table → Type 0
Found p old id calls None new = (search_of id old.opened ≡ None) × (new ≡ old)
Found p old id calls (Some coming) new = SessionGoesOn p old id calls coming new

-- the text is that of an answer, which is counted
pub record Answers (names : List (List ℕ)) (old : Desk) (id : ℕ) (c : Certificate) (text : List ℕ) (new : Desk) : Type 0 where
  pub table : NamesSample names new.table.names c
  pub is_table : IsTable names new.table
  pub tallies : new.tallies.items
      ≡ with_tally id (record (tally_of id old.tallies.items) { answers = (tally_of id old.tallies.items).answers + 1 }) old.tallies.items
  pub text_is : text ≡ answer_text new.table.names id ((tally_of id old.tallies.items).answers + 1) c
