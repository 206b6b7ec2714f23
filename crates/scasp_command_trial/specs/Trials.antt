-- What a trial comes to: the first answer to a program's first query, or how the search ends without one.
use Rattle.std.specs.Prelude.{◌≡◌, ℕ, Option, None, Some}
use Rattle.scasp_cert.specs.Certificate.{Certificate}
use Rattle.scasp_cert.specs.Flat.{is_flat}
use Rattle.scasp_cert.specs.Lines.{all_lines}
use Rattle.scasp_fill.specs.Finishing.Right.{Completes, HasNoAccepted}
use Rattle.scasp_command_run.specs.Queries.{Meets, MayOverflow}
use Rattle.scasp_written.specs.Written.Rests.{Opens, Rest}
use Rattle.scasp_search_rules.specs.Successors.Machine.{answered, ended, spent}
use Rattle.scasp_syntax.specs.Programs.{numbered}
use Rattle.scasp_syntax.specs.declared.clause.Query.{Query}
use Rattle.scasp_syntax.specs.declared.program.Program.{Program}
use Rattle.scasp_command_trial.specs.declared.first.Trial.{Trial}
use Rattle.scasp_command_trial.specs.declared.first.Trial.TheVariants.{Right, Ended, Spent, Overflow}

-- From the rest of a search the trial comes to this. The first tree that hints and clash lines make right is the answer: told are the calls spent up
-- to it, the lines of its trees and checks, and whether it is flat. A tree that none make accepted is passed over.
pub data Tries (p : Program) : Rest → Trial → Type 0 where
  answers : (rest next : Rest) (tree c : Certificate) → Meets rest (answered tree) next → Completes p tree c
      → Tries p rest (Right next.calls (all_lines c) (is_flat c))
  passes : (rest next : Rest) (tree : Certificate) (trial : Trial) → Meets rest (answered tree) next → HasNoAccepted p tree
      → Tries p next trial → Tries p rest trial
  ends : (rest next : Rest) → Meets rest ended next → Tries p rest Ended
  is_spent : (rest next : Rest) → Meets rest spent next → Tries p rest Spent
  overflows : (rest : Rest) → MayOverflow rest → Tries p rest Overflow

-- the trial of a query, from the beginning of its search
pub record TriesQuery (p : Program) (budget fresh : ℕ) (query : Query) (trial : Trial) : Type 0 where
  pub rest : Rest
  pub opens : Opens p 1 budget fresh query rest
  pub tries : Tries p rest trial

-- the trial of the first query, if there is one; without a query there is no answer
abbrev pub TriesFirst : Program → ℕ → ℕ → Option Query → Trial → Type 0
TriesFirst p budget fresh None trial = trial ≡ Ended
TriesFirst p budget fresh (Some query) trial = TriesQuery p budget fresh query trial

-- the trial of the program within so many calls, where the names of samples are numbered from `fresh` on
abbrev pub IsTrial : Program → ℕ → ℕ → Trial → Type 0
IsTrial p budget fresh trial = TriesFirst p budget fresh (numbered p.queries 1) trial
