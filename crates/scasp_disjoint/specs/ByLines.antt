-- Contexts and pairs by the numbers of their lines.
use Rattle.std.specs.Borrow.{Bor}
use Rattle.std.specs.Prelude.{◌≡◌, ⊤, ℕ, if◌then◌else◌, Option, None, Some, Result, Ok, Err, List, option_map}
use Rattle.scasp_checker_rules.specs.PairLists.{pair_list}
use Rattle.scasp_checker_rules.specs.Pairs.{is_pair, told_on}
use Rattle.scasp_checker_rules.specs.Told.{Told, all_told}
use Rattle.scasp_cert.specs.Certificate.{Certificate}
use Rattle.scasp_hint.specs.declared.fault.HintFault.{HintFault}
use Rattle.scasp_lines.specs.Contexts.{context}
use Rattle.scasp_lines.specs.Lines.{free_of, lines}
use Rattle.scasp_lines.specs.Walk.{Line}
use Rattle.scasp_lines_walk.specs.Shown.TableView.{told_from}
use Rattle.scasp_lines_walk.specs.declared.shown.table.Saying.{Saying}
use Rattle.scasp_syntax.specs.Programs.{numbered}
use Rattle.scasp_syntax.specs.declared.con.Con.{Con}
use Rattle.scasp_syntax.specs.declared.program.Program.{Program}
use Rattle.scasp_disjoint.specs.declared.by_lines.ApartErr.{ApartErr}
use Rattle.scasp_disjoint.specs.declared.by_lines.ApartErr.TheVariants.{Fault, Wrong, Memory}

abbrev pub context_at : Certificate → Line → List Con
context_at c l = context c.given l.here.opened

-- the context of the line of this number
abbrev pub context_on : Program → Certificate → ℕ → Option (List Con)
context_on p c n = option_map (context_at c) (numbered (lines p c) n)

-- two literals, where one is positive and the other negated, and they are of one predicate
abbrev pub pair_of : Option Told → Option Told → Option (Told × Told)
pair_of None b = None
pair_of (Some a) None = None
pair_of (Some a) (Some b) = if is_pair a b then Some (a, b) else None

abbrev pub told_both : Bor Saying × Bor Saying → Told × Told
told_both ab = (told_from ab.0, told_from ab.1)

-- those on these two lines
abbrev pub pair_on : Program → Certificate → ℕ → ℕ → Option (Told × Told)
pair_on p c i j = pair_of (told_on i (all_told (lines p c))) (told_on j (all_told (lines p c)))

abbrev pub list_of_pair : Certificate → Told × Told → List Con
list_of_pair c ab = pair_list (free_of c) c.given ab.0 ab.1

-- an answer tells of the hint's fault, and that there is no such pair; want of memory says nothing
abbrev pub AnswersErr : ApartErr → Option (Option HintFault) → Type 0
AnswersErr (Fault f) found = found ≡ Some (Some f)
AnswersErr Wrong found = found ≡ None
AnswersErr Memory found = ⊤

abbrev pub Answers : {A : Type 0} → Result A ApartErr → Option (Option HintFault) → Type 0
Answers (Ok x) found = found ≡ Some None
Answers (Err e) found = AnswersErr e found
