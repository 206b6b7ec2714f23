-- How the calls answer by the definitions. Want of memory says nothing of the list or the hint.
use Rattle.std.specs.Prelude.{◌≡◌, if◌then◌else◌, List, ◌++◌, Option, None, Some, Result, Ok, Err, ⊤}
use Rattle.scasp_num.specs.Arithmetic.{◌>>=◌}
use Rattle.scasp_num.specs.Linear.{Linear}
use Rattle.scasp_num.specs.declared.linear.RowErr.{RowErr}
use Rattle.scasp_num.specs.declared.linear.RowErr.TheVariants as row_err
use Rattle.scasp_num.specs.declared.hints.Step.{Step}
use Rattle.scasp_rows.specs.Points.{NoDisequation}
use Rattle.scasp_rows.specs.declared.steps.StepErr.{StepErr}
use Rattle.scasp_rows.specs.declared.steps.StepErr.TheVariants as step_err
use Rattle.scasp_rows.specs.declared.verdict.LinErr.{LinErr}
use Rattle.scasp_rows.specs.declared.verdict.LinErr.TheVariants as lin_err
use Rattle.scasp_syntax.specs.declared.hint.Hint.{Hint}
use Rattle.scasp_unify.specs.Parts.{Part}
use Rattle.scasp_hint.specs.Sides.{less, more}
use Rattle.scasp_hint.specs.Finding.{Forced, possible, unknown, forced, Found, nothing, unknown_list, hint}
use Rattle.scasp_hint.specs.declared.sides.Sides.{Sides}
use Rattle.scasp_hint.specs.declared.sides.Sides.TheVariants.{Mixed, Large, Listed}
use Rattle.scasp_hint.specs.declared.fault.HintErr.{HintErr}
use Rattle.scasp_hint.specs.declared.fault.HintErr.TheVariants as err
use Rattle.scasp_hint.specs.declared.fault.HintFault.{HintFault}
use Rattle.scasp_hint.specs.declared.fault.HintFault.TheVariants as fault

-- ---- of hints

-- the fault of a row that is not made
abbrev pub IsRowFault : RowErr → HintErr → Type 0
IsRowFault row_err.Overflow e = e ≡ err.Fault fault.Overflow
IsRowFault row_err.Memory e = e ≡ err.Memory

-- the fault of a step that makes no row
abbrev pub IsStepFault : StepErr → HintErr → Type 0
IsStepFault step_err.Overflow e = e ≡ err.Fault fault.Overflow
IsStepFault step_err.Sign e = e ≡ err.Fault fault.Step
IsStepFault step_err.Memory e = e ≡ err.Memory

-- a hint is accepted exactly where it has no fault, and refused by its first one
abbrev pub Judges : Result Unit HintErr → Option HintFault → Type 0
Judges (Ok accepted) o = o ≡ None
Judges (Err (err.Fault f)) o = o ≡ Some f
Judges (Err err.Memory) o = ⊤

-- a row is made, or is not for this fault
abbrev pub Makes : Result Linear HintErr → Result Linear HintFault → Type 0
Makes (Ok row) o = o ≡ Ok row
Makes (Err (err.Fault f)) o = o ≡ Err f
Makes (Err err.Memory) o = ⊤

-- ---- of what is found

abbrev pub Finds : Result (Option Hint) LinErr → Found → Type 0
Finds (Ok None) f = f ≡ nothing
Finds (Ok (Some h)) f = f ≡ hint h
Finds (Err lin_err.Overflow) f = f ≡ unknown_list
Finds (Err lin_err.Memory) f = ⊤

-- ---- of the sides of disequations

-- the left side of the part is below the right one
abbrev pub left_below : Part → Option Linear
left_below p = if p.turned then more p.at p.term else less p.at p.term

-- the left side of the part is above the right one
abbrev pub left_above : Part → Option Linear
left_above p = if p.turned then less p.at p.term else more p.at p.term

-- the rows are put behind those before, where they are made
abbrev pub AddsSides : List Linear → List Linear → Result Unit RowErr → Option (List Linear) → Type 0
AddsSides before after (Ok done) o = o >>= (λ more. Some (before ++ more)) ≡ Some after
AddsSides before after (Err row_err.Overflow) o = None ≡ o
AddsSides before after (Err row_err.Memory) o = ⊤

-- ---- of what is asked of the sides

-- all sides are false together with the rows by these steps, or one of them is met
abbrev pub Forces : Result (Option (List (List Step))) LinErr → Forced → Type 0
Forces (Ok None) f = f ≡ possible
Forces (Ok (Some lists)) f = f ≡ forced lists
Forces (Err lin_err.Overflow) f = f ≡ unknown
Forces (Err lin_err.Memory) f = ⊤

-- no side is a disequation
abbrev pub ArePlain : Sides → Type 0
ArePlain Mixed = ⊤
ArePlain Large = ⊤
ArePlain (Listed ss) = NoDisequation ss
