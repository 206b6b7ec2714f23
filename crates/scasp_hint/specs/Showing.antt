-- When a hint shows that a list of constraints has no valuation.
use Rattle.std.specs.Prelude.{ℕ, zero, suc, ◌==◌, Bool, false, ◌||◌, if◌then◌else◌, List, [], ◌∷◌, ◌++◌, length, slice_get, Option, None, Some, Result, Ok, Err, ⊤}
use Rattle.scasp_num.specs.declared.hints.Step.{Step}
use Rattle.scasp_list.specs.Each.{Each}
use Rattle.scasp_num.specs.Linear.{Linear}
use Rattle.scasp_rows.specs.Points.{is_false}
use Rattle.scasp_rows.specs.Steps.{StepInRange, row_sum, may_step, row_numbered}
use Rattle.scasp_unify.specs.Resolver.{resolver}
use Rattle.scasp_syntax.specs.declared.con.Con.{Con}
use Rattle.scasp_hint.specs.Sides.{differs}
use Rattle.scasp_hint.specs.AskedRows.{given_rows, inequalities, resolved_each, asked}
use Rattle.scasp_hint.specs.declared.sides.Sides.{Sides}
use Rattle.scasp_hint.specs.declared.sides.Sides.TheVariants.{Mixed, Large, Listed}
use Rattle.scasp_hint.specs.declared.asked.Asked.{Asked}
use Rattle.scasp_hint.specs.declared.asked.Asked.TheVariants.{ByTerms, Overflows, Asks}
use Rattle.scasp_hint.specs.declared.fault.HintFault.{HintFault}
use Rattle.scasp_hint.specs.declared.fault.HintFault.TheVariants as fault
use Rattle.scasp_syntax.specs.declared.hint.Hint.{Hint}
use Rattle.scasp_syntax.specs.declared.hint.Hint.TheVariants as hints

-- the multipliers lie from -M to M
abbrev pub HintInRange : Hint → Type 0
HintInRange hints.Terms = ⊤
HintInRange (hints.Rows steps) = Each StepInRange steps
HintInRange (hints.Same n lists) = Each (Each StepInRange) lists

-- ---- steps

abbrev pub row_or_large : Option Linear → Result Linear HintFault
row_or_large None = Err fault.Overflow
row_or_large (Some row) = Ok row

abbrev pub row_from : Step → Option Linear → Option Linear → Result Linear HintFault
row_from s None o = Err fault.Step
row_from s (Some p) None = Err fault.Step
row_from s (Some p) (Some q) = if may_step s.a p s.b q then row_or_large (row_sum s.a p s.b q) else Err fault.Step

-- the row that a step adds
abbrev pub row_added : List Linear → Step → Result Linear HintFault
row_added all s = row_from s (row_numbered all s.p) (row_numbered all s.q)

abbrev pub after : Result Linear HintFault → (Linear → Option HintFault) → Option HintFault
after (Ok row) f = f row
after (Err e) f = Some e

-- every step is run; a false row is to be among those that they add
abbrev pub run : List Linear → List Step → Bool → Option HintFault
run all [] reached = if reached then None else Some fault.NotReached
run all (s ∷ ss) reached = after (row_added all s) (λ row. run (all ++ row ∷ []) ss (reached || is_false row))

-- ---- sides, each with its list of steps

abbrev pub first_fault : Option HintFault → Option HintFault → Option HintFault
first_fault (Some e) rest = Some e
first_fault None rest = rest

abbrev pub run_sides : List Linear → List Linear → List (List Step) → Option HintFault
run_sides all [] lists = None
run_sides all (a ∷ bs) [] = Some fault.Step
run_sides all (a ∷ bs) (steps ∷ lists) = first_fault (run (all ++ a ∷ []) steps false) (run_sides all bs lists)

abbrev pub side_fault : List Linear → List (List Step) → Option Sides → Option HintFault
side_fault all lists None = Some fault.Step
side_fault all lists (Some Mixed) = Some fault.Step
side_fault all lists (Some Large) = if length lists == 2 then Some fault.Overflow else Some fault.Step
side_fault all lists (Some (Listed ss)) = if length lists == length ss then run_sides all ss lists else Some fault.Step

-- the disequation with this number, counted from 1
abbrev pub side_numbered : List Sides → ℕ → Option Sides
side_numbered all zero = None
side_numbered all (suc i) = slice_get all i

-- ---- hints

abbrev pub terms_fault : Asked → Option HintFault
terms_fault ByTerms = None
terms_fault Overflows = Some fault.Overflow
terms_fault (Asks all) = Some fault.NotReached

abbrev pub if_resolved : Option (List Linear) → (List Linear → Option HintFault) → Option HintFault
if_resolved None f = Some fault.Overflow
if_resolved (Some all) f = f all

-- why the hint does not show it; none where it does
abbrev pub fault_of : List Con → Hint → Option HintFault
fault_of cs hints.Terms = terms_fault (asked cs)
fault_of cs (hints.Rows steps) = if_resolved (resolved_each (resolver cs) (inequalities (given_rows cs))) (λ all. run all steps false)
fault_of cs (hints.Same n lists) = if_resolved (resolved_each (resolver cs) (inequalities (given_rows cs))) (λ all. side_fault all lists (side_numbered (differs cs) n))
