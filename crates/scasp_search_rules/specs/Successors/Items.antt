-- Items of flat bodies.
use Rattle.std.specs.Prelude.{ℕ, Bool, not, if◌then◌else◌, Option, Some, None, List, [], ◌∷◌, ◌++◌, map}
use Rattle.scasp_checker_rules.specs.PairLists.{con_raised}
use Rattle.scasp_num.specs.Linear.{Linear}
use Rattle.scasp_search_rules.specs.declared.states.lines.Line.{Line}
use Rattle.scasp_search_rules.specs.declared.states.lines.Line.TheVariants as line
use Rattle.scasp_search_rules.specs.declared.states.state.State.{State}
use Rattle.scasp_search_rules.specs.declared.states.tasks.Aim.TheVariants as aims
use Rattle.scasp_search_rules.specs.declared.states.tasks.Task.TheVariants as task
use Rattle.scasp_syntax.specs.Flat.{flat_body}
use Rattle.scasp_syntax.specs.Instances.{atom_under}
use Rattle.scasp_syntax.specs.Programs.{numbered}
use Rattle.scasp_syntax.specs.Values.{raised}
use Rattle.scasp_syntax.specs.declared.clause.Clause.{Clause}
use Rattle.scasp_syntax.specs.declared.clause.FlatItem.{FlatItem}
use Rattle.scasp_syntax.specs.declared.clause.FlatItem.TheVariants as flat
use Rattle.scasp_syntax.specs.declared.con.Con.{Con}
use Rattle.scasp_syntax.specs.declared.con.Con.TheVariants as con
use Rattle.scasp_syntax.specs.declared.program.Program.{Program}
use Rattle.scasp_syntax.specs.declared.term.Term.{Term}
use Rattle.scasp_syntax.specs.declared.term.Term.TheVariants.{Var}
use Rattle.scasp_unify.specs.Negations.{negated}
use Rattle.scasp_search_rules.specs.Successors.Assumptions.{assume, assume_all}
use Rattle.scasp_search_rules.specs.Successors.Regions.{before}
use Rattle.scasp_search_rules.specs.Successors.Steps.{Step, goes}
use Rattle.scasp_search_rules.specs.Successors.Variables.{universals_of, is_empty}

-- the item with each variable raised
abbrev pub item_raised : ℕ → FlatItem → FlatItem
item_raised by (flat.Call l) = flat.Call (record { positive = l.positive; atom = atom_under (raised by) l.atom })
item_raised by (flat.Test c) = flat.Test (con_raised 0 by c)

-- the item that is true where this one is false
abbrev pub opposite_item : FlatItem → FlatItem
opposite_item (flat.Call l) = flat.Call (record { positive = not l.positive; atom = l.atom })
opposite_item (flat.Test c) = flat.Test (negated 0 c)

abbrev pub items_of : Option Clause → ℕ → List FlatItem
items_of None first = []
items_of (Some c) first = map (item_raised first) (flat_body c.body)

-- the flat body of this clause, with its variables from `first` on
abbrev pub body_of : Program → ℕ → ℕ → List FlatItem
body_of p clause first = items_of (numbered p.clauses clause) first

-- the state with one more line
abbrev pub with_line : State → Line → State
with_line s l = record s { lines = s.lines ++ l ∷ [] }

-- without universal variables a disequation is assumed, with them its terms are to differ
abbrev pub differ_item : (List Con → Bool) → State → Term → Term → Step
differ_item sat s t u =
    if is_empty (universals_of s (con.Neq t u)) then assume sat s (con.Neq t u)
    else goes (before (task.Differ (record { left = t; right = u } ∷ []) aims.Test ∷ []) s)

abbrev pub number_tests : Linear → List Con
number_tests r = map (λ k. con.Num (Var k.x)) r.coeffs

-- without universal variables each variable of a row is a number first
abbrev pub row_item : (List Con → Bool) → State → Linear → Step
row_item sat s r =
    if is_empty (universals_of s (con.Row r)) then assume_all sat (number_tests r ++ con.Row r ∷ []) s
    else assume sat s (con.Row r)

abbrev pub test_item : (List Con → Bool) → State → Con → Step
test_item sat s (con.Eq t u) = goes (before (task.Equate t u ∷ []) s)
test_item sat s (con.Neq t u) = differ_item sat s t u
test_item sat s (con.NotShape x f n) = assume sat s (con.NotShape x f n)
test_item sat s (con.Num t) = assume sat s (con.Num t)
test_item sat s (con.NotNum t) = assume sat s (con.NotNum t)
test_item sat s (con.Row r) = row_item sat s r

-- a test is to be true
abbrev pub show_test : (List Con → Bool) → State → Con → Step
show_test sat s c = test_item sat (with_line s (line.Test c)) c
