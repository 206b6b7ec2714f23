-- How what a finished state tells reads in its certificate, and what is known of the heads of its rules.
use Rattle.std.specs.Prelude.{◌≡◌, ℕ, suc, nat_eq, Bool, true, false, ◌&&◌, if◌then◌else◌, Option, Some, None, List, [], ◌∷◌, map, length, slice_get}
use Rattle.scasp_lines.specs.Determined.{determined}
use Rattle.scasp_lines.specs.Dues.{Due, goal, fact}
use Rattle.scasp_search_rules.specs.Successors.Calls.{args_in, head_args, vars_of_clause}
use Rattle.scasp_search_rules.specs.Successors.Items.{body_of}
use Rattle.scasp_search_rules.specs.Successors.Numbering.{con_renamed, lit_renamed}
use Rattle.scasp_search_rules.specs.Successors.Variables.{meaning}
use Rattle.scasp_search_rules.specs.declared.states.lines.Line.{Line}
use Rattle.scasp_search_rules.specs.declared.states.lines.Line.TheVariants as line
use Rattle.scasp_search_rules.specs.declared.states.state.Literal.{Literal}
use Rattle.scasp_search_rules.specs.declared.states.state.State.{State}
use Rattle.scasp_syntax.specs.Constraints.{Meets}
use Rattle.scasp_syntax.specs.Instances.{atom_under}
use Rattle.scasp_syntax.specs.Programs.{numbered}
use Rattle.scasp_syntax.specs.Tm.{items}
use Rattle.scasp_syntax.specs.Values.{Sub, Valuation, all_under, under}
use Rattle.scasp_syntax.specs.declared.atom.Atom.{Atom}
use Rattle.scasp_syntax.specs.declared.clause.FlatItem.{FlatItem}
use Rattle.scasp_syntax.specs.declared.clause.FlatItem.TheVariants as flat
use Rattle.scasp_syntax.specs.declared.program.Program.{Program}
use Rattle.scasp_law_headed_steps.specs.Calm.{holds_of}

-- ---- reading

-- the variables of the finished state f as they read in the certificate, whose places v gives
abbrev pub reading : State → Sub → Sub
reading f v x = under v (meaning f x)

-- what an item is due for
abbrev pub due_read : Sub → FlatItem → Due
due_read r (flat.Call l) = goal (lit_renamed r l)
due_read r (flat.Test c) = fact (determined r c)

abbrev pub dues_read : Sub → List FlatItem → List Due
dues_read r is = map (due_read r) is

-- no line tells of a split
abbrev pub line_read : Sub → Line → Line
line_read r (line.Pos a k ts n) = line.Pos (atom_under r a) k (all_under r ts) n
line_read r (line.Neg a n) = line.Neg (atom_under r a) n
line_read r (line.Loop l at) = line.Loop (lit_renamed r l) at
line_read r (line.Seen l at) = line.Seen (lit_renamed r l) at
line_read r (line.Test c) = line.Test (con_renamed r c)
line_read r (line.Rule a k first) = line.Rule (atom_under r a) k first
line_read r (line.Check k first) = line.Check k first
line_read r (line.Split c parts) = line.Void
line_read r line.Void = line.Void
line_read r (line.Leaf k) = line.Leaf k
line_read r (line.Head n) = line.Head n

-- ---- cases

abbrev pub cases_in : Option Literal → List ℕ
cases_in None = []
cases_in (Some a) = a.cases

abbrev pub is_case_line : Line → Bool
is_case_line (line.Leaf k) = true
is_case_line (line.Head n) = true
is_case_line (line.Pos a k ts n) = false
is_case_line (line.Neg a n) = false
is_case_line (line.Loop l at) = false
is_case_line (line.Seen l at) = false
is_case_line (line.Test c) = false
is_case_line (line.Rule a k first) = false
is_case_line (line.Check k first) = false
is_case_line (line.Split c parts) = false
is_case_line line.Void = false

-- the numbers of the lines at which a case begins, where the first of these lines has number `at`
abbrev pub case_lines : ℕ → List Line → List ℕ
case_lines at [] = []
case_lines at (l ∷ ls) = if is_case_line l then at ∷ case_lines (suc at) ls else case_lines (suc at) ls

-- ---- heads and bodies

-- By the program p and the finished state f, whose variables stand in the certificate at the places v.
module _ (p : Program) (f : State) (v : Sub) where
  abbrev r : Sub
  r = reading f v

  -- the cases, that are not plain, around the literal of this number
  abbrev pub cases_of : ℕ → List ℕ
  cases_of n = cases_in (slice_get f.literals n)

  -- the head of clause k, with its variables from `first` on, reads as the atom
  abbrev pub Reads : ℕ → ℕ → Atom → Type 0
  Reads k first a = all_under r (head_args p k first) ≡ a.args

  -- no valuation that meets what holds makes the head of clause k and the atom one
  abbrev pub Misses : ℕ → Atom → Type 0
  Misses k a =
      (u : Valuation) → Meets (λ x. under u.of (r x)) (holds_of f) → (w : Sub) → all_under u.of a.args ≡ all_under w (args_in (numbered p.clauses k)) → ⊥

  abbrev pub body_dues : ℕ → ℕ → List Due
  body_dues k first = dues_read r (body_of p k first)

  -- no variable, and no argument in the head
  abbrev pub is_plain_rule : ℕ → Bool
  is_plain_rule k = nat_eq (vars_of_clause p k) 0 && nat_eq (length (items (args_in (numbered p.clauses k)))) 0
