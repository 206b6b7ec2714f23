-- Cases of covers.
use Rattle.std.specs.Prelude.{ℕ, zero, suc, nat_eq, Bool, true, false, ◌&&◌, ◌||◌, not, if◌then◌else◌, Option, Some, None, List, [], ◌∷◌, ◌++◌, map, filter, length, slice_set}
use Rattle.std.specs.List.{list_any}
use Rattle.scasp_search_rules.specs.declared.states.covers.Cover.{Cover}
use Rattle.scasp_search_rules.specs.declared.states.covers.Remainder.{Remainder}
use Rattle.scasp_search_rules.specs.declared.states.lines.Line.{Line}
use Rattle.scasp_search_rules.specs.declared.states.lines.Line.TheVariants as line
use Rattle.scasp_search_rules.specs.declared.states.state.Kind.TheVariants.{Matched, Universal}
use Rattle.scasp_search_rules.specs.declared.states.state.Literal.{Literal}
use Rattle.scasp_search_rules.specs.declared.states.state.Made.{Made}
use Rattle.scasp_search_rules.specs.declared.states.state.State.{State}
use Rattle.scasp_search_rules.specs.declared.states.tasks.Task.TheVariants as task
use Rattle.scasp_syntax.specs.Instances.{atom_under}
use Rattle.scasp_syntax.specs.Programs.{numbered}
use Rattle.scasp_syntax.specs.Tm.{items}
use Rattle.scasp_syntax.specs.Values.{raised, all_under}
use Rattle.scasp_syntax.specs.declared.atom.Atom.{Atom}
use Rattle.scasp_syntax.specs.declared.atom.Lit.{Lit}
use Rattle.scasp_syntax.specs.declared.clause.Clause.{Clause}
use Rattle.scasp_syntax.specs.declared.clause.FlatItem.{FlatItem}
use Rattle.scasp_syntax.specs.declared.clause.FlatItem.TheVariants as flat
use Rattle.scasp_syntax.specs.declared.con.Con.{Con}
use Rattle.scasp_syntax.specs.declared.program.Program.{Program}
use Rattle.scasp_unify.specs.Unification.{terms_vars}
use Rattle.scasp_unify.specs.declared.bindings.Binding.{Binding}
use Rattle.scasp_search_rules.specs.Successors.Calls.{vars_of_clause, head_args, lit_under}
use Rattle.scasp_search_rules.specs.Successors.Items.{body_of, opposite_item, with_line}
use Rattle.scasp_search_rules.specs.Successors.Reading.{con_under, count_from, among, term_under}
use Rattle.scasp_search_rules.specs.Successors.Regions.{before, context, asked_with}
use Rattle.scasp_search_rules.specs.Successors.Splits.{is_bound_in}
use Rattle.scasp_search_rules.specs.Successors.Steps.{Step, fails, goes}
use Rattle.scasp_search_rules.specs.Successors.Variables.{meaning, with_new, next_variable}

-- the variables become universal ones of this depth
abbrev pub universals_at : ℕ → List ℕ → List Made → List Made
universals_at d [] made = made
universals_at d (x ∷ xs) made = universals_at d xs (slice_set made x (record { kind = Universal; depth = d }))

-- ---- the alternatives of a case

-- the items before the k-th, and the k-th false
abbrev pub failing_at : ℕ → List FlatItem → List FlatItem
failing_at k [] = []
failing_at zero (i ∷ is) = opposite_item i ∷ []
failing_at (suc k) (i ∷ is) = i ∷ failing_at k is

abbrev pub with_items : State → Line → List FlatItem → State
with_items s l is = before (map task.Show is ++ task.Close ∷ []) (with_line s l)

abbrev pub leaf_at : State → List FlatItem → ℕ → State
leaf_at s body k = with_items s (line.Leaf (suc k)) (failing_at k body)

-- the head of the clause, called at the end of the last alternative of a check
abbrev pub head_call : Option Clause → ℕ → List FlatItem
head_call None first = []
head_call (Some c) first = of_head c.head
  where
    of_head : Option Atom → List FlatItem
    of_head None = []
    of_head (Some a) = flat.Call (record { positive = true; atom = atom_under (raised first) a }) ∷ []

abbrev pub with_head : State → List FlatItem → List FlatItem → List State
with_head s body [] = []
with_head s body (i ∷ is) = with_items s (line.Head (suc (length body))) (body ++ i ∷ []) ∷ []

abbrev pub leaves : Program → State → Cover → List State
leaves p s c =
    let body = body_of p c.clause c.first in
    map (leaf_at s body) (count_from 0 (length body))
    ++ (if c.checks_head then with_head s body (head_call (numbered p.clauses c.clause) c.first) else [])

-- a case whose context no valuation meets is void
abbrev pub cases_where : Bool → Program → State → Cover → List State
cases_where true p s c = leaves p s c
cases_where false p s c = before (task.Close ∷ []) (with_line s line.Void) ∷ []

abbrev pub cases_of : Program → (List Con → Bool) → State → Cover → Step
cases_of p sat s c =
    let cs : List Con = asked_with s (context s) in
    record { asked = cs ∷ []; states = cases_where (sat cs) p s c }

-- ---- the beginning

abbrev pub cover_for : Program → State → ℕ → ℕ → Bool → List ℕ → Cover
cover_for p s k first checks_head unbound = record {
  clause = k;
  first = first;
  checks_head = checks_head;
  plain = nat_eq (vars_of_clause p k) 0 && nat_eq (length (items (head_args p k first))) 0;
  depth = suc (length s.covers);
  case = s.cases;
  universals = unbound;
  region = [];
  waiting = [];
  before = s.lines;
}

-- the cover is put on the stack; its clause's unbound variables are its universals
abbrev pub with_cover : State → Cover → State
with_cover s c = record s {
  made = universals_at c.depth c.universals s.made;
  covers = c ∷ s.covers;
  cases = suc s.cases;
  lines = [];
}

abbrev pub unbound_of : State → ℕ → ℕ → List ℕ
unbound_of s first n = filter (λ x. not (is_bound_in s.bound x)) (count_from first n)

abbrev pub begin_cover : Program → (List Con → Bool) → State → Cover → Step
begin_cover p sat s c = cases_of p sat (with_cover s c) c

abbrev pub begin_cases : Program → (List Con → Bool) → State → ℕ → ℕ → Bool → Step
begin_cases p sat s k first checks_head =
    begin_cover p sat s (cover_for p s k first checks_head (unbound_of s first (vars_of_clause p k)))

abbrev pub check_clause : Program → (List Con → Bool) → State → ℕ → Bool → Step
check_clause p sat s k checks_head =
    begin_cases p sat (with_line (with_new s Matched 0 (vars_of_clause p k)) (line.Check k (next_variable s))) k (next_variable s) checks_head

-- ---- the end: what the case has told is kept as it reads now

abbrev pub line_under : State → Line → Line
line_under s (line.Pos a k ts n) = line.Pos (atom_under (meaning s) a) k (all_under (meaning s) ts) n
line_under s (line.Neg a n) = line.Neg (atom_under (meaning s) a) n
line_under s (line.Loop l at) = line.Loop (lit_under s l) at
line_under s (line.Seen l at) = line.Seen (lit_under s l) at
line_under s (line.Test c) = line.Test (con_under (meaning s) c)
line_under s (line.Rule a k first) = line.Rule (atom_under (meaning s) a) k first
line_under s (line.Check k first) = line.Check k first
line_under s (line.Split c parts) = line.Split (con_under (meaning s) c) parts
line_under s line.Void = line.Void
line_under s (line.Leaf k) = line.Leaf k
line_under s (line.Head n) = line.Head n

abbrev pub kept_literal : State → List ℕ → Literal → Literal
kept_literal s universals a =
    let l : Lit = lit_under s a.lit in
    record a { lit = l; is_general = a.is_general || list_any (λ x. among x universals) (terms_vars l.atom.args) }

-- the bindings without those of these universals, but for some
abbrev pub unbound : List ℕ → List ℕ → List Binding → List Binding
unbound universals but bs = filter (λ b. not (among b.x universals) || among b.x but) bs

-- the case of the innermost cover c has ended; of its universals those of `but` stay replaced
abbrev pub ended_case : State → Cover → List ℕ → State
ended_case s c but = record s {
  literals = map (kept_literal s c.universals) s.literals;
  lines = c.before ++ map (line_under s) s.lines;
  bound = unbound c.universals but s.bound;
}

-- ---- the end of a cover, or its last remainder

abbrev pub replaced_now : State → Option Binding → List Binding
replaced_now s None = []
replaced_now s (Some b) = record { x = b.x; term = term_under (meaning s) b.term } ∷ []

abbrev pub remaining : Cover → Remainder → List Remainder → ℕ → List Line → Cover
remaining c r rs k lines = record c {
  case = k;
  universals = r.universals;
  region = r.region;
  waiting = rs;
  before = lines;
}

-- the remainder is the case of its cover
abbrev pub taken_up : State → Remainder → Cover → List Cover → State
taken_up s r c cs = record s {
  covers = c ∷ cs;
  cases = suc s.cases;
  lines = [];
  bound = s.bound ++ replaced_now s r.equation;
}

abbrev pub remainder_of : Program → (List Con → Bool) → State → Cover → Remainder → List Cover → Step
remainder_of p sat s c r cs = cases_of p sat (taken_up s r c cs) c

abbrev pub after_case : Program → (List Con → Bool) → State → Cover → List Cover → List Remainder → Step
after_case p sat s c cs [] = goes (record (ended_case s c []) { covers = cs })
after_case p sat s c cs (r ∷ rs) =
    let t : State = ended_case s c r.replaced in
    remainder_of p sat t (remaining c r rs t.cases t.lines) r cs

abbrev pub close_case : Program → (List Con → Bool) → State → List Cover → Step
close_case p sat s [] = fails
close_case p sat s (c ∷ cs) = after_case p sat s c cs c.waiting
