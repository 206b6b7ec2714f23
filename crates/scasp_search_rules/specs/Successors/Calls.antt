-- Calls of literals.
use Rattle.std.specs.Prelude.{ℕ, nat_eq, Bool, true, false, ◌&&◌, ◌||◌, not, if◌then◌else◌, Option, Some, None, List, [], ◌∷◌, ◌++◌, map, filter, reverse, length}
use Rattle.std.specs.List.{list_all}
use Rattle.scasp_search_rules.specs.declared.states.lines.Line.TheVariants as line
use Rattle.scasp_search_rules.specs.declared.states.outcomes.Repeated.{Repeated}
use Rattle.scasp_search_rules.specs.declared.states.state.Kind.TheVariants.{Existential, Matched}
use Rattle.scasp_search_rules.specs.declared.states.state.Literal.{Literal}
use Rattle.scasp_search_rules.specs.declared.states.state.State.{State}
use Rattle.scasp_search_rules.specs.declared.states.tasks.Aim.TheVariants as aims
use Rattle.scasp_search_rules.specs.declared.states.tasks.Task.TheVariants as task
use Rattle.scasp_syntax.specs.Instances.{atom_under}
use Rattle.scasp_syntax.specs.Programs.{numbered, rules_of, pred_of}
use Rattle.scasp_syntax.specs.Same.{same_lit, same_pred, same_bool}
use Rattle.scasp_syntax.specs.Tm.{Tms, nil, items}
use Rattle.scasp_syntax.specs.Values.{raised, all_under}
use Rattle.scasp_syntax.specs.declared.atom.Atom.{Atom}
use Rattle.scasp_syntax.specs.declared.atom.Lit.{Lit}
use Rattle.scasp_syntax.specs.declared.clause.Clause.{Clause}
use Rattle.scasp_syntax.specs.declared.con.Con.{Con}
use Rattle.scasp_syntax.specs.declared.program.Program.{Program}
use Rattle.scasp_unify.specs.Negations.{new_parts}
use Rattle.scasp_unify.specs.SimpleForm.{differ, list_term}
use Rattle.scasp_unify.specs.Unification.{terms_vars}
use Rattle.scasp_search_rules.specs.Successors.Assumptions.{assume_all}
use Rattle.scasp_search_rules.specs.Successors.Equations.{equations}
use Rattle.scasp_search_rules.specs.Successors.Items.{body_of, with_line}
use Rattle.scasp_search_rules.specs.Successors.Pairs.{pairs}
use Rattle.scasp_search_rules.specs.Successors.Reading.{among}
use Rattle.scasp_search_rules.specs.Successors.Regions.{before}
use Rattle.scasp_search_rules.specs.Successors.Steps.{Step, goes, gives, followed}
use Rattle.scasp_search_rules.specs.Successors.Variables.{meaning, has_universal, with_new, next_variable}

abbrev pub lit_under : State → Lit → Lit
lit_under s l = record { positive = l.positive; atom = atom_under (meaning s) l.atom }

-- the literal is this one, as both read now
abbrev pub is_same : State → Lit → Literal → Bool
is_same s l a = not a.is_general && same_lit (lit_under s a.lit) (lit_under s l)

-- the literals that are open, the innermost first
abbrev pub ancestors : State → List Literal
ancestors s = filter (λ a. not a.is_done) (reverse s.literals)

-- ---- 1. the nearest ancestor with the identical literal

-- the nearest of these with the identical literal, where a negative one was passed or not
abbrev pub nearest : State → Lit → Bool → List Literal → Option Repeated
nearest s l passed [] = None
nearest s l passed (a ∷ rest) =
    if is_same s l a then Some (record { number = a.number; is_behind_negation = passed })
    else nearest s l (passed || not a.lit.positive) rest

-- ---- 2. a finished literal that is seen

-- the numbers of the cases that are open
abbrev pub open_cases : State → List ℕ
open_cases s = map (λ c. c.case) s.covers

-- each case around it is open now, or is of a plain cover
abbrev pub is_in_scope : State → Literal → Bool
is_in_scope s a = list_all (λ k. among k (open_cases s)) a.cases

-- no positive loop leads out of it
abbrev pub is_firm : Literal → Bool
is_firm a = not (a.lit.positive && a.loops)

abbrev pub can_be_seen : State → Lit → Literal → Bool
can_be_seen s l a = a.is_done && is_firm a && is_in_scope s a && is_same s l a

-- ---- 3. earlier literals of the other sign

abbrev pub is_free : State → Lit → Bool
is_free s l = not (has_universal s (terms_vars (lit_under s l).atom.args))

abbrev pub is_opposite : State → Lit → Literal → Bool
is_opposite s l a =
    not (same_bool a.lit.positive l.positive) && same_pred (pred_of a.lit.atom) (pred_of l.atom)
    && not a.is_general && is_free s a.lit

abbrev pub opposites : State → Lit → List Literal
opposites s l = if is_free s l then filter (is_opposite s l) s.literals else []

-- the arguments of the two are different
abbrev pub differing : Lit → Literal → Con
differing l a = differ (list_term (items l.atom.args)) (list_term (items a.lit.atom.args))

-- ---- the call

-- the literal of this number changed
abbrev pub at_number : ℕ → (Literal → Literal) → List Literal → List Literal
at_number n f [] = []
at_number n f (a ∷ rest) = (if nat_eq a.number n then f a else a) ∷ at_number n f rest

abbrev pub looping : Literal → Literal
looping a = record a { loops = true }

-- a positive loop leads out of the innermost of these literals
abbrev pub marked : List Literal → State → State
marked [] s = s
marked (a ∷ rest) s = record s { literals = at_number a.number looping s.literals }

abbrev pub looped : State → Lit → Repeated → List State
looped s l r =
    let t : State = with_line s (line.Loop l r.number) in
    if not l.positive then t ∷ []
    else (if r.is_behind_negation then marked (ancestors s) t ∷ [] else [])

-- ---- literals that are gone into

-- the state with one more literal, inside the last one that is open
abbrev pub with_literal : State → Lit → State
with_literal s l = record s {
  literals = s.literals ++ record {
    number = length s.literals;
    lit = l;
    cases = map (λ c. c.case) (filter (λ c. not c.plain) s.covers);
    is_done = false;
    loops = false;
    is_general = false;
  } ∷ [];
}

abbrev pub vars_in : Option Clause → ℕ
vars_in None = 0
vars_in (Some c) = c.vars

abbrev pub args_in : Option Clause → Tms
args_in None = nil
args_in (Some c) = args c.head
  where
    args : Option Atom → Tms
    args None = nil
    args (Some a) = a.args

-- how many variables the clause has, and the arguments of its head with its variables from `first` on
abbrev pub vars_of_clause : Program → ℕ → ℕ
vars_of_clause p k = vars_in (numbered p.clauses k)

abbrev pub head_args : Program → ℕ → ℕ → Tms
head_args p k first = all_under (raised first) (args_in (numbered p.clauses k))

-- the literal by this rule, whose variables are new
abbrev pub by_rule : Program → State → Lit → ℕ → State
by_rule p s l k =
    let first : ℕ = next_variable s in
    let n : ℕ = vars_of_clause p k in
    let body = body_of p k first in
    before (equations l.atom.args (head_args p k first) ++ map task.Show body ++ task.Leave ∷ [])
    (with_literal (with_line (with_new s Existential (length s.covers) n) (line.Pos l.atom k (new_parts first n) (length body))) l)

-- each rule is to fail
abbrev pub by_no_rule : Program → State → Lit → State
by_no_rule p s l =
    let rules = rules_of p (pred_of l.atom) in
    before (map (task.Cover l.atom) rules ++ task.Leave ∷ []) (with_literal (with_line s (line.Neg l.atom (length rules))) l)

abbrev pub entered : Program → State → Lit → List State
entered p s l = if l.positive then map (by_rule p s l) (rules_of p (pred_of l.atom)) else by_no_rule p s l ∷ []

-- what is left where no ancestor has the literal: it is seen, or gone into
abbrev pub unrepeated : Program → (List Con → Bool) → State → Lit → List Literal → Step
unrepeated p sat s l [] = followed (assume_all sat (map (differing l) (opposites s l)) s) (λ t. gives (entered p t l))
unrepeated p sat s l (a ∷ rest) = goes (with_line s (line.Seen l a.number))

abbrev pub judged : Program → (List Con → Bool) → State → Lit → Option Repeated → Step
judged p sat s l (Some r) = gives (looped s l r)
judged p sat s l None = unrepeated p sat s l (filter (can_be_seen s l) s.literals)

-- the states that a call of the literal gives
abbrev pub call : Program → (List Con → Bool) → State → Lit → Step
call p sat s l = judged p sat s l (nearest s l false (ancestors s))

-- a cover of the rule: its variables are neither kind yet
abbrev pub covered : Program → State → Atom → ℕ → State
covered p s a k =
    let first : ℕ = next_variable s in
    before (task.Differ (pairs a.args (head_args p k first)) (aims.Head k first) ∷ [])
    (with_line (with_new s Matched 0 (vars_of_clause p k)) (line.Rule a k first))

-- ---- the end of a literal

abbrev pub finished : Literal → Literal
finished a = record a { is_done = true }

-- a mark moves on from a positive literal to a positive one around it
abbrev pub moved : Literal → List Literal → State → State
moved a [] s = s
moved a (b ∷ bs) s = if a.loops && a.lit.positive && b.lit.positive then marked (b ∷ bs) s else s

abbrev pub left : List Literal → State → State
left [] s = s
left (a ∷ rest) s = moved a rest (record s { literals = at_number a.number finished s.literals })

-- the innermost literal is done
abbrev pub leave_literal : State → State
leave_literal s = left (ancestors s) s
