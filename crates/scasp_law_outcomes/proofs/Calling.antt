-- Where an item is to be true, what is told and owed stays the same.
use Rattle.std.specs.Prelude.{ℕ, Bool, true, false, ◌&&◌, not, if◌then◌else◌, Option, Some, None, List, [], ◌∷◌, ◌++◌, map, filter, length}
use Rattle.std.proofs.Common.{refl}
use Rattle.scasp_list.specs.Each.{Each}
use Rattle.scasp_search_rules.specs.declared.states.lines.Line.TheVariants as line
use Rattle.scasp_search_rules.specs.declared.states.outcomes.Repeated.{Repeated}
use Rattle.scasp_search_rules.specs.declared.states.state.Kind.TheVariants.{Existential}
use Rattle.scasp_search_rules.specs.declared.states.state.Literal.{Literal}
use Rattle.scasp_search_rules.specs.declared.states.state.State.{State}
use Rattle.scasp_search_rules.specs.declared.states.tasks.Aim.TheVariants as aims
use Rattle.scasp_search_rules.specs.declared.states.tasks.Pair.{Pair}
use Rattle.scasp_search_rules.specs.declared.states.tasks.Task.{Task}
use Rattle.scasp_search_rules.specs.declared.states.tasks.Task.TheVariants as task
use Rattle.scasp_syntax.specs.Programs.{rules_of, pred_of}
use Rattle.scasp_syntax.specs.declared.atom.Atom.{Atom}
use Rattle.scasp_syntax.specs.declared.atom.Lit.{Lit}
use Rattle.scasp_syntax.specs.declared.clause.FlatItem.{FlatItem}
use Rattle.scasp_syntax.specs.declared.con.Con.{Con}
use Rattle.scasp_syntax.specs.declared.con.Con.TheVariants as con
use Rattle.scasp_syntax.specs.declared.program.Program.{Program}
use Rattle.scasp_unify.specs.Negations.{new_parts}
use Rattle.scasp_search_rules.specs.Successors.Assumptions.{assume, assume_all}
use Rattle.scasp_search_rules.specs.Successors.Calls.{ancestors, nearest, can_be_seen, differing, opposites, at_number, marked, looped, with_literal, vars_of_clause, head_args, by_rule, by_no_rule, entered, unrepeated, judged, call, finished, moved, left, leave_literal}
use Rattle.scasp_search_rules.specs.Successors.Equations.{equations}
use Rattle.scasp_search_rules.specs.Successors.Items.{body_of, with_line, number_tests, test_item, show_test}
use Rattle.scasp_search_rules.specs.Successors.Pairs.{pairs}
use Rattle.scasp_search_rules.specs.Successors.Regions.{before}
use Rattle.scasp_search_rules.specs.Successors.Steps.{goes, gives}
use Rattle.scasp_search_rules.specs.Successors.Variables.{universals_of, is_empty, with_new, next_variable}
use Rattle.scasp_law_outcomes.proofs.Assuming.{assume-keep, assume_all-keep}
use Rattle.scasp_law_outcomes.proofs.Equating.{idle-equations}
use Rattle.scasp_law_outcomes.proofs.Standing.{Idle, Keeps, idle-append, idle-shows, keeps-before, keeps-line, each-followed, each-made}

-- ---- tests

test-keep : (all : List ℕ) (sat : List Con → Bool) (s : State) (c : Con) → Keeps all s → Each (Keeps all) (test_item sat s c).states
test-keep all sat s (con.Eq t u) h = (h, tt)
test-keep all sat s (con.Neq t u) h = by (is_empty (universals_of s (con.Neq t u)))
  where
    by : (b : Bool) → Each (Keeps all) (if b then assume sat s (con.Neq t u) else goes (before (task.Differ (record { left = t; right = u } ∷ []) aims.Test ∷ []) s)).states
    by true = assume-keep all sat s (con.Neq t u) h
    by false = (h, tt)
test-keep all sat s (con.Row r) h = by (is_empty (universals_of s (con.Row r)))
  where
    by : (b : Bool) → Each (Keeps all) (if b then assume_all sat (number_tests r ++ con.Row r ∷ []) s else assume sat s (con.Row r)).states
    by true = assume_all-keep all sat (number_tests r ++ con.Row r ∷ []) s h
    by false = assume-keep all sat s (con.Row r) h
test-keep all sat s c h = assume-keep all sat s c h

pub show_test-keep : (all : List ℕ) (sat : List Con → Bool) (s : State) (c : Con) → Keeps all s → Each (Keeps all) (show_test sat s c).states
show_test-keep all sat s c h = test-keep all sat (with_line s (line.Test c)) c (keeps-line all s (line.Test c) refl h)

-- ---- literals that repeat others

marked-keeps : (all : List ℕ) (opened : List Literal) (s : State) → Keeps all s → Keeps all (marked opened s)
marked-keeps all [] s h = h
marked-keeps all (a ∷ rest) s h = h

looped-keep : (all : List ℕ) (s : State) (l : Lit) (r : Repeated) → Keeps all s → Each (Keeps all) (looped s l r)
looped-keep all s l r h = by (not l.positive) r.is_behind_negation
  where
    t : State
    t = with_line s (line.Loop l r.number)

    t-keeps : Keeps all t
    t-keeps = keeps-line all s (line.Loop l r.number) refl h

    by : (a b : Bool) → Each (Keeps all) (if a then t ∷ [] else (if b then marked (ancestors s) t ∷ [] else []))
    by true b = (t-keeps, tt)
    by false true = (marked-keeps all (ancestors s) t t-keeps, tt)
    by false false = tt

-- ---- literals that are gone into

idle-covers : (a : Atom) (rules : List ℕ) → Idle (map (task.Cover a) rules)
idle-covers a [] us = refl
idle-covers a (k ∷ ks) us = idle-covers a ks us

by_rule-keeps : (all : List ℕ) (p : Program) (s : State) (l : Lit) (k : ℕ) → Keeps all s → Keeps all (by_rule p s l k)
by_rule-keeps all p s l k h =
    let first : ℕ = next_variable s in
    let n : ℕ = vars_of_clause p k in
    let body : List FlatItem = body_of p k first in
    let es : List Pair = pairs l.atom.args (head_args p k first) in
    let t : State = with_line (with_new s Existential (length s.covers) n) (line.Pos l.atom k (new_parts first n) (length body)) in
    let known : Keeps all t = keeps-line all (with_new s Existential (length s.covers) n) (line.Pos l.atom k (new_parts first n) (length body)) refl h in
    let heads : List Task = equations l.atom.args (head_args p k first) in
    let shows : List Task = map task.Show body in
    keeps-before all (with_literal t l) (heads ++ shows ++ task.Leave ∷ [])
    (idle-append (heads ++ shows) (task.Leave ∷ []) (idle-append heads shows (idle-equations es) (idle-shows body)) (λ us. refl)) known

by_no_rule-keeps : (all : List ℕ) (p : Program) (s : State) (l : Lit) → Keeps all s → Keeps all (by_no_rule p s l)
by_no_rule-keeps all p s l h =
    let rules : List ℕ = rules_of p (pred_of l.atom) in
    let n : ℕ = length rules in
    let covers : List Task = map (task.Cover l.atom) rules in
    keeps-before all (with_literal (with_line s (line.Neg l.atom n)) l) (covers ++ task.Leave ∷ [])
    (idle-append covers (task.Leave ∷ []) (idle-covers l.atom rules) (λ us. refl)) (keeps-line all s (line.Neg l.atom n) refl h)

entered-keep : (all : List ℕ) (p : Program) (s : State) (l : Lit) → Keeps all s → Each (Keeps all) (entered p s l)
entered-keep all p s l h = by l.positive
  where
    by : (b : Bool) → Each (Keeps all) (if b then map (by_rule p s l) (rules_of p (pred_of l.atom)) else by_no_rule p s l ∷ [])
    by true = each-made (Keeps all) (by_rule p s l) (λ k. by_rule-keeps all p s l k h) (rules_of p (pred_of l.atom))
    by false = (by_no_rule-keeps all p s l h, tt)

unrepeated-keep : (all : List ℕ) (p : Program) (sat : List Con → Bool) (s : State) (l : Lit) (seen : List Literal) → Keeps all s → Each (Keeps all) (unrepeated p sat s l seen).states
unrepeated-keep all p sat s l [] h =
    let cs : List Con = map (differing l) (opposites s l) in
    each-followed (Keeps all) (λ t. gives (entered p t l)) (λ t. entered-keep all p t l) (assume_all sat cs s).states (assume_all-keep all sat cs s h)
unrepeated-keep all p sat s l (a ∷ rest) h = (keeps-line all s (line.Seen l a.number) refl h, tt)

judged-keep : (all : List ℕ) (p : Program) (sat : List Con → Bool) (s : State) (l : Lit) (o : Option Repeated) → Keeps all s → Each (Keeps all) (judged p sat s l o).states
judged-keep all p sat s l (Some r) h = looped-keep all s l r h
judged-keep all p sat s l None h = unrepeated-keep all p sat s l (filter (can_be_seen s l) s.literals) h

pub call-keep : (all : List ℕ) (p : Program) (sat : List Con → Bool) (s : State) (l : Lit) → Keeps all s → Each (Keeps all) (call p sat s l).states
call-keep all p sat s l h = judged-keep all p sat s l (nearest s l false (ancestors s)) h

-- ---- the end of a literal

moved-keeps : (all : List ℕ) (a : Literal) (around : List Literal) (s : State) → Keeps all s → Keeps all (moved a around s)
moved-keeps all a [] s h = h
moved-keeps all a (b ∷ bs) s h = by (a.loops && a.lit.positive && b.lit.positive)
  where
    by : (c : Bool) → Keeps all (if c then marked (b ∷ bs) s else s)
    by true = h
    by false = h

left-keeps : (all : List ℕ) (opened : List Literal) (s : State) → Keeps all s → Keeps all (left opened s)
left-keeps all [] s h = h
left-keeps all (a ∷ rest) s h = moved-keeps all a rest (record s { literals = at_number a.number finished s.literals }) h

pub leave-keeps : (all : List ℕ) (s : State) → Keeps all s → Keeps all (leave_literal s)
leave-keeps all s h = left-keeps all (ancestors s) s h
