-- Tests by whether they have universal variables.
use Rattle.std.specs.Prelude.{◌≡◌, Bool, true, false, not, if◌then◌else◌, Result, [], ◌∷◌, ◌++◌, refl}
use Rattle.std.proofs.Common.{sym, subst, ◌∙◌}
use Rattle.scasp_hint.specs.Satisfying.{sat}
use Rattle.scasp_num.specs.Linear.{Linear}
use Rattle.scasp_search_constraints.specs.declared.assuming.step.SearchErr.{SearchErr}
use Rattle.scasp_search_rules.specs.declared.states.state.State.{State}
use Rattle.scasp_search_rules.specs.declared.states.tasks.Aim.TheVariants as aims
use Rattle.scasp_search_rules.specs.declared.states.tasks.Task.TheVariants as task
use Rattle.scasp_search_rules.specs.Successors.Assumptions.{assume, assume_all}
use Rattle.scasp_search_rules.specs.Successors.Items.{differ_item, number_tests, row_item, test_item}
use Rattle.scasp_search_rules.specs.Successors.Regions.{before}
use Rattle.scasp_search_rules.specs.Successors.Steps.{Step, goes}
use Rattle.scasp_search_rules.specs.Successors.Variables.{is_empty, universals_of}
use Rattle.scasp_search_state.specs.Going.{Goes}
use Rattle.scasp_search_steps.specs.Tests.{is_assumed}
use Rattle.scasp_syntax.specs.declared.con.Con.{Con}
use Rattle.scasp_syntax.specs.declared.con.Con.TheVariants as con
use Rattle.scasp_syntax.specs.declared.term.Term.{Term}

-- ---- whether there are universal variables

is_false : (b g : Bool) → g ≡ not b → g ≡ true → b ≡ false
is_false true g e f = sym f ∙ e
is_false false g e f = refl

is_true : (b g : Bool) → g ≡ not b → g ≡ false → b ≡ true
is_true true g e f = refl
is_true false g e f = sym f ∙ e

general : (b g : Bool) (r : Result Bool SearchErr) (t : State) (plain some : Step) → g ≡ not b → g ≡ true → Goes r some t
    → Goes r (if b then plain else some) t
general b g r t plain some e f h = subst (λ (k : Bool). Goes r (if k then plain else some) t) (sym (is_false b g e f)) h

plain_only : (b g : Bool) (r : Result Bool SearchErr) (t : State) (plain some : Step) → g ≡ not b → g ≡ false → Goes r plain t
    → Goes r (if b then plain else some) t
plain_only b g r t plain some e f h = subst (λ (k : Bool). Goes r (if k then plain else some) t) (sym (is_true b g e f)) h

-- ---- disequations

pub differ_put : (s : State) (u v : Term) (d : Con) (g : Bool) → d ≡ con.Neq u v → g ≡ not (is_empty (universals_of s d)) → g ≡ true
    → (differ_item sat s u v).states ≡ before (task.Differ (record { left = u; right = v } ∷ []) aims.Test ∷ []) s ∷ []
differ_put s u v d g e o f =
    let h : g ≡ not (is_empty (universals_of s (con.Neq u v))) = subst (λ (k : Con). g ≡ not (is_empty (universals_of s k))) e o in
    let none : is_empty (universals_of s (con.Neq u v)) ≡ false = is_false (is_empty (universals_of s (con.Neq u v))) g h f in
    rw none refl

pub differ_assumed : (s t : State) (u v : Term) (d : Con) (g : Bool) (r : Result Bool SearchErr) → d ≡ con.Neq u v
    → g ≡ not (is_empty (universals_of s d)) → g ≡ false → Goes r (assume sat s d) t → Goes r (differ_item sat s u v) t
differ_assumed s t u v d g r e o f h =
    plain_only (is_empty (universals_of s (con.Neq u v))) g r t (assume sat s (con.Neq u v))
    (goes (before (task.Differ (record { left = u; right = v } ∷ []) aims.Test ∷ []) s))
    (subst (λ (k : Con). g ≡ not (is_empty (universals_of s k))) e o) f (subst (λ (k : Con). Goes r (assume sat s k) t) e h)

-- ---- rows

pub row_assumed : (s t : State) (q : Linear) (d : Con) (g : Bool) (r : Result Bool SearchErr) → d ≡ con.Row q
    → g ≡ not (is_empty (universals_of s d)) → g ≡ true → Goes r (assume sat s d) t → Goes r (row_item sat s q) t
row_assumed s t q d g r e o f h =
    general (is_empty (universals_of s (con.Row q))) g r t (assume_all sat (number_tests q ++ con.Row q ∷ []) s) (assume sat s (con.Row q))
    (subst (λ (k : Con). g ≡ not (is_empty (universals_of s k))) e o) f (subst (λ (k : Con). Goes r (assume sat s k) t) e h)

pub row_numbered : (s t : State) (q : Linear) (d : Con) (g : Bool) (r : Result Bool SearchErr) → d ≡ con.Row q
    → g ≡ not (is_empty (universals_of s d)) → g ≡ false → Goes r (assume_all sat (number_tests q ++ con.Row q ∷ []) s) t → Goes r (row_item sat s q) t
row_numbered s t q d g r e o f h =
    plain_only (is_empty (universals_of s (con.Row q))) g r t (assume_all sat (number_tests q ++ con.Row q ∷ []) s) (assume sat s (con.Row q))
    (subst (λ (k : Con). g ≡ not (is_empty (universals_of s k))) e o) f h

-- ---- the others

-- the step of a test that is assumed
assumed_step : (s : State) (d : Con) → is_assumed d ≡ true → assume sat s d ≡ test_item sat s d
assumed_step s (con.Eq t u) e = cc
assumed_step s (con.Neq t u) e = cc
assumed_step s (con.NotShape x f n) e = refl
assumed_step s (con.Num t) e = refl
assumed_step s (con.NotNum t) e = refl
assumed_step s (con.Row r) e = cc

pub item_assumed : (s t : State) (d : Con) (r : Result Bool SearchErr) → is_assumed d ≡ true → Goes r (assume sat s d) t → Goes r (test_item sat s d) t
item_assumed s t d r e h = subst (λ (x : Step). Goes r x t) (assumed_step s d e) h
