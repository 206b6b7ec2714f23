-- Where terms are to differ, what is told and owed stays the same.
use Rattle.std.specs.Prelude.{ℕ, Bool, true, false, if◌then◌else◌, List, [], ◌∷◌, ◌++◌, length}
use Rattle.std.proofs.Common.{refl}
use Rattle.scasp_list.specs.Each.{Each}
use Rattle.scasp_num.specs.Number.{Number}
use Rattle.scasp_search_rules.specs.declared.states.outcomes.Status.{Status}
use Rattle.scasp_search_rules.specs.declared.states.outcomes.Status.TheVariants.{Entailed, Impossible, Added, Parts}
use Rattle.scasp_search_rules.specs.declared.states.state.State.{State}
use Rattle.scasp_search_rules.specs.declared.states.tasks.Aim.{Aim}
use Rattle.scasp_search_rules.specs.declared.states.tasks.Aim.TheVariants as aims
use Rattle.scasp_search_rules.specs.declared.states.tasks.Pair.{Pair}
use Rattle.scasp_search_rules.specs.declared.states.tasks.Task.{Task}
use Rattle.scasp_search_rules.specs.declared.states.tasks.Task.TheVariants as task
use Rattle.scasp_syntax.specs.Tm.{Tm, Tms, var, num, app, items}
use Rattle.scasp_syntax.specs.View.{tm_of}
use Rattle.scasp_syntax.specs.declared.con.Con.{Con}
use Rattle.scasp_syntax.specs.declared.con.Con.TheVariants as con
use Rattle.scasp_syntax.specs.declared.term.Term.TheVariants.{Var}
use Rattle.scasp_unify.specs.Negations.{new_parts}
use Rattle.scasp_unify.specs.Parts.{occurs_among}
use Rattle.scasp_unify.specs.SimpleForm.{differ, term_with}
use Rattle.scasp_search_rules.specs.Successors.Assumptions.{status}
use Rattle.scasp_search_rules.specs.Successors.Differences.{when_apart, when_same, alternatives, at_part, part_of_variables, stands_first, differ_variables, differ_number, differ_value, differ_shape, differ_pair, same_value, same_shape, is_matched, take_up, differ_first, differ_pairs, differ_terms}
use Rattle.scasp_search_rules.specs.Successors.Equations.{becomes_shape, equated}
use Rattle.scasp_search_rules.specs.Successors.Pairs.{pairs, from_first}
use Rattle.scasp_search_rules.specs.Successors.Regions.{before}
use Rattle.scasp_search_rules.specs.Successors.Steps.{goes}
use Rattle.scasp_search_rules.specs.Successors.Variables.{meaning, next_variable}
use Rattle.scasp_law_outcomes.proofs.Equating.{equated-keep, becomes_shape-keep}
use Rattle.scasp_law_outcomes.proofs.Standing.{Idle, Keeps, keeps-before, each-mapped}

idle-apart : (aim : Aim) → Idle (when_apart aim)
idle-apart aims.Test us = refl
idle-apart (aims.Head k first) us = refl

apart-keeps : (all : List ℕ) (s : State) (aim : Aim) → Keeps all s → Keeps all (before (when_apart aim) s)
apart-keeps all s aim h = keeps-before all s (when_apart aim) (idle-apart aim) h

alternatives-keep : (all : List ℕ) (s : State) (one other : List Task) → Idle one → Idle other → Keeps all s → (a : Status) → Each (Keeps all) (alternatives s one other a)
alternatives-keep all s one other i j h Entailed = (keeps-before all s one i h, (keeps-before all s other j h, tt))
alternatives-keep all s one other i j h Impossible = (keeps-before all s other j h, tt)
alternatives-keep all s one other i j h Added = (keeps-before all s one i h, (keeps-before all s other j h, tt))
alternatives-keep all s one other i j h Parts = (keeps-before all s one i h, tt)

part-keeps : (all : List ℕ) (sat : List Con → Bool) (s : State) (c : Con) (aim : Aim) (other : List Task) → Idle other → Keeps all s → Each (Keeps all) (at_part sat s c aim other).states
part-keeps all sat s c aim other j h = alternatives-keep all s (task.Assume c ∷ when_apart aim) other (idle-apart aim) j h (status sat s c)

variables-keep : (all : List ℕ) (sat : List Con → Bool) (s : State) (x y : ℕ) (rest : List Pair) (aim : Aim) → Keeps all s → Each (Keeps all) (part_of_variables sat s x y rest aim).states
variables-keep all sat s x y rest aim h = part-keeps all sat s (differ (var x) (var y)) aim (task.Become x (Var y) rest aim ∷ []) (λ us. refl) h

differ_variables-keep : (all : List ℕ) (sat : List Con → Bool) (s : State) (x y : ℕ) (rest : List Pair) (aim : Aim) → Keeps all s → Each (Keeps all) (differ_variables sat s x y rest aim).states
differ_variables-keep all sat s x y rest aim h = by (stands_first s x y)
  where
    by : (b : Bool) → Each (Keeps all) (if b then part_of_variables sat s x y rest aim else part_of_variables sat s y x rest aim).states
    by true = variables-keep all sat s x y rest aim h
    by false = variables-keep all sat s y x rest aim h

differ_number-keep : (all : List ℕ) (sat : List Con → Bool) (s : State) (x : ℕ) (q : Number) (rest : List Pair) (aim : Aim) → Keeps all s → Each (Keeps all) (differ_number sat s x q rest aim).states
differ_number-keep all sat s x q rest aim h =
    part-keeps all sat s (con.NotNum (Var x)) aim (task.Assume (con.Num (Var x)) ∷ task.Avoid x q rest aim ∷ []) (λ us. refl) h

pub differ_value-keep : (all : List ℕ) (sat : List Con → Bool) (s : State) (x : ℕ) (q : Number) (rest : List Pair) (aim : Aim) → Keeps all s → Each (Keeps all) (differ_value sat s x q rest aim).states
differ_value-keep all sat s x q rest aim h =
    part-keeps all sat s (differ (var x) (num q)) aim (task.Become x (term_with (num q)) rest aim ∷ []) (λ us. refl) h

differ_shape-keep : (all : List ℕ) (sat : List Con → Bool) (s : State) (x f : ℕ) (ts : Tms) (rest : List Pair) (aim : Aim) → Keeps all s → Each (Keeps all) (differ_shape sat s x f ts rest aim).states
differ_shape-keep all sat s x f ts rest aim h = by (occurs_among x ts)
  where
    c : Con
    c = con.NotShape x f (length (items ts))

    by : (b : Bool) → Each (Keeps all) (if b then goes (before (when_apart aim) s) else at_part sat s c aim (task.Shape x f ts rest aim ∷ [])).states
    by true = (apart-keeps all s aim h, tt)
    by false = part-keeps all sat s c aim (task.Shape x f ts rest aim ∷ []) (λ us. refl) h

differ_pair-keep : (all : List ℕ) (sat : List Con → Bool) (s : State) (t u : Tm) (rest : List Pair) (aim : Aim) → Keeps all s → Each (Keeps all) (differ_pair sat s t u rest aim).states
differ_pair-keep all sat s (var x) (var y) rest aim h = differ_variables-keep all sat s x y rest aim h
differ_pair-keep all sat s (var x) (num q) rest aim h = differ_number-keep all sat s x q rest aim h
differ_pair-keep all sat s (var x) (app f ts) rest aim h = differ_shape-keep all sat s x f ts rest aim h
differ_pair-keep all sat s (num q) (var y) rest aim h = differ_number-keep all sat s y q rest aim h
differ_pair-keep all sat s (app f ts) (var y) rest aim h = differ_shape-keep all sat s y f ts rest aim h
differ_pair-keep all sat s t u rest aim h = (apart-keeps all s aim h, tt)

-- a head variable that stands for a part is bound, and nothing else
take_up-keeps : (all : List ℕ) (s : State) (t u : Tm) (rest : List Pair) (aim : Aim) → Keeps all s → Keeps all (before (task.Differ rest aim ∷ []) (take_up s t u))
take_up-keeps all s t (var x) rest aim h = h
take_up-keeps all s t u rest aim h = h

differ_first-keep : (all : List ℕ) (sat : List Con → Bool) (s : State) (t u : Tm) (rest : List Pair) (aim : Aim) → Keeps all s → Each (Keeps all) (differ_first sat s t u rest aim).states
differ_first-keep all sat s t u rest aim h = by (is_matched s u)
  where
    by : (b : Bool) → Each (Keeps all) (if b then goes (before (task.Differ rest aim ∷ []) (take_up s t u)) else differ_pair sat s t u rest aim).states
    by true = (take_up-keeps all s t u rest aim h, tt)
    by false = differ_pair-keep all sat s t u rest aim h

same-keep : (all : List ℕ) (s : State) (aim : Aim) → Keeps all s → Each (Keeps all) (when_same aim s)
same-keep all s aims.Test h = tt
same-keep all s (aims.Head k first) h = (h, tt)

pairs-keep : (all : List ℕ) (sat : List Con → Bool) (s : State) (ps : List Pair) (aim : Aim) → Keeps all s → Each (Keeps all) (differ_pairs sat s ps aim).states
pairs-keep all sat s [] aim h = same-keep all s aim h
pairs-keep all sat s (p ∷ rest) aim h = differ_first-keep all sat s (tm_of p.left) (tm_of p.right) rest aim h

pub differ-keep : (all : List ℕ) (sat : List Con → Bool) (s : State) (ps : List Pair) (aim : Aim) → Keeps all s → Each (Keeps all) (differ_terms sat s ps aim).states
differ-keep all sat s ps aim h = pairs-keep all sat s (from_first (meaning s) ps) aim h

-- the other pairs are looked at behind a step that keeps it
pub same_value-keep : (all : List ℕ) (sat : List Con → Bool) (s : State) (x : ℕ) (t : Tm) (rest : List Pair) (aim : Aim) → Keeps all s → Each (Keeps all) (same_value sat s x t rest aim).states
same_value-keep all sat s x t rest aim h =
    each-mapped (Keeps all) (before (task.Differ rest aim ∷ [])) (λ r k. k) (equated sat s (var x) t).states (equated-keep all sat s (var x) t h)

pub same_shape-keep : (all : List ℕ) (sat : List Con → Bool) (s : State) (x f : ℕ) (ts : Tms) (rest : List Pair) (aim : Aim) → Keeps all s → Each (Keeps all) (same_shape sat s x f ts rest aim).states
same_shape-keep all sat s x f ts rest aim h =
    let n : ℕ = length (items ts) in
    let ps : List Pair = pairs (new_parts (next_variable s) n) ts ++ rest in
    each-mapped (Keeps all) (before (task.Differ ps aim ∷ [])) (λ r k. k) (becomes_shape sat s x f n).states (becomes_shape-keep all sat s x f n h)
