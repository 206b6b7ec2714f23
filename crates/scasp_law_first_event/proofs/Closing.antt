-- A step that costs nothing leaves as many cases to be closed as there were, but for the close of one.
use Rattle.std.specs.Prelude.{◌≡◌, ◌≢◌, ℕ, suc, Bool, true, false, ◌&&◌, not, nat_le, min, max, if◌then◌else◌, List, [], ◌∷◌, ◌++◌, length, map}
use Rattle.std.specs.List.{flat_map, fold}
use Rattle.std.proofs.Common.{refl, ◌∙◌}
use Rattle.scasp_num.specs.Number.{Number}
use Rattle.scasp_search_rules.specs.declared.states.outcomes.Status.{Status}
use Rattle.scasp_search_rules.specs.declared.states.outcomes.Status.TheVariants.{Entailed, Impossible, Added, Parts}
use Rattle.scasp_search_rules.specs.declared.states.state.Kind.TheVariants.{Existential, Universal}
use Rattle.scasp_search_rules.specs.declared.states.state.Literal.{Literal}
use Rattle.scasp_search_rules.specs.declared.states.state.State.{State}
use Rattle.scasp_search_rules.specs.declared.states.tasks.Aim.{Aim}
use Rattle.scasp_search_rules.specs.declared.states.tasks.Aim.TheVariants as aims
use Rattle.scasp_search_rules.specs.declared.states.tasks.Pair.{Pair}
use Rattle.scasp_search_rules.specs.declared.states.tasks.Task.{Task}
use Rattle.scasp_search_rules.specs.declared.states.tasks.Task.TheVariants as task
use Rattle.scasp_search_rules.specs.declared.states.lines.Line.TheVariants as line
use Rattle.scasp_syntax.specs.Tm.{Tm, Tms, var, num, app, items}
use Rattle.scasp_syntax.specs.Values.{under}
use Rattle.scasp_syntax.specs.View.{tm_of}
use Rattle.scasp_syntax.specs.declared.clause.FlatItem.TheVariants as flat
use Rattle.scasp_syntax.specs.declared.con.Con.{Con}
use Rattle.scasp_syntax.specs.declared.con.Con.TheVariants as con
use Rattle.scasp_syntax.specs.declared.program.Program.{Program}
use Rattle.scasp_syntax.specs.declared.term.Term.TheVariants.{Var}
use Rattle.scasp_unify.specs.Negations.{new_parts}
use Rattle.scasp_unify.specs.Parts.{occurs_among}
use Rattle.scasp_unify.specs.SimpleForm.{differ, term_with}
use Rattle.scasp_search_rules.specs.Successors.Assumptions.{performed, as_read, status, assume, assume_all}
use Rattle.scasp_search_rules.specs.Successors.Calls.{marked, moved, left, at_number, finished, ancestors}
use Rattle.scasp_search_rules.specs.Successors.Differences.{when_apart, alternatives, at_part, part_of_variables, stands_first, differ_variables, differ_number, differ_shape, differ_pair, is_matched, take_up, differ_pairs}
use Rattle.scasp_search_rules.specs.Successors.Equations.{replaced_if, bound_if, mixed, two_variables, is_inside, becomes_number, variable_number, becomes_shape, variable_app, equated, equate_pairs, equations_of}
use Rattle.scasp_search_rules.specs.Successors.Falls.{EachState}
use Rattle.scasp_search_rules.specs.Successors.Items.{test_item, number_tests, with_line}
use Rattle.scasp_search_rules.specs.Successors.Pairs.{pairs, pairs_of, from_first}
use Rattle.scasp_search_rules.specs.Successors.Regions.{before, asked_with, is_constrained, with_given, context}
use Rattle.scasp_search_rules.specs.Successors.Search.{done, costs}
use Rattle.scasp_search_rules.specs.Successors.Splits.{split_at, split_by, owner, numbered_to, is_number_by}
use Rattle.scasp_search_rules.specs.Successors.Steps.{Step, fails, goes, each, only_if}
use Rattle.scasp_search_rules.specs.Successors.Variables.{universals_of, is_empty, bind, with_new, depth_of, meaning, next_variable, is_universal}

-- how many cases the tasks close
abbrev pub closes : List Task → ℕ
closes [] = 0
closes (task.Close ∷ ts) = suc (closes ts)
closes (task.Show i ∷ ts) = closes ts
closes (task.Equate t u ∷ ts) = closes ts
closes (task.Assume c ∷ ts) = closes ts
closes (task.Differ ps aim ∷ ts) = closes ts
closes (task.Become x t ps aim ∷ ts) = closes ts
closes (task.Avoid x q ps aim ∷ ts) = closes ts
closes (task.Shape x f us ps aim ∷ ts) = closes ts
closes (task.Cover a k ∷ ts) = closes ts
closes (task.Check k checks_head ∷ ts) = closes ts
closes (task.Begin k first checks_head ∷ ts) = closes ts
closes (task.Void ∷ ts) = closes ts
closes (task.Leave ∷ ts) = closes ts

-- the second state closes as many
abbrev Same : State → State → Type 0
Same s t = closes t.work ≡ closes s.work

-- ---- each of the states of a step

each_only_if : (P : State → Type 0) (b : Bool) (s : State) → P s → EachState P (only_if b s)
each_only_if P true s h = (h, tt)
each_only_if P false s h = tt

each_append : (P : State → Type 0) (xs ys : List State) → EachState P xs → EachState P ys → EachState P (xs ++ ys)
each_append P [] ys h k = k
each_append P (x ∷ xs) ys h k = (h.0, each_append P xs ys h.1 k)

each_followed : (P Q : State → Type 0) (f : State → Step) (ss : List State) → EachState P ss → ((s : State) → P s → EachState Q (f s).states) → EachState Q (flat_map (λ s. (f s).states) ss)
each_followed P Q f [] h k = tt
each_followed P Q f (s ∷ ss) h k = each_append Q (f s).states (flat_map (λ s. (f s).states) ss) (k s h.0) (each_followed P Q f ss h.1 k)

each_map : (P Q : State → Type 0) (f : State → State) (ss : List State) → EachState P ss → ((s : State) → P s → Q (f s)) → EachState Q (map f ss)
each_map P Q f [] h k = tt
each_map P Q f (s ∷ ss) h k = (k s h.0, each_map P Q f ss h.1 k)

each_weaker : (P Q : State → Type 0) (ss : List State) → ((s : State) → P s → Q s) → EachState P ss → EachState Q ss
each_weaker P Q [] k h = tt
each_weaker P Q (s ∷ ss) k h = (k s h.0, each_weaker P Q ss k h.1)

-- ---- assuming

numbered-same : (d : ℕ) (s : State) (x : ℕ) → Same s (numbered_to d s x)
numbered-same d s x = by (is_number_by s d x) (is_universal s x)
  where
    by : (known owned : Bool) → Same s (if known then s else (if owned then split_at s (depth_of s x) (con.Num (Var x)) else with_given s (con.Num (Var x))))
    by true owned = refl
    by false true = refl
    by false false = refl

all-numbered-same : (d : ℕ) (s : State) (xs : List ℕ) → Same s (fold (numbered_to d) s xs)
all-numbered-same d s [] = refl
all-numbered-same d s (x ∷ xs) = all-numbered-same d (numbered_to d s x) xs ∙ numbered-same d s x

split-same : (s : State) (d : ℕ) (c : Con) → Same s (split_by s d c)
split-same s d (con.Row r) = all-numbered-same d s (map (λ k. k.x) r.coeffs)
split-same s d (con.Eq t u) = refl
split-same s d (con.Neq t u) = refl
split-same s d (con.NotShape x f n) = refl
split-same s d (con.Num t) = refl
split-same s d (con.NotNum t) = refl

performed-same : (s : State) (c : Con) (a : Status) → EachState (Same s) (performed s c a)
performed-same s c Entailed = (refl, tt)
performed-same s c Impossible = tt
performed-same s c Added = (refl, tt)
performed-same s c Parts = (split-same s (owner s c) c, tt)

assume-same : (sat : List Con → Bool) (s : State) (c : Con) → EachState (Same s) (assume sat s c).states
assume-same sat s c = performed-same s (as_read s c) (status sat s c)

all-assumed-same : (sat : List Con → Bool) (s r : State) (cs : List Con) → Same s r → EachState (Same s) (assume_all sat cs r).states
all-assumed-same sat s r [] h = (h, tt)
all-assumed-same sat s r (c ∷ cs) h =
    each_followed (Same r) (Same s) (assume_all sat cs) (assume sat r c).states (assume-same sat r c)
    (λ t k. all-assumed-same sat s t cs (k ∙ h))

-- ---- equations

bound-same : (sat : List Con → Bool) (s r : State) → Same s r → EachState (Same s) (bound_if sat r).states
bound-same sat s r h = each_only_if (Same s) (sat (asked_with r r.given)) r h

replaced-same : (sat : List Con → Bool) (s : State) (u : ℕ) (t : Tm) → EachState (Same s) (replaced_if sat s u t).states
replaced-same sat s u t =
    each_only_if (Same s) (sat (asked_with s (context s ++ con.Eq (Var u) (term_with t) ∷ []))) (split_at s (depth_of s u) (con.Eq (Var u) (term_with t))) refl

mixed-same : (sat : List Con → Bool) (s : State) (e u : ℕ) → EachState (Same s) (mixed sat s e u).states
mixed-same sat s e u = by (nat_le (depth_of s u) (depth_of s e) && not (is_constrained s e))
  where
    by : (b : Bool) → EachState (Same s) (if b then goes (bind s e (var u)) else replaced_if sat s u (var e)).states
    by true = (refl, tt)
    by false = replaced-same sat s u (var e)

two-same : (sat : List Con → Bool) (s : State) (x y : ℕ) (a b : Bool) → EachState (Same s) (two_variables sat s x y a b).states
two-same sat s x y false false = bound-same sat s (bind s (max x y) (var (min x y))) refl
two-same sat s x y false true = mixed-same sat s x y
two-same sat s x y true false = mixed-same sat s y x
two-same sat s x y true true = by (is_inside s x y)
  where
    by : (b : Bool) → EachState (Same s) (if b then replaced_if sat s x (var y) else replaced_if sat s y (var x)).states
    by true = replaced-same sat s x (var y)
    by false = replaced-same sat s y (var x)

number-same : (sat : List Con → Bool) (x : ℕ) (q : Number) (s : State) → EachState (Same s) (becomes_number sat x q s).states
number-same sat x q s = by (is_universal s x)
  where
    by : (b : Bool) → EachState (Same s) (if b then replaced_if sat s x (num q) else bound_if sat (bind s x (num q))).states
    by true = replaced-same sat s x (num q)
    by false = bound-same sat s (bind s x (num q)) refl

variable-number-same : (sat : List Con → Bool) (s : State) (x : ℕ) (q : Number) → EachState (Same s) (variable_number sat s x q).states
variable-number-same sat s x q =
    each_followed (Same s) (Same s) (becomes_number sat x q) (assume sat s (con.Num (Var x))).states (assume-same sat s (con.Num (Var x)))
    (λ r h. each_weaker (Same r) (Same s) (becomes_number sat x q r).states (λ t k. k ∙ h) (number-same sat x q r))

shape-same : (sat : List Con → Bool) (s : State) (x f n : ℕ) → EachState (Same s) (becomes_shape sat s x f n).states
shape-same sat s x f n = by (is_universal s x)
  where
    t : Tm
    t = app f (new_parts (next_variable s) n)

    by : (b : Bool) → EachState (Same s) (if b then replaced_if sat (with_new s Universal (depth_of s x) n) x t else bound_if sat (bind (with_new s Existential (depth_of s x) n) x t)).states
    by true = replaced-same sat (with_new s Universal (depth_of s x) n) x t
    by false = bound-same sat s (bind (with_new s Existential (depth_of s x) n) x t) refl

equations-close : (ps : List Pair) (ts : List Task) → closes (equations_of ps ++ ts) ≡ closes ts
equations-close [] ts = refl
equations-close (p ∷ ps) ts = equations-close ps ts

variable-app-same : (sat : List Con → Bool) (s : State) (x f : ℕ) (ts : Tms) → EachState (Same s) (variable_app sat s x f ts).states
variable-app-same sat s x f ts = by (occurs_among x ts)
  where
    n : ℕ
    n = length (items ts)

    ps : List Pair
    ps = pairs (new_parts (next_variable s) n) ts

    by : (b : Bool) → EachState (Same s) (if b then fails else each (before (equations_of ps)) (becomes_shape sat s x f n)).states
    by true = tt
    by false = each_map (Same s) (Same s) (before (equations_of ps)) (becomes_shape sat s x f n).states (shape-same sat s x f n) (λ r h. equations-close ps r.work ∙ h)

equated-same : (sat : List Con → Bool) (s : State) (t u : Tm) → EachState (Same s) (equated sat s t u).states
equated-same sat s (var x) (var y) = two-same sat s x y (is_universal s x) (is_universal s y)
equated-same sat s (var x) (num q) = variable-number-same sat s x q
equated-same sat s (var x) (app f ts) = variable-app-same sat s x f ts
equated-same sat s (num q) (var y) = variable-number-same sat s y q
equated-same sat s (num q) (num r) = tt
equated-same sat s (num q) (app f ts) = tt
equated-same sat s (app f ts) (var y) = variable-app-same sat s y f ts
equated-same sat s (app f ts) (num r) = tt
equated-same sat s (app f ts) (app g us) = tt

equate-same : (sat : List Con → Bool) (s : State) (ps : List Pair) → EachState (Same s) (equate_pairs sat s ps).states
equate-same sat s [] = (refl, tt)
equate-same sat s (p ∷ ps) =
    let r : State = before (equations_of ps) s in
    each_weaker (Same r) (Same s) (equated sat r (tm_of p.left) (tm_of p.right)).states (λ t k. k ∙ equations-close ps s.work)
    (equated-same sat r (tm_of p.left) (tm_of p.right))

-- ---- differing

apart-close : (aim : Aim) (ts : List Task) → closes (when_apart aim ++ ts) ≡ closes ts
apart-close aims.Test ts = refl
apart-close (aims.Head k first) ts = refl

alternatives-same : (s : State) (one other : List Task) → Same s (before one s) → Same s (before other s) → (a : Status) → EachState (Same s) (alternatives s one other a)
alternatives-same s one other h k Entailed = (h, (k, tt))
alternatives-same s one other h k Impossible = (k, tt)
alternatives-same s one other h k Added = (h, (k, tt))
alternatives-same s one other h k Parts = (h, tt)

part-same : (sat : List Con → Bool) (s : State) (c : Con) (aim : Aim) (other : List Task) → Same s (before other s) → EachState (Same s) (at_part sat s c aim other).states
part-same sat s c aim other h = alternatives-same s (task.Assume c ∷ when_apart aim) other (apart-close aim s.work) h (status sat s c)

variables-same : (sat : List Con → Bool) (s : State) (x y : ℕ) (rest : List Pair) (aim : Aim) → EachState (Same s) (differ_variables sat s x y rest aim).states
variables-same sat s x y rest aim = by (stands_first s x y)
  where
    by : (b : Bool) → EachState (Same s) (if b then part_of_variables sat s x y rest aim else part_of_variables sat s y x rest aim).states
    by true = part-same sat s (differ (var x) (var y)) aim (task.Become x (Var y) rest aim ∷ []) refl
    by false = part-same sat s (differ (var y) (var x)) aim (task.Become y (Var x) rest aim ∷ []) refl

differ-shape-same : (sat : List Con → Bool) (s : State) (x f : ℕ) (ts : Tms) (rest : List Pair) (aim : Aim) → EachState (Same s) (differ_shape sat s x f ts rest aim).states
differ-shape-same sat s x f ts rest aim = by (occurs_among x ts)
  where
    c : Con
    c = con.NotShape x f (length (items ts))

    by : (b : Bool) → EachState (Same s) (if b then goes (before (when_apart aim) s) else at_part sat s c aim (task.Shape x f ts rest aim ∷ [])).states
    by true = (apart-close aim s.work, tt)
    by false = part-same sat s c aim (task.Shape x f ts rest aim ∷ []) refl

differ-number-same : (sat : List Con → Bool) (s : State) (x : ℕ) (q : Number) (rest : List Pair) (aim : Aim) → EachState (Same s) (differ_number sat s x q rest aim).states
differ-number-same sat s x q rest aim = part-same sat s (con.NotNum (Var x)) aim (task.Assume (con.Num (Var x)) ∷ task.Avoid x q rest aim ∷ []) refl

differ-pair-same : (sat : List Con → Bool) (s : State) (t u : Tm) (rest : List Pair) (aim : Aim) → EachState (Same s) (differ_pair sat s t u rest aim).states
differ-pair-same sat s (var x) (var y) rest aim = variables-same sat s x y rest aim
differ-pair-same sat s (var x) (num q) rest aim = differ-number-same sat s x q rest aim
differ-pair-same sat s (var x) (app f ts) rest aim = differ-shape-same sat s x f ts rest aim
differ-pair-same sat s (num q) (var y) rest aim = differ-number-same sat s y q rest aim
differ-pair-same sat s (num q) (num r) rest aim = (apart-close aim s.work, tt)
differ-pair-same sat s (num q) (app f ts) rest aim = (apart-close aim s.work, tt)
differ-pair-same sat s (app f ts) (var y) rest aim = differ-shape-same sat s y f ts rest aim
differ-pair-same sat s (app f ts) (num r) rest aim = (apart-close aim s.work, tt)
differ-pair-same sat s (app f ts) (app g us) rest aim = (apart-close aim s.work, tt)

take-up-same : (s : State) (t u : Tm) (ts : List Task) → closes (ts ++ s.work) ≡ closes s.work → Same s (before ts (take_up s t u))
take-up-same s t (var x) ts h = h
take-up-same s t (num q) ts h = h
take-up-same s t (app f us) ts h = h

differ-same : (sat : List Con → Bool) (s : State) (ps : List Pair) (aim : Aim) → EachState (Same s) (differ_pairs sat s ps aim).states
differ-same sat s [] aims.Test = tt
differ-same sat s [] (aims.Head k first) = (refl, tt)
differ-same sat s (p ∷ rest) aim = by (is_matched s (tm_of p.right))
  where
    by : (b : Bool) → EachState (Same s) (if b then goes (before (task.Differ rest aim ∷ []) (take_up s (tm_of p.left) (tm_of p.right))) else differ_pair sat s (tm_of p.left) (tm_of p.right) rest aim).states
    by true = (take-up-same s (tm_of p.left) (tm_of p.right) (task.Differ rest aim ∷ []) refl, tt)
    by false = differ-pair-same sat s (tm_of p.left) (tm_of p.right) rest aim

-- ---- items and literals

test-same : (sat : List Con → Bool) (s : State) (c : Con) → EachState (Same s) (test_item sat s c).states
test-same sat s (con.Eq t u) = (refl, tt)
test-same sat s (con.Neq t u) = by (is_empty (universals_of s (con.Neq t u)))
  where
    by : (b : Bool) → EachState (Same s) (if b then assume sat s (con.Neq t u) else goes (before (task.Differ (record { left = t; right = u } ∷ []) aims.Test ∷ []) s)).states
    by true = assume-same sat s (con.Neq t u)
    by false = (refl, tt)
test-same sat s (con.NotShape x f n) = assume-same sat s (con.NotShape x f n)
test-same sat s (con.Num t) = assume-same sat s (con.Num t)
test-same sat s (con.NotNum t) = assume-same sat s (con.NotNum t)
test-same sat s (con.Row r) = by (is_empty (universals_of s (con.Row r)))
  where
    by : (b : Bool) → EachState (Same s) (if b then assume_all sat (number_tests r ++ con.Row r ∷ []) s else assume sat s (con.Row r)).states
    by true = all-assumed-same sat s s (number_tests r ++ con.Row r ∷ []) refl
    by false = assume-same sat s (con.Row r)

marked-same : (as_open : List Literal) (s : State) → Same s (marked as_open s)
marked-same [] s = refl
marked-same (a ∷ rest) s = refl

moved-same : (a : Literal) (rest : List Literal) (s : State) → Same s (moved a rest s)
moved-same a [] s = refl
moved-same a (b ∷ bs) s = by (a.loops && a.lit.positive && b.lit.positive)
  where
    by : (c : Bool) → Same s (if c then marked (b ∷ bs) s else s)
    by true = marked-same (b ∷ bs) s
    by false = refl

left-same : (open_ones : List Literal) (s : State) → Same s (left open_ones s)
left-same [] s = refl
left-same (a ∷ rest) s = moved-same a rest (record s { literals = at_number a.number finished s.literals })

-- ---- steps

pub free-closes : (p : Program) (sat : List Con → Bool) (s : State) (t : Task) → costs s t ≡ false → t ≢ task.Close
    → EachState (λ r. closes r.work ≡ closes s.work) (done p sat s t).states
free-closes p sat s (task.Show (flat.Call l)) e c = absurd (cc e)
free-closes p sat s (task.Show (flat.Test k)) e c = test-same sat (with_line s (line.Test k)) k
free-closes p sat s (task.Equate t u) e c = equate-same sat s (pairs_of (under (meaning s) (tm_of t)) (under (meaning s) (tm_of u)))
free-closes p sat s (task.Assume k) e c = assume-same sat s k
free-closes p sat s (task.Differ ps aim) e c = differ-same sat s (from_first (meaning s) ps) aim
free-closes p sat s (task.Become x t ps aim) e c =
    each_map (Same s) (Same s) (before (task.Differ ps aim ∷ [])) (equated sat s (var x) (tm_of t)).states (equated-same sat s (var x) (tm_of t)) (λ r h. h)
free-closes p sat s (task.Avoid x q ps aim) e c = part-same sat s (differ (var x) (num q)) aim (task.Become x (term_with (num q)) ps aim ∷ []) refl
free-closes p sat s (task.Shape x f ts ps aim) e c =
    let n : ℕ = length (items ts) in
    let qs : List Pair = pairs (new_parts (next_variable s) n) ts ++ ps in
    each_map (Same s) (Same s) (before (task.Differ qs aim ∷ [])) (becomes_shape sat s x f n).states (shape-same sat s x f n) (λ r h. h)
free-closes p sat s (task.Cover a k) e c = (refl, tt)
free-closes p sat s (task.Check k head) e c = absurd (cc e)
free-closes p sat s (task.Begin k first head) e c = absurd (cc e)
free-closes p sat s task.Void e c = (refl, tt)
free-closes p sat s task.Leave e c = (left-same (ancestors s) s, tt)
free-closes p sat s task.Close e c = absurd (c refl)
