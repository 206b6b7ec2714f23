-- The measure of the steps that cost nothing falls: word by word, as the definitions go.
use Rattle.std.specs.Prelude.{◌≡◌, ◌≢◌, ℕ, ◌+◌, ◌<◌, ◌≤◌, ◌-◌, ◌^◌, slice_get, slice_set, List, [], ◌∷◌, ◌++◌, length, replicate, Bool, true, false, if◌then◌else◌, map, ◌&&◌, not, nat_le, min, max}
use Rattle.std.specs.List.{flat_map, fold}
use Rattle.std.proofs.Common.{arith, refl}
use Rattle.std.proofs.lemmas.List.{length-append, length-set}
use mathlib.Core.Path.{ap}
use Rattle.scasp_num.specs.Number.{Number}
use Rattle.scasp_search_rules.specs.declared.states.covers.Cover.{Cover}
use Rattle.scasp_search_rules.specs.declared.states.covers.Remainder.{Remainder}
use Rattle.scasp_search_rules.specs.declared.states.lines.Line.{Line}
use Rattle.scasp_search_rules.specs.declared.states.lines.Line.TheVariants as line
use Rattle.scasp_search_rules.specs.declared.states.outcomes.Parting.{Parting}
use Rattle.scasp_search_rules.specs.declared.states.outcomes.Status.{Status}
use Rattle.scasp_search_rules.specs.declared.states.outcomes.Status.TheVariants.{Entailed, Impossible, Added, Parts}
use Rattle.scasp_search_rules.specs.declared.states.state.Kind.{Kind}
use Rattle.scasp_search_rules.specs.declared.states.state.Kind.TheVariants.{Existential, Universal, Matched}
use Rattle.scasp_search_rules.specs.declared.states.state.Literal.{Literal}
use Rattle.scasp_search_rules.specs.declared.states.state.Made.{Made}
use Rattle.scasp_search_rules.specs.declared.states.state.State.{State}
use Rattle.scasp_search_rules.specs.declared.states.tasks.Aim.{Aim}
use Rattle.scasp_search_rules.specs.declared.states.tasks.Aim.TheVariants as aims
use Rattle.scasp_search_rules.specs.declared.states.tasks.Pair.{Pair}
use Rattle.scasp_search_rules.specs.declared.states.tasks.Task.{Task}
use Rattle.scasp_search_rules.specs.declared.states.tasks.Task.TheVariants as task
use Rattle.scasp_syntax.specs.Tm.{Tm, Tms, var, num, app, items}
use Rattle.scasp_syntax.specs.Values.{under}
use Rattle.scasp_syntax.specs.View.{tm_of}
use Rattle.scasp_syntax.specs.declared.atom.Atom.{Atom}
use Rattle.scasp_syntax.specs.declared.clause.FlatItem.TheVariants as flat
use Rattle.scasp_syntax.specs.declared.con.Con.{Con}
use Rattle.scasp_syntax.specs.declared.con.Con.TheVariants as con
use Rattle.scasp_syntax.specs.declared.program.Program.{Program}
use Rattle.scasp_syntax.specs.declared.term.Term.{Term}
use Rattle.scasp_syntax.specs.declared.term.Term.TheVariants.{Var}
use Rattle.scasp_unify.specs.Negations.{new_parts}
use Rattle.scasp_unify.specs.Parts.{occurs_among}
use Rattle.scasp_unify.specs.SimpleForm.{differ, term_with}
use Rattle.scasp_unify.specs.Unification.{term_vars}
use Rattle.scasp_unify.specs.declared.bindings.Binding.{Binding}
use Rattle.scasp_search_rules.specs.Successors.Assumptions.{performed, as_read, status, assume, assume_all}
use Rattle.scasp_search_rules.specs.Successors.Calls.{covered, vars_of_clause, marked, moved, left, at_number, finished, leave_literal, ancestors}
use Rattle.scasp_search_rules.specs.Successors.Cases.{close_case, after_case}
use Rattle.scasp_search_rules.specs.Successors.Differences.{when_apart, when_same, alternatives, at_part, part_of_variables, stands_first, differ_variables, differ_number, differ_value, differ_shape, same_shape, differ_pair, same_value, is_matched, take_up, differ_first, differ_pairs}
use Rattle.scasp_search_rules.specs.Successors.Equations.{replaced_if, bound_if, mixed, two_variables, is_inside, becomes_number, variable_number, becomes_shape, variable_app, equated, equate_pairs, equations, equations_of}
use Rattle.scasp_search_rules.specs.Successors.Falls.{weight_of, weight, size, EachState, Falls, makes_more, weighs_less, packed}
use Rattle.scasp_search_rules.specs.Successors.Items.{test_item, number_tests, with_line}
use Rattle.scasp_search_rules.specs.Successors.Pairs.{pairs, pairs_of, from_first}
use Rattle.scasp_search_rules.specs.Successors.Reading.{con_vars}
use Rattle.scasp_search_rules.specs.Successors.Regions.{before, context, asked_with, is_constrained, with_given}
use Rattle.scasp_search_rules.specs.Successors.Search.{done, costs, waits, is_waiting}
use Rattle.scasp_search_rules.specs.Successors.Splits.{parted, split_at, split_by, owner, numbered_to, is_number_by, replacement, bound_by}
use Rattle.scasp_search_rules.specs.Successors.Steps.{Step, fails, goes, each, only_if}
use Rattle.scasp_search_rules.specs.Successors.Variables.{universals_of, is_empty, bind, binding, with_new, lowered, lower, depth_of, meaning, next_variable, is_universal}

-- where made no less, and weighing less
record Lighter (s : State) (n : ℕ) (t : State) : Type 0 where
  size_kept : size s ≤ size t
  lighter : weight t.work < n + weight s.work

with_new_more : (s : State) (kind : Kind) (d n : ℕ) → length s.made ≤ length (with_new s kind d n).made
with_new_more s kind d n = omega (arith, length-append {A = Made} s.made (replicate n (record { kind = kind; depth = d })))

covered_lighter : (p : Program) (s : State) (a : Atom) (k : ℕ) → Lighter s 6 (covered p s a k)
covered_lighter p s a k = record {
  size_kept = omega (arith, with_new_more s Matched 0 (vars_of_clause p k));
  lighter = omega arith;
}

-- lowering depths keeps the number of variables
lowered_length : (d : ℕ) (xs : List ℕ) (made : List Made) → length (lowered d xs made) ≡ length made
lowered_length d [] made = refl
lowered_length d (x ∷ xs) made =
    omega (arith, lowered_length d xs (slice_set made x (lower d (slice_get made x))), length-set {A = Made} made x (lower d (slice_get made x)))

bind_more : (s : State) (x : ℕ) (t : Tm) → size s < size (bind s x t)
bind_more s x t =
    omega (arith, lowered_length (depth_of s x) (term_vars t) s.made, length-append {A = Binding} s.bound (binding x t ∷ []))

-- made no less, with the same work
record Kept (s t : State) : Type 0 where
  size_kept : size s ≤ size t
  work : t.work ≡ s.work

split_at_kept : (s : State) (d : ℕ) (c : Con) → Kept s (split_at s d c)
split_at_kept s d c =
    let p : Parting = parted (next_variable s) c in
    let t : State = with_new s Universal d (length p.parts_there) in
    record {
      size_kept = omega (arith, lowered_length (d - 1) (con_vars (meaning s) c) t.made, with_new_more s Universal d (length p.parts_there), length-append {A = Binding} s.bound (bound_by (replacement c)));
      work = refl;
    }

-- the tests that the variables of a row are numbers
numbered_kept : (d : ℕ) (s : State) (x : ℕ) → Kept s (numbered_to d s x)
numbered_kept d s x = by (is_number_by s d x) (is_universal s x)
  where
    by : (known owned : Bool) → Kept s (if known then s else (if owned then split_at s (depth_of s x) (con.Num (Var x)) else with_given s (con.Num (Var x))))
    by true owned = record { size_kept = omega arith; work = refl }
    by false true = split_at_kept s (depth_of s x) (con.Num (Var x))
    by false false = record { size_kept = omega arith; work = refl }

all_numbered_kept : (d : ℕ) (s : State) (xs : List ℕ) → Kept s (fold (numbered_to d) s xs)
all_numbered_kept d s [] = record { size_kept = omega arith; work = refl }
all_numbered_kept d s (x ∷ xs) =
    let one = numbered_kept d s x in
    let rest = all_numbered_kept d (numbered_to d s x) xs in
    record { size_kept = omega (arith, one.size_kept, rest.size_kept); work = cc (one.work, rest.work) }

split_by_kept : (s : State) (d : ℕ) (c : Con) → Kept s (split_by s d c)
split_by_kept s d (con.Row r) =
    let xs : List ℕ = map (λ k. k.x) r.coeffs in
    let one = all_numbered_kept d s xs in
    let two = split_at_kept (fold (numbered_to d) s xs) d (con.Row r) in
    record { size_kept = omega (arith, one.size_kept, two.size_kept); work = cc (one.work, two.work) }
split_by_kept s d (con.Eq t u) = split_at_kept s d (con.Eq t u)
split_by_kept s d (con.Neq t u) = split_at_kept s d (con.Neq t u)
split_by_kept s d (con.NotShape x f n) = split_at_kept s d (con.NotShape x f n)
split_by_kept s d (con.Num t) = split_at_kept s d (con.Num t)
split_by_kept s d (con.NotNum t) = split_at_kept s d (con.NotNum t)

performed_kept : (s : State) (c : Con) (a : Status) → EachState (Kept s) (performed s c a)
performed_kept s c Entailed = (record { size_kept = omega arith; work = refl }, tt)
performed_kept s c Impossible = tt
performed_kept s c Added = (record { size_kept = omega arith; work = refl }, tt)
performed_kept s c Parts = (split_by_kept s (owner s c) c, tt)

-- each state in which a constraint is assumed made no less, with the same work
assume_kept : (sat : List Con → Bool) (s : State) (c : Con) → EachState (Kept s) (assume sat s c).states
assume_kept sat s c = performed_kept s (as_read s c) (status sat s c)

-- ---- a step that costs nothing has made more, or has made no less and weighs less

each_only_if : (P : State → Type 0) (b : Bool) (s : State) → P s → EachState P (only_if b s)
each_only_if P true s h = (h, tt)
each_only_if P false s h = tt

each_append : (P : State → Type 0) (xs ys : List State) → EachState P xs → EachState P ys → EachState P (xs ++ ys)
each_append P [] ys h k = k
each_append P (x ∷ xs) ys h k = (h.0, each_append P xs ys h.1 k)

each_followed : (P Q : State → Type 0) (f : State → Step) (ss : List State) → EachState P ss → ((s : State) → P s → EachState Q (f s).states) → EachState Q (flat_map (λ s. (f s).states) ss)
each_followed P Q f [] h k = tt
each_followed P Q f (s ∷ ss) h k = each_append Q (f s).states (flat_map (λ s. (f s).states) ss) (k s h.0) (each_followed P Q f ss h.1 k)

each_map : (P Q : State → Type 0) (f : State → State) (ss : List State) → EachState P ss → ((s : State) → P s → Q (f s)) → EachState Q (map f ss)
each_map P Q f [] h k = tt
each_map P Q f (s ∷ ss) h k = (k s h.0, each_map P Q f ss h.1 k)

replaced_more : (s : State) (d u : ℕ) (t : Term) → size s < size (split_at s d (con.Eq (Var u) t))
replaced_more s d u t =
    let c : Con = con.Eq (Var u) t in
    let p : Parting = parted (next_variable s) c in
    let r : State = with_new s Universal d (length p.parts_there) in
    omega (arith, lowered_length (d - 1) (con_vars (meaning s) c) r.made, with_new_more s Universal d (length p.parts_there), length-append {A = Binding} s.bound (record { x = u; term = t } ∷ []))

replaced_if_more : (sat : List Con → Bool) (s : State) (u : ℕ) (t : Tm) → EachState (λ r. size s < size r) (replaced_if sat s u t).states
replaced_if_more sat s u t =
    each_only_if (λ r. size s < size r) (sat (asked_with s (context s ++ con.Eq (Var u) (term_with t) ∷ []))) (split_at s (depth_of s u) (con.Eq (Var u) (term_with t)))
    (replaced_more s (depth_of s u) u (term_with t))

bound_if_more : (sat : List Con → Bool) (s r : State) → size s < size r → EachState (λ t. size s < size t) (bound_if sat r).states
bound_if_more sat s r h = each_only_if (λ t. size s < size t) (sat (asked_with r r.given)) r h

mixed_more : (sat : List Con → Bool) (s : State) (e u : ℕ) → EachState (λ r. size s < size r) (mixed sat s e u).states
mixed_more sat s e u = by (nat_le (depth_of s u) (depth_of s e) && not (is_constrained s e))
  where
    by : (b : Bool) → EachState (λ r. size s < size r) (if b then goes (bind s e (var u)) else replaced_if sat s u (var e)).states
    by true = (bind_more s e (var u), tt)
    by false = replaced_if_more sat s u (var e)

two_variables_more : (sat : List Con → Bool) (s : State) (x y : ℕ) (a b : Bool) → EachState (λ r. size s < size r) (two_variables sat s x y a b).states
two_variables_more sat s x y false false = bound_if_more sat s (bind s (max x y) (var (min x y))) (bind_more s (max x y) (var (min x y)))
two_variables_more sat s x y false true = mixed_more sat s x y
two_variables_more sat s x y true false = mixed_more sat s y x
two_variables_more sat s x y true true = by (is_inside s x y)
  where
    by : (b : Bool) → EachState (λ r. size s < size r) (if b then replaced_if sat s x (var y) else replaced_if sat s y (var x)).states
    by true = replaced_if_more sat s x (var y)
    by false = replaced_if_more sat s y (var x)

becomes_number_more : (sat : List Con → Bool) (x : ℕ) (q : Number) (s r : State) → size s ≤ size r → EachState (λ t. size s < size t) (becomes_number sat x q r).states
becomes_number_more sat x q s r h = by (is_universal r x)
  where
    weaker : (t : State) → size r < size t → size s < size t
    weaker t k = omega (arith, h, k)

    all_weaker : (ts : List State) → EachState (λ t. size r < size t) ts → EachState (λ t. size s < size t) ts
    all_weaker [] k = tt
    all_weaker (t ∷ ts) k = (weaker t k.0, all_weaker ts k.1)

    by : (b : Bool) → EachState (λ t. size s < size t) (if b then replaced_if sat r x (num q) else bound_if sat (bind r x (num q))).states
    by true = all_weaker (replaced_if sat r x (num q)).states (replaced_if_more sat r x (num q))
    by false = bound_if_more sat s (bind r x (num q)) (weaker (bind r x (num q)) (bind_more r x (num q)))

variable_number_more : (sat : List Con → Bool) (s : State) (x : ℕ) (q : Number) → EachState (λ r. size s < size r) (variable_number sat s x q).states
variable_number_more sat s x q =
    each_followed (Kept s) (λ r. size s < size r) (becomes_number sat x q) (assume sat s (con.Num (Var x))).states
    (assume_kept sat s (con.Num (Var x))) (λ r h. becomes_number_more sat x q s r h.size_kept)

becomes_shape_more : (sat : List Con → Bool) (s : State) (x f n : ℕ) → EachState (λ r. size s < size r) (becomes_shape sat s x f n).states
becomes_shape_more sat s x f n = by (is_universal s x)
  where
    t : Tm
    t = app f (new_parts (next_variable s) n)

    wider : (kind : Kind) (r : State) → size (with_new s kind (depth_of s x) n) < size r → size s < size r
    wider kind r k = omega (arith, with_new_more s kind (depth_of s x) n, k)

    all_wider : (kind : Kind) (ts : List State) → EachState (λ r. size (with_new s kind (depth_of s x) n) < size r) ts → EachState (λ r. size s < size r) ts
    all_wider kind [] k = tt
    all_wider kind (r ∷ rs) k = (wider kind r k.0, all_wider kind rs k.1)

    by : (b : Bool) → EachState (λ r. size s < size r) (if b then replaced_if sat (with_new s Universal (depth_of s x) n) x t else bound_if sat (bind (with_new s Existential (depth_of s x) n) x t)).states
    by true = all_wider Universal (replaced_if sat (with_new s Universal (depth_of s x) n) x t).states (replaced_if_more sat (with_new s Universal (depth_of s x) n) x t)
    by false = bound_if_more sat s (bind (with_new s Existential (depth_of s x) n) x t) (wider Existential (bind (with_new s Existential (depth_of s x) n) x t) (bind_more (with_new s Existential (depth_of s x) n) x t))

variable_app_more : (sat : List Con → Bool) (s : State) (x f : ℕ) (ts : Tms) → EachState (λ r. size s < size r) (variable_app sat s x f ts).states
variable_app_more sat s x f ts = by (occurs_among x ts)
  where
    by : (b : Bool) → EachState (λ r. size s < size r) (if b then fails else each (before (equations (new_parts (next_variable s) (length (items ts))) ts)) (becomes_shape sat s x f (length (items ts)))).states
    by true = tt
    by false =
        each_map (λ r. size s < size r) (λ r. size s < size r) (before (equations (new_parts (next_variable s) (length (items ts))) ts))
        (becomes_shape sat s x f (length (items ts))).states (becomes_shape_more sat s x f (length (items ts))) (λ r h. h)

equated_more : (sat : List Con → Bool) (s : State) (t u : Tm) → EachState (λ r. size s < size r) (equated sat s t u).states
equated_more sat s (var x) (var y) = two_variables_more sat s x y (is_universal s x) (is_universal s y)
equated_more sat s (var x) (num q) = variable_number_more sat s x q
equated_more sat s (var x) (app f ts) = variable_app_more sat s x f ts
equated_more sat s (num q) (var y) = variable_number_more sat s y q
equated_more sat s (num q) (num r) = tt
equated_more sat s (num q) (app f ts) = tt
equated_more sat s (app f ts) (var y) = variable_app_more sat s y f ts
equated_more sat s (app f ts) (num r) = tt
equated_more sat s (app f ts) (app g us) = tt

all_made_more : (n : ℕ) (s : State) (ts : List State) → EachState (λ r. size s < size r) ts → EachState (Falls n s) ts
all_made_more n s [] h = tt
all_made_more n s (t ∷ ts) h = (makes_more h.0, all_made_more n s ts h.1)

equate_falls : (sat : List Con → Bool) (s : State) (ps : List Pair) → EachState (Falls 1 s) (equate_pairs sat s ps).states
equate_falls sat s [] = (weighs_less (omega arith) (omega arith), tt)
equate_falls sat s (p ∷ ps) = all_made_more 1 s (equated sat (before (equations_of ps) s) (tm_of p.left) (tm_of p.right)).states (equated_more sat (before (equations_of ps) s) (tm_of p.left) (tm_of p.right))

kept_falls : (n : ℕ) → 0 < n → (s t : State) → Kept s t → Falls n s t
kept_falls n p s t h = let e : weight t.work ≡ weight s.work = ap weight h.work in weighs_less h.size_kept (omega (arith, p, e))

all_kept_fall : (n : ℕ) → 0 < n → (s : State) (ts : List State) → EachState (Kept s) ts → EachState (Falls n s) ts
all_kept_fall n p s [] h = tt
all_kept_fall n p s (t ∷ ts) h = (kept_falls n p s t h.0, all_kept_fall n p s ts h.1)

assume_falls : (sat : List Con → Bool) (s : State) (c : Con) → EachState (Falls 1 s) (assume sat s c).states
assume_falls sat s c = all_kept_fall 1 (omega arith) s (assume sat s c).states (assume_kept sat s c)

-- ---- Differ

apart_weight : (aim : Aim) (ts : List Task) → weight (when_apart aim ++ ts) ≤ 1 + weight ts
apart_weight aims.Test ts = omega arith
apart_weight (aims.Head k first) ts = omega arith

apart_falls : (n : ℕ) → 1 < n → (s : State) (aim : Aim) → Falls n s (before (when_apart aim) s)
apart_falls n p s aim = weighs_less (omega arith) (omega (arith, p, apart_weight aim s.work))

one_falls : (n : ℕ) → 2 < n → (s : State) (c : Con) (aim : Aim) → Falls n s (before (task.Assume c ∷ when_apart aim) s)
one_falls n p s c aim = weighs_less (omega arith) (omega (arith, p, apart_weight aim s.work))

alternatives_fall : (n : ℕ) → 2 < n → (s : State) (c : Con) (aim : Aim) (other : List Task) → Falls n s (before other s) → (a : Status) → EachState (Falls n s) (alternatives s (task.Assume c ∷ when_apart aim) other a)
alternatives_fall n p s c aim other h Entailed = (one_falls n p s c aim, (h, tt))
alternatives_fall n p s c aim other h Impossible = (h, tt)
alternatives_fall n p s c aim other h Added = (one_falls n p s c aim, (h, tt))
alternatives_fall n p s c aim other h Parts = (one_falls n p s c aim, tt)

differ_value_falls : (sat : List Con → Bool) (s : State) (x : ℕ) (q : Number) (rest : List Pair) (aim : Aim) → EachState (Falls 3 s) (differ_value sat s x q rest aim).states
differ_value_falls sat s x q rest aim =
    alternatives_fall 3 (omega arith) s (differ (var x) (num q)) aim (task.Become x (term_with (num q)) rest aim ∷ []) (weighs_less (omega arith) (omega arith)) (status sat s (differ (var x) (num q)))

part_of_variables_falls : (sat : List Con → Bool) (s : State) (x y : ℕ) (rest : List Pair) (aim : Aim) → EachState (Falls 5 s) (part_of_variables sat s x y rest aim).states
part_of_variables_falls sat s x y rest aim =
    alternatives_fall 5 (omega arith) s (differ (var x) (var y)) aim (task.Become x (Var y) rest aim ∷ []) (weighs_less (omega arith) (omega arith)) (status sat s (differ (var x) (var y)))

differ_variables_falls : (sat : List Con → Bool) (s : State) (x y : ℕ) (rest : List Pair) (aim : Aim) → EachState (Falls 5 s) (differ_variables sat s x y rest aim).states
differ_variables_falls sat s x y rest aim = by (stands_first s x y)
  where
    by : (b : Bool) → EachState (Falls 5 s) (if b then part_of_variables sat s x y rest aim else part_of_variables sat s y x rest aim).states
    by true = part_of_variables_falls sat s x y rest aim
    by false = part_of_variables_falls sat s y x rest aim

differ_number_falls : (sat : List Con → Bool) (s : State) (x : ℕ) (q : Number) (rest : List Pair) (aim : Aim) → EachState (Falls 5 s) (differ_number sat s x q rest aim).states
differ_number_falls sat s x q rest aim =
    alternatives_fall 5 (omega arith) s (con.NotNum (Var x)) aim (task.Assume (con.Num (Var x)) ∷ task.Avoid x q rest aim ∷ []) (weighs_less (omega arith) (omega arith)) (status sat s (con.NotNum (Var x)))

differ_shape_falls : (sat : List Con → Bool) (s : State) (x f : ℕ) (ts : Tms) (rest : List Pair) (aim : Aim) → EachState (Falls 5 s) (differ_shape sat s x f ts rest aim).states
differ_shape_falls sat s x f ts rest aim = by (occurs_among x ts)
  where
    c : Con
    c = con.NotShape x f (length (items ts))

    by : (b : Bool) → EachState (Falls 5 s) (if b then goes (before (when_apart aim) s) else at_part sat s c aim (task.Shape x f ts rest aim ∷ [])).states
    by true = (apart_falls 5 (omega arith) s aim, tt)
    by false = alternatives_fall 5 (omega arith) s c aim (task.Shape x f ts rest aim ∷ []) (weighs_less (omega arith) (omega arith)) (status sat s c)

differ_pair_falls : (sat : List Con → Bool) (s : State) (t u : Tm) (rest : List Pair) (aim : Aim) → EachState (Falls 5 s) (differ_pair sat s t u rest aim).states
differ_pair_falls sat s (var x) (var y) rest aim = differ_variables_falls sat s x y rest aim
differ_pair_falls sat s (var x) (num q) rest aim = differ_number_falls sat s x q rest aim
differ_pair_falls sat s (var x) (app f ts) rest aim = differ_shape_falls sat s x f ts rest aim
differ_pair_falls sat s (num q) (var y) rest aim = differ_number_falls sat s y q rest aim
differ_pair_falls sat s (num q) (num r) rest aim = (apart_falls 5 (omega arith) s aim, tt)
differ_pair_falls sat s (num q) (app f ts) rest aim = (apart_falls 5 (omega arith) s aim, tt)
differ_pair_falls sat s (app f ts) (var y) rest aim = differ_shape_falls sat s y f ts rest aim
differ_pair_falls sat s (app f ts) (num r) rest aim = (apart_falls 5 (omega arith) s aim, tt)
differ_pair_falls sat s (app f ts) (app g us) rest aim = (apart_falls 5 (omega arith) s aim, tt)

take_up_more : (s : State) (t : Tm) (x : ℕ) (ts : List Task) → size s < size (before ts (take_up s t (var x)))
take_up_more s t x ts = omega (arith, length-append {A = Binding} s.bound (binding x t ∷ []))

differ_first_falls : (sat : List Con → Bool) (s : State) (t u : Tm) (rest : List Pair) (aim : Aim) → EachState (Falls 5 s) (differ_first sat s t u rest aim).states
differ_first_falls sat s t (num q) rest aim = differ_pair_falls sat s t (num q) rest aim
differ_first_falls sat s t (app f ts) rest aim = differ_pair_falls sat s t (app f ts) rest aim
differ_first_falls sat s t (var y) rest aim = by (is_matched s (var y))
  where
    by : (b : Bool) → EachState (Falls 5 s) (if b then goes (before (task.Differ rest aim ∷ []) (take_up s t (var y))) else differ_pair sat s t (var y) rest aim).states
    by true = (makes_more (take_up_more s t y (task.Differ rest aim ∷ [])), tt)
    by false = differ_pair_falls sat s t (var y) rest aim

same_falls : (s : State) (aim : Aim) → EachState (Falls 5 s) (when_same aim s)
same_falls s aims.Test = tt
same_falls s (aims.Head k first) = (weighs_less (omega arith) (omega arith), tt)

differ_falls : (sat : List Con → Bool) (s : State) (ps : List Pair) (aim : Aim) → EachState (Falls 5 s) (differ_pairs sat s ps aim).states
differ_falls sat s [] aim = same_falls s aim
differ_falls sat s (p ∷ rest) aim = differ_first_falls sat s (tm_of p.left) (tm_of p.right) rest aim

becomes_falls : (sat : List Con → Bool) (s : State) (x : ℕ) (t : Tm) (rest : List Pair) (aim : Aim) → EachState (Falls 1 s) (same_value sat s x t rest aim).states
becomes_falls sat s x t rest aim =
    each_map (λ r. size s < size r) (Falls 1 s) (before (task.Differ rest aim ∷ [])) (equated sat s (var x) t).states (equated_more sat s (var x) t) (λ r h. makes_more h)

shape_falls : (sat : List Con → Bool) (s : State) (x f : ℕ) (ts : Tms) (rest : List Pair) (aim : Aim) → EachState (Falls 1 s) (same_shape sat s x f ts rest aim).states
shape_falls sat s x f ts rest aim =
    each_map (λ r. size s < size r) (Falls 1 s) (before (task.Differ (pairs (new_parts (next_variable s) (length (items ts))) ts ++ rest) aim ∷ []))
    (becomes_shape sat s x f (length (items ts))).states (becomes_shape_more sat s x f (length (items ts))) (λ r h. makes_more h)

-- ---- items, literals, covers

all_kept : (sat : List Con → Bool) (s r : State) (cs : List Con) → Kept s r → EachState (Kept s) (assume_all sat cs r).states
all_kept sat s r [] h = (h, tt)
all_kept sat s r (c ∷ cs) h =
    each_followed (Kept r) (Kept s) (assume_all sat cs) (assume sat r c).states (assume_kept sat r c)
    (λ t k. all_kept sat s t cs (record { size_kept = omega (arith, h.size_kept, k.size_kept); work = cc (h.work, k.work) }))

test_item_falls : (sat : List Con → Bool) (s : State) (c : Con) → EachState (Falls 6 s) (test_item sat s c).states
test_item_falls sat s (con.Eq t u) = (weighs_less (omega arith) (omega arith), tt)
test_item_falls sat s (con.Neq t u) = by (is_empty (universals_of s (con.Neq t u)))
  where
    by : (b : Bool) → EachState (Falls 6 s) (if b then assume sat s (con.Neq t u) else goes (before (task.Differ (record { left = t; right = u } ∷ []) aims.Test ∷ []) s)).states
    by true = all_kept_fall 6 (omega arith) s (assume sat s (con.Neq t u)).states (assume_kept sat s (con.Neq t u))
    by false = (weighs_less (omega arith) (omega arith), tt)
test_item_falls sat s (con.NotShape x f n) = all_kept_fall 6 (omega arith) s (assume sat s (con.NotShape x f n)).states (assume_kept sat s (con.NotShape x f n))
test_item_falls sat s (con.Num t) = all_kept_fall 6 (omega arith) s (assume sat s (con.Num t)).states (assume_kept sat s (con.Num t))
test_item_falls sat s (con.NotNum t) = all_kept_fall 6 (omega arith) s (assume sat s (con.NotNum t)).states (assume_kept sat s (con.NotNum t))
test_item_falls sat s (con.Row r) = by (is_empty (universals_of s (con.Row r)))
  where
    by : (b : Bool) → EachState (Falls 6 s) (if b then assume_all sat (number_tests r ++ con.Row r ∷ []) s else assume sat s (con.Row r)).states
    by true = all_kept_fall 6 (omega arith) s (assume_all sat (number_tests r ++ con.Row r ∷ []) s).states (all_kept sat s s (number_tests r ++ con.Row r ∷ []) (record { size_kept = omega arith; work = refl }))
    by false = all_kept_fall 6 (omega arith) s (assume sat s (con.Row r)).states (assume_kept sat s (con.Row r))

marked_kept : (as_open : List Literal) (s : State) → Kept s (marked as_open s)
marked_kept [] s = record { size_kept = omega arith; work = refl }
marked_kept (a ∷ rest) s = record { size_kept = omega arith; work = refl }

moved_kept : (a : Literal) (rest : List Literal) (s : State) → Kept s (moved a rest s)
moved_kept a [] s = record { size_kept = omega arith; work = refl }
moved_kept a (b ∷ bs) s = by (a.loops && a.lit.positive && b.lit.positive)
  where
    by : (c : Bool) → Kept s (if c then marked (b ∷ bs) s else s)
    by true = marked_kept (b ∷ bs) s
    by false = record { size_kept = omega arith; work = refl }

left_kept : (open_ones : List Literal) (s : State) → Kept s (left open_ones s)
left_kept [] s = record { size_kept = omega arith; work = refl }
left_kept (a ∷ rest) s =
    let t : State = record s { literals = at_number a.number finished s.literals } in
    let k = moved_kept a rest t in
    record { size_kept = k.size_kept; work = k.work }

without_line : (n : ℕ) (s t : State) (l : Line) → Falls n (with_line s l) t → Falls n s t
without_line n s t l (makes_more h) = makes_more h
without_line n s t l (weighs_less h k) = weighs_less h k

all_without_line : (n : ℕ) (s : State) (l : Line) (ts : List State) → EachState (Falls n (with_line s l)) ts → EachState (Falls n s) ts
all_without_line n s l [] h = tt
all_without_line n s l (t ∷ ts) h = (without_line n s t l h.0, all_without_line n s l ts h.1)

-- The law: at a step that costs nothing, and is not the end of a case, each state has made more variables and bindings, or has made
-- no fewer and its tasks weigh less.
pub free_step_falls : (p : Program) (sat : List Con → Bool) (s : State) (t : Task) → costs s t ≡ false → t ≢ task.Close → EachState (Falls (weight_of t) s) (done p sat s t).states
free_step_falls p sat s (task.Show (flat.Call l)) e c = absurd (cc e)
free_step_falls p sat s (task.Show (flat.Test k)) e c =
    all_without_line 6 s (line.Test k) (test_item sat (with_line s (line.Test k)) k).states (test_item_falls sat (with_line s (line.Test k)) k)
free_step_falls p sat s (task.Equate t u) e c = equate_falls sat s (pairs_of (under (meaning s) (tm_of t)) (under (meaning s) (tm_of u)))
free_step_falls p sat s (task.Assume k) e c = assume_falls sat s k
free_step_falls p sat s (task.Differ ps aim) e c = differ_falls sat s (from_first (meaning s) ps) aim
free_step_falls p sat s (task.Become x t ps aim) e c = becomes_falls sat s x (tm_of t) ps aim
free_step_falls p sat s (task.Avoid x q ps aim) e c = differ_value_falls sat s x q ps aim
free_step_falls p sat s (task.Shape x f ts ps aim) e c = shape_falls sat s x f ts ps aim
free_step_falls p sat s (task.Cover a k) e c = let h = covered_lighter p s a k in (weighs_less h.size_kept h.lighter, tt)
free_step_falls p sat s (task.Check k head) e c = absurd (cc e)
free_step_falls p sat s (task.Begin k first head) e c = absurd (cc e)
free_step_falls p sat s task.Void e c = (weighs_less (omega arith) (omega arith), tt)
free_step_falls p sat s task.Leave e c = (kept_falls 1 (omega arith) s (leave_literal s) (left_kept (ancestors s) s), tt)
free_step_falls p sat s task.Close e c = absurd (c refl)

-- the end of a case without a remainder leaves the work as it is
pub close_keeps_work : (p : Program) (sat : List Con → Bool) (s : State) → costs s task.Close ≡ false → EachState (λ t. t.work ≡ s.work) (done p sat s task.Close).states
close_keeps_work p sat s e = by s.covers e
  where
    by_waiting : (c : Cover) (cs : List Cover) (rs : List Remainder) → is_waiting rs ≡ false → EachState (λ t. t.work ≡ s.work) (after_case p sat s c cs rs).states
    by_waiting c cs [] h = (refl, tt)
    by_waiting c cs (r ∷ rs) h = absurd (cc h)

    by : (cs : List Cover) → waits cs ≡ false → EachState (λ t. t.work ≡ s.work) (close_case p sat s cs).states
    by [] h = tt
    by (c ∷ cs) h = by_waiting c cs c.waiting h

pub more_is_less : (made more work other : ℕ) → made < more → more ≤ 2 ^ 64 → other < 2 ^ 67 → packed more other < packed made work
more_is_less made more work other p q r = omega (arith, p, q, r)

pub lighter_is_less : (made work less : ℕ) → less < work → packed made less < packed made work
lighter_is_less made work less p = omega (arith, p)
