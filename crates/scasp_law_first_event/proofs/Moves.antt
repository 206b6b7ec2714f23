-- What equating makes of a state: one binding more, for a name with the new variables of its arguments.
use Rattle.std.specs.Prelude.{◌≡◌, ◌⊎◌, ℕ, ◌+◌, ◌-◌, ◌<◌, ◌≤◌, Bool, true, false, ◌&&◌, not, nat_eq, nat_le, nat_lt, min, max, if◌then◌else◌, List, [], ◌∷◌, ◌++◌, length, replicate, slice_get, slice_set}
use Rattle.std.proofs.Common.{refl, arith, ap, sym, subst, ◌∙◌, inl, inr}
use Rattle.std.proofs.lemmas.Bool.{ltb-true, ltb-false}
use Rattle.std.proofs.lemmas.List.{length-append, length-set, length-replicate, append-nil}
use Rattle.scasp_list.specs.Each.{Each}
use Rattle.scasp_list.proofs.EachLemmas.{Each-map}
use Rattle.scasp_num.specs.Number.{Number}
use Rattle.scasp_search_rules.specs.declared.states.covers.Cover.{Cover}
use Rattle.scasp_search_rules.specs.declared.states.outcomes.Parting.{Parting}
use Rattle.scasp_search_rules.specs.declared.states.outcomes.Status.{Status}
use Rattle.scasp_search_rules.specs.declared.states.outcomes.Status.TheVariants.{Entailed, Impossible, Added, Parts}
use Rattle.scasp_search_rules.specs.declared.states.state.Kind.{Kind}
use Rattle.scasp_search_rules.specs.declared.states.state.Kind.TheVariants.{Existential, Universal}
use Rattle.scasp_search_rules.specs.declared.states.state.Made.{Made}
use Rattle.scasp_search_rules.specs.declared.states.state.State.{State}
use Rattle.scasp_search_rules.specs.declared.states.tasks.Pair.{Pair}
use Rattle.scasp_search_rules.specs.declared.states.tasks.Task.{Task}
use Rattle.scasp_syntax.specs.Tm.{Tm, Tms, var, num, app, items}
use Rattle.scasp_syntax.specs.declared.con.Con.{Con}
use Rattle.scasp_syntax.specs.declared.con.Con.TheVariants as con
use Rattle.scasp_syntax.specs.declared.program.Program.{Program}
use Rattle.scasp_syntax.specs.declared.term.Term.{Term}
use Rattle.scasp_syntax.specs.declared.term.Term.TheVariants.{Var}
use Rattle.scasp_unify.specs.Negations.{new_parts}
use Rattle.scasp_unify.specs.Parts.{occurs_among}
use Rattle.scasp_unify.specs.SimpleForm.{term_with}
use Rattle.scasp_unify.specs.Unification.{term_vars}
use Rattle.scasp_unify.specs.declared.bindings.Binding.{Binding}
use Rattle.scasp_search_rules.specs.Successors.Assumptions.{performed, status, assume}
use Rattle.scasp_search_rules.specs.Successors.Equations.{replaced_if, bound_if, mixed, two_variables, is_inside, becomes_number, variable_number, becomes_shape, variable_app, equated, equations_of}
use Rattle.scasp_search_rules.specs.Successors.Falls.{EachState}
use Rattle.scasp_search_rules.specs.Successors.Pairs.{pairs}
use Rattle.scasp_search_rules.specs.Successors.Reading.{con_vars}
use Rattle.scasp_search_rules.specs.Successors.Regions.{before, context, asked_with, is_constrained}
use Rattle.scasp_search_rules.specs.Successors.Splits.{split_at, owner, parted, replacement, cover_parted, at_depth}
use Rattle.scasp_search_rules.specs.Successors.Steps.{fails, goes, each}
use Rattle.scasp_search_rules.specs.Successors.Variables.{bind, binding, with_new, lowered, lower, depth_of, meaning, next_variable, is_universal}
use Rattle.scasp_law_first_event.proofs.Fitting.{CoverBelow, EquationBelow, cover-more}
use Rattle.scasp_law_first_event.proofs.EachStates.{each_only_if, each_followed, each_map, each_weaker}

-- z is bound to v, with so many new variables, and this is left to do
pub record Puts (s : State) (z : ℕ) (v : Tm) (more : ℕ) (work : List Task) (r : State) : Type 0 where
  pub bound : r.bound ≡ s.bound ++ binding z v ∷ []
  pub made : length r.made ≡ length s.made + more
  pub work_is : r.work ≡ work
  pub covers : (p : Program) → Each (CoverBelow p (length s.made)) s.covers → Each (CoverBelow p (length r.made)) r.covers
  pub literals : r.literals ≡ s.literals

-- as many variables, the same bindings, the same work
pub record Keeps (s r : State) : Type 0 where
  pub bound : r.bound ≡ s.bound
  pub made : length r.made ≡ length s.made
  pub work_is : r.work ≡ s.work
  pub covers : (p : Program) → Each (CoverBelow p (length s.made)) s.covers → Each (CoverBelow p (length r.made)) r.covers
  pub literals : r.literals ≡ s.literals

-- What comes of x against a term that is another: of two variables one is bound to the other. For a name x gets it with new arguments,
-- and what f makes of their pairs is done next.
abbrev pub After : State → (List Pair → List Task) → ℕ → Tm → State → Type 0
After s f x (var y) r = Puts s x (var y) 0 (f [] ++ s.work) r ⊎ Puts s y (var x) 0 (f [] ++ s.work) r
After s f x (num q) r = Puts s x (num q) 0 (f [] ++ s.work) r
After s f x (app g ts) r =
    Puts s x (app g (new_parts (next_variable s) (length (items ts)))) (length (items ts)) (f (pairs (new_parts (next_variable s) (length (items ts))) ts) ++ s.work) r
    × (occurs_among x ts ≡ false)

-- ---- bindings and replacements

pub lowered-length : (d : ℕ) (xs : List ℕ) (made : List Made) → length (lowered d xs made) ≡ length made
lowered-length d [] made = refl
lowered-length d (x ∷ xs) made =
    omega (arith, lowered-length d xs (slice_set made x (lower d (slice_get made x))), length-set {A = Made} made x (lower d (slice_get made x)))

pub new-length : (s : State) (kind : Kind) (d n : ℕ) → length (with_new s kind d n).made ≡ length s.made + n
new-length s kind d n =
    let m : Made = record { kind = kind; depth = d } in
    let one = length-append {A = Made} s.made (replicate n m) in
    let two = length-replicate {A = Made} n m in omega (arith, one, two)

pub covers-more : (p : Program) (n m : ℕ) → n ≤ m → (cs : List Cover) → Each (CoverBelow p n) cs → Each (CoverBelow p m) cs
covers-more p n m l cs h = Each-map (CoverBelow p n) (CoverBelow p m) (λ c k. cover-more p n m l c k) cs h

pub covers-parted : (p : Program) (n m d : ℕ) (q : Parting) (bound : List Binding) → n ≤ m → EquationBelow m (replacement q.there) → (cs : List Cover) → Each (CoverBelow p n) cs
    → Each (CoverBelow p m) (at_depth d (cover_parted q bound) cs)
covers-parted p n m d q bound l e [] h = tt
covers-parted p n m d q bound l e (c ∷ cs) h = (by (nat_eq c.depth d), covers-parted p n m d q bound l e cs h.1)
  where
    kept : CoverBelow p m c
    kept = cover-more p n m l c h.0

    by : (b : Bool) → CoverBelow p m (if b then cover_parted q bound c else c)
    by true = (kept.0, (e, kept.1))
    by false = kept

bind-puts : (s : State) (x : ℕ) (t : Tm) → Puts s x t 0 s.work (bind s x t)
bind-puts s x t = record {
  bound = refl;
  made = (let e = lowered-length (depth_of s x) (term_vars t) s.made in omega (arith, e));
  work_is = refl;
  covers = (λ p. let e = lowered-length (depth_of s x) (term_vars t) s.made in covers-more p (length s.made) (length (bind s x t).made) (omega (arith, e)) s.covers);
  literals = refl;
}

unlowered : (s : State) (d n : ℕ) (xs : List ℕ) → length (lowered d xs (with_new s Universal n 0).made) ≡ length s.made + 0
unlowered s d n xs =
    let one = lowered-length d xs (with_new s Universal n 0).made in
    let two = new-length s Universal n 0 in one ∙ two

-- the covers of a split, where the other side's equation speaks of variables that were made
split-covers : (p : Program) (s : State) (d : ℕ) (c : Con) (more : ℕ) → length (split_at s d c).made ≡ length s.made + more
    → EquationBelow (length (split_at s d c).made) (replacement (parted (next_variable s) c).there) → Each (CoverBelow p (length s.made)) s.covers
    → Each (CoverBelow p (length (split_at s d c).made)) (split_at s d c).covers
split-covers p s d c more e k h =
    covers-parted p (length s.made) (length (split_at s d c).made) d (parted (next_variable s) c) s.bound (omega (arith, e)) k s.covers h

pub split-puts : (s : State) (d x : ℕ) (u : Tm) → Puts s x u 0 s.work (split_at s d (con.Eq (Var x) (term_with u)))
split-puts s d x (var y) = record {
  bound = refl;
  made = unlowered s (d - 1) d (con_vars (meaning s) (con.Eq (Var x) (term_with (var y))));
  work_is = refl;
  covers = (λ p. split-covers p s d (con.Eq (Var x) (term_with (var y))) 0 (unlowered s (d - 1) d (con_vars (meaning s) (con.Eq (Var x) (term_with (var y))))) tt);
  literals = refl;
}
split-puts s d x (num q) = record {
  bound = refl;
  made = unlowered s (d - 1) d (con_vars (meaning s) (con.Eq (Var x) (term_with (num q))));
  work_is = refl;
  covers = (λ p. split-covers p s d (con.Eq (Var x) (term_with (num q))) 0 (unlowered s (d - 1) d (con_vars (meaning s) (con.Eq (Var x) (term_with (num q))))) tt);
  literals = refl;
}
split-puts s d x (app f ts) = record {
  bound = refl;
  made = unlowered s (d - 1) d (con_vars (meaning s) (con.Eq (Var x) (term_with (app f ts))));
  work_is = refl;
  covers = (λ p. split-covers p s d (con.Eq (Var x) (term_with (app f ts))) 0 (unlowered s (d - 1) d (con_vars (meaning s) (con.Eq (Var x) (term_with (app f ts))))) tt);
  literals = refl;
}

bound-puts : (sat : List Con → Bool) (s : State) (x : ℕ) (t : Tm) → EachState (Puts s x t 0 s.work) (bound_if sat (bind s x t)).states
bound-puts sat s x t =
    each_only_if (Puts s x t 0 s.work) (sat (asked_with (bind s x t) (bind s x t).given)) (bind s x t) (bind-puts s x t)

replaced-puts : (sat : List Con → Bool) (s : State) (u : ℕ) (t : Tm) → EachState (Puts s u t 0 s.work) (replaced_if sat s u t).states
replaced-puts sat s u t =
    each_only_if (Puts s u t 0 s.work) (sat (asked_with s (context s ++ con.Eq (Var u) (term_with t) ∷ []))) (split_at s (depth_of s u) (con.Eq (Var u) (term_with t)))
    (split-puts s (depth_of s u) u t)

-- ---- two variables

mixed-joins : (sat : List Con → Bool) (s : State) (e u : ℕ) → EachState (λ r. Puts s e (var u) 0 s.work r ⊎ Puts s u (var e) 0 s.work r) (mixed sat s e u).states
mixed-joins sat s e u = by (nat_le (depth_of s u) (depth_of s e) && not (is_constrained s e))
  where
    by : (b : Bool) → EachState (λ r. Puts s e (var u) 0 s.work r ⊎ Puts s u (var e) 0 s.work r) (if b then goes (bind s e (var u)) else replaced_if sat s u (var e)).states
    by true = (inl (bind-puts s e (var u)), tt)
    by false =
        each_weaker (Puts s u (var e) 0 s.work) (λ r. Puts s e (var u) 0 s.work r ⊎ Puts s u (var e) 0 s.work r) (replaced_if sat s u (var e)).states
        (λ r h. inr h) (replaced-puts sat s u (var e))

existentials-join : (sat : List Con → Bool) (s : State) (x y : ℕ) → EachState (λ r. Puts s x (var y) 0 s.work r ⊎ Puts s y (var x) 0 s.work r) (bound_if sat (bind s (max x y) (var (min x y)))).states
existentials-join sat s x y = by (nat_lt x y) refl
  where
    to : (a b c d : ℕ) → a ≡ c → b ≡ d → EachState (λ r. Puts s x (var y) 0 s.work r ⊎ Puts s y (var x) 0 s.work r) (bound_if sat (bind s c (var d))).states
        → EachState (λ r. Puts s x (var y) 0 s.work r ⊎ Puts s y (var x) 0 s.work r) (bound_if sat (bind s a (var b))).states
    to a b c d e f h =
        subst (λ (z : ℕ). EachState (λ r. Puts s x (var y) 0 s.work r ⊎ Puts s y (var x) 0 s.work r) (bound_if sat (bind s z (var b))).states) (sym e)
        (subst (λ (z : ℕ). EachState (λ r. Puts s x (var y) 0 s.work r ⊎ Puts s y (var x) 0 s.work r) (bound_if sat (bind s c (var z))).states) (sym f) h)

    by : (b : Bool) → nat_lt x y ≡ b → EachState (λ r. Puts s x (var y) 0 s.work r ⊎ Puts s y (var x) 0 s.work r) (bound_if sat (bind s (max x y) (var (min x y)))).states
    by true e =
        let l : x < y = ltb-true x y e in
        let a : max x y ≡ y = omega (arith, l) in
        let b : min x y ≡ x = omega (arith, l) in
        to (max x y) (min x y) y x a b
        (each_weaker (Puts s y (var x) 0 s.work) (λ r. Puts s x (var y) 0 s.work r ⊎ Puts s y (var x) 0 s.work r) (bound_if sat (bind s y (var x))).states (λ r h. inr h) (bound-puts sat s y (var x)))
    by false e =
        let l : y ≤ x = ltb-false x y e in
        let a : max x y ≡ x = omega (arith, l) in
        let b : min x y ≡ y = omega (arith, l) in
        to (max x y) (min x y) x y a b
        (each_weaker (Puts s x (var y) 0 s.work) (λ r. Puts s x (var y) 0 s.work r ⊎ Puts s y (var x) 0 s.work r) (bound_if sat (bind s x (var y))).states (λ r h. inl h) (bound-puts sat s x (var y)))

turned : (s : State) (x y : ℕ) (r : State) → Puts s x (var y) 0 s.work r ⊎ Puts s y (var x) 0 s.work r → Puts s y (var x) 0 s.work r ⊎ Puts s x (var y) 0 s.work r
turned s x y r (inl h) = inr h
turned s x y r (inr h) = inl h

two-joins : (sat : List Con → Bool) (s : State) (x y : ℕ) (a b : Bool) → EachState (λ r. Puts s x (var y) 0 s.work r ⊎ Puts s y (var x) 0 s.work r) (two_variables sat s x y a b).states
two-joins sat s x y false false = existentials-join sat s x y
two-joins sat s x y false true = mixed-joins sat s x y
two-joins sat s x y true false =
    each_weaker (λ r. Puts s y (var x) 0 s.work r ⊎ Puts s x (var y) 0 s.work r) (λ r. Puts s x (var y) 0 s.work r ⊎ Puts s y (var x) 0 s.work r) (mixed sat s y x).states
    (turned s y x) (mixed-joins sat s y x)
two-joins sat s x y true true = by (is_inside s x y)
  where
    by : (b : Bool) → EachState (λ r. Puts s x (var y) 0 s.work r ⊎ Puts s y (var x) 0 s.work r) (if b then replaced_if sat s x (var y) else replaced_if sat s y (var x)).states
    by true =
        each_weaker (Puts s x (var y) 0 s.work) (λ r. Puts s x (var y) 0 s.work r ⊎ Puts s y (var x) 0 s.work r) (replaced_if sat s x (var y)).states (λ r h. inl h) (replaced-puts sat s x (var y))
    by false =
        each_weaker (Puts s y (var x) 0 s.work) (λ r. Puts s x (var y) 0 s.work r ⊎ Puts s y (var x) 0 s.work r) (replaced_if sat s y (var x)).states (λ r h. inr h) (replaced-puts sat s y (var x))

-- ---- a variable and a number

number-kept : (s : State) (t : Term) (a : Status) → EachState (Keeps s) (performed s (con.Num t) a)
number-kept s t Entailed = (record { bound = refl; made = refl; work_is = refl; covers = (λ p h. h); literals = refl }, tt)
number-kept s t Impossible = tt
number-kept s t Added = (record { bound = refl; made = refl; work_is = refl; covers = (λ p h. h); literals = refl }, tt)
number-kept s t Parts = (
  record {
    bound = append-nil s.bound;
    made = (let none : length s.made + 0 ≡ length s.made = omega arith in lengths ∙ none);
    work_is = refl;
    covers = (λ p. split-covers p s (owner s (con.Num t)) (con.Num t) 0 lengths tt);
    literals = refl;
  },
  tt,
)
  where
    lengths : length (split_at s (owner s (con.Num t)) (con.Num t)).made ≡ length s.made + 0
    lengths = unlowered s (owner s (con.Num t) - 1) (owner s (con.Num t)) (con_vars (meaning s) (con.Num t))

assume-kept : (sat : List Con → Bool) (s : State) (x : ℕ) → EachState (Keeps s) (assume sat s (con.Num (Var x))).states
assume-kept sat s x = number-kept s _ (status sat s (con.Num (Var x)))

becomes-puts : (sat : List Con → Bool) (x : ℕ) (q : Number) (s : State) → EachState (Puts s x (num q) 0 s.work) (becomes_number sat x q s).states
becomes-puts sat x q s = by (is_universal s x)
  where
    by : (b : Bool) → EachState (Puts s x (num q) 0 s.work) (if b then replaced_if sat s x (num q) else bound_if sat (bind s x (num q))).states
    by true = replaced-puts sat s x (num q)
    by false = bound-puts sat s x (num q)

puts-later : (s r : State) (z : ℕ) (v : Tm) → Keeps s r → (t : State) → Puts r z v 0 r.work t → Puts s z v 0 s.work t
puts-later s r z v k t p = record {
  bound = p.bound ∙ ap (λ (bs : List Binding). bs ++ binding z v ∷ []) k.bound;
  made = (let a = p.made in let b = k.made in omega (arith, a, b));
  work_is = p.work_is ∙ k.work_is;
  covers = (λ o h. p.covers o (k.covers o h));
  literals = p.literals ∙ k.literals;
}

number-puts : (sat : List Con → Bool) (s : State) (x : ℕ) (q : Number) → EachState (Puts s x (num q) 0 s.work) (variable_number sat s x q).states
number-puts sat s x q =
    each_followed (Keeps s) (Puts s x (num q) 0 s.work) (becomes_number sat x q) (assume sat s (con.Num (Var x))).states (assume-kept sat s x)
    (λ r k. each_weaker (Puts r x (num q) 0 r.work) (Puts s x (num q) 0 s.work) (becomes_number sat x q r).states (puts-later s r x (num q) k) (becomes-puts sat x q r))

-- ---- a variable and a name

with-new : (s : State) (kind : Kind) (d n z : ℕ) (v : Tm) (t : State) → Puts (with_new s kind d n) z v 0 (with_new s kind d n).work t → Puts s z v n s.work t
with-new s kind d n z v t p = record {
  bound = p.bound;
  made = (let a = p.made in let b = new-length s kind d n in omega (arith, a, b));
  work_is = p.work_is;
  covers = (λ o h. p.covers o (covers-more o (length s.made) (length (with_new s kind d n).made) (let b = new-length s kind d n in omega (arith, b)) s.covers h));
  literals = p.literals;
}

pub shape-puts : (sat : List Con → Bool) (s : State) (x f n : ℕ) → EachState (Puts s x (app f (new_parts (next_variable s) n)) n s.work) (becomes_shape sat s x f n).states
shape-puts sat s x f n = by (is_universal s x)
  where
    t : Tm
    t = app f (new_parts (next_variable s) n)

    by : (b : Bool) → EachState (Puts s x t n s.work) (if b then replaced_if sat (with_new s Universal (depth_of s x) n) x t else bound_if sat (bind (with_new s Existential (depth_of s x) n) x t)).states
    by true =
        let r : State = with_new s Universal (depth_of s x) n in
        each_weaker (Puts r x t 0 r.work) (Puts s x t n s.work) (replaced_if sat r x t).states (with-new s Universal (depth_of s x) n x t) (replaced-puts sat r x t)
    by false =
        let r : State = with_new s Existential (depth_of s x) n in
        each_weaker (Puts r x t 0 r.work) (Puts s x t n s.work) (bound_if sat (bind r x t)).states (with-new s Existential (depth_of s x) n x t) (bound-puts sat r x t)

pub in-front : (s : State) (z : ℕ) (v : Tm) (n : ℕ) (tasks : List Task) (r : State) → Puts s z v n s.work r → Puts s z v n (tasks ++ s.work) (before tasks r)
in-front s z v n tasks r p = record {
  bound = p.bound;
  made = p.made;
  work_is = ap (λ (ts : List Task). tasks ++ ts) p.work_is;
  covers = p.covers;
  literals = p.literals;
}

app-after : (sat : List Con → Bool) (s : State) (x f : ℕ) (ts : Tms) → EachState (After s equations_of x (app f ts)) (variable_app sat s x f ts).states
app-after sat s x f ts = by (occurs_among x ts) refl
  where
    by : (b : Bool) → occurs_among x ts ≡ b → EachState (After s equations_of x (app f ts)) (if b then fails else each (before (equations_of (pairs (new_parts (next_variable s) (length (items ts))) ts))) (becomes_shape sat s x f (length (items ts)))).states
    by true e = tt
    by false e =
        each_map (Puts s x (app f (new_parts (next_variable s) (length (items ts)))) (length (items ts)) s.work) (After s equations_of x (app f ts))
        (before (equations_of (pairs (new_parts (next_variable s) (length (items ts))) ts))) (becomes_shape sat s x f (length (items ts))).states
        (shape-puts sat s x f (length (items ts)))
        (λ r p. (in-front s x (app f (new_parts (next_variable s) (length (items ts)))) (length (items ts)) (equations_of (pairs (new_parts (next_variable s) (length (items ts))) ts)) r p, e))

-- ---- all of them

pub equated-after : (sat : List Con → Bool) (s : State) (x : ℕ) (t : Tm) → EachState (After s equations_of x t) (equated sat s (var x) t).states
equated-after sat s x (var y) = two-joins sat s x y (is_universal s x) (is_universal s y)
equated-after sat s x (num q) = number-puts sat s x q
equated-after sat s x (app f ts) = app-after sat s x f ts

-- a side is a variable, or there is nothing
pub equated-states : (P : State → Type 0) (sat : List Con → Bool) (s : State) (a b : Tm)
    → ((x : ℕ) → a ≡ var x → (r : State) → After s equations_of x b r → P r)
    → ((y : ℕ) → b ≡ var y → (r : State) → After s equations_of y a r → P r)
    → EachState P (equated sat s a b).states
equated-states P sat s (var x) b left right = each_weaker (After s equations_of x b) P (equated sat s (var x) b).states (left x refl) (equated-after sat s x b)
equated-states P sat s (num q) (var y) left right = each_weaker (After s equations_of y (num q)) P (equated sat s (var y) (num q)).states (right y refl) (equated-after sat s y (num q))
equated-states P sat s (num q) (num r) left right = tt
equated-states P sat s (num q) (app f ts) left right = tt
equated-states P sat s (app f ts) (var y) left right = each_weaker (After s equations_of y (app f ts)) P (equated sat s (var y) (app f ts)).states (right y refl) (equated-after sat s y (app f ts))
equated-states P sat s (app f ts) (num r) left right = tt
equated-states P sat s (app f ts) (app g us) left right = tt

-- the number test leaves bindings and work
pub tested : (P : State → Type 0) (sat : List Con → Bool) (s : State) (x : ℕ) → ((r : State) → Keeps s r → P r) → EachState P (assume sat s (con.Num (Var x))).states
tested P sat s x f = each_weaker (Keeps s) P (assume sat s (con.Num (Var x))).states f (assume-kept sat s x)
