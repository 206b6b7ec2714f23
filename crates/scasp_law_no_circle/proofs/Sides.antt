-- The splits of each constraint, and variables that are bound.
use Rattle.std.specs.Prelude.{◌≡◌, ◌≢◌, ◌⊎◌, ℕ, zero, suc, ◌+◌, ◌-◌, ◌<◌, ◌≤◌, nat_eq, Bool, true, false, ◌||◌, if◌then◌else◌, List, [], ◌∷◌, ◌++◌, length, map, filter, replicate, ⊤}
use Rattle.std.specs.List.{flat_map}
use Rattle.std.proofs.Common.{refl, arith, ap, sym, subst, ◌∙◌, inl, inr}
use Rattle.std.proofs.lemmas.Bool.{cases_Bool, eqb-true, eqb-false, eq-eqb, true≢false}
use Rattle.scasp_num.specs.Linear.{Linear}
use Rattle.scasp_num.specs.declared.linear.Coeff.{Coeff}
use Rattle.scasp_search_rules.specs.declared.states.covers.Cover.{Cover}
use Rattle.scasp_search_rules.specs.declared.states.state.Kind.TheVariants.{Existential, Universal}
use Rattle.scasp_search_rules.specs.declared.states.state.Made.{Made}
use Rattle.scasp_search_rules.specs.declared.states.state.State.{State}
use Rattle.scasp_search_rules.specs.Successors.Reading.{among, con_vars, count_from}
use Rattle.scasp_search_rules.specs.Successors.Splits.{is_bound_in, parted, cover_parted, at_depth, split_at, greatest}
use Rattle.scasp_search_rules.specs.Successors.Variables.{bind, binding, depth_of, is_kind_matched, is_kind_existential, is_universal, lowered, meaning, next_variable}
use Rattle.scasp_syntax.specs.Tm.{Tm, var, num, app}
use Rattle.scasp_syntax.specs.Values.{under}
use Rattle.scasp_syntax.specs.View.{tm_of}
use Rattle.scasp_syntax.specs.declared.con.Con.{Con}
use Rattle.scasp_syntax.specs.declared.con.Con.TheVariants as con
use Rattle.scasp_syntax.specs.declared.program.Program.{Program}
use Rattle.scasp_syntax.specs.declared.term.Term.{Term}
use Rattle.scasp_syntax.specs.declared.term.Term.TheVariants.{Var, Num, App}
use Rattle.scasp_num.specs.Number.{Number}
use Rattle.scasp_unify.specs.Negations.{new_parts}
use Rattle.scasp_unify.specs.Parts.{occurs, occurs_among}
use Rattle.scasp_unify.specs.Solving.{sub_of}
use Rattle.scasp_unify.specs.Unification.{term_vars}
use Rattle.scasp_unify.specs.declared.bindings.Binding.{Binding}
use Rattle.scasp_law_first_event.proofs.Bindings.{Solved, unbound-self, above-unbound}
use Rattle.scasp_law_first_event.proofs.Keeping.{length-count}
use Rattle.scasp_law_first_event.proofs.Moves.{lowered-length, new-length}
use Rattle.scasp_law_first_event.proofs.Terms.{each-under}
use Rattle.scasp_law_no_circle.proofs.Growing.{lowered-scopes, pushed-scopes}
use Rattle.scasp_law_no_circle.proofs.Meeting.{occurs-each, each-occurs, read-unbound, met-free}
use Rattle.scasp_law_no_circle.proofs.Places.{entry, Lower, lower-same, lower-then, lowered-lowers, lowered-small, lowered-other, entry-left, entry-new, universal_of, owns, owns-low, vars-occur, all-vars-occur}
use Rattle.scasp_law_no_circle.proofs.Scope.{Good, existential, universal, Scoped, Under, Owned, Sound, Scopes, scopes-then}
use Rattle.scasp_law_no_circle.proofs.Splitting.{among-either, among-right, Lowered, Grown, owns-here, still-owns, quiet-split, pushed-split}

-- ---- what is read

pub term-unbound : (n : ℕ) (bs : List Binding) → Solved n bs → (t : Tm) (z : ℕ) → occurs z (under (sub_of bs) t) ≡ true → is_bound_in bs z ≡ false
term-unbound n bs h t z o =
    each-occurs (λ y. is_bound_in bs y ≡ false) (under (sub_of bs) t)
    (each-under (λ y. ⊤) (λ y. is_bound_in bs y ≡ false) (sub_of bs) (λ x k. occurs-each (λ y. is_bound_in bs y ≡ false) (sub_of bs x) (λ w m. read-unbound n bs h x w m)) t
    (occurs-each (λ y. ⊤) t (λ y m. tt))) z o

vars-unbound : (n : ℕ) (bs : List Binding) → Solved n bs → (t : Tm) (z : ℕ) → among z (term_vars (under (sub_of bs) t)) ≡ true → is_bound_in bs z ≡ false
vars-unbound n bs h t z i = term-unbound n bs h t z (sym (vars-occur z (under (sub_of bs) t)) ∙ i)

-- no variable of a constraint as it reads is bound
pub con-unbound : (n : ℕ) (bs : List Binding) → Solved n bs → (c : Con) (z : ℕ) → among z (con_vars (sub_of bs) c) ≡ true → is_bound_in bs z ≡ false
con-unbound n bs h (con.Eq t u) z i = by (among-either z (term_vars (under (sub_of bs) (tm_of t))) (term_vars (under (sub_of bs) (tm_of u))) i)
  where
    by : (among z (term_vars (under (sub_of bs) (tm_of t))) ≡ true) ⊎ (among z (term_vars (under (sub_of bs) (tm_of u))) ≡ true) → is_bound_in bs z ≡ false
    by (inl j) = vars-unbound n bs h (tm_of t) z j
    by (inr j) = vars-unbound n bs h (tm_of u) z j
con-unbound n bs h (con.Neq t u) z i = by (among-either z (term_vars (under (sub_of bs) (tm_of t))) (term_vars (under (sub_of bs) (tm_of u))) i)
  where
    by : (among z (term_vars (under (sub_of bs) (tm_of t))) ≡ true) ⊎ (among z (term_vars (under (sub_of bs) (tm_of u))) ≡ true) → is_bound_in bs z ≡ false
    by (inl j) = vars-unbound n bs h (tm_of t) z j
    by (inr j) = vars-unbound n bs h (tm_of u) z j
con-unbound n bs h (con.NotShape x f k) z i = vars-unbound n bs h (var x) z i
con-unbound n bs h (con.Num t) z i = vars-unbound n bs h (tm_of t) z i
con-unbound n bs h (con.NotNum t) z i = vars-unbound n bs h (tm_of t) z i
con-unbound n bs h (con.Row r) z i = all r.coeffs i
  where
    all : (ks : List Coeff) → among z (flat_map (λ k. term_vars (sub_of bs k.x)) ks) ≡ true → is_bound_in bs z ≡ false
    all [] j = absurd (true≢false (sym j))
    all (k ∷ ks) j = by (among-either z (term_vars (sub_of bs k.x)) (flat_map (λ k. term_vars (sub_of bs k.x)) ks) j) (λ m. all ks m)
      where
        by : (among z (term_vars (sub_of bs k.x)) ≡ true) ⊎ (among z (flat_map (λ k. term_vars (sub_of bs k.x)) ks) ≡ true)
            → (among z (flat_map (λ k. term_vars (sub_of bs k.x)) ks) ≡ true → is_bound_in bs z ≡ false) → is_bound_in bs z ≡ false
        by (inl m) rest = vars-unbound n bs h (var k.x) z m
        by (inr m) rest = rest m

-- ---- spans of new variables

pub count-span : (k n z : ℕ) → among z (count_from k n) ≡ true → (k ≤ z) × (z < k + n)
count-span k zero z e = absurd (true≢false (sym e))
count-span k (suc n) z e = by (nat_eq z k) refl (λ f. count-span (suc k) n z f) e
  where
    by : (b : Bool) → nat_eq z k ≡ b → (among z (count_from (suc k) n) ≡ true → (suc k ≤ z) × (z < suc k + n)) → (b || among z (count_from (suc k) n)) ≡ true → (k ≤ z) × (z < k + suc n)
    by true same rest f = let e : z ≡ k = eqb-true z k same in (omega (arith, e), omega (arith, e))
    by false d rest f = let m = rest f in let a : suc k ≤ z = m.0 in let b : z < suc k + n = m.1 in (omega (arith, a), omega (arith, b))

pub parts-count : (w k n : ℕ) → occurs_among w (new_parts k n) ≡ among w (count_from k n)
parts-count w k zero = refl
parts-count w k (suc n) = ap (λ (b : Bool). nat_eq w k || b) (parts-count w (suc k) n)

pub parts-span : (k n w : ℕ) → occurs_among w (new_parts k n) ≡ true → (k ≤ w) × (w < k + n)
parts-span k n w o = count-span k n w (sym (parts-count w k n) ∙ o)

-- the depth of the one universal variable
pub one-owner : (s : State) (x : ℕ) → is_universal s x ≡ true → greatest (map (depth_of s) (filter (is_universal s) (x ∷ []))) ≡ depth_of s x
one-owner s x e = by (is_universal s x) e
  where
    by : (b : Bool) → b ≡ true → greatest (map (depth_of s) (if b then x ∷ [] else [])) ≡ depth_of s x
    by true f = omega arith
    by false f = absurd (true≢false (sym f))

module _ (p : Program) (s : State) (h : Sound p s.made s.covers s.bound) (solved : Solved (length s.made) s.bound) where
  abbrev Stepped : State → Type 0
  Stepped r = Scopes p s.made r.made s.covers r.covers s.bound r.bound

  free : (c : Con) (z : ℕ) → among z (con_vars (meaning s) c) ≡ true → is_bound_in s.bound z ≡ false
  free c z i = con-unbound (length s.made) s.bound solved c z i

  nowhere : (made : List Made) (d : ℕ) (w : ℕ) → among w [] ≡ true → Owned made d w × (is_bound_in s.bound w ≡ false)
  nowhere made d w i = absurd (true≢false (sym i))

  nobody : (made : List Made) (d : ℕ) (w : ℕ) → among w [] ≡ true → Owned made d w × (is_bound_in s.bound w ≡ false) × ((z : ℕ) × (owns s.covers d z ≡ true))
  nobody made d w i = absurd (true≢false (sym i))

  -- ---- splits that replace nothing

  pub number-split : (d : ℕ) (t : Term) → Scopes p s.made (split_at s d (con.Num t)).made s.covers (split_at s d (con.Num t)).covers s.bound (split_at s d (con.Num t)).bound
  number-split d t =
      quiet-split p s h d (con.Num t) (free (con.Num t))
      (record { here = nobody (Lowered p s h d (con.Num t) (free (con.Num t))) d; there = nowhere (Lowered p s h d (con.Num t) (free (con.Num t))) d; equation = tt }) refl

  pub no-number-split : (d : ℕ) (t : Term) → Scopes p s.made (split_at s d (con.NotNum t)).made s.covers (split_at s d (con.NotNum t)).covers s.bound (split_at s d (con.NotNum t)).bound
  no-number-split d t =
      quiet-split p s h d (con.NotNum t) (free (con.NotNum t))
      (record { here = nobody (Lowered p s h d (con.NotNum t) (free (con.NotNum t))) d; there = nowhere (Lowered p s h d (con.NotNum t) (free (con.NotNum t))) d; equation = tt }) refl

  pub row-split : (d : ℕ) (r : Linear) → Scopes p s.made (split_at s d (con.Row r)).made s.covers (split_at s d (con.Row r)).covers s.bound (split_at s d (con.Row r)).bound
  row-split d r =
      quiet-split p s h d (con.Row r) (free (con.Row r))
      (record { here = nobody (Lowered p s h d (con.Row r) (free (con.Row r))) d; there = nowhere (Lowered p s h d (con.Row r) (free (con.Row r))) d; equation = tt }) refl

  -- no variable stands on the left
  abbrev pub Blunt : Con → Type 0
  Blunt (con.Eq (Var x) u) = ⊥
  Blunt (con.Eq (Num q) u) = ⊤
  Blunt (con.Eq (App f ts) u) = ⊤
  Blunt (con.Neq (Var x) u) = ⊥
  Blunt (con.Neq (Num q) u) = ⊤
  Blunt (con.Neq (App f ts) u) = ⊤
  Blunt (con.NotShape x f k) = ⊥
  Blunt (con.Num t) = ⊥
  Blunt (con.NotNum t) = ⊥
  Blunt (con.Row r) = ⊥

  pub blunt-split : (d : ℕ) (c : Con) → Blunt c → Scopes p s.made (split_at s d c).made s.covers (split_at s d c).covers s.bound (split_at s d c).bound
  blunt-split d (con.Eq (Num q) u) b =
      let c : Con = con.Eq (Num q) u in
      quiet-split p s h d c (free c) (record { here = nobody (Lowered p s h d c (free c)) d; there = nowhere (Lowered p s h d c (free c)) d; equation = tt }) refl
  blunt-split d (con.Eq (App f ts) u) b =
      let c : Con = con.Eq (App f ts) u in
      quiet-split p s h d c (free c) (record { here = nobody (Lowered p s h d c (free c)) d; there = nowhere (Lowered p s h d c (free c)) d; equation = tt }) refl
  blunt-split d (con.Neq (Num q) u) b =
      let c : Con = con.Neq (Num q) u in
      quiet-split p s h d c (free c) (record { here = nobody (Lowered p s h d c (free c)) d; there = nowhere (Lowered p s h d c (free c)) d; equation = tt }) refl
  blunt-split d (con.Neq (App f ts) u) b =
      let c : Con = con.Neq (App f ts) u in
      quiet-split p s h d c (free c) (record { here = nobody (Lowered p s h d c (free c)) d; there = nowhere (Lowered p s h d c (free c)) d; equation = tt }) refl
  blunt-split d (con.Eq (Var x) u) b = absurd b
  blunt-split d (con.Neq (Var x) u) b = absurd b
  blunt-split d (con.NotShape x f k) b = absurd b
  blunt-split d (con.Num t) b = absurd b
  blunt-split d (con.NotNum t) b = absurd b
  blunt-split d (con.Row r) b = absurd b

  -- ---- the entries after a split

  module _ (d : ℕ) (c : Con) where
    abbrev Low : List Made
    Low = Lowered p s h d c (free c)

    low : (z : ℕ) → z < length s.made → Lower (entry s.made z) (entry (Lowered p s h d c (free c)) z)
    low z l =
        lower-then (entry s.made z) (entry (Grown p s h d c (free c)) z) (entry (Lowered p s h d c (free c)) z)
        (lower-same (entry s.made z) (entry (Grown p s h d c (free c)) z) (entry-left s.made (replicate (length (parted (next_variable s) c).parts_there) (universal_of d)) z l))
        (lowered-lowers (d - 1) (con_vars (meaning s) c) (Grown p s h d c (free c)) z)

    long : length s.made ≤ length (Lowered p s h d c (free c))
    long =
        let a : length (Lowered p s h d c (free c)) ≡ length (Grown p s h d c (free c)) = lowered-length (d - 1) (con_vars (meaning s) c) (Grown p s h d c (free c)) in
        let b : length (Grown p s h d c (free c)) ≡ length s.made + length (parted (next_variable s) c).parts_there = new-length s Universal d (length (parted (next_variable s) c).parts_there) in
        omega (arith, a, b)

    same-universal : (z : ℕ) → z < length s.made → (entry s.made z).kind ≡ Universal → entry (Lowered p s h d c (free c)) z ≡ entry s.made z
    same-universal z l e = (low z l).fixed (ap is_kind_existential e)

    below-split : (z : ℕ) → z < length s.made → (entry s.made z).kind ≡ Existential → among z (con_vars (meaning s) c) ≡ true → (entry (Lowered p s h d c (free c)) z).depth ≤ d - 1
    below-split z l e i =
        lowered-small (d - 1) (con_vars (meaning s) c) (Grown p s h d c (free c)) z i (let b : length (Grown p s h d c (free c)) ≡ length s.made + length (parted (next_variable s) c).parts_there = new-length s Universal d (length (parted (next_variable s) c).parts_there) in omega (arith, l, b))
        (ap (λ (a : Made). is_kind_existential a.kind) (entry-left s.made (replicate (length (parted (next_variable s) c).parts_there) (universal_of d)) z l) ∙ ap is_kind_existential e)

    -- a universal variable that the split replaces, or that the other side does
    low-owned : (x : ℕ) → x < length s.made → (entry s.made x).kind ≡ Universal → owns s.covers (entry s.made x).depth x ≡ true → owns s.covers (entry (Lowered p s h d c (free c)) x).depth x ≡ true
    low-owned x l e o = subst (λ (a : Made). owns s.covers a.depth x ≡ true) (sym (same-universal x l e)) o

    -- the new parts of the other side
    there-owned : (w : ℕ) → length s.made ≤ w → w < length s.made + length (parted (next_variable s) c).parts_there → Owned (Lowered p s h d c (free c)) d w × (is_bound_in s.bound w ≡ false)
    there-owned w l m =
        ((omega (arith, a, b, m), ap (λ (e : Made). e.kind) new, ap (λ (e : Made). e.depth) new), above-unbound (length s.made) s.bound solved w l)
      where
        a : length (Lowered p s h d c (free c)) ≡ length (Grown p s h d c (free c))
        a = lowered-length (d - 1) (con_vars (meaning s) c) (Grown p s h d c (free c))

        b : length (Grown p s h d c (free c)) ≡ length s.made + length (parted (next_variable s) c).parts_there
        b = new-length s Universal d (length (parted (next_variable s) c).parts_there)

        grown : entry (Grown p s h d c (free c)) w ≡ universal_of d
        grown = entry-new s.made (length (parted (next_variable s) c).parts_there) (universal_of d) w l m

        new : entry (Lowered p s h d c (free c)) w ≡ universal_of d
        new = (lowered-lowers (d - 1) (con_vars (meaning s) c) (Grown p s h d c (free c)) w).fixed (ap (λ (e : Made). is_kind_existential e.kind) grown) ∙ grown

  -- ---- a universal variable that is free, and owned

  abbrev pub IsOpen : ℕ → Type 0
  IsOpen x = (x < length s.made) × ((entry s.made x).kind ≡ Universal) × (owns s.covers (entry s.made x).depth x ≡ true) × (is_bound_in s.bound x ≡ false)

  -- another one that is free: existential, or universal, owned and not deeper
  abbrev pub IsOther : ℕ → ℕ → Type 0
  IsOther x y =
      (y < length s.made) × (is_bound_in s.bound y ≡ false) × (y ≢ x)
      × (((entry s.made y).kind ≡ Existential)
      ⊎ (((entry s.made y).kind ≡ Universal) × ((entry s.made y).depth ≤ (entry s.made x).depth) × (owns s.covers (entry s.made y).depth y ≡ true)))

  itself : (x : ℕ) → is_bound_in s.bound x ≡ false → among x (term_vars (sub_of s.bound x)) ≡ true
  itself x e = vars-occur x (sub_of s.bound x) ∙ ap (occurs x) (unbound-self s.bound x e) ∙ eq-eqb x x refl

  -- x is not of a shape: on the other side it is, with new parts
  pub shape-split : (x f k : ℕ) → IsOpen x → Scopes p s.made (split_at s (depth_of s x) (con.NotShape x f k)).made s.covers (split_at s (depth_of s x) (con.NotShape x f k)).covers s.bound (split_at s (depth_of s x) (con.NotShape x f k)).bound
  shape-split x f k o =
      let c : Con = con.NotShape x f k in
      let d : ℕ = depth_of s x in
      quiet-split p s h d c (free c)
      (record {
        here = nobody (Lowered p s h d c (free c)) d;
        there = (λ w i. let m = count-span (length s.made) k w i in let a : length s.made ≤ w = m.0 in let b : w < length s.made + k = m.1 in
            let e = length-count (length s.made) k in there-owned d c w a (omega (arith, b, e)));
        equation = (
          o.2,
          o.3,
          λ w i. let m = parts-span (length s.made) k w i in let a : length s.made ≤ w = m.0 in let l : x < length s.made = o.0 in
              ((λ e. omega (arith, a, l, e)), inr (inl (sym (parts-count w (length s.made) k) ∙ i))),
        );
      }) refl

  -- x is not this number: on the other side it is
  pub value-split : (x : ℕ) (q : Number) → IsOpen x → Scopes p s.made (split_at s (depth_of s x) (con.Neq (Var x) (Num q))).made s.covers (split_at s (depth_of s x) (con.Neq (Var x) (Num q))).covers s.bound (split_at s (depth_of s x) (con.Neq (Var x) (Num q))).bound
  value-split x q o =
      let c : Con = con.Neq (Var x) (Num q) in
      let d : ℕ = depth_of s x in
      quiet-split p s h d c (free c)
      (record { here = nobody (Lowered p s h d c (free c)) d; there = nowhere (Lowered p s h d c (free c)) d; equation = (o.2, o.3, λ w i. absurd (true≢false (sym i))) }) refl

  -- x is not y: on the other side it is
  pub variable-split : (x y : ℕ) → IsOpen x → IsOther x y → Scopes p s.made (split_at s (depth_of s x) (con.Neq (Var x) (Var y))).made s.covers (split_at s (depth_of s x) (con.Neq (Var x) (Var y))).covers s.bound (split_at s (depth_of s x) (con.Neq (Var x) (Var y))).bound
  variable-split x y o k =
      let c : Con = con.Neq (Var x) (Var y) in
      let d : ℕ = depth_of s x in
      quiet-split p s h d c (free c)
      (record { here = nobody (Lowered p s h d c (free c)) d; there = nowhere (Lowered p s h d c (free c)) d; equation = (o.2, o.3, λ w i. one w (eqb-true w y i)) }) refl
    where
      c : Con
      c = con.Neq (Var x) (Var y)

      d : ℕ
      d = depth_of s x

      made : List Made
      made = Lowered p s h d c (free c)

      listed : among y (con_vars (meaning s) (con.Neq (Var x) (Var y))) ≡ true
      listed = among-right y (term_vars (sub_of s.bound x)) (term_vars (sub_of s.bound y)) (itself y k.1)

      some : 0 < (entry s.made x).depth
      some = (owns-low s.covers h.placed (entry s.made x).depth x o.2).0

      long-made : y < length (Lowered p s h (depth_of s x) (con.Neq (Var x) (Var y)) (free (con.Neq (Var x) (Var y))))
      long-made = let l : y < length s.made = k.0 in let m = long d c in omega (arith, l, m)

      less : Good (Lowered p s h (depth_of s x) (con.Neq (Var x) (Var y)) (free (con.Neq (Var x) (Var y)))) s.covers s.bound ((entry s.made x).depth - 1) y
          → Scoped (Lowered p s h (depth_of s x) (con.Neq (Var x) (Var y)) (free (con.Neq (Var x) (Var y)))) s.covers s.bound ((entry s.made x).depth - 1) y
      less g = met-free (Good made s.covers s.bound ((entry s.made x).depth - 1)) s.bound y g k.1

      universal-one : (entry s.made y).kind ≡ Universal → (entry s.made y).depth ≤ (entry s.made x).depth → owns s.covers (entry s.made y).depth y ≡ true
          → (nat_eq (entry s.made y).depth (entry s.made x).depth ≡ true) ⊎ (nat_eq (entry s.made y).depth (entry s.made x).depth ≡ false)
          → Scoped (Lowered p s h (depth_of s x) (con.Neq (Var x) (Var y)) (free (con.Neq (Var x) (Var y)))) s.covers s.bound ((entry s.made x).depth - 1) y
          ⊎ (among y [] ≡ true) ⊎ ((owns s.covers (entry s.made x).depth y ≡ true) × (is_bound_in s.bound y ≡ false))
      universal-one e l f (inl same) = inr (inr (subst (λ (n : ℕ). owns s.covers n y ≡ true) (eqb-true (entry s.made y).depth (entry s.made x).depth same) f, k.1))
      universal-one e l f (inr other) =
          let differ = eqb-false (entry s.made y).depth (entry s.made x).depth other in
          let same = same-universal d c y k.0 e in
          inl (less (universal long-made (ap (λ (a : Made). a.kind) same ∙ e)
          (subst (λ (a : Made). a.depth ≤ (entry s.made x).depth - 1) (sym same) (omega (arith, l, differ, some)))
          (subst (λ (a : Made). owns s.covers a.depth y ≡ true) (sym same) f)))

      by : ((entry s.made y).kind ≡ Existential) ⊎ (((entry s.made y).kind ≡ Universal) × ((entry s.made y).depth ≤ (entry s.made x).depth) × (owns s.covers (entry s.made y).depth y ≡ true))
          → Scoped (Lowered p s h (depth_of s x) (con.Neq (Var x) (Var y)) (free (con.Neq (Var x) (Var y)))) s.covers s.bound ((entry s.made x).depth - 1) y
          ⊎ (among y [] ≡ true) ⊎ ((owns s.covers (entry s.made x).depth y ≡ true) × (is_bound_in s.bound y ≡ false))
      by (inl e) = inl (less (existential long-made ((low d c y k.0).kind ∙ e) (below-split d c y k.0 e listed)))
      by (inr e) = universal-one e.0 e.1 e.2 (cases_Bool (nat_eq (entry s.made y).depth (entry s.made x).depth))

      one : (w : ℕ) → w ≡ y
          → (w ≢ x) × (Scoped (Lowered p s h (depth_of s x) (con.Neq (Var x) (Var y)) (free (con.Neq (Var x) (Var y)))) s.covers s.bound ((entry s.made x).depth - 1) w
          ⊎ (among w [] ≡ true) ⊎ ((owns s.covers (entry s.made x).depth w ≡ true) × (is_bound_in s.bound w ≡ false)))
      one w e =
          subst (λ (z : ℕ). (z ≢ x) × (Scoped made s.covers s.bound ((entry s.made x).depth - 1) z ⊎ (among z [] ≡ true) ⊎ ((owns s.covers (entry s.made x).depth z ≡ true) × (is_bound_in s.bound z ≡ false)))) (sym e)
          (k.2, by k.3)

  -- ---- a universal variable that is replaced

  module _ (x : ℕ) (o : IsOpen x) where
    -- by a number
    pub by-number : (q : Number) → Scopes p s.made (split_at s (depth_of s x) (con.Eq (Var x) (Num q))).made s.covers (split_at s (depth_of s x) (con.Eq (Var x) (Num q))).covers s.bound (split_at s (depth_of s x) (con.Eq (Var x) (Num q))).bound
    by-number q =
        let c : Con = con.Eq (Var x) (Num q) in
        let d : ℕ = depth_of s x in
        let same = same-universal d c x o.0 o.1 in
        pushed-split p s h d c (free c) (record { here = nobody (Lowered p s h d c (free c)) d; there = nowhere (Lowered p s h d c (free c)) d; equation = tt }) x (num q) refl
        (ap is_kind_matched (ap (λ (a : Made). a.kind) same ∙ o.1))
        (record {
          free = o.3;
          place = (let l : x < length s.made = o.0 in let m = long d c in omega (arith, l, m));
          owned = (λ e. still-owns (parted (next_variable s) c) s.bound d s.covers (entry (Lowered p s h d c (free c)) x).depth x (low-owned d c x o.0 o.1 o.2));
          terms = (λ n w i. absurd (true≢false (sym i)));
        })

    -- by another variable
    pub by-variable : (y : ℕ) → IsOther x y → Scopes p s.made (split_at s (depth_of s x) (con.Eq (Var x) (Var y))).made s.covers (split_at s (depth_of s x) (con.Eq (Var x) (Var y))).covers s.bound (split_at s (depth_of s x) (con.Eq (Var x) (Var y))).bound
    by-variable y k =
        pushed-split p s h d c (free c) (record { here = nobody made d; there = nowhere made d; equation = tt }) x (var y) refl
        (ap is_kind_matched (ap (λ (a : Made). a.kind) same ∙ o.1))
        (record {
          free = o.3;
          place = (let l : x < length s.made = o.0 in let m = long d c in omega (arith, l, m));
          owned = (λ e. still-owns (parted (next_variable s) c) s.bound d s.covers (entry made x).depth x (low-owned d c x o.0 o.1 o.2));
          terms = (λ n w i. one w (eqb-true w y i));
        })
      where
        c : Con
        c = con.Eq (Var x) (Var y)

        d : ℕ
        d = depth_of s x

        made : List Made
        made = Lowered p s h d c (free c)

        ds : List Cover
        ds = at_depth d (cover_parted (parted (next_variable s) c) s.bound) s.covers

        same : entry (Lowered p s h (depth_of s x) (con.Eq (Var x) (Var y)) (free (con.Eq (Var x) (Var y)))) x ≡ entry s.made x
        same = same-universal d c x o.0 o.1

        some : 0 < (entry s.made x).depth
        some = (owns-low s.covers h.placed (entry s.made x).depth x o.2).0

        listed : among y (con_vars (meaning s) (con.Eq (Var x) (Var y))) ≡ true
        listed = among-right y (term_vars (sub_of s.bound x)) (term_vars (sub_of s.bound y)) (itself y k.1)

        low-y : Lower (entry s.made y) (entry (Lowered p s h (depth_of s x) (con.Eq (Var x) (Var y)) (free (con.Eq (Var x) (Var y)))) y)
        low-y = low d c y k.0

        place-y : y < length (Lowered p s h (depth_of s x) (con.Eq (Var x) (Var y)) (free (con.Eq (Var x) (Var y))))
        place-y = let l : y < length s.made = k.0 in let m = long d c in omega (arith, l, m)

        fit : ((entry s.made y).kind ≡ Existential) ⊎ (((entry s.made y).kind ≡ Universal) × ((entry s.made y).depth ≤ (entry s.made x).depth) × (owns s.covers (entry s.made y).depth y ≡ true))
            → Under made x y × ((entry made y).kind ≡ Universal → owns ds (entry made y).depth y ≡ true)
        fit (inl e) =
            let small = below-split d c y k.0 e listed in (
              record {
                place = place-y;
                kinded = ap is_kind_matched (low-y.kind ∙ e);
                depth = subst (λ (a : Made). (entry made y).depth ≤ a.depth) (sym same) (omega (arith, small, some));
                strict = (λ f g. subst (λ (a : Made). (entry made y).depth < a.depth) (sym same) (omega (arith, small, some)));
              },
              λ f. absurd (true≢false (sym (ap is_kind_existential (low-y.kind ∙ e)) ∙ ap is_kind_existential f)),
            )
        fit (inr e) =
            let stays : entry made y ≡ entry s.made y = same-universal d c y k.0 e.0 in (
              record {
                place = place-y;
                kinded = ap is_kind_matched (low-y.kind ∙ e.0);
                depth = subst (λ (a : Made). (entry made y).depth ≤ a.depth) (sym same) (subst (λ (a : Made). a.depth ≤ (entry s.made x).depth) (sym stays) e.1);
                strict = (λ f g. absurd (true≢false (sym (ap is_kind_existential g) ∙ ap is_kind_existential (low-y.kind ∙ e.0))));
              },
              λ f. still-owns (parted (next_variable s) c) s.bound d s.covers (entry made y).depth y (low-owned d c y k.0 e.0 e.2),
            )

        one : (w : ℕ) → w ≡ y → Under made x w × (is_bound_in s.bound w ≡ false) × (w ≢ x) × ((entry made w).kind ≡ Universal → owns ds (entry made w).depth w ≡ true)
        one w e =
            subst (λ (z : ℕ). Under made x z × (is_bound_in s.bound z ≡ false) × (z ≢ x) × ((entry made z).kind ≡ Universal → owns ds (entry made z).depth z ≡ true)) (sym e)
            (let q = fit k.3 in (q.0, k.1, k.2, q.1))

    -- by a name with parts that are new
    pub by-shape : (f first k : ℕ) → ((w : ℕ) → first ≤ w → w < first + k → Owned s.made (entry s.made x).depth w × (is_bound_in s.bound w ≡ false) × (w ≢ x))
        → Scopes p s.made (split_at s (depth_of s x) (con.Eq (Var x) (App f (new_parts first k)))).made s.covers (split_at s (depth_of s x) (con.Eq (Var x) (App f (new_parts first k)))).covers s.bound (split_at s (depth_of s x) (con.Eq (Var x) (App f (new_parts first k)))).bound
    by-shape f first k new =
        pushed-split p s h d c (free c)
        (record {
          here = (λ w i. let q = part w (sym (all-vars-occur w (new_parts first k)) ∙ i) in (kept w q.0, q.1, (x, o.2)));
          there = nowhere made d;
          equation = tt;
        }) x (app f (new_parts first k)) refl
        (ap is_kind_matched (ap (λ (a : Made). a.kind) same ∙ o.1))
        (record {
          free = o.3;
          place = (let l : x < length s.made = o.0 in let m = long d c in omega (arith, l, m));
          owned = (λ e. still-owns (parted (next_variable s) c) s.bound d s.covers (entry made x).depth x (low-owned d c x o.0 o.1 o.2));
          terms = (λ n w i. let q = part w i in let r = kept w q.0 in (
            under w r,
            q.1,
            q.2,
            λ e. subst (λ (j : ℕ). owns ds j w ≡ true) (sym r.2)
                (owns-here (parted (next_variable s) c) s.bound d s.covers x w o.2 (all-vars-occur w (new_parts first k) ∙ i)),
          ));
        })
      where
        c : Con
        c = con.Eq (Var x) (App f (new_parts first k))

        d : ℕ
        d = depth_of s x

        made : List Made
        made = Lowered p s h d c (free c)

        ds : List Cover
        ds = at_depth d (cover_parted (parted (next_variable s) c) s.bound) s.covers

        same : entry (Lowered p s h (depth_of s x) (con.Eq (Var x) (App f (new_parts first k))) (free (con.Eq (Var x) (App f (new_parts first k))))) x ≡ entry s.made x
        same = same-universal d c x o.0 o.1

        part : (w : ℕ) → occurs_among w (new_parts first k) ≡ true → Owned s.made (entry s.made x).depth w × (is_bound_in s.bound w ≡ false) × (w ≢ x)
        part w i = let m = parts-span first k w i in new w m.0 m.1

        kept : (w : ℕ) → Owned s.made (entry s.made x).depth w → Owned (Lowered p s h (depth_of s x) (con.Eq (Var x) (App f (new_parts first k))) (free (con.Eq (Var x) (App f (new_parts first k))))) (depth_of s x) w
        kept w q =
            let stays = same-universal d c w q.0 q.1 in
            ((let l : w < length s.made = q.0 in let m = long d c in omega (arith, l, m)), ap (λ (a : Made). a.kind) stays ∙ q.1, ap (λ (a : Made). a.depth) stays ∙ q.2)

        under : (w : ℕ) → Owned (Lowered p s h (depth_of s x) (con.Eq (Var x) (App f (new_parts first k))) (free (con.Eq (Var x) (App f (new_parts first k))))) (depth_of s x) w → Under made x w
        under w r =
            let depth : (entry made w).depth ≡ (entry s.made x).depth = r.2 in
            record {
              place = r.0;
              kinded = ap is_kind_matched r.1;
              depth = subst (λ (a : Made). (entry made w).depth ≤ a.depth) (sym same) (omega (arith, depth));
              strict = (λ e g. absurd (true≢false (sym (ap is_kind_existential g) ∙ ap is_kind_existential r.1)));
            }

  -- ---- an existential variable that is bound

  -- what it is bound to is free, another, and existential, or universal, owned and not deeper
  pub bind-scopes : (x : ℕ) (t : Tm) → x < length s.made → (entry s.made x).kind ≡ Existential → is_bound_in s.bound x ≡ false → ((w : ℕ) → occurs w t ≡ true → IsOther x w)
      → Scopes p s.made (bind s x t).made s.covers (bind s x t).covers s.bound (bind s x t).bound
  bind-scopes x t l e f k =
      scopes-then p s.made made made s.covers s.covers s.covers s.bound s.bound (s.bound ++ binding x t ∷ []) room-made
      (pushed-scopes p made s.covers s.bound room-made.sound x t
      (record {
        free = f;
        place = omega (arith, l, many);
        owned = (λ g. absurd (true≢false (sym (ap is_kind_existential e) ∙ ap is_kind_existential (sym (ap (λ (a : Made). a.kind) same) ∙ g))));
        terms = (λ n w o. fit w o (k w o) (k w o).3);
      }) (ap is_kind_matched (ap (λ (a : Made). a.kind) same ∙ e)))
    where
      d : ℕ
      d = depth_of s x

      made : List Made
      made = lowered d (term_vars t) s.made

      many : length (lowered (depth_of s x) (term_vars t) s.made) ≡ length s.made
      many = lowered-length d (term_vars t) s.made

      room-made : Scopes p s.made (lowered (depth_of s x) (term_vars t) s.made) s.covers s.covers s.bound s.bound
      room-made = lowered-scopes p s.made s.covers s.bound h d (term_vars t) (λ z i. (k z (sym (vars-occur z t) ∙ i)).1)

      out : among x (term_vars t) ≡ false
      out = by (cases_Bool (among x (term_vars t)))
        where
          by : (among x (term_vars t) ≡ true) ⊎ (among x (term_vars t) ≡ false) → among x (term_vars t) ≡ false
          by (inl i) = absurd ((k x (sym (vars-occur x t) ∙ i)).2 refl)
          by (inr i) = i

      same : entry (lowered (depth_of s x) (term_vars t) s.made) x ≡ entry s.made x
      same = lowered-other d (term_vars t) s.made x out

      fit : (w : ℕ) → occurs w t ≡ true → IsOther x w
          → ((entry s.made w).kind ≡ Existential) ⊎ (((entry s.made w).kind ≡ Universal) × ((entry s.made w).depth ≤ (entry s.made x).depth) × (owns s.covers (entry s.made w).depth w ≡ true))
          → Under (lowered (depth_of s x) (term_vars t) s.made) x w × (is_bound_in s.bound w ≡ false) × (w ≢ x)
          × ((entry (lowered (depth_of s x) (term_vars t) s.made) w).kind ≡ Universal → owns s.covers (entry (lowered (depth_of s x) (term_vars t) s.made) w).depth w ≡ true)
      fit w o q (inl g) =
          let lo = lowered-lowers d (term_vars t) s.made w in
          let small = lowered-small d (term_vars t) s.made w (vars-occur w t ∙ o) q.0 (ap is_kind_existential g) in (
            record {
              place = (let m : w < length s.made = q.0 in omega (arith, m, many));
              kinded = ap is_kind_matched (lo.kind ∙ g);
              depth = subst (λ (a : Made). (entry made w).depth ≤ a.depth) (sym same) small;
              strict = (λ i j. absurd (true≢false (sym (ap is_kind_existential e) ∙ ap is_kind_existential (sym (ap (λ (a : Made). a.kind) same) ∙ i))));
            },
            q.1,
            q.2,
            λ i. absurd (true≢false (sym (ap is_kind_existential (lo.kind ∙ g)) ∙ ap is_kind_existential i)),
          )
      fit w o q (inr g) =
          let lo = lowered-lowers d (term_vars t) s.made w in
          let stays : entry made w ≡ entry s.made w = lo.fixed (ap is_kind_existential g.0) in (
            record {
              place = (let m : w < length s.made = q.0 in omega (arith, m, many));
              kinded = ap is_kind_matched (lo.kind ∙ g.0);
              depth = subst (λ (a : Made). (entry made w).depth ≤ a.depth) (sym same) (subst (λ (a : Made). a.depth ≤ (entry s.made x).depth) (sym stays) g.1);
              strict = (λ i j. absurd (true≢false (sym (ap is_kind_existential e) ∙ ap is_kind_existential (sym (ap (λ (a : Made). a.kind) same) ∙ i))));
            },
            q.1,
            q.2,
            λ i. subst (λ (a : Made). owns s.covers a.depth w ≡ true) (sym stays) g.2,
          )
