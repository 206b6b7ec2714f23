-- What is assumed keeps what is owned.
use Rattle.std.specs.Prelude.{◌≡◌, ◌≢◌, ◌⊎◌, ℕ, ◌<◌, ◌≤◌, max, Bool, true, false, not, if◌then◌else◌, Option, Some, None, List, [], ◌∷◌, ◌++◌, length, map, filter}
use Rattle.std.specs.List.{fold}
use Rattle.std.proofs.Common.{refl, arith, ap, sym, subst, ◌∙◌, inl, inr}
use Rattle.std.proofs.lemmas.Bool.{eq-eqb, ne_eqb, true≢false}
use Rattle.std.proofs.lemmas.List.{append-nil}
use Rattle.scasp_num.specs.Linear.{Linear}
use Rattle.scasp_num.specs.Number.{Number}
use Rattle.scasp_search_rules.specs.declared.states.outcomes.Status.{Status}
use Rattle.scasp_search_rules.specs.declared.states.outcomes.Status.TheVariants.{Entailed, Impossible, Added, Parts as Parted}
use Rattle.scasp_search_rules.specs.declared.states.state.Kind.{Kind}
use Rattle.scasp_search_rules.specs.declared.states.state.Kind.TheVariants.{Existential, Universal, Matched}
use Rattle.scasp_search_rules.specs.declared.states.state.State.{State}
use Rattle.scasp_search_rules.specs.Successors.Assumptions.{performed, as_read, status, assume, against, along}
use Rattle.scasp_search_rules.specs.Successors.Falls.{EachState}
use Rattle.scasp_search_rules.specs.Successors.Reading.{con_vars, holds_always, not_shaped, row_under, term_under}
use Rattle.scasp_search_rules.specs.Successors.Regions.{with_given}
use Rattle.scasp_search_rules.specs.Successors.Splits.{is_bound_in, split, split_at, owner, greatest, numbered_to, is_number_by, replacement, bound_by}
use Rattle.scasp_search_rules.specs.Successors.Variables.{depth_of, is_universal, is_empty, is_kind_universal, meaning, universals_of}
use Rattle.scasp_syntax.specs.Constraints.{has_shape}
use Rattle.scasp_syntax.specs.Same.{same_number}
use Rattle.scasp_syntax.specs.Tm.{Tm, var, num, app}
use Rattle.scasp_syntax.specs.declared.con.Con.{Con}
use Rattle.scasp_syntax.specs.declared.con.Con.TheVariants as con
use Rattle.scasp_syntax.specs.declared.program.Program.{Program}
use Rattle.scasp_syntax.specs.declared.term.Term.TheVariants.{Var, Num, App}
use Rattle.scasp_unify.specs.Parts.{Part, occurs}
use Rattle.scasp_unify.specs.SimpleForm.{simple, by_parts, term_with}
use Rattle.scasp_unify.specs.Solving.{sub_of}
use Rattle.scasp_unify.specs.Unification.{term_vars}
use Rattle.scasp_unify.specs.declared.bindings.Binding.{Binding}
use Rattle.scasp_unify.proofs.LaterParts.{parts-same}
use Rattle.scasp_law_first_event.proofs.Bindings.{Solved, unbound-self}
use Rattle.scasp_law_first_event.proofs.Keeping.{solved-more}
use Rattle.scasp_law_first_event.proofs.Terms.{EachVar}
use Rattle.scasp_law_no_circle.proofs.Meeting.{met-good, met-reads, read-unbound}
use Rattle.scasp_law_no_circle.proofs.Places.{entry, owns}
use Rattle.scasp_law_no_circle.proofs.Scope.{Good, existential, universal, matched, good-made, Scoped, Sound, Scopes, scopes-then, scopes-itself}
use Rattle.scasp_law_no_circle.proofs.Sides.{IsOpen, IsOther, one-owner, number-split, no-number-split, row-split, Blunt, blunt-split, shape-split, value-split, variable-split}
use Rattle.scasp_law_no_circle.proofs.Tasks.{Assumed, Frees, StandsFirst}

-- with the same bindings and the same work
pub record Assumes (p : Program) (s r : State) : Type 0 where
  pub scopes : Scopes p s.made r.made s.covers r.covers s.bound r.bound
  pub work : r.work ≡ s.work
  pub bound : r.bound ≡ s.bound

pub assumes-then : (p : Program) (s r t : State) → Assumes p s r → Assumes p r t → Assumes p s t
assumes-then p s r t a b = record {
  scopes = scopes-then p s.made r.made t.made s.covers r.covers t.covers s.bound r.bound t.bound a.scopes b.scopes;
  work = b.work ∙ a.work;
  bound = b.bound ∙ a.bound;
}

-- and with the same variables
pub record Quiet (p : Program) (s r : State) : Type 0 where
  pub assumes : Assumes p s r
  pub made : r.made ≡ s.made

-- ---- kinds by their tests

pub kind-universal : (k : Kind) → is_kind_universal k ≡ true → k ≡ Universal
kind-universal Existential e = absurd (true≢false (sym e))
kind-universal Universal e = refl
kind-universal Matched e = absurd (true≢false (sym e))

-- a variable in scope that is free is existential, or universal and owned
pub kind-of : (s : State) (n z : ℕ) → Good s.made s.covers s.bound n z → is_bound_in s.bound z ≡ false
    → ((entry s.made z).kind ≡ Existential) ⊎ (((entry s.made z).kind ≡ Universal) × (owns s.covers (entry s.made z).depth z ≡ true))
kind-of s n z (existential l e d) f = inl e
kind-of s n z (universal l e d o) f = inr (e, o)
kind-of s n z (matched l e b) f = absurd (true≢false (sym b ∙ f))

pub made-of : (s : State) (n z : ℕ) → Good s.made s.covers s.bound n z → z < length s.made
made-of s n z g = good-made s.made s.covers s.bound n z g

module _ (p : Program) (s : State) (h : Sound p s.made s.covers s.bound) (solved : Solved (length s.made) s.bound) where
  pub open-of : (n x : ℕ) → Good s.made s.covers s.bound n x → is_bound_in s.bound x ≡ false → is_universal s x ≡ true → IsOpen p s h solved x
  open-of n x g f e = (made-of s n x g, kind, by (kind-of s n x g f), f)
    where
      kind : (entry s.made x).kind ≡ Universal
      kind = kind-universal (entry s.made x).kind e

      by : ((entry s.made x).kind ≡ Existential) ⊎ (((entry s.made x).kind ≡ Universal) × (owns s.covers (entry s.made x).depth x ≡ true)) → owns s.covers (entry s.made x).depth x ≡ true
      by (inl d) = absurd (true≢false (sym e ∙ ap is_kind_universal d))
      by (inr d) = d.1

  pub assumes-itself : Assumes p s s
  assumes-itself = record { scopes = scopes-itself p s.made s.covers s.bound h; work = refl; bound = refl }

  given-assumes : (c : Con) → Assumes p s (with_given s c)
  given-assumes c = record { scopes = scopes-itself p s.made s.covers s.bound h; work = refl; bound = refl }

  split-assumes : (d : ℕ) (c : Con) → bound_by (replacement c) ≡ [] → Scopes p s.made (split_at s d c).made s.covers (split_at s d c).covers s.bound (split_at s d c).bound → Assumes p s (split_at s d c)
  split-assumes d c e k = record { scopes = k; work = refl; bound = ap (λ (bs : List Binding). s.bound ++ bs) e ∙ append-nil s.bound }

  blunt-assumes : (c : Con) → Blunt p s h solved c → Assumes p s (split s c)
  blunt-assumes (con.Eq (Num q) u) b = split-assumes (owner s (con.Eq (Num q) u)) (con.Eq (Num q) u) refl (blunt-split p s h solved (owner s (con.Eq (Num q) u)) (con.Eq (Num q) u) tt)
  blunt-assumes (con.Eq (App f ts) u) b = split-assumes (owner s (con.Eq (App f ts) u)) (con.Eq (App f ts) u) refl (blunt-split p s h solved (owner s (con.Eq (App f ts) u)) (con.Eq (App f ts) u) tt)
  blunt-assumes (con.Neq (Num q) u) b = split-assumes (owner s (con.Neq (Num q) u)) (con.Neq (Num q) u) refl (blunt-split p s h solved (owner s (con.Neq (Num q) u)) (con.Neq (Num q) u) tt)
  blunt-assumes (con.Neq (App f ts) u) b = split-assumes (owner s (con.Neq (App f ts) u)) (con.Neq (App f ts) u) refl (blunt-split p s h solved (owner s (con.Neq (App f ts) u)) (con.Neq (App f ts) u) tt)
  blunt-assumes (con.Eq (Var x) u) b = absurd b
  blunt-assumes (con.Neq (Var x) u) b = absurd b
  blunt-assumes (con.NotShape x f k) b = absurd b
  blunt-assumes (con.Num t) b = absurd b
  blunt-assumes (con.NotNum t) b = absurd b
  blunt-assumes (con.Row r) b = absurd b

  numbered-assumes : (d x : ℕ) → Assumes p s (numbered_to d s x)
  numbered-assumes d x = by (is_number_by s d x) (is_universal s x)
    where
      by : (known owned : Bool) → Assumes p s (if known then s else (if owned then split_at s (depth_of s x) (con.Num (Var x)) else with_given s (con.Num (Var x))))
      by true owned = assumes-itself
      by false true = split-assumes (depth_of s x) (con.Num (Var x)) refl (number-split p s h solved (depth_of s x) (Var x))
      by false false = given-assumes (con.Num (Var x))

  -- ---- one that parts a case, as it reads

  -- the one universal variable that a constraint reads to
  some-universal : (x y : ℕ) → sub_of s.bound x ≡ var y → is_empty (filter (is_universal s) (term_vars (sub_of s.bound x))) ≡ false → is_universal s y ≡ true
  some-universal x y e f = by (is_universal s y) refl (sym (ap (λ (t : Tm). is_empty (filter (is_universal s) (term_vars t))) e) ∙ f)
    where
      by : (b : Bool) → is_universal s y ≡ b → is_empty (if b then y ∷ [] else []) ≡ false → is_universal s y ≡ true
      by true g k = g
      by false g k = absurd (true≢false k)

  read-good : (n x y : ℕ) → Scoped s.made s.covers s.bound n x → sub_of s.bound x ≡ var y → Good s.made s.covers s.bound n y × (is_bound_in s.bound y ≡ false)
  read-good n x y m e = (
    subst (EachVar (Good s.made s.covers s.bound n)) e (met-reads (Good s.made s.covers s.bound n) s.bound x m),
    read-unbound (length s.made) s.bound solved x y (ap (occurs y) e ∙ eq-eqb y y refl),
  )

  shape-assumes : (n x f k : ℕ) → Scoped s.made s.covers s.bound n x → is_empty (universals_of s (con.NotShape x f k)) ≡ false → Assumes p s (split s (as_read s (con.NotShape x f k)))
  shape-assumes n x f k m u = by (sub_of s.bound x) refl
    where
      by : (t : Tm) → sub_of s.bound x ≡ t → Assumes p s (split s (simple (not_shaped t f k)))
      by (var y) e =
          let g = read-good n x y m e in
          let o = open-of n y g.0 g.1 (some-universal x y e u) in
          let same : owner s (con.NotShape y f k) ≡ depth_of s y =
          ap (λ (t : Tm). greatest (map (depth_of s) (filter (is_universal s) (term_vars t)))) (unbound-self s.bound y g.1) ∙ one-owner s y (some-universal x y e u) in
          subst (λ (d : ℕ). Assumes p s (split_at s d (con.NotShape y f k))) (sym same) (split-assumes (depth_of s y) (con.NotShape y f k) refl (shape-split p s h solved y f k o))
      by (num q) e = blunt-assumes (con.Eq (Num q) (Num q)) tt
      by (app g us) e = shaped (has_shape f k (app g us))
        where
          shaped : (b : Bool) → Assumes p s (split s (simple (if b then con.Neq (App g us) (App g us) else con.Eq (App g us) (App g us))))
          shaped true =
              subst (λ (o : Option (List Part)). Assumes p s (split s (by_parts (con.Neq (App g us) (App g us)) o))) (sym (parts-same (app g us)))
              (blunt-assumes (con.Neq (App g us) (App g us)) tt)
          shaped false = blunt-assumes (con.Eq (App g us) (App g us)) tt

  value-assumes : (n x : ℕ) (q : Number) → Scoped s.made s.covers s.bound n x → is_empty (universals_of s (con.Neq (Var x) (Num q))) ≡ false → Assumes p s (split s (as_read s (con.Neq (Var x) (Num q))))
  value-assumes n x q m u = by (sub_of s.bound x) refl
    where
      alone : universals_of s (con.Neq (Var x) (Num q)) ≡ filter (is_universal s) (term_vars (sub_of s.bound x))
      alone = ap (filter (is_universal s)) (append-nil (term_vars (sub_of s.bound x)))

      by : (t : Tm) → sub_of s.bound x ≡ t → Assumes p s (split s (simple (con.Neq (term_with t) (Num q))))
      by (var y) e =
          let g = read-good n x y m e in
          let some = some-universal x y e (sym (ap is_empty alone) ∙ u) in
          let o = open-of n y g.0 g.1 some in
          let same : owner s (con.Neq (Var y) (Num q)) ≡ depth_of s y =
          ap (λ (t : Tm). greatest (map (depth_of s) (filter (is_universal s) (term_vars t ++ [])))) (unbound-self s.bound y g.1) ∙ one-owner s y some in
          subst (λ (d : ℕ). Assumes p s (split_at s d (con.Neq (Var y) (Num q)))) (sym same) (split-assumes (depth_of s y) (con.Neq (Var y) (Num q)) refl (value-split p s h solved y q o))
      by (num r) e = valued (same_number r q)
        where
          valued : (b : Bool) → Assumes p s (split s (by_parts (con.Neq (Num r) (Num q)) (if b then Some [] else None)))
          valued true = blunt-assumes (con.Neq (Num r) (Num q)) tt
          valued false = blunt-assumes (con.Neq (Num r) (Num q)) tt
      by (app g us) e = blunt-assumes (con.Neq (App g us) (Num q)) tt

  variables-read : (x y : ℕ) → is_bound_in s.bound x ≡ false → is_bound_in s.bound y ≡ false → y ≢ x → as_read s (con.Neq (Var x) (Var y)) ≡ con.Neq (Var x) (Var y)
  variables-read x y a b n =
      ap (λ (t : Tm). simple (con.Neq (term_with t) (term_with (sub_of s.bound y)))) (unbound-self s.bound x a)
      ∙ ap (λ (t : Tm). simple (con.Neq (Var x) (term_with t))) (unbound-self s.bound y b)
      ∙ ap (λ (b : Bool). by_parts (con.Neq (Var x) (Var y)) (if b then Some [] else Some (record { at = x; term = var y; turned = false } ∷ []))) (ne_eqb x y (λ e. n (sym e)))

  variables-assume : (n x y : ℕ) → Frees s.made s.covers s.bound n x → Frees s.made s.covers s.bound n y → y ≢ x → StandsFirst s.made x y → is_empty (universals_of s (con.Neq (Var x) (Var y))) ≡ false
      → Assumes p s (split s (as_read s (con.Neq (Var x) (Var y))))
  variables-assume n x y a b d first u = subst (λ (c : Con). Assumes p s (split s c)) (sym (variables-read x y a.1 b.1 d)) (by (is_universal s x) (is_universal s y) refl refl)
    where
      gx : Good s.made s.covers s.bound n x
      gx = met-good (Good s.made s.covers s.bound n) s.bound x a.0

      gy : Good s.made s.covers s.bound n y
      gy = met-good (Good s.made s.covers s.bound n) s.bound y b.0

      vars : con_vars (meaning s) (con.Neq (Var x) (Var y)) ≡ x ∷ y ∷ []
      vars = ap (λ (t : Tm). term_vars t ++ term_vars (sub_of s.bound y)) (unbound-self s.bound x a.1) ∙ ap (λ (t : Tm). x ∷ term_vars t) (unbound-self s.bound y b.1)

      other : (((entry s.made y).kind ≡ Existential) ⊎ (((entry s.made y).kind ≡ Universal) × (owns s.covers (entry s.made y).depth y ≡ true)))
          → ((entry s.made y).kind ≡ Universal → (entry s.made y).depth ≤ (entry s.made x).depth) → IsOther p s h solved x y
      other (inl e) f = (made-of s n y gy, b.1, d, inl e)
      other (inr e) f = (made-of s n y gy, b.1, d, inr (e.0, f e.0, e.1))

      done : is_universal s x ≡ true → owner s (con.Neq (Var x) (Var y)) ≡ depth_of s x → ((entry s.made y).kind ≡ Universal → (entry s.made y).depth ≤ (entry s.made x).depth)
          → Assumes p s (split s (con.Neq (Var x) (Var y)))
      done e same f =
          subst (λ (k : ℕ). Assumes p s (split_at s k (con.Neq (Var x) (Var y)))) (sym same)
          (split-assumes (depth_of s x) (con.Neq (Var x) (Var y)) refl (variable-split p s h solved x y (open-of n x gx a.1 e) (other (kind-of s n y gy b.1) f)))

      listed : (i j : Bool) → is_universal s x ≡ i → is_universal s y ≡ j → filter (is_universal s) (x ∷ y ∷ []) ≡ (if i then x ∷ (if j then y ∷ [] else []) else (if j then y ∷ [] else []))
      listed i j e f =
          ap (λ (b : Bool). if b then x ∷ (if is_universal s y then y ∷ [] else []) else (if is_universal s y then y ∷ [] else [])) e
          ∙ ap (λ (b : Bool). if i then x ∷ (if b then y ∷ [] else []) else (if b then y ∷ [] else [])) f

      owned : (i j : Bool) → is_universal s x ≡ i → is_universal s y ≡ j → owner s (con.Neq (Var x) (Var y)) ≡ greatest (map (depth_of s) (if i then x ∷ (if j then y ∷ [] else []) else (if j then y ∷ [] else [])))
      owned i j e f = ap (λ (xs : List ℕ). greatest (map (depth_of s) (filter (is_universal s) xs))) vars ∙ ap (λ (xs : List ℕ). greatest (map (depth_of s) xs)) (listed i j e f)

      stands : StandsFirst s.made x y → is_universal s y ≡ true → (is_universal s x ≡ true) × ((entry s.made y).depth ≤ (entry s.made x).depth)
      stands (inl e) f = absurd (true≢false (sym f ∙ e))
      stands (inr e) f = e

      by : (i j : Bool) → is_universal s x ≡ i → is_universal s y ≡ j → Assumes p s (split s (con.Neq (Var x) (Var y)))
      by true true e f =
          let k = stands first f in
          let less : depth_of s y ≤ depth_of s x = k.1 in
          let deep : max (depth_of s x) (max (depth_of s y) 0) ≡ depth_of s x = omega (arith, less) in
          done e (owned true true e f ∙ deep) (λ g. k.1)
      by true false e f =
          let deep : max (depth_of s x) 0 ≡ depth_of s x = omega arith in
          done e (owned true false e f ∙ deep) (λ g. absurd (true≢false (sym (ap is_kind_universal g) ∙ f)))
      by false true e f = absurd (true≢false (sym (stands first f).0 ∙ e))
      by false false e f = absurd (true≢false (sym (ap is_empty (ap (filter (is_universal s)) vars ∙ listed false false e f)) ∙ u))

-- ---- each of the number tests of a row

all-numbered : (p : Program) (d : ℕ) (s : State) → Sound p s.made s.covers s.bound → Solved (length s.made) s.bound → (xs : List ℕ) → Assumes p s (fold (numbered_to d) s xs)
all-numbered p d s h solved [] = assumes-itself p s h solved
all-numbered p d s h solved (x ∷ xs) =
    let t : State = numbered_to d s x in
    let a : Assumes p s t = numbered-assumes p s h solved d x in
    assumes-then p s t (fold (numbered_to d) s (x ∷ xs)) a
    (all-numbered p d t a.scopes.sound (subst (Solved (length t.made)) (sym a.bound) (solved-more (length s.made) (length t.made) a.scopes.long s.bound solved)) xs)

row-assumes : (p : Program) (s : State) → Sound p s.made s.covers s.bound → Solved (length s.made) s.bound → (r : Linear) → Assumes p s (split s (con.Row r))
row-assumes p s h solved r =
    let xs : List ℕ = map (λ k. k.x) r.coeffs in
    let d : ℕ = owner s (con.Row r) in
    let t : State = fold (numbered_to d) s xs in
    let a : Assumes p s t = all-numbered p d s h solved xs in
    let long : Solved (length t.made) t.bound = subst (Solved (length t.made)) (sym a.bound) (solved-more (length s.made) (length t.made) a.scopes.long s.bound solved) in
    assumes-then p s t (split_at t d (con.Row r)) a (split-assumes p t a.scopes.sound long d (con.Row r) refl (row-split p t a.scopes.sound long d r))

-- ---- assuming

parts-chosen : (a b e g : Bool) → (if a then Entailed else (if not b then Entailed else (if not e then Impossible else (if g then Added else Parted)))) ≡ Parted → g ≡ false
parts-chosen true b e g k = absurd (cc k)
parts-chosen false false e g k = absurd (cc k)
parts-chosen false true false g k = absurd (cc k)
parts-chosen false true true true k = absurd (cc k)
parts-chosen false true true false k = refl

module _ (p : Program) (sat : List Con → Bool) (s : State) (h : Sound p s.made s.covers s.bound) (solved : Solved (length s.made) s.bound) where
  parts-assume : (n : ℕ) (c : Con) → Assumed s.made s.covers s.bound n c → is_empty (universals_of s c) ≡ false → Assumes p s (split s (as_read s c))
  parts-assume n (con.Eq t u) a e = absurd a
  parts-assume n (con.Neq (Var x) (Var y)) a e = variables-assume p s h solved n x y a.0 a.1 a.2 a.3 e
  parts-assume n (con.Neq (Var x) (Num q)) a e = value-assumes p s h solved n x q a e
  parts-assume n (con.Neq (Var x) (App f ts)) a e = absurd a
  parts-assume n (con.Neq (Num q) u) a e = absurd a
  parts-assume n (con.Neq (App f ts) u) a e = absurd a
  parts-assume n (con.NotShape x f k) a e = shape-assumes p s h solved n x f k a e
  parts-assume n (con.Num t) a e =
      let v = term_under (meaning s) t in split-assumes p s h solved (owner s (con.Num v)) (con.Num v) refl (number-split p s h solved (owner s (con.Num v)) v)
  parts-assume n (con.NotNum t) a e =
      let v = term_under (meaning s) t in split-assumes p s h solved (owner s (con.NotNum v)) (con.NotNum v) refl (no-number-split p s h solved (owner s (con.NotNum v)) v)
  parts-assume n (con.Row r) a e = row-assumes p s h solved (row_under (meaning s) r)

  pub assume-assumes : (n : ℕ) (c : Con) → Assumed s.made s.covers s.bound n c → EachState (Assumes p s) (assume sat s c).states
  assume-assumes n c a = by (status sat s c) refl
    where
      by : (o : Status) → status sat s c ≡ o → EachState (Assumes p s) (performed s (as_read s c) o)
      by Entailed e = (assumes-itself p s h solved, tt)
      by Impossible e = tt
      by Added e = (given-assumes p s h solved (as_read s c), tt)
      by Parted e = (parts-assume n c a (parts-chosen (holds_always (as_read s c)) (sat (against s c)) (sat (along s c)) (is_empty (universals_of s c)) e), tt)

  -- where nothing universal is read nothing is parted
  pub quiet-assumes : (c : Con) → is_empty (universals_of s c) ≡ true → EachState (Quiet p s) (assume sat s c).states
  quiet-assumes c q = by (status sat s c) refl
    where
      by : (o : Status) → status sat s c ≡ o → EachState (Quiet p s) (performed s (as_read s c) o)
      by Entailed e = (record { assumes = assumes-itself p s h solved; made = refl }, tt)
      by Impossible e = tt
      by Added e = (record { assumes = given-assumes p s h solved (as_read s c); made = refl }, tt)
      by Parted e = absurd (true≢false (sym q ∙ parts-chosen (holds_always (as_read s c)) (sat (against s c)) (sat (along s c)) (is_empty (universals_of s c)) e))
