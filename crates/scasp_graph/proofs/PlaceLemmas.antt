-- Places of predicates among distinct ones.
use Rattle.std.proofs.Common.{◌≡◌, ◌∙◌, ◌∷◌, ◌++◌, ℕ, ◌+◌, Bool, true, false, ◌&&◌, ◌||◌, cond, nat_eq, List, [], length, Some, None, refl, ap, sym, arith}
use Rattle.std.specs.List.{list_any, position, position_from}
use Rattle.std.proofs.lemmas.Bool.{cond-true, cond-false}
use Rattle.std.proofs.lemmas.Iterator.Adapters.{position_from-zero}
use mathlib.Core.Bool.{beq}
use Rattle.scasp_syntax.specs.Same.{same_pred, same_bool}
use Rattle.scasp_syntax.specs.contracts.atom.PredPartialEq.TheImpl.{eq-value}
use Rattle.scasp_syntax.specs.declared.atom.Pred.{Pred}
use Rattle.scasp_graph.specs.Inside.Growing.{with_pred}
use Rattle.scasp_graph.specs.Numbering.{place_in}

three : (a b n r : Bool) → (beq a b && (n && r)) ≡ ((same_bool a b && n) && r)
three true true true r = refl
three true true false r = refl
three true false n r = refl
three false true n r = refl
three false false true r = refl
three false false false r = refl

-- the derived test of equality
pub eq-is : (p q : Pred) → eq-value.it p q ≡ same_pred p q
eq-is p q = three p.minus q.minus (nat_eq p.name q.name) (nat_eq p.arity q.arity)

module _ (t : Pred → Bool) (p : Pred) (same : (q : Pred) → t q ≡ same_pred p q) where
  from-some : (n i : ℕ) (ps : List Pred) → position_from t n ps ≡ Some i → i ≡ n + place_in ps p
  from-some n i [] h = cc
  from-some n i (q ∷ qs) h = by (t q) refl (from-some (n + 1) i qs)
    where
      by : (b : Bool) → t q ≡ b → (position_from t (n + 1) qs ≡ Some i → i ≡ (n + 1) + place_in qs p) → i ≡ n + place_in (q ∷ qs) p
      by true e r =
          let s : Some n ≡ Some i = sym (cond-true (t q) (Some n) (position_from t (n + 1) qs) e) ∙ h in
          let k : n ≡ i = cc in
          let z = cond-true (same_pred p q) 0 (place_in qs p + 1) (sym (same q) ∙ e) in
          omega (arith, k, z)
      by false e r =
          let k = r (sym (cond-false (t q) (Some n) (position_from t (n + 1) qs) e) ∙ h) in
          let z = cond-false (same_pred p q) 0 (place_in qs p + 1) (sym (same q) ∙ e) in
          omega (arith, k, z)

  from-none : (n : ℕ) (ps : List Pred) → position_from t n ps ≡ None → place_in ps p ≡ length ps
  from-none n [] h = refl
  from-none n (q ∷ qs) h = by (t q) refl (from-none (n + 1) qs)
    where
      by : (b : Bool) → t q ≡ b → (position_from t (n + 1) qs ≡ None → place_in qs p ≡ length qs) → place_in (q ∷ qs) p ≡ length (q ∷ qs)
      by true e r = let s : Some n ≡ None = sym (cond-true (t q) (Some n) (position_from t (n + 1) qs) e) ∙ h in cc
      by false e r =
          let k = r (sym (cond-false (t q) (Some n) (position_from t (n + 1) qs) e) ∙ h) in
          let z = cond-false (same_pred p q) 0 (place_in qs p + 1) (sym (same q) ∙ e) in
          omega (arith, k, z)

  -- the place that is found, and the length where none is
  pub place-found : (i : ℕ) (ps : List Pred) → Some i ≡ position t ps → i ≡ place_in ps p
  place-found i ps h = let k = from-some 0 i ps (sym (h ∙ position_from-zero t ps)) in omega (arith, k)

  pub place-missing : (ps : List Pred) → None ≡ position t ps → place_in ps p ≡ length ps
  place-missing ps h = from-none 0 ps (sym (h ∙ position_from-zero t ps))

  any-same : (ps : List Pred) → list_any t ps ≡ list_any (same_pred p) ps
  any-same [] = refl
  any-same (q ∷ qs) = ap (λ z. z || list_any t qs) (same q) ∙ ap (λ z. same_pred p q || z) (any-same qs)

  pub inserted : (ps after : List Pred) → after ≡ cond (list_any t ps) ps (ps ++ p ∷ []) → after ≡ with_pred ps p
  inserted ps after h = h ∙ ap (λ b. cond b ps (ps ++ p ∷ [])) (any-same ps)
