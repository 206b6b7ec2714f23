-- The test of equality of rows decides it.
use Rattle.std.proofs.Common.{◌≡◌, ◌==◌, ◌↔◌, IsTrue, true, ◌&&◌, List, [], ◌∷◌, refl, subst, eq-eqb}
use Rattle.std.specs.Ordering.{int_eq}
use Rattle.std.proofs.lemmas.Bool.{and_from, and_parts, eqb-true}
use Rattle.std.proofs.lemmas.Bool.Decides.{Decides-int_eq}
use Rattle.scasp_num.specs.declared.linear.Coeff.{Coeff}
use Rattle.scasp_num.specs.declared.linear.Op.{Op}
use Rattle.scasp_num.specs.declared.linear.Op.TheVariants as op
use Rattle.scasp_num.specs.Linear.{Linear}
use Rattle.scasp_num.specs.SameRow.{same_op, same_terms, same_row}

terms-same : (p q : List Coeff) → same_terms p q ≡ true → p ≡ q
terms-same [] [] e = refl
terms-same [] (j ∷ js) e = cc
terms-same (k ∷ ks) [] e = cc
terms-same (k ∷ ks) (j ∷ js) e =
    let parts = and_parts (k.x == j.x && int_eq k.c j.c) (same_terms ks js) e in
    let heads = and_parts (k.x == j.x) (int_eq k.c j.c) parts.0 in
    let c : k.c ≡ j.c = (Decides-int_eq k.c j.c).0 heads.1 in
    let x : k.x ≡ j.x = eqb-true k.x j.x heads.0 in
    let rest = terms-same ks js parts.1 in
    λ i. record { x = x i; c = c i } ∷ rest i

op-same : (o u : Op) → same_op o u ≡ true → o ≡ u
op-same op.Eq op.Eq e = refl
op-same op.Lt op.Lt e = refl
op-same op.Le op.Le e = refl
op-same op.Ne op.Ne e = refl
op-same op.Eq op.Lt e = cc
op-same op.Eq op.Le e = cc
op-same op.Eq op.Ne e = cc
op-same op.Lt op.Eq e = cc
op-same op.Lt op.Le e = cc
op-same op.Lt op.Ne e = cc
op-same op.Le op.Eq e = cc
op-same op.Le op.Lt e = cc
op-same op.Le op.Ne e = cc
op-same op.Ne op.Eq e = cc
op-same op.Ne op.Lt e = cc
op-same op.Ne op.Le e = cc

pub row-same : (p q : Linear) → same_row p q ≡ true → p ≡ q
row-same p q e =
    let parts = and_parts (same_op p.op q.op && int_eq p.constant q.constant) (same_terms p.coeffs q.coeffs) e in
    let heads = and_parts (same_op p.op q.op) (int_eq p.constant q.constant) parts.0 in
    let c : p.constant ≡ q.constant = (Decides-int_eq p.constant q.constant).0 heads.1 in
    let o = op-same p.op q.op heads.0 in
    let t = terms-same p.coeffs q.coeffs parts.1 in
    λ i. record { coeffs = t i; constant = c i; op = o i }

-- ---- a row is the same as itself

same-terms : (ks : List Coeff) → same_terms ks ks ≡ true
same-terms [] = refl
same-terms (k ∷ ks) =
    and_from (k.x == k.x && int_eq k.c k.c) (same_terms ks ks) (and_from (k.x == k.x) (int_eq k.c k.c) (eq-eqb k.x k.x refl) ((Decides-int_eq k.c k.c).1 refl)) (same-terms ks)

same-op : (o : Op) → same_op o o ≡ true
same-op op.Eq = refl
same-op op.Lt = refl
same-op op.Le = refl
same-op op.Ne = refl

same-row : (p : Linear) → same_row p p ≡ true
same-row p =
    and_from (same_op p.op p.op && int_eq p.constant p.constant) (same_terms p.coeffs p.coeffs)
    (and_from (same_op p.op p.op) (int_eq p.constant p.constant) (same-op p.op) ((Decides-int_eq p.constant p.constant).1 refl)) (same-terms p.coeffs)

pub row-decided : (p q : Linear) → IsTrue (same_row p q) ↔ (p ≡ q)
row-decided p q = (row-same p q, λ e. subst (λ (r : Linear). same_row p r ≡ true) e (same-row p))
