-- Rows in normal form are made again from their coefficients.
use Rattle.std.proofs.Common.{◌≡◌, ◌∙◌, ◌^◌, Bool, true, false, nat_lt, ℤ, pos, int_div, unsigned_abs, map, List, [], ◌∷◌, Option, None, Some, refl, ap, subst}
use Rattle.std.specs.Prelude.{if◌then◌else◌, ◌&&◌}
use Rattle.std.specs.Option.{option_map}
use Rattle.std.proofs.lemmas.Bool.{and_parts, ltb-true}
use Rattle.scasp_list.specs.Each.{Each}
use Rattle.scasp_num.specs.declared.linear.Coeff.{Coeff}
use Rattle.scasp_num.specs.declared.linear.Op.{Op}
use Rattle.scasp_syntax.specs.declared.con.Con.TheVariants as con
use Rattle.scasp_answers_terms.specs.Tokens.Bounds.{is_place, row_fits}
use Rattle.scasp_answers_terms.specs.Tokens.Constraints.{row_con, unfit_con}
use Rattle.scasp_answers_terms.specs.Tokens.Readers.{made}
use Rattle.scasp_answers_terms.specs.Tokens.Rows.{Sum, sum_at, relation_at, row_of, row_at}
use Rattle.scasp_answers_terms.specs.Tokens.Tokens.{Token}
use Rattle.std.specs.List.{list_all}
use Rattle.std.proofs.Math.Nat.{div-one}
use Rattle.scasp_num.specs.Arithmetic.{in_range, lowest_integers}
use Rattle.scasp_num.specs.Gcd.{gcd, gcd_within}
use Rattle.scasp_num.specs.Linear.{Linear, IsNormal, is_normal}
use Rattle.scasp_num.specs.Number.{InRange}
use Rattle.scasp_num.specs.SameRow.{same_row}
use Rattle.scasp_num.specs.Sums.{normal_of}
use Rattle.scasp_num.proofs.NormalTests.{normal-decided}
use Rattle.scasp_num.proofs.Numbers.{lt_ltb, unsigned_abs-over, some-same}
use Rattle.scasp_num.proofs.SameRows.{row-same, row-decided}
use Rattle.scasp_lines_places.specs.Dues.Wholes.{integer, pair_of}
use Rattle.scasp_lines_places.proofs.DuesLemmas.NormalLemmas.{normal-of}

pub whole-fits : (z : ℤ) → InRange z → list_all in_range (lowest_integers z (pos 1)) ≡ true
unfolding gcd gcd_within
whole-fits z h =
    let e : in_range (int_div z (pos 1)) ≡ true = ap (λ k. nat_lt k (2 ^ 127)) (unsigned_abs-over z 1 ∙ div-one (unsigned_abs z)) ∙ lt_ltb h in rw e refl

abbrev pub kept : Linear → Option Linear
kept r = if is_normal r then Some r else None

-- a row that is made and is the same is in normal form
pub same-kept : (row r : Linear) → IsNormal row → same_row row r ≡ true → Some row ≡ kept r
same-kept row r n s =
    let e : row ≡ r = row-same row r s in
    let t : is_normal r ≡ true = (normal-decided r).1 (subst IsNormal e n) in
    ap Some e ∙ rw t refl

-- a row is in no normal form where another is made of its coefficients
pub other-kept : (r : Linear) (made : Option Linear) → made ≡ normal_of (map pair_of r.coeffs) (integer r.constant) r.op → (made ≡ Some r → ⊥) → None ≡ kept r
other-kept r made e h = by (is_normal r) refl
  where
    by : (t : Bool) → is_normal r ≡ t → None ≡ kept r
    by true q = absurd (h (e ∙ normal-of r ((normal-decided r).0 q)))
    by false q = rw q refl

pub differ : (row r : Linear) → same_row row r ≡ false → Some row ≡ Some r → ⊥
differ row r s e = let t : same_row row r ≡ true = (row-decided row r).1 (some-same e) in cc

-- ---- the numbers of a row that fits are in range

pub coeffs-range : (ks : List Coeff) → list_all (λ k. is_place k.x && in_range k.c) ks ≡ true → Each (λ k. InRange k.c) ks
coeffs-range [] e = tt
coeffs-range (k ∷ ks) e =
    let p = and_parts (is_place k.x && in_range k.c) (list_all (λ k. is_place k.x && in_range k.c) ks) e in
    (ltb-true (unsigned_abs k.c) (2 ^ 127) (and_parts (is_place k.x) (in_range k.c) p.0).1, coeffs-range ks p.1)

pub constant-range : (r : Linear) → row_fits r ≡ true → InRange r.constant
constant-range r e = ltb-true (unsigned_abs r.constant) (2 ^ 127) (and_parts (list_all (λ k. is_place k.x && in_range k.c) r.coeffs) (in_range r.constant) e).1

pub row-range : (r : Linear) → row_fits r ≡ true → Each (λ k. InRange k.c) r.coeffs
row-range r e = coeffs-range r.coeffs (and_parts (list_all (λ k. is_place k.x && in_range k.c) r.coeffs) (in_range r.constant) e).0

-- ---- a sum with its relation

pub unfit-read : (ts u v : List Token) (s : Sum) (o : Op) → sum_at ts ≡ Some (s, u) → relation_at u ≡ Some (o, v) → row_fits (row_of s o) ≡ false
    → made row_con (row_at ts) ≡ Some (unfit_con, v)
unfit-read ts u v s o e f g = rw (e, f, g) (rw g refl)

pub fit-read : (ts u v : List Token) (s : Sum) (o : Op) → sum_at ts ≡ Some (s, u) → relation_at u ≡ Some (o, v) → row_fits (row_of s o) ≡ true
    → made row_con (row_at ts) ≡ option_map (λ r. (con.Row r, v)) (kept (row_of s o))
fit-read ts u v s o e f g = by (is_normal (row_of s o)) refl
  where
    by : (b : Bool) → is_normal (row_of s o) ≡ b → made row_con (row_at ts) ≡ option_map (λ r. (con.Row r, v)) (kept (row_of s o))
    by true n = rw (e, f, g, n) (rw g refl)
    by false n = rw (e, f, g, n) refl
