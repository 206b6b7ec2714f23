-- Numbers within their bounds are read as they stand.
use Rattle.std.proofs.Common.{◌≡◌, ◌∙◌, ℕ, ◌<◌, ◌^◌, Bool, true, false, nat_lt, ℤ, pos, to_z, of_z, refl, sym, ap, subst}
use Rattle.std.specs.Int.{w128}
use Rattle.std.specs.Option.{option_map}
use Rattle.scasp_num.specs.Arithmetic.{in_range, number, signed}
use Rattle.scasp_num.proofs.Numbers.{lt_ltb, stored, unsigned_abs-signed}
use Rattle.scasp_syntax.specs.Tm.{num}
use Rattle.scasp_answers_terms.specs.Tokens.Bounds.{bounded_integer}
use Rattle.scasp_answers_terms.specs.Tokens.Terms.{whole, quotient}

in_range-signed : (s : Bool) (m : ℕ) → m < 2 ^ 127 → in_range (signed s m) ≡ true
in_range-signed s m h = ap (λ k. nat_lt k (2 ^ 127)) (unsigned_abs-signed s m) ∙ lt_ltb h

pub bounded-signed : (s : Bool) (m : ℕ) → m < 2 ^ 127 → bounded_integer (signed s m) ≡ signed s m
bounded-signed s m h = let e = in_range-signed s m h in rw e refl

-- a value that is stored is the integer itself
pub bounded-stored : (s : Bool) (m : ℕ) (z : ℤ) → z ≡ bounded_integer (signed s m) → m < 2 ^ 127 → to_z w128 (of_z w128 z) ≡ signed s m
bounded-stored s m z e h =
    let same = e ∙ bounded-signed s m h in
    ap (λ (y : ℤ). to_z w128 (of_z w128 y)) same ∙ stored (signed s m) (subst (λ (k : ℕ). k < 2 ^ 127) (sym (unsigned_abs-signed s m)) h)

pub whole-fits : (s : Bool) (m : ℕ) → m < 2 ^ 127 → whole (signed s m) ≡ option_map num (number (signed s m) (pos 1))
whole-fits s m h = let e = in_range-signed s m h in rw e refl

pub quotient-fits : (s : Bool) (m d : ℕ) → 1 < d → m < 2 ^ 127 → d < 2 ^ 127 → quotient (signed s m) d ≡ option_map num (number (signed s m) (signed false d))
quotient-fits s m d l h k =
    let t : nat_lt 1 d ≡ true = lt_ltb l in
    let e = in_range-signed s m h in
    let f : in_range (pos d) ≡ true = in_range-signed false d k in
    rw (t, e, f) refl
