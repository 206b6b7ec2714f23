-- What an error says of the limits.
use Rattle.std.proofs.Common.{◌≡◌, ◌∙◌, ℕ, ◌<◌, ◌≤◌, ◌^◌, List, Bool, true, false, nat_lt, Option, None, Some, inl, inr, refl, sym, ap, arith}
use Rattle.std.specs.Prelude.{Result, Ok, Err, is_some, IfSome}
use Rattle.std.proofs.lemmas.Bool.{true≢false, cases_Bool}
use Rattle.std.proofs.lemmas.Bool.Decides.{Decides-ltb}
use Rattle.scasp_syntax.specs.declared.clause.Clause.{Clause}
use Rattle.scasp_ground.specs.Bounded.{count_over}
use Rattle.scasp_ground.specs.Told.{Limits, Tests}
use Rattle.scasp_ground.specs.declared.error.GroundErr.{GroundErr}
use Rattle.scasp_ground.specs.declared.error.GroundErr.TheVariants as errors

-- of the tests of one instance
pub limits-tested : (A : Type 0) (e : GroundErr) (o : Option Bool) (large past : Bool) → Tests (Err e) o → large ≡ false → (o ≡ None → past ≡ true) → Limits {A = A} (Err e) large past
limits-tested A errors.Overflow o large past t l f = (l, f t)
limits-tested A errors.TooLarge o large past t l f = absurd t
limits-tested A errors.Memory o large past t l f = tt

-- of one clause, which has not too many instances
pub limits-clause : (A B : Type 0) (e : GroundErr) (large past all_large all_past : Bool) → Limits {A = B} (Err e) large past → large ≡ false → all_large ≡ false
    → (past ≡ true → all_past ≡ true) → Limits {A = A} (Err e) all_large all_past
limits-clause A B errors.Overflow large past all_large all_past h l m f = (m, f h.1)
limits-clause A B errors.TooLarge large past all_large all_past h l m f = absurd (true≢false (sym h ∙ l))
limits-clause A B errors.Memory large past all_large all_past h l m f = tt

pub not-past : (n : ℕ) → n ≤ 1000000 → nat_lt 1000000 n ≡ false
not-past n h = elim (cases_Bool (nat_lt 1000000 n)) [
  | inl t ↦
      (let more : 1000000 < n = (Decides-ltb 1000000 n).0 t in
      absurd (omega (arith, more, h)))
  | inr f ↦ f
]

pub is-power : (m l n count : ℕ) → m ≡ l → (count ≡ m ^ n) × (count ≤ 1000000) → count ≡ l ^ n
is-power m l n count e h = h.0 ∙ ap (λ z. z ^ n) e

pub power-not-past : (m l n count : ℕ) → m ≡ l → (count ≡ m ^ n) × (count ≤ 1000000) → nat_lt 1000000 (l ^ n) ≡ false
power-not-past m l n count e h =
    let is : count ≡ l ^ n = is-power m l n count e h in
    let below : count ≤ 1000000 = h.1 in
    not-past (l ^ n) (omega (arith, is, below))

some-within : (o : Option ℕ) (total : ℕ) → is_some o ≡ true → IfSome o (λ count. (count ≡ total) × (count ≤ 1000000)) → total ≤ 1000000
some-within None total e h = cc
some-within (Some n) total e h =
    let is : n ≡ total = h.0 in
    let below : n ≤ 1000000 = h.1 in
    omega (arith, is, below)

pub counted-within : (o : Option ℕ) (m l : ℕ) (cs ds : List Clause) → m ≡ l → cs ≡ ds → is_some o ≡ true
    → IfSome o (λ count. (count ≡ count_over m cs) × (count ≤ 1000000)) → count_over l ds ≤ 1000000
counted-within o m l cs ds e f s h =
    let within : count_over m cs ≤ 1000000 = some-within o (count_over m cs) s h in
    let same : count_over m cs ≡ count_over l ds = ap (λ z. count_over z cs) e ∙ ap (count_over l) f in
    omega (arith, within, same)
