-- New variables for parts, as they are made and as they are tested.
use Rattle.std.proofs.Common.{◌≡◌, ◌∙◌, ℕ, zero, suc, add-one, ◌+◌, ◌-◌, ◌<◌, ◌≤◌, true, false, nat_eq, nat_lt, refl, sym, ap, inl, inr, arith}
use Rattle.std.proofs.lemmas.Bool.{or_left, or_right, cases_Bool}
use Rattle.std.proofs.lemmas.Bool.Decides.{nat_tests}
use Rattle.scasp_syntax.specs.Tm.{var, nil, cons, pushed}
use Rattle.scasp_unify.specs.Negations.{new_parts}
use Rattle.scasp_lines.specs.Opened.{is_part}
use Rattle.scasp_lines.proofs.PartLemmas.{part-above, part-below}

pub part-within : (k n y : ℕ) → k ≤ y → y < k + n → is_part k n y ≡ true
part-within k zero y a b = absurd (omega arith)
part-within k (suc n) y a b =
    elim (cases_Bool (nat_eq y k)) [
      | inl e ↦ or_left (nat_eq y k) (is_part (suc k) n y) e
      | inr e ↦ (let above : suc k ≤ y = grind (arith, nat_tests) in or_right (nat_eq y k) (is_part (suc k) n y) (part-within (suc k) n y above (omega arith)))
    ]

-- a part from k on, by its distance
pub part-at : (k n y : ℕ) → k ≤ y → nat_lt (y - k) n ≡ is_part k n y
part-at k n y a =
    elim (cases_Bool (nat_lt (y - k) n)) [
      | inl e ↦ (let below : y < k + n = grind (arith, nat_tests) in e ∙ sym (part-within k n y a below))
      | inr e ↦ elim (cases_Bool (is_part k n y)) [
        | inl i ↦ (let below = part-below k n y i in absurd (grind (arith, nat_tests)))
        | inr i ↦ e ∙ sym i
      ]
    ]

-- no variable below k is one
pub part-none : (k n y : ℕ) → y < k → is_part k n y ≡ false
part-none k n y b =
    elim (cases_Bool (is_part k n y)) [
      | inl i ↦ (let above = part-above k n y i in absurd (omega arith))
      | inr i ↦ i
    ]

longer : (k n : ℕ) → cons (var k) (new_parts (suc k) (n + 1)) ≡ new_parts k (suc n + 1)
longer k n = rw (add-one n, add-one (suc n)) refl

-- one more new variable
pub parts_push : (k n : ℕ) → pushed (new_parts k n) (var (k + n)) ≡ new_parts k (n + 1)
parts_push k zero = ap (λ j. cons (var j) nil) (omega arith)
parts_push k (suc n) =
    ap (λ j. cons (var k) (pushed (new_parts (suc k) n) (var j))) (omega arith)
    ∙ ap (cons (var k)) (parts_push (suc k) n)
    ∙ longer k n
