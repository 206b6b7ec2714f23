use Rattle.std.proofs.Common.{◌≡◌, ◌-◌, ◌^◌, ◌+◌, ◌*◌, drop, get_or, min, refl, sym, ◌∙◌, ap, arith}
use Rattle.std.proofs.lemmas.List.{drop_all}
use Rattle.scasp_reader_tokens.specs.Numbers.{digits_value}
use Rattle.scasp_reader_tokens.proofs.NumberLemmas.{digits_value-more}
use Rattle.scasp_copies.proofs.words.last_number.Goals as goal

pub loop-digit-preserved : goal.loop-digit-preserved
loop-digit-preserved c =
    let ds = c.last_digits-digits.result.now in
    let i = c.loop-digit.digit-index in
    let m = 2 ^ 128 - 1 in
    let value : c.saturating_add-value.result ≡ min (min (c.loop-digit.value * 10) m + (get_or ds i 0 - 48)) m =
    rw (c.saturating_add-value.ensures, c.saturating_mul.ensures, c.saturating_sub.ensures) refl in (
      omega (arith, c.saturating_add-value.ensures),
      ap (λ x. min (digits_value x (drop (i + 1) ds)) m) value ∙ digits_value-more m c.loop-digit.value ds i c.loop-digit-test.true ∙ c.loop-digit.invariant.1,
    )

pub returns : goal.returns
returns c =
    let ds = c.last_digits-digits.result.now in
    let value = c.loop-digit.value in
    let m = 2 ^ 128 - 1 in
    let whole : value ≡ min value m = omega (arith, c.loop-digit.invariant.0) in
    whole ∙ ap (λ r. min (digits_value value r) m) (sym (drop_all c.loop-digit.digit-index ds c.loop-digit-test.false)) ∙ c.loop-digit.invariant.1 ∙ ap (λ xs. min (digits_value 0 xs) m) c.last_digits-digits.ensures
