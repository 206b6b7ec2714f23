use Rattle.std.proofs.Common.{◌∙◌, ◌+◌, ◌<◌, ◌^◌, ℕ, drop, sym, ap, subst}
use Rattle.std.proofs.lemmas.List.{at_drop_all}
use Rattle.scasp_reader_tokens.specs.Numbers.{digits_value}
use Rattle.scasp_print_shared.proofs.WordLemmas.{digit-step, too-large}
use Rattle.scasp_print_shared.proofs.words.number_in.Goals as goal

pub returns-in-None : goal.returns-in-None
returns-in-None c =
    λ h.
    let small : ℕ → Type 0 = λ n. n < 2 ^ 64 in
    too-large c.loop-digit.number c.args.digits.now c.loop-digit.digit-index c.loop-digit-test.true c.in-None.ensures (subst small (sym c.loop-digit.invariant.value) h)

pub loop-digit-preserved : goal.loop-digit-preserved
loop-digit-preserved c = record {
  value = ap (λ n. digits_value n (drop (c.loop-digit.digit-index + 1) c.args.digits.now)) c.in-Some.ensures.1
      ∙ sym (digit-step c.loop-digit.number c.args.digits.now c.loop-digit.digit-index c.loop-digit-test.true)
      ∙ c.loop-digit.invariant.value;
  fits = (let small : ℕ → Type 0 = λ n. n < 2 ^ 64 in subst small (sym c.in-Some.ensures.1) c.in-Some.ensures.0);
}

pub returns : goal.returns
returns c =
    let e = sym (at_drop_all (digits_value c.loop-digit.number) c.args.digits.now c.loop-digit.digit-index c.loop-digit-test.false) ∙ c.loop-digit.invariant.value in
    let small : ℕ → Type 0 = λ n. n < 2 ^ 64 in
    (subst small e c.loop-digit.invariant.fits, e)
