use Rattle.std.proofs.Common.{◌≡◌, ◌-◌, ◌^◌, min, pos, sym, ◌∙◌, ap}
use Rattle.scasp_num.specs.Arithmetic.{within}
use Rattle.scasp_reader_tokens.specs.Numbers.{digits_value}
use Rattle.scasp_reader_tokens.proofs.NumberLemmas.{digits_value-append, digits_value-capped, within-capped}
use Rattle.scasp_reader_tokens.proofs.numbers.all_digits.Goals as goal

pub returns : goal.returns
returns c =
    let whole = c.args.whole.now in
    let part = c.args.part.now in
    let m = 2 ^ 128 - 1 in
    let spelled : c.spelled-2.result ≡ min (digits_value (digits_value 0 whole) part) m =
    c.spelled-2.ensures ∙ ap (λ n. min (digits_value n part) m) c.spelled.ensures ∙ digits_value-capped m (digits_value 0 whole) part in
    c.within.ensures ∙ ap (λ n. within (pos n)) spelled ∙ within-capped (digits_value (digits_value 0 whole) part)
    ∙ ap (λ n. within (pos n)) (sym (digits_value-append 0 whole part))
