use Rattle.std.proofs.Common.{◌<◌, ◌^◌, ℕ, List, subst}
use Rattle.std.specs.Prelude.{SomeIff}
use Rattle.scasp_copies.proofs.WordLemmas.{last_rest}
use Rattle.scasp_reader_tokens.specs.Numbers.{digits_value}
use Rattle.scasp_print_shared.proofs.words.last_number.Goals as goal

pub returns : goal.returns
returns c =
    let e = last_rest c.args.words.now c.count_before_digits.result c.count_before_digits.ensures.count in
    let value : List ℕ → Type 0 = λ ds. SomeIff c.number_in.result (digits_value 0 ds < 2 ^ 64) (digits_value 0 ds) in
    subst value e c.number_in.ensures
