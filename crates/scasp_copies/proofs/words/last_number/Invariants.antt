use Rattle.std.proofs.Common.{◌≡◌, ◌-◌, ◌^◌, ◌≤◌, drop, min}
use Rattle.scasp_reader_tokens.specs.Numbers.{digits_value}
use Rattle.scasp_copies.proofs.words.last_number.Given as goal

abbrev pub invariant-loop-digit : goal.invariant-loop-digit
invariant-loop-digit l =
    (l.value ≤ 2 ^ 128 - 1) × (min (digits_value l.value (drop l.digit-index l.digits)) (2 ^ 128 - 1) ≡ min (digits_value 0 l.digits) (2 ^ 128 - 1))
