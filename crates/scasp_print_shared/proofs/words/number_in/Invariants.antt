use Rattle.std.proofs.Common.{◌≡◌, ◌<◌, ◌^◌, drop}
use Rattle.scasp_reader_tokens.specs.Numbers.{digits_value}
use Rattle.scasp_print_shared.proofs.words.number_in.Given as goal

abbrev pub invariant-loop-digit : goal.invariant-loop-digit
invariant-loop-digit l = record {
  value : digits_value l.number (drop l.digit-index l.digits) ≡ digits_value 0 l.digits;
  fits : l.number < 2 ^ 64;
}
