use Rattle.std.proofs.Common.{◌≡◌, ◌-◌, ◌^◌, min}
use Rattle.scasp_reader_tokens.proofs.numbers.power_of_ten.Given as goal

abbrev pub invariant-loop-place : goal.invariant-loop-place
invariant-loop-place l = l.value ≡ min (10 ^ l._place) (2 ^ 128 - 1)
