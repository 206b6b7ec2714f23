use Rattle.std.proofs.Common.{◌≡◌, drop}
use Rattle.scasp_reader_expressions.specs.Values.{united}
use Rattle.scasp_reader_expressions.proofs.values.united.Given as goal

abbrev pub invariant-loop-y : goal.invariant-loop-y
invariant-loop-y l = united l.all (drop l.y-index l.others) ≡ united l.fn.numbers l.others
