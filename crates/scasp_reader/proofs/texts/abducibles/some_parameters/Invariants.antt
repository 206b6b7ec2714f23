use Rattle.std.proofs.Common.{◌≡◌, ◌+◌, ◌<◌, ◌^◌}
use Rattle.scasp_reader.specs.Texts.Abducibles.{parameters_within, some_parameters}
use Rattle.scasp_reader.proofs.texts.abducibles.some_parameters.Given as goal

abbrev pub invariant-loop-left : goal.invariant-loop-left
invariant-loop-left l = (parameters_within l.left l.count l.reader ≡ some_parameters l.fn.reader) × (l.count + l.left < 2 ^ 64)

abbrev pub decreases-loop-left : goal.decreases-loop-left
decreases-loop-left l = l.left
