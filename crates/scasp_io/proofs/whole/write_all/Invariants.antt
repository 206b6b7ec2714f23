use Rattle.std.proofs.Common.{◌≡◌, ◌≤◌, ◌-◌, length, take}
use Rattle.scasp_io.specs.Bytes.{behind}
use Rattle.scasp_io.proofs.whole.write_all.Given as goal

abbrev pub invariant-loop-at : goal.invariant-loop-at
invariant-loop-at g l =
    (g.K.Sink.taken l.out ≡ behind (g.K.Sink.taken l.fn.out) (take l.at l.bytes))
    × (l.at ≤ length l.bytes)
    × (g.K.Sink.faults l.fn.out ≤ g.K.Sink.faults l.out)

abbrev pub decreases-loop-at : goal.decreases-loop-at
decreases-loop-at g l = length l.bytes - l.at
