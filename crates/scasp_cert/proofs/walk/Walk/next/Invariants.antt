use Rattle.std.proofs.Common.{◌≡◌, vec_len}
use Rattle.scasp_cert.specs.WalkView.{lines_left}
use Rattle.scasp_cert.proofs.walk.Walk.next.Given as goal

abbrev pub invariant-loop-parts : goal.invariant-loop-parts
invariant-loop-parts l = lines_left l.self ≡ lines_left l.fn.self

abbrev pub decreases-loop-parts : goal.decreases-loop-parts
decreases-loop-parts l = vec_len l.self.waiting
