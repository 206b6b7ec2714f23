use Rattle.std.proofs.Common.{◌≡◌, length}
use Rattle.scasp_cert.specs.Certificate.{certificate_of}
use Rattle.scasp_answers.specs.Blocks.Open.{closed_to}
use Rattle.scasp_answers.specs.Opens.View.{opens_of}
use Rattle.scasp_answers.proofs.opens.closing.close_to.Given as goal

abbrev pub invariant-loop-alloc : goal.invariant-loop-alloc
invariant-loop-alloc l = closed_to l.depth (opens_of l.opens) (certificate_of l.cert) ≡ closed_to l.depth (opens_of l.fn.opens) (certificate_of l.fn.cert)

abbrev pub decreases-loop-alloc : goal.decreases-loop-alloc
decreases-loop-alloc l = length (opens_of l.opens)
