use Rattle.std.proofs.Common.{◌≡◌}
use Rattle.scasp_cert.specs.View.{trees_of}
use Rattle.scasp_answers.specs.Blocks.Open.{trees_among}
use Rattle.scasp_answers.specs.Parts.View.{parts_in}
use Rattle.scasp_answers.proofs.parts.among.nodes_among.Given as goal

abbrev pub invariant-loop-part : goal.invariant-loop-part
invariant-loop-part l = trees_of l.nodes ≡ trees_among (parts_in l.yielded)
