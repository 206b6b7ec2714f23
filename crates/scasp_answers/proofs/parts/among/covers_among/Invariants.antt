use Rattle.std.proofs.Common.{◌≡◌}
use Rattle.scasp_cert.specs.View.{covers_of}
use Rattle.scasp_answers.specs.Blocks.Open.{covers_among}
use Rattle.scasp_answers.specs.Parts.View.{parts_in}
use Rattle.scasp_answers.proofs.parts.among.covers_among.Given as goal

abbrev pub invariant-loop-part : goal.invariant-loop-part
invariant-loop-part l = covers_of l.covers ≡ covers_among (parts_in l.yielded)
