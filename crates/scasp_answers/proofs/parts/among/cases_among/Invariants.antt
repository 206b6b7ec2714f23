use Rattle.std.proofs.Common.{◌≡◌, map}
use Rattle.scasp_cert.specs.View.{branch_of}
use Rattle.scasp_answers.specs.Blocks.Open.{cases_among}
use Rattle.scasp_answers.specs.Parts.View.{parts_in}
use Rattle.scasp_answers.proofs.parts.among.cases_among.Given as goal

abbrev pub invariant-loop-part : goal.invariant-loop-part
invariant-loop-part l = map branch_of l.cases.items ≡ cases_among (parts_in l.yielded)
