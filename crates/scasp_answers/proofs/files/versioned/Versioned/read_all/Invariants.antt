use Rattle.std.proofs.Common.{◌≡◌, vec_len}
use Rattle.scasp_copies.specs.View.{waiting_of}
use Rattle.scasp_answers.specs.Blocks.Files.{all_judged}
use Rattle.scasp_answers.specs.Files.Inside.{versioned_of}
use Rattle.scasp_answers.proofs.files.versioned.Versioned.read_all.Given as goal

abbrev pub invariant-left : goal.invariant-left
invariant-left l = all_judged l.names (versioned_of l.self) (waiting_of l.left.items) ≡ all_judged l.names (versioned_of l.fn.self) (waiting_of l.fn.lines.items)

abbrev pub decreases-left : goal.decreases-left
decreases-left l = vec_len l.left
