use Rattle.std.proofs.Common.{◌≡◌, drop, map}
use Rattle.scasp_view_top.specs.Blocks.Blocks.{are_accepted}
use Rattle.scasp_view_top.specs.Blocks.View.{judgement_of}
use Rattle.scasp_view_top.proofs.blocks.are_accepted.Given as goal

abbrev pub invariant-loop-block : goal.invariant-loop-block
invariant-loop-block l = are_accepted (map judgement_of (drop l.block-index l.blocks)) ≡ are_accepted (map judgement_of l.blocks)
