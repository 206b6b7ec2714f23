use Rattle.std.proofs.Common.{◌≡◌, ◌++◌, drop, flat_map, map}
use Rattle.scasp_view_top.specs.Blocks.Blocks.{block_text}
use Rattle.scasp_view_top.specs.Blocks.View.{judgement_of}
use Rattle.scasp_view_top.proofs.blocks.print_all.Given as goal

abbrev pub invariant-loop-block : goal.invariant-loop-block
invariant-loop-block l =
    l.text.items ++ flat_map (block_text l.view l.checks) (map judgement_of (drop l.block-index l.blocks)) ≡ flat_map (block_text l.view l.checks) (map judgement_of l.blocks)
