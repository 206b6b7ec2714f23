use Rattle.std.proofs.Common.{◌≡◌, ◌+◌, ◌++◌, [], drop, map}
use Rattle.scasp_view_top.specs.Blocks.Blocks.{repeated, shown_text}
use Rattle.scasp_view_top.specs.Blocks.View.{judgement_of}
use Rattle.scasp_view_top.proofs.blocks.once.show_all.Given as goal

abbrev pub invariant-loop-block : goal.invariant-loop-block
invariant-loop-block l = record {
  text : l.showing.text.items ++ shown_text l.view l.checks l.showing.seen.items (map judgement_of (drop l.block-index l.blocks)) ≡ shown_text l.view l.checks [] (map judgement_of l.blocks);
  left_out : l.showing.left_out + repeated l.view.names l.showing.seen.items (map judgement_of (drop l.block-index l.blocks)) ≡ repeated l.view.names [] (map judgement_of l.blocks);
}
