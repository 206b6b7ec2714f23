use Rattle.std.proofs.Common.{◌≡◌, map, vec_len}
use Rattle.scasp_search_trees.specs.Stacked.{built_of}
use Rattle.scasp_fill.specs.Filling.Inside.Pieces.{hinted_value, onto}
use Rattle.scasp_search_rules.specs.Successors.Trees.{no_lines}
use Rattle.scasp_fill.proofs.filling.rebuilding.rebuilt.Given as goal

abbrev pub invariant-loop-line : goal.invariant-loop-line
invariant-loop-line l = onto (map hinted_value l.left.items) (built_of l.stacks) ≡ onto (map hinted_value l.fn.lines.items) no_lines

abbrev pub decreases-loop-line : goal.decreases-loop-line
decreases-loop-line l = vec_len l.left
