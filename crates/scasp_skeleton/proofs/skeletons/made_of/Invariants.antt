use Rattle.std.proofs.Common.{◌≡◌, map, vec_len}
use Rattle.scasp_cert.specs.WalkView.{line_of}
use Rattle.scasp_search_rules.specs.Successors.Trees.{no_lines}
use Rattle.scasp_search_trees.specs.Stacked.{built_of}
use Rattle.scasp_skeleton.specs.Bare.{onto}
use Rattle.scasp_skeleton.proofs.skeletons.made_of.Given as goal

abbrev pub invariant-loop-line : goal.invariant-loop-line
invariant-loop-line l = onto (map line_of l.left.items) (built_of l.stacks) ≡ onto (map line_of l.fn.lines.items) no_lines

abbrev pub decreases-loop-line : goal.decreases-loop-line
decreases-loop-line l = vec_len l.left
