use Rattle.std.proofs.Common.{◌≡◌, vec_len}
use Rattle.scasp_search_trees.specs.Stacked.{built_of}
use Rattle.scasp_search_ends.specs.Finished.Onto.{onto}
use Rattle.scasp_search_rules.specs.Successors.Trees.{built}
use Rattle.scasp_search_ends.proofs.finished.building.built.Given as goal

abbrev pub invariant-loop-line : goal.invariant-loop-line
invariant-loop-line l = onto l.ats l.rest.items (built_of l.stacks) ≡ built l.ats l.fn.lines

abbrev pub decreases-loop-line : goal.decreases-loop-line
decreases-loop-line l = vec_len l.rest
