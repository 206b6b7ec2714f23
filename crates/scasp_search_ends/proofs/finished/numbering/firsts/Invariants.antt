use Rattle.std.proofs.Common.{◌≡◌, ◌++◌, drop}
use Rattle.scasp_search_rules.specs.Successors.Numbering.{firsts}
use Rattle.scasp_search_ends.proofs.FinishedLemmas.FirstLemmas.{left_of}
use Rattle.scasp_search_ends.proofs.finished.numbering.firsts.Given as goal

abbrev pub invariant-loop-x : goal.invariant-loop-x
invariant-loop-x l = l.made ++ left_of l.made (firsts (drop l.x-index l.xs)) ≡ firsts l.xs
