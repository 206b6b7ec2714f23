use Rattle.std.proofs.Common.{◌≡◌, ◌++◌, drop}
use Rattle.scasp_search_rules.specs.Successors.Pairs.{pairs}
use Rattle.scasp_syntax.specs.View.{tms_of}
use Rattle.scasp_search_terms.proofs.pairs.pairs.Given as goal

abbrev pub invariant-loop-place : goal.invariant-loop-place
invariant-loop-place l = l.made ++ pairs (tms_of (drop l.place l.term-items)) (tms_of (drop l.place l.others)) ≡ pairs l.left l.right
