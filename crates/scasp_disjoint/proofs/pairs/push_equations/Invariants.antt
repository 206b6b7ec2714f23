use Rattle.std.proofs.Common.{◌≡◌, ◌++◌, drop}
use Rattle.scasp_syntax.specs.Values.{all_under}
use Rattle.scasp_syntax.specs.View.{tms_of}
use Rattle.scasp_checker_rules.specs.PairLists.{equal_args}
use Rattle.scasp_disjoint.specs.Raised.{raising_by}
use Rattle.scasp_disjoint.proofs.pairs.push_equations.Given as goal

abbrev pub invariant-loop-place : goal.invariant-loop-place
invariant-loop-place l =
    l.list ++ equal_args (tms_of (drop l.place l.term-items)) (all_under (raising_by l.raising) (tms_of (drop l.place l.others)))
    ≡ l.fn.list ++ equal_args l.first (all_under (raising_by l.raising) l.second)
