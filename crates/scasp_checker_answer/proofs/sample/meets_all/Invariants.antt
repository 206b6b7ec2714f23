use Rattle.std.proofs.Common.{◌≡◌, drop}
use Rattle.std.specs.List.{list_all}
use Rattle.scasp_syntax.specs.Tm.{items}
use Rattle.scasp_syntax.specs.Values.{giving}
use Rattle.scasp_checker_rules.specs.BoundedTruth.{holds_bounded}
use Rattle.scasp_checker_answer.proofs.sample.meets_all.Given as goal

abbrev pub invariant-loop-con : goal.invariant-loop-con
invariant-loop-con l =
    list_all (holds_bounded (giving (items l.values))) (drop l.con-index l.con-items) ≡ list_all (holds_bounded (giving (items l.values))) l.cons
