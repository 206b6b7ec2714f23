use Rattle.std.proofs.Common.{◌≡◌, drop}
use Rattle.std.specs.List.{list_all}
use Rattle.scasp_sample.specs.Sampling.{is_in_range}
use Rattle.scasp_syntax.specs.Tm.{items}
use Rattle.scasp_syntax.specs.Values.{giving}
use Rattle.scasp_sample.proofs.sampling.are_in_range.Given as goal

abbrev pub invariant-loop-constraint : goal.invariant-loop-constraint
invariant-loop-constraint l =
    list_all (is_in_range (giving (items l.values))) (drop l.constraint-index l.given) ≡ list_all (is_in_range (giving (items l.values))) l.given
