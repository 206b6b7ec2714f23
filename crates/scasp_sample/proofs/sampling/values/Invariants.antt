use Rattle.std.proofs.Common.{◌≡◌, ◌-◌, ◌++◌}
use Rattle.scasp_syntax.specs.Tm.{items}
use Rattle.scasp_sample.specs.Inside.Values.{is_one_of}
use Rattle.scasp_sample.specs.Sampling.{values_from}
use Rattle.scasp_sample.proofs.sampling.values.Given as goal

abbrev pub invariant-loop-x : goal.invariant-loop-x
invariant-loop-x l =
    items l.made ++ items (values_from (is_one_of l.numbers) l.point l.name l.x (l.count - l.x))
    ≡ items (values_from (is_one_of l.numbers) l.point l.fresh 0 l.count)
