use Rattle.scasp_sample.proofs.ValueLemmas.{value-put, values-all}
use Rattle.scasp_sample.specs.Inside.Values.{is_one_of}
use Rattle.scasp_sample.proofs.sampling.values.Goals as goal

pub loop-x-preserved : goal.loop-x-preserved
loop-x-preserved c =
    value-put (is_one_of c.args.numbers.now) c.args.point.now c.loop-x.name c.in_ok-name.name c.loop-x.x c.args.count c.loop-x.made c.push_value.new.made _
    c.loop-x-test.true c.in_ok-name.ensures.made c.in_ok-name.ensures.name c.loop-x.invariant

pub returns : goal.returns
returns c =
    values-all (is_one_of c.args.numbers.now) c.args.point.now c.loop-x.name c.args.fresh c.loop-x.x c.args.count c.loop-x.made c.loop-x-test.false c.loop-x.invariant
