use Rattle.std.proofs.Common.{Option, subst}
use Rattle.scasp_num.specs.Linear.{Gives}
use Rattle.scasp_syntax.specs.Tm.{Tms}
use Rattle.scasp_sample.proofs.ValueLemmas.{values-sample}
use Rattle.scasp_sample.proofs.sampling.sample.Goals as goal

pub returns : goal.returns
returns c =
    subst (λ (o : Option Tms). Gives c.evaluated.result o)
    (values-sample c.args.fresh c.args.count c.args.given.now _ _ _ _ c.in_ok-values.values c.in_ok-point.ensures c.as_slice.ensures
    c.as_slice-numbers.ensures.value c.in_ok-resolver.ensures.numbers c.in_ok-values.ensures)
    c.evaluated.ensures
