use Rattle.scasp_simplex.specs.Inside.Numerators.{numerator}
use Rattle.scasp_simplex.proofs.PointLemmas.{met_by}
use Rattle.scasp_simplex.proofs.point.meets_all.Goals as goal

pub returns-then-has_denominator : goal.returns-then-has_denominator
returns-then-has_denominator c =
    λ e. met_by (numerator c.args.point.now) c.args.point.now.denominator c.args.rows.now (c.has_denominator.ensures c.if-has_denominator.true) (c.meets_each.ensures e)
