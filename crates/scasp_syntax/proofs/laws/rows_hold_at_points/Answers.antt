use Rattle.scasp_num.proofs.Comparing.{holds-decided}
use Rattle.scasp_syntax.specs.RowTruth.{point}
use Rattle.scasp_syntax.proofs.laws.rows_hold_at_points.Goals as goal

pub returns : goal.returns
returns c = λ v r. holds-decided (point v) r
