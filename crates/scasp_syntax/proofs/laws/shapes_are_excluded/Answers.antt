use Rattle.scasp_syntax.proofs.ConstraintLemmas.{shape-decided}
use Rattle.scasp_syntax.proofs.laws.shapes_are_excluded.Goals as goal

pub returns : goal.returns
returns c = λ v x name arity. shape-decided name arity (v x)
