use Rattle.scasp_model.specs.Grounding.{ground_program}
use Rattle.scasp_model.specs.Residual.{residual}
use Rattle.scasp_syntax.specs.Tm.{items}
use Rattle.scasp_extend.proofs.models.model_of.Goals as goal

pub returns-clause-atoms : goal.returns-clause-atoms
returns-clause-atoms c =
    c.in_ok-with_levelled.ensures.atoms c.args.map.now
    (residual c.args.told.trues c.args.told.falses (ground_program (items c.args.domain.now) c.args.program.now)) c.in_ok-left.ensures.left
