use Rattle.scasp_cert.specs.Certificate.{certificate_of}
use Rattle.scasp_extend_instances.specs.Values.{valued}
use Rattle.scasp_lines.specs.Said.{false_atoms, true_atoms}
use Rattle.scasp_model.specs.Grounding.{ground_program}
use Rattle.scasp_sound.specs.MapLevels.{level_of, plus_of}
use Rattle.scasp_syntax.specs.Tm.{items}
use Rattle.scasp_extend.proofs.ModelLemmas.{told-by_sets}
use Rattle.scasp_extend.proofs.models.model_above.Goals as goal

pub returns-clause-atoms : goal.returns-clause-atoms
returns-clause-atoms c =
    let p = c.args.program.now in
    let cert = certificate_of c.args.cert.now in
    let v = valued (items c.args.values.now) in
    let d = items c.args.domain.now in
    told-by_sets (level_of cert.map) (plus_of cert.map) (ground_program d p) c.model_of.result c.in_ok-told.told.trues c.in_ok-told.told.falses
    (true_atoms p cert v d) (false_atoms p cert v d) c.in_ok-told.ensures.trues c.in_ok-told.ensures.falses c.model_of.ensures.atoms
