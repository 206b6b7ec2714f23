use Rattle.std.proofs.Common.{List, subst, sym}
use Rattle.scasp_cert.specs.Certificate.{Certificate, certificate_of}
use Rattle.scasp_extend.specs.Extension.{obstacle}
use Rattle.scasp_extend_instances.specs.Values.{valued}
use Rattle.scasp_law_extension.specs.Above.{model_above}
use Rattle.scasp_model.specs.Atoms.{SameAtoms}
use Rattle.scasp_syntax.specs.Tm.{Tm, items}
use Rattle.scasp_syntax.specs.declared.atom.Atom.{Atom}
use Rattle.scasp_command_extend.specs.Outcomes.{outcome_of}
use Rattle.scasp_command_extend.proofs.ReportLemmas.{model-reported, stopped-reported}
use Rattle.scasp_command_extend.proofs.reports.block_report.Goals as goal

pub returns-in-Ok : goal.returns-in-Ok
unfolding outcome_of
returns-in-Ok c =
    let cert : Certificate = certificate_of c.args.block.now.cert in
    let d : List Tm = items c.args.domain.now in
    let set : List Atom = model_above c.args.program.now cert (valued (items cert.sample)) d in
    model-reported c.model_report.result c.args.names.now c.args.block.now.answer cert (obstacle c.args.program.now cert cert.sample d) set c.in-Ok.ensures.causes
    (c.model_report.ensures set (subst (λ (xs : List Atom). SameAtoms xs set) (sym c.as_slice.ensures) c.in-Ok.ensures.atoms))

pub returns-in-Err : goal.returns-in-Err
unfolding outcome_of
returns-in-Err c =
    let cert : Certificate = certificate_of c.args.block.now.cert in
    let d : List Tm = items c.args.domain.now in
    stopped-reported c.obstacle_report.result c.args.names.now c.args.block.now.answer cert c.in-Err.why (obstacle c.args.program.now cert cert.sample d)
    (model_above c.args.program.now cert (valued (items cert.sample)) d) c.in-Err.ensures.causes
    c.obstacle_report.ensures.text c.obstacle_report.ensures.end c.obstacle_report.ensures.stands
