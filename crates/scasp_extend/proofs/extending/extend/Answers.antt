use Rattle.scasp_cert.specs.Certificate.{certificate_of}
use Rattle.scasp_syntax.specs.Tm.{items}
use Rattle.scasp_extend.proofs.AboveLemmas.{above-told}
use Rattle.scasp_extend.proofs.extending.extend.Goals as goal

pub returns-clause-above : goal.returns-clause-above
returns-clause-above c =
    above-told c.args.program.now (certificate_of c.args.cert.now) c.args.theta.now (items c.args.domain.now) c.extend_right.result c.see_rows.ensures
    c.terms-members.ensures.domain c.in_ok-accept_right.ensures c.extend_right.ensures.causes c.extend_right.ensures.atoms
