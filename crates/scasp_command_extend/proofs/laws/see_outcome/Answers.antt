use Rattle.scasp_cert.specs.Certificate.{certificate_of}
use Rattle.scasp_syntax.specs.Tm.{items}
use Rattle.scasp_command_extend.proofs.OutcomeLemmas.{says}
use Rattle.scasp_command_extend.proofs.laws.see_outcome.Goals as goal

pub returns : goal.returns
returns c = λ p. says p (items c.args.domain.now) (certificate_of c.args.cert.now) c.see_rows.ensures c.terms-members.ensures.domain
