use Rattle.scasp_cert.specs.Certificate.{certificate_of}
use Rattle.scasp_command_check.proofs.WorthLemmas.{says}
use Rattle.scasp_command_check.proofs.worth.see_worth.Goals as goal

pub returns : goal.returns
returns c = λ p. says p (certificate_of c.args.cert.now) c.see_rows.ensures
