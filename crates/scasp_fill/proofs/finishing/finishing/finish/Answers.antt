use Rattle.std.proofs.Common.{sym, subst}
use Rattle.scasp_cert.specs.Certificate.{certificate_of}
use Rattle.scasp_cert.specs.declared.certificate.Cert.{Cert}
use Rattle.scasp_fill.specs.Finishing.Right.{Completes}
use Rattle.scasp_fill.proofs.FinishingLemmas.FinishLemmas.{joins-none, refused-finishes, right-completes}
use Rattle.scasp_fill.proofs.finishing.finishing.finish.Goals as goal

pub returns-in-Ok-Right : goal.returns-in-Ok-Right
returns-in-Ok-Right c =
    let exact = rw c.in-Ok-Right.field-0-is at c.in-Ok-Right.ensures.exact in
    subst (λ (x : Cert). Completes c.args.program.now (certificate_of c.args.cert.now) (certificate_of x)) (sym c.cert_in.ensures)
    (right-completes c.args.program.now (certificate_of c.args.cert.now) (certificate_of c.in_ok-filled.filled.cert) c.in_ok-filled.ensures.filled
    c.in-Ok-Right.ensures.accepted exact.1 (c.in-Ok-Right.ensures.right c.in-Ok-Right.field-0-is) c.in-Ok-Right.ensures.domains)

pub returns-in-Ok-Joins : goal.returns-in-Ok-Joins
returns-in-Ok-Joins c =
    let exact = rw c.in-Ok-Joins.field-0-is at c.in-Ok-Joins.ensures.exact in
    joins-none c.args.program.now (certificate_of c.args.cert.now) (certificate_of c.in_ok-filled.filled.cert) c.in-Ok-Joins.field-0-0 c.in_ok-filled.ensures.filled exact.1

pub returns-in-Err-Refused : goal.returns-in-Err-Refused
returns-in-Err-Refused c =
    let refutes = rw c.in-Err-Refused.field-0-is at c.in-Err-Refused.ensures.refused in
    refused-finishes c.args.program.now (certificate_of c.args.cert.now) (certificate_of c.in_ok-filled.filled.cert) c.in_ok-filled.filled.known _
    c.see_rows.ensures c.in_ok-filled.ensures.filled c.in_ok-filled.ensures.known refutes c.refused.ensures
