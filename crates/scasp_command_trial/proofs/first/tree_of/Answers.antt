use Rattle.scasp_cert.specs.Certificate.{certificate_of}
use Rattle.scasp_command_trial.proofs.TrialLemmas.{leads-on, leads-past, leads-right}
use Rattle.scasp_command_trial.proofs.first.tree_of.Goals as goal

pub returns-in_ok-right-in-Answer : goal.returns-in_ok-right-in-Answer
returns-in_ok-right-in-Answer c =
    let h = rw c.in-Answer.is at c.in_ok-cert.ensures in
    λ old new about meets same.
    leads-right c.args.program.now old new (certificate_of c.args.tree.now) (certificate_of c.in-Answer.cert) c.args.calls c.in_ok-right-in-Answer.field-0
    meets h same c.in_ok-right-in-Answer.ensures

pub returns-in-Passed : goal.returns-in-Passed
returns-in-Passed c =
    let h = rw c.in-Passed.is at c.in_ok-cert.ensures in
    λ old new about meets same. leads-on c.args.program.now old new (certificate_of c.args.tree.now) about meets h

pub returns-in-Overflow : goal.returns-in-Overflow
returns-in-Overflow c =
    let h = rw c.in-Overflow.is at c.in_ok-cert.ensures in
    λ old new about meets same. leads-past c.args.program.now old new (certificate_of c.args.tree.now) about meets h
