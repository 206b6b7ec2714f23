use Rattle.scasp_cert.specs.Certificate.{certificate_of}
use Rattle.scasp_command_run.proofs.EventLemmas.{overflow-comes, passed-comes}
use Rattle.scasp_command_run.proofs.events.next_of.Goals as goal

pub returns-in-Passed : goal.returns-in-Passed
returns-in-Passed c =
    let h = rw c.in-Passed.is at c.in_ok-cert.ensures in
    record { comes = λ old new about meets. passed-comes c.args.program.now old new (certificate_of c.args.tree.now) about meets h }

pub returns-in-Overflow : goal.returns-in-Overflow
returns-in-Overflow c =
    let h = rw c.in-Overflow.is at c.in_ok-cert.ensures in
    record { comes = λ old new about meets. overflow-comes c.args.program.now old new (certificate_of c.args.tree.now) about meets h }
