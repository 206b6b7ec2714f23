use Rattle.scasp_syntax.specs.Tm.{items}
use Rattle.scasp_command_inputs.proofs.DomainLemmas.{long-domain, members-had, members-refused}
use Rattle.scasp_command_inputs.proofs.domain_file.domain_in_file.Goals as goal

pub returns-in-Ok-clause-ok : goal.returns-in-Ok-clause-ok
returns-in-Ok-clause-ok g c =
    members-had (g.F.Files.told c.args.files.now c.args.file.now) c.args.names c.in-Ok.bytes.items c.as_slice.result.now (λ x. items x.0) (λ x. x.1)
    c.read_members.result c.as_slice.ensures.value c.in-Ok.ensures.whole c.read_members.ensures.ok c.read_members.ensures.table

pub returns-in-Ok-clause-err : goal.returns-in-Ok-clause-err
returns-in-Ok-clause-err g c =
    members-refused (g.F.Files.told c.args.files.now) (g.F.Files.faults c.args.files.now) _ c.args.file.now c.args.names
    c.in-Ok.bytes.items c.as_slice.result.now c.read_members.result c.as_slice.ensures.value c.in-Ok.ensures.whole c.read_members.ensures.err

pub returns-in-Err-TooLong-clause-err : goal.returns-in-Err-TooLong-clause-err
returns-in-Err-TooLong-clause-err g c =
    long-domain (g.F.Files.told c.args.files.now) (g.F.Files.faults c.args.files.now) (g.F.Files.faults c.read_file.new.files) c.args.file.now c.args.names c.domain_refusal.result
    (c.in-Err-TooLong.ensures.too_long (cc c.in-Err-TooLong.field-0-is)) c.domain_refusal.ensures
