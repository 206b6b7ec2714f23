use Rattle.scasp_serve_top.proofs.CommandLemmas.{commands-refused, long-commands}
use Rattle.scasp_serve_top.proofs.inputs.commands_in_file.Goals as goal

pub returns-in-Ok-clause-err : goal.returns-in-Ok-clause-err
returns-in-Ok-clause-err g c =
    commands-refused (g.F.Files.told c.args.files.now) (g.F.Files.faults c.args.files.now) _ c.args.file.now
    c.in-Ok.bytes.items c.as_slice.result.now c.commands_in_bytes.result c.as_slice.ensures.value c.in-Ok.ensures.whole c.in-Ok.ensures.limit c.commands_in_bytes.ensures.err

pub returns-in-Err-TooLong-clause-err : goal.returns-in-Err-TooLong-clause-err
returns-in-Err-TooLong-clause-err g c =
    long-commands (g.F.Files.told c.args.files.now) (g.F.Files.faults c.args.files.now) (g.F.Files.faults c.read_file.new.files) c.args.file.now c.refusal.result
    (c.in-Err-TooLong.ensures.too_long (cc c.in-Err-TooLong.field-0-is)) c.refusal.ensures
