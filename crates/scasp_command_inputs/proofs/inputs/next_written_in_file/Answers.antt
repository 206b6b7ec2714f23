use Rattle.scasp_command_inputs.proofs.InputLemmas.{long-program, text-refused}
use Rattle.scasp_command_inputs.proofs.inputs.next_written_in_file.Goals as goal

pub returns-in-Ok-clause-err : goal.returns-in-Ok-clause-err
returns-in-Ok-clause-err g c =
    text-refused (g.F.Files.told c.args.files.now) (g.F.Files.faults c.args.files.now) _ c.args.file.now c.args.names
    c.in-Ok.bytes.items c.as_slice.result.now c.read_text_behind.result c.as_slice.ensures.value c.in-Ok.ensures.whole c.read_text_behind.ensures.err

pub returns-in-Err-TooLong-clause-err : goal.returns-in-Err-TooLong-clause-err
returns-in-Err-TooLong-clause-err g c =
    long-program (g.F.Files.told c.args.files.now) (g.F.Files.faults c.args.files.now) (g.F.Files.faults c.read_file.new.files) c.args.file.now c.args.names c.program_refusal.result
    (c.in-Err-TooLong.ensures.too_long (cc c.in-Err-TooLong.field-0-is)) c.program_refusal.ensures
