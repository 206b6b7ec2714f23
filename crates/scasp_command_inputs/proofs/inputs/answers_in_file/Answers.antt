use Rattle.std.proofs.Common.{map}
use Rattle.scasp_answers.specs.Files.View.{entry_of}
use Rattle.scasp_command_inputs.proofs.InputLemmas.{blocks-had, blocks-refused, long-answers}
use Rattle.scasp_command_inputs.proofs.inputs.answers_in_file.Goals as goal

pub returns-in-Ok-clause-ok : goal.returns-in-Ok-clause-ok
returns-in-Ok-clause-ok g c =
    blocks-had (g.F.Files.told c.args.files.now c.args.file.now) c.args.names c.in-Ok.bytes.items c.as_slice.result.now (λ x. map entry_of x.0) (λ x. x.1)
    c.read_blocks.result c.as_slice.ensures.value c.in-Ok.ensures.whole c.read_blocks.ensures.ok c.read_blocks.ensures.table

pub returns-in-Ok-clause-err : goal.returns-in-Ok-clause-err
returns-in-Ok-clause-err g c =
    blocks-refused (g.F.Files.told c.args.files.now) (g.F.Files.faults c.args.files.now) _ c.args.file.now c.args.names
    c.in-Ok.bytes.items c.as_slice.result.now c.read_blocks.result c.as_slice.ensures.value c.in-Ok.ensures.whole c.read_blocks.ensures.err

pub returns-in-Err-TooLong-clause-err : goal.returns-in-Err-TooLong-clause-err
returns-in-Err-TooLong-clause-err g c =
    long-answers (g.F.Files.told c.args.files.now) (g.F.Files.faults c.args.files.now) (g.F.Files.faults c.read_file.new.files) c.args.file.now c.args.names c.answers_refusal.result
    (c.in-Err-TooLong.ensures.too_long (cc c.in-Err-TooLong.field-0-is)) c.answers_refusal.ensures
