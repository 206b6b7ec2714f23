use Rattle.std.proofs.Common.{Some, refl}
use Rattle.scasp_command_inputs.specs.Inputs.{RefusesProgramBehind}
use Rattle.scasp_command_inputs.proofs.ProgramLemmas.{memory-line, program-translated}
use Rattle.scasp_command_inputs.proofs.inputs.next_text.Goals as goal

pub returns-in-Ok-clause-ok : goal.returns-in-Ok-clause-ok
returns-in-Ok-clause-ok c =
    program-translated c.args.names (Some c.args.bytes.now) c.in-Ok.program c.in-Ok.names c.translated.result
    (record { bytes = c.args.bytes.now; are = refl; read = c.in-Ok.ensures.ok }) c.translated.ensures.ok

pub returns-in-Ok-clause-err : goal.returns-in-Ok-clause-err
returns-in-Ok-clause-err c = memory-line (RefusesProgramBehind c.args.names c.args.bytes.now) c.translated.result c.translated.ensures.err
