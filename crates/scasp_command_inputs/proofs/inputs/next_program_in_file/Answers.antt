use Rattle.scasp_command_inputs.specs.Inputs.{IsNoProgramBehind, outside}
use Rattle.scasp_command_inputs.proofs.ProgramLemmas.{memory-line, program-translated}
use Rattle.scasp_command_inputs.proofs.inputs.next_program_in_file.Goals as goal

pub returns-in-Ok-clause-ok : goal.returns-in-Ok-clause-ok
returns-in-Ok-clause-ok g c =
    program-translated c.args.names (g.F.Files.told c.args.files.now c.args.file.now) c.in-Ok.program c.in-Ok.names c.translated.result
    c.in-Ok.ensures.ok c.translated.ensures.ok

pub returns-in-Ok-clause-err : goal.returns-in-Ok-clause-err
returns-in-Ok-clause-err g c =
    memory-line
    (IsNoProgramBehind c.args.names (outside (g.F.Files.told c.args.files.now) (g.F.Files.faults c.args.files.now) (g.F.Files.faults c.next_written_in_file.new.files)) c.args.file.now)
    c.translated.result c.translated.ensures.err
