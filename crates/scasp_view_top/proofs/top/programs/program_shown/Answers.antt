use Rattle.scasp_view_top.proofs.TopLemmas.ProgramLemmas.{no-program, numbered-program}
use Rattle.scasp_view_top.proofs.top.programs.program_shown.Goals as goal

pub returns-in-Ok : goal.returns-in-Ok
returns-in-Ok g c =
    numbered-program (g.F.Files.told c.args.files.now) (g.F.Files.faults c.args.files.now) (g.F.Files.faults c.written_in_file.new.files) c.args.file.now c.numbered.result
    c.in-Ok.program c.in-Ok.names c.in-Ok.ensures.ok c.numbered.ensures

pub returns-in-Err : goal.returns-in-Err
returns-in-Err g c =
    no-program (g.F.Files.told c.args.files.now) (g.F.Files.faults c.args.files.now) (g.F.Files.faults c.written_in_file.new.files) c.args.file.now c.in-Err.halt
    c.in-Err.ensures.err
