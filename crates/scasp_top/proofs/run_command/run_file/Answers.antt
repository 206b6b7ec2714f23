use Rattle.std.proofs.Common.{refl}
use Rattle.scasp_command_words.specs.declared.command.Command.TheVariants.{Run}
use Rattle.scasp_top.proofs.CommandLemmas.{goes-on-run, stops-at-program}
use Rattle.scasp_top.proofs.run_command.run_file.Goals as goal

pub returns-in-Ok : goal.returns-in-Ok
returns-in-Ok g c =
    λ budget answers format is.
    goes-on-run c.args.file.now budget answers format c.args.request is (g.F.Files.told c.args.files.now) (g.F.Files.faults c.args.files.now) (g.F.Files.faults c.program_in_file.new.files)
    c.in-Ok.program c.in-Ok.names _ _ _ _ _ c.in-Ok.ensures.ok c.run_program.ensures

pub returns-in-Err : goal.returns-in-Err
returns-in-Err g c =
    λ budget answers format is.
    stops-at-program (Run c.args.file.now budget answers format) c.args.file.now (g.F.Files.told c.args.files.now) (g.F.Files.faults c.args.files.now) (g.F.Files.faults c.program_in_file.new.files)
    c.in-Err.halt _ _ _ _ _ refl c.in-Err.ensures.err c.tell.ensures
