use Rattle.std.proofs.Common.{refl}
use Rattle.scasp_serve_top.proofs.CommandLemmas.{goes-on, stops-at-commands, stops-at-program}
use Rattle.scasp_serve_top.specs.Outputs.{Asked}
use Rattle.scasp_serve_top.proofs.top.serve_files.Goals as goal

pub returns-in-Err : goal.returns-in-Err
returns-in-Err g c =
    let a : Asked = record { program = c.args.program.now; commands = c.args.commands.now } in
    stops-at-program a (g.F.Files.told c.args.files.now) (g.F.Files.faults c.args.files.now) _ _ _ _ _ (g.F.Files.faults c.program_in_file.new.files)
    c.in-Err.halt c.in-Err.ensures.err c.tell.ensures

pub returns-in-Ok-commands_in_file : goal.returns-in-Ok-commands_in_file
returns-in-Ok-commands_in_file g c =
    let a : Asked = record { program = c.args.program.now; commands = c.args.commands.now } in
    goes-on a (g.F.Files.told c.args.files.now) (g.F.Files.faults c.args.files.now) _ _ _ _ _ (g.F.Files.told c.program_in_file.new.files)
    (g.F.Files.faults c.commands_in_file.new.files) c.in-Ok.read.0 c.in-Ok.read.1 c.in-Ok-commands_in_file.commands.items c.as_slice.result.now
    (c.in-Ok.ensures.stays c.args.commands.now) c.in-Ok.ensures.ok c.in-Ok-commands_in_file.ensures.ok c.as_slice.ensures.value c.serve_commands.ensures

pub returns : goal.returns
returns g c =
    let a : Asked = record { program = c.args.program.now; commands = c.args.commands.now } in
    stops-at-commands a (g.F.Files.told c.args.files.now) (g.F.Files.faults c.args.files.now) _ _ _ _ _ (g.F.Files.told c.program_in_file.new.files)
    (g.F.Files.faults c.program_in_file.new.files) (g.F.Files.faults c.commands_in_file.new.files) c.in-Ok.read.0 c.in-Ok.read.1 c.in-Err-commands_in_file.halt
    (c.in-Ok.ensures.stays c.args.commands.now) (c.in-Ok.ensures.counts c.args.commands.now) c.in-Ok.ensures.ok
    c.in-Err-commands_in_file.ensures.err c.tell-in-Err-commands_in_file.ensures
