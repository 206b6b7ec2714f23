use Rattle.std.proofs.Common.{Global, map, refl, string_bytes}
use Rattle.scasp_command_inputs.specs.Inputs.{outside}
use Rattle.scasp_serve_top.proofs.CommandLemmas.{usage-report, words-report}
use Rattle.scasp_serve_top.specs.Outputs.{Asked, asked_of}
use Rattle.scasp_serve_top.proofs.top.serve_words.Goals as goal

pub returns-in-Some : goal.returns-in-Some
returns-in-Some g c =
    let a : Asked = record { program = c.in-Some.program.now; commands = c.in-Some.commands.now } in
    words-report (asked_of (map (string_bytes {Z = Global}) c.args.words.now)) (outside (g.F.Files.told c.args.files.now) (g.F.Files.faults c.args.files.now) (g.F.Files.faults c.serve_files.new.files))
    _ _ _ _ _ a c.in-Some.ensures.some c.serve_files.ensures

pub returns-in-None : goal.returns-in-None
returns-in-None g c =
    usage-report (asked_of (map (string_bytes {Z = Global}) c.args.words.now)) (outside (g.F.Files.told c.args.files.now) (g.F.Files.faults c.args.files.now) (g.F.Files.faults c.args.files.now))
    _ _ _ _ _ (c.in-None.ensures.none refl) c.print.ensures
