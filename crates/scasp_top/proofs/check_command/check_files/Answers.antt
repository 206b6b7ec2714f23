use Rattle.std.proofs.Common.{map, refl}
use Rattle.scasp_answers.specs.Files.View.{entry_of}
use Rattle.scasp_command_words.specs.declared.command.Command.TheVariants.{Check}
use Rattle.scasp_top.proofs.CommandLemmas.{goes-on-check, stops-at-answers, stops-at-program}
use Rattle.scasp_top.proofs.check_command.check_files.Goals as goal

pub returns-in-Err : goal.returns-in-Err
returns-in-Err g c =
    stops-at-program (Check c.args.program.now c.args.answers.now) c.args.program.now (g.F.Files.told c.args.files.now) (g.F.Files.faults c.args.files.now) (g.F.Files.faults c.program_in_file.new.files)
    c.in-Err.halt _ _ _ _ _ refl c.in-Err.ensures.err c.tell.ensures

pub returns-in-Ok-answers_in_file : goal.returns-in-Ok-answers_in_file
returns-in-Ok-answers_in_file g c =
    goes-on-check c.args.program.now c.args.answers.now (g.F.Files.told c.args.files.now) (g.F.Files.told c.program_in_file.new.files)
    (g.F.Files.faults c.args.files.now) (g.F.Files.faults c.answers_in_file.new.files)
    c.in-Ok.read.0 c.in-Ok.read.1 (map entry_of c.in-Ok-answers_in_file.entries) _ _ _ _ _ _
    (c.in-Ok.ensures.stays c.args.answers.now) c.in-Ok.ensures.ok c.in-Ok-answers_in_file.ensures.ok c.check_blocks.ensures

pub returns : goal.returns
returns g c =
    stops-at-answers c.args.program.now c.args.answers.now (g.F.Files.told c.args.files.now) (g.F.Files.told c.program_in_file.new.files)
    (g.F.Files.faults c.args.files.now) (g.F.Files.faults c.program_in_file.new.files) (g.F.Files.faults c.answers_in_file.new.files)
    c.in-Ok.read.0 c.in-Ok.read.1 c.in-Err-answers_in_file.halt _ _ _ _ _
    (c.in-Ok.ensures.stays c.args.answers.now) (c.in-Ok.ensures.counts c.args.answers.now) c.in-Ok.ensures.ok
    c.in-Err-answers_in_file.ensures.err c.tell-in-Err-answers_in_file.ensures
