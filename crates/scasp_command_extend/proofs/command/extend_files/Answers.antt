use Rattle.std.proofs.Common.{◌∙◌, arith, map}
use Rattle.scasp_answers.specs.Files.View.{entry_of}
use Rattle.scasp_syntax.specs.Tm.{items}
use Rattle.scasp_command_extend.proofs.CommandLemmas.{goes-on, stops-at-answers, stops-at-domain, stops-at-program}
use Rattle.scasp_command_extend.proofs.command.extend_files.Goals as goal

pub returns-in-Err : goal.returns-in-Err
returns-in-Err g c =
    stops-at-program c.args.program.now c.args.answers.now c.args.domain.now (g.F.Files.told c.args.files.now) (g.F.Files.faults c.args.files.now) (g.F.Files.faults c.program_in_file.new.files)
    _ _ _ _ _ c.in-Err.halt c.in-Err.ensures.err c.tell.ensures

pub returns-in-Err-answers_in_file : goal.returns-in-Err-answers_in_file
returns-in-Err-answers_in_file g c =
    stops-at-answers c.args.program.now c.args.answers.now c.args.domain.now (g.F.Files.told c.args.files.now) (g.F.Files.faults c.args.files.now) (g.F.Files.faults c.answers_in_file.new.files)
    _ _ _ _ _ c.in-Ok.read.0 c.in-Ok.read.1 c.in-Ok.ensures.ok (g.F.Files.told c.program_in_file.new.files) (g.F.Files.faults c.program_in_file.new.files)
    c.in-Err-answers_in_file.halt (c.in-Ok.ensures.stays c.args.answers.now) (c.in-Ok.ensures.counts c.args.answers.now)
    c.in-Err-answers_in_file.ensures.err c.tell-in-Err-answers_in_file.ensures

pub returns-in-Ok-domain_in_file : goal.returns-in-Ok-domain_in_file
returns-in-Ok-domain_in_file g c =
    goes-on c.args.program.now c.args.answers.now c.args.domain.now (g.F.Files.told c.args.files.now) (g.F.Files.faults c.args.files.now) (g.F.Files.faults c.domain_in_file.new.files)
    _ _ _ _ _ c.in-Ok.read.0 c.in-Ok.read.1 c.in-Ok.ensures.ok
    (map entry_of c.in-Ok-answers_in_file.read.0) c.in-Ok-answers_in_file.read.1 (g.F.Files.told c.program_in_file.new.files) (c.in-Ok.ensures.stays c.args.answers.now)
    c.in-Ok-answers_in_file.ensures.ok (items c.in-Ok-domain_in_file.domain) c.in-Ok-domain_in_file.names (g.F.Files.told c.answers_in_file.new.files)
    (c.in-Ok-answers_in_file.ensures.stays c.args.domain.now ∙ c.in-Ok.ensures.stays c.args.domain.now) c.in-Ok-domain_in_file.ensures.ok c.print_blocks.ensures

pub returns : goal.returns
returns g c =
    stops-at-domain c.args.program.now c.args.answers.now c.args.domain.now (g.F.Files.told c.args.files.now) (g.F.Files.faults c.args.files.now) (g.F.Files.faults c.domain_in_file.new.files)
    _ _ _ _ _ c.in-Ok.read.0 c.in-Ok.read.1 c.in-Ok.ensures.ok
    (map entry_of c.in-Ok-answers_in_file.read.0) c.in-Ok-answers_in_file.read.1 (g.F.Files.told c.program_in_file.new.files) (c.in-Ok.ensures.stays c.args.answers.now)
    c.in-Ok-answers_in_file.ensures.ok (g.F.Files.told c.answers_in_file.new.files) (g.F.Files.faults c.answers_in_file.new.files) c.in-Err-domain_in_file.halt
    (c.in-Ok-answers_in_file.ensures.stays c.args.domain.now ∙ c.in-Ok.ensures.stays c.args.domain.now)
    (omega (arith, c.in-Ok.ensures.counts c.args.domain.now, c.in-Ok-answers_in_file.ensures.counts c.args.domain.now))
    c.in-Err-domain_in_file.ensures.err c.tell-in-Err-domain_in_file.ensures
