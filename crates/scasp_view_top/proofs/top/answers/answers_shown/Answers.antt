use Rattle.std.proofs.Common.{map}
use Rattle.scasp_answers.specs.Files.View.{entry_of}
use Rattle.scasp_view_top.proofs.TopLemmas.AnswerLemmas.{with-answers, without-answers, without-program}
use Rattle.scasp_view_top.proofs.top.answers.answers_shown.Goals as goal

pub returns-in-Err : goal.returns-in-Err
returns-in-Err g c =
    without-program (g.F.Files.told c.args.files.now) (g.F.Files.told c.args.files.now)
    (g.F.Files.faults c.args.files.now) (g.F.Files.faults c.args.files.now) (g.F.Files.faults c.program_in_file.new.files)
    c.args.program.now c.args.answers.now c.args.options c.in-Err.halt c.in-Err.ensures.err

pub returns-in-Ok-answers_in_file : goal.returns-in-Ok-answers_in_file
returns-in-Ok-answers_in_file g c =
    with-answers (g.F.Files.told c.args.files.now) (g.F.Files.told c.program_in_file.new.files)
    (g.F.Files.faults c.args.files.now) (g.F.Files.faults c.program_in_file.new.files) (g.F.Files.faults c.answers_in_file.new.files)
    c.args.program.now c.args.answers.now c.args.options c.blocks_shown.result c.in-Ok.read.0 c.in-Ok.read.1
    (map entry_of c.in-Ok-answers_in_file.entries) c.in-Ok-answers_in_file.names
    (c.in-Ok.ensures.stays c.args.answers.now) c.in-Ok.ensures.ok c.in-Ok-answers_in_file.ensures.ok c.blocks_shown.ensures

pub returns : goal.returns
returns g c =
    without-answers (g.F.Files.told c.args.files.now) (g.F.Files.told c.program_in_file.new.files)
    (g.F.Files.faults c.args.files.now) (g.F.Files.faults c.program_in_file.new.files) (g.F.Files.faults c.answers_in_file.new.files)
    c.args.program.now c.args.answers.now c.args.options c.in-Err-answers_in_file.halt c.in-Ok.read.0 c.in-Ok.read.1
    (c.in-Ok.ensures.stays c.args.answers.now) (c.in-Ok.ensures.counts c.args.answers.now) c.in-Ok.ensures.ok c.in-Err-answers_in_file.ensures.err
