use Rattle.std.proofs.Common.{map}
use Rattle.scasp_answers.specs.Files.View.{entry_of}
use Rattle.scasp_view_top.proofs.TopLemmas.AnswerLemmas.{blocks-line}
use Rattle.scasp_view_top.proofs.top.answers.blocks_shown.Goals as goal

pub returns-in-Ok : goal.returns-in-Ok
returns-in-Ok c =
    blocks-line c.args.program.now c.args.names.now c.args.options (map entry_of c.args.entries.now) c.in-Ok.shown.text.items c.in-Ok.shown.accepted
    c.shown_line.result c.in-Ok.ensures.text c.in-Ok.ensures.accepted c.in-Ok.ensures.says c.shown_line.ensures
