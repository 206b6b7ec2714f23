use Rattle.std.proofs.Common.{◌≡◌, ◌++◌, drop, map}
use Rattle.scasp_answers.specs.Files.View.{entry_of}
use Rattle.scasp_view_top.specs.Answers.{judged}
use Rattle.scasp_view_top.specs.Blocks.View.{judgement_of}
use Rattle.scasp_view_top.proofs.answers.judge_all.Given as goal

abbrev pub invariant-loop-entry : goal.invariant-loop-entry
invariant-loop-entry l =
    map judgement_of l.blocks.items ++ judged l.program l.names l.asked (map entry_of (drop l.entry-index l.entry-items))
    ≡ judged l.program l.names l.asked (map entry_of l.entries)
