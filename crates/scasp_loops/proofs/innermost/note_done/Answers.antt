use Rattle.std.proofs.Common.{◌-◌, arith, length}
use Rattle.scasp_loops.specs.Inside.Hinted.{is_done}
use Rattle.scasp_loops.specs.Inside.Zipped.{literals_from}
use Rattle.scasp_loops.proofs.HintLemmas.{fewer_within}
use Rattle.scasp_loops.proofs.innermost.note_done.Goals as goal

pub returns-clause-hints : goal.returns-clause-hints
returns-clause-hints c =
    let ls = literals_from 0 c.args.entries.now c.args.marks.now in
    let n = length c.args.marks.now in
    c.note_undone.ensures.hints ls c.requires.hints (fewer_within is_done c.behind_open-undone.result n (n - 1) ls (omega arith) c.behind_open-undone.ensures.done)
