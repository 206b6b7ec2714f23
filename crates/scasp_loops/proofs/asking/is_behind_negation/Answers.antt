use Rattle.std.proofs.Common.{List, subst}
use Rattle.scasp_loops.specs.Inside.Hinted.{Within, is_done}
use Rattle.scasp_loops.specs.Inside.Zipped.{literals_from}
use Rattle.scasp_loops.specs.declared.entry.Entry.{Entry}
use Rattle.scasp_loops.specs.declared.entry.Marks.{Marks}
use Rattle.scasp_loops.proofs.AskLemmas.{nearest_lost}
use Rattle.scasp_loops.proofs.asking.is_behind_negation.Goals as goal

pub returns : goal.returns
returns c = λ bs l k.
    let es : List Entry = c.args.lists.now.entries.now in
    let ms : List Marks = c.args.lists.now.marks.now in
    let done : Within is_done 0 c.above.left (literals_from 0 es ms) =
    subst (λ (xs : List Entry). Within is_done 0 c.above.left (literals_from 0 xs ms)) c.as_slice-entries.ensures
    (subst (λ (ns : List Marks). Within is_done 0 c.above.left (literals_from 0 c.as_slice-entries.result.now ns)) c.as_slice-marks.ensures c.in_default.ensures.done) in
    nearest_lost bs l c.above.passed es ms c.above.left c.args.at c.requires.fit k done c.above.invariant.above c.requires.place
