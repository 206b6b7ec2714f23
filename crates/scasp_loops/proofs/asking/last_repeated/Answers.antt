use Rattle.std.proofs.Common.{◌≡◌, ◌-◌, List, Some, ap, arith, length, slice_get, sym, ◌∙◌}
use Rattle.scasp_loops.specs.declared.entry.Entry.{Entry}
use Rattle.scasp_loops.specs.declared.entry.Marks.{Marks}
use Rattle.scasp_loops.proofs.AskLemmas.{unrepeated_step}
use Rattle.scasp_loops.proofs.asking.last_repeated.Goals as goal

pub above-preserved : goal.above-preserved
above-preserved c =
    let es : List Entry = c.args.lists.now.entries.now in
    let ms : List Marks = c.args.lists.now.marks.now in
    let at = c.above.left - 1 in
    let entry : slice_get es at ≡ Some c.entry_at-entry.result.now = ap (λ (xs : List Entry). slice_get xs at) (sym c.as_slice-entries.ensures) ∙ c.entry_at-entry.ensures in
    let marks : slice_get ms at ≡ Some c.marks_at.result = ap (λ (xs : List Marks). slice_get xs at) (sym c.as_slice-marks.ensures) ∙ c.marks_at.ensures in
    record {
      behind = unrepeated_step c.args.bound.now.now c.args.lit.now es ms c.unrepeated_before-left.result c.above.left (length ms) c.entry_at-entry.result.now c.marks_at.result
          (omega arith) entry marks (sym c.in_ok-is_repeated.ensures ∙ c.if-branch.false)
          (c.unrepeated_before-left.ensures.others c.args.bound.now.now c.args.lit.now c.key_of-key.ensures c.floor_of-floor.ensures) c.above.invariant.behind;
      within = omega arith;
    }
