use Rattle.std.proofs.Common.{◌≡◌, ◌-◌, List, Some, ap, arith, slice_get, sym, ◌∙◌}
use Rattle.scasp_loops.specs.declared.entry.Entry.{Entry}
use Rattle.scasp_loops.specs.declared.entry.Marks.{Marks}
use Rattle.scasp_loops.proofs.AskLemmas.{seen_more}
use Rattle.scasp_loops.proofs.asking.first_seen.Goals as goal

pub literals-preserved : goal.literals-preserved
literals-preserved c =
    let es : List Entry = c.args.lists.now.entries.now in
    let ms : List Marks = c.args.lists.now.marks.now in
    let at = c.literals.left - 1 in
    let entry : slice_get es at ≡ Some c.entry_at-entry.result.now = ap (λ (xs : List Entry). slice_get xs at) (sym c.as_slice-entries.ensures) ∙ c.entry_at-entry.ensures in
    let marks : slice_get ms at ≡ Some c.marks_at.result = ap (λ (xs : List Marks). slice_get xs at) (sym c.as_slice-marks.ensures) ∙ c.marks_at.ensures in
    record {
      found = seen_more c.args.bound.now.now c.args.cases.now c.args.lit.now es ms c.unseen_before-left.result c.literals.left c.entry_at-entry.result.now c.marks_at.result
          c.in_ok-sees.sees c.literals.found c.earlier_if-found.result (omega arith) c.unseen_before-left.ensures.place entry marks c.in_ok-sees.ensures
          (c.unseen_before-left.ensures.others c.args.bound.now.now c.args.cases.now c.args.lit.now c.key_of-key.ensures c.floor_of-floor.ensures) c.earlier_if-found.ensures c.literals.invariant.found;
      within = omega arith;
    }
