use Rattle.std.proofs.Common.{◌≡◌, ◌-◌, [], List, Some, ap, arith, slice_get, subst, sym, ◌∙◌}
use Rattle.scasp_loops.specs.Inside.Asked.{standing}
use Rattle.scasp_loops.specs.Inside.Hinted.{AreHints}
use Rattle.scasp_loops.specs.Inside.Zipped.{literals_from}
use Rattle.scasp_loops.specs.declared.entry.Entry.{Entry}
use Rattle.scasp_loops.specs.declared.entry.Marks.{Marks}
use Rattle.scasp_search_rules.specs.declared.states.state.Literal.{Literal}
use Rattle.scasp_loops.proofs.AskLemmas.{apart_next}
use Rattle.scasp_loops.proofs.opposing.all_differing.Goals as goal

pub literals-preserved : goal.literals-preserved
literals-preserved c =
    let es : List Entry = c.args.lists.now.entries.now in
    let ms : List Marks = c.args.lists.now.marks.now in
    let ls : List Literal = literals_from 0 es ms in
    let at = c.literals.left - 1 in
    let entry : slice_get es at ≡ Some c.entry_at-entry.result.now = ap (λ (xs : List Entry). slice_get xs at) (sym c.as_slice-entries.ensures) ∙ c.entry_at-entry.ensures in
    let marks : slice_get ms at ≡ Some c.marks_at.result = ap (λ (xs : List Marks). slice_get xs at) (sym c.as_slice-marks.ensures) ∙ c.marks_at.ensures in
    let hints : AreHints ls c.as_slice-hints.result.now = subst (AreHints ls) (sym c.as_slice-hints.ensures) c.requires.hinted.hints in
    record {
      made = apart_next (standing c.args.variables.now.now c.args.call.now.bound.now.now []) c.args.call.now.first c.args.call.now.lit.now es ms c.key_of-key.result c.same_before-left.result c.literals.left c.entry_at-entry.result.now c.marks_at.result
          c.in_ok-are_opposed.are_opposed c.literals.made c.push_differing.new.list c.key_of-key.ensures (omega arith) c.same_before-left.ensures.place entry marks c.in_ok-are_opposed.ensures
          (c.same_before-left.ensures.others ls hints) c.in_ok-push_differing.ensures c.literals.invariant.made;
      within = omega arith;
    }
