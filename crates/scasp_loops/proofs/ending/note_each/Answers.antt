use Rattle.std.proofs.Common.{◌≡◌, ◌-◌, true, List, Some, ap, arith, slice_get, subst, sym, ◌∙◌}
use Rattle.scasp_loops.specs.Inside.Hinted.{AreHints}
use Rattle.scasp_loops.specs.Inside.Zipped.{literals_from}
use Rattle.scasp_loops.specs.declared.entry.Entry.{Entry}
use Rattle.scasp_loops.specs.declared.entry.Marks.{Marks}
use Rattle.scasp_search_rules.specs.declared.states.state.Literal.{Literal}
use Rattle.scasp_syntax.specs.Values.{are_ground}
use Rattle.scasp_trail.specs.Past.{Past}
use Rattle.scasp_loops.proofs.HintLemmas.{one_ground}
use Rattle.scasp_loops.proofs.ending.note_each.Goals as goal

pub literals-preserved : goal.literals-preserved
literals-preserved c =
    let es : List Entry = c.args.lists.now.entries.now in
    let ms : List Marks = c.args.lists.now.marks.now in
    let ls : List Literal = literals_from 0 es ms in
    let at = c.literals.left - 1 in
    let same : c.as_slice-in-literals-2.result.now ≡ es = c.as_slice-in-literals-2.ensures ∙ ap (λ (p : Past Entry). p.now) c.literals.invariant.entries in
    let entry : slice_get es at ≡ Some c.entry_at-entry.result.now = ap (λ (xs : List Entry). slice_get xs at) (sym same) ∙ c.entry_at-entry.ensures in
    let ground : are_ground c.entry_at-entry.result.now.lit.atom.args ≡ true = sym c.in_ok-are_ground.ensures ∙ c.if-not-branch.false in
    let hints : AreHints ls c.as_slice-in-literals.result.now = subst (AreHints ls) (sym c.as_slice-in-literals.ensures) c.literals.invariant.hints in
    record {
      entries = c.literals.invariant.entries;
      marks = c.literals.invariant.marks;
      hints = c.literals.invariant.hints;
      tops = c.literals.invariant.tops;
      raised = c.literals.invariant.raised;
      before = c.literals.invariant.before;
      len = c.literals.invariant.len;
      ground = one_ground es ms c.varied_before-next.result c.literals.left c.literals.above c.entry_at-entry.result.now c.requires.fit (omega arith) c.literals.invariant.within entry ground
          (c.varied_before-next.ensures.others ls hints) c.literals.invariant.ground;
      within = omega (arith, c.literals.invariant.within, c.varied_before-next.ensures.place);
    }
