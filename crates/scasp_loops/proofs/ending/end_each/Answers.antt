use Rattle.std.proofs.Common.{◌≡◌, List, ap, arith, subst, sym, ◌∙◌}
use Rattle.scasp_loops.specs.Inside.Hinted.{AreHints}
use Rattle.scasp_loops.specs.Inside.Kept.{AllStay}
use Rattle.scasp_loops.specs.Inside.Zipped.{literals_from}
use Rattle.scasp_loops.specs.declared.hints.Hint.{Hint}
use Rattle.scasp_search_rules.specs.declared.states.state.Literal.{Literal}
use Rattle.scasp_trail.specs.Past.{Past}
use Rattle.scasp_loops.proofs.EndLemmas.{kept_next}
use Rattle.scasp_loops.proofs.HintLemmas.{hints_stay, stay_both}
use Rattle.scasp_loops.proofs.ending.end_each.Goals as goal

pub literals-preserved : goal.literals-preserved
literals-preserved c =
    let old : List Literal = literals_from 0 c.args.lists.now.entries.now c.args.lists.now.marks.now in
    let now : List Literal = literals_from 0 c.literals.lists.entries.now c.literals.lists.marks.now in
    let new : List Literal = literals_from 0 c.end_one.new.entries.now c.end_one.new.marks.now in
    let stay : AllStay old new = stay_both old now new c.literals.invariant.stay c.end_one.ensures.stay in
    let same : c.as_slice.result.now ≡ c.args.lists.now.hints.now = c.as_slice.ensures ∙ ap (λ (p : Past Hint). p.now) c.literals.invariant.hints in
    let hints : AreHints new c.as_slice.result.now = subst (AreHints new) (sym same) (hints_stay old new c.args.lists.now.hints.now stay c.requires.hints) in
    record {
      now = kept_next c.args.bound.now.now c.args.universals.now c.varied_before-left.result c.literals.left old now new (omega arith) c.varied_before-left.ensures.place
          c.literals.invariant.now c.in_ok-end_one.ensures.now (c.varied_before-left.ensures.others new hints);
      stay = stay;
      entries_before = c.end_one.ensures.entries_before ∙ c.literals.invariant.entries_before;
      marks_before = c.end_one.ensures.marks_before ∙ c.literals.invariant.marks_before;
      hints = c.literals.invariant.hints;
      tops = λ n hs d a. c.end_one.ensures.tops n hs d (c.literals.invariant.tops n hs d a);
      raised = c.literals.invariant.raised;
      fit = omega (arith, c.end_one.ensures.entries_len, c.end_one.ensures.marks_len, c.literals.invariant.fit);
      within = omega (arith, c.end_one.ensures.marks_len, c.literals.invariant.within, c.varied_before-left.ensures.place);
    }
