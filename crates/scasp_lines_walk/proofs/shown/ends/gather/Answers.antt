use Rattle.std.proofs.Common.{◌≡◌, ◌∙◌, ◌-◌, ◌∷◌, ap, reverse, sym}
use Rattle.scasp_lines_walk.specs.Shown.Inside.Ends.{gathered}
use Rattle.scasp_lines_walk.proofs.ShownLemmas.GatherLemmas.{and_false, dropped_next, end_last, gathered_next}
use Rattle.scasp_lines_walk.proofs.shown.ends.gather.Goals as goal

pub loop-left-preserved : goal.loop-left-preserved
loop-left-preserved c =
    let old = c.loop-left in
    let next = c.in-Some.next in
    let popped : reverse old.ended.items ≡ next ∷ reverse c.pop.new.self.items = ap reverse c.in-Some.ensures.items ∙ end_last c.pop.new.self.items next in
    record {
      gathered =
          sym (gathered_next old.below next old.left (reverse old.ended.items) (reverse c.pop.new.self.items) c.loop-left-test.true popped
          ∙ ap (λ f. gathered (record { behind = next.behind; firm = f }) (old.left - 1) (reverse c.pop.new.self.items)) (and_false old.below.firm next.firm c.if-below.false))
          ∙ old.invariant.gathered;
      others = sym (dropped_next next old.left (reverse old.ended.items) (reverse c.pop.new.self.items) c.loop-left-test.true popped) ∙ old.invariant.others;
    }
