use Rattle.std.proofs.Common.{◌++◌, ◌∷◌, [], length, filter, reverse, sym, ap, ◌∙◌, subst}
use Rattle.scasp_diseq.specs.Inside.Indexed.{AreBelow, cons_of, is_disequation}
use Rattle.scasp_diseq.specs.Pending.{is_pending_on}
use Rattle.scasp_diseq.proofs.FindingLemmas.{below-told, con-at, next-below, next-passed, next-woken, pending-start, picked}
use Rattle.scasp_diseq.proofs.finding.woken.Goals as goal

pub loop-place-init : goal.loop-place-init
loop-place-init c =
    let x = c.args.x in
    let ms = c.args.mentions.now in
    let cs = cons_of c.args.posted.now.items in
    let places = c.in_ok-places.places.items in
    let told = c.in_ok-places.ensures in
    record {
      below = subst (AreBelow (length cs)) (sym told) (below-told x ms cs c.requires.now);
      woken = ap (λ l. l ++ filter is_disequation (picked cs (reverse places))) c.new-made.ensures ∙ ap (λ l. filter is_disequation (picked cs l)) told ∙ pending-start x ms cs c.requires.now;
    }

pub loop-place-preserved-in_ok-push : goal.loop-place-preserved-in_ok-push
loop-place-preserved-in_ok-push c =
    let ps = c.args.posted.now.items in
    let cs = cons_of ps in
    let rest = c.pop.new.self.items in
    let places = c.loop-place.places.items in
    let p = c.in-Some.place in
    let con = c.get.result.now.con in
    let made = c.loop-place.made in
    record {
      below = (next-below (length cs) rest places p c.in-Some.ensures.items c.loop-place.invariant.below).1;
      woken =
          ap (λ l. l ++ filter is_disequation (picked cs (reverse rest))) (c.in_ok-push.ensures.ok ∙ ap (λ k. made ++ k ∷ []) c.in_ok-copy.ensures)
          ∙ next-woken cs made (filter (is_pending_on c.args.x) cs) rest places p con c.in-Some.ensures.items (con-at ps p c.get.result.now c.get.ensures)
          (sym c.is_disequation.ensures ∙ c.if-is_disequation.true) c.loop-place.invariant.woken;
    }

pub loop-place-preserved : goal.loop-place-preserved
loop-place-preserved c =
    let ps = c.args.posted.now.items in
    let cs = cons_of ps in
    let rest = c.pop.new.self.items in
    let places = c.loop-place.places.items in
    let p = c.in-Some.place in
    record {
      below = (next-below (length cs) rest places p c.in-Some.ensures.items c.loop-place.invariant.below).1;
      woken =
          next-passed cs c.loop-place.made (filter (is_pending_on c.args.x) cs) rest places p c.get.result.now.con c.in-Some.ensures.items (con-at ps p c.get.result.now c.get.ensures)
          (sym c.is_disequation.ensures ∙ c.if-is_disequation.false) c.loop-place.invariant.woken;
    }
