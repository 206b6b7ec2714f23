use Rattle.std.specs.Prelude.{None, ◌∷◌, []}
use Rattle.std.proofs.Common.{◌≡◌, ◌+◌, ◌<◌, ◌++◌, ◌∙◌, ap, append-nil, arith, get_or, length, length-append, refl, subst, sym, take}
use Rattle.std.proofs.lemmas.List.{take_all, take_more}
use Rattle.scasp_search_walk.proofs.ComesLemmas.{by-stop, comes-cut, comes-more, not-both, one-more, still-open, stop-in}
use Rattle.scasp_search_walk.proofs.ReachedLemmas.{reached-none}
use Rattle.scasp_search_walk.specs.Slices.{Comes, Gives, Keeps}
use Rattle.scasp_search_walk.proofs.walk.advance_all.Goals as goal

pub loop-slice-init : goal.loop-slice-init
loop-slice-init g c =
    let v = g.F.Frontier.value_of in
    let m = g.F.Frontier.machine (g.F.Frontier.problem c.args.walk.now.front) in
    let budget = c.args.walk.now.budget in
    let calls = c.args.walk.now.calls in
    let old = g.F.Frontier.states c.args.walk.now.front in
    record {
      same = refl;
      budget = refl;
      count = ap length c.new-answers.ensures.items;
      goes = λ fresh goes-on. subst (λ es. Comes v m budget old calls 0 [] es old calls) (sym c.new-answers.ensures.items) (reached-none m budget calls old, omega arith);
      ends = λ fresh over ms fs new after. absurd (not-both c.args.walk.now.stopped fresh over);
    }

pub loop-slice-preserved : goal.loop-slice-preserved
loop-slice-preserved g c =
    let v = g.F.Frontier.value_of in
    let m = g.F.Frontier.machine (g.F.Frontier.problem c.args.walk.now.front) in
    let budget = c.args.walk.now.budget in
    let calls = c.args.walk.now.calls in
    let middle = c.loop-slice.walk.calls in
    let after = c.advance_by.new.walk.calls in
    let old = g.F.Frontier.states c.args.walk.now.front in
    let between = g.F.Frontier.states c.loop-slice.walk.front in
    let new = g.F.Frontier.states c.advance_by.new.walk.front in
    let answer = c.advance_by.result in
    let answers = c.loop-slice.answers.items in
    let slices = c.args.slices.now in
    let i = c.loop-slice.slice-index in
    let n = get_or slices i 0 in
    let within : i < length slices = omega arith in
    let here = take_more slices i 0 within in
    let gives = λ (goes-on : c.loop-slice.walk.stopped ≡ None). subst (λ n. Gives v n budget between middle answer new after) (ap g.F.Frontier.machine c.loop-slice.invariant.same)
    (subst (λ b. Gives v (g.F.Frontier.machine (g.F.Frontier.problem c.loop-slice.walk.front)) b between middle answer new after) c.loop-slice.invariant.budget (c.advance_by.ensures.gives goes-on)) in
    let keeps = λ (goes-on : c.loop-slice.walk.stopped ≡ None). subst (λ k. Keeps k budget between middle n answer after) (ap g.F.Frontier.machine c.loop-slice.invariant.same)
    (subst (λ b. Keeps (g.F.Frontier.machine (g.F.Frontier.problem c.loop-slice.walk.front)) b between middle n answer after) c.loop-slice.invariant.budget (c.advance_by.ensures.keeps goes-on)) in
    record {
      same = c.advance_by.ensures.same ∙ c.loop-slice.invariant.same;
      budget = c.advance_by.ensures.budget ∙ c.loop-slice.invariant.budget;
      count = omega (arith, ap length c.in_ok-push.ensures.items, length-append answers (answer ∷ []), c.loop-slice.invariant.count);
      goes = λ fresh goes-on.
          let before = still-open c.loop-slice.walk.stopped c.advance_by.new.walk.stopped (λ s. ap (λ w. w.stopped) (c.advance_by.ensures.stopped s)) goes-on in
          subst (λ es. Comes v m budget old calls 0 (take (i + 1) slices) es new after) (sym c.in_ok-push.ensures.items)
          (subst (λ ns. Comes v m budget old calls 0 ns (answers ++ answer ∷ []) new after) (sym here)
          (comes-more v m budget calls middle 0 n after old between new (take i slices) answers answer (c.loop-slice.invariant.goes fresh before) (gives before) (keeps before)));
      ends = λ fresh over ms fs end last.
          subst (λ es. Comes v m budget old calls 0 (take (i + 1) slices ++ ms) es end last) (one-more answers c.push.new.self.items fs answer c.in_ok-push.ensures.items)
          (subst (λ ns. Comes v m budget old calls 0 ns (answers ++ answer ∷ fs) end last) (one-more (take i slices) (take (i + 1) slices) ms n here)
          (by-stop (Comes v m budget old calls 0 (take i slices ++ n ∷ ms) (answers ++ answer ∷ fs) end last) c.loop-slice.walk.stopped
          (λ before. let stop = stop-in c.advance_by.new.walk.stopped over in
          comes-cut v m budget calls middle 0 n after last old between new end (take i slices) ms answers fs answer stop.0 (c.loop-slice.invariant.goes fresh before) (gives before)
          (sym c.advance_by.ensures.stops ∙ stop.1))
          (λ before. c.loop-slice.invariant.ends fresh before (n ∷ ms) (answer ∷ fs) end last)));
    }

pub returns-clause-comes : goal.returns-clause-comes
returns-clause-comes g c = λ fresh.
    let v = g.F.Frontier.value_of in
    let m = g.F.Frontier.machine (g.F.Frontier.problem c.args.walk.now.front) in
    let budget = c.args.walk.now.budget in
    let calls = c.args.walk.now.calls in
    let old = g.F.Frontier.states c.args.walk.now.front in
    let new = g.F.Frontier.states c.loop-slice.walk.front in
    let after = c.loop-slice.walk.calls in
    let answers = c.loop-slice.answers.items in
    let slices = c.args.slices.now in
    let i = c.loop-slice.slice-index in
    let all = take_all i slices (omega arith) in
    subst (λ ns. Comes v m budget old calls 0 ns answers new after) all
    (by-stop (Comes v m budget old calls 0 (take i slices) answers new after) c.loop-slice.walk.stopped (λ goes-on. c.loop-slice.invariant.goes fresh goes-on)
    (λ over. subst (λ ns. Comes v m budget old calls 0 ns answers new after) (append-nil (take i slices))
    (subst (λ es. Comes v m budget old calls 0 (take i slices ++ []) es new after) (append-nil answers) (c.loop-slice.invariant.ends fresh over [] [] new after))))
