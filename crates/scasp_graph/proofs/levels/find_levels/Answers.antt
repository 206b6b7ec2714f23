use Rattle.std.proofs.Common.{◌≡◌, ℕ, ◌<◌, List, length, replicate, refl, subst, arith, rules}
use Rattle.scasp_graph.specs.Inside.Levels.{AreRising, IsSettled}
use Rattle.scasp_graph.specs.declared.graph.Edge.{Edge}
use Rattle.scasp_graph.proofs.LevelLemmas.{rising-none, sum-below, levels-settled}
use Rattle.scasp_graph.proofs.levels.find_levels.Goals as goal

pub raise_in_order-requires-clause-rising : goal.raise_in_order-requires-clause-rising
raise_in_order-requires-clause-rising c =
    let zeros : c.in_ok-levels.levels.items ≡ replicate c.args.graph.now.size 0 = search rules in
    rising-none c.args.graph.now.size c.args.graph.now.edges.items c.args.members.now c.in_ok-levels.levels.items zeros

pub loop-smaller : goal.loop-smaller
loop-smaller c =
    let rises = c.loop-test.ensures.rises refl in
    let rising : AreRising c.args.graph.now.size c.args.graph.now.edges.items c.args.members.now c.raise.new.levels.items =
    subst (λ (z : List Edge). AreRising c.args.graph.now.size z c.args.members.now c.raise.new.levels.items) c.deref.ensures.value
    (subst (λ z. AreRising z c.deref.result.now c.args.members.now c.raise.new.levels.items) c.loop.invariant.sized c.raise.ensures.rising) in
    let below = sum-below c.args.graph.now.size c.args.graph.now.edges.items c.args.members.now c.raise.new.levels.items c.requires.components rising in
    omega (arith, rises, below)

pub returns : goal.returns
returns c =
    let edges : List Edge = c.args.graph.now.edges.items in
    let rising : AreRising c.args.graph.now.size edges c.args.members.now c.raise.new.levels.items =
    subst (λ (z : List Edge). AreRising c.args.graph.now.size z c.args.members.now c.raise.new.levels.items) c.deref.ensures.value
    (subst (λ z. AreRising z c.deref.result.now c.args.members.now c.raise.new.levels.items) c.loop.invariant.sized c.raise.ensures.rising) in
    let P : List Edge → Type 0 = λ z. (e : ℕ) → e < length z → IsSettled z c.args.members.now c.raise.new.levels.items e in
    levels-settled c.args.graph.now.size edges c.args.members.now c.raise.new.levels.items rising
    (subst P c.deref.ensures.value (c.loop-test.ensures.settled refl))
