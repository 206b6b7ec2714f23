use Rattle.std.proofs.Common.{length, sym, ap, ◌∙◌, subst, take, arith}
use Rattle.std.specs.List.{list_any}
use Rattle.std.proofs.Math.Seq.{take-length}
use Rattle.scasp_diseq.specs.Inside.Chains.{places_of, up_to}
use Rattle.scasp_diseq.specs.Inside.Indexed.{AreBelow, cons_of, is_shape}
use Rattle.scasp_diseq.proofs.ChainLemmas.{start, walk-end, walk-within, walked}
use Rattle.scasp_diseq.proofs.FindingLemmas.{below-told, con-at, last-below, last-found, last-passed, picked, shape-start}
use Rattle.scasp_diseq.proofs.IndexLemmas.{cons-length}
use Rattle.scasp_diseq.proofs.finding.is_excluded.Goals as goal

pub loop-next-init : goal.loop-next-init
loop-next-init c =
    let x = c.args.x in
    let ms = c.args.mentions.now in
    let cs = cons_of c.args.posted.now.items in
    let q = is_shape x c.args.name c.args.arity in
    record {
      before = start x ms c.latest-next.result c.latest-next.ensures;
      below = subst (λ l. AreBelow (length cs) (places_of x l)) (sym (take-length ms)) (below-told x ms cs c.requires.now);
      shape = ap (λ l. list_any q (picked cs (places_of x l))) (take-length ms) ∙ shape-start x c.args.name c.args.arity ms cs c.requires.now;
    }

pub get-mention-requires : goal.get-mention-requires
get-mention-requires c = walk-within c.args.x c.in-Some.at c.args.mentions.now c.loop-next.next c.loop-next.invariant.before c.in-Some.is

pub get-requires : goal.get-requires
get-requires c =
    let x = c.args.x in
    let ms = c.args.mentions.now in
    let ps = c.args.posted.now.items in
    let b = c.loop-next.invariant.before in
    let step = walked x c.in-Some.at ms c.get-mention.result c.loop-next.next b c.in-Some.is c.get-mention.ensures.mention c.get-mention.ensures.before in
    let below = last-below (length (cons_of ps)) (places_of x (take step.before.count ms)) (places_of x (take b.count ms)) c.get-mention.result.place step.places c.loop-next.invariant.below in
    omega (arith, below.1, cons-length ps)

pub returns-then-is_shape : goal.returns-then-is_shape
returns-then-is_shape c =
    let x = c.args.x in
    let ms = c.args.mentions.now in
    let ps = c.args.posted.now.items in
    let q = is_shape x c.args.name c.args.arity in
    let b = c.loop-next.invariant.before in
    let m = c.get-mention.result in
    let step = walked x c.in-Some.at ms m c.loop-next.next b c.in-Some.is c.get-mention.ensures.mention c.get-mention.ensures.before in
    last-found q (cons_of ps) (places_of x (take step.before.count ms)) (places_of x (take b.count ms)) m.place c.get.result.now.con (list_any q (cons_of ps))
    step.places (con-at ps m.place c.get.result.now c.get.ensures) (sym c.is_shape.ensures ∙ c.if-is_shape.true) c.loop-next.invariant.shape

pub loop-next-smaller : goal.loop-next-smaller
loop-next-smaller c =
    let step = walked c.args.x c.in-Some.at c.args.mentions.now c.get-mention.result c.loop-next.next c.loop-next.invariant.before c.in-Some.is c.get-mention.ensures.mention c.get-mention.ensures.before in
    omega (arith, step.fewer, ap up_to c.in-Some.is)

pub loop-next-preserved : goal.loop-next-preserved
loop-next-preserved c =
    let x = c.args.x in
    let ms = c.args.mentions.now in
    let ps = c.args.posted.now.items in
    let q = is_shape x c.args.name c.args.arity in
    let b = c.loop-next.invariant.before in
    let m = c.get-mention.result in
    let step = walked x c.in-Some.at ms m c.loop-next.next b c.in-Some.is c.get-mention.ensures.mention c.get-mention.ensures.before in
    let rest = places_of x (take step.before.count ms) in
    let all = places_of x (take b.count ms) in
    record {
      before = step.before;
      below = (last-below (length (cons_of ps)) rest all m.place step.places c.loop-next.invariant.below).0;
      shape =
          last-passed q (cons_of ps) rest all m.place c.get.result.now.con (list_any q (cons_of ps))
          step.places (con-at ps m.place c.get.result.now c.get.ensures) (sym c.is_shape.ensures ∙ c.if-is_shape.false) c.loop-next.invariant.shape;
    }

pub returns : goal.returns
returns c =
    let q = is_shape c.args.x c.args.name c.args.arity in
    let cs = cons_of c.args.posted.now.items in
    ap (λ l. list_any q (picked cs l)) (sym (walk-end c.args.x c.args.mentions.now c.loop-next.next c.loop-next.invariant.before c.in_default.is)) ∙ c.loop-next.invariant.shape
