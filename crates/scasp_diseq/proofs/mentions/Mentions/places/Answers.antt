use Rattle.std.proofs.Common.{◌∷◌, ◌++◌, [], append_assoc, reverse, sym, ap, ◌∙◌, arith, take, length}
use Rattle.std.proofs.lemmas.List.{append-nil, reverse-append}
use Rattle.std.proofs.Math.Seq.{take-length}
use Rattle.scasp_diseq.specs.Inside.Chains.{places_of, up_to}
use Rattle.scasp_diseq.proofs.ChainLemmas.{start, walk-end, walk-within, walked}
use Rattle.scasp_diseq.proofs.mentions.Mentions.places.Goals as goal

pub loop-next-init : goal.loop-next-init
loop-next-init c =
    let ms = c.args.self.now in
    record {
      before = start c.args.x ms c.latest-next.result c.latest-next.ensures;
      places = ap (places_of c.args.x) (sym (take-length ms)) ∙ sym (append-nil _) ∙ ap (λ l. places_of c.args.x (take (length ms) ms) ++ reverse l) (sym c.new-made.ensures.items);
    }

pub get-mention-requires : goal.get-mention-requires
get-mention-requires c = walk-within c.args.x c.in-Some.at c.args.self.now c.loop-next.next c.loop-next.invariant.before c.in-Some.is

pub loop-next-smaller : goal.loop-next-smaller
loop-next-smaller c =
    let step = walked c.args.x c.in-Some.at c.args.self.now c.get-mention.result c.loop-next.next c.loop-next.invariant.before c.in-Some.is c.get-mention.ensures.mention c.get-mention.ensures.before in
    omega (arith, step.fewer, ap up_to c.in-Some.is)

pub loop-next-preserved : goal.loop-next-preserved
loop-next-preserved c =
    let step = walked c.args.x c.in-Some.at c.args.self.now c.get-mention.result c.loop-next.next c.loop-next.invariant.before c.in-Some.is c.get-mention.ensures.mention c.get-mention.ensures.before in
    let made = c.loop-next.made.items in
    let p = c.get-mention.result.place in
    record {
      before = step.before;
      places =
          c.loop-next.invariant.places ∙ ap (λ l. l ++ reverse made) step.places ∙ append_assoc _ (p ∷ []) (reverse made)
          ∙ ap (λ l. places_of c.args.x (take step.before.count c.args.self.now) ++ l) (sym (ap reverse c.in_ok-push.ensures.items ∙ reverse-append made (p ∷ [])));
    }

pub returns : goal.returns
returns c =
    sym (c.loop-next.invariant.places ∙ ap (λ l. l ++ reverse c.loop-next.made.items) (walk-end c.args.x c.args.self.now c.loop-next.next c.loop-next.invariant.before c.in_default.is))
