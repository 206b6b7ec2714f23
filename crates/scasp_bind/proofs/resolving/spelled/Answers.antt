use Rattle.std.proofs.Common.{◌≡◌, ◌++◌, ◌∷◌, length, ap, ◌∙◌}
use Rattle.scasp_syntax.specs.View.{tm_of}
use Rattle.scasp_bind.specs.Resolving.{binding}
use Rattle.scasp_bind.specs.Inside.Soundness.{most, resolver}
use Rattle.scasp_bind.proofs.HeadLemmas.{heads_under, left, left-last, written, written_below, written_lighter}
use Rattle.scasp_bind.proofs.resolving.spelled.Goals as goal

pub loop-next-smaller : goal.loop-next-smaller
loop-next-smaller c =
    written_lighter (resolver c.args.store.now) (tm_of c.in-Some.next.now) (tm_of c.in_ok-end.end.now) (left c.pop.new.self.items) (left c.loop-next.unseen.items) (left c.spell.new.unseen.items)
    (ap left c.in-Some.ensures.items ∙ left-last c.pop.new.self.items c.in-Some.next) c.in_ok-spell.ensures.unseen c.in_ok-end.ensures.end.same

pub loop-next-preserved : goal.loop-next-preserved
loop-next-preserved c =
    let store = c.args.store.now in
    let s = resolver store in
    let t = tm_of c.in-Some.next.now in
    let u = tm_of c.in_ok-end.end.now in
    let rest = left c.pop.new.self.items in
    let now = left c.loop-next.unseen.items in
    let next = left c.spell.new.unseen.items in
    let last : now ≡ t ∷ rest = ap left c.in-Some.ensures.items ∙ left-last c.pop.new.self.items c.in-Some.next in
    let leads = c.in_ok-end.ensures.end in
    record {
      kept = ap (λ hs. hs ++ heads_under s next) c.in_ok-spell.ensures.head
          ∙ written (most (length store.changes)) (binding store.variables) c.loop-next.heads.items t u rest now next _ last c.in_ok-spell.ensures.unseen leads.same leads.unbound c.loop-next.invariant.kept;
      below = written_below (length store.variables) t u rest now next last c.in_ok-spell.ensures.unseen leads.below c.loop-next.invariant.below;
      ends = c.in_ok-end.ensures.ends;
    }
