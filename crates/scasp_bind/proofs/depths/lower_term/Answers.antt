use Rattle.std.proofs.Common.{length, ap, ◌∙◌}
use Rattle.std.specs.List.{list_all}
use Rattle.scasp_syntax.specs.View.{tm_of}
use Rattle.scasp_syntax.specs.WellFormed.{is_below}
use Rattle.scasp_bind.specs.Inside.Heads.{terms_of}
use Rattle.scasp_bind.proofs.DepthLemmas.{goes_on_then}
use Rattle.scasp_bind.proofs.LoweringLemmas.{lowers_next, next_below, next_lighter}
use Rattle.scasp_bind.proofs.WalkLemmas.{terms_of-push}
use Rattle.scasp_bind.proofs.depths.lower_term.Goals as goal

pub loop-next-smaller : goal.loop-next-smaller
loop-next-smaller c =
    next_lighter (tm_of c.in-Some.next.now) (terms_of c.pop.new.self.items) (terms_of c.loop-next.unseen.items) (terms_of c.lower_next.new.unseen.items)
    (ap terms_of c.in-Some.ensures.items ∙ terms_of-push c.pop.new.self.items c.in-Some.next) c.in_ok-lower_next.ensures.unseen

pub loop-next-preserved : goal.loop-next-preserved
loop-next-preserved c =
    let t = tm_of c.in-Some.next.now in
    let before = terms_of c.pop.new.self.items in
    let now = terms_of c.loop-next.unseen.items in
    let next = terms_of c.lower_next.new.unseen.items in
    let last = ap terms_of c.in-Some.ensures.items ∙ terms_of-push c.pop.new.self.items c.in-Some.next in
    record {
      lowered = lowers_next c.loop-next.store.variables c.lower_next.new.store.variables c.args.store.now.variables (tm_of c.args.term.now) t before now next c.args.depth
          last c.in_ok-lower_next.ensures.unseen c.in_ok-lower_next.ensures.lowered c.loop-next.invariant.lowered;
      below = ap (λ n. list_all (λ t. is_below n t) next) c.lower_next.ensures.goes_on.count
          ∙ next_below (length c.loop-next.store.variables) t before now next last c.in_ok-lower_next.ensures.unseen c.loop-next.invariant.below;
      goes_on = goes_on_then c.args.store.now c.loop-next.store c.lower_next.new.store c.loop-next.invariant.goes_on c.lower_next.ensures.goes_on;
    }

pub returns-in_err-lower_next-clause-goes_on : goal.returns-in_err-lower_next-clause-goes_on
returns-in_err-lower_next-clause-goes_on c =
    goes_on_then c.args.store.now c.loop-next.store c.lower_next.new.store c.loop-next.invariant.goes_on c.lower_next.ensures.goes_on
