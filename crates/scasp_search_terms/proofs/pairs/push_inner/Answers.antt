use Rattle.std.proofs.Common.{arith}
use Rattle.scasp_search_terms.proofs.PairLemmas.{first_ended, second_ended, taken_apart}
use Rattle.scasp_search_terms.proofs.pairs.push_inner.Goals as goal

pub lists-preserved-in_default-split_first : goal.lists-preserved-in_default-split_first
lists-preserved-in_default-split_first c =
    first_ended c.pop.new.self.items c.lists.unseen.items (c.in-Some.list, c.in-Some.others) c.lists.found _ c.in-Some.ensures.items
    (omega (arith, c.in_default-split_first.ensures.cases)) c.lists.invariant

pub lists-preserved-in_default-split_first-2 : goal.lists-preserved-in_default-split_first-2
lists-preserved-in_default-split_first-2 c =
    second_ended c.pop.new.self.items c.lists.unseen.items (c.in-Some.list, c.in-Some.others) c.lists.found _ c.in-Some.ensures.items
    (omega (arith, c.in_default-split_first-2.ensures.cases)) c.lists.invariant

pub lists-preserved : goal.lists-preserved
lists-preserved c =
    taken_apart c.pop.new.self.items c.lists.unseen.items c.push-in-Some.new.self.items c.push-in-Some-2.new.self.items (c.in-Some.list, c.in-Some.others)
    (c.in-Some-split_first.rest, c.in-Some-split_first-2.behind) c.in_ok-push_outer.field-0 c.in-Some-split_first.term.now c.in-Some-split_first-2.other.now
    c.lists.found c.push_outer.new.found _ c.in-Some.ensures.items c.in-Some-split_first.ensures.cases.0 c.in-Some-split_first-2.ensures.cases.0
    c.in_ok-push-2.ensures.items c.in_ok-push-3.ensures.items c.in_ok-push_outer.ensures.pairs c.lists.invariant
