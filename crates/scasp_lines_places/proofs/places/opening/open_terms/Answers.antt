use Rattle.std.proofs.Common.{arith}
use Rattle.scasp_lines_places.specs.Places.View.{opening_of}
use Rattle.scasp_lines_places.proofs.PlacesLemmas.AgainstLemmas.{given_opened, heads_over, parts_over}
use Rattle.scasp_lines_places.proofs.places.opening.open_terms.Goals as goal

pub lists-preserved-in_default-split_first : goal.lists-preserved-in_default-split_first
lists-preserved-in_default-split_first c =
    heads_over c.pop.new.self.items c.lists.later.items (c.in-Some.list, c.in-Some.others) (opening_of c.lists.opening) _ c.in-Some.ensures.items
    (omega (arith, c.in_default-split_first.ensures.cases)) c.lists.invariant

pub lists-preserved-in_default-split_first-2 : goal.lists-preserved-in_default-split_first-2
lists-preserved-in_default-split_first-2 c =
    parts_over c.pop.new.self.items c.lists.later.items (c.in-Some.list, c.in-Some.others) (opening_of c.lists.opening) _ c.in-Some.ensures.items
    (omega (arith, c.in_default-split_first-2.ensures.cases)) c.lists.invariant

pub lists-preserved : goal.lists-preserved
lists-preserved c =
    given_opened c.pop.new.self.items c.lists.later.items c.push-in-Some.new.self.items c.push-in-Some-2.new.self.items (c.in-Some.list, c.in-Some.others)
    (c.in-Some-split_first.rest, c.in-Some-split_first-2.behind) c.in_ok-open_outer.field-0 c.in-Some-split_first.head.now c.in-Some-split_first-2.part.now
    (opening_of c.lists.opening) (opening_of c.open_outer.new.opening) _ c.in-Some.ensures.items c.in-Some-split_first.ensures.cases.0
    c.in-Some-split_first-2.ensures.cases.0 c.in_ok-push-2.ensures.items c.in_ok-push-3.ensures.items c.in_ok-open_outer.ensures.opened c.lists.invariant
