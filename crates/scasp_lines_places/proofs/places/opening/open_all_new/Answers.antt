use Rattle.std.proofs.Common.{◌++◌, ◌∷◌, [], arith, ap, ◌∙◌}
use Rattle.scasp_lines_places.specs.Places.View.{opening_of}
use Rattle.scasp_lines_places.proofs.PlacesLemmas.AgainstLemmas.{new_opened, new_over}
use Rattle.scasp_lines_places.proofs.places.opening.open_all_new.Goals as goal

pub lists-preserved-in_default-split_first : goal.lists-preserved-in_default-split_first
lists-preserved-in_default-split_first c =
    new_over c.pop.new.self.items c.lists.later.items (c.in-Some.list, c.in-Some.x) (opening_of c.lists.opening) _ c.in-Some.ensures.items
    (omega (arith, c.in_default-split_first.ensures.cases)) c.lists.invariant

pub lists-preserved : goal.lists-preserved
lists-preserved c =
    let fewer = c.pop.new.self.items in
    let rest = c.in-Some-split_first.rest in
    let more = c.in_ok-push-2.ensures.items ∙ ap (λ k. fewer ++ (rest, k) ∷ []) c.in_ok-next.ensures in
    new_opened fewer c.lists.later.items c.push-in-Some.new.self.items c.push-in-Some-2.new.self.items (c.in-Some.list, c.in-Some.x) c.in_ok-open_new.field-0 rest
    c.in-Some-split_first.head.now (opening_of c.lists.opening) (opening_of c.open_new.new.opening) _ c.in-Some.ensures.items
    c.in-Some-split_first.ensures.cases.0 more c.in_ok-push-3.ensures.items c.in_ok-open_new.ensures.opened c.lists.invariant
