use Rattle.std.proofs.Common.{◌+◌, ℕ, List, [], ◌∷◌, ◌++◌, if◌then◌else◌, ap, refl, sym, ◌∙◌}
use Rattle.scasp_forall.proofs.ListLemmas.{counted_more}
use Rattle.scasp_search_rules.specs.Successors.Splits.{is_bound_in}
use Rattle.scasp_forall.proofs.chains.unbound_from.Goals as goal

pub loop-place-preserved : goal.loop-place-preserved
loop-place-preserved c =
    let bs = c.args.bound.now.now in
    let n : ℕ = c.loop-place.place in
    let x : ℕ = c.in_ok-x.x in
    c.in_ok-push_unbound.ensures ∙ ap (λ (ys : List ℕ). ys ++ (if is_bound_in bs x then [] else x ∷ [])) c.loop-place.invariant
    ∙ sym (counted_more bs c.args.first n (n + 1) x refl c.in_ok-x.ensures)
