use Rattle.std.proofs.Common.{◌≡◌, ◌+◌, ◌∷◌, ◌++◌, List, ℕ, add-one, drop, drop-cons, get_or, ap, subst, sym, ◌∙◌}
use Rattle.scasp_search_rules.specs.Successors.Numbering.{firsts}
use Rattle.scasp_search_ends.proofs.FinishedLemmas.FirstLemmas.{first-next, left-none, left_of}
use Rattle.scasp_search_ends.proofs.finished.numbering.firsts.Goals as goal

pub loop-x-init : goal.loop-x-init
loop-x-init c = subst (λ (ms : List ℕ). ms ++ left_of ms (firsts c.args.xs.now) ≡ firsts c.args.xs.now) (sym c.new-made.ensures) (left-none (firsts c.args.xs.now))

pub loop-x-preserved : goal.loop-x-preserved
loop-x-preserved c =
    let xs = c.args.xs.now in
    let i = c.loop-x.x-index in
    let now : drop i xs ≡ get_or xs i 0 ∷ drop (i + 1) xs = drop-cons xs i 0 c.loop-x-test.true ∙ ap (λ j. get_or xs i 0 ∷ drop j xs) (sym (add-one i)) in
    first-next c.loop-x.made c.push_first.new.made (firsts xs) (get_or xs i 0) (drop (i + 1) xs) c.in_ok-push_first.ensures
    (ap (λ ys. c.loop-x.made ++ left_of c.loop-x.made (firsts ys)) (sym now) ∙ c.loop-x.invariant)
