use Rattle.std.proofs.Common.{◌≡◌, [], ◌∷◌, ap, sym, arith, rules}
use Rattle.std.proofs.lemmas.Grind.{common_steps}
use Rattle.scasp_hint.specs.Satisfying.{sat}
use Rattle.scasp_search_rules.specs.Successors.Differences.{differ_pairs}
use Rattle.scasp_search_assuming.proofs.GoingLemmas.{forks_same}
use Rattle.scasp_search_assuming.proofs.differences.differ_pairs.Goals as goal

pub returns-then-is_empty : goal.returns-then-is_empty
returns-then-is_empty g c =
    let e : c.args.pairs ≡ [] = first_of (search rules, grind (arith, common_steps)) in
    forks_same _ _ _ _ _ _ c.when_same.ensures (sym (ap (λ ps. differ_pairs sat (g.M.Situation.now c.args.at.now) ps c.args.aim) e))

pub returns : goal.returns
returns g c =
    let e : c.args.pairs ≡ c.remove-first.result ∷ c.from.result = first_of (search rules, grind (arith, common_steps)) in
    forks_same _ _ _ _ _ _ c.differ_first.ensures (sym (ap (λ ps. differ_pairs sat (g.M.Situation.now c.args.at.now) ps c.args.aim) e))
