use Rattle.std.proofs.Common.{◌∙◌, ◌≡◌}
use Rattle.std.specs.Int.{w128}
use Rattle.std.proofs.lemmas.Int.{to_z-of_z}
use Rattle.std.specs.Result.{result_ok}
use Rattle.scasp_num.specs.Arithmetic.{lowest}
use Rattle.scasp_num.proofs.Exact.{ok_from-computed, ok_as_computed, lowest-exact, lowest-fits}
use Rattle.scasp_num.proofs.rational.Rat.new.Goals as goal

pub returns-clause-exact : goal.returns-clause-exact
returns-clause-exact c =
    let value : result_ok c.in_lowest_terms.result ≡ lowest c.args.n c.args.d =
    c.in_lowest_terms.ensures ∙ (λ i. lowest (to_z-of_z w128 c.args.n c.ranges.n i) (to_z-of_z w128 c.args.d c.ranges.d i)) in
    ok_from-computed c.in_lowest_terms.result (lowest c.args.n c.args.d) _ (λ q. lowest-exact q c.args.n c.args.d) value

pub returns-clause-fits : goal.returns-clause-fits
returns-clause-fits c =
    let value : result_ok c.in_lowest_terms.result ≡ lowest c.args.n c.args.d =
    c.in_lowest_terms.ensures ∙ (λ i. lowest (to_z-of_z w128 c.args.n c.ranges.n i) (to_z-of_z w128 c.args.d c.ranges.d i)) in
    ok_as_computed c.in_lowest_terms.result (lowest c.args.n c.args.d) _ (lowest-fits c.args.n c.args.d c.requires) value
