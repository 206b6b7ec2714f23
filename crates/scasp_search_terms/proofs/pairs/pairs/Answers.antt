use Rattle.std.proofs.Common.{arith}
use Rattle.std.proofs.lemmas.Grind.{common_steps}
use Rattle.scasp_search_terms.proofs.PairLemmas.{pairs_past}
use Rattle.scasp_search_terms.proofs.pairs.pairs.Goals as goal
use Rattle.scasp_search_terms.proofs.pairs.pairs.Goals.{then-place-others+in_ok-push_pair, else-place-others}

pub loop-place-preserved : goal.loop-place-preserved
loop-place-preserved c =
    elim c.if-place-others.branch [
      | then-place-others+in_ok-push_pair w ↦ grind (arith, common_steps)
      | else-place-others w ↦ grind (arith, common_steps, pairs_past)
    ]
