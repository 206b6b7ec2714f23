use Rattle.std.proofs.Common.{subst}
use Rattle.std.proofs.lemmas.Result.{IfOk-weaker}
use Rattle.scasp_extend_levels.specs.Scenes.{Means, Scene, inside, read}
use Rattle.scasp_extend_levels.proofs.SignLemmas.{next-read}
use Rattle.scasp_model.specs.Levelled.{next_plus}
use Rattle.scasp_worklist.specs.Numbered.{IsLeast, has}
use Rattle.scasp_extend_levels.proofs.signs.next_plus.Goals as goal

pub returns : goal.returns
returns c =
    IfOk-weaker c.least_set.result (λ made. IsLeast c.in_ok-reduct.reduct (has made))
    (λ made. (s : Scene c.args.standings.now c.args.rules.now) → Means s (has made) (next_plus s.plus (read s) (inside s (has c.args.set.now))))
    (λ made l s. next-read s (has c.args.set.now) (has c.in_ok-minus.minus) (has made) (c.in_ok-minus.ensures s)
    (subst (λ rs. IsLeast rs (has made)) c.in_ok-reduct.ensures l)) c.least_set.ensures
