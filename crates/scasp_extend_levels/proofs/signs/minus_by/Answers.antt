use Rattle.std.proofs.Common.{subst}
use Rattle.std.proofs.lemmas.Result.{IfOk-weaker}
use Rattle.scasp_extend_levels.specs.Scenes.{Means, Scene, inside, read}
use Rattle.scasp_extend_levels.proofs.SignLemmas.{minus-read}
use Rattle.scasp_model.specs.Levelled.{minus_by}
use Rattle.scasp_worklist.specs.Numbered.{IsLeast, has}
use Rattle.scasp_extend_levels.proofs.signs.minus_by.Goals as goal

pub returns : goal.returns
returns c =
    IfOk-weaker c.least_set.result (λ made. IsLeast c.in_ok-reduct.reduct (has made))
    (λ made. (s : Scene c.args.standings.now c.args.rules.now) → Means s (has made) (minus_by s.plus (read s) (inside s (has c.args.set.now))))
    (λ made l s. minus-read s (has c.args.set.now) (has made) (subst (λ rs. IsLeast rs (has made)) c.in_ok-reduct.ensures l)) c.least_set.ensures
