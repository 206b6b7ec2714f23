use Rattle.std.proofs.Common.{sym, subst, arith}
use Rattle.scasp_answers_terms.specs.Tokens.Tokens.{comma}
use Rattle.scasp_answers_terms.specs.Tokens.Hints.{step_at, steps_at}
use Rattle.scasp_answers_lines.specs.Rows.Inside.{Remains}
use Rattle.scasp_answers_lines.proofs.RowsLemmas.SeparatedLemmas.{remains-more}
use Rattle.scasp_answers_lines.proofs.rows.hints.steps.Goals as goal

pub loop-steps-preserved : goal.loop-steps-preserved
loop-steps-preserved c =
    let all = steps_at c.args.cursor.now in
    record {
      remains =
          subst (λ before. Remains comma step_at before all c.taken.new.self) (sym c.in_ok-push.ensures.ok)
          (remains-more comma step_at c.loop-steps.steps all c.loop-steps.cursor c.in_ok-step.step c.step.new.cursor c.taken.new.self c.loop-steps.invariant.remains
          c.in_ok-step.ensures.value c.in_ok-step.ensures.shorter c.if-not-taken.ensures.passes c.taken.ensures.no_longer);
      no_longer = omega (arith, c.taken.ensures.no_longer, c.in_ok-step.ensures.shorter, c.loop-steps.invariant.no_longer);
    }
