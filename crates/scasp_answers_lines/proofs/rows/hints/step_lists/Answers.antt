use Rattle.std.proofs.Common.{◌∙◌, Some, refl, sym, subst, arith}
use Rattle.scasp_answers_terms.specs.Tokens.Tokens.{sign}
use Rattle.scasp_answers_terms.specs.Tokens.Hints.{steps_at, step_lists_at}
use Rattle.scasp_answers_lines.specs.Rows.Inside.{Remains}
use Rattle.scasp_answers_lines.proofs.RowsLemmas.SeparatedLemmas.{remains-more, remains-last}
use Rattle.scasp_answers_lines.proofs.rows.hints.step_lists.Goals as goal

pub loop-lists-preserved : goal.loop-lists-preserved
loop-lists-preserved c =
    let all = step_lists_at c.args.cursor.now in
    record {
      remains =
          subst (λ before. Remains (sign 59) steps_at before all c.taken.new.self) (sym c.in_ok-push.ensures.ok)
          (remains-more (sign 59) steps_at c.loop-lists.lists all c.loop-lists.cursor c.in_ok-steps.steps c.steps.new.cursor c.taken.new.self c.loop-lists.invariant.remains
          c.in_ok-steps.ensures.value c.in_ok-steps.ensures.shorter c.if-not-taken.ensures.passes c.taken.ensures.no_longer);
      no_longer = omega (arith, c.taken.ensures.no_longer, c.in_ok-steps.ensures.shorter, c.loop-lists.invariant.no_longer);
    }

pub returns-then-not-taken : goal.returns-then-not-taken
returns-then-not-taken c =
    remains-last (sign 59) steps_at c.loop-lists.lists (step_lists_at c.args.cursor.now) c.loop-lists.cursor c.in_ok-steps.steps c.steps.new.cursor c.loop-lists.invariant.remains
    c.in_ok-steps.ensures.value c.in_ok-steps.ensures.shorter c.if-not-taken.ensures.passes
    ∙ (λ i. Some (sym c.in_ok-push.ensures.ok i, sym (c.if-not-taken.ensures.kept refl) i))
