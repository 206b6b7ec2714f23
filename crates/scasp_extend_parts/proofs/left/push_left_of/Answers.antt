use Rattle.std.proofs.Common.{◌≡◌, ◌∙◌, ◌+◌, ◌^◌, ◌++◌, nat_lt, length, take, Some, sym, ap, subst}
use Rattle.scasp_ground.specs.Bounded.{all_tested, body_tests, clause_overflows}
use Rattle.scasp_extend_levels.specs.Sorted.{IsSorted}
use Rattle.scasp_extend_levels.specs.declared.buckets.Levels.{Levels}
use Rattle.scasp_ground.proofs.InstanceLemmas.{kept_of, none-past, past-here, past-none}
use Rattle.scasp_ground.proofs.LimitLemmas.{is-power, limits-tested, power-not-past}
use Rattle.scasp_model.specs.Grounding.{choices}
use Rattle.scasp_model.specs.Residual.{residual, residual_of}
use Rattle.scasp_model.specs.declared.program.GroundClause.{GroundClause}
use Rattle.scasp_syntax.specs.Tm.{items}
use Rattle.scasp_syntax.specs.Values.{giving}
use Rattle.scasp_extend_parts.proofs.LeftLemmas.{left-all, left-false, left-true}
use Rattle.scasp_extend_parts.proofs.left.push_left_of.Goals as goal
use Rattle.scasp_extend_parts.proofs.left.push_left_of.Goals.{then-kept+in_ok-instance_of+in_ok-push_left, else-kept}

pub loop-number-preserved : goal.loop-number-preserved
loop-number-preserved c =
    let clause = c.args.clause.now in
    let t = c.args.told.now.trues in
    let f = c.args.told.now.falses in
    let ways = choices (items c.args.domain.now) clause.vars in
    let i = c.loop-number.number in
    let ts = items c.in_ok-values.values in
    let made = c.loop-number.made in
    let tested : all_tested (giving ts) (body_tests clause) ≡ Some c.in-Ok.kept = ap (all_tested (giving ts)) (sym c.in_ok-tests.ensures) ∙ c.in-Ok.ensures in
    record {
      left = λ map g sorted. elim c.if-kept.branch [
        | then-kept+in_ok-instance_of+in_ok-push_left w ↦
            subst (λ (m : Levels). IsSorted map m (g ++ residual t f (kept_of clause (take (i + 1) ways)))) (sym w.made-is)
            (left-true t f clause ways i ts map made w.push_left.new.made g c.in_ok-values.ensures (tested ∙ ap Some w.if-kept.true)
            (λ h s. subst (λ (x : GroundClause). IsSorted map w.push_left.new.made (h ++ residual_of t f x)) w.in_ok-instance_of.ensures (w.in_ok-push_left.ensures map h s))
            (c.loop-number.invariant.left map g sorted))
        | else-kept w ↦
            subst (λ (m : Levels). IsSorted map m (g ++ residual t f (kept_of clause (take (i + 1) ways)))) (sym w.made-is)
            (left-false t f clause ways i ts map made g c.in_ok-values.ensures (tested ∙ ap Some w.if-kept.false) (c.loop-number.invariant.left map g sorted))
      ];
      past = past-none clause ways i ts c.in-Ok.kept c.in_ok-values.ensures tested c.loop-number.invariant.past;
    }

pub returns-clause-ok : goal.returns-clause-ok
returns-clause-ok c =
    let d = items c.args.domain.now in
    let clause = c.args.clause.now in
    let is = is-power c.len.result (length d) clause.vars c.in-Some.count c.len.ensures c.in-Some.ensures.some in
    λ map g sorted. left-all c.args.told.now.trues c.args.told.now.falses clause d c.in-Some.count c.loop-number.number map c.loop-number.made g is
    c.loop-number-test.false (c.loop-number.invariant.left map g sorted)

pub returns-clause-limited : goal.returns-clause-limited
returns-clause-limited c =
    let d = items c.args.domain.now in
    let clause = c.args.clause.now in
    let is = is-power c.len.result (length d) clause.vars c.in-Some.count c.len.ensures c.in-Some.ensures.some in (
      power-not-past c.len.result (length d) clause.vars c.in-Some.count c.len.ensures c.in-Some.ensures.some,
      none-past clause d c.in-Some.count c.loop-number.number is c.loop-number-test.false c.loop-number.invariant.past,
    )

pub returns-in-Err-clause-limited : goal.returns-in-Err-clause-limited
returns-in-Err-clause-limited c =
    let d = items c.args.domain.now in
    let clause = c.args.clause.now in
    let ts = items c.in_ok-values.values in
    limits-tested (Unit {0}) c.in-Err.error (all_tested (giving ts) c.in_ok-tests.tests) (nat_lt 1000000 (length d ^ clause.vars)) (clause_overflows d clause) c.in-Err.ensures
    (power-not-past c.len.result (length d) clause.vars c.in-Some.count c.len.ensures c.in-Some.ensures.some)
    (λ e. past-here clause (choices d clause.vars) c.loop-number.number ts c.in_ok-values.ensures (ap (all_tested (giving ts)) (sym c.in_ok-tests.ensures) ∙ e))
