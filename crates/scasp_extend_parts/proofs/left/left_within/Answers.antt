use Rattle.std.proofs.Common.{◌≡◌, ◌≤◌, ◌∙◌, ◌^◌, nat_lt, length, slice_get, Some, sym, ap, arith}
use Rattle.scasp_extend_levels.specs.declared.buckets.Levels.{Levels}
use Rattle.scasp_syntax.specs.Tm.{items}
use Rattle.scasp_ground.specs.Bounded.{clause_overflows, count_over, is_too_large, overflows}
use Rattle.scasp_ground.proofs.InstanceLemmas.{any-clause, count-within, slice_get-at}
use Rattle.scasp_ground.proofs.LimitLemmas.{counted-within, limits-clause, not-past}
use Rattle.scasp_extend_parts.proofs.LeftLemmas.{clauses-ended, clauses-more, past-more}
use Rattle.scasp_extend_parts.proofs.left.left_within.Goals as goal

pub returns-in-Err-clause-limited : goal.returns-in-Err-clause-limited
returns-in-Err-clause-limited c =
    let d = items c.args.domain.now in
    let item = c.clause-item.result in
    let i = c.loop-clause.clause-index in
    let clauses = c.args.program.now.clauses in
    let got : slice_get clauses i ≡ Some item =
    ap (λ cs. slice_get cs i) (sym c.as_slice-clause-items.ensures)
    ∙ slice_get-at c.as_slice-clause-items.result.now i item c.loop-clause-test.true c.clause-item.is in
    let all : count_over (length d) clauses ≤ 1000000 =
    counted-within c.count_instances.result c.len-members.result (length d) c.as_slice.result.now clauses c.len-members.ensures c.as_slice.ensures c.if-is_none.ensures
    c.count_instances.ensures.some in
    let one : length d ^ item.vars ≤ count_over (length d) clauses = count-within (length d) clauses i item got in
    let within : length d ^ item.vars ≤ 1000000 = omega (arith, one, all) in
    limits-clause Levels (Unit {0}) c.in-Err.error (nat_lt 1000000 (length d ^ item.vars)) (clause_overflows d item) (is_too_large d c.args.program.now)
    (overflows d c.args.program.now) c.in-Err.ensures.limited (not-past (length d ^ item.vars) within) (not-past (count_over (length d) clauses) all)
    (λ e. any-clause d clauses i item got e)

pub returns-clause-ok : goal.returns-clause-ok
returns-clause-ok c =
    clauses-ended c.args.told.now.trues c.args.told.now.falses c.as_slice-clause-items.result.now c.args.program.now.clauses (items c.args.domain.now)
    c.loop-clause.clause-index c.args.map.now c.loop-clause.made c.as_slice-clause-items.ensures c.loop-clause-test.false c.loop-clause.invariant.left

pub loop-clause-preserved : goal.loop-clause-preserved
loop-clause-preserved c =
    record {
      left = clauses-more c.args.told.now.trues c.args.told.now.falses c.as_slice-clause-items.result.now (items c.args.domain.now) c.loop-clause.clause-index
          c.clause-item.result c.args.map.now c.loop-clause.made c.push_left_of.new.made c.loop-clause-test.true c.clause-item.is
          (λ h s. c.in-Ok.ensures.ok c.args.map.now h s) c.loop-clause.invariant.left;
      past = past-more (clause_overflows (items c.args.domain.now)) c.as_slice-clause-items.result.now c.loop-clause.clause-index c.clause-item.result _
          c.loop-clause-test.true c.clause-item.is c.in-Ok.ensures.limited.1 c.loop-clause.invariant.past;
    }
