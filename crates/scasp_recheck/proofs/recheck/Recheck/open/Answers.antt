use Rattle.std.proofs.Common.{◌<◌, length, arith}
use Rattle.scasp_recheck.proofs.TallyLemmas.{results-more}
use Rattle.scasp_recheck.proofs.recheck.Recheck.open.Goals as goal

pub loop-filed-preserved : goal.loop-filed-preserved
loop-filed-preserved c =
    let items = c.as_slice-filed-items.result.now in
    let below : c.loop-filed.filed-index < length items = omega (arith, c.loop-filed-test.true) in
    results-more c.args.program.now c.loop-filed.results c.push.new.self items c.loop-filed.filed-index c.filed-item.result c.in_ok-check_anew.field-0
    below c.filed-item.is c.loop-filed.invariant c.in_ok-check_anew.ensures c.in_ok-push.ensures.ok
