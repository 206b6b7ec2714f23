use Rattle.std.proofs.Common.{◌≡◌, ◌∙◌, ◌<◌, length, map, get_or, ap, sym, arith}
use Rattle.scasp_checker.specs.declared.verdict.verdict.Verdict.TheVariants.{Right}
use Rattle.scasp_recheck.specs.Checks.{checked_of}
use Rattle.scasp_recheck.specs.Tallies.{with_filed}
use Rattle.scasp_recheck.specs.Views.{filed_cert}
use Rattle.scasp_recheck.specs.declared.checked.Checked.TheVariants.{Accepted}
use Rattle.scasp_recheck.proofs.TallyLemmas.{result-at, tally-more}
use Rattle.scasp_recheck.proofs.recheck.Recheck.rechecked.Goals as goal

pub put-requires : goal.put-requires
put-requires c =
    let items = c.as_slice-filed-items.result.now in
    let below : c.loop-place.place < length items = omega (arith, c.loop-place-test.true) in
    let old = c.args.self.now.program in
    let all : c.as_slice-results.result.now ≡ map (checked_of old) (map filed_cert items) =
    c.as_slice-results.ensures ∙ c.args.self.now.up_to_date ∙ ap (map (checked_of old)) (sym c.as_slice-filed-items.ensures) in
    ap (λ rs. get_or rs c.loop-place.place (Accepted Right)) all
    ∙ result-at old items c.loop-place.place c.filed-item.result (Accepted Right) below c.filed-item.is
    ∙ ap (λ p. checked_of p (filed_cert c.filed-item.result)) (sym c.loop-place.invariant.1)

pub loop-place-preserved : goal.loop-place-preserved
loop-place-preserved c =
    let items = c.as_slice-filed-items.result.now in
    let below : c.loop-place.place < length items = omega (arith, c.loop-place-test.true) in
    let invariant = c.loop-place.invariant in (
      tally-more c.args.self.now.program c.args.program.now c.loop-place.tally c.put.new.self items c.loop-place.place c.filed-item.result
          below c.filed-item.is invariant.0
          (c.in_ok-put.ensures.ok ∙ (λ i. with_filed (invariant.1 i) (invariant.2 i) c.loop-place.tally c.filed-item.result)),
      ap (λ e. e.old.now) c.in_ok-put.ensures.edit ∙ invariant.1,
      ap (λ e. e.new.now) c.in_ok-put.ensures.edit ∙ invariant.2,
    )
