use Rattle.std.proofs.Common.{◌≡◌, ◌∙◌, ◌+◌, ◌++◌, ◌∷◌, [], false, ap, sym}
use Rattle.std.proofs.lemmas.Bool.{cond-false}
use Rattle.scasp_touched.specs.Touched.{touched}
use Rattle.scasp_recheck.specs.Checks.{verdict_on}
use Rattle.scasp_recheck.specs.Tallies.{kept_by}
use Rattle.scasp_recheck.specs.Views.{filed_cert}
use Rattle.scasp_recheck.proofs.TallyLemmas.{kept-is}
use Rattle.scasp_recheck.proofs.tally.Tally.put.Goals as goal

pub returns-clause-ok : goal.returns-clause-ok
returns-clause-ok c =
    let p = c.args.step.now.edit.old.now in
    let q = c.args.step.now.edit.new.now in
    let cert = filed_cert c.args.filed.now in
    let before = c.args.self.now in
    let untouched : touched p q cert ≡ false = sym c.touches.ensures ∙ c.if-touches.false in
    let kept = c.kept.ensures.value ∙ ap (λ b. kept_by b (verdict_on q cert)) c.requires ∙ kept-is p q cert untouched in
    let results = c.in_ok-push-2.ensures.ok ∙ ap (λ k. before.results ++ k ∷ []) kept in
    let count = sym (cond-false (touched p q cert) (before.touched + 1) before.touched untouched) in
    λ i. record { results = results i; touched = count i }
