use Rattle.std.proofs.Common.{◌≡◌, ◌∙◌, sym}
use Rattle.std.proofs.lemmas.Bool.Decides.{Decides-eqb}
use Rattle.scasp_recheck.proofs.MapLemmas.{alike, entry-is, pointwise-is}
use Rattle.scasp_recheck.proofs.certs.Filed.is_asked_as.Goals as goal

pub returns-then-eq : goal.returns-then-eq
returns-then-eq c = λ e p.
    let rules = pointwise-is _ (λ a b. (Decides-eqb a b).0) c.as_slice.result.now c.as_slice-2.result.now (sym c.eq.ensures ∙ c.if-eq.true) in
    let entries = pointwise-is _ entry-is c.as_slice-then-eq.result.now c.as_slice-then-eq-2.result.now (sym c.eq-then-eq.ensures ∙ e) in
    alike c.args.self.now c.args.other.now (sym c.as_slice.ensures ∙ rules ∙ c.as_slice-2.ensures)
    (sym c.as_slice-then-eq.ensures ∙ entries ∙ c.as_slice-then-eq-2.ensures) p
