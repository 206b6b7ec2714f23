use Rattle.std.proofs.Common.{◌∙◌, ◌++◌, ◌∷◌, [], ap, sym, refl}
use Rattle.scasp_syntax.specs.Tm.{items}
use Rattle.scasp_syntax.specs.View.{tm_of}
use Rattle.scasp_tables.proofs.KeyLemmas.{tested_term, grown_domain}
use Rattle.scasp_tables.proofs.domain.Domain.push.Goals as goal

pub returns-then-contains-clause-told : goal.returns-then-contains-clause-told
returns-then-contains-clause-told c = (
  sym c.in_ok-is_ground.ensures ∙ c.if-not-branch.false,
  sym (tested_term _ _ _ _ _ _ (ap items c.self.view_is) c.self.invariant.0 c.as_slice.ensures.value c.in_ok-key.ensures) ∙ sym c.contains.ensures ∙ c.if-contains.true,
  refl,
)

pub invariant_of-self-in-Ok : goal.invariant_of-self-in-Ok
invariant_of-self-in-Ok c =
    grown_domain _ _ _ _ _ _ (tm_of c.args.term) c.self.invariant c.as_slice.ensures.value c.in_ok-key.ensures (sym c.in_ok-is_ground.ensures ∙ c.if-not-branch.false) (sym c.contains.ensures ∙ c.if-contains.false)
    c.in_ok-push.ensures.ok c.in-Ok.ensures.ok

pub returns-in-Ok-clause-told : goal.returns-in-Ok-clause-told
returns-in-Ok-clause-told c = (
  sym c.in_ok-is_ground.ensures ∙ c.if-not-branch.false,
  sym (tested_term _ _ _ _ _ _ (ap items c.self.view_is) c.self.invariant.0 c.as_slice.ensures.value c.in_ok-key.ensures) ∙ sym c.contains.ensures ∙ c.if-contains.false,
  c.in-Ok.ensures.ok ∙ ap (λ z. items z ++ tm_of c.args.term ∷ []) c.self.view_is,
)
