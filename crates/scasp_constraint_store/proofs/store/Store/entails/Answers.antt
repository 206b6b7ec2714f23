use Rattle.std.proofs.Common.{◌≡◌, true, length, subst, ap, ◌∙◌}
use Rattle.std.specs.List.{list_all}
use Rattle.scasp_unify.specs.Negations.{is_con_below}
use Rattle.scasp_constraint_store.specs.Held.{Held}
use Rattle.scasp_constraint_store.proofs.AskingLemmas.{entails-answer}
use Rattle.scasp_constraint_store.proofs.store.Store.entails.Goals as goal

pub returns-clause-entailed : goal.returns-clause-entailed
returns-clause-entailed c =
    let s = c.args.self.now.now in
    entails-answer (length s.variables) c.len.result s.list c.self.inside.list.items c.args.constraint.now c.in_ok-negation.negation c.in_ok-passes.passes c.in_ok-passes.ensures.value c.in_ok-negation.ensures
    (c.len.ensures ∙ ap (λ (h : Held). length h.now.variables) c.self.view_is) (ap (λ (h : Held). h.now.list) c.self.view_is)
    (subst (λ (h : Held). list_all (is_con_below (length h.now.variables)) h.now.list ≡ true) c.self.view_is c.self.invariant.known.0) c.requires
