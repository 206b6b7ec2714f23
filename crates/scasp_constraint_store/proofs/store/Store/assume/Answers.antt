use Rattle.std.proofs.Common.{◌≡◌, ◌++◌, ◌∷◌, [], inr, Err, sym, ap, ◌∙◌}
use Rattle.std.proofs.lemmas.Result.{err_from_is_err_and}
use Rattle.scasp_syntax.specs.Constraints.{Entails, Sat}
use Rattle.scasp_constraint_store.specs.Held.{Held}
use Rattle.scasp_constraint_store.specs.declared.asking.StoreErr.TheVariants as errors
use Rattle.scasp_constraint_store.proofs.AskingLemmas.{added-is_met, added-is_no, entailed-is, entailed-is_met, impossible-is, impossible-is_no, met-tested, overflows-with, same-error}
use Rattle.scasp_constraint_store.proofs.store.Store.assume.Goals as goal

pub returns-then-branch-clause-entailed : goal.returns-then-branch-clause-entailed
returns-then-branch-clause-entailed c = λ s r.
    entailed-is (Entails c.args.self.now.now.list c.args.constraint.now) c.in_ok-entails.field-0 (c.in_ok-entails.ensures.entailed s r) c.if-branch.true

pub returns-then-branch-clause-impossible : goal.returns-then-branch-clause-impossible
returns-then-branch-clause-impossible c = λ s r.
    let h = c.args.self.now.now in
    entailed-is_met (Entails h.list c.args.constraint.now) (Sat (h.list ++ c.args.constraint.now ∷ [])) c.in_ok-entails.field-0 (c.in_ok-entails.ensures.entailed s r) c.if-branch.true

pub returns-in_err-passes_with-clause-overflow : goal.returns-in_err-passes_with-clause-overflow
returns-in_err-passes_with-clause-overflow c = λ e.
    let p = err_from_is_err_and c.from_residual-in_err-passes_with.result c.from_residual-in_err-passes_with.ensures.1 in
    let list = ap (λ (h : Held). h.now.list) (c.self.view_is ∙ c.in_ok-entails.ensures.unchanged) in
    let h = ap Err (sym p.2 ∙ same-error p.0 errors.Overflow (sym p.1 ∙ e)) in
    inr (overflows-with c.args.self.now.now.list c.self.inside.list.items c.args.constraint.now c.in_ok-copied.copied (c.in_err-passes_with.ensures.overflow h) list c.in_ok-copied.ensures)

pub returns-then-not-branch-clause-entailed : goal.returns-then-not-branch-clause-entailed
returns-then-not-branch-clause-entailed c = λ s r.
    impossible-is_no (Entails c.args.self.now.now.list c.args.constraint.now) c.in_ok-entails.field-0 (c.in_ok-entails.ensures.entailed s r) c.if-branch.false

pub returns-then-not-branch-clause-impossible : goal.returns-then-not-branch-clause-impossible
returns-then-not-branch-clause-impossible c = λ s r.
    let h = c.args.self.now.now in
    let list = ap (λ (h : Held). h.now.list) (c.self.view_is ∙ c.in_ok-entails.ensures.unchanged) in
    let met = met-tested h.list c.self.inside.list.items c.args.constraint.now c.in_ok-copied.copied c.in_ok-passes_with.field-0 c.in_ok-passes_with.ensures.value list c.in_ok-copied.ensures r in
    impossible-is (Entails h.list c.args.constraint.now) (Sat (h.list ++ c.args.constraint.now ∷ [])) c.in_ok-entails.field-0 c.in_ok-passes_with.field-0 (c.in_ok-entails.ensures.entailed s r) c.if-branch.false
    met c.if-not-branch.true

pub returns-clause-entailed : goal.returns-clause-entailed
returns-clause-entailed c = λ s r.
    added-is_no (Entails c.args.self.now.now.list c.args.constraint.now) c.in_ok-entails.field-0 (c.in_ok-entails.ensures.entailed s r) c.if-branch.false

pub returns-clause-impossible : goal.returns-clause-impossible
returns-clause-impossible c = λ s r.
    let h = c.args.self.now.now in
    let list = ap (λ (h : Held). h.now.list) (c.self.view_is ∙ c.in_ok-entails.ensures.unchanged) in
    let met = met-tested h.list c.self.inside.list.items c.args.constraint.now c.in_ok-copied.copied c.in_ok-passes_with.field-0 c.in_ok-passes_with.ensures.value list c.in_ok-copied.ensures r in
    added-is_met (Entails h.list c.args.constraint.now) (Sat (h.list ++ c.args.constraint.now ∷ [])) c.in_ok-passes_with.field-0 met c.if-not-branch.false
