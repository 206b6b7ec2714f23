use Rattle.std.proofs.Common.{◌≡◌, ◌++◌, ◌∷◌, [], List, true, length, subst, sym, ap, ◌∙◌}
use Rattle.scasp_bind.specs.declared.variable.Variable.{Variable}
use Rattle.scasp_syntax.specs.declared.con.Con.{Con}
use Rattle.scasp_unify.specs.Negations.{is_con_below}
use Rattle.scasp_unify.specs.declared.bindings.Binding.{Binding}
use Rattle.scasp_constraint_store.specs.Bound.{bindings_of, lowered_by}
use Rattle.scasp_constraint_store.specs.Held.{Content, Held, with_constraint}
use Rattle.scasp_constraint_store.specs.declared.change.ListChange.TheVariants as change
use Rattle.scasp_constraint_store.proofs.KnownLemmas.{put-known, without-last}
use Rattle.scasp_constraint_store.proofs.UndoLemmas.{content, kept, pushed, shown}
use Rattle.scasp_constraint_store.proofs.store.Store.put.Goals as goal

pub invariant_of-self-2 : goal.invariant_of-self-2
invariant_of-self-2 c =
    let k = c.self.inside.variables in
    let j = c.lower.new.variables in
    let cs = c.self.inside.list.items in
    let ds = c.push_reserved.new.self.items in
    let con = c.args.constraint.now in
    let items = pushed c.self.inside.changes.items c.reserve-2.new.self.items c.push_reserved-2.new.self.items change.Put c.mark-before.result (length k.changes) c.push_reserved-2.ensures.items c.reserve-2.ensures.items c.mark-before.ensures in
    let added : ds ≡ cs ++ con ∷ [] =
    c.push_reserved.ensures.items ∙ ap (λ (xs : List Con). xs ++ c.in_ok-copied.copied ∷ []) c.reserve.ensures.items ∙ ap (λ (x : Con). cs ++ x ∷ []) c.in_ok-copied.ensures in
    let lowered : j.variables ≡ lowered_by (bindings_of cs con) k.variables =
    c.in_ok-lower.ensures.variables
    ∙ ap (λ (bs : List Binding). lowered_by bs k.variables) (c.as_slice-2.ensures.value ∙ c.in_ok-bindings.ensures ∙ ap (λ (xs : List Con). bindings_of xs con) c.as_slice.ensures.value) in
    let known : is_con_below (length k.variables) con ≡ true = subst (λ (h : Held). is_con_below (length h.now.variables) con ≡ true) (sym c.self.view_is) c.requires in
    kept k j cs ds c.self.inside.changes.items c.push_reserved-2.new.self.items change.Put items c.self.invariant c.lower.ensures.continues (without-last cs ds con added)
    (put-known k.variables j.variables (bindings_of cs con) cs ds con lowered added c.self.invariant.known.0 known)

pub returns-clause-changed : goal.returns-clause-changed
returns-clause-changed c =
    let k = c.self.inside.variables in
    let j = c.lower.new.variables in
    let cs = c.self.inside.list.items in
    let ds = c.push_reserved.new.self.items in
    let con = c.args.constraint.now in
    let items = pushed c.self.inside.changes.items c.reserve-2.new.self.items c.push_reserved-2.new.self.items change.Put c.mark-before.result (length k.changes) c.push_reserved-2.ensures.items c.reserve-2.ensures.items c.mark-before.ensures in
    let added : ds ≡ cs ++ con ∷ [] =
    c.push_reserved.ensures.items ∙ ap (λ (xs : List Con). xs ++ c.in_ok-copied.copied ∷ []) c.reserve.ensures.items ∙ ap (λ (x : Con). cs ++ x ∷ []) c.in_ok-copied.ensures in
    let lowered : j.variables ≡ lowered_by (bindings_of cs con) k.variables =
    c.in_ok-lower.ensures.variables
    ∙ ap (λ (bs : List Binding). lowered_by bs k.variables) (c.as_slice-2.ensures.value ∙ c.in_ok-bindings.ensures ∙ ap (λ (xs : List Con). bindings_of xs con) c.as_slice.ensures.value) in
    let new : content j ds ≡ with_constraint con c.args.self.now.now =
    ap (λ (vs : List Variable). record { variables = vs; list = ds }) lowered
    ∙ ap (λ (xs : List Con). record { variables = lowered_by (bindings_of cs con) k.variables; list = xs }) added
    ∙ ap (λ (h : Held). with_constraint con h.now) c.self.view_is in
    shown k j cs ds c.self.inside.changes.items c.push_reserved-2.new.self.items change.Put c.args.self.now (with_constraint con c.args.self.now.now) items c.self.view_is c.self.invariant c.lower.ensures.continues
    (without-last cs ds con added) new
