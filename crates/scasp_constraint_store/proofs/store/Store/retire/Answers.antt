use Rattle.std.proofs.Common.{◌≡◌, ℕ, List, length, ap, sym, subst, true, ◌∙◌}
use Rattle.std.specs.List.{list_all}
use Rattle.scasp_bind.proofs.SoundLemmas.{continues_same}
use Rattle.scasp_syntax.specs.declared.con.Con.{Con}
use Rattle.scasp_unify.specs.Negations.{is_con_below}
use Rattle.scasp_constraint_store.specs.Held.{kept_from}
use Rattle.scasp_constraint_store.specs.declared.change.ListChange.TheVariants as change
use Rattle.scasp_constraint_store.proofs.KnownLemmas.{kept-below}
use Rattle.scasp_constraint_store.proofs.UndoLemmas.{kept, pushed}
use Rattle.scasp_constraint_store.proofs.store.Store.retire.Goals as goal

pub invariant_of-self-2 : goal.invariant_of-self-2
invariant_of-self-2 c =
    let k = c.self.inside.variables in
    let cs = c.self.inside.list.items in
    let ds = c.replace-old.new.dest.items in
    let l = change.Retired c.replace-old.result in
    let items = pushed c.self.inside.changes.items c.reserve.new.self.items c.push_reserved.new.self.items l c.mark-before.result (length k.changes) c.push_reserved.ensures.items c.reserve.ensures.items c.mark-before.ensures in
    let left : ds ≡ kept_from 0 c.args.places.now cs =
    ap (λ v. v.items) c.replace-old.ensures.after ∙ c.in_ok-kept.ensures
    ∙ ap (λ (ps : List ℕ). kept_from 0 ps c.as_slice.result.now) c.as_slice-2.ensures ∙ ap (λ (xs : List Con). kept_from 0 c.args.places.now xs) c.as_slice.ensures.value in
    kept k k cs ds c.self.inside.changes.items c.push_reserved.new.self.items l items c.self.invariant (continues_same k) (ap (λ v. v.items) c.replace-old.ensures.value)
    (subst (λ (xs : List Con). list_all (is_con_below (length k.variables)) xs ≡ true) (sym left) (kept-below (length k.variables) 0 c.args.places.now cs c.self.invariant.known.0))
