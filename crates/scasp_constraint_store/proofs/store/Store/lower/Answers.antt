use Rattle.std.proofs.Common.{◌≡◌, refl, length, sym, ap, ◌∙◌}
use Rattle.scasp_bind.specs.Depths.{lowest}
use Rattle.scasp_bind.proofs.StepLemmas.{updated-length}
use Rattle.scasp_constraint_store.specs.Held.{Held, with_depth_at}
use Rattle.scasp_constraint_store.specs.declared.change.ListChange.TheVariants as change
use Rattle.scasp_constraint_store.proofs.KnownLemmas.{same-below}
use Rattle.scasp_constraint_store.proofs.UndoLemmas.{content, kept, pushed, shown}
use Rattle.scasp_constraint_store.proofs.store.Store.lower.Goals as goal

pub invariant_of-self-2 : goal.invariant_of-self-2
invariant_of-self-2 c =
    let k = c.self.inside.variables in
    let j = c.lower.new.self in
    let cs = c.self.inside.list.items in
    let items = pushed c.self.inside.changes.items c.reserve.new.self.items c.push_reserved.new.self.items change.Kept c.mark-before.result (length k.changes) c.push_reserved.ensures.items c.reserve.ensures.items c.mark-before.ensures in
    kept k j cs cs c.self.inside.changes.items c.push_reserved.new.self.items change.Kept items c.self.invariant c.lower.ensures.continues refl
    (same-below (length k.variables) (length j.variables) cs (sym (ap length c.in_ok-lower.ensures.variables ∙ updated-length k.variables c.args.x (lowest c.args.depth))) c.self.invariant.known.0)

pub returns-clause-changed : goal.returns-clause-changed
returns-clause-changed c =
    let k = c.self.inside.variables in
    let j = c.lower.new.self in
    let cs = c.self.inside.list.items in
    let items = pushed c.self.inside.changes.items c.reserve.new.self.items c.push_reserved.new.self.items change.Kept c.mark-before.result (length k.changes) c.push_reserved.ensures.items c.reserve.ensures.items c.mark-before.ensures in
    let new : content j cs ≡ with_depth_at c.args.x (lowest c.args.depth) c.args.self.now.now = ap (λ vs. record { variables = vs; list = cs }) c.in_ok-lower.ensures.variables ∙ ap (λ (s : Held). with_depth_at c.args.x (lowest c.args.depth) s.now) c.self.view_is in
    shown k j cs cs c.self.inside.changes.items c.push_reserved.new.self.items change.Kept c.args.self.now (with_depth_at c.args.x (lowest c.args.depth) c.args.self.now.now) items c.self.view_is c.self.invariant c.lower.ensures.continues refl new
