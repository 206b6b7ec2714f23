use Rattle.std.proofs.Common.{◌++◌, ◌∷◌, [], ◌<◌, length, option_map, slice_get, sym, ap, ◌∙◌, arith}
use Rattle.scasp_bind.specs.declared.variable.Change.TheVariants as change
use Rattle.scasp_bind.specs.Kept.{updated, with_depth}
use Rattle.scasp_bind.proofs.StepLemmas.{depth_changed, depth_more}
use Rattle.scasp_bind.proofs.trailed.Trailed.set_depth.Goals as goal

pub invariant_of-self-2 : goal.invariant_of-self-2
invariant_of-self-2 c =
    let inside = c.self.inside in
    let within : c.args.x < length inside.variables.items = omega (arith, c.requires, ap (λ k. length k.variables) c.self.view_is) in
    depth_more inside.changes.items c.push_reserved.new.self.items inside.variables.items c.put_depth-before.new.variables.items c.args.x c.args.depth c.put_depth-before.result
    c.self.invariant within c.put_depth-before.ensures.before c.put_depth-before.ensures.variables (c.push_reserved.ensures.items ∙ ap (λ cs. cs ++ change.Depth c.args.x c.put_depth-before.result ∷ []) c.make_room.ensures.items)

pub returns-clause-changed : goal.returns-clause-changed
returns-clause-changed c =
    let within : c.args.x < length c.args.self.now.variables = c.requires in
    let one = change.Depth c.args.x c.put_depth-before.result in
    depth_changed c.args.self.now _ c.args.x c.args.depth c.put_depth-before.result within
    (ap (λ k. option_map (λ v. v.depth) (slice_get k.variables c.args.x)) (sym c.self.view_is) ∙ c.put_depth-before.ensures.before)
    (c.put_depth-before.ensures.variables ∙ ap (λ k. updated c.args.x (with_depth c.args.depth) k.variables) c.self.view_is)
    (c.push_reserved.ensures.items ∙ ap (λ cs. cs ++ one ∷ []) c.make_room.ensures.items ∙ ap (λ k. k.changes ++ one ∷ []) c.self.view_is)
