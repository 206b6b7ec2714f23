use Rattle.std.proofs.Common.{None, ◌++◌, ◌∷◌, [], ap, ◌∙◌}
use Rattle.scasp_bind.specs.declared.variable.Change.TheVariants as change
use Rattle.scasp_bind.specs.declared.variable.Variable.{Variable}
use Rattle.scasp_bind.proofs.StepLemmas.{made_changed, made_more}
use Rattle.scasp_bind.proofs.trailed.Trailed.make.Goals as goal

pub invariant_of-self-2 : goal.invariant_of-self-2
invariant_of-self-2 c =
    let inside = c.self.inside in
    made_more inside.changes.items c.push_reserved.new.self.items inside.variables.items c.push.new.variables.items (record { sort = c.args.sort; depth = c.args.depth; term = None })
    c.self.invariant (c.in_ok-x.ensures.variables) (c.push_reserved.ensures.items ∙ ap (λ cs. cs ++ change.Made ∷ []) c.make_room.ensures.items)

pub returns-clause-changed : goal.returns-clause-changed
returns-clause-changed c =
    let v : Variable = record { sort = c.args.sort; depth = c.args.depth; term = None } in
    made_changed c.args.self.now _ v (c.in_ok-x.ensures.variables ∙ ap (λ k. k.variables ++ v ∷ []) c.self.view_is)
    (c.push_reserved.ensures.items ∙ ap (λ cs. cs ++ change.Made ∷ []) c.make_room.ensures.items ∙ ap (λ k. k.changes ++ change.Made ∷ []) c.self.view_is)
