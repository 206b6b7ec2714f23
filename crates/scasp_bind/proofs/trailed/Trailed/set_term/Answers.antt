use Rattle.std.proofs.Common.{◌++◌, ◌∷◌, [], ◌<◌, length, option_map, slice_get, sym, ap, ◌∙◌, arith}
use Rattle.scasp_bind.specs.declared.variable.Change.TheVariants as change
use Rattle.scasp_bind.specs.Kept.{updated, with_term}
use Rattle.scasp_bind.proofs.StepLemmas.{term_changed, term_more}
use Rattle.scasp_bind.proofs.trailed.Trailed.set_term.Goals as goal

pub invariant_of-self-2 : goal.invariant_of-self-2
invariant_of-self-2 c =
    let inside = c.self.inside in
    let within : c.args.x < length inside.variables.items = omega (arith, c.requires, ap (λ k. length k.variables) c.self.view_is) in
    term_more inside.changes.items c.push_reserved.new.self.items inside.variables.items c.put_term-before.new.variables.items c.args.x c.args.term c.put_term-before.result
    c.self.invariant within c.put_term-before.ensures.before c.put_term-before.ensures.variables (c.push_reserved.ensures.items ∙ ap (λ cs. cs ++ change.Term c.args.x c.put_term-before.result ∷ []) c.make_room.ensures.items)

pub returns-clause-changed : goal.returns-clause-changed
returns-clause-changed c =
    let within : c.args.x < length c.args.self.now.variables = c.requires in
    let one = change.Term c.args.x c.put_term-before.result in
    term_changed c.args.self.now _ c.args.x c.args.term c.put_term-before.result within
    (ap (λ k. option_map (λ v. v.term) (slice_get k.variables c.args.x)) (sym c.self.view_is) ∙ c.put_term-before.ensures.before)
    (c.put_term-before.ensures.variables ∙ ap (λ k. updated c.args.x (with_term c.args.term) k.variables) c.self.view_is)
    (c.push_reserved.ensures.items ∙ ap (λ cs. cs ++ one ∷ []) c.make_room.ensures.items ∙ ap (λ k. k.changes ++ one ∷ []) c.self.view_is)
