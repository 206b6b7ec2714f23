use Rattle.std.proofs.Common.{◌≡◌, ◌++◌, [], ◌∷◌, sym, ap, subst, ◌∙◌}
use Rattle.std.proofs.lemmas.Bool.{ltb-true}
use Rattle.scasp_syntax.specs.declared.clause.Item.{Item}
use Rattle.scasp_reader.specs.declared.bodies.bodies.FlatCount.{FlatCount}
use Rattle.scasp_reader.specs.Bodies.Bodies.{Counts, counted_linear}
use Rattle.scasp_reader.proofs.BodiesLemmas.CountLemmas.{Counts_over, Counts_one, Counts_linear, within}
use Rattle.scasp_reader.proofs.bodies.bodies.FlatCount.add.Goals as goal

pub returns-then-is_over : goal.returns-then-is_over
returns-then-is_over c = λ before h. Counts_over c.args.self.now before c.args.item.now h (ltb-true _ _ (sym c.if-is_over.ensures))

pub returns-in-Linear : goal.returns-in-Linear
returns-in-Linear c = λ before h.
    let self = c.args.self.now in
    let l = c.in-Linear.linear in
    let e : c.add_linear.new.self ≡ counted_linear l.vars self = c.in_ok-add_linear.ensures ∙ ap (λ xs. counted_linear xs self) c.as_slice.ensures in
    subst (λ (s : FlatCount). Counts s (before ++ c.args.item.now ∷ [])) (sym e)
    (subst (λ (i : Item). Counts (counted_linear l.vars self) (before ++ i ∷ [])) (sym c.in-Linear.is) (Counts_linear self before l h (within self (sym c.if-is_over.ensures))))

pub returns : goal.returns
returns c = λ before h. Counts_one c.args.self.now before c.args.item.now h c.in_default.not-Linear (within c.args.self.now (sym c.if-is_over.ensures))
