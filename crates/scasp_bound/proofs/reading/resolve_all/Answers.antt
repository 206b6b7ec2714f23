use Rattle.std.proofs.Common.{◌≡◌, [], ◌∷◌, arith, ◌∙◌}
use Rattle.std.proofs.lemmas.List.{nil_from_length}
use Rattle.scasp_syntax.specs.Tm.{app, num, pushed, var}
use Rattle.scasp_bound.specs.Inside.Reading.{behind}
use Rattle.scasp_bound.proofs.WalkLemmas.{all_read, entered, left_behind, one_read}
use Rattle.scasp_bound.proofs.reading.resolve_all.Goals as goal

pub lists-preserved-in-Var : goal.lists-preserved-in-Var
lists-preserved-in-Var c =
    let bs = c.args.bindings.now in
    let rest : c.lists.rest.now ≡ c.in-Some.term.now ∷ c.in-Some.left.now = c.in-Some.ensures.cases.0 in
    one_read bs c.lists.outer.items (behind c.lists.next bs) c.lists.made c.push.new.self (var c.in-Var.x) c.in-Some.term.now c.lists.rest.now c.in-Some.left.now _
    c.in_ok-push-in-Var.ensures.value c.in-Var.ensures rest c.lists.invariant

pub lists-preserved-in-Num : goal.lists-preserved-in-Num
lists-preserved-in-Num c =
    let bs = c.args.bindings.now in
    let rest : c.lists.rest.now ≡ c.in-Some.term.now ∷ c.in-Some.left.now = c.in-Some.ensures.cases.0 in
    one_read bs c.lists.outer.items (behind c.lists.next bs) c.lists.made c.push-in-Num.new.self (num c.in-Num.value) c.in-Some.term.now c.lists.rest.now c.in-Some.left.now _
    c.in_ok-push-in-Num.ensures.value c.in-Num.ensures rest c.lists.invariant

pub lists-preserved-in-Name : goal.lists-preserved-in-Name
lists-preserved-in-Name c =
    let bs = c.args.bindings.now in
    let rest : c.lists.rest.now ≡ c.in-Some.term.now ∷ c.in-Some.left.now = c.in-Some.ensures.cases.0 in
    entered bs c.lists.outer.items c.push-in-Name.new.self.items _ c.lists.made c.replace-done.new.dest c.in-Some.term.now c.lists.rest.now c.in-Name.args.terms.now c.in-Name.args.from _
    c.in_ok-push-in-Name.ensures.items c.replace-done.ensures.value (c.replace-done.ensures.after ∙ c.new.ensures) c.in-Name.ensures rest c.lists.invariant

pub returns-in_default : goal.returns-in_default
returns-in_default c =
    let bs = c.args.bindings.now in
    let rest : c.lists.rest.now ≡ [] = nil_from_length c.lists.rest.now (omega (arith, c.in-None.ensures.cases)) in
    let outer : c.lists.outer.items ≡ [] = nil_from_length c.lists.outer.items (omega (arith, c.in_default.ensures.cases.0)) in
    all_read bs c.lists.outer.items (behind c.lists.next bs) c.lists.made c.lists.rest.now _ outer rest c.lists.invariant

pub lists-preserved : goal.lists-preserved
lists-preserved c =
    let bs = c.args.bindings.now in
    let rest : c.lists.rest.now ≡ [] = nil_from_length c.lists.rest.now (omega (arith, c.in-None.ensures.cases)) in
    let made = c.in_ok-push-in-None.ensures.value ∙ (λ j. pushed (c.replace-args.ensures.after j) (app c.in-Some-pop.field-0.name (c.replace-args.ensures.value j))) in
    left_behind bs c.lists.outer.items c.pop.new.self.items _ (behind c.lists.next bs) c.lists.made c.push-in-None.new.self c.lists.rest.now _
    c.in-Some-pop.ensures.items rest made c.lists.invariant
