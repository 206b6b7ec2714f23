use Rattle.std.proofs.Common.{◌≡◌, [], ◌∷◌, arith, ap, sym, ◌∙◌}
use Rattle.std.proofs.lemmas.List.{nil_from_length}
use Rattle.scasp_syntax.specs.Tm.{app, nil, num, pushed, var}
use Rattle.scasp_syntax.specs.Values.{all_under}
use Rattle.scasp_syntax.proofs.RebuildLemmas.{no_terms}
use Rattle.scasp_unify.specs.Solving.{sub_of}
use Rattle.scasp_unify.proofs.ResolveLemmas.{all_resolved, entered, left_behind, one_resolved}
use Rattle.scasp_unify.proofs.bindings.resolve_all.Goals as goal

pub lists-preserved-in-Var : goal.lists-preserved-in-Var
lists-preserved-in-Var c =
    let rest : c.lists.rest.now ≡ c.in-Some.term.now ∷ c.in-Some.left.now = c.in-Some.ensures.cases.0 in
    one_resolved c.lists.outer.items (sub_of c.lists.known.now) c.lists.made c.push.new.self (var c.in-Var.x) c.in-Some.term.now c.lists.rest.now c.in-Some.left.now _
    c.in_ok-push-in-Var.ensures.value c.in-Var.ensures rest c.lists.invariant

pub lists-preserved-in-Num : goal.lists-preserved-in-Num
lists-preserved-in-Num c =
    let rest : c.lists.rest.now ≡ c.in-Some.term.now ∷ c.in-Some.left.now = c.in-Some.ensures.cases.0 in
    one_resolved c.lists.outer.items (sub_of c.lists.known.now) c.lists.made c.push-in-Num.new.self (num c.in-Num.value) c.in-Some.term.now c.lists.rest.now c.in-Some.left.now _
    c.in_ok-push-in-Num.ensures.value c.in-Num.ensures rest c.lists.invariant

pub lists-preserved-in-Name : goal.lists-preserved-in-Name
lists-preserved-in-Name c =
    let rest : c.lists.rest.now ≡ c.in-Some.term.now ∷ c.in-Some.left.now = c.in-Some.ensures.cases.0 in
    entered c.lists.outer.items c.push-in-Name.new.self.items _ (sub_of c.in-Name.later.now) c.lists.made c.replace-done.new.dest c.in-Some.term.now c.lists.rest.now c.as_slice-rest.result.now c.in-Name.args.now _
    c.in_ok-push-in-Name-2.ensures.items c.replace-done.ensures.value (c.replace-done.ensures.after ∙ c.in_ok-inner-in-Name.ensures) c.as_slice-rest.ensures.value c.in-Name.ensures rest c.lists.invariant

pub lists-preserved-then-len-eq0 : goal.lists-preserved-then-len-eq0
lists-preserved-then-len-eq0 c =
    let rest : c.lists.rest.now ≡ c.in-Some.term.now ∷ c.in-Some.left.now = c.in-Some.ensures.cases.0 in
    let none = no_terms c.in-Name.args.now (omega (arith, c.len.ensures, c.if-len-eq0.true)) in
    let made = c.in_ok-push-in-Name.ensures.value ∙ ap (λ ts. pushed c.lists.made (app c.in-Name.name ts)) c.new.ensures in
    let term = ap (λ ts. app c.in-Name.name (all_under (sub_of c.in-Name.later.now) ts)) (sym none) ∙ c.in-Name.ensures in
    one_resolved c.lists.outer.items (sub_of c.lists.known.now) c.lists.made c.push-then-len-eq0.new.self (app c.in-Name.name nil) c.in-Some.term.now c.lists.rest.now c.in-Some.left.now _
    made term rest c.lists.invariant

pub returns-in_default : goal.returns-in_default
returns-in_default c =
    let rest : c.lists.rest.now ≡ [] = nil_from_length c.lists.rest.now (omega (arith, c.in-None.ensures.cases)) in
    let outer : c.lists.outer.items ≡ [] = nil_from_length c.lists.outer.items (omega (arith, c.in_default.ensures.cases.0)) in
    all_resolved c.lists.outer.items (sub_of c.lists.known.now) c.lists.made c.lists.rest.now _ outer rest c.lists.invariant

pub lists-preserved : goal.lists-preserved
lists-preserved c =
    let rest : c.lists.rest.now ≡ [] = nil_from_length c.lists.rest.now (omega (arith, c.in-None.ensures.cases)) in
    let made = c.in_ok-push-in-None.ensures.value ∙ (λ j. pushed (c.replace-args.ensures.after j) (app c.in-Some-pop.field-0.name (c.replace-args.ensures.value j))) in
    left_behind c.lists.outer.items c.pop.new.self.items _ (sub_of c.lists.known.now) c.lists.made c.push-in-None.new.self c.lists.rest.now _
    c.in-Some-pop.ensures.items rest made c.lists.invariant
