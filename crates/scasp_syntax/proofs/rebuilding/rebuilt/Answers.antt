use Rattle.std.proofs.Common.{◌≡◌, [], ◌∷◌, arith, ap, sym, ◌∙◌}
use Rattle.std.proofs.lemmas.List.{nil_from_length}
use Rattle.scasp_syntax.specs.Tm.{app, pushed}
use Rattle.scasp_syntax.specs.Values.{all_under}
use Rattle.scasp_syntax.specs.declared.term.Term.TheVariants.{Var, Num, App}
use Rattle.scasp_syntax.proofs.RebuildLemmas.{replaced, no_terms, entered, left_behind, all_done}
use Rattle.scasp_syntax.proofs.rebuilding.rebuilt.Goals as goal

pub loop-x-preserved-in-Some-Var-default : goal.loop-x-preserved-in-Some-Var-default
loop-x-preserved-in-Some-Var-default g c =
    let left = c.in-Some-Var-default.others.now in
    let rest = c.in-Some-Var-default.ensures.cases.0 ∙ ap (λ t. t ∷ left) c.in-Some-Var-default.field-0-0-is in
    let made = c.in_ok-push-in-Some-Var-default.ensures.value ∙ ap (pushed c.loop-x.made) c.in_ok-value_of-in-Some-Var-default.ensures in
    replaced (g.V.Values.gives c.args.values.now) c.loop-x.outer.items c.loop-x.made c.push.new.self (Var c.in-Some-Var-default.x) c.loop-x.rest.now left _ made rest c.loop-x.invariant

pub loop-x-preserved-in-Some-Num-default : goal.loop-x-preserved-in-Some-Num-default
loop-x-preserved-in-Some-Num-default g c =
    let left = c.in-Some-Num-default.others.now in
    let rest = c.in-Some-Num-default.ensures.cases.0 ∙ ap (λ t. t ∷ left) c.in-Some-Num-default.field-0-0-is in
    replaced (g.V.Values.gives c.args.values.now) c.loop-x.outer.items c.loop-x.made c.push-in-Some-Num-default.new.self (Num c.in-Some-Num-default.value) c.loop-x.rest.now left _ c.in_ok-push-in-Some-Num-default.ensures.value rest c.loop-x.invariant

pub loop-x-preserved-in-Some-App-default : goal.loop-x-preserved-in-Some-App-default
loop-x-preserved-in-Some-App-default g c =
    let left = c.in-Some-App-default.others.now in
    let rest = c.in-Some-App-default.ensures.cases.0 ∙ ap (λ t. t ∷ left) c.in-Some-App-default.field-0-0-is in
    entered (g.V.Values.gives c.args.values.now) c.loop-x.outer.items c.push-in-Some-App-default.new.self.items _ c.loop-x.made c.replace-done.new.dest c.in-Some-App-default.args c.loop-x.rest.now c.as_slice-rest.result.now _
    c.in_ok-push-in-Some-App-default-2.ensures.items c.replace-done.ensures.value (c.replace-done.ensures.after ∙ c.in_ok-inner-in-Some-App-default.ensures) c.as_slice-rest.ensures.value rest c.loop-x.invariant

pub loop-x-preserved-then-len-eq0 : goal.loop-x-preserved-then-len-eq0
loop-x-preserved-then-len-eq0 g c =
    let left = c.in-Some-App-default.others.now in
    let name = c.in-Some-App-default.name in
    let rest = c.in-Some-App-default.ensures.cases.0 ∙ ap (λ t. t ∷ left) c.in-Some-App-default.field-0-0-is in
    let s = g.V.Values.gives c.args.values.now in
    let none = no_terms c.in-Some-App-default.args (omega (arith, c.len.ensures, c.if-len-eq0.true)) in
    let args = c.new.ensures ∙ ap (all_under s) (sym none) in
    let made = c.in_ok-push-in-Some-App-default.ensures.value ∙ ap (λ ts. pushed c.loop-x.made (app name ts)) args in
    replaced s c.loop-x.outer.items c.loop-x.made c.push-then-len-eq0.new.self (App name c.in-Some-App-default.args) c.loop-x.rest.now left _ made rest c.loop-x.invariant

pub returns-in_default : goal.returns-in_default
returns-in_default g c =
    let rest : c.loop-x.rest.now ≡ [] = nil_from_length c.loop-x.rest.now (omega (arith, c.in-None.ensures.cases)) in
    let outer : c.loop-x.outer.items ≡ [] = nil_from_length c.loop-x.outer.items (omega (arith, c.in_default.ensures.cases.0)) in
    all_done (g.V.Values.gives c.args.values.now) c.loop-x.outer.items c.loop-x.made c.loop-x.rest.now _ outer rest c.loop-x.invariant

pub loop-x-preserved : goal.loop-x-preserved
loop-x-preserved g c =
    let rest : c.loop-x.rest.now ≡ [] = nil_from_length c.loop-x.rest.now (omega (arith, c.in-None.ensures.cases)) in
    let made = c.in_ok-push-in-None.ensures.value ∙ (λ j. pushed (c.replace.ensures.after j) (app c.in-Some.field-0.name (c.replace.ensures.value j))) in
    left_behind (g.V.Values.gives c.args.values.now) c.loop-x.outer.items c.pop.new.self.items _ c.loop-x.made c.push-in-None.new.self c.loop-x.rest.now _ c.in-Some.ensures.items rest made c.loop-x.invariant
