use Rattle.std.proofs.Common.{◌≡◌, [], ◌∷◌, ◌++◌, arith, ap, ◌∙◌}
use Rattle.std.proofs.lemmas.List.{nil_from_length}
use Rattle.scasp_tables.proofs.WalkLemmas.{entered, left_behind}
use Rattle.scasp_tables.proofs.keys.push_terms.Goals as goal

pub loop-x-preserved-in-Some-App-default : goal.loop-x-preserved-in-Some-App-default
loop-x-preserved-in-Some-App-default c =
    let rest = c.in-Some-App-default.ensures.cases.0 ∙ ap (λ t. t ∷ c.in-Some-App-default.others.now) c.in-Some-App-default.field-0-0-is in
    entered c.loop-x.key.items _ c.in-Some-App-default.name c.in-Some-App-default.args c.loop-x.rest.now c.as_slice-rest.result.now c.in-Some-App-default.others c.loop-x.unseen.items c.push.new.self.items _
    (c.in_ok-push_marked-in-Some-App-default.ensures ∙ ap (λ n. c.loop-x.key.items ++ 2 ∷ n ∷ []) c.place.ensures) c.in_ok-push-in-Some-App-default.ensures.items c.as_slice-rest.ensures.value rest c.loop-x.invariant

pub loop-x-preserved : goal.loop-x-preserved
loop-x-preserved c =
    let rest : c.loop-x.rest.now ≡ [] = nil_from_length c.loop-x.rest.now (omega (arith, c.in-None.ensures.cases)) in
    left_behind c.loop-x.key.items _ c.loop-x.rest.now c.in-Some.outer c.loop-x.unseen.items c.pop.new.self.items _
    c.in_ok-push-in-None.ensures.items rest c.in-Some.ensures.items c.loop-x.invariant
