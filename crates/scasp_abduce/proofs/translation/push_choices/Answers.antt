use Rattle.std.proofs.Common.{◌≡◌, ◌+◌, ◌∷◌, ◌++◌, drop, length, refl, sym, ap, ◌∙◌}
use Rattle.std.specs.List.{flat_map}
use Rattle.scasp_syntax.proofs.Walks.{drop-at}
use Rattle.scasp_abduce.specs.NewNames.{new_name}
use Rattle.scasp_abduce.specs.Translation.{Opposed, choice_rules, opposed}
use Rattle.scasp_abduce.proofs.NewNameLemmas.{name_in}
use Rattle.scasp_abduce.proofs.OpposedLemmas.{choice, first, joined, opposed-next, rules-pushed}
use Rattle.scasp_abduce.proofs.translation.push_choices.Goals as goal

pub loop-pred-preserved : goal.loop-pred-preserved
loop-pred-preserved c =
    let preds = c.args.preds.now in
    let i = c.loop-pred.pred-index in
    let p = c.pred-item.result in
    let rest = drop (i + 1) preds in
    let taken = c.loop-pred.taken in
    let names = c.loop-pred.names in
    let table = c.new_name.new.names in
    let name = c.in_ok-name.name in
    let now = drop-at preds i p p c.loop-pred-test.true c.pred-item.is refl in
    let new : name_in table name ≡ first taken names p = c.in_ok-name.ensures ∙ ap (new_name taken (length taken) names) c.in_ok-text.ensures in
    let next : opposed taken names (p ∷ rest) ≡ joined p (name_in table name) (opposed c.insert.new.self table rest) = opposed-next taken c.insert.new.self names table p rest name new c.in_ok-insert.ensures in
    record {
      clauses =
          rules-pushed c.loop-pred.clauses c.push_choice.new.clauses (flat_map choice_rules (opposed c.insert.new.self table rest).choices) (choice p (name_in table name)) c.in_ok-push_choice.ensures
          ∙ ap (λ (o : Opposed). c.loop-pred.clauses ++ flat_map choice_rules o.choices) (sym next)
          ∙ ap (λ ps. c.loop-pred.clauses ++ flat_map choice_rules (opposed taken names ps).choices) (sym now) ∙ c.loop-pred.invariant.clauses;
      names = ap (λ (o : Opposed). o.names) (sym next) ∙ ap (λ ps. (opposed taken names ps).names) (sym now) ∙ c.loop-pred.invariant.names;
    }
