use Rattle.std.proofs.Common.{◌∙◌, ◌∷◌, ap}
use Rattle.std.specs.HashMap.{get}
use Rattle.scasp_syntax.specs.Programs.{pred_of}
use Rattle.scasp_syntax.specs.contracts.atom.PredPartialEq.TheImpl.{eq-value}
use Rattle.scasp_syntax.specs.declared.atom.Pred.{Pred}
use Rattle.scasp_checker.specs.Walk.Rules.{rules_at}
use Rattle.scasp_checker.proofs.WalkLemmas.RuleLemmas.{put-first}
use Rattle.scasp_checker.proofs.walk.rules.put_before.Goals as goal

pub returns : goal.returns
returns c =
    let made = c.in_ok-chain.ensures ∙ ap (λ (p : Pred). rules_at c.args.rules.now p) c.pred.ensures in
    put-first (λ (p : Pred). get eq-value.it c.args.rules.now p) (λ (p : Pred). get eq-value.it c.insert.new.self p)
    c.pred-2.result (pred_of c.args.head.now) c.args.number c.in_ok-longer.longer c.pred-2.ensures
    (λ p. c.in_ok-insert.ensures.updates.0 p)
    (c.in_ok-longer.ensures ∙ ap (λ ks. c.args.number ∷ ks) made)
