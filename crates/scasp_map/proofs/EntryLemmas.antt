-- A table of predicates with one entry more.
use Rattle.std.proofs.Common.{◌≡◌, ◌∙◌, Bool, true, false, cond, Option, Some, refl, ap}
use Rattle.scasp_graph.proofs.PlaceLemmas.{eq-is}
use Rattle.scasp_graph.proofs.PredLemmas.{same_pred-sym}
use Rattle.scasp_syntax.specs.Same.{same_pred}
use Rattle.scasp_syntax.specs.contracts.atom.PredPartialEq.TheImpl.{eq-value}
use Rattle.scasp_syntax.specs.declared.atom.Pred.{Pred}
use Rattle.scasp_syntax.specs.declared.predicate_map.PredMap.{PredMap}
use Rattle.scasp_map.specs.Entries.{entry_or}

entry-cond : (b : Bool) (p : Pred) (e : PredMap) (o : Option PredMap) → entry_or p (cond b (Some e) o) ≡ cond b e (entry_or p o)
entry-cond true p e o = refl
entry-cond false p e o = refl

pub put-entry : (f g : Pred → Option PredMap) (e : PredMap) → ((p : Pred) → g p ≡ cond (eq-value.it e.pred p) (Some e) (f p))
    → (p : Pred) → entry_or p (g p) ≡ cond (same_pred p e.pred) e (entry_or p (f p))
put-entry f g e puts p =
    ap (entry_or p) (puts p) ∙ entry-cond (eq-value.it e.pred p) p e (f p)
    ∙ ap (λ b. cond b e (entry_or p (f p))) (eq-is e.pred p ∙ same_pred-sym e.pred p)
