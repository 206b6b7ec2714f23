-- Predicates without repeats.
use Rattle.std.proofs.Common.{◌≡◌, not, List, [], ◌∷◌, refl, ◌∙◌}
use Rattle.std.specs.Prelude.{filter}
use Rattle.std.specs.List.{list_any}
use Rattle.scasp_syntax.specs.Programs.{first_occurrences}
use Rattle.scasp_syntax.specs.Same.{same_pred}
use Rattle.scasp_syntax.specs.declared.atom.Pred.{Pred}
use Rattle.scasp_graph.specs.Inside.Growing.{grown}
use Rattle.scasp_graph.proofs.PredLemmas.{grown-is}

unseen-all : (ps : List Pred) → filter (λ q. not (list_any (same_pred q) [])) ps ≡ ps
unseen-all [] = refl
unseen-all (p ∷ ps) = rw (unseen-all ps) refl

-- a list that grows from nothing by the predicates that it lacks
pub grown-first : (ps : List Pred) → grown [] ps ≡ first_occurrences ps
grown-first ps = grown-is [] ps ∙ unseen-all (first_occurrences ps)
