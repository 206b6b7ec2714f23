-- The first pair that comes to something, with the pairs behind it.
use Rattle.std.specs.Prelude.{◌≡◌, List, [], ◌∷◌, ◌++◌, refl}
use Rattle.std.proofs.Common.{append_assoc}
use Rattle.std.proofs.lemmas.List.{append-nil}
use Rattle.scasp_search_rules.specs.declared.states.tasks.Pair.{Pair}
use Rattle.scasp_search_rules.specs.Successors.Pairs.{in_front}

pub front_end : (qs : List Pair) → in_front qs [] [] ≡ qs
front_end [] = refl
front_end (q ∷ qs) = append-nil (q ∷ qs)

-- where something was found, a pair is put behind it
pub front_full : (qs ps later : List Pair) → ¬ (qs ≡ []) → in_front qs ps later ≡ qs ++ ps
front_full [] ps later n = absurd (n refl)
front_full (q ∷ qs) ps later n = refl

-- a pair and then those behind it
pub front_step : (qs : List Pair) (p : Pair) (rs ps later : List Pair) → in_front (in_front qs (p ∷ []) rs) ps later ≡ in_front qs (p ∷ ps) (in_front rs ps later)
front_step [] p rs ps later = refl
front_step (q ∷ qs) p rs ps later = append_assoc (q ∷ qs) (p ∷ []) ps
