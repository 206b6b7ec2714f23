-- The last of the saved states is the latest point.
use Rattle.std.specs.Prelude.{◌≡◌, None, Some, List, [], ◌∷◌, ◌++◌, map, reverse, refl}
use Rattle.std.proofs.Common.{ap, subst, sym}
use Rattle.std.proofs.lemmas.List.{reverse-append}
use Rattle.scasp_search_copies.specs.Saved.{point_of}
use Rattle.scasp_search_copies.specs.declared.copied.Saved.{Saved}
use Rattle.scasp_search_rules.specs.declared.states.state.State.{State}
use Rattle.scasp_search_state.specs.Choices.{Taken}

pub saved_last : (xs : List Saved) (x : Saved) → map point_of (reverse (xs ++ x ∷ [])) ≡ point_of x ∷ map point_of (reverse xs)
saved_last xs x = ap (λ (ys : List Saved). map point_of ys) (reverse-append xs (x ∷ []))

pub none_saved : (xs : List Saved) (s : State) → xs ≡ [] → Taken (map point_of (reverse xs)) s (map point_of (reverse xs)) None
none_saved xs s e = rw e refl

pub last_taken : (xs ys : List Saved) (x : Saved) → xs ≡ ys ++ x ∷ [] → Taken (map point_of (reverse xs)) x.state (map point_of (reverse ys)) (Some x.choice)
last_taken xs ys x e = rw (e, reverse-append ys (x ∷ [])) (refl, refl, refl)
