-- An index of bindings by variable.
use Rattle.std.specs.Prelude.{◌≡◌, ℕ, Bool, true, false, List, [], ◌∷◌, slice_set, Option, None, Some, ⊤}
use Rattle.scasp_trail.specs.Past.{Past}
use Rattle.scasp_unify.specs.declared.bindings.Binding.{Binding}
use Rattle.scasp_bound.specs.declared.places.Place.{Place}
use Rattle.scasp_bound.specs.Inside.Falls.{AllFallEach, AreFalling}
use Rattle.scasp_bound.specs.Inside.Gaps.{first_from, gaps, item}

-- it is the place of the variable's first binding, and where it is said to be the only one, so it is
abbrev pub IsPlace : ℕ → Option Place → List (Option Binding) → Type 0
IsPlace x None os = first_from 0 x os ≡ None
IsPlace x (Some p) os = (first_from 0 x os ≡ Some p.at) × (p.is_only ≡ true → gaps x os ≡ slice_set os p.at None)

abbrev pub ArePlaces : List (Option Binding) → List (Option Place) → Type 0
ArePlaces os ps = (x : ℕ) → IsPlace x (item ps x) os

abbrev pub ArePlacesEach : List (List (Option Binding)) → List (List (Option Place)) → Type 0
ArePlacesEach [] [] = ⊤
ArePlacesEach [] (ps ∷ pss) = ⊥
ArePlacesEach (os ∷ oss) [] = ⊥
ArePlacesEach (os ∷ oss) (ps ∷ pss) = ArePlaces os ps × ArePlacesEach oss pss

-- the places, where they are used, are right
abbrev pub IsRight : Bool → List (Option Binding) → List (Option Place) → Type 0
IsRight false os ps = ⊤
IsRight true os ps = ArePlaces os ps

-- so they are at each mark, and now where no change has failed since; bindings to variables beyond one are of later ones
pub record IsIndexed (is_whole : Bool) (list : Past (Option Binding)) (places : Past (Option Place)) (rise : ℕ) : Type 0 where
  pub now : IsRight is_whole list.now places.now
  pub before : ArePlacesEach list.before places.before
  pub falls : AreFalling is_whole rise list.now
  pub falls_before : AllFallEach rise list.before

-- a binding of the variable stands at place k behind the others
abbrev pub noted : Bool → ℕ → Option Place → Option Place
noted true k None = Some (record { at = k; is_only = true })
noted true k (Some p) = Some (record { at = p.at; is_only = false })
noted false k o = o

-- nothing is noted of the variable
abbrev pub left_out : {A : Type 0} → Bool → Option A → Option A
left_out true o = None
left_out false o = o
