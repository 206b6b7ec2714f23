-- Marks of the parts, and the points that they are.
use Rattle.std.specs.Prelude.{◌≡◌, true, None, Some, List, [], ◌∷◌, ◌++◌, reverse, refl}
use Rattle.std.proofs.Common.{ap}
use Rattle.std.proofs.lemmas.List.{reverse-append}
use Rattle.scasp_search_rules.specs.declared.states.state.State.{State}
use Rattle.scasp_search_state.specs.Choices.{Taken}
use Rattle.scasp_search_trail.specs.Inside.Changes.{with_mark}
use Rattle.scasp_search_trail.specs.States.{Lists, Marks, last_marked, marked_before, points_from, stands_for}
use Rattle.scasp_search_trail.specs.declared.trail.Saved.{Saved}
use Rattle.scasp_trail.specs.Past.{is_marked, latest}

pub marked_latest : {T : Type 0} (now : List T) (before : List (List T)) → is_marked before ≡ true → latest now before ≡ latest [] before
marked_latest now [] h = absurd (cc h)
marked_latest now (xs ∷ xss) h = refl

pub saved_last : (qs : List Saved) (q : Saved) (l : Lists) (m : Marks)
    → points_from (reverse (qs ++ q ∷ [])) (with_mark l m) ≡ record { choice = q.choice; state = stands_for q.cases l } ∷ points_from (reverse qs) m
saved_last qs q l m = ap (λ (xs : List Saved). points_from xs (with_mark l m)) (reverse-append qs (q ∷ []))

pub none_saved : (qs : List Saved) (m : Marks) (s : State) → qs ≡ [] → Taken (points_from (reverse qs) m) s (points_from (reverse qs) m) None
none_saved qs m s e = rw e refl

pub last_taken : (xs ys : List Saved) (q : Saved) (m : Marks) → xs ≡ ys ++ q ∷ []
    → Taken (points_from (reverse xs) m) (stands_for q.cases (last_marked m)) (points_from (reverse ys) (marked_before m)) (Some q.choice)
last_taken xs ys q m e = rw (e, reverse-append ys (q ∷ [])) (refl, refl, refl)
