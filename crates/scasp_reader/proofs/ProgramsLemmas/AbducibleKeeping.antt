-- The predicates that may be assumed are distinct and have no `-`.
use Rattle.std.proofs.Common.{◌≡◌, Bool, true, false, not, ◌&&◌, ◌||◌, List, [], ◌∷◌, refl}
use Rattle.std.specs.Prelude.{filter}
use Rattle.std.specs.List.{list_all, list_any}
use Rattle.std.proofs.lemmas.Bool.{and_parts, and_from}
use Rattle.scasp_syntax.specs.Programs.{first_occurrences}
use Rattle.scasp_syntax.specs.Same.{same_pred}
use Rattle.scasp_syntax.specs.WellFormed.{are_abducible}
use Rattle.scasp_syntax.specs.declared.atom.Pred.{Pred}

-- a predicate without `-`
abbrev pub is_positive : Pred → Bool
is_positive p = not p.minus

-- what is in no list is in no part of it
none-filtered : (f g : Pred → Bool) (ps : List Pred) → not (list_any g ps) ≡ true → not (list_any g (filter f ps)) ≡ true
none-filtered f g [] h = refl
none-filtered f g (p ∷ ps) h = by (g p) (f p) refl refl h (none-filtered f g ps)
  where
    by : (a b : Bool) → g p ≡ a → f p ≡ b → not (a || list_any g ps) ≡ true → (not (list_any g ps) ≡ true → not (list_any g (filter f ps)) ≡ true) → not (list_any g (filter f (p ∷ ps))) ≡ true
    by true b x y h r = cc
    by false true x y h r = rw y (rw x (r h))
    by false false x y h r = rw y (r h)

-- none is left of those that are taken out
none-left : (g : Pred → Bool) (ps : List Pred) → not (list_any g (filter (λ q. not (g q)) ps)) ≡ true
none-left g [] = refl
none-left g (p ∷ ps) = by (g p) refl (none-left g ps)
  where
    by : (a : Bool) → g p ≡ a → not (list_any g (filter (λ q. not (g q)) ps)) ≡ true → not (list_any g (filter (λ q. not (g q)) (p ∷ ps))) ≡ true
    by true x r = rw x r
    by false x r = rw x (rw x r)

filtered-abducible : (f : Pred → Bool) (ps : List Pred) → are_abducible ps ≡ true → are_abducible (filter f ps) ≡ true
filtered-abducible f [] h = refl
filtered-abducible f (p ∷ ps) h =
    let a = and_parts (not p.minus && not (list_any (same_pred p) ps)) (are_abducible ps) h in
    let b = and_parts (not p.minus) (not (list_any (same_pred p) ps)) a.0 in
    by (f p) refl b.0 (none-filtered f (same_pred p) ps b.1) (filtered-abducible f ps a.1)
  where
    by : (t : Bool) → f p ≡ t → not p.minus ≡ true → not (list_any (same_pred p) (filter f ps)) ≡ true → are_abducible (filter f ps) ≡ true → are_abducible (filter f (p ∷ ps)) ≡ true
    by true e m n r = rw e (and_from (not p.minus && not (list_any (same_pred p) (filter f ps))) (are_abducible (filter f ps)) (and_from (not p.minus) (not (list_any (same_pred p) (filter f ps))) m n) r)
    by false e m n r = rw e r

pub first-abducible : (ps : List Pred) → list_all is_positive ps ≡ true → are_abducible (first_occurrences ps) ≡ true
first-abducible [] h = refl
first-abducible (p ∷ ps) h =
    let a = and_parts (is_positive p) (list_all is_positive ps) h in
    let others = filter (λ q. not (same_pred p q)) (first_occurrences ps) in
    and_from (not p.minus && not (list_any (same_pred p) others)) (are_abducible others)
    (and_from (not p.minus) (not (list_any (same_pred p) others)) a.0 (none-left (same_pred p) (first_occurrences ps)))
    (filtered-abducible (λ q. not (same_pred p q)) (first_occurrences ps) (first-abducible ps a.1))
