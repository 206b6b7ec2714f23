-- Bindings taken out one variable after the other.
use Rattle.std.specs.Prelude.{◌≡◌, ◌≤◌, ℕ, zero, suc, length, drop, Bool, true, false, not, ◌||◌, nat_eq, if◌then◌else◌, List, [], ◌∷◌, refl}
use Rattle.std.specs.List.{filter}
use Rattle.std.proofs.Common.{arith, ap, sym, subst, ◌∙◌}
use Rattle.std.proofs.lemmas.Bool.Decides.{Decides-eqb}
use Rattle.scasp_unify.specs.declared.bindings.Binding.{Binding}
use Rattle.scasp_bound.specs.Bounds.{among, unbound}
use Rattle.scasp_bound.specs.Inside.Gaps.{each_out, without_unless}

filter_same : (f h : Binding → Bool) (bs : List Binding) → ((b : Binding) → f b ≡ h b) → filter f bs ≡ filter h bs
filter_same f h [] e = refl
filter_same f h (b ∷ bs) e = ap (λ (c : Bool). if c then b ∷ filter f bs else filter f bs) (e b) ∙ ap (λ (r : List Binding). if h b then b ∷ r else r) (filter_same f h bs e)

filter_twice : (f g h : Binding → Bool) (bs : List Binding) → ((b : Binding) → (if g b then f b else false) ≡ h b) → filter f (filter g bs) ≡ filter h bs
filter_twice f g h [] e = refl
filter_twice f g h (b ∷ bs) e = one (g b) refl (filter_twice f g h bs e)
  where
    one : (c : Bool) → g b ≡ c → filter f (filter g bs) ≡ filter h bs → filter f (if c then b ∷ filter g bs else filter g bs) ≡ filter h (b ∷ bs)
    one true m r =
        let k : f b ≡ h b = subst (λ (c : Bool). (if c then f b else false) ≡ h b) m (e b) in
        ap (λ (c : Bool). if c then b ∷ filter f (filter g bs) else filter f (filter g bs)) k ∙ ap (λ (q : List Binding). if h b then b ∷ q else q) r
    one false m r =
        let k : false ≡ h b = subst (λ (c : Bool). (if c then f b else false) ≡ h b) m (e b) in
        r ∙ ap (λ (c : Bool). if c then b ∷ filter h bs else filter h bs) k

stays : List ℕ → List ℕ → Binding → Bool
stays xs but b = not (among b.x xs) || among b.x but

all_stay : (but : List ℕ) (bs : List Binding) → bs ≡ unbound [] but bs
all_stay but [] = refl
all_stay but (b ∷ bs) = ap (λ cs. b ∷ cs) (all_stay but bs)

or_true : (c : Bool) → c || true ≡ true
or_true true = refl
or_true false = refl

one_more : (c : Bool) (x : ℕ) (xs but : List ℕ) (bs : List Binding) → among x but ≡ c → unbound xs but (without_unless c x bs) ≡ unbound (x ∷ xs) but bs
one_more true x xs but bs m = filter_same (λ b. not (among b.x xs) || among b.x but) (λ b. not (among b.x (x ∷ xs)) || among b.x but) bs same
  where
    same : (b : Binding) → (not (among b.x xs) || among b.x but) ≡ (not (among b.x (x ∷ xs)) || among b.x but)
    same b = by (nat_eq b.x x) refl
      where
        by : (c : Bool) → nat_eq b.x x ≡ c → (not (among b.x xs) || among b.x but) ≡ (not (c || among b.x xs) || among b.x but)
        by true e =
            let k : among b.x but ≡ true = subst (λ (z : ℕ). among z but ≡ true) (sym ((Decides-eqb b.x x).0 e)) m in
            ap (λ (c : Bool). not (among b.x xs) || c) k ∙ or_true (not (among b.x xs)) ∙ sym k
        by false e = refl
one_more false x xs but bs m = filter_twice (λ b. not (among b.x xs) || among b.x but) (λ b. not (nat_eq b.x x)) (λ b. not (among b.x (x ∷ xs)) || among b.x but) bs same
  where
    same : (b : Binding) → (if not (nat_eq b.x x) then (not (among b.x xs) || among b.x but) else false) ≡ (not (among b.x (x ∷ xs)) || among b.x but)
    same b = by (nat_eq b.x x) refl
      where
        by : (c : Bool) → nat_eq b.x x ≡ c → (if not c then (not (among b.x xs) || among b.x but) else false) ≡ (not (c || among b.x xs) || among b.x but)
        by true e = subst (λ (z : ℕ). false ≡ among z but) (sym ((Decides-eqb b.x x).0 e)) (sym m)
        by false e = refl

pub each_unbound : (xs but : List ℕ) (bs : List Binding) → each_out xs but bs ≡ unbound xs but bs
each_unbound [] but bs = all_stay but bs
each_unbound (x ∷ xs) but bs = each_unbound xs but (without_unless (among x but) x bs) ∙ one_more (among x but) x xs but bs refl

none_left : {A : Type 0} (n : ℕ) (xs : List A) → length xs ≤ n → drop n xs ≡ []
none_left zero [] h = refl
none_left zero (x ∷ xs) h = absurd (omega (arith, h))
none_left (suc n) [] h = refl
none_left (suc n) (x ∷ xs) h = none_left n xs (omega (arith, h))

pub ended : (n : ℕ) (xs but : List ℕ) (bs cs : List Binding) → length xs ≤ n → each_out xs but bs ≡ each_out (drop n xs) but cs → cs ≡ unbound xs but bs
ended n xs but bs cs h e = sym (e ∙ ap (λ (ys : List ℕ). each_out ys but cs) (none_left n xs h)) ∙ each_unbound xs but bs
