-- What noting mentions does to the places of each variable.
use Rattle.std.proofs.Common.{◌≡◌, ℕ, Bool, true, false, ◌||◌, not, if◌then◌else◌, nat_eq, List, [], ◌∷◌, ◌++◌, Option, None, Some, slice_get, refl, sym, ap, ◌∙◌}
use Rattle.std.specs.List.{last_or}
use Rattle.std.proofs.lemmas.List.{append-nil}
use Rattle.std.proofs.lemmas.Bool.{eqb-true, eq-eqb, ne_eqb, eqb-false}
use Rattle.scasp_diseq.specs.Inside.Chains.{latest_of, places_of}
use Rattle.scasp_diseq.specs.Inside.Noting.{ends_with, is_some_of, with_place}
use Rattle.scasp_diseq.specs.declared.mentions.Mention.{Mention}
use Rattle.scasp_diseq.proofs.ChainLemmas.{latest-found, latest-none, places-more}

-- ---- the last place

last_or-more : (o : Option ℕ) (ps : List ℕ) (p : ℕ) → last_or o (ps ++ p ∷ []) ≡ Some p
last_or-more o [] p = refl
last_or-more o (q ∷ qs) p = last_or-more (Some q) qs p

pub ends-more : (ps : List ℕ) (p q : ℕ) → ends_with q (ps ++ p ∷ []) ≡ nat_eq p q
ends-more ps p q = ap (is_some_of q) (last_or-more None ps p)

-- the latest mention of the variable has the last place
pub ends-latest : (x at p : ℕ) (ms : List Mention) (m : Mention) → latest_of x ms ≡ Some at → slice_get ms at ≡ Some m → nat_eq m.place p ≡ ends_with p (places_of x ms)
ends-latest x at p ms m e g =
    let f = latest-found x at ms e in
    let s : f.mention ≡ m = let t : Some f.mention ≡ Some m = sym f.there ∙ g in cc in
    ap (λ (k : Mention). nat_eq k.place p) (sym s) ∙ sym (ap (ends_with p) f.places ∙ ends-more (places_of x _) f.mention.place p)

pub ends-none : (x p : ℕ) (ms : List Mention) → latest_of x ms ≡ None → false ≡ ends_with p (places_of x ms)
ends-none x p ms e = ap (ends_with p) (sym (latest-none x ms e))

-- ---- a place more

pub with_place-same : (p : ℕ) (b : Bool) (ps : List ℕ) → ends_with p ps ≡ true → with_place p b ps ≡ ps
with_place-same p true ps e = ap (λ q. if not q then ps ++ p ∷ [] else ps) e
with_place-same p false ps e = refl

pub with_place-new : (p : ℕ) (ps : List ℕ) → ends_with p ps ≡ false → with_place p true ps ≡ ps ++ p ∷ []
with_place-new p ps e = ap (λ q. if not q then ps ++ p ∷ [] else ps) e

pub with_place-twice : (p : ℕ) (a b : Bool) (ps : List ℕ) → with_place p a (with_place p b ps) ≡ with_place p (b || a) ps
with_place-twice p a false ps = refl
with_place-twice p a true ps = by (ends_with p ps) refl
  where
    by : (q : Bool) → ends_with p ps ≡ q → with_place p a (with_place p true ps) ≡ with_place p true ps
    by true e = ap (with_place p a) (with_place-same p true ps e) ∙ with_place-same p a ps e ∙ sym (with_place-same p true ps e)
    by false e =
        let one = with_place-new p ps e in
        ap (with_place p a) one ∙ with_place-same p a (ps ++ p ∷ []) (ends-more ps p p ∙ eq-eqb p p refl) ∙ sym one

-- ---- a mention noted

nat_eq-turned : (x y : ℕ) → nat_eq x y ≡ nat_eq y x
nat_eq-turned x y = by (nat_eq y x) refl
  where
    by : (b : Bool) → nat_eq y x ≡ b → nat_eq x y ≡ b
    by true e = eq-eqb x y (sym (eqb-true y x e))
    by false e = ne_eqb x y (λ h. eqb-false y x e (sym h))

-- nothing is noted where it was the last
pub noted-before : (x y p : ℕ) (ms : List Mention) → ends_with p (places_of x ms) ≡ true → places_of y ms ≡ with_place p (nat_eq y x) (places_of y ms)
noted-before x y p ms e = by (nat_eq y x) refl
  where
    by : (b : Bool) → nat_eq y x ≡ b → places_of y ms ≡ with_place p b (places_of y ms)
    by true h = sym (with_place-same p true (places_of y ms) (ap (λ z. ends_with p (places_of z ms)) (eqb-true y x h) ∙ e))
    by false h = refl

pub noted-now : (y p : ℕ) (ms : List Mention) (m : Mention) → m.place ≡ p → ends_with p (places_of m.variable ms) ≡ false
    → places_of y (ms ++ m ∷ []) ≡ with_place p (nat_eq y m.variable) (places_of y ms)
noted-now y p ms m s e = places-more y ms m ∙ ap (λ b. places_of y ms ++ (if b then m.place ∷ [] else [])) (nat_eq-turned m.variable y) ∙ by (nat_eq y m.variable) refl
  where
    by : (b : Bool) → nat_eq y m.variable ≡ b → places_of y ms ++ (if b then m.place ∷ [] else []) ≡ with_place p b (places_of y ms)
    by true h = ap (λ q. places_of y ms ++ q ∷ []) s ∙ sym (with_place-new p (places_of y ms) (ap (λ z. ends_with p (places_of z ms)) (eqb-true y m.variable h) ∙ e))
    by false h = append-nil (places_of y ms)
