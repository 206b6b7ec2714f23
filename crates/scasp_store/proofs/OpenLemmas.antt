-- Constraints and the places of those that are open.
use Rattle.std.proofs.Common.{◌≡◌, ◌<◌, ◌≤◌, ◌+◌, ◌-◌, ℕ, zero, suc, Bool, true, false, ◌||◌, nat_eq, List, [], ◌∷◌, ◌++◌, length, slice_get, slice_set, take, Option, None, Some, refl, sym, ap, subst, arith, ◌∙◌}
use Rattle.std.specs.List.{list_any}
use Rattle.std.proofs.lemmas.Bool.{eqb-true, true≢false}
use Rattle.std.proofs.lemmas.Bool.Decides.{Decides-eqb}
use Rattle.scasp_bound.specs.Bounds.{among}
use Rattle.scasp_list.specs.Each.{Each}
use Rattle.scasp_list.proofs.EachLemmas.{Each-append, Each-at, Each-left, Each-right}
use Rattle.scasp_syntax.specs.Values.{Sub}
use Rattle.scasp_syntax.specs.declared.con.Con.{Con}
use Rattle.scasp_store.specs.Inside.Open.{AreOpen, IsSettled, one_of, opened}

-- ---- what is at the places

each-place : (P : Con → Type 0) (cs : List Con) → ((i : ℕ) (c : Con) → Some c ≡ slice_get cs i → P c) → Each P cs
each-place P [] f = tt
each-place P (c ∷ cs) f = (f zero c refl, each-place P cs (λ i d e. f (suc i) d e))

here : (P : Con → Type 0) (c : Con) (o : Option Con) → Some c ≡ o → Each P (one_of o) → P c
here P c None g e = absurd (cc g)
here P c (Some d) g e = let p : d ≡ c = cc in subst P p e.0

-- what holds of the open constraints holds of the one at an open place
open-there : (P : Con → Type 0) (cs : List Con) (ps : List ℕ) (i : ℕ) (c : Con) → Each P (opened cs ps) → among i ps ≡ true → Some c ≡ slice_get cs i → P c
open-there P cs [] i c e a g = absurd (true≢false (sym a))
open-there P cs (p ∷ ps) i c e a g = by (nat_eq i p) refl a (λ k. open-there P cs ps i c (Each-right P (one_of (slice_get cs p)) (opened cs ps) e) k g)
  where
    by : (b : Bool) → nat_eq i p ≡ b → (b || among i ps) ≡ true → (among i ps ≡ true → P c) → P c
    by true k f rest = here P c (slice_get cs p) (g ∙ ap (slice_get cs) (eqb-true i p k)) (Each-left P (one_of (slice_get cs p)) (opened cs ps) e)
    by false k f rest = rest f

-- what holds of the settled constraints and of the open ones holds of all
pub all-of : (P : Con → Type 0) (s : Sub) → ((c : Con) → IsSettled s c → P c) → (cs : List Con) (ps : List ℕ) → AreOpen s cs ps → Each P (opened cs ps) → Each P cs
all-of P s settled cs ps h e = each-place P cs (λ i c g. by i c g (among i ps) refl)
  where
    by : (i : ℕ) (c : Con) → Some c ≡ slice_get cs i → (b : Bool) → among i ps ≡ b → P c
    by i c g true k = open-there P cs ps i c e k g
    by i c g false k = settled c (h.settled i c g k)

-- what holds of all holds of the open ones
pub open-of : (P : Con → Type 0) (cs : List Con) (ps : List ℕ) → Each P cs → Each P (opened cs ps)
open-of P cs [] e = tt
open-of P cs (p ∷ ps) e = Each-append P (one_of (slice_get cs p)) (opened cs ps) (by (slice_get cs p) refl) (open-of P cs ps e)
  where
    by : (o : Option Con) → slice_get cs p ≡ o → Each P (one_of o)
    by None k = tt
    by (Some c) k = (Each-at P cs p c e (sym k), tt)

pub none-of : (p : Con → Bool) (cs : List Con) → list_any p cs ≡ false → Each (λ c. p c ≡ false) cs
none-of p [] e = tt
none-of p (c ∷ cs) e = by (p c) refl e (none-of p cs)
  where
    by : (b : Bool) → p c ≡ b → (b || list_any p cs) ≡ false → (list_any p cs ≡ false → Each (λ c. p c ≡ false) cs) → (p c ≡ false) × Each (λ c. p c ≡ false) cs
    by true k e rest = absurd (true≢false e)
    by false k e rest = (k, rest e)

none-any : (p : Con → Bool) (cs : List Con) → Each (λ c. p c ≡ false) cs → list_any p cs ≡ false
none-any p [] e = refl
none-any p (c ∷ cs) e = let one = e.0 in let rest = none-any p cs e.1 in λ i. one i || rest i

-- an open one that passes is one of all
pub any-of : (p : Con → Bool) (cs : List Con) (ps : List ℕ) → list_any p (opened cs ps) ≡ true → list_any p cs ≡ true
any-of p cs ps e = by (list_any p cs) refl
  where
    by : (b : Bool) → list_any p cs ≡ b → b ≡ true
    by true k = refl
    by false k = absurd (true≢false (sym e ∙ none-any p (opened cs ps) (open-of (λ c. p c ≡ false) cs ps (none-of p cs k))))

pub past_end : (cs : List Con) (i : ℕ) → length cs ≤ i → None ≡ slice_get cs i
past_end [] i h = refl
past_end (c ∷ cs) zero h = absurd (omega (arith, h))
past_end (c ∷ cs) (suc i) h = past_end cs i (omega (arith, h))

-- ---- changes

pub open-under : (s r : Sub) → ((c : Con) → IsSettled s c → IsSettled r c) → (cs : List Con) (ps : List ℕ) → AreOpen s cs ps → AreOpen r cs ps
open-under s r k cs ps h = record { settled = λ i c g a. k c (h.settled i c g a) }

within : (cs : List Con) (i : ℕ) (c : Con) → Some c ≡ slice_get cs i → i < length cs
within [] i c g = absurd (cc g)
within (d ∷ cs) zero c g = omega arith
within (d ∷ cs) (suc i) c g = let k = within cs i c g in omega (arith, k)

pub all-open : (s : Sub) (cs : List Con) (ps : List ℕ) → ((i : ℕ) → i < length cs → among i ps ≡ true) → AreOpen s cs ps
all-open s cs ps f = record { settled = λ i c g a. absurd (true≢false (sym (f i (within cs i c g)) ∙ a)) }

neither-in : (i : ℕ) (ps qs : List ℕ) → among i (ps ++ qs) ≡ false → (among i ps ≡ false) × (among i qs ≡ false)
neither-in i [] qs e = (refl, e)
neither-in i (p ∷ ps) qs e = by (nat_eq i p) e (neither-in i ps qs)
  where
    by : (b : Bool) → (b || among i (ps ++ qs)) ≡ false → (among i (ps ++ qs) ≡ false → (among i ps ≡ false) × (among i qs ≡ false)) → ((b || among i ps) ≡ false) × (among i qs ≡ false)
    by true e rest = absurd (true≢false e)
    by false e rest = rest e

-- a constraint at another place than the last stood there before
before-last : (cs : List Con) (c : Con) (i : ℕ) (d : Con) → Some d ≡ slice_get (cs ++ c ∷ []) i → (i ≡ length cs → ⊥) → Some d ≡ slice_get cs i
before-last [] c zero d g o = absurd (o refl)
before-last [] c (suc i) d g o = g
before-last (b ∷ cs) c zero d g o = g
before-last (b ∷ cs) c (suc i) d g o = before-last cs c i d g (λ e. o (ap suc e))

other-than : (i n : ℕ) → (nat_eq i n || false) ≡ false → i ≡ n → ⊥
other-than i n k e = true≢false (sym (ap (λ b. b || false) ((Decides-eqb i n).1 e)) ∙ k)

pub one_more : (s : Sub) (cs : List Con) (ps : List ℕ) (c : Con) → AreOpen s cs ps → AreOpen s (cs ++ c ∷ []) (ps ++ length cs ∷ [])
one_more s cs ps c h = record {
  settled = λ i d g a.
      let k = neither-in i ps (length cs ∷ []) a in
      h.settled i d (before-last cs c i d g (other-than i (length cs) k.1)) k.0;
}

-- what is settled may go, where each other place stays
pub one_settled : (s : Sub) (cs : List Con) (ps qs : List ℕ) (at p : ℕ) → Some p ≡ slice_get ps at → ((c : Con) → Some c ≡ slice_get cs p → IsSettled s c) → ((j : ℕ) → among j ps ≡ true → (Some j ≡ slice_get ps at → ⊥) → among j qs ≡ true) → AreOpen s cs ps → AreOpen s cs qs
one_settled s cs ps qs at p there settled stay h = record { settled = λ i c g a. by i c g a (among i ps) refl }
  where
    other : (i : ℕ) → nat_eq i p ≡ false → Some i ≡ slice_get ps at → ⊥
    other i k e = let same : i ≡ p = cc in true≢false (sym ((Decides-eqb i p).1 same) ∙ k)

    one : (i : ℕ) (c : Con) → Some c ≡ slice_get cs i → among i qs ≡ false → among i ps ≡ true → (b : Bool) → nat_eq i p ≡ b → IsSettled s c
    one i c g a k true q = settled c (g ∙ ap (slice_get cs) (eqb-true i p q))
    one i c g a k false q = absurd (true≢false (sym (stay i k (other i q)) ∙ a))

    by : (i : ℕ) (c : Con) → Some c ≡ slice_get cs i → among i qs ≡ false → (b : Bool) → among i ps ≡ b → IsSettled s c
    by i c g a true k = one i c g a k (nat_eq i p) refl
    by i c g a false k = h.settled i c g k

-- ---- places that are taken away

-- the last of a list, and then the others, are all of them
last-first : (j L n : ℕ) (ps : List ℕ) → length ps ≡ suc n → Some L ≡ slice_get ps n → among j ps ≡ true → among j (L ∷ take n ps) ≡ true
last-first j L n [] l g a = absurd (true≢false (sym a))
last-first j L zero (p ∷ []) l g a = let same : p ≡ L = cc in subst (λ q. among j (q ∷ []) ≡ true) same a
last-first j L zero (p ∷ q ∷ ps) l g a = absurd (omega (arith, l))
last-first j L (suc n) (p ∷ ps) l g a = by (nat_eq j L) (nat_eq j p) a (last-first j L n ps (omega (arith, l)) g)
  where
    by : (b c : Bool) → (c || among j ps) ≡ true → (among j ps ≡ true → (b || among j (take n ps)) ≡ true) → (b || (c || among j (take n ps))) ≡ true
    by true c a rest = refl
    by false true a rest = refl
    by false false a rest = rest a

in-none : (j : ℕ) (ps : List ℕ) → length ps ≡ 0 → among j ps ≡ true → among j [] ≡ true
in-none j [] l f = f
in-none j (p ∷ ps) l f = absurd (omega (arith, l))

-- the last place comes in place of the one at i, and leaves the end
moved-in : (j i L n : ℕ) (ps : List ℕ) → length ps ≡ suc n → Some L ≡ slice_get ps n → i < length ps → among j ps ≡ true → (Some j ≡ slice_get ps i → ⊥) → among j (take n (slice_set ps i L)) ≡ true
moved-in j i L n [] l g h a o = absurd (true≢false (sym a))
moved-in j zero L zero (p ∷ ps) l g h a o = by (nat_eq j p) refl a
  where
    by : (b : Bool) → nat_eq j p ≡ b → (b || among j ps) ≡ true → among j [] ≡ true
    by true k f = absurd (o (ap Some (eqb-true j p k)))
    by false k f = in-none j ps (omega (arith, l)) f
moved-in j zero L (suc n) (p ∷ ps) l g h a o = by (nat_eq j p) refl a
  where
    by : (b : Bool) → nat_eq j p ≡ b → (b || among j ps) ≡ true → among j (L ∷ take n ps) ≡ true
    by true k f = absurd (o (ap Some (eqb-true j p k)))
    by false k f = last-first j L n ps (omega (arith, l)) g f
moved-in j (suc i) L zero (p ∷ ps) l g h a o = absurd (omega (arith, l, h))
moved-in j (suc i) L (suc n) (p ∷ ps) l g h a o = by (nat_eq j p) a (λ f. moved-in j i L n ps (omega (arith, l)) g (omega (arith, h)) f o)
  where
    by : (b : Bool) → (b || among j ps) ≡ true → (among j ps ≡ true → among j (take n (slice_set ps i L)) ≡ true) → (b || among j (take n (slice_set ps i L))) ≡ true
    by true f rest = refl
    by false f rest = rest f

-- before it leaves the end
pub set_in : (j i L : ℕ) (ps : List ℕ) → among j ps ≡ true → (Some j ≡ slice_get ps i → ⊥) → among j (slice_set ps i L) ≡ true
set_in j i L [] a o = absurd (true≢false (sym a))
set_in j zero L (p ∷ ps) a o = by (nat_eq j p) refl (nat_eq j L) a
  where
    by : (b : Bool) → nat_eq j p ≡ b → (c : Bool) → (b || among j ps) ≡ true → (c || among j ps) ≡ true
    by true k c f = absurd (o (ap Some (eqb-true j p k)))
    by false k true f = refl
    by false k false f = f
set_in j (suc i) L (p ∷ ps) a o = by (nat_eq j p) a (λ f. set_in j i L ps f o)
  where
    by : (b : Bool) → (b || among j ps) ≡ true → (among j ps ≡ true → among j (slice_set ps i L) ≡ true) → (b || among j (slice_set ps i L)) ≡ true
    by true f rest = refl
    by false f rest = rest f

pub set-length : (i L : ℕ) (ps : List ℕ) → length (slice_set ps i L) ≡ length ps
set-length i L [] = refl
set-length zero L (p ∷ ps) = refl
set-length (suc i) L (p ∷ ps) = ap suc (set-length i L ps)

take-length : (n : ℕ) (ps : List ℕ) → n ≤ length ps → length (take n ps) ≡ n
take-length zero ps h = refl
take-length (suc n) [] h = absurd (omega (arith, h))
take-length (suc n) (p ∷ ps) h = ap suc (take-length n ps (omega (arith, h)))

pub taken_away : (j i L : ℕ) (ps qs rs : List ℕ) → qs ≡ slice_set ps i L → rs ≡ take (length qs - 1) qs → Some L ≡ slice_get ps (length ps - 1) → i < length ps → among j ps ≡ true → (Some j ≡ slice_get ps i → ⊥) → among j rs ≡ true
taken_away j i L ps qs rs e f g h a o =
    let l : length ps ≡ suc (length ps - 1) = omega (arith, h) in
    let same : length qs ≡ length ps = ap length e ∙ set-length i L ps in
    let whole : rs ≡ take (length ps - 1) (slice_set ps i L) = f ∙ (λ k. take (same k - 1) (e k)) in
    subst (λ xs. among j xs ≡ true) (sym whole) (moved-in j i L (length ps - 1) ps l g h a o)

pub one_less : (i L : ℕ) (ps qs rs : List ℕ) → i < length ps → qs ≡ slice_set ps i L → rs ≡ take (length qs - 1) qs → length rs + 1 ≡ length ps
one_less i L ps qs rs h e f =
    let same : length qs ≡ length ps = ap length e ∙ set-length i L ps in
    let small : length qs - 1 ≤ length qs = omega arith in
    let k : length rs ≡ length qs - 1 = ap length f ∙ take-length (length qs - 1) qs small in
    omega (arith, k, same, h)

-- ---- places that are put behind others

pub among-left : (i : ℕ) (ps qs : List ℕ) → among i ps ≡ true → among i (ps ++ qs) ≡ true
among-left i [] qs a = absurd (true≢false (sym a))
among-left i (p ∷ ps) qs a = by (nat_eq i p) a (among-left i ps qs)
  where
    by : (b : Bool) → (b || among i ps) ≡ true → (among i ps ≡ true → among i (ps ++ qs) ≡ true) → (b || among i (ps ++ qs)) ≡ true
    by true a rest = refl
    by false a rest = rest a

among-last : (i : ℕ) (ps : List ℕ) → among i (ps ++ i ∷ []) ≡ true
among-last i [] = let e = (Decides-eqb i i).1 refl in λ k. e k || false
among-last i (p ∷ ps) = by (nat_eq i p) (among-last i ps)
  where
    by : (b : Bool) → among i (ps ++ i ∷ []) ≡ true → (b || among i (ps ++ i ∷ [])) ≡ true
    by true a = refl
    by false a = a

below : (i n : ℕ) → i < n + 1 → (i ≡ n → ⊥) → i < n
below zero zero h o = absurd (o refl)
below zero (suc n) h o = omega arith
below (suc i) zero h o = absurd (omega (arith, h))
below (suc i) (suc n) h o = let k = below i n (omega (arith, h)) (λ e. o (ap suc e)) in omega (arith, k)

pub one_open : (n : ℕ) (ps : List ℕ) → ((i : ℕ) → i < n → among i ps ≡ true) → (i : ℕ) → i < n + 1 → among i (ps ++ n ∷ []) ≡ true
one_open n ps f i h = by (nat_eq i n) refl
  where
    by : (b : Bool) → nat_eq i n ≡ b → among i (ps ++ n ∷ []) ≡ true
    by true k = subst (λ m. among i (ps ++ m ∷ []) ≡ true) (eqb-true i n k) (among-last i ps)
    by false k = among-left i ps (n ∷ []) (f i (below i n h (λ e. true≢false (sym ((Decides-eqb i n).1 e) ∙ k))))
