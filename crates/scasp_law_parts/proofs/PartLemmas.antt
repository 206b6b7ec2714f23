-- Valuations of two parts of a list, put together.
use Rattle.std.proofs.Common.{◌≡◌, ◌↔◌, ℕ, Bool, true, false, ◌&&◌, ◌||◌, not, if◌then◌else◌, List, [], ◌∷◌, ◌++◌, refl}
use Rattle.std.specs.List.{list_all, filter}
use Rattle.std.proofs.lemmas.Bool.{and_from, and_parts}
use Rattle.scasp_list.specs.Each.{Each}
use Rattle.scasp_list.proofs.EachLemmas.{Each-map, Each-from_test}
use Rattle.scasp_syntax.specs.Constraints.{holds, Meets}
use Rattle.scasp_syntax.specs.Values.{Sub, Valuation, is_ground}
use Rattle.scasp_syntax.specs.declared.con.Con.{Con}
use Rattle.scasp_unify.specs.Unification.{then_by}
use Rattle.scasp_unify.proofs.Members.{Each-from}
use Rattle.scasp_law_parts.specs.Parts.{SatUnder, lies_within, are_parted, inside, outside}
use Rattle.scasp_law_parts.specs.Questions.{HoldAlways, IsEnough, part_with}
use Rattle.scasp_law_parts.proofs.AgreeLemmas.{Agree, split-all, join-all, meets-within}

-- ---- the values of w where the test passes, and elsewhere those of v

abbrev pub picked : (ℕ → Bool) → Sub → Sub → Sub
picked p w v y = if p y then w y else v y

picked-here : (p : ℕ → Bool) (w v : Sub) → Agree p (picked p w v) w
picked-here p w v y e = by (p y) e
  where
    by : (b : Bool) → b ≡ true → (if b then w y else v y) ≡ w y
    by true f = refl
    by false f = cc

pub picked-there : (p : ℕ → Bool) (w v : Sub) → Agree (λ x. not (p x)) (picked p w v) v
picked-there p w v y e = by (p y) e
  where
    by : (b : Bool) → not b ≡ true → (if b then w y else v y) ≡ v y
    by true f = cc
    by false f = refl

pub picked-ground : (p : ℕ → Bool) (w v : Valuation) (y : ℕ) → is_ground (picked p w.of v.of y) ≡ true
picked-ground p w v y = by (p y)
  where
    by : (b : Bool) → is_ground (if b then w.of y else v.of y) ≡ true
    by true = w.ground y
    by false = v.ground y

abbrev pub glued : (ℕ → Bool) → Valuation → Valuation → Valuation
glued p w v = record { of = picked p w.of v.of; ground = picked-ground p w v }

-- ---- the constraints that pass a test, and the others

filtered : {X : Type 0} → (f g : X → Bool) (cs : List X) → Each (λ c. f c ≡ true → g c ≡ true) cs → list_all g (filter f cs) ≡ true
filtered f g [] h = refl
filtered f g (c ∷ cs) h = by (f c) h.0 (filtered f g cs h.1)
  where
    by : (t : Bool) → (t ≡ true → g c ≡ true) → list_all g (filter f cs) ≡ true → list_all g (if t then c ∷ filter f cs else filter f cs) ≡ true
    by true one rest = and_from (g c) (list_all g (filter f cs)) (one refl) rest
    by false one rest = rest

pub some-pass : {X : Type 0} → (f g : X → Bool) (cs : List X) → list_all g cs ≡ true → list_all g (filter f cs) ≡ true
some-pass f g cs e = filtered f g cs (Each-from_test g (λ c. f c ≡ true → g c ≡ true) (λ c a b. a) cs e)

pub whole : (f g : Con → Bool) (cs : List Con) → list_all g (filter f cs) ≡ true → list_all g (filter (λ c. not (f c)) cs) ≡ true → list_all g cs ≡ true
whole f g [] a b = refl
whole f g (c ∷ cs) a b = by (f c) a b (whole f g cs)
  where
    by : (t : Bool) → list_all g (if t then c ∷ filter f cs else filter f cs) ≡ true → list_all g (if not t then c ∷ filter (λ c. not (f c)) cs else filter (λ c. not (f c)) cs) ≡ true
        → (list_all g (filter f cs) ≡ true → list_all g (filter (λ c. not (f c)) cs) ≡ true → list_all g cs ≡ true) → (g c && list_all g cs) ≡ true
    by true a b rest = let k = and_parts (g c) (list_all g (filter f cs)) a in and_from (g c) (list_all g cs) k.0 (rest k.1 b)
    by false a b rest = let k = and_parts (g c) (list_all g (filter (λ c. not (f c)) cs)) b in and_from (g c) (list_all g cs) k.0 (rest a k.1)

or-else : (a b : Bool) → (a || b) ≡ true → not a ≡ true → b ≡ true
or-else true b e f = cc
or-else false b e f = e

not-true : (b : Bool) → not b ≡ true → b ≡ false
not-true true e = cc
not-true false e = refl

pub all-inside : (s : Sub) (p : ℕ → Bool) (cs : List Con) → list_all (lies_within s p) (inside s p cs) ≡ true
all-inside s p cs = filtered (lies_within s p) (lies_within s p) cs (Each-from (λ c. lies_within s p c ≡ true → lies_within s p c ≡ true) cs (λ c i e. e))

-- where each constraint lies in the one or in the other, those outside of the one lie in the other
pub all-outside : (s : Sub) (p q : ℕ → Bool) (cs : List Con) → list_all (λ c. lies_within s p c || lies_within s q c) cs ≡ true → list_all (lies_within s q) (outside s p cs) ≡ true
all-outside s p q cs e =
    filtered (λ c. not (lies_within s p c)) (lies_within s q) cs
    (Each-from_test (λ c. lies_within s p c || lies_within s q c) (λ c. not (lies_within s p c) ≡ true → lies_within s q c ≡ true) (λ c. or-else (lies_within s p c) (lies_within s q c)) cs e)

-- ---- a list parted

-- what meets the part, and what meets the rest, put together, meets the list
glued-meets : (s : Sub) (p : ℕ → Bool) (cs : List Con) (w v : Valuation) → are_parted s p cs ≡ true → Meets (then_by s w.of) (inside s p cs) → Meets (then_by s v.of) (outside s p cs) → Meets (then_by s (picked p w.of v.of)) cs
glued-meets s p cs w v e a b =
    let u : Sub = picked p w.of v.of in
    whole (lies_within s p) (holds (then_by s u)) cs
    (meets-within s p u w.of (inside s p cs) (picked-here p w.of v.of) (all-inside s p cs) a)
    (meets-within s (λ x. not (p x)) u v.of (outside s p cs) (picked-there p w.of v.of) (all-outside s p (λ x. not (p x)) cs e) b)

pub met-apart : (s : Sub) (p : ℕ → Bool) (cs : List Con) → are_parted s p cs ≡ true → SatUnder s cs ↔ (SatUnder s (inside s p cs) × SatUnder s (outside s p cs))
met-apart s p cs e = (
  (λ a. (
    record { by = a.by; meets = some-pass (lies_within s p) (holds (then_by s a.by.of)) cs a.meets },
    record { by = a.by; meets = some-pass (λ c. not (lies_within s p c)) (holds (then_by s a.by.of)) cs a.meets },
  )),
  (λ ab. record { by = glued p ab.0.by ab.1.by; meets = glued-meets s p cs ab.0.by ab.1.by e ab.0.meets ab.1.meets }),
)

-- what is left out holds
left-hold : (s v : Sub) (f : Con → Bool) (cs : List Con) → HoldAlways s f cs → list_all (holds (then_by s v)) (filter (λ c. not (f c)) cs) ≡ true
left-hold s v f cs h =
    let g : Con → Bool = holds (then_by s v) in
    filtered (λ c. not (f c)) g cs (Each-map (λ c. f c ≡ false → (w : Sub) → holds (then_by s w) c ≡ true) (λ c. not (f c) ≡ true → g c ≡ true) (λ c k e. k (not-true (f c) e) v) cs h)

pub part-decides : (s : Sub) (f : Con → Bool) (p : ℕ → Bool) (cs asked : List Con) → IsEnough s f p cs asked → SatUnder s (cs ++ asked) ↔ SatUnder s (part_with s f p cs asked)
part-decides s f p cs asked h = (to, from)
  where
    to : SatUnder s (cs ++ asked) → SatUnder s (part_with s f p cs asked)
    to a =
        let g : Con → Bool = holds (then_by s a.by.of) in
        let k = split-all g cs asked a.meets in
        record { by = a.by; meets = join-all g (inside s p (filter f cs)) asked (some-pass (lies_within s p) g (filter f cs) (some-pass f g cs k.0)) k.1 }

    from : SatUnder s (part_with s f p cs asked) → SatUnder s (cs ++ asked)
    from a =
        let k = split-all (holds (then_by s a.by.of)) (inside s p (filter f cs)) asked a.meets in
        let u : Sub = picked p a.by.of h.met.by.of in
        let g : Con → Bool = holds (then_by s u) in
        let kept = glued-meets s p (filter f cs) a.by h.met.by h.parted k.0 h.met.meets in
        record {
          by = glued p a.by h.met.by;
          meets = join-all g cs asked (whole f g cs kept (left-hold s u f cs h.left_out)) (meets-within s p u a.by.of asked (picked-here p a.by.of h.met.by.of) h.within k.1);
        }
