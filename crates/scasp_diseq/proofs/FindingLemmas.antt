-- What is found by the mentions of a variable.
use Rattle.std.proofs.Common.{◌≡◌, ℕ, ◌<◌, Bool, true, false, ◌&&◌, ◌||◌, cond, nat_eq, List, [], ◌∷◌, ◌++◌, append_assoc, length, filter, reverse, Some, option_map, slice_get, ◌↔◌, refl, sym, ap, ◌∙◌, subst}
use Rattle.std.specs.Prelude.{Contains}
use Rattle.std.specs.List.{cons_option, filter_map, list_any}
use Rattle.std.proofs.Math.Bool.{and-true, and-false}
use Rattle.std.proofs.lemmas.Bool.{and_from, and_parts, eq-eqb, eqb-true}
use Rattle.std.proofs.lemmas.List.{reverse-append}
use Rattle.std.proofs.lemmas.List.Elements.{filter_map-append}
use Rattle.std.proofs.lemmas.List.Folds.{Any-from_list_any, list_any-append, list_any-from_Any}
use Rattle.std.proofs.lemmas.Option.{slice_get-map}
use Rattle.scasp_syntax.specs.View.{tm_of}
use Rattle.scasp_syntax.specs.declared.con.Con.{Con}
use Rattle.scasp_syntax.specs.declared.con.Con.TheVariants as con
use Rattle.scasp_unify.specs.Parts.{occurs}
use Rattle.scasp_diseq.specs.Inside.Chains.{places_of}
use Rattle.scasp_diseq.specs.Inside.Indexed.{AreBelow, Tells, cons_of, is_disequation, is_shape, stands_in}
use Rattle.scasp_diseq.specs.Pending.{is_pending_on}
use Rattle.scasp_diseq.specs.declared.mentions.Mention.{Mention}
use Rattle.scasp_diseq.specs.declared.posted.Posted.{Posted}
use Rattle.scasp_diseq.proofs.PlaceLemmas.{any-filter, below-parts, below-where, filter-filter, picked-where}

-- ---- the constraints at the places of a variable

abbrev pub picked : List Con → List ℕ → List Con
picked cs ps = filter_map (slice_get cs) ps

pub picked-told : (x : ℕ) (ms : List Mention) (cs : List Con) → Tells ms cs → picked cs (places_of x ms) ≡ filter (stands_in x) cs
picked-told x ms cs h = ap (picked cs) (h x) ∙ picked-where (stands_in x) cs

pub below-told : (x : ℕ) (ms : List Mention) (cs : List Con) → Tells ms cs → AreBelow (length cs) (places_of x ms)
below-told x ms cs h = subst (AreBelow (length cs)) (sym (h x)) (below-where (stands_in x) cs)

pub con-at : (ps : List Posted) (p : ℕ) (r : Posted) → slice_get ps p ≡ Some r → slice_get (cons_of ps) p ≡ Some r.con
con-at ps p r e = slice_get-map (λ (q : Posted). q.con) ps p ∙ ap (option_map (λ (q : Posted). q.con)) e

-- ---- shapes

shape-parts : (x f n y g m : ℕ) → (nat_eq y x && nat_eq g f && nat_eq m n) ≡ true → (y ≡ x) × (g ≡ f) × (m ≡ n)
shape-parts x f n y g m e =
    let two = and_parts (nat_eq y x && nat_eq g f) (nat_eq m n) e in
    let one = and_parts (nat_eq y x) (nat_eq g f) two.0 in
    (eqb-true y x one.0, eqb-true g f one.1, eqb-true m n two.1)

shape-stands : (x f n : ℕ) (c : Con) → is_shape x f n c ≡ true → stands_in x c ≡ true
shape-stands x f n (con.NotShape y g m) e = eq-eqb x y (sym (shape-parts x f n y g m e).0)
shape-stands x f n (con.Neq t s) e = cc
shape-stands x f n (con.Eq t s) e = cc
shape-stands x f n (con.Num t) e = cc
shape-stands x f n (con.NotNum t) e = cc
shape-stands x f n (con.Row r) e = cc

shape-is : (x f n : ℕ) (c : Con) → is_shape x f n c ≡ true → c ≡ con.NotShape x f n
shape-is x f n (con.NotShape y g m) e = let p = shape-parts x f n y g m e in λ i. con.NotShape (p.0 i) (p.1 i) (p.2 i)
shape-is x f n (con.Neq t s) e = cc
shape-is x f n (con.Eq t s) e = cc
shape-is x f n (con.Num t) e = cc
shape-is x f n (con.NotNum t) e = cc
shape-is x f n (con.Row r) e = cc

shape-self : (x f n : ℕ) → is_shape x f n (con.NotShape x f n) ≡ true
shape-self x f n = and_from (nat_eq x x && nat_eq f f) (nat_eq n n) (and_from (nat_eq x x) (nat_eq f f) (eq-eqb x x refl) (eq-eqb f f refl)) (eq-eqb n n refl)

pub shapes-contained : (x f n : ℕ) (cs : List Con) → (list_any (is_shape x f n) cs ≡ true) ↔ Contains cs (con.NotShape x f n)
shapes-contained x f n cs = (there, back)
  where
    there : list_any (is_shape x f n) cs ≡ true → Contains cs (con.NotShape x f n)
    there e =
        let a = Any-from_list_any (is_shape x f n) cs e in
        let s : a.1 ≡ con.NotShape x f n = shape-is x f n a.1 a.4 in
        subst (Contains cs) s (a.0, a.2, a.3)

    back : Contains cs (con.NotShape x f n) → list_any (is_shape x f n) cs ≡ true
    back c = list_any-from_Any (is_shape x f n) cs (c.0, con.NotShape x f n, c.1, c.2, shape-self x f n)

pub shape-start : (x f n : ℕ) (ms : List Mention) (cs : List Con) → Tells ms cs → list_any (is_shape x f n) (picked cs (places_of x ms)) ≡ list_any (is_shape x f n) cs
shape-start x f n ms cs h = ap (list_any (is_shape x f n)) (picked-told x ms cs h) ∙ any-filter (is_shape x f n) (stands_in x) (shape-stands x f n) cs

or-false : (b : Bool) → (b || false) ≡ b
or-false true = refl
or-false false = refl

pub any-last : (q : Con → Bool) (cs : List Con) (ps : List ℕ) (p : ℕ) (c : Con) → slice_get cs p ≡ Some c → list_any q (picked cs (ps ++ p ∷ [])) ≡ (list_any q (picked cs ps) || q c)
any-last q cs ps p c e =
    ap (list_any q) (filter_map-append (slice_get cs) ps (p ∷ []) ∙ ap (λ o. picked cs ps ++ cons_option o []) e)
    ∙ list_any-append q (picked cs ps) (c ∷ []) ∙ ap (λ b. list_any q (picked cs ps) || b) (or-false (q c))

or-true : (a : Bool) → (a || true) ≡ true
or-true true = refl
or-true false = refl

pub last-below : (n : ℕ) (ps qs : List ℕ) (p : ℕ) → qs ≡ ps ++ p ∷ [] → AreBelow n qs → AreBelow n ps × (p < n)
last-below n ps qs p e h = below-parts n ps p (subst (AreBelow n) e h)

-- the last of the places has the shape, or it does not
pub last-found : (q : Con → Bool) (cs : List Con) (ps qs : List ℕ) (p : ℕ) (c : Con) (b : Bool) → qs ≡ ps ++ p ∷ [] → slice_get cs p ≡ Some c → q c ≡ true → list_any q (picked cs qs) ≡ b → true ≡ b
last-found q cs ps qs p c b s e h k = sym (ap (λ l. list_any q (picked cs l)) s ∙ any-last q cs ps p c e ∙ ap (λ d. list_any q (picked cs ps) || d) h ∙ or-true (list_any q (picked cs ps))) ∙ k

pub last-passed : (q : Con → Bool) (cs : List Con) (ps qs : List ℕ) (p : ℕ) (c : Con) (b : Bool) → qs ≡ ps ++ p ∷ [] → slice_get cs p ≡ Some c → q c ≡ false → list_any q (picked cs qs) ≡ b → list_any q (picked cs ps) ≡ b
last-passed q cs ps qs p c b s e h k = sym (ap (λ l. list_any q (picked cs l)) s ∙ any-last q cs ps p c e ∙ ap (λ d. list_any q (picked cs ps) || d) h ∙ or-false (list_any q (picked cs ps))) ∙ k

-- ---- disequations

pending-parts : (x : ℕ) (c : Con) → (stands_in x c && is_disequation c) ≡ is_pending_on x c
pending-parts x (con.NotShape y f n) = and-false (nat_eq x y)
pending-parts x (con.Neq t s) = and-true (occurs x (tm_of t) || occurs x (tm_of s))
pending-parts x (con.Eq t s) = refl
pending-parts x (con.Num t) = refl
pending-parts x (con.NotNum t) = refl
pending-parts x (con.Row r) = refl

pub pending-start : (x : ℕ) (ms : List Mention) (cs : List Con) → Tells ms cs → filter is_disequation (picked cs (places_of x ms)) ≡ filter (is_pending_on x) cs
pending-start x ms cs h = ap (filter is_disequation) (picked-told x ms cs h) ∙ filter-filter is_disequation (stands_in x) (is_pending_on x) (pending-parts x) cs

pub reverse-last : (ps qs : List ℕ) (p : ℕ) → qs ≡ ps ++ p ∷ [] → reverse qs ≡ p ∷ reverse ps
reverse-last ps qs p e = ap reverse e ∙ reverse-append ps (p ∷ [])

pub next-below : (n : ℕ) (ps qs : List ℕ) (p : ℕ) → qs ≡ ps ++ p ∷ [] → AreBelow n (reverse qs) → (p < n) × AreBelow n (reverse ps)
next-below n ps qs p e h = subst (AreBelow n) (reverse-last ps qs p e) h

filter-next : (cs : List Con) (rs : List ℕ) (p : ℕ) (c : Con) → slice_get cs p ≡ Some c → filter is_disequation (picked cs (p ∷ rs)) ≡ cond (is_disequation c) (c ∷ filter is_disequation (picked cs rs)) (filter is_disequation (picked cs rs))
filter-next cs rs p c e = ap (λ o. filter is_disequation (cons_option o (picked cs rs))) e

-- the next constraint is woken, or it is passed
pub next-woken : (cs made all : List Con) (ps qs : List ℕ) (p : ℕ) (c : Con) → qs ≡ ps ++ p ∷ [] → slice_get cs p ≡ Some c → is_disequation c ≡ true
    → made ++ filter is_disequation (picked cs (reverse qs)) ≡ all → (made ++ c ∷ []) ++ filter is_disequation (picked cs (reverse ps)) ≡ all
next-woken cs made all ps qs p c s e h k =
    let rest = filter is_disequation (picked cs (reverse ps)) in
    append_assoc made (c ∷ []) rest
    ∙ ap (λ l. made ++ l) (sym (ap (λ l. filter is_disequation (picked cs l)) (reverse-last ps qs p s) ∙ filter-next cs (reverse ps) p c e ∙ ap (λ b. cond b (c ∷ rest) rest) h))
    ∙ k

pub next-passed : (cs made all : List Con) (ps qs : List ℕ) (p : ℕ) (c : Con) → qs ≡ ps ++ p ∷ [] → slice_get cs p ≡ Some c → is_disequation c ≡ false
    → made ++ filter is_disequation (picked cs (reverse qs)) ≡ all → made ++ filter is_disequation (picked cs (reverse ps)) ≡ all
next-passed cs made all ps qs p c s e h k =
    let rest = filter is_disequation (picked cs (reverse ps)) in
    ap (λ l. made ++ l) (sym (ap (λ l. filter is_disequation (picked cs l)) (reverse-last ps qs p s) ∙ filter-next cs (reverse ps) p c e ∙ ap (λ b. cond b (c ∷ rest) rest) h))
    ∙ k
