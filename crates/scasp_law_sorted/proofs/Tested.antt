-- The variables that number tests of a list are about, as bindings between variables read the tests; and lists all of whose rows have such
-- variables alone.
use Rattle.std.specs.Prelude.{◌≡◌, ◌⊎◌, ℕ, Bool, true, false, ◌||◌, not, List, [], ◌∷◌, ◌++◌, map, ⊤}
use Rattle.std.specs.List.{Contains, list_any}
use Rattle.std.proofs.Common.{refl, ap, sym, subst, ◌∙◌, inl, inr}
use Rattle.std.proofs.lemmas.Bool.{true≢false, or_left, or_right, or_cases}
use Rattle.std.proofs.lemmas.List.Elements.{Contains-append_cases, Contains-append_left, Contains-append_right}
use Rattle.scasp_list.specs.Each.{Each}
use Rattle.scasp_list.proofs.EachLemmas.{Each-map}
use Rattle.scasp_list.proofs.MemberLemmas.{Contains-single, Contains-map, Contains-from_map, Contains-filter, Contains-from_filter, list_all-from, list_any-from}
use Rattle.scasp_num.specs.declared.linear.Coeff.{Coeff}
use Rattle.scasp_search_rules.specs.Successors.Cases.{unbound}
use Rattle.scasp_search_rules.specs.Successors.Reading.{among}
use Rattle.scasp_search_rules.specs.Successors.Regions.{equation}
use Rattle.scasp_search_rules.specs.Successors.Splits.{is_bound_in}
use Rattle.scasp_syntax.specs.Constraints.{is_number}
use Rattle.scasp_syntax.specs.Tm.{Tm}
use Rattle.scasp_syntax.specs.Values.{under}
use Rattle.scasp_syntax.specs.View.{tm_of}
use Rattle.scasp_syntax.specs.declared.con.Con.{Con}
use Rattle.scasp_syntax.specs.declared.con.Con.TheVariants as con
use Rattle.scasp_syntax.specs.declared.term.Term.TheVariants.{Var}
use Rattle.scasp_syntax.proofs.SameLemmas.{tm_decided}
use Rattle.scasp_unify.specs.Numbers.{counts, is_num_of}
use Rattle.scasp_unify.specs.Resolver.{unifies, resolver, Equal}
use Rattle.scasp_unify.specs.Solving.{sub_of}
use Rattle.scasp_unify.specs.Sorted.{Sorted, apart, typed, is_typed_con}
use Rattle.scasp_unify.specs.declared.bindings.Binding.{Binding}
use Rattle.scasp_unify.proofs.Members.{Each-member}
use Rattle.scasp_unify.proofs.ResolverLemmas.{resolver-equal}
use Rattle.scasp_law_no_circle.proofs.Meeting.{bound-there}
use Rattle.scasp_law_no_circle.proofs.Tasks.{NoRow}
use Rattle.scasp_law_sorted.proofs.Lists.{typed-plain}

-- a number test of the list is of this variable, or of one that is bound to it
pub data Tested (bs : List Binding) (cs : List Con) : ℕ → Type 0 where
  said : (z : ℕ) → Contains cs (con.Num (Var z)) → Tested bs cs z
  onward : (b : Binding) → Contains bs b → (y : ℕ) → b.term ≡ Var y → Tested bs cs b.x → Tested bs cs y

pub tested-more : (bs es : List Binding) (cs ds : List Con) → ((b : Binding) → Contains bs b → Contains es b) → ((c : Con) → Contains cs c → Contains ds c) → (w : ℕ) → Tested bs cs w → Tested es ds w
tested-more bs es cs ds f g _ (said z i) = said z (g (con.Num (Var z)) i)
tested-more bs es cs ds f g _ (onward b i y e t) = onward b (f b i) y e (tested-more bs es cs ds f g b.x t)

-- ---- fewer bindings

abbrev pub stays_bound : List ℕ → List ℕ → Binding → Bool
stays_bound us but b = not (among b.x us) || among b.x but

pub stays : (us but : List ℕ) (bs : List Binding) (b : Binding) → Contains bs b → (among b.x us ≡ false) ⊎ (among b.x but ≡ true) → Contains (unbound us but bs) b
stays us but bs b i (inl e) = Contains-filter (stays_bound us but) bs b i (or_left (not (among b.x us)) (among b.x but) (ap not e))
stays us but bs b i (inr e) = Contains-filter (stays_bound us but) bs b i (or_right (not (among b.x us)) (among b.x but) e)

pub stayed : (us but : List ℕ) (bs : List Binding) (b : Binding) → Contains (unbound us but bs) b → Contains bs b × ((among b.x us ≡ false) ⊎ (among b.x but ≡ true))
stayed us but bs b i =
    let q = Contains-from_filter (stays_bound us but) bs b i in
    (q.0, by (or_cases (not (among b.x us)) (among b.x but) q.1))
  where
    opposite : (c : Bool) → not c ≡ true → c ≡ false
    opposite true e = sym e
    opposite false e = refl

    by : (not (among b.x us) ≡ true) ⊎ (among b.x but ≡ true) → (among b.x us ≡ false) ⊎ (among b.x but ≡ true)
    by (inl e) = inl (opposite (among b.x us) e)
    by (inr e) = inr e

pub unbound-more : (us but : List ℕ) (bs es : List Binding) → ((b : Binding) → Contains bs b → Contains es b) → (b : Binding) → Contains (unbound us but bs) b → Contains (unbound us but es) b
unbound-more us but bs es f b i = let q = stayed us but bs b i in stays us but es b (f b q.0) q.1

-- no variable that is tested loses its value
pub tested-kept : (bs : List Binding) (cs : List Con) (us but : List ℕ) → ((w : ℕ) → Tested bs cs w → among w us ≡ false) → (w : ℕ) → Tested bs cs w → Tested (unbound us but bs) cs w
tested-kept bs cs us but h _ (said z i) = said z i
tested-kept bs cs us but h _ (onward b i y e t) = onward b (stays us but bs b i (inl (h b.x t))) y e (tested-kept bs cs us but h b.x t)

-- ---- which test

pub tested-parts : (bs : List Binding) (cs ds : List Con) (w : ℕ) → Tested bs (cs ++ ds) w → Tested bs cs w ⊎ Tested bs ds w
tested-parts bs cs ds _ (said z i) = by (Contains-append_cases cs ds (con.Num (Var z)) i)
  where
    by : Contains cs (con.Num (Var z)) ⊎ Contains ds (con.Num (Var z)) → Tested bs cs z ⊎ Tested bs ds z
    by (inl j) = inl (said z j)
    by (inr j) = inr (said z j)
tested-parts bs cs ds _ (onward b i y e t) = by (tested-parts bs cs ds b.x t)
  where
    by : Tested bs cs b.x ⊎ Tested bs ds b.x → Tested bs cs y ⊎ Tested bs ds y
    by (inl k) = inl (onward b i y e k)
    by (inr k) = inr (onward b i y e k)

-- what holds of the variables in tests, none of which is bound
pub tested-free : (bs : List Binding) (cs : List Con) (P : ℕ → Type 0) → ((z : ℕ) → Contains cs (con.Num (Var z)) → (is_bound_in bs z ≡ false) × P z) → (w : ℕ) → Tested bs cs w → (is_bound_in bs w ≡ false) × P w
tested-free bs cs P h _ (said z i) = h z i
tested-free bs cs P h _ (onward b i y e t) = absurd (true≢false (sym (bound-there bs b b.x i refl) ∙ (tested-free bs cs P h b.x t).0))

-- what holds of all tested variables, and of what they are bound to
pub tested-all : (bs : List Binding) (cs : List Con) (P : ℕ → Type 0) → ((z : ℕ) → Contains cs (con.Num (Var z)) → P z) → ((b : Binding) → Contains bs b → (y : ℕ) → b.term ≡ Var y → P b.x → P y) → (w : ℕ) → Tested bs cs w → P w
tested-all bs cs P h k _ (said z i) = h z i
tested-all bs cs P h k _ (onward b i y e t) = k b i y e (tested-all bs cs P h k b.x t)

-- one binding more
pub tested-push : (bs : List Binding) (cs : List Con) (b : Binding) (P : ℕ → Type 0) → ((y : ℕ) → b.term ≡ Var y → Tested bs cs b.x → (is_bound_in (bs ++ b ∷ []) y ≡ false) × P y) → (w : ℕ) → Tested (bs ++ b ∷ []) cs w
    → Tested bs cs w ⊎ ((is_bound_in (bs ++ b ∷ []) w ≡ false) × P w)
tested-push bs cs b P new _ (said z i) = inl (said z i)
tested-push bs cs b P new _ (onward c i y e t) = by (tested-push bs cs b P new c.x t) (Contains-append_cases bs (b ∷ []) c i)
  where
    by : Tested bs cs c.x ⊎ ((is_bound_in (bs ++ b ∷ []) c.x ≡ false) × P c.x) → Contains bs c ⊎ Contains (b ∷ []) c → Tested bs cs y ⊎ ((is_bound_in (bs ++ b ∷ []) y ≡ false) × P y)
    by (inr k) j = absurd (true≢false (sym (bound-there (bs ++ b ∷ []) c c.x i refl) ∙ k.0))
    by (inl k) (inl j) = inl (onward c j y e k)
    by (inl k) (inr j) =
        let same : b ≡ c = Contains-single b c j in
        inr (new y (ap (λ (d : Binding). d.term) same ∙ e) (subst (λ (d : Binding). Tested bs cs d.x) (sym same) k))

-- ---- what the test tells

-- in a list with the bindings and the tests, whose equations unify, the variable counts as a number
pub tested-counts : (bs : List Binding) (cs l : List Con) → unifies l ≡ true → ((b : Binding) → Contains bs b → Contains l (equation b)) → ((c : Con) → Contains cs c → Contains l c) → (w : ℕ) → Tested bs cs w → counts l w ≡ true
tested-counts bs cs l u f g _ (said z i) =
    or_right (is_number (resolver l z)) (list_any (is_num_of (resolver l) (resolver l z)) l)
    (list_any-from (is_num_of (resolver l) (resolver l z)) l (con.Num (Var z)) (g (con.Num (Var z)) i) ((tm_decided (resolver l z) (resolver l z)).1 refl))
tested-counts bs cs l u f g _ (onward b i y e t) =
    let equal : resolver l b.x ≡ under (resolver l) (tm_of b.term) = Each-member (Equal (resolver l)) l (equation b) (resolver-equal l u) (f b i) in
    subst (λ (t : Tm). (is_number t || list_any (is_num_of (resolver l) t) l) ≡ true) (equal ∙ ap (λ t. under (resolver l) (tm_of t)) e) (tested-counts bs cs l u f g b.x t)

-- each binding's sides read to one term
abbrev pub Reads : List Binding → Type 0
Reads bs = (b : Binding) → Contains bs b → sub_of bs b.x ≡ under (sub_of bs) (tm_of b.term)

-- the variable of some test reads as this one does
pub tested-reads : (bs : List Binding) (cs : List Con) → Reads bs → (w : ℕ) → Tested bs cs w → (z : ℕ) × Contains cs (con.Num (Var z)) × (sub_of bs z ≡ sub_of bs w)
tested-reads bs cs r _ (said z i) = (z, i, refl)
tested-reads bs cs r _ (onward b i y e t) = let q = tested-reads bs cs r b.x t in (q.0, q.1, q.2 ∙ r b i ∙ ap (λ t. under (sub_of bs) (tm_of t)) e)

-- ---- rows

-- each variable of the row is tested
abbrev pub RowIn : List Binding → List Con → Con → Type 0
RowIn bs cs (con.Row r) = Each (λ k. Tested bs cs k.x) r.coeffs
RowIn bs cs (con.Eq t u) = ⊤
RowIn bs cs (con.Neq t u) = ⊤
RowIn bs cs (con.NotShape x f n) = ⊤
RowIn bs cs (con.Num t) = ⊤
RowIn bs cs (con.NotNum t) = ⊤

pub plain-in : (bs : List Binding) (cs : List Con) (c : Con) → NoRow c → RowIn bs cs c
plain-in bs cs (con.Row r) h = absurd h
plain-in bs cs (con.Eq t u) h = tt
plain-in bs cs (con.Neq t u) h = tt
plain-in bs cs (con.NotShape x f n) h = tt
plain-in bs cs (con.Num t) h = tt
plain-in bs cs (con.NotNum t) h = tt

pub row-mapped : (bs es : List Binding) (cs ds : List Con) → ((w : ℕ) → Tested bs cs w → Tested es ds w) → (c : Con) → RowIn bs cs c → RowIn es ds c
row-mapped bs es cs ds f (con.Row r) h = Each-map (λ (k : Coeff). Tested bs cs k.x) (λ k. Tested es ds k.x) (λ k t. f k.x t) r.coeffs h
row-mapped bs es cs ds f (con.Eq t u) h = tt
row-mapped bs es cs ds f (con.Neq t u) h = tt
row-mapped bs es cs ds f (con.NotShape x g n) h = tt
row-mapped bs es cs ds f (con.Num t) h = tt
row-mapped bs es cs ds f (con.NotNum t) h = tt

pub rows-mapped : (bs es : List Binding) (cs ds : List Con) → ((w : ℕ) → Tested bs cs w → Tested es ds w) → (os : List Con) → Each (RowIn bs cs) os → Each (RowIn es ds) os
rows-mapped bs es cs ds f os h = Each-map (RowIn bs cs) (RowIn es ds) (λ c k. row-mapped bs es cs ds f c k) os h

-- a list of bindings and constraints with such rows alone is sorted
pub rows-sorted : (bs : List Binding) (cs : List Con) → Each (RowIn bs cs) cs → Sorted (map equation bs ++ cs)
rows-sorted bs cs h = by (unifies (map equation bs ++ cs)) refl
  where
    one : unifies (map equation bs ++ cs) ≡ true → (c : Con) → RowIn bs cs c → is_typed_con (map equation bs ++ cs) c ≡ true
    one u (con.Row r) k =
        list_all-from (λ (j : Coeff). counts (map equation bs ++ cs) j.x) r.coeffs
        (λ j i. tested-counts bs cs (map equation bs ++ cs) u (λ b m. Contains-append_left (map equation bs) cs (equation b) (Contains-map equation bs b m)) (λ c m. Contains-append_right (map equation bs) cs c m) j.x
        (Each-member (λ (j : Coeff). Tested bs cs j.x) r.coeffs j k i))
    one u (con.Eq t v) k = refl
    one u (con.Neq t v) k = refl
    one u (con.NotShape x f n) k = refl
    one u (con.Num t) k = refl
    one u (con.NotNum t) k = refl

    all : unifies (map equation bs ++ cs) ≡ true → (c : Con) → Contains (map equation bs) c ⊎ Contains cs c → is_typed_con (map equation bs ++ cs) c ≡ true
    all u c (inl i) = let o = Contains-from_map equation bs c i in typed-plain (map equation bs ++ cs) c (subst NoRow o.2 tt)
    all u c (inr i) = one u c (Each-member (RowIn bs cs) cs c h i)

    by : (b : Bool) → unifies (map equation bs ++ cs) ≡ b → Sorted (map equation bs ++ cs)
    by false e = apart e
    by true e = typed (list_all-from (is_typed_con (map equation bs ++ cs)) (map equation bs ++ cs) (λ c i. all e c (Contains-append_cases (map equation bs) cs c i)))
