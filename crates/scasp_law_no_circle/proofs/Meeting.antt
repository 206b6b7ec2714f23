-- The variables that are met as a variable is read: itself, and those of what it, or one of these, is bound to.
use Rattle.std.specs.Prelude.{◌≡◌, ◌≢◌, ◌⊎◌, ℕ, nat_eq, Bool, true, false, ◌||◌, if◌then◌else◌, List, [], ◌∷◌, ◌++◌, ⊤}
use Rattle.std.specs.List.{Contains}
use Rattle.std.proofs.Common.{refl, ap, sym, subst, ◌∙◌, inl, inr}
use Rattle.std.proofs.lemmas.Bool.{or_left, or_right, or_from, eqb-true, eqb-false, eq-eqb, ne_eqb, true≢false}
use Rattle.std.proofs.lemmas.List.Elements.{Contains-append_cases}
use Rattle.scasp_list.specs.Each.{Each}
use Rattle.scasp_list.proofs.MemberLemmas.{Contains-none, Contains-here, Contains-there, Contains-cases, Contains-single, list_any-from}
use Rattle.scasp_search_rules.specs.Successors.Splits.{is_bound_in}
use Rattle.scasp_syntax.specs.Tm.{Tm, Tms, var, num, app, nil, cons}
use Rattle.scasp_syntax.specs.Values.{under}
use Rattle.scasp_syntax.specs.View.{tm_of}
use Rattle.scasp_unify.specs.Parts.{occurs, occurs_among}
use Rattle.scasp_unify.specs.Solving.{sub_of}
use Rattle.scasp_unify.specs.declared.bindings.Binding.{Binding}
use Rattle.scasp_unify.proofs.Members.{Each-member}
use Rattle.scasp_law_first_event.proofs.Bindings.{Solved}
use Rattle.scasp_law_first_event.proofs.Terms.{EachVar, EachVars, each-under}

-- ---- the variables of a term

mutual
  pub occurs-each : (P : ℕ → Type 0) (t : Tm) → ((w : ℕ) → occurs w t ≡ true → P w) → EachVar P t
  occurs-each P (var x) h = h x (eq-eqb x x refl)
  occurs-each P (num q) h = tt
  occurs-each P (app f ts) h = occurs-all P ts h

  pub occurs-all : (P : ℕ → Type 0) (ts : Tms) → ((w : ℕ) → occurs_among w ts ≡ true → P w) → EachVars P ts
  occurs-all P nil h = tt
  occurs-all P (cons t ts) h =
      (occurs-each P t (λ w o. h w (or_left (occurs w t) (occurs_among w ts) o)), occurs-all P ts (λ w o. h w (or_right (occurs w t) (occurs_among w ts) o)))

mutual
  pub each-occurs : (P : ℕ → Type 0) (t : Tm) → EachVar P t → (w : ℕ) → occurs w t ≡ true → P w
  each-occurs P (var x) h w o = subst P (sym (eqb-true w x o)) h
  each-occurs P (num q) h w o = absurd (true≢false (sym o))
  each-occurs P (app f ts) h w o = all-occurs P ts h w o

  pub all-occurs : (P : ℕ → Type 0) (ts : Tms) → EachVars P ts → (w : ℕ) → occurs_among w ts ≡ true → P w
  all-occurs P nil h w o = absurd (true≢false (sym o))
  all-occurs P (cons t ts) h w o = by (occurs w t) refl (λ e. each-occurs P t h.0 w e) (λ e. all-occurs P ts h.1 w e) o
    where
      by : (b : Bool) → occurs w t ≡ b → (occurs w t ≡ true → P w) → (occurs_among w ts ≡ true → P w) → (b || occurs_among w ts) ≡ true → P w
      by true e first rest g = first e
      by false e first rest g = rest g

-- ---- bindings

pub bound-there : (bs : List Binding) (b : Binding) (z : ℕ) → Contains bs b → b.x ≡ z → is_bound_in bs z ≡ true
bound-there bs b z i e = list_any-from (λ (c : Binding). nat_eq c.x z) bs b i (eq-eqb b.x z e)

-- what stands in none of the terms is not read
read-absent : (x : ℕ) (bs : List Binding) → Each (λ c. EachVar (λ y. y ≢ x) (tm_of c.term)) bs → (z : ℕ) → z ≢ x → EachVar (λ y. y ≢ x) (sub_of bs z)
read-absent x [] k z d = d
read-absent x (c ∷ cs) k z d = by (nat_eq z c.x) (λ y e. read-absent x cs k.1 y e)
  where
    by : (same : Bool) → ((y : ℕ) → y ≢ x → EachVar (λ v. v ≢ x) (sub_of cs y)) → EachVar (λ v. v ≢ x) (under (sub_of cs) (if same then tm_of c.term else var z))
    by true rec = each-under (λ v. v ≢ x) (λ v. v ≢ x) (sub_of cs) rec (tm_of c.term) k.0
    by false rec = rec z d

read-step : (n : ℕ) (b : Binding) (bs : List Binding) → Solved n (b ∷ bs) → ((x w : ℕ) → occurs w (sub_of bs x) ≡ true → is_bound_in bs w ≡ false) → (z w : ℕ) → occurs w (sub_of (b ∷ bs) z) ≡ true
    → is_bound_in (b ∷ bs) w ≡ false
read-step n b bs h rec z w o = or_from (nat_eq b.x w) (is_bound_in bs w) (ne_eqb b.x w (λ e. apart (sym e))) (each-occurs (λ y. is_bound_in bs y ≡ false) (sub_of (b ∷ bs) z) rest w o)
  where
    first : Tm
    first = if nat_eq z b.x then tm_of b.term else var z

    rest : EachVar (λ y. is_bound_in bs y ≡ false) (under (sub_of bs) (if nat_eq z b.x then tm_of b.term else var z))
    rest =
        each-under (λ y. ⊤) (λ y. is_bound_in bs y ≡ false) (sub_of bs) (λ x k. occurs-each (λ y. is_bound_in bs y ≡ false) (sub_of bs x) (λ y m. rec x y m)) first (occurs-each (λ y. ⊤) first (λ y m. tt))

    parts : EachVar (λ x. x ≢ b.x) (if nat_eq z b.x then tm_of b.term else var z)
    parts = by (nat_eq z b.x) refl
      where
        by : (same : Bool) → nat_eq z b.x ≡ same → EachVar (λ x. x ≢ b.x) (if same then tm_of b.term else var z)
        by true e = h.2.0
        by false e = eqb-false z b.x e

    apart : w ≢ b.x
    apart = each-occurs (λ x. x ≢ b.x) (sub_of (b ∷ bs) z) (each-under (λ x. x ≢ b.x) (λ x. x ≢ b.x) (sub_of bs) (λ x d. read-absent b.x bs h.2.1 x d) first parts) w o

-- what is read has no bound variable
pub read-unbound : (n : ℕ) (bs : List Binding) → Solved n bs → (z w : ℕ) → occurs w (sub_of bs z) ≡ true → is_bound_in bs w ≡ false
read-unbound n [] h z w o = refl
read-unbound n (b ∷ bs) h z w o = read-step n b bs h (λ x y m. read-unbound n bs h.3 x y m) z w o

-- ---- what is met

pub data Met (G : ℕ → Type 0) (bs : List Binding) : ℕ → Type 0 where
  met : (z : ℕ) → G z → ((b : Binding) → Contains bs b → b.x ≡ z → (w : ℕ) → occurs w (tm_of b.term) ≡ true → Met G bs w) → Met G bs z

pub met-good : (G : ℕ → Type 0) (bs : List Binding) (z : ℕ) → Met G bs z → G z
met-good G bs _ (met z g k) = g

pub met-next : (G : ℕ → Type 0) (bs : List Binding) (z : ℕ) → Met G bs z → (b : Binding) → Contains bs b → b.x ≡ z → (w : ℕ) → occurs w (tm_of b.term) ≡ true → Met G bs w
met-next G bs _ (met z g k) = k

-- fewer bindings, and more that is good
pub met-fewer : (G H : ℕ → Type 0) (bs cs : List Binding) → ((z : ℕ) → G z → H z) → ((b : Binding) → Contains cs b → Contains bs b) → (z : ℕ) → Met G bs z → Met H cs z
met-fewer G H bs cs f i _ (met z g k) = met z (f z g) (λ b j e w o. met-fewer G H bs cs f i w (k b (i b j) e w o))

-- a variable that is not bound
pub met-free : (G : ℕ → Type 0) (bs : List Binding) (z : ℕ) → G z → is_bound_in bs z ≡ false → Met G bs z
met-free G bs z g f = met z g (λ b j e w o. absurd (true≢false (sym (bound-there bs b z j e) ∙ f)))

-- one binding more
pub met-pushed : (G H : ℕ → Type 0) (bs : List Binding) (b : Binding) → ((z : ℕ) → G z → H z) → (G b.x → (w : ℕ) → occurs w (tm_of b.term) ≡ true → Met H (bs ++ b ∷ []) w)
    → (z : ℕ) → Met G bs z → Met H (bs ++ b ∷ []) z
met-pushed G H bs b f new _ (met z g k) = met z (f z g) (λ c j e w o. by c e w o (Contains-append_cases bs (b ∷ []) c j) (λ i. met-pushed G H bs b f new w (k c i e w o)))
  where
    by : (c : Binding) → c.x ≡ z → (w : ℕ) → occurs w (tm_of c.term) ≡ true → Contains bs c ⊎ Contains (b ∷ []) c → (Contains bs c → Met H (bs ++ b ∷ []) w) → Met H (bs ++ b ∷ []) w
    by c e w o (inl i) old = old i
    by c e w o (inr i) old =
        let same : b ≡ c = Contains-single b c i in
        new (subst G (sym (ap (λ (d : Binding). d.x) same ∙ e)) g) w (ap (λ (d : Binding). occurs w (tm_of d.term)) same ∙ o)

-- a binding before the others, of another variable
met-later : (G : ℕ → Type 0) (a : Binding) (bs : List Binding) → ((b : Binding) → Contains (a ∷ bs) b → (w : ℕ) → occurs w (tm_of b.term) ≡ true → w ≢ a.x) → (z : ℕ) → Met G bs z → z ≢ a.x → Met G (a ∷ bs) z
met-later G a bs absent _ (met z g k) d = met z g (λ b j e v o. by b e v o (Contains-cases a bs b j) (λ i. met-later G a bs absent v (k b i e v o) (absent b j v o)))
  where
    by : (b : Binding) → b.x ≡ z → (v : ℕ) → occurs v (tm_of b.term) ≡ true → (a ≡ b) ⊎ Contains bs b → (Contains bs b → Met G (a ∷ bs) v) → Met G (a ∷ bs) v
    by b e v o (inl same) old = absurd (d (sym e ∙ ap (λ (c : Binding). c.x) (sym same)))
    by b e v o (inr i) old = old i

-- what leads to its like alone
pub met-closed : (G C : ℕ → Type 0) (n : ℕ) (bs : List Binding) → Solved n bs → ((z : ℕ) → C z → G z) → ((b : Binding) → Contains bs b → C b.x → (w : ℕ) → occurs w (tm_of b.term) ≡ true → C w)
    → (z : ℕ) → C z → Met G bs z
met-closed G C n [] h f k z c = met z (f z c) (λ b j e w o. absurd (Contains-none b j))
met-closed G C n (a ∷ bs) h f k z c =
    met z (f z c) (λ b j e w o. met-later G a bs absent w (met-closed G C n bs h.3 f (λ d i m v r. k d (Contains-there a bs d i) m v r) w (k b j (subst C (sym e) c) w o)) (absent b j w o))
  where
    absent : (b : Binding) → Contains (a ∷ bs) b → (w : ℕ) → occurs w (tm_of b.term) ≡ true → w ≢ a.x
    absent b j w o = each-occurs (λ y. y ≢ a.x) (tm_of b.term) (Each-member (λ (c : Binding). EachVar (λ y. y ≢ a.x) (tm_of c.term)) (a ∷ bs) b h.2 j) w o

-- what is read was met
pub met-reads : (G : ℕ → Type 0) (bs : List Binding) (z : ℕ) → Met G bs z → EachVar G (sub_of bs z)
met-reads G [] z m = met-good G [] z m
met-reads G (b ∷ bs) z m = by (nat_eq z b.x) refl (λ w k. met-reads G bs w k)
  where
    fewer : (w : ℕ) → Met G (b ∷ bs) w → Met G bs w
    fewer w k = met-fewer G G (b ∷ bs) bs (λ y g. g) (λ c j. Contains-there b bs c j) w k

    by : (same : Bool) → nat_eq z b.x ≡ same → ((w : ℕ) → Met G bs w → EachVar G (sub_of bs w)) → EachVar G (under (sub_of bs) (if same then tm_of b.term else var z))
    by true e rec =
        each-under (Met G bs) G (sub_of bs) rec (tm_of b.term)
        (occurs-each (Met G bs) (tm_of b.term) (λ w o. fewer w (met-next G (b ∷ bs) z m b (Contains-here b bs) (sym (eqb-true z b.x e)) w o)))
    by false e rec = rec z (fewer z m)
