-- States whose bindings are settled and whose given constraints are met; and what comes of them where constraints are assumed.
use Rattle.std.specs.List.{Contains, list_all}
use Rattle.std.specs.Prelude.{Bool, List, [], false, if◌then◌else◌, length, map, nat_lt, not, true, ℕ, ◌&&◌, ◌++◌, ◌<◌, ◌∷◌, ◌≡◌}
use Rattle.std.proofs.Common.{ap, append_assoc, refl, subst, sym, ◌∙◌}
use Rattle.std.proofs.lemmas.Bool.{and_from, and_parts, lt-ltb, true≢false}
use Rattle.std.proofs.lemmas.List.{append-nil}
use Rattle.std.proofs.lemmas.List.Elements.{Contains-append_left}
use Rattle.scasp_hint.proofs.SatisfyingLemmas.{sat-always, sat-sorted}
use Rattle.scasp_hint.specs.Satisfying.{sat}
use Rattle.scasp_law_first_event.proofs.Bindings.{Free, Solved, read-free}
use Rattle.scasp_law_first_event.proofs.EachStates.{each_followed}
use Rattle.scasp_law_first_event.proofs.Firmness.{BindingFirm, Firm, FirmIn, Kinded, TermFirm, kinded-term, read-kinded}
use Rattle.scasp_law_first_event.proofs.Raising.{Each-mapped}
use Rattle.scasp_law_first_event.proofs.Terms.{EachVar, each-both, each-weaker}
use Rattle.scasp_law_no_circle.proofs.Tasks.{NoRow}
use Rattle.scasp_law_parts.proofs.AgreeLemmas.{join-all, split-all}
use Rattle.scasp_law_parts.specs.Bound.{Triangular}
use Rattle.scasp_law_sorted.proofs.Assuming.{against-given, along-given, plain-read}
use Rattle.scasp_law_sorted.proofs.Evenness.{EvenAt, quiet}
use Rattle.scasp_law_sorted.proofs.Lists.{entails-more, list-within, sorted-one, sorted-row}
use Rattle.scasp_law_sorted.proofs.Numbers.{IsNumberBy, number-of, reads}
use Rattle.scasp_law_sorted.proofs.Rows.{read-of}
use Rattle.scasp_list.proofs.EachLemmas.{Each-append, Each-map, test_from-Each}
use Rattle.scasp_list.specs.Each.{Each}
use Rattle.scasp_num.specs.Linear.{IsNormal, Linear}
use Rattle.scasp_num.specs.declared.linear.Coeff.{Coeff}
use Rattle.scasp_search_rules.specs.Successors.Assumptions.{against, along, as_read, assume, assume_all, performed}
use Rattle.scasp_search_rules.specs.Successors.Falls.{EachState}
use Rattle.scasp_search_rules.specs.Successors.Items.{number_tests}
use Rattle.scasp_search_rules.specs.Successors.Reading.{con_under, holds_always, row_under}
use Rattle.scasp_search_rules.specs.Successors.Regions.{equation}
use Rattle.scasp_search_rules.specs.Successors.Splits.{is_bound_in}
use Rattle.scasp_search_rules.specs.Successors.Variables.{is_empty, meaning, next_variable, universals_of}
use Rattle.scasp_search_rules.specs.declared.states.covers.Cover.{Cover}
use Rattle.scasp_search_rules.specs.declared.states.outcomes.Status.TheVariants.{Added, Entailed, Impossible, Parts}
use Rattle.scasp_search_rules.specs.declared.states.state.Made.{Made}
use Rattle.scasp_search_rules.specs.declared.states.state.State.{State}
use Rattle.scasp_syntax.specs.Constraints.{Entails, Meets, Sat, holds, is_number}
use Rattle.scasp_syntax.specs.Tm.{Tm, var}
use Rattle.scasp_syntax.specs.Values.{Sub, Valuation, under}
use Rattle.scasp_syntax.specs.View.{tm_of}
use Rattle.scasp_syntax.specs.WellFormed.{is_below}
use Rattle.scasp_syntax.specs.declared.con.Con.{Con}
use Rattle.scasp_syntax.specs.declared.con.Con.TheVariants as con
use Rattle.scasp_syntax.specs.declared.term.Term.TheVariants.{Var}
use Rattle.scasp_unify.proofs.NegationLemmas.{entailed}
use Rattle.scasp_unify.specs.Negations.{is_con_below, negated}
use Rattle.scasp_unify.specs.Sorted.{Sorted}
use Rattle.scasp_unify.specs.declared.bindings.Binding.{Binding}
use Rattle.scasp_law_headed_steps.proofs.Forms.{ConAll, all-con-weaker, below-test, con-below-test, read-all, simple-all}
use Rattle.scasp_law_headed_steps.proofs.Truths.{RowReads, always, holds-read, read-holds}
use Rattle.scasp_law_headed_steps.specs.Calm.{holds_of}

-- no variable is universal, and what holds is met; the variables of what is given are of no head, or bound
pub record KeptAt (made : List Made) (bs : List Binding) (gs : List Con) (cs : List Cover) : Type 0 where
  pub even : EvenAt made bs gs cs
  pub triangular : Triangular bs
  pub met : Sat (map equation bs ++ gs)
  pub firm : Each (ConAll (FirmIn made bs)) gs

abbrev pub Kept : State → Type 0
Kept s = KeptAt s.made s.bound s.given s.covers

-- ---- what is read

-- a variable that is of no head, and free
abbrev pub Found : State → ℕ → Type 0
Found s z = Kinded s z × (is_bound_in s.bound z ≡ false)

module _ (s : State) (solved : Solved (length s.made) s.bound) (bindings : Each (BindingFirm s) s.bound) where
  pub read-firm : (x : ℕ) → Firm s x → EachVar (Firm s) (meaning s x)
  read-firm x h = kinded-term s (meaning s x) (read-kinded s solved bindings (var x) h)

  pub read-found : (t : Tm) → TermFirm s t → EachVar (Found s) (under (meaning s) t)
  read-found t h =
      each-weaker (λ z. Kinded s z × Free (length s.made) s.bound z) (Found s) (λ z k. (k.0, k.1.0)) (under (meaning s) t)
      (each-both (Kinded s) (Free (length s.made) s.bound) (under (meaning s) t) (read-kinded s solved bindings t h)
      (read-free (length s.made) s.bound solved t (each-weaker (Firm s) (λ z. z < length s.made) (λ z k. k.0) t h)))

-- ---- one constraint

-- P holds of each state that comes of assuming these constraints: with more given constraints, which entail them
abbrev pub Assuming : State → List Con → (State → Type 0) → Type 0
Assuming s A P = (gs : List Con) → KeptAt s.made s.bound (s.given ++ gs) s.covers → Each (Entails (map equation s.bound ++ (s.given ++ gs))) A → P (record s { given = s.given ++ gs })

-- where nothing more is given
nothing-more : (s : State) (A : List Con) (P : State → Type 0) → Assuming s A P → Kept s → Each (Entails (holds_of s)) A → P s
nothing-more s A P k h e =
    subst (λ (gs : List Con). KeptAt s.made s.bound gs s.covers → Each (Entails (map equation s.bound ++ gs)) A → P (record s { given = gs })) (append-nil s.given) (k []) h e

bound-below : (n : ℕ) (bs : List Binding) → Solved n bs → list_all (is_con_below n) (map equation bs) ≡ true
bound-below n [] h = refl
bound-below n (b ∷ bs) h =
    and_from (nat_lt b.x n && is_below n (tm_of b.term)) (list_all (is_con_below n) (map equation bs))
    (and_from (nat_lt b.x n) (is_below n (tm_of b.term)) (lt-ltb b.x n h.0) (below-test n (tm_of b.term) h.1)) (bound-below n bs h.3)

module _ (s : State) (solved : Solved (length s.made) s.bound) (bindings : Each (BindingFirm s) s.bound) (h : Kept s) where
  firm-below : (c : Con) → ConAll (Firm s) c → is_con_below (length s.made) c ≡ true
  firm-below c a = con-below-test (length s.made) c (all-con-weaker (Firm s) (λ y. y < length s.made) (λ y k. k.0) c a)

  list-below : list_all (is_con_below (length s.made)) (holds_of s) ≡ true
  list-below =
      join-all (is_con_below (length s.made)) (map equation s.bound) s.given (bound-below (length s.made) s.bound solved)
      (test_from-Each (is_con_below (length s.made)) (ConAll (Firm s)) firm-below s.given h.firm)

  module _ (c : Con) (a : ConAll (Firm s) c) (numbers : (v : Valuation) → Meets v.of (holds_of s) → RowReads v.of c) (with_it : Sorted (map equation s.bound ++ (s.given ++ c ∷ [])))
      (as_it_reads : Sorted (map equation s.bound ++ (s.given ++ as_read s c ∷ []))) where
    by-itself : holds_always (as_read s c) ≡ true → Entails (holds_of s) c
    by-itself e v m = holds-read s.bound h.triangular v.of (reads s.bound s.given v.of m) c (numbers v m) (always (as_read s c) e v.of)

    by-others : sat (against s c) ≡ false → Entails (holds_of s) c
    by-others e = (entailed (holds_of s) c (length s.made) list-below (firm-below c a)).1 (λ k. true≢false (sym (sat-always (against s c) (subst Sat same k)) ∙ e))
      where
        same : holds_of s ++ negated (next_variable s) c ∷ [] ≡ against s c
        same = append_assoc (map equation s.bound) s.given (negated (next_variable s) c ∷ []) ∙ sym (against-given s h.even c)

    met-added : sat (along s c) ≡ true → Sat (map equation s.bound ++ (s.given ++ as_read s c ∷ []))
    met-added e = record {
      by = k.by;
      meets = join-all (holds k.by.of) (map equation s.bound) (s.given ++ as_read s c ∷ []) p.0
          (join-all (holds k.by.of) s.given (as_read s c ∷ []) q.0
          (and_from (holds k.by.of (as_read s c)) true (read-holds s.bound h.triangular k.by.of (reads s.bound s.given k.by.of m) c (numbers k.by m) (and_parts (holds k.by.of c) true q.1).0) refl));
    }
      where
        k : Sat (map equation s.bound ++ (s.given ++ c ∷ []))
        k = (sat-sorted (map equation s.bound ++ (s.given ++ c ∷ [])) with_it).0 (ap sat (sym (along-given s h.even c)) ∙ e)

        p : (list_all (holds k.by.of) (map equation s.bound) ≡ true) × (list_all (holds k.by.of) (s.given ++ c ∷ []) ≡ true)
        p = split-all (holds k.by.of) (map equation s.bound) (s.given ++ c ∷ []) k.meets

        q : (list_all (holds k.by.of) s.given ≡ true) × (list_all (holds k.by.of) (c ∷ []) ≡ true)
        q = split-all (holds k.by.of) s.given (c ∷ []) p.1

        m : Meets k.by.of (holds_of s)
        m = join-all (holds k.by.of) (map equation s.bound) s.given p.0 q.0

    kept-added : sat (along s c) ≡ true → KeptAt s.made s.bound (s.given ++ as_read s c ∷ []) s.covers
    kept-added e = record {
      even = record { kinds = h.even.kinds; settled = record { sorted = as_it_reads; bare = h.even.settled.bare } };
      triangular = h.triangular;
      met = met-added e;
      firm = Each-append (ConAll (Firm s)) s.given (as_read s c ∷ []) h.firm (simple-all (Firm s) (con_under (meaning s) c) (read-all (Firm s) (meaning s) (read-firm s solved bindings) c a), tt);
    }

    entails-added : Entails (map equation s.bound ++ (s.given ++ as_read s c ∷ [])) c
    entails-added v m =
        let p = split-all (holds v.of) (map equation s.bound) (s.given ++ as_read s c ∷ []) m in
        let q = split-all (holds v.of) s.given (as_read s c ∷ []) p.1 in
        let r : Meets v.of (holds_of s) = join-all (holds v.of) (map equation s.bound) s.given p.0 q.0 in
        holds-read s.bound h.triangular v.of (reads s.bound s.given v.of r) c (numbers v r) (and_parts (holds v.of (as_read s c)) true q.1).0

    assume-one : (P : State → Type 0) → Assuming s (c ∷ []) P → EachState P (assume sat s c).states
    assume-one P k = by (holds_always (as_read s c)) (sat (against s c)) (sat (along s c)) (is_empty (universals_of s c)) refl refl refl (quiet s h.even c)
      where
        by : (i j l m : Bool) → holds_always (as_read s c) ≡ i → sat (against s c) ≡ j → sat (along s c) ≡ l → m ≡ true
            → EachState P (performed s (as_read s c) (if i then Entailed else (if not j then Entailed else (if not l then Impossible else (if m then Added else Parts)))))
        by true j l m f g o n = (nothing-more s (c ∷ []) P k h (by-itself f, tt), tt)
        by false false l m f g o n = (nothing-more s (c ∷ []) P k h (by-others g, tt), tt)
        by false true false m f g o n = tt
        by false true true true f g o n = (k (as_read s c ∷ []) (kept-added o) (entails-added, tt), tt)
        by false true true false f g o n = absurd (true≢false (sym n))

  -- a constraint that is no row
  pub assume-plain : (c : Con) → NoRow c → ConAll (Firm s) c → (P : State → Type 0) → Assuming s (c ∷ []) P → EachState P (assume sat s c).states
  assume-plain c n a =
      assume-one c a (λ v m. no-row v.of c n) (sorted-one s.bound s.given c n h.even.settled.sorted) (sorted-one s.bound s.given (as_read s c) (plain-read s c n) h.even.settled.sorted)
    where
      no-row : (v : Sub) (c : Con) → NoRow c → RowReads v c
      no-row v (con.Row r) n = absurd n
      no-row v (con.Eq t u) n = tt
      no-row v (con.Neq t u) n = tt
      no-row v (con.NotShape x f k) n = tt
      no-row v (con.Num t) n = tt
      no-row v (con.NotNum t) n = tt

  -- a row whose variables are numbers
  pub assume-numbered : (r : Linear) → IsNormal r → Each (λ k. Firm s k.x) r.coeffs → Each (λ k. IsNumberBy s.bound s.given k.x) r.coeffs → (P : State → Type 0) → Assuming s (con.Row r ∷ []) P
      → EachState P (assume sat s (con.Row r)).states
  assume-numbered r n a k =
      assume-one (con.Row r) a (λ v m. (n, Each-map (λ (j : Coeff). IsNumberBy s.bound s.given j.x) (λ j. is_number (v.of j.x) ≡ true) (λ j e. e v m) r.coeffs k))
      (sorted-row s.bound s.given r h.even.settled.sorted k).0
      (sorted-row s.bound s.given (row_under (meaning s) r) h.even.settled.sorted (read-of (IsNumberBy s.bound s.given) (meaning s) (λ x y p f. number-of s.bound s.given x y p f) r k)).0

-- ---- several constraints

later-assuming : (s : State) (gs A B : List Con) (P : State → Type 0) → Each (Entails (map equation s.bound ++ (s.given ++ gs))) A → Assuming s (A ++ B) P → Assuming (record s { given = s.given ++ gs }) B P
later-assuming s gs A B P e k hs kept f =
    subst (λ (g : List Con). P (record s { given = g })) (sym (append_assoc s.given gs hs))
    (k (gs ++ hs) (subst (λ (g : List Con). KeptAt s.made s.bound g s.covers) (append_assoc s.given gs hs) kept)
    (Each-append (Entails (map equation s.bound ++ (s.given ++ (gs ++ hs)))) A B
    (Each-map (Entails (map equation s.bound ++ (s.given ++ gs))) (Entails (map equation s.bound ++ (s.given ++ (gs ++ hs)))) (λ c g. entails-more (map equation s.bound ++ (s.given ++ gs)) (map equation s.bound ++ (s.given ++ (gs ++ hs))) c within g) A e)
    (subst (λ (g : List Con). Each (Entails (map equation s.bound ++ g)) B) (append_assoc s.given gs hs) f)))
  where
    within : (d : Con) → Contains (map equation s.bound ++ (s.given ++ gs)) d → Contains (map equation s.bound ++ (s.given ++ (gs ++ hs))) d
    within =
        list-within s.bound s.bound (s.given ++ gs) (s.given ++ (gs ++ hs)) (λ b i. i)
        (λ d i. subst (λ (g : List Con). Contains g d) (append_assoc s.given gs hs) (Contains-append_left (s.given ++ gs) hs d i))

-- some constraints that are no rows, and then others
pub assume-before : (cs ds : List Con) → Each NoRow cs → (s : State) → Solved (length s.made) s.bound → Each (BindingFirm s) s.bound → Kept s → Each (ConAll (Firm s)) cs → (P : State → Type 0)
    → Assuming s cs (λ t. EachState P (assume_all sat ds t).states) → EachState P (assume_all sat (cs ++ ds) s).states
assume-before [] ds n s solved b h a P k = nothing-more s [] (λ t. EachState P (assume_all sat ds t).states) k h tt
assume-before (c ∷ cs) ds n s solved b h a P k =
    each_followed (λ t. EachState P (assume_all sat (cs ++ ds) t).states) P (assume_all sat (cs ++ ds)) (assume sat s c).states
    (assume-plain s solved b h c n.0 a.0 (λ t. EachState P (assume_all sat (cs ++ ds) t).states)
    (λ gs kept e. assume-before cs ds n.1 (record s { given = s.given ++ gs }) solved b kept a.1 P (later-assuming s gs (c ∷ []) cs (λ t. EachState P (assume_all sat ds t).states) e k))) (λ t l. l)

pub assume-each : (cs : List Con) → Each NoRow cs → (s : State) → Solved (length s.made) s.bound → Each (BindingFirm s) s.bound → Kept s → Each (ConAll (Firm s)) cs → (P : State → Type 0)
    → Assuming s cs P → EachState P (assume_all sat cs s).states
assume-each cs n s solved b h a P k =
    subst (λ (ds : List Con). EachState P (assume_all sat ds s).states) (append-nil cs) (assume-before cs [] n s solved b h a P (λ gs kept e. (k gs kept e, tt)))

-- a row, behind the tests that its variables are numbers
pub assume-row : (r : Linear) → IsNormal r → (s : State) → Solved (length s.made) s.bound → Each (BindingFirm s) s.bound → Kept s → Each (λ k. Firm s k.x) r.coeffs → (P : State → Type 0)
    → Assuming s (number_tests r ++ con.Row r ∷ []) P → EachState P (assume_all sat (number_tests r ++ con.Row r ∷ []) s).states
assume-row r n s solved b h a P k =
    assume-before (number_tests r) (con.Row r ∷ []) (plain r.coeffs) s solved b h (Each-mapped (ConAll (Firm s)) (λ j. con.Num (Var j.x)) r.coeffs a) P
    (λ gs kept e.
    each_followed P P (assume_all sat []) (assume sat (record s { given = s.given ++ gs }) (con.Row r)).states
    (assume-numbered (record s { given = s.given ++ gs }) solved b kept r n a (unmapped gs r.coeffs e) P (later-assuming s gs (number_tests r) (con.Row r ∷ []) P e k)) (λ t l. (l, tt)))
  where
    plain : (ks : List Coeff) → Each NoRow (map (λ k. con.Num (Var k.x)) ks)
    plain [] = tt
    plain (j ∷ ks) = (tt, plain ks)

    unmapped : (gs : List Con) (ks : List Coeff) → Each (Entails (map equation s.bound ++ (s.given ++ gs))) (map (λ k. con.Num (Var k.x)) ks) → Each (λ k. IsNumberBy s.bound (s.given ++ gs) k.x) ks
    unmapped gs [] e = tt
    unmapped gs (j ∷ ks) e = (e.0, unmapped gs ks e.1)
