-- New variables, variables that are lowered, and one binding more.
use Rattle.std.specs.Prelude.{◌≡◌, ◌≢◌, ◌⊎◌, ℕ, ◌<◌, ◌≤◌, nat_eq, true, false, List, [], ◌∷◌, ◌++◌, length}
use Rattle.std.specs.List.{Contains}
use Rattle.std.proofs.Common.{refl, arith, ap, sym, subst, ◌∙◌, inl, inr}
use Rattle.std.proofs.lemmas.Bool.{cases_Bool, or_from, or_left, or_right, eq-eqb, ne_eqb, true≢false}
use Rattle.std.proofs.lemmas.List.{length-append}
use Rattle.std.proofs.lemmas.List.Elements.{Contains-append_cases}
use Rattle.scasp_list.specs.Each.{Each}
use Rattle.scasp_list.proofs.EachLemmas.{Each-map, Each-append}
use Rattle.scasp_list.proofs.MemberLemmas.{Contains-here, Contains-there, Contains-single}
use Rattle.scasp_search_rules.specs.declared.states.covers.Cover.{Cover}
use Rattle.scasp_search_rules.specs.declared.states.state.Kind.{Kind}
use Rattle.scasp_search_rules.specs.declared.states.state.Kind.TheVariants.{Existential, Universal, Matched}
use Rattle.scasp_search_rules.specs.declared.states.state.Made.{Made}
use Rattle.scasp_search_rules.specs.Successors.Reading.{among}
use Rattle.scasp_search_rules.specs.Successors.Splits.{is_bound_in}
use Rattle.scasp_search_rules.specs.Successors.Variables.{binding, is_kind_matched, lowered}
use Rattle.scasp_syntax.specs.Tm.{Tm}
use Rattle.scasp_syntax.specs.View.{tm_of}
use Rattle.scasp_syntax.specs.declared.program.Program.{Program}
use Rattle.scasp_unify.specs.Parts.{occurs}
use Rattle.scasp_unify.specs.declared.bindings.Binding.{Binding}
use Rattle.scasp_unify.proofs.SimpleLemmas.{viewed}
use Rattle.scasp_law_first_event.proofs.Bindings.{bound-push}
use Rattle.scasp_law_first_event.proofs.Moves.{lowered-length}
use Rattle.scasp_law_no_circle.proofs.Meeting.{met, met-free, met-pushed, bound-there}
use Rattle.scasp_law_no_circle.proofs.Places.{entry, Lower, lower-same, lowered-lowers, lowered-other, entry-left, owns, places}
use Rattle.scasp_law_no_circle.proofs.Scope.{Good, existential, universal, matched, Scoped, Under, Falls, Sound, Better, Carries, fewer-carries, Change, covers-kept, good-better, Scopes}

pub within : (n : ℕ) → n ≤ n
within n = omega arith

pub still-bound : (bs : List Binding) (b : Binding) (z : ℕ) → is_bound_in bs z ≡ true → is_bound_in (bs ++ b ∷ []) z ≡ true
still-bound bs b z e = bound-push bs b z ∙ or_left (is_bound_in bs z) (nat_eq b.x z) e

pub still-unbound : (bs : List Binding) (b : Binding) (z : ℕ) → z ≢ b.x → is_bound_in bs z ≡ false → is_bound_in (bs ++ b ∷ []) z ≡ false
still-unbound bs b z d e = bound-push bs b z ∙ or_from (is_bound_in bs z) (nat_eq b.x z) e (ne_eqb b.x z (λ same. d (sym same)))

-- x is free and may stand for the term: what stands there is free, another, not deeper, and owned if it is universal
pub record Fits (made : List Made) (cs : List Cover) (bs : List Binding) (x : ℕ) (t : Tm) : Type 0 where
  pub free : is_bound_in bs x ≡ false
  pub place : x < length made
  pub owned : (entry made x).kind ≡ Universal → owns cs (entry made x).depth x ≡ true
  pub terms : is_kind_matched (entry made x).kind ≡ false → (w : ℕ) → occurs w t ≡ true
      → Under made x w × (is_bound_in bs w ≡ false) × (w ≢ x) × ((entry made w).kind ≡ Universal → owns cs (entry made w).depth w ≡ true)

module _ (p : Program) (made : List Made) (cs : List Cover) (bs : List Binding) (h : Sound p made cs bs) where
  -- ---- new variables

  module _ (more : List Made) where
    long-more : length made ≤ length (made ++ more)
    long-more = let e = length-append {A = Made} made more in omega (arith, e)

    more-better : Better made (made ++ more) cs cs bs bs (length cs)
    more-better = record {
      long = long-more;
      entries = (λ z l f. lower-same (entry made z) (entry (made ++ more) z) (entry-left made more z l));
      owners = (λ d z l o. o);
      stays = (λ z e b. b);
    }

    more-change : Change made (made ++ more) cs cs bs bs (length cs)
    more-change = record {
      better = more-better;
      carries = fewer-carries made (made ++ more) cs cs bs bs (length cs) more-better (λ c i. i);
      from = (λ b i. inl i);
      firm = (λ d u l o b. b);
      still = (λ u e o b. b);
    }

    falls-more : (b : Binding) → Falls made b → Falls (made ++ more) b
    falls-more b k = (
      (let l : b.x < length made = k.0 in omega (arith, l, long-more)),
      λ n w o. one w (k.1 (subst (λ (a : Made). is_kind_matched a.kind ≡ false) (entry-left made more b.x k.0) n) w o),
    )
      where
        one : (w : ℕ) → Under made b.x w → Under (made ++ more) b.x w
        one w u =
            let x : entry (made ++ more) b.x ≡ entry made b.x = entry-left made more b.x k.0 in
            let y : entry (made ++ more) w ≡ entry made w = entry-left made more w u.place in
            record {
              place = (let l = u.place in omega (arith, l, long-more));
              kinded = subst (λ (a : Made). is_kind_matched a.kind ≡ false) (sym y) u.kinded;
              depth = subst (λ (a : Made). a.depth ≤ (entry (made ++ more) b.x).depth) (sym y) (subst (λ (a : Made). (entry made w).depth ≤ a.depth) (sym x) u.depth);
              strict = (λ e f. subst (λ (a : Made). a.depth < (entry (made ++ more) b.x).depth) (sym y)
                  (subst (λ (a : Made). (entry made w).depth < a.depth) (sym x) (u.strict (sym (ap (λ (a : Made). a.kind) x) ∙ e) (sym (ap (λ (a : Made). a.kind) y) ∙ f))));
            }

    pub more-scopes : Scopes p made (made ++ more) cs cs bs bs
    more-scopes = record {
      sound = record {
        falls = Each-map (Falls made) (Falls (made ++ more)) falls-more bs h.falls;
        placed = h.placed;
        covers = covers-kept p made (made ++ more) cs cs bs bs (length cs) more-change cs (places cs h.placed) (within (length cs)) h.covers;
      };
      carries = more-change.carries;
      many = refl;
      long = long-more;
      kinds = (λ z l e. (omega (arith, l, long-more), ap (λ (a : Made). a.kind) (entry-left made more z l) ∙ e));
      loose = (λ z l e f. f);
    }

  -- ---- variables that are lowered, none of which is bound

  module _ (d : ℕ) (xs : List ℕ) (free : (z : ℕ) → among z xs ≡ true → is_bound_in bs z ≡ false) where
    long-lowered : length (lowered d xs made) ≡ length made
    long-lowered = lowered-length d xs made

    lowered-better : Better made (lowered d xs made) cs cs bs bs (length cs)
    lowered-better = record {
      long = omega (arith, long-lowered);
      entries = (λ z l f. lowered-lowers d xs made z);
      owners = (λ k z l o. o);
      stays = (λ z e b. b);
    }

    lowered-change : Change made (lowered d xs made) cs cs bs bs (length cs)
    lowered-change = record {
      better = lowered-better;
      carries = fewer-carries made (lowered d xs made) cs cs bs bs (length cs) lowered-better (λ c i. i);
      from = (λ b i. inl i);
      firm = (λ k u l o b. b);
      still = (λ u e o b. b);
    }

    falls-lowered : (b : Binding) → is_bound_in bs b.x ≡ true → Falls made b → Falls (lowered d xs made) b
    falls-lowered b i k = (
      (let l : b.x < length made = k.0 in omega (arith, l, long-lowered)),
      λ n w o. one w (k.1 (subst (λ (a : Made). is_kind_matched a.kind ≡ false) same n) w o),
    )
      where
        out : among b.x xs ≡ false
        out = by (cases_Bool (among b.x xs))
          where
            by : (among b.x xs ≡ true) ⊎ (among b.x xs ≡ false) → among b.x xs ≡ false
            by (inl j) = absurd (true≢false (sym i ∙ free b.x j))
            by (inr j) = j

        same : entry (lowered d xs made) b.x ≡ entry made b.x
        same = lowered-other d xs made b.x out

        one : (w : ℕ) → Under made b.x w → Under (lowered d xs made) b.x w
        one w u =
            let lo : Lower (entry made w) (entry (lowered d xs made) w) = lowered-lowers d xs made w in
            let less = lo.depth in
            record {
              place = (let l = u.place in omega (arith, l, long-lowered));
              kinded = ap is_kind_matched lo.kind ∙ u.kinded;
              depth = subst (λ (a : Made). (entry (lowered d xs made) w).depth ≤ a.depth) (sym same) (let m = u.depth in omega (arith, less, m));
              strict = (λ e f. subst (λ (a : Made). (entry (lowered d xs made) w).depth < a.depth) (sym same)
                  (let m = u.strict (sym (ap (λ (a : Made). a.kind) same) ∙ e) (sym lo.kind ∙ f) in omega (arith, less, m)));
            }

    all-falls : (os : List Binding) → ((b : Binding) → Contains os b → is_bound_in bs b.x ≡ true) → Each (Falls made) os → Each (Falls (lowered d xs made)) os
    all-falls [] i k = tt
    all-falls (a ∷ os) i k = (falls-lowered a (i a (Contains-here a os)) k.0, all-falls os (λ b j. i b (Contains-there a os b j)) k.1)

    pub lowered-scopes : Scopes p made (lowered d xs made) cs cs bs bs
    lowered-scopes = record {
      sound = record {
        falls = all-falls bs (λ b j. bound-there bs b b.x j refl) h.falls;
        placed = h.placed;
        covers = covers-kept p made (lowered d xs made) cs cs bs bs (length cs) lowered-change cs (places cs h.placed) (within (length cs)) h.covers;
      };
      carries = lowered-change.carries;
      many = refl;
      long = omega (arith, long-lowered);
      kinds = (λ z l e. (omega (arith, l, long-lowered), (lowered-lowers d xs made z).kind ∙ e));
      loose = (λ z l e f. f);
    }

  -- ---- one binding more

  module _ (x : ℕ) (t : Tm) (f : Fits made cs bs x t) where
    seen : (w : ℕ) → occurs w (tm_of (binding x t).term) ≡ true → occurs w t ≡ true
    seen w o = ap (λ (u : Tm). occurs w u) (sym (viewed t)) ∙ o

    pushed-better : Better made made cs cs bs (bs ++ binding x t ∷ []) (length cs)
    pushed-better = record {
      long = within (length made);
      entries = (λ z l g. lower-same (entry made z) (entry made z) refl);
      owners = (λ d z l o. o);
      stays = (λ z e i. still-bound bs (binding x t) z i);
    }

    good-under : (k : ℕ) → (entry made x).depth ≤ k → (w : ℕ) → Under made x w → ((entry made w).kind ≡ Universal → owns cs (entry made w).depth w ≡ true) → Good made cs (bs ++ binding x t ∷ []) k w
    good-under k l w u o = by (entry made w).kind refl
      where
        low : (entry made w).depth ≤ k
        low = let d = u.depth in omega (arith, d, l)

        by : (kind : Kind) → (entry made w).kind ≡ kind → Good made cs (bs ++ binding x t ∷ []) k w
        by Existential e = existential u.place e low
        by Universal e = universal u.place e low (o e)
        by Matched e = absurd (true≢false (sym (ap is_kind_matched e) ∙ u.kinded))

    pushed-term : (k : ℕ) → k ≤ length cs → Good made cs bs k x → (w : ℕ) → occurs w (tm_of (binding x t).term) ≡ true → Scoped made cs (bs ++ binding x t ∷ []) k w
    pushed-term k m g w o = by g
      where
        put : is_kind_matched (entry made x).kind ≡ false → (entry made x).depth ≤ k → Scoped made cs (bs ++ binding x t ∷ []) k w
        put n l =
            let q = f.terms n w (seen w o) in
            met-free (Good made cs (bs ++ binding x t ∷ []) k) (bs ++ binding x t ∷ []) w (good-under k l w q.0 q.3) (still-unbound bs (binding x t) w q.2 q.1)

        by : Good made cs bs k x → Scoped made cs (bs ++ binding x t ∷ []) k w
        by (existential l e d) = put (ap is_kind_matched e) d
        by (universal l e d i) = put (ap is_kind_matched e) d
        by (matched l e i) = absurd (true≢false (sym i ∙ f.free))

    pub pushed-carries : Carries made made cs cs bs (bs ++ binding x t ∷ []) (length cs)
    pushed-carries k z l m =
        met-pushed (Good made cs bs k) (Good made cs (bs ++ binding x t ∷ []) k) bs (binding x t)
        (λ w g. good-better made made cs cs bs (bs ++ binding x t ∷ []) (length cs) pushed-better k w l g) (λ g w o. pushed-term k l g w o) z m

    pushed-change : Change made made cs cs bs (bs ++ binding x t ∷ []) (length cs)
    pushed-change = record {
      better = pushed-better;
      carries = pushed-carries;
      from = (λ c i. from c (Contains-append_cases bs (binding x t ∷ []) c i));
      firm = (λ d u l o i. still-bound bs (binding x t) u i);
      still = (λ u e o i. still-unbound bs (binding x t) u (λ same. other u e o same) i);
    }
      where
        from : (c : Binding) → Contains bs c ⊎ Contains (binding x t ∷ []) c → Contains bs c ⊎ (is_bound_in bs c.x ≡ false)
        from c (inl i) = inl i
        from c (inr i) = inr (subst (λ (d : Binding). is_bound_in bs d.x ≡ false) (Contains-single (binding x t) c i) f.free)

        other : (u : ℕ) → (entry made u).kind ≡ Universal → owns cs (entry made u).depth u ≡ false → u ≡ x → ⊥
        other u e o same =
            true≢false (sym (f.owned (subst (λ (y : ℕ). (entry made y).kind ≡ Universal) same e)) ∙ subst (λ (y : ℕ). owns cs (entry made y).depth y ≡ false) same o)

    pub pushed-sound : Sound p made cs (bs ++ binding x t ∷ [])
    pushed-sound = record {
      falls = Each-append (Falls made) bs (binding x t ∷ []) h.falls ((f.place, (λ n w o. (f.terms n w (seen w o)).0)), tt);
      placed = h.placed;
      covers = covers-kept p made made cs cs bs (bs ++ binding x t ∷ []) (length cs) pushed-change cs (places cs h.placed) (within (length cs)) h.covers;
    }

    pub pushed-scopes : is_kind_matched (entry made x).kind ≡ false → Scopes p made made cs cs bs (bs ++ binding x t ∷ [])
    pushed-scopes n = record {
      sound = pushed-sound;
      carries = pushed-carries;
      many = refl;
      long = within (length made);
      kinds = (λ z l e. (l, e));
      loose = (λ z l e i. still-unbound bs (binding x t) z (λ same. true≢false (sym (ap is_kind_matched (sym (ap (λ (y : ℕ). (entry made y).kind) same) ∙ e)) ∙ n)) i);
    }

    -- a variable of a head is bound to what is in scope
    pub pushed-loose : (k : ℕ) → (entry made x).kind ≡ Matched → ((w : ℕ) → occurs w t ≡ true → Good made cs bs k w × (is_bound_in bs w ≡ false) × (w ≢ x)) → k ≤ length cs → Scoped made cs (bs ++ binding x t ∷ []) k x
    pushed-loose k e g l =
        met x (matched f.place e (bound-push bs (binding x t) x ∙ or_right (is_bound_in bs x) (nat_eq x x) (eq-eqb x x refl)))
        (λ c i same w o. by c same w o (Contains-append_cases bs (binding x t ∷ []) c i))
      where
        by : (c : Binding) → c.x ≡ x → (w : ℕ) → occurs w (tm_of c.term) ≡ true → Contains bs c ⊎ Contains (binding x t ∷ []) c → Scoped made cs (bs ++ binding x t ∷ []) k w
        by c same w o (inl i) = absurd (true≢false (sym (bound-there bs c x i same) ∙ f.free))
        by c same w o (inr i) =
            let q = g w (seen w (ap (λ (d : Binding). occurs w (tm_of d.term)) (Contains-single (binding x t) c i) ∙ o)) in
            met-free (Good made cs (bs ++ binding x t ∷ []) k) (bs ++ binding x t ∷ []) w
            (good-better made made cs cs bs (bs ++ binding x t ∷ []) (length cs) pushed-better k w l q.0) (still-unbound bs (binding x t) w q.2 q.1)
