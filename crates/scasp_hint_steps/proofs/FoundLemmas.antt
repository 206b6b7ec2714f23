-- What is found, without steps that nothing uses, does what is found.
use Rattle.std.proofs.Common.{◌≡◌, ◌≢◌, ◌⊎◌, inl, inr, ℕ, Bool, true, false, Option, None, Some, List, refl, sym, ap, subst, ◌∙◌}
use Rattle.std.specs.Prelude.{if◌then◌else◌, is_none}
use Rattle.scasp_syntax.specs.declared.con.Con.{Con}
use Rattle.scasp_syntax.specs.declared.hint.Hint.{Hint}
use Rattle.scasp_syntax.specs.declared.hint.Hint.TheVariants as hints
use Rattle.scasp_hint.specs.AskedRows.{RowsNormal}
use Rattle.scasp_hint.specs.Finding.{Found, found, hint, nothing, overflows_in, unknown_list}
use Rattle.scasp_hint.specs.Satisfying.{sat}
use Rattle.scasp_hint.specs.Showing.{HintInRange, fault_of}
use Rattle.scasp_hint.specs.declared.fault.HintFault.{HintFault}
use Rattle.scasp_hint.proofs.FoundLemmas.{found-hint, found-large, found-nothing, found-terms, found-unshown}
use Rattle.scasp_hint.proofs.HintRanges.{hint-range}
use Rattle.scasp_hint_steps.specs.Pruned.{found_pruned, pruned_hint, row_count, shorter, with_shorter}
use Rattle.scasp_hint_steps.proofs.PrunedLemmas.{lists-range, pruned-range}

none-is : (o : Option HintFault) → is_none o ≡ true → o ≡ None
none-is None e = refl
none-is (Some f) e = cc

shorter-shows : (cs : List Con) (h : Hint) → fault_of cs h ≡ None → fault_of cs (shorter cs h) ≡ None
shorter-shows cs h s = by (is_none (fault_of cs p)) refl
  where
    p : Hint
    p = pruned_hint (row_count cs) h

    by : (b : Bool) → is_none (fault_of cs p) ≡ b → fault_of cs (shorter cs h) ≡ None
    by true e = ap (λ b. fault_of cs (if b then p else h)) e ∙ none-is (fault_of cs p) e
    by false e = ap (λ b. fault_of cs (if b then p else h)) e ∙ s

pruned-hint-range : (n : ℕ) (h : Hint) → HintInRange h → HintInRange (pruned_hint n h)
pruned-hint-range n hints.Terms r = tt
pruned-hint-range n (hints.Rows steps) r = pruned-range _ steps r
pruned-hint-range n (hints.Same i lists) r = lists-range _ lists r

shorter-range : (cs : List Con) (h : Hint) → HintInRange h → HintInRange (shorter cs h)
shorter-range cs h r = by (is_none (fault_of cs (pruned_hint (row_count cs) h))) refl
  where
    p : Hint
    p = pruned_hint (row_count cs) h

    by : (b : Bool) → is_none (fault_of cs p) ≡ b → HintInRange (shorter cs h)
    by true e = subst (λ (b : Bool). HintInRange (if b then p else h)) (sym e) (pruned-hint-range (row_count cs) h r)
    by false e = subst (λ (b : Bool). HintInRange (if b then p else h)) (sym e) r

shorter-terms : (cs : List Con) → shorter cs hints.Terms ≡ hints.Terms
shorter-terms cs = by (is_none (fault_of cs hints.Terms)) refl
  where
    by : (b : Bool) → is_none (fault_of cs hints.Terms) ≡ b → shorter cs hints.Terms ≡ hints.Terms
    by true e = ap (λ b. if b then hints.Terms else hints.Terms) e
    by false e = ap (λ b. if b then hints.Terms else hints.Terms) e

-- ---- what is found

same-hint : (h k : Hint) → hint h ≡ hint k → h ≡ k
same-hint h k e = cc

-- which hint is found before it is shortened
before : (cs : List Con) (h : Hint) → found_pruned cs ≡ hint h → (k : Hint) × (found cs ≡ hint k) × (shorter cs k ≡ h)
before cs h e = by (found cs) refl
  where
    by : (f : Found) → found cs ≡ f → (k : Hint) × (found cs ≡ hint k) × (shorter cs k ≡ h)
    by nothing p = let q : nothing ≡ hint h = sym (ap (with_shorter cs) p) ∙ e in cc
    by unknown_list p = let q : unknown_list ≡ hint h = sym (ap (with_shorter cs) p) ∙ e in cc
    by (hint k) p = (k, p, same-hint (shorter cs k) h (sym (ap (with_shorter cs) p) ∙ e))

pub pruned-nothing : (cs : List Con) → found_pruned cs ≡ nothing → found cs ≡ nothing
pruned-nothing cs e = by (found cs) refl
  where
    by : (f : Found) → found cs ≡ f → found cs ≡ nothing
    by nothing p = p
    by unknown_list p = let q : unknown_list ≡ nothing = sym (ap (with_shorter cs) p) ∙ e in cc
    by (hint k) p = let q : hint (shorter cs k) ≡ nothing = sym (ap (with_shorter cs) p) ∙ e in cc

pruned-unknown : (cs : List Con) → found_pruned cs ≡ unknown_list → found cs ≡ unknown_list
pruned-unknown cs e = by (found cs) refl
  where
    by : (f : Found) → found cs ≡ f → found cs ≡ unknown_list
    by nothing p = let q : nothing ≡ unknown_list = sym (ap (with_shorter cs) p) ∙ e in cc
    by unknown_list p = p
    by (hint k) p = let q : hint (shorter cs k) ≡ unknown_list = sym (ap (with_shorter cs) p) ∙ e in cc

-- ---- the laws of what is found

pub pruned-shows : (cs : List Con) (h : Hint) → RowsNormal cs → found_pruned cs ≡ hint h → fault_of cs h ≡ None
pruned-shows cs h n e =
    let b = before cs h e in
    subst (λ (x : Hint). fault_of cs x ≡ None) b.2 (shorter-shows cs b.0 (found-hint cs b.0 n b.1))

pub pruned-in_range : (cs : List Con) (h : Hint) → RowsNormal cs → found_pruned cs ≡ hint h → HintInRange h
pruned-in_range cs h n e =
    let b = before cs h e in
    subst (λ (x : Hint). HintInRange x) b.2 (shorter-range cs b.0 (hint-range cs b.0 n b.1))

pub pruned-unshown : (cs : List Con) (h : Hint) → RowsNormal cs → found_pruned cs ≡ nothing → fault_of cs h ≢ None
pruned-unshown cs h n e = found-unshown cs h n (pruned-nothing cs e)

pub pruned-passes : (cs : List Con) → RowsNormal cs → found_pruned cs ≡ nothing → sat cs ≡ true
pruned-passes cs n e = found-nothing cs n (pruned-nothing cs e)

pub pruned-large : (cs : List Con) → RowsNormal cs → found_pruned cs ≡ unknown_list → overflows_in cs ≡ true
pruned-large cs n e = found-large cs n (pruned-unknown cs e)

pub pruned-terms : (cs : List Con) → fault_of cs hints.Terms ≡ None → found_pruned cs ≡ hint hints.Terms
pruned-terms cs e = ap (with_shorter cs) (found-terms cs e) ∙ ap hint (shorter-terms cs)

by-terms : (b : Bool) (h k : Hint) → (if b then h else k) ≡ hints.Terms → (h ≡ hints.Terms) ⊎ (k ≡ hints.Terms)
by-terms true h k e = inl e
by-terms false h k e = inr e

only-terms : (cs : List Con) (h : Hint) → shorter cs h ≡ hints.Terms → h ≡ hints.Terms
only-terms cs hints.Terms e = refl
only-terms cs (hints.Rows steps) e =
    elim (by-terms (is_none (fault_of cs (pruned_hint (row_count cs) (hints.Rows steps)))) (pruned_hint (row_count cs) (hints.Rows steps)) (hints.Rows steps) e) [
      | inl q ↦ cc
      | inr q ↦ cc
    ]
only-terms cs (hints.Same i lists) e =
    elim (by-terms (is_none (fault_of cs (pruned_hint (row_count cs) (hints.Same i lists)))) (pruned_hint (row_count cs) (hints.Same i lists)) (hints.Same i lists) e) [
      | inl q ↦ cc
      | inr q ↦ cc
    ]

pub pruned-only_terms : (cs : List Con) → found_pruned cs ≡ hint hints.Terms → found cs ≡ hint hints.Terms
pruned-only_terms cs e = let b = before cs hints.Terms e in b.1 ∙ ap hint (only-terms cs b.0 b.2)
