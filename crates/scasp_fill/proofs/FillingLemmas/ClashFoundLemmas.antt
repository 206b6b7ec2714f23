-- Clash lines pair by pair, by what is found for the lists of each pair.
use Rattle.std.proofs.Common.{◌≡◌, ◌≢◌, ◌∙◌, ℕ, suc, Bool, true, false, ◌&&◌, is_some, if◌then◌else◌, Option, None, Some, Result, Ok, Err, List, [], ◌∷◌, ◌++◌, refl, sym, append_assoc}
use Rattle.std.proofs.Math.Bool.{and-true, and_assoc}
use Rattle.std.proofs.lemmas.List.{append-nil}
use Rattle.std.specs.List.{flat_map, list_all}
use Rattle.scasp_checker_rules.specs.PairLists.{pair_list}
use Rattle.scasp_checker_rules.specs.Told.{Told}
use Rattle.scasp_hint.specs.AskedRows.{asked}
use Rattle.scasp_hint.specs.Finding.{Forced, possible, unknown, forced, Found, nothing, unknown_list, hint, found_asked, found_by, found_rows, first_forced, sides_asked}
use Rattle.scasp_hint_steps.specs.Pruned.{found_pruned}
use Rattle.scasp_hint.specs.Showing.{fault_of, terms_fault}
use Rattle.scasp_hint.specs.Sides.{differs}
use Rattle.scasp_hint.specs.declared.asked.Asked.{Asked}
use Rattle.scasp_hint.specs.declared.asked.Asked.TheVariants.{ByTerms, Overflows, Asks}
use Rattle.scasp_hint.specs.declared.fault.HintFault.{HintFault}
use Rattle.scasp_hint.specs.declared.sides.Sides.{Sides}
use Rattle.scasp_hint.specs.declared.sides.Sides.TheVariants.{Mixed, Large, Listed}
use Rattle.scasp_hint_steps.proofs.FoundLemmas.{pruned-only_terms, pruned-terms}
use Rattle.scasp_num.specs.Linear.{Linear}
use Rattle.scasp_rows.specs.Elimination.{elimination}
use Rattle.scasp_rows.specs.declared.state.Halt.{Halt}
use Rattle.scasp_rows.specs.declared.state.Halt.TheVariants as halt
use Rattle.scasp_rows.specs.declared.state.State.{State}
use Rattle.scasp_syntax.specs.declared.con.Con.{Con}
use Rattle.scasp_syntax.specs.declared.hint.Hint.{Hint}
use Rattle.scasp_syntax.specs.declared.hint.Hint.TheVariants as hints
use Rattle.scasp_fill.specs.Filling.Filled.{clash_by, clash_for, clash_or, hint_of, is_either_known, is_pair_known}
use Rattle.scasp_fill.specs.Filling.Inside.Clashing.{with_pair, with_pairs, with_shown, with_turned}
use Rattle.scasp_fill.specs.declared.filling.clashes.Clashing.{Clashing}

-- ---- `Terms` is found exactly where the terms show the list

forced-not_terms : (all : List Linear) (n : ℕ) (ss : List Sides) → first_forced all n ss ≢ hint hints.Terms
forced-not_terms all n [] e = cc
forced-not_terms all n (Mixed ∷ ss) e = forced-not_terms all (suc n) ss e
forced-not_terms all n (Large ∷ ss) e = cc
forced-not_terms all n (Listed bs ∷ ss) e = by (sides_asked all bs) e (forced-not_terms all (suc n) ss)
  where
    by : (o : Forced) → found_by n o (first_forced all (suc n) ss) ≡ hint hints.Terms → first_forced all (suc n) ss ≢ hint hints.Terms → ⊥
    by possible k rest = rest k
    by unknown k rest = cc
    by (forced lists) k rest = cc

rows-not_terms : (cs : List Con) (all : List Linear) (o : Result State Halt) → found_rows cs all o ≢ hint hints.Terms
rows-not_terms cs all (Ok s) e = forced-not_terms all 1 (differs cs) e
rows-not_terms cs all (Err (halt.Unsat steps)) e = cc
rows-not_terms cs all (Err halt.Overflow) e = cc
rows-not_terms cs all (Err halt.Memory) e = cc

terms-found : (cs : List Con) → found_pruned cs ≡ hint hints.Terms → fault_of cs hints.Terms ≡ None
terms-found cs e = by (asked cs) (pruned-only_terms cs e)
  where
    by : (a : Asked) → found_asked cs a ≡ hint hints.Terms → terms_fault a ≡ None
    by ByTerms k = refl
    by Overflows k = cc
    by (Asks all) k = absurd (rows-not_terms cs all (elimination all) k)

asked-some : (cs : List Con) (o : Found) → found_pruned cs ≡ o → o ≢ hint hints.Terms → is_some (fault_of cs hints.Terms) ≡ true
asked-some cs o e n = by (fault_of cs hints.Terms) refl
  where
    by : (f : Option HintFault) → fault_of cs hints.Terms ≡ f → is_some f ≡ true
    by None k = absurd (n (sym e ∙ pruned-terms cs k))
    by (Some why) k = refl

-- ---- one pair

none-more : (m : Clashing) → record { clashes = m.clashes ++ []; known = m.known && true } ≡ m
none-more m = λ i. record { clashes = append-nil m.clashes i; known = and-true m.known i }

module _ (free : ℕ) (given : List Con) (a b : Told) (m : Clashing) where
  abbrev pub first : List Con
  first = pair_list free given a b

  abbrev pub other : Found
  other = found_pruned (pair_list free given b a)

  -- by whether a clash line is needed, and what is found for the first list
  abbrev pub paired : Bool → Found → Clashing
  paired needed o = record {
    clashes = m.clashes ++ (if needed then clash_or a.at b.at (hint_of o) (clash_by b.at a.at (hint_of other)) else []);
    known = m.known && is_either_known o other;
  }

  pub by-terms : fault_of first hints.Terms ≡ None → m ≡ with_pair free given (a, b) m
  by-terms e = sym ((λ i. paired (is_some (e i)) (pruned-terms first e i)) ∙ none-more m)

  pub by-hint : (h : Hint) → hint h ≡ found_pruned first → with_shown a.at b.at h m ≡ with_pair free given (a, b) m
  by-hint hints.Terms e = by-terms (terms-found first (sym e))
  by-hint (hints.Rows steps) e =
      let h = hints.Rows steps in
      (λ i. record { clashes = m.clashes ++ record { first = a.at; second = b.at; hint = h } ∷ []; known = sym (and-true m.known) i })
      ∙ (λ i. paired (sym (asked-some first (hint h) (sym e) (λ k. cc)) i) (e i))
  by-hint (hints.Same n lists) e =
      let h = hints.Same n lists in
      (λ i. record { clashes = m.clashes ++ record { first = a.at; second = b.at; hint = h } ∷ []; known = sym (and-true m.known) i })
      ∙ (λ i. paired (sym (asked-some first (hint h) (sym e) (λ k. cc)) i) (e i))

  pub by-none : nothing ≡ found_pruned first → with_turned a.at b.at true other m ≡ with_pair free given (a, b) m
  by-none e = λ i. paired (sym (asked-some first nothing (sym e) (λ k. cc)) i) (e i)

  pub by-unknown : unknown_list ≡ found_pruned first → with_turned a.at b.at false other m ≡ with_pair free given (a, b) m
  by-unknown e = λ i. paired (sym (asked-some first unknown_list (sym e) (λ k. cc)) i) (e i)

-- ---- all pairs

module _ (free : ℕ) (given : List Con) where
  pub pairs-append : (abs more : List (Told × Told)) (m : Clashing) → with_pairs free given (abs ++ more) m ≡ with_pairs free given more (with_pairs free given abs m)
  pairs-append [] more m = refl
  pairs-append (ab ∷ abs) more m = pairs-append abs more (with_pair free given ab m)

  abbrev pub all_of : List (Told × Told) → Clashing → Clashing
  all_of abs m = record { clashes = m.clashes ++ flat_map (clash_for free given) abs; known = m.known && list_all (is_pair_known free given) abs }

  pub pairs-all : (abs : List (Told × Told)) (m : Clashing) → with_pairs free given abs m ≡ all_of abs m
  pairs-all [] m = sym (none-more m)
  pairs-all (ab ∷ abs) m =
      pairs-all abs (with_pair free given ab m)
      ∙ (λ i. record {
        clashes = append_assoc m.clashes (clash_for free given ab) (flat_map (clash_for free given) abs) i;
        known = and_assoc m.known (is_pair_known free given ab) (list_all (is_pair_known free given) abs) i;
      })
