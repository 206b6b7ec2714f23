-- A row that is assumed: without universal variables behind the number tests of its variables, and with them, where the tests were shown before.
use Rattle.std.specs.Prelude.{◌≡◌, ◌⊎◌, ℕ, nat_eq, Bool, true, false, is_none, if◌then◌else◌, Option, Some, None, List, [], ◌∷◌, ◌++◌, length, map, filter}
use Rattle.std.specs.List.{Contains, flat_map}
use Rattle.std.proofs.Common.{refl, ap, sym, subst, ◌∙◌, inl, inr}
use Rattle.std.proofs.lemmas.Bool.{true≢false, or_cases, or_left, or_right, eqb-true, eq-eqb}
use Rattle.std.proofs.lemmas.List.{append-nil}
use Rattle.std.proofs.lemmas.List.Elements.{Contains-append_cases, Contains-append_left, Contains-append_right, Contains-push}
use Rattle.scasp_list.specs.Each.{Each}
use Rattle.scasp_list.proofs.EachLemmas.{Each-map}
use Rattle.scasp_list.proofs.MemberLemmas.{Contains-cases, Contains-none, list_all-member}
use Rattle.scasp_num.specs.Linear.{Linear, negation}
use Rattle.scasp_num.specs.declared.linear.Coeff.{Coeff}
use Rattle.scasp_search_rules.specs.declared.states.covers.Cover.{Cover}
use Rattle.scasp_search_rules.specs.declared.states.state.Made.{Made}
use Rattle.scasp_search_rules.specs.declared.states.state.State.{State}
use Rattle.scasp_search_rules.specs.Successors.Assumptions.{against, along, as_read, assume, assume_all, judges}
use Rattle.scasp_search_rules.specs.Successors.Reading.{among, con_vars, row_or, row_under}
use Rattle.scasp_search_rules.specs.Successors.Regions.{asked_with, context, equation, regions, with_given}
use Rattle.scasp_search_rules.specs.Successors.Replacing.{is_unreplaced}
use Rattle.scasp_search_rules.specs.Successors.Splits.{greatest, owner, parted, split, split_at}
use Rattle.scasp_search_rules.specs.Successors.Variables.{depth_of, is_empty, is_kind_universal, is_universal, meaning, next_variable, universals_of}
use Rattle.scasp_syntax.specs.Constraints.{Sat, holds, is_number}
use Rattle.scasp_syntax.specs.Tm.{Tm, var, num, app}
use Rattle.scasp_syntax.specs.Values.{under}
use Rattle.scasp_syntax.specs.declared.con.Con.{Con}
use Rattle.scasp_syntax.specs.declared.con.Con.TheVariants as con
use Rattle.scasp_syntax.specs.declared.term.Term.TheVariants.{Var}
use Rattle.scasp_unify.specs.ResolvedRows.{resolved_row}
use Rattle.scasp_unify.specs.SimpleForm.{term_with}
use Rattle.scasp_unify.specs.Solving.{sub_of}
use Rattle.scasp_unify.specs.Sorted.{Sorted}
use Rattle.scasp_unify.specs.Unification.{term_vars}
use Rattle.scasp_unify.specs.declared.bindings.Binding.{Binding}
use Rattle.scasp_unify.proofs.Members.{Each-from, Each-member}
use Rattle.scasp_unify.proofs.SimpleLemmas.{viewed}
use Rattle.scasp_unify.proofs.SortedLemmas.{entailed-counts, sat-some}
use Rattle.scasp_hint.specs.Satisfying.{sat}
use Rattle.scasp_hint.proofs.SatisfyingLemmas.{sat-sorted}
use Rattle.scasp_law_first_event.proofs.Bindings.{Solved, unbound-self}
use Rattle.scasp_law_no_circle.proofs.Places.{entry, owns, Placed}
use Rattle.scasp_law_no_circle.proofs.Scope.{Scoped}
use Rattle.scasp_law_no_circle.proofs.Sides.{one-owner}
use Rattle.scasp_law_no_circle.proofs.Splitting.{among-left, among-right}
use Rattle.scasp_law_sorted.proofs.Evenness.{Asks, asks-goes, asks-followed, asks-weaker}
use Rattle.scasp_law_sorted.proofs.Judging.{CoreAt, read-sort, Goes, goes-itself, asks-assumed, asked-both, asked-plain, judged, IsOwned, Sort, TestSorts, given-goes, split-goes}
use Rattle.scasp_law_sorted.proofs.Lists.{sorted-row}
use Rattle.scasp_law_sorted.proofs.Numbers.{IsNumberBy, reads, number-read, number-said, number-entailed}
use Rattle.scasp_law_sorted.proofs.Expecting.{Grows, number-more, grows-more}
use Rattle.scasp_law_sorted.proofs.Reading.{reads-solved, counts-tested}
use Rattle.scasp_law_sorted.proofs.Rows.{NoCompound, stood-for}
use Rattle.scasp_law_sorted.proofs.Standing.{stands, stands-context, stands-here, Lone, given-list, core-given}
use Rattle.scasp_law_sorted.proofs.Tested.{Tested, tested-more, RowIn}

-- ---- a row that is read

-- a list that has a valuation says of none of these numbers that it stands for a compound term
no-compound : (bs : List Binding) (gs : List Con) → Sat (map equation bs ++ gs) → (x : ℕ) → IsNumberBy bs gs x → NoCompound (sub_of bs x)
no-compound bs gs m x h = by (sub_of bs x) refl
  where
    value : under m.by.of (sub_of bs x) ≡ m.by.of x
    value = reads bs gs m.by.of m.meets x

    by : (t : Tm) → sub_of bs x ≡ t → NoCompound t
    by (var y) e = tt
    by (num q) e = tt
    by (app f ts) e = absurd (true≢false (sym (h m.by m.meets) ∙ ap is_number (sym (sym (ap (under m.by.of) e) ∙ value))))

-- the row that stands for this one
pub unreplaced-not : (v : ℕ → Tm) (r : Linear) → is_unreplaced v (con.Row r) ≡ false → (q : Linear) × (resolved_row v r ≡ Some q) × (row_under v r ≡ q)
unreplaced-not v r e = by (resolved_row v r) refl e
  where
    by : (o : Option Linear) → resolved_row v r ≡ o → is_none o ≡ false → (q : Linear) × (resolved_row v r ≡ Some q) × (row_under v r ≡ q)
    by None f g = absurd (true≢false g)
    by (Some q) f g = (q, f, ap (row_or r) f)

-- ---- universal variables of a constraint

empty-none : (f : ℕ → Bool) (xs : List ℕ) → is_empty (filter f xs) ≡ true → (z : ℕ) → among z xs ≡ true → f z ≡ false
empty-none f [] e z i = absurd (true≢false (sym i))
empty-none f (x ∷ xs) e z i = by (f x) refl e (or_cases (nat_eq z x) (among z xs) i) (λ g j. empty-none f xs g z j)
  where
    by : (b : Bool) → f x ≡ b → is_empty (if b then x ∷ filter f xs else filter f xs) ≡ true → (nat_eq z x ≡ true) ⊎ (among z xs ≡ true) → (is_empty (filter f xs) ≡ true → among z xs ≡ true → f z ≡ false) → f z ≡ false
    by true g e j rest = absurd (true≢false (sym e))
    by false g e (inl same) rest = ap f (eqb-true z x same) ∙ g
    by false g e (inr j) rest = rest e j

none-empty : (f : ℕ → Bool) (xs : List ℕ) → ((z : ℕ) → among z xs ≡ true → f z ≡ false) → is_empty (filter f xs) ≡ true
none-empty f [] h = refl
none-empty f (x ∷ xs) h = by (f x) (h x (or_left (nat_eq x x) (among x xs) (eq-eqb x x refl))) (none-empty f xs (λ z i. h z (or_right (nat_eq z x) (among z xs) i)))
  where
    by : (b : Bool) → b ≡ false → is_empty (filter f xs) ≡ true → is_empty (if b then x ∷ filter f xs else filter f xs) ≡ true
    by true e rest = absurd (true≢false e)
    by false e rest = rest

-- what one variable of the row reads to
pub in-vars : (v : ℕ → Tm) (ks : List Coeff) (k : Coeff) → Contains ks k → (z : ℕ) → among z (term_vars (v k.x)) ≡ true → among z (flat_map (λ k. term_vars (v k.x)) ks) ≡ true
in-vars v [] k i z j = absurd (Contains-none k i)
in-vars v (c ∷ ks) k i z j = by (Contains-cases c ks k i) (λ m. in-vars v ks k m z j)
  where
    by : (c ≡ k) ⊎ Contains ks k → (Contains ks k → among z (flat_map (λ k. term_vars (v k.x)) ks) ≡ true) → among z (term_vars (v c.x) ++ flat_map (λ k. term_vars (v k.x)) ks) ≡ true
    by (inl same) rest = among-left z (term_vars (v c.x)) (flat_map (λ k. term_vars (v k.x)) ks) (subst (λ (d : Coeff). among z (term_vars (v d.x)) ≡ true) (sym same) j)
    by (inr m) rest = among-right z (term_vars (v c.x)) (flat_map (λ k. term_vars (v k.x)) ks) (rest m)

-- ---- without universal variables

-- with more given constraints, and nothing else
pub record Adds (s r : State) : Type 0 where
  pub core : CoreAt r
  pub made : r.made ≡ s.made
  pub covers : r.covers ≡ s.covers
  pub bound : r.bound ≡ s.bound
  pub work : r.work ≡ s.work
  pub given : (c : Con) → Contains s.given c → Contains r.given c

pub adds-itself : (s : State) → CoreAt s → Adds s s
adds-itself s k = record { core = k; made = refl; covers = refl; bound = refl; work = refl; given = λ c i. i }

adds-then : (s r t : State) → Adds s r → Adds r t → Adds s t
adds-then s r t a b = record {
  core = b.core;
  made = b.made ∙ a.made;
  covers = b.covers ∙ a.covers;
  bound = b.bound ∙ a.bound;
  work = b.work ∙ a.work;
  given = λ c i. b.given c (a.given c i);
}

pub adds-goes : (s r : State) → Placed s.covers → Adds s r → Goes s r
adds-goes s r h a = record {
  core = a.core;
  grows = subst (λ (bs : List Binding). Grows s.bound s.given s.covers bs r.given r.covers) (sym a.bound)
      (subst (λ (cs : List Cover). Grows s.bound s.given s.covers s.bound r.given cs) (sym a.covers) (grows-more s.bound s.bound s.given r.given s.covers (λ b i. i) a.given));
  work = a.work;
  placed = subst Placed (sym a.covers) h;
}

quiet-adds : (s r : State) → Adds s r → (c : Con) → is_empty (universals_of s c) ≡ true → is_empty (universals_of r c) ≡ true
quiet-adds s r a c e =
    subst (λ (bs : List Binding). is_empty (filter (is_universal r) (con_vars (sub_of bs) c)) ≡ true) (sym a.bound)
    (subst (λ (m : List Made). is_empty (filter (λ x. is_kind_universal (entry m x).kind) (con_vars (sub_of s.bound) c)) ≡ true) (sym a.made) e)

abbrev pub InScope : State → ℕ → Type 0
InScope s x = Scoped s.made s.covers s.bound (length s.covers) x

scope-adds : (s r : State) → Adds s r → (x : ℕ) → InScope s x → InScope r x
scope-adds s r a x m =
    subst (λ (bs : List Binding). Scoped r.made r.covers bs (length r.covers) x) (sym a.bound)
    (subst (λ (cs : List Cover). Scoped r.made cs s.bound (length cs) x) (sym a.covers) (subst (λ (o : List Made). Scoped o s.covers s.bound (length s.covers) x) (sym a.made) m))

placed-adds : (s r : State) → Adds s r → Placed s.covers → Placed r.covers
placed-adds s r a h = subst Placed (sym a.covers) h

solved-adds : (s r : State) → Adds s r → Solved (length s.made) s.bound → Solved (length r.made) r.bound
solved-adds s r a h = subst (Solved (length r.made)) (sym a.bound) (subst (λ (m : List Made). Solved (length m) s.bound) (sym a.made) h)

module _ (s : State) (placed : Placed s.covers) (solved : Solved (length s.made) s.bound) (k : CoreAt s) where
  pub by-given : (c : Con) → is_empty (universals_of s c) ≡ true → judges s c ≡ s.given
  by-given c e = ap (λ (b : Bool). if b then s.given else context s) e

  pub by-context : (c : Con) → is_empty (universals_of s c) ≡ false → judges s c ≡ context s
  by-context c e = ap (λ (b : Bool). if b then s.given else context s) e

  test-sorts : (x : ℕ) → InScope s x → TestSorts s placed k (con.Num (Var x))
  test-sorts x m z e = read-sort s solved (length s.covers) x z m e

  number-judged : (x : ℕ) → sat (against s (con.Num (Var x))) ≡ false → IsNumberBy s.bound (judges s (con.Num (Var x))) x
  number-judged x e = number-entailed s.bound (judges s (con.Num (Var x))) x (judged s placed k (con.Num (Var x)) (con.NotNum (Var x)) tt) e

  number-adds : (x : ℕ) → InScope s x → is_empty (universals_of s (con.Num (Var x))) ≡ true → Asks (λ r. Adds s r × IsNumberBy r.bound r.given x) (assume sat s (con.Num (Var x)))
  number-adds x m quiet =
      asks-assumed s c (λ r. Adds s r × IsNumberBy r.bound r.given x) (asked-plain s placed k c tt)
      (λ e. (adds-itself s k, number-read s.bound s.given x (ap is_number (sym (viewed (sub_of s.bound x))) ∙ e)))
      (λ e. (adds-itself s k, subst (λ (gs : List Con). IsNumberBy s.bound gs x) (by-given c quiet) (number-judged x e)))
      (λ e f q. (
        record { core = (given-goes s placed k c tt (test-sorts x m) e q).core; made = refl; covers = refl; bound = refl; work = refl; given = λ d i. Contains-append_left s.given (as_read s c ∷ []) d i },
        number-said s.bound (s.given ++ as_read s c ∷ []) x (Contains-push s.given (as_read s c)),
      ))
      (λ e f q. absurd (true≢false (sym quiet ∙ q)))
    where
      c : Con
      c = con.Num (Var x)

  -- each variable of the row as it reads
  module _ (gs : List Con) (m : Sat (map equation s.bound ++ gs)) (I : ℕ → Type 0) (r : Linear) (numbers : Each (λ k. IsNumberBy s.bound gs k.x) r.coeffs) (each : (k : Coeff) → Contains r.coeffs k → (y : ℕ) → sub_of s.bound k.x ≡ var y → I y) where
    stand : Each (λ k. NoCompound (sub_of s.bound k.x) × ((y : ℕ) → sub_of s.bound k.x ≡ var y → I y)) r.coeffs
    stand =
        Each-from (λ (k : Coeff). NoCompound (sub_of s.bound k.x) × ((y : ℕ) → sub_of s.bound k.x ≡ var y → I y)) r.coeffs
        (λ j i. (no-compound s.bound gs m j.x (Each-member (λ (k : Coeff). IsNumberBy s.bound gs k.x) r.coeffs j numbers i), each j i))

    pub read-holds : (q : Linear) → resolved_row (sub_of s.bound) r ≡ Some q → Each (λ k. I k.x) q.coeffs
    read-holds q e = stood-for (sub_of s.bound) I r q stand e

  pub both-rows : (gs : List Con) → Sorted (map equation s.bound ++ gs) → (r : Linear) → Each (λ k. IsNumberBy s.bound gs k.x) r.coeffs → judges s (con.Row r) ≡ gs → Sorted (against s (con.Row r)) × Sorted (along s (con.Row r))
  both-rows gs h r n e =
      let b = sorted-row s.bound gs r h n in (
        subst (λ (l : List Con). Sorted (asked_with s (l ++ con.Row (negation r) ∷ []))) (sym e) b.1,
        subst (λ (l : List Con). Sorted (asked_with s (l ++ con.Row r ∷ []))) (sym e) b.0,
      )

  pub met-judges : (gs : List Con) (r : Linear) → judges s (con.Row r) ≡ gs → Sorted (along s (con.Row r)) → sat (along s (con.Row r)) ≡ true → Sat (map equation s.bound ++ gs)
  met-judges gs r e h f =
      sat-some (map equation s.bound ++ gs) (along s (con.Row r))
      (Each-from (Contains (along s (con.Row r))) (map equation s.bound ++ gs)
      (λ d i. subst (λ (l : List Con). Contains (asked_with s (l ++ con.Row r ∷ [])) d) (sym e) (one d (Contains-append_cases (map equation s.bound) gs d i)))) ((sat-sorted (along s (con.Row r)) h).0 f)
    where
      one : (d : Con) → Contains (map equation s.bound) d ⊎ Contains gs d → Contains (map equation s.bound ++ (gs ++ con.Row r ∷ [])) d
      one d (inl i) = Contains-append_left (map equation s.bound) (gs ++ con.Row r ∷ []) d i
      one d (inr i) = Contains-append_right (map equation s.bound) (gs ++ con.Row r ∷ []) d (Contains-append_left gs (con.Row r ∷ []) d i)

  row-adds : (r : Linear) → is_empty (universals_of s (con.Row r)) ≡ true → Each (λ k. IsNumberBy s.bound s.given k.x) r.coeffs → Asks (λ t. is_unreplaced (meaning s) (con.Row r) ≡ false → Adds s t) (assume sat s (con.Row r))
  row-adds r quiet numbers =
      asks-assumed s (con.Row r) (λ t. is_unreplaced (meaning s) (con.Row r) ≡ false → Adds s t) (asked-both s (con.Row r) both.0 both.1) (λ f e. adds-itself s k) (λ f e. adds-itself s k) (λ f g q e. added g e) (λ f g q e. absurd (true≢false (sym quiet ∙ q)))
    where
      list : Sorted (map equation s.bound ++ s.given)
      list = given-list s.made s.covers s.bound s.given k

      both : Sorted (against s (con.Row r)) × Sorted (along s (con.Row r))
      both = both-rows s.given list r numbers (by-given (con.Row r) quiet)

      added : sat (along s (con.Row r)) ≡ true → is_unreplaced (meaning s) (con.Row r) ≡ false → Adds s (with_given s (con.Row (row_under (meaning s) r)))
      added g e = record {
        core = core-given s.made s.covers s.bound s.given k row tt
            (subst (λ (l : Linear). RowIn s.bound (s.given ++ con.Row l ∷ []) (con.Row l)) (sym o.2) (Each-map (λ (j : Coeff). Tested s.bound s.given j.x) (λ j. Tested s.bound (s.given ++ con.Row o.0 ∷ []) j.x)
            (λ j t. tested-more s.bound s.bound s.given (s.given ++ con.Row o.0 ∷ []) (λ b i. i) (λ d i. Contains-append_left s.given (con.Row o.0 ∷ []) d i) j.x t) o.0.coeffs tested))
            (λ z f. absurd (cc f));
        made = refl;
        covers = refl;
        bound = refl;
        work = refl;
        given = λ d i. Contains-append_left s.given (row ∷ []) d i;
      }
        where
          row : Con
          row = con.Row (row_under (meaning s) r)

          o : (q : Linear) × (resolved_row (meaning s) r ≡ Some q) × (row_under (meaning s) r ≡ q)
          o = unreplaced-not (meaning s) r e

          m : Sat (map equation s.bound ++ s.given)
          m = met-judges s.given r (by-given (con.Row r) quiet) both.1 g

          one : (j : Coeff) → Contains r.coeffs j → (y : ℕ) → sub_of s.bound j.x ≡ var y → Tested s.bound s.given y
          one j i y f =
              counts-tested s.bound s.given (reads-solved (length s.made) s.bound solved k.once) k.plain j.x y
              (entailed-counts (map equation s.bound ++ s.given) j.x list m (Each-member (λ (c : Coeff). IsNumberBy s.bound s.given c.x) r.coeffs j numbers i)) f

          tested : Each (λ j. Tested s.bound s.given j.x) o.0.coeffs
          tested = read-holds s.given m (Tested s.bound s.given) r numbers one o.0 o.1

quiet-number : (s : State) (r : Linear) → is_empty (universals_of s (con.Row r)) ≡ true → (j : Coeff) → Contains r.coeffs j → is_empty (universals_of s (con.Num (Var j.x))) ≡ true
quiet-number s r quiet j i =
    none-empty (is_universal s) (term_vars (sub_of s.bound j.x))
    (λ z m. empty-none (is_universal s) (con_vars (meaning s) (con.Row r)) quiet z (in-vars (sub_of s.bound) r.coeffs j i z m))

-- if the row can be replaced
abbrev pub AddsIf : State → Linear → State → Type 0
AddsIf s r t = is_unreplaced (meaning s) (con.Row r) ≡ false → Adds s t

-- these number tests are still to be assumed
pub row-items : (s : State) → Placed s.covers → Solved (length s.made) s.bound → (r : Linear) → is_empty (universals_of s (con.Row r)) ≡ true → Each (λ k. InScope s k.x) r.coeffs
    → (ks : List Coeff) → Each (Contains r.coeffs) ks → (t : State) → Adds s t → ((j : Coeff) → Contains r.coeffs j → Contains ks j ⊎ IsNumberBy t.bound t.given j.x)
    → Asks (AddsIf s r) (assume_all sat (map (λ k. con.Num (Var k.x)) ks ++ con.Row r ∷ []) t)
row-items s placed solved r quiet scoped [] w t a h =
    asks-followed (AddsIf s r) (AddsIf s r) (assume sat t (con.Row r)) (assume_all sat [])
    (asks-weaker (AddsIf t r) (AddsIf s r) (assume sat t (con.Row r)) (λ u b e. adds-then s t u a (b (subst (λ (bs : List Binding). is_unreplaced (sub_of bs) (con.Row r) ≡ false) (sym a.bound) e)))
    (row-adds t (placed-adds s t a placed) (solved-adds s t a solved) a.core r (quiet-adds s t a (con.Row r) quiet)
    (Each-from (λ (j : Coeff). IsNumberBy t.bound t.given j.x) r.coeffs (λ j i. by j (h j i)))))
    (λ u b. asks-goes (AddsIf s r) u b)
  where
    by : (j : Coeff) → Contains [] j ⊎ IsNumberBy t.bound t.given j.x → IsNumberBy t.bound t.given j.x
    by j (inl i) = absurd (Contains-none j i)
    by j (inr n) = n
row-items s placed solved r quiet scoped (c ∷ ks) w t a h =
    asks-followed (λ u. Adds t u × IsNumberBy u.bound u.given c.x) (AddsIf s r) (assume sat t (con.Num (Var c.x))) (assume_all sat (map (λ k. con.Num (Var k.x)) ks ++ con.Row r ∷ []))
    (number-adds t (placed-adds s t a placed) (solved-adds s t a solved) a.core c.x (scope-adds s t a c.x (Each-member (λ (k : Coeff). InScope s k.x) r.coeffs c scoped w.0))
    (quiet-adds s t a (con.Num (Var c.x)) (quiet-number s r quiet c w.0)))
    (λ u b. row-items s placed solved r quiet scoped ks w.1 u (adds-then s t u a b.0) (λ j i. by u b j (h j i)))
  where
    first : (u : State) → Adds t u × IsNumberBy u.bound u.given c.x → (j : Coeff) → (c ≡ j) ⊎ Contains ks j → Contains ks j ⊎ IsNumberBy u.bound u.given j.x
    first u b j (inl same) = inr (subst (λ (k : Coeff). IsNumberBy u.bound u.given k.x) same b.1)
    first u b j (inr i) = inl i

    by : (u : State) → Adds t u × IsNumberBy u.bound u.given c.x → (j : Coeff) → Contains (c ∷ ks) j ⊎ IsNumberBy t.bound t.given j.x → Contains ks j ⊎ IsNumberBy u.bound u.given j.x
    by u b j (inl i) = first u b j (Contains-cases c ks j i)
    by u b j (inr n) = inr (number-more t.bound u.bound t.given u.given (λ o i. subst (λ (bs : List Binding). Contains bs o) (sym b.0.bound) i) b.0.given j.x n)

-- ---- a number test that is shown

module _ (s : State) (placed : Placed s.covers) (solved : Solved (length s.made) s.bound) (k : CoreAt s) (x : ℕ) (scoped : InScope s x) where
  given-stands : (c : Con) → Contains s.given c → Contains (stands s.given s.covers) c
  given-stands c i = subst (λ (l : List Con). Contains l c) (sym (stands-context s.given s.covers)) (Contains-append_left s.given (regions s.covers) c i)

  judges-stand : (c d : Con) → Contains (judges s c) d → Contains (stands s.given s.covers) d
  judges-stand c d = by (is_empty (universals_of s c))
    where
      by : (b : Bool) → Contains (if b then s.given else context s) d → Contains (stands s.given s.covers) d
      by true i = given-stands d i
      by false i = subst (λ (l : List Con). Contains l d) (sym (stands-context s.given s.covers)) i

  abbrev shown : Con
  shown = con.Num (Var x)

  -- the test parts a case
  parted-number : sat (along s (con.Num (Var x))) ≡ true → is_empty (universals_of s (con.Num (Var x))) ≡ false → IsNumberBy (split s (as_read s (con.Num (Var x)))).bound (stands (split s (as_read s (con.Num (Var x)))).given (split s (as_read s (con.Num (Var x)))).covers) x
  parted-number f q = by (sub_of s.bound x) refl plain q
    where
      whole : Sorted (along s (con.Num (Var x)))
      whole = judged s placed k shown shown tt

      plain : NoCompound (sub_of s.bound x)
      plain =
          no-compound s.bound (judges s shown ++ shown ∷ []) ((sat-sorted (along s shown) whole).0 f) x
          (λ v m. list_all-member (holds v.of) (along s shown) shown m (Contains-append_right (map equation s.bound) (judges s shown ++ shown ∷ []) shown (Contains-push (judges s shown) shown)))

      owned : (y : ℕ) → sub_of s.bound x ≡ var y → is_empty (filter (is_universal s) (y ∷ [])) ≡ false → owns s.covers (owner s (con.Num (Var y))) y ≡ true
      owned y e g = at (read-sort s solved (length s.covers) x y scoped e)
        where
          at : Sort s y → owns s.covers (owner s (con.Num (Var y))) y ≡ true
          at k = kind k.1
            where
              kind : Lone s.made y ⊎ IsOwned s y → owns s.covers (owner s (con.Num (Var y))) y ≡ true
              kind (inl l) = absurd (true≢false (sym (ap (λ (b : Bool). is_empty (if b then y ∷ [] else [])) (ap is_kind_universal l.1)) ∙ g))
              kind (inr o) =
                  subst (λ (n : ℕ). owns s.covers n y ≡ true) (sym (ap (λ (u : Tm). greatest (map (depth_of s) (filter (is_universal s) (term_vars u)))) (unbound-self s.bound y k.0) ∙ one-owner s y (ap is_kind_universal o.1))) o.2

      by : (t : Tm) → sub_of s.bound x ≡ t → NoCompound t → is_empty (filter (is_universal s) (term_vars t)) ≡ false
          → IsNumberBy (split s (con.Num (term_with t))).bound (stands (split s (con.Num (term_with t))).given (split s (con.Num (term_with t))).covers) x
      by (num v) e n g = absurd (true≢false g)
      by (app h ts) e n g = absurd n
      by (var y) e n g =
          let d : ℕ = owner s (con.Num (Var y)) in
          let r : State = split_at s d (con.Num (Var y)) in
          let here : Contains (stands r.given r.covers) (con.Num (Var y)) = stands-here d (parted (next_variable s) (con.Num (Var y))) s.bound s.given s.covers y (owned y e g) in
          subst (λ (bs : List Binding). IsNumberBy bs (stands r.given r.covers) x) (sym (append-nil s.bound))
          (number-said s.bound (stands r.given r.covers) x (subst (λ (t : Tm). Contains (stands r.given r.covers) (con.Num (term_with t))) (sym e) here))

  pub number-shown : Asks (λ r. Goes s r × IsNumberBy r.bound (stands r.given r.covers) x) (assume sat s (con.Num (Var x)))
  number-shown =
      asks-assumed s shown (λ r. Goes s r × IsNumberBy r.bound (stands r.given r.covers) x) (asked-plain s placed k shown tt)
      (λ e. (goes-itself s placed k, number-read s.bound (stands s.given s.covers) x (ap is_number (sym (viewed (sub_of s.bound x))) ∙ e)))
      (λ e. (
        goes-itself s placed k,
        number-more s.bound s.bound (judges s shown) (stands s.given s.covers) (λ b i. i) (judges-stand shown)
            x (number-entailed s.bound (judges s shown) x (judged s placed k shown (con.NotNum (Var x)) tt) e),
      ))
      (λ e f q. (
        given-goes s placed k shown tt sorts e q,
        number-more s.bound s.bound (s.given ++ as_read s shown ∷ []) (stands (s.given ++ as_read s shown ∷ []) s.covers) (λ b i. i)
            (λ c i. subst (λ (l : List Con). Contains l c) (sym (stands-context (s.given ++ as_read s shown ∷ []) s.covers)) (Contains-append_left (s.given ++ as_read s shown ∷ []) (regions s.covers) c i))
            x (number-said s.bound (s.given ++ as_read s shown ∷ []) x (Contains-push s.given (as_read s shown))),
      ))
      (λ e f q. (split-goes s placed k shown tt sorts e q, parted-number f q))
    where
      sorts : TestSorts s placed k (con.Num (Var x))
      sorts z e = read-sort s solved (length s.covers) x z scoped e
