-- The given constraints as they read at the end are sorted, if each row of theirs can be replaced.
use Rattle.std.specs.Prelude.{◌≡◌, ◌⊎◌, ℕ, Bool, true, false, not, Some, List, [], ◌∷◌, length, map, filter}
use Rattle.std.specs.List.{Contains, list_any, list_all}
use Rattle.std.proofs.Common.{refl, ap, sym, subst, ◌∙◌, inl, inr}
use Rattle.std.proofs.lemmas.Bool.{true≢false, cases_Bool}
use Rattle.scasp_list.specs.Each.{Each}
use Rattle.scasp_list.proofs.MemberLemmas.{Contains-none, Contains-here, Contains-there, Contains-cases, Contains-map, Contains-from_map, Contains-filter, Contains-from_filter, list_all-from, list_any-member, list_any-none_member}
use Rattle.scasp_checker_rules.specs.SameConstraint.{same_con}
use Rattle.scasp_checker_rules.proofs.TestLemmas.{fact_decided}
use Rattle.scasp_lines.specs.Dues.{fact}
use Rattle.scasp_num.specs.Linear.{Linear}
use Rattle.scasp_num.specs.declared.linear.Coeff.{Coeff}
use Rattle.scasp_search_rules.specs.declared.states.state.State.{State}
use Rattle.scasp_search_rules.specs.Successors.Answers.{given_lines, once}
use Rattle.scasp_search_rules.specs.Successors.Assumptions.{as_read}
use Rattle.scasp_search_rules.specs.Successors.Reading.{con_under, holds_always, row_under}
use Rattle.scasp_search_rules.specs.Successors.Regions.{givens}
use Rattle.scasp_search_rules.specs.Successors.Replacing.{is_unreplaced}
use Rattle.scasp_search_rules.specs.Successors.Variables.{meaning}
use Rattle.scasp_syntax.specs.Constraints.{Sat, is_number}
use Rattle.scasp_syntax.specs.Tm.{Tm, var, num, app}
use Rattle.scasp_syntax.specs.declared.con.Con.{Con}
use Rattle.scasp_syntax.specs.declared.con.Con.TheVariants as con
use Rattle.scasp_syntax.specs.declared.term.Term.TheVariants.{Var, App}
use Rattle.scasp_unify.specs.Numbers.{counts}
use Rattle.scasp_unify.specs.Resolver.{unifies}
use Rattle.scasp_unify.specs.SimpleForm.{simple, term_with}
use Rattle.scasp_unify.specs.TermFailures.{is_compound}
use Rattle.scasp_unify.specs.Sorted.{Sorted, apart, typed, partly, is_typed_con}
use Rattle.scasp_unify.proofs.Members.{Each-from, Each-member}
use Rattle.scasp_unify.proofs.SimpleLemmas.{viewed}
use Rattle.scasp_law_first_event.proofs.Bindings.{Solved}
use Rattle.scasp_law_sorted.proofs.Assuming.{plain-read}
use Rattle.scasp_law_sorted.proofs.Judging.{CoreAt}
use Rattle.scasp_law_sorted.proofs.Lists.{typed-plain}
use Rattle.scasp_law_sorted.proofs.Reading.{reads-solved}
use Rattle.scasp_law_sorted.proofs.RowJudging.{unreplaced-not}
use Rattle.scasp_law_sorted.proofs.Rows.{NoCompound, stood-for}
use Rattle.scasp_law_sorted.proofs.Tested.{Tested, RowIn, tested-counts, tested-reads, said}

-- ---- without repeats

once-keeps : (cs : List Con) (c : Con) → Contains cs c → Contains (once cs) c
once-keeps [] c i = absurd (Contains-none c i)
once-keeps (d ∷ cs) c i = by (Contains-cases d cs c i) (λ j. once-keeps cs c j)
  where
    other : Contains (once cs) c → (same_con d c ≡ true) ⊎ (same_con d c ≡ false) → Contains (d ∷ filter (λ e. not (same_con d e)) (once cs)) c
    other j (inl e) =
        let told : fact (Some d) ≡ fact (Some c) = (fact_decided (fact (Some d)) c).0 e in
        let same : d ≡ c = cc told in
        subst (Contains (d ∷ filter (λ e. not (same_con d e)) (once cs))) same (Contains-here d (filter (λ e. not (same_con d e)) (once cs)))
    other j (inr e) = Contains-there d (filter (λ e. not (same_con d e)) (once cs)) c (Contains-filter (λ e. not (same_con d e)) (once cs) c j (ap not e))

    by : (d ≡ c) ⊎ Contains cs c → (Contains cs c → Contains (once cs) c) → Contains (d ∷ filter (λ e. not (same_con d e)) (once cs)) c
    by (inl e) rest = subst (Contains (d ∷ filter (λ e. not (same_con d e)) (once cs))) e (Contains-here d (filter (λ e. not (same_con d e)) (once cs)))
    by (inr j) rest = other (rest j) (cases_Bool (same_con d c))

once-from : (cs : List Con) (c : Con) → Contains (once cs) c → Contains cs c
once-from [] c i = absurd (Contains-none c i)
once-from (d ∷ cs) c i = by (Contains-cases d (filter (λ e. not (same_con d e)) (once cs)) c i) (λ j. once-from cs c j)
  where
    by : (d ≡ c) ⊎ Contains (filter (λ e. not (same_con d e)) (once cs)) c → (Contains (once cs) c → Contains cs c) → Contains (d ∷ cs) c
    by (inl e) rest = subst (Contains (d ∷ cs)) e (Contains-here d cs)
    by (inr j) rest = Contains-there d cs c (rest (Contains-from_filter (λ e. not (same_con d e)) (once cs) c j).0)

-- ---- what is given, as it reads

-- some variable of a row stands for a compound term
abbrev has_compound : State → Con → Bool
has_compound s (con.Row r) = list_any (λ k. is_compound (meaning s k.x)) r.coeffs
has_compound s (con.Eq t u) = false
has_compound s (con.Neq t u) = false
has_compound s (con.NotShape x f n) = false
has_compound s (con.Num t) = false
has_compound s (con.NotNum t) = false

module _ (s : State) (solved : Solved (length s.made) s.bound) (k : CoreAt s) (replaced : list_any (is_unreplaced (meaning s)) s.given ≡ false) where
  there : (c : Con) → Contains s.given c → holds_always (as_read s c) ≡ false → Contains (given_lines s) (as_read s c)
  there c i e =
      once-keeps (filter (λ c. not (holds_always c)) (map simple (givens s))) (as_read s c)
      (Contains-filter (λ c. not (holds_always c)) (map simple (givens s)) (as_read s c)
      (Contains-map simple (givens s) (con_under (meaning s) c) (Contains-map (con_under (meaning s)) s.given c i)) (ap not e))

  from : (d : Con) → Contains (given_lines s) d → (c : Con) × Contains s.given c × (as_read s c ≡ d)
  from d i =
      let f = Contains-from_filter (λ c. not (holds_always c)) (map simple (givens s)) d (once-from (filter (λ c. not (holds_always c)) (map simple (givens s))) d i) in
      let a = Contains-from_map simple (givens s) d f.0 in
      let b = Contains-from_map (con_under (meaning s)) s.given a.0 a.1 in
      (b.0, b.1, ap simple b.2 ∙ a.2)

  -- the test of a variable, as it reads
  tested : (r : Linear) → Contains s.given (con.Row r) → (j : Coeff) → Contains r.coeffs j → (z : ℕ) × Contains s.given (con.Num (Var z)) × (meaning s z ≡ meaning s j.x)
  tested r i j m =
      tested-reads s.bound s.given (reads-solved (length s.made) s.bound solved k.once) j.x
      (Each-member (λ (j : Coeff). Tested s.bound s.given j.x) r.coeffs j (Each-member (RowIn s.bound s.given) s.given (con.Row r) k.rows i) m)

  test-there : (z : ℕ) (t : Tm) → Contains s.given (con.Num (Var z)) → meaning s z ≡ t → is_number t ≡ false → Contains (given_lines s) (con.Num (term_with t))
  test-there z t i e n =
      subst (λ (u : Tm). Contains (given_lines s) (con.Num (term_with u))) e
      (there (con.Num (Var z)) i (ap is_number (viewed (meaning s z)) ∙ ap is_number e ∙ n))

  -- a compound term is no number
  compound-sorted : (r : Linear) → Contains s.given (con.Row r) → (j : Coeff) → Contains r.coeffs j → is_compound (meaning s j.x) ≡ true → Sorted (given_lines s)
  compound-sorted r i j m e = by (meaning s j.x) refl e
    where
      none : (t : Tm) → is_compound t ≡ true → Sat (con.Num (term_with t) ∷ []) → ⊥
      none (var x) f a = true≢false (sym f)
      none (num q) f a = true≢false (sym f)
      none (app g ts) f a = true≢false (sym a.meets)

      by : (t : Tm) → meaning s j.x ≡ t → is_compound t ≡ true → Sorted (given_lines s)
      by (var x) f g = absurd (true≢false (sym g))
      by (num q) f g = absurd (true≢false (sym g))
      by (app h ts) f g =
          let o = tested r i j m in
          partly (con.Num (App h ts) ∷ []) (test-there o.0 (app h ts) o.1 (o.2 ∙ f) refl, tt) refl (none (app h ts) refl)

  -- else each row's variables are tested there
  plain-sorted : ((r : Linear) → Contains s.given (con.Row r) → (j : Coeff) → Contains r.coeffs j → is_compound (meaning s j.x) ≡ false) → Sorted (given_lines s)
  plain-sorted h = by (unifies (given_lines s)) refl
    where
      number : unifies (given_lines s) ≡ true → (r : Linear) → Contains s.given (con.Row r) → (j : Coeff) → Contains r.coeffs j → (y : ℕ) → meaning s j.x ≡ var y → counts (given_lines s) y ≡ true
      number u r i j m y e =
          let o = tested r i j m in
          tested-counts [] (given_lines s) (given_lines s) u (λ b n. absurd (Contains-none b n)) (λ c n. n) y (said y (test-there o.0 (var y) o.1 (o.2 ∙ e) refl))

      simple-term : (t : Tm) → is_compound t ≡ false → NoCompound t
      simple-term (var x) f = tt
      simple-term (num q) f = tt
      simple-term (app g ts) f = absurd (true≢false f)

      row : unifies (given_lines s) ≡ true → (r : Linear) → Contains s.given (con.Row r) → is_typed_con (given_lines s) (con.Row (row_under (meaning s) r)) ≡ true
      row u r i =
          let o = unreplaced-not (meaning s) r (list_any-none_member (is_unreplaced (meaning s)) s.given (con.Row r) replaced i) in
          let all : Each (λ (j : Coeff). counts (given_lines s) j.x ≡ true) o.0.coeffs =
          stood-for (meaning s) (λ y. counts (given_lines s) y ≡ true) r o.0
          (Each-from (λ (j : Coeff). NoCompound (meaning s j.x) × ((y : ℕ) → meaning s j.x ≡ var y → counts (given_lines s) y ≡ true)) r.coeffs
          (λ j m. (simple-term (meaning s j.x) (h r i j m), number u r i j m))) o.1 in
          subst (λ (q : Linear). list_all (λ j. counts (given_lines s) j.x) q.coeffs ≡ true) (sym o.2)
          (list_all-from (λ (j : Coeff). counts (given_lines s) j.x) o.0.coeffs (λ j m. Each-member (λ (j : Coeff). counts (given_lines s) j.x ≡ true) o.0.coeffs j all m))

      one : unifies (given_lines s) ≡ true → (c : Con) → Contains s.given c → is_typed_con (given_lines s) (as_read s c) ≡ true
      one u (con.Row r) i = row u r i
      one u (con.Eq t v) i = refl
      one u (con.Neq t v) i = typed-plain (given_lines s) (as_read s (con.Neq t v)) (plain-read s (con.Neq t v) tt)
      one u (con.NotShape x f n) i = typed-plain (given_lines s) (as_read s (con.NotShape x f n)) (plain-read s (con.NotShape x f n) tt)
      one u (con.Num t) i = refl
      one u (con.NotNum t) i = refl

      by : (b : Bool) → unifies (given_lines s) ≡ b → Sorted (given_lines s)
      by false u = apart u
      by true u = typed (list_all-from (is_typed_con (given_lines s)) (given_lines s) (λ d i. let o = from d i in subst (λ (c : Con). is_typed_con (given_lines s) c ≡ true) o.2 (one u o.0 o.1)))

  pub lines-sorted : Sorted (given_lines s)
  lines-sorted = by (list_any (has_compound s) s.given) refl
    where
      found : (c : Con) → Contains s.given c → has_compound s c ≡ true → Sorted (given_lines s)
      found (con.Row r) i e = let m = list_any-member (λ (j : Coeff). is_compound (meaning s j.x)) r.coeffs e in compound-sorted r i m.0 m.1 m.2
      found (con.Eq t u) i e = absurd (true≢false (sym e))
      found (con.Neq t u) i e = absurd (true≢false (sym e))
      found (con.NotShape x f n) i e = absurd (true≢false (sym e))
      found (con.Num t) i e = absurd (true≢false (sym e))
      found (con.NotNum t) i e = absurd (true≢false (sym e))

      by : (b : Bool) → list_any (has_compound s) s.given ≡ b → Sorted (given_lines s)
      by true e = let m = list_any-member (has_compound s) s.given e in found m.0 m.1 m.2
      by false e =
          plain-sorted
          (λ r i j m. list_any-none_member (λ (j : Coeff). is_compound (meaning s j.x)) r.coeffs j (list_any-none_member (has_compound s) s.given (con.Row r) e i) m)
