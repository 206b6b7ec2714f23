-- Which clauses were checked on the lines before one.
use Rattle.std.proofs.Common.{◌≡◌, ◌∙◌, ℕ, zero, suc, ◌+◌, ◌<◌, ◌≤◌, Bool, true, false, ◌&&◌, nat_lt, List, [], ◌∷◌, ◌++◌, length, refl, ap, sym, subst, arith}
use Rattle.std.specs.List.{flat_map, list_all}
use Rattle.std.proofs.lemmas.Grind.{flat_map-append}
use Rattle.std.proofs.lemmas.Bool.{and_parts}
use Rattle.std.proofs.lemmas.Bool.Decides.{nat_tests}
use Rattle.std.proofs.lemmas.List.{append-nil, append_assoc}
use Rattle.scasp_syntax.proofs.Walks.{list_all-pushed}
use Rattle.scasp_syntax.specs.Programs.{numbered}
use Rattle.scasp_lines.specs.Numbering.{Counts}
use Rattle.scasp_lines.specs.Walk.{Part, of_node, of_rule, of_check, of_case, Line}
use Rattle.scasp_checker_rules.specs.LineFaults.{check_faults, line_faults, part_faults}
use Rattle.scasp_checker_rules.specs.Refusals.{of_some}
use Rattle.scasp_checker_rules.specs.Wholes.{Whole, check_number, number_before, checked_before}
use Rattle.scasp_checker_rules.specs.declared.refusal.Reason.TheVariants as reason
use Rattle.scasp_checker_rules.proofs.TestLemmas.{wants-holds}
use Rattle.scasp_checker.specs.Walk.Checked.{AreBelow, last_check}

-- ---- the test of a check's clause

pub ascends : (w : Whole) (at k before : ℕ) → AreBelow w at before
    → (of_some (numbered w.setting.clauses k) (λ c. true) && nat_lt before k) ≡ (of_some (numbered w.setting.clauses k) (λ c. true) && list_all (λ j. nat_lt j k) (checked_before w at))
ascends w at zero before h = refl
ascends w at (suc k) before h = ap (λ b. of_some (numbered w.setting.clauses (suc k)) (λ c. true) && b) (sym (h (suc k) (omega arith)))

-- ---- the checks on lines that are numbered without a gap

-- the clauses that are checked on these lines
abbrev pub numbers : List Line → List ℕ
numbers ls = flat_map (λ (l : Line). check_number l.part) ls

counts-behind : (n : ℕ) (xs ys : List Line) → Counts n (xs ++ ys) → Counts (n + length xs) ys
counts-behind n [] ys c = let e : n ≡ n + 0 = omega arith in subst (λ (m : ℕ). Counts m ys) e c
counts-behind n (x ∷ xs) ys c =
    let e : suc n + length xs ≡ n + suc (length xs) = omega arith in subst (λ (m : ℕ). Counts m ys) e (counts-behind (suc n) xs ys c.1)

all-before : (n m : ℕ) (xs ys : List Line) → Counts n (xs ++ ys) → n + length xs ≤ m → flat_map (number_before m) xs ≡ numbers xs
all-before n m [] ys c h = refl
all-before n m (x ∷ xs) ys c h =
    let at = c.0 in
    let is : nat_lt x.at m ≡ true = grind (arith, nat_tests) in
    rw is (ap (λ ks. check_number x.part ++ ks) (all-before (suc n) m xs ys c.1 (omega arith)))

none-before : (n m : ℕ) (ys : List Line) → Counts n ys → m ≤ n → flat_map (number_before m) ys ≡ []
none-before n m [] c h = refl
none-before n m (y ∷ ys) c h =
    let at = c.0 in
    let past : nat_lt y.at m ≡ false = grind (arith, nat_tests) in
    rw past (none-before (suc n) m ys c.1 (omega arith))

-- ---- lines that were gone over

-- All lines are those that were gone over and those that are left; of the clauses that were checked, this is the last, or 0.
pub record Reached (w : Whole) (before : ℕ) (left : List Line) : Type 0 where
  pub passed : List Line
  pub all : w.lines ≡ passed ++ left
  pub last : (k : ℕ) → 0 < k → list_all (λ j. nat_lt j k) (numbers passed) ≡ nat_lt before k

pub reached-none : (w : Whole) (ls : List Line) → w.lines ≡ ls → Reached w 0 ls
reached-none w ls e = record { passed = []; all = e; last = λ k positive. sym (grind (arith, nat_tests)) }

pub below-here : (w : Whole) (before : ℕ) (l : Line) (ls : List Line) → Counts 1 w.lines → Reached w before (l ∷ ls) → AreBelow w l.at before
below-here w before l ls c r = λ k positive. ap (list_all (λ j. nat_lt j k)) checked ∙ r.last k positive
  where
    counts : Counts 1 (r.passed ++ l ∷ ls)
    counts = subst (λ (xs : List Line). Counts 1 xs) r.all c

    here : Counts (1 + length r.passed) (l ∷ ls)
    here = counts-behind 1 r.passed (l ∷ ls) counts

    checked : checked_before w l.at ≡ numbers r.passed
    checked =
        ap (flat_map (number_before l.at)) r.all
        ∙ flat_map-append (number_before l.at) r.passed (l ∷ ls)
        ∙ ap (λ ks. ks ++ flat_map (number_before l.at) (l ∷ ls)) (all-before 1 l.at r.passed (l ∷ ls) counts (let at = here.0 in omega arith))
        ∙ ap (λ ks. numbers r.passed ++ ks) (none-before (1 + length r.passed) l.at (l ∷ ls) here (let at = here.0 in omega arith))
        ∙ append-nil (numbers r.passed)

-- a check that is in order lies above those before it, so it is the one that the next has to lie above
check-last : (w : Whole) (at before n : ℕ) (ks : List ℕ) → AreBelow w at before → check_faults w at n ≡ []
    → ((k : ℕ) → 0 < k → list_all (λ j. nat_lt j k) ks ≡ nat_lt before k) → (k : ℕ) → 0 < k → list_all (λ j. nat_lt j k) (ks ++ n ∷ []) ≡ nat_lt n k
check-last w at before n ks below none h k positive =
    list_all-pushed (λ j. nat_lt j k) ks n ∙ ap (λ b. b && nat_lt n k) (h k positive) ∙ last (nat_lt before k) refl
  where
    tested : (of_some (numbered w.setting.clauses n) (λ c. true) ≡ true) × (list_all (λ j. nat_lt j n) (checked_before w at) ≡ true)
    tested = and_parts (of_some (numbered w.setting.clauses n) (λ c. true)) (list_all (λ j. nat_lt j n) (checked_before w at)) (wants-holds at reason.WrongCheck _ none)

    there : (m : ℕ) → of_some (numbered w.setting.clauses m) (λ c. true) ≡ true → 0 < m
    there zero e = cc
    there (suc m) e = omega arith

    ascends' : nat_lt before n ≡ true
    ascends' = sym (below n (there n tested.0)) ∙ tested.1

    last : (b : Bool) → nat_lt before k ≡ b → (b && nat_lt n k) ≡ nat_lt n k
    last true e = refl
    last false e = let lt = ascends' in grind (arith, nat_tests)

part-last : (w : Whole) (l : Line) (before : ℕ) (ks : List ℕ) (part : Part) → AreBelow w l.at before → part_faults w l part ≡ []
    → ((k : ℕ) → 0 < k → list_all (λ j. nat_lt j k) ks ≡ nat_lt before k)
    → (k : ℕ) → 0 < k → list_all (λ j. nat_lt j k) (ks ++ (check_number part ++ [])) ≡ nat_lt (last_check part before) k
part-last w l before ks (of_check n b) below none h k positive = check-last w l.at before n ks below none h k positive
part-last w l before ks (of_node due t) below none h k positive = ap (list_all (λ j. nat_lt j k)) (append-nil ks) ∙ h k positive
part-last w l before ks (of_rule n a b) below none h k positive = ap (list_all (λ j. nat_lt j k)) (append-nil ks) ∙ h k positive
part-last w l before ks (of_case body b) below none h k positive = ap (list_all (λ j. nat_lt j k)) (append-nil ks) ∙ h k positive

pub reached-more : (w : Whole) (before : ℕ) (l : Line) (ls : List Line) → Counts 1 w.lines → Reached w before (l ∷ ls) → line_faults w l ≡ [] → Reached w (last_check l.part before) ls
reached-more w before l ls c r none =
    record {
      passed = r.passed ++ l ∷ [];
      all = r.all ∙ sym (append_assoc r.passed (l ∷ []) ls);
      last = λ k positive.
          ap (list_all (λ j. nat_lt j k)) (flat_map-append (λ (x : Line). check_number x.part) r.passed (l ∷ []))
          ∙ part-last w l before (numbers r.passed) l.part (below-here w before l ls c r) none r.last k positive;
    }
