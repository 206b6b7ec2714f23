-- Walks over terms with a list of what is still to be seen.
use Rattle.std.proofs.Common.{◌≡◌, ◌≢◌, ℕ, ◌+◌, ◌<◌, min, Bool, true, false, ◌&&◌, List, [], ◌∷◌, ◌++◌, length, drop, get_or, add-one, Bor, refl, sym, ap, ◌∙◌, arith}
use Rattle.std.specs.List.{list_all, sum_by}
use Rattle.std.proofs.Math.Bool.{and-true, and-false, and_assoc}
use Rattle.std.proofs.Math.Seq.{drop-cons}
use Rattle.std.proofs.lemmas.List.{length-map}
use Rattle.std.proofs.lemmas.List.Folds.{list_all-append}
use Rattle.std.proofs.lemmas.List.Sums.{sum_by-append}
use Rattle.scasp_num.specs.Number.{Number}
use Rattle.scasp_syntax.specs.Same.{same_head, same_number, same_tm, same_tms}
use Rattle.scasp_syntax.specs.Tm.{Tm, var, num, app, items, args_of, weight_s}
use Rattle.scasp_syntax.specs.Values.{are_ground}
use Rattle.scasp_syntax.specs.View.{tm_of, tms_of}
use Rattle.scasp_syntax.specs.declared.term.Term.{Term}
use Rattle.scasp_syntax.proofs.TermLemmas.{items-tms_of, same_tms-length}

-- ---- lists

pub list_all-pushed : {A : Type 0} (p : A → Bool) (xs : List A) (x : A) → list_all p (xs ++ x ∷ []) ≡ (list_all p xs && p x)
list_all-pushed p xs x = list_all-append p xs (x ∷ []) ∙ ap (λ b. list_all p xs && b) (and-true (p x))

pub sum_by-pushed : {A : Type 0} (f : A → ℕ) (xs : List A) (x : A) → sum_by f (xs ++ x ∷ []) ≡ sum_by f xs + f x
sum_by-pushed f xs x = sum_by-append f xs (x ∷ []) ∙ (omega arith)

-- the items from a place on, where this item stands there
pub drop-at : {A : Type 0} (xs : List A) (i : ℕ) (x d : A) → i < length xs → d ≡ get_or xs i d → d ≡ x → drop i xs ≡ x ∷ drop (i + 1) xs
drop-at xs i x d h e f = drop-cons xs i d h ∙ (λ j. (sym e ∙ f) j ∷ drop (sym (add-one i) j) xs)

-- ---- a test of what is still to be seen and of the rest of a list, of which one more item was seen

-- the item passes
pub passed : (a s r z : Bool) {q : Bool} → q ≡ (s && r) → s ≡ true → (a && q) ≡ z → (a && r) ≡ z
passed a s r z e f h = ap (λ b. a && (b && r)) (sym f) ∙ ap (λ b. a && b) (sym e) ∙ h

-- the item passes exactly where what was put to the rest does
pub put_off : (a b p s r z : Bool) {q : Bool} → q ≡ (s && r) → s ≡ p → b ≡ (a && p) → (a && q) ≡ z → (b && r) ≡ z
put_off a b p s r z e f g h = ap (λ c. c && r) (g ∙ ap (λ c. a && c) (sym f)) ∙ and_assoc a s r ∙ ap (λ c. a && c) (sym e) ∙ h

-- the item fails
pub failed : (a s r z : Bool) {q : Bool} → q ≡ (s && r) → s ≡ false → (a && q) ≡ z → false ≡ z
failed a s r z e f h = sym (and-false a) ∙ ap (λ b. a && (b && r)) (sym f) ∙ ap (λ b. a && b) (sym e) ∙ h

-- ---- lists of terms

abbrev pub is_list_ground : Bor (List Term) → Bool
is_list_ground l = are_ground (tms_of l.now)

abbrev pub nodes : List (Bor (List Term)) → ℕ
nodes ls = sum_by (λ l. weight_s (tms_of l.now)) ls

-- what is left to do with them
abbrev pub work : List (Bor (List Term)) → ℕ
work ls = sum_by (λ l. weight_s (tms_of l.now) + 1) ls

-- one node was counted
pub counted : (c d w v t m : ℕ) → d ≡ min (c + 1) m → w ≡ v + 1 → min (c + w) m ≡ t → min (d + v) m ≡ t
counted c d w v t m e f h = omega arith

-- ---- pairs of lists of terms

abbrev pub Pair : Type 0
Pair = Bor (List Term) × Bor (List Term)

abbrev pub is_pair_same : Pair → Bool
is_pair_same p = same_tms (tms_of p.0.now) (tms_of p.1.now)

abbrev pub pair_work : List Pair → ℕ
pair_work ps = sum_by (λ p. weight_s (tms_of p.0.now) + 1) ps

-- terms are the same where their heads and their arguments are
head-same : (t u : Tm) → same_tm t u ≡ (same_head t u && same_tms (args_of t) (args_of u))
head-same (var x) (var y) = sym (and-true (same_head (var x) (var y)))
head-same (var x) (num r) = refl
head-same (var x) (app g us) = refl
head-same (num q) (var y) = refl
head-same (num q) (num r) = sym (and-true (same_number q r))
head-same (num q) (app g us) = refl
head-same (app f ts) (var y) = refl
head-same (app f ts) (num r) = refl
head-same (app f ts) (app g us) = refl

pub heads-differ : (t u : Tm) → same_head t u ≡ false → same_tm t u ≡ false
heads-differ t u e = head-same t u ∙ ap (λ b. b && same_tms (args_of t) (args_of u)) e

pub same-by_args : (t u : Tm) → same_head t u ≡ true → same_tm t u ≡ same_tms (args_of t) (args_of u)
same-by_args t u e = head-same t u ∙ ap (λ b. b && same_tms (args_of t) (args_of u)) e

pub same-var : (x : ℕ) (u : Tm) → same_tm (var x) u ≡ same_head (var x) u
same-var x (var y) = refl
same-var x (num r) = refl
same-var x (app g us) = refl

pub same-num : (q : Number) (u : Tm) → same_tm (num q) u ≡ same_head (num q) u
same-num q (var y) = refl
same-num q (num r) = refl
same-num q (app g us) = refl

-- lists of other lengths differ
pub lengths-differ : (ts us : List Term) → length ts ≢ length us → same_tms (tms_of ts) (tms_of us) ≡ false
lengths-differ ts us n = same_tms-length (tms_of ts) (tms_of us) (λ e. n (sym (length-items ts) ∙ e ∙ length-items us))
  where
    length-items : (ts : List Term) → length (items (tms_of ts)) ≡ length ts
    length-items ts = ap length (items-tms_of ts) ∙ length-map ts tm_of
