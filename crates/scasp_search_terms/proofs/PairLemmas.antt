-- Pairs of two lists of terms.
use Rattle.std.specs.Borrow.{Bor}
use Rattle.std.specs.List.{sum_by}
use Rattle.std.specs.Prelude.{◌≡◌, ℕ, ◌+◌, ◌*◌, ◌<◌, ◌≤◌, List, [], ◌∷◌, ◌++◌, drop, length, refl}
use Rattle.std.proofs.Common.{arith, ap, sym, append_assoc, ◌∙◌}
use Rattle.std.proofs.lemmas.List.{append-nil, drop_all, nil_from_length}
use Rattle.std.proofs.lemmas.List.Sums.{sum_by-append}
use Rattle.scasp_search_rules.specs.declared.states.tasks.Pair.{Pair}
use Rattle.scasp_search_rules.specs.Successors.Pairs.{all_pairs_of, pairs, pairs_of}
use Rattle.scasp_search_terms.specs.Lists.{pairs_in}
use Rattle.scasp_syntax.specs.Tm.{Tms, nil, cons, weight, weight_s}
use Rattle.scasp_syntax.specs.View.{tm_of, tms_of}
use Rattle.scasp_syntax.specs.declared.term.Term.{Term}

pairs_nil : (ts : Tms) → pairs ts nil ≡ []
pairs_nil nil = refl
pairs_nil (cons t ts) = refl

all_pairs_nil : (ts : Tms) → all_pairs_of ts nil ≡ []
all_pairs_nil nil = refl
all_pairs_nil (cons t ts) = refl

-- past the end of the second list nothing changes
pub pairs_past : (ts us : List Term) (k : ℕ) → length us ≤ k
    → pairs (tms_of (drop k ts)) (tms_of (drop k us)) ≡ pairs (tms_of (drop (k + 1) ts)) (tms_of (drop (k + 1) us))
pairs_past ts us k p =
    let here : drop k us ≡ [] = drop_all k us p in
    let next : drop (k + 1) us ≡ [] = drop_all (k + 1) us (omega (arith, p)) in
    rw (here, next) (pairs_nil (tms_of (drop k ts)) ∙ sym (pairs_nil (tms_of (drop (k + 1) ts))))

-- ---- lists that are still to be taken apart, the next ones last

abbrev pub Lists : Type 0
Lists = Bor (List Term) × Bor (List Term)

-- the pairs that all of them come to
abbrev pub all_in : List Lists → List Pair
all_in [] = []
all_in (l ∷ ls) = all_in ls ++ pairs_in l

abbrev list_work : Lists → ℕ
list_work l = 1 + 2 * weight_s (tms_of l.0.now)

-- what is left to do with them
abbrev pub work : List Lists → ℕ
work ls = sum_by list_work ls

pushed_pairs : (ls : List Lists) (l : Lists) → all_in (ls ++ l ∷ []) ≡ pairs_in l ++ all_in ls
pushed_pairs [] l = sym (append-nil (pairs_in l))
pushed_pairs (k ∷ ls) l = ap (λ ps. ps ++ pairs_in k) (pushed_pairs ls l) ∙ append_assoc (pairs_in l) (all_in ls) (pairs_in k)

pushed_work : (ls : List Lists) (l : Lists) → work (ls ++ l ∷ []) ≡ work ls + list_work l
pushed_work ls l = sum_by-append list_work ls (l ∷ []) ∙ (omega arith)

-- the first of the last lists has ended
pub first_ended : (ls all : List Lists) (l : Lists) (found z : List Pair) → all ≡ ls ++ l ∷ [] → length l.0.now ≡ 0 → found ++ all_in all ≡ z → found ++ all_in ls ≡ z
first_ended ls all l found z a n i =
    ap (λ (ts : List Term). found ++ (all_pairs_of (tms_of ts) (tms_of l.1.now) ++ all_in ls)) (sym (nil_from_length l.0.now n))
    ∙ ap (λ ps. found ++ ps) (sym (pushed_pairs ls l)) ∙ ap (λ ks. found ++ all_in ks) (sym a) ∙ i

-- the second of them has
pub second_ended : (ls all : List Lists) (l : Lists) (found z : List Pair) → all ≡ ls ++ l ∷ [] → length l.1.now ≡ 0 → found ++ all_in all ≡ z → found ++ all_in ls ≡ z
second_ended ls all l found z a n i =
    ap (λ ps. found ++ (ps ++ all_in ls)) (sym (all_pairs_nil (tms_of l.0.now)))
    ∙ ap (λ (us : List Term). found ++ (all_pairs_of (tms_of l.0.now) (tms_of us) ++ all_in ls)) (sym (nil_from_length l.1.now n))
    ∙ ap (λ ps. found ++ ps) (sym (pushed_pairs ls l)) ∙ ap (λ ks. found ++ all_in ks) (sym a) ∙ i

-- both begin with a term, of which the arguments come next
pub taken_apart : (ls all more new : List Lists) (l rest inner : Lists) (t u : Term) (found now z : List Pair)
    → all ≡ ls ++ l ∷ [] → l.0.now ≡ t ∷ rest.0.now → l.1.now ≡ u ∷ rest.1.now → more ≡ ls ++ rest ∷ [] → new ≡ more ++ inner ∷ []
    → now ++ pairs_in inner ≡ found ++ pairs_of (tm_of t) (tm_of u) → found ++ all_in all ≡ z → now ++ all_in new ≡ z
taken_apart ls all more new l rest inner t u found now z a b c m n e i =
    let first = pairs_of (tm_of t) (tm_of u) in
    ap (λ ks. now ++ all_in ks) n
    ∙ ap (λ ps. now ++ ps) (pushed_pairs more inner)
    ∙ sym (append_assoc now (pairs_in inner) (all_in more))
    ∙ ap (λ ps. ps ++ all_in more) e
    ∙ ap (λ ks. (found ++ first) ++ all_in ks) m
    ∙ ap (λ ps. (found ++ first) ++ ps) (pushed_pairs ls rest)
    ∙ append_assoc found first (pairs_in rest ++ all_in ls)
    ∙ ap (λ ps. found ++ ps) (sym (append_assoc first (pairs_in rest) (all_in ls)))
    ∙ (λ j. found ++ (all_pairs_of (tms_of (sym b j)) (tms_of (sym c j)) ++ all_in ls))
    ∙ ap (λ ps. found ++ ps) (sym (pushed_pairs ls l)) ∙ ap (λ ks. found ++ all_in ks) (sym a) ∙ i

-- none is left
pub none_left : (all : List Lists) (found z : List Pair) → all ≡ [] → found ++ all_in all ≡ z → found ≡ z
none_left all found z a i = sym (append-nil found) ∙ ap (λ ks. found ++ all_in ks) (sym a) ∙ i

-- ---- it comes to an end

pub less_lists : (ls all : List Lists) (l : Lists) → all ≡ ls ++ l ∷ [] → work ls < work all
less_lists ls all l a = omega (arith, ap work a, pushed_work ls l)

pub less_work : (ls all more new : List Lists) (l rest inner : Lists) (t : Term)
    → all ≡ ls ++ l ∷ [] → l.0.now ≡ t ∷ rest.0.now → more ≡ ls ++ rest ∷ [] → new ≡ more ++ inner ∷ []
    → weight_s (tms_of inner.0.now) < weight (tm_of t) → work new < work all
less_work ls all more new l rest inner t a b m n w =
    let whole : weight_s (tms_of l.0.now) ≡ weight (tm_of t) + weight_s (tms_of rest.0.now) = ap (λ (ts : List Term). weight_s (tms_of ts)) b in
    omega (arith, ap work a, pushed_work ls l, ap work m, pushed_work ls rest, ap work n, pushed_work more inner, whole, w)
