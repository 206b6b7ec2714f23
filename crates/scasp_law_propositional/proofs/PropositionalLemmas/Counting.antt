-- The literals of a view are numbered in the order of their lines.
use Rattle.std.specs.Prelude.{◌≡◌, ⊤, ℕ, zero, suc, ◌+◌, ◌<◌, ◌≤◌, nat_eq, Bool, true, false, if◌then◌else◌, List, [], ◌∷◌, ◌++◌, slice_get, length}
use Rattle.std.proofs.Common.{◌∙◌, refl, ap, sym, subst, arith}
use Rattle.std.proofs.lemmas.Bool.Decides.{nat_tests}
use Rattle.std.proofs.lemmas.List.{length-append, append-nil}
use Rattle.scasp_search_rules.specs.declared.states.lines.Line.{Line}
use Rattle.scasp_search_rules.specs.declared.states.lines.Line.TheVariants as line
use Rattle.scasp_search_rules.specs.declared.states.state.Literal.{Literal}
use Rattle.scasp_search_rules.specs.declared.states.tasks.Task.{Task}
use Rattle.scasp_search_rules.specs.Successors.Calls.{looping, finished}
use Rattle.scasp_search_rules.specs.Successors.Trees.{is_literal, literal_lines, line_of, number_or}
use Rattle.scasp_syntax.specs.declared.clause.Clause.{Clause}
use Rattle.scasp_syntax.specs.declared.clause.FlatItem.{FlatItem}
use Rattle.scasp_law_propositional.proofs.PropositionalLemmas.Views.{View, opens, first_with, Numbered, moves_mark, left_by, Repeats, IsCaseOf, Leaves, Move, repeats, sees, goes_in, negates, takes_rule, matches, begins, checks_clause, leaves, closes, Trail, stays, follows}

-- ---- numbers of literals

pub first_with-numbered : (f : Literal → Literal) → ((a : Literal) → (f a).number ≡ a.number) → (n : ℕ) (lits : List Literal) → Numbered n lits → Numbered n (first_with f lits)
first_with-numbered f same n [] h = h
first_with-numbered f same n (a ∷ lits) h = by a.is_done (first_with-numbered f same a.number lits h.1)
  where
    by : (b : Bool) → Numbered a.number (first_with f lits) → Numbered n (if b then a ∷ first_with f lits else f a ∷ lits)
    by true k = (h.0, k)
    by false k = (h.0 ∙ ap suc (sym (same a)), subst (λ (k : ℕ). Numbered k lits) (sym (same a)) h.1)

pub first_with-length : (f : Literal → Literal) (lits : List Literal) → length (first_with f lits) ≡ length lits
first_with-length f [] = refl
first_with-length f (a ∷ lits) = by a.is_done (first_with-length f lits)
  where
    by : (b : Bool) → length (first_with f lits) ≡ length lits → length (if b then a ∷ first_with f lits else f a ∷ lits) ≡ suc (length lits)
    by true k = ap suc k
    by false k = refl

-- ---- lines of literals

pub lines-append : (n : ℕ) (xs ys : List Line) → literal_lines n (xs ++ ys) ≡ literal_lines n xs ++ literal_lines (n + length xs) ys
lines-append n [] ys = ap (λ (k : ℕ). literal_lines k ys) (omega arith)
lines-append n (x ∷ xs) ys = by (is_literal x) (lines-append (suc n) xs ys)
  where
    more : literal_lines (suc n) (xs ++ ys) ≡ literal_lines (suc n) xs ++ literal_lines (suc n + length xs) ys
        → literal_lines (suc n) (xs ++ ys) ≡ literal_lines (suc n) xs ++ literal_lines (n + suc (length xs)) ys
    more k =
        let e : suc n + length xs ≡ n + suc (length xs) = omega arith in
        k ∙ ap (λ (k : ℕ). literal_lines (suc n) xs ++ literal_lines k ys) e

    by : (b : Bool) → literal_lines (suc n) (xs ++ ys) ≡ literal_lines (suc n) xs ++ literal_lines (suc n + length xs) ys
        → (if b then n ∷ literal_lines (suc n) (xs ++ ys) else literal_lines (suc n) (xs ++ ys))
        ≡ (if b then n ∷ literal_lines (suc n) xs else literal_lines (suc n) xs) ++ literal_lines (n + suc (length xs)) ys
    by true k = ap (λ (z : List ℕ). n ∷ z) (more k)
    by false k = more k

pub apart-above : (x y : ℕ) → y < x → nat_eq x y ≡ false
apart-above x y h = grind (arith, nat_tests, h)

pub apart-below : (x y : ℕ) → x < y → nat_eq x y ≡ false
apart-below x y h = grind (arith, nat_tests, h)

-- numbers that rise, the first of them from this one on
abbrev pub Rises : ℕ → List ℕ → Type 0
Rises n [] = ⊤
Rises n (x ∷ xs) = (n ≤ x) × Rises (suc x) xs

pub rises-later : (n m : ℕ) (xs : List ℕ) → n ≤ m → Rises m xs → Rises n xs
rises-later n m [] e h = tt
rises-later n m (x ∷ xs) e h = let first = h.0 in (omega (arith, e, first), h.1)

pub lines-rise : (n : ℕ) (ls : List Line) → Rises n (literal_lines n ls)
lines-rise n [] = tt
lines-rise n (l ∷ ls) = by (is_literal l) (lines-rise (suc n) ls)
  where
    by : (b : Bool) → Rises (suc n) (literal_lines (suc n) ls) → Rises n (if b then n ∷ literal_lines (suc n) ls else literal_lines (suc n) ls)
    by true k = (omega arith, k)
    by false k = rises-later n (suc n) (literal_lines (suc n) ls) (omega arith) k

rises-from : (n i : ℕ) (xs : List ℕ) → Rises n xs → i < length xs → n ≤ number_or (slice_get xs i)
rises-from n i [] h e = absurd (omega (arith, e))
rises-from n zero (x ∷ xs) h e = h.0
rises-from n (suc i) (x ∷ xs) h e =
    let first = h.0 in
    let less : i < length xs = omega (arith, e) in
    let k = rises-from (suc x) i xs h.1 less in omega (arith, first, k)

pub rises-strictly : (n i j : ℕ) (xs : List ℕ) → Rises n xs → i < j → j < length xs → line_of xs i < line_of xs j
rises-strictly n i j [] h e l = absurd (omega (arith, l))
rises-strictly n zero zero (x ∷ xs) h e l = absurd (omega (arith, e))
rises-strictly n zero (suc j) (x ∷ xs) h e l =
    let less : j < length xs = omega (arith, l) in
    let k = rises-from (suc x) j xs h.1 less in omega (arith, k)
rises-strictly n (suc i) zero (x ∷ xs) h e l = absurd (omega (arith, e))
rises-strictly n (suc i) (suc j) (x ∷ xs) h e l =
    let before : i < j = omega (arith, e) in
    let less : j < length xs = omega (arith, l) in rises-strictly (suc x) i j xs h.1 before less

pub one-line : (l : Line) (n : ℕ) → is_literal l ≡ true → literal_lines n (l ∷ []) ≡ n ∷ []
one-line l n e = ap (λ (b : Bool). if b then n ∷ [] else []) e

pub no-line : (l : Line) (n : ℕ) → is_literal l ≡ false → literal_lines n (l ∷ []) ≡ []
no-line l n e = ap (λ (b : Bool). if b then n ∷ [] else []) e

-- ---- each move keeps the count

pub record Counts (v : View) : Type 0 where
  pub numbered : Numbered (length v.literals) v.literals
  pub lines : length (literal_lines 1 v.lines) ≡ length v.literals

add-one-more : (ls : List Line) (l : Line) → is_literal l ≡ true → length (literal_lines 1 (ls ++ l ∷ [])) ≡ suc (length (literal_lines 1 ls))
add-one-more ls l e =
    ap length (lines-append 1 ls (l ∷ [])) ∙ ap (λ (z : List ℕ). length (literal_lines 1 ls ++ z)) (one-line l (1 + length ls) e)
    ∙ length-append (literal_lines 1 ls) ((1 + length ls) ∷ []) ∙ omega arith

add-no-more : (ls : List Line) (l : Line) → is_literal l ≡ false → length (literal_lines 1 (ls ++ l ∷ [])) ≡ length (literal_lines 1 ls)
add-no-more ls l e =
    ap length (lines-append 1 ls (l ∷ [])) ∙ ap (λ (z : List ℕ). length (literal_lines 1 ls ++ z)) (no-line l (1 + length ls) e)
    ∙ ap length (append-nil (literal_lines 1 ls))

with-counts : (f : Literal → Literal) → ((a : Literal) → (f a).number ≡ a.number) → (ls ms : List Line) (lits : List Literal) (ws xs : List Task)
    → length (literal_lines 1 ms) ≡ length (literal_lines 1 ls) → Counts (record { lines = ls; literals = lits; work = ws })
    → Counts (record { lines = ms; literals = first_with f lits; work = xs })
with-counts f same ls ms lits ws xs e h = record {
  numbered = subst (λ (k : ℕ). Numbered k (first_with f lits)) (sym (first_with-length f lits)) (first_with-numbered f same (length lits) lits h.numbered);
  lines = e ∙ h.lines ∙ sym (first_with-length f lits);
}

-- the same literals, and as many lines of literals
same-counts : (v : View) (ms : List Line) (work : List Task) → length (literal_lines 1 ms) ≡ length (literal_lines 1 v.lines) → Counts v
    → Counts (record { lines = ms; literals = v.literals; work = work })
same-counts v ms work e h = record { numbered = h.numbered; lines = e ∙ h.lines }

-- one more literal, with its line
new-counts : (v : View) (l : Line) (one : Literal) (work : List Task) → is_literal l ≡ true → one.number ≡ length v.literals → Counts v
    → Counts (record { lines = v.lines ++ l ∷ []; literals = one ∷ v.literals; work = work })
new-counts v l one work e n h = record {
  numbered = (ap suc (sym n), subst (λ (k : ℕ). Numbered k v.literals) (sym n) h.numbered);
  lines = add-one-more v.lines l e ∙ ap suc h.lines;
}

pub case-is : (checks : Bool) (c : Clause) (l : Line) (is : List FlatItem) → IsCaseOf checks c l is → is_literal l ≡ false
case-is checks c (line.Leaf n) is h = refl
case-is checks c (line.Head n) is h = refl
case-is checks c l is h = absurd h

repeats-counts : (v w : View) → Repeats v w → Counts v → Counts w
repeats-counts v w m h = subst Counts (sym m.next) (by m.lit.positive)
  where
    l : Line
    l = line.Loop m.lit m.one.number

    by : (b : Bool) → Counts (record { lines = v.lines ++ line.Loop m.lit m.one.number ∷ []; literals = if b then first_with looping v.literals else v.literals; work = m.behind })
    by true = with-counts looping (λ a. refl) v.lines (v.lines ++ line.Loop m.lit m.one.number ∷ []) v.literals v.work m.behind (add-no-more v.lines (line.Loop m.lit m.one.number) refl) h
    by false = same-counts v (v.lines ++ line.Loop m.lit m.one.number ∷ []) m.behind (add-no-more v.lines (line.Loop m.lit m.one.number) refl) h

leaves-counts : (v w : View) → Leaves v w → Counts v → Counts w
leaves-counts v w m h = subst Counts (sym m.next) (by (opens v.literals))
  where
    ended : Counts (record { lines = v.lines; literals = first_with finished v.literals; work = m.behind })
    ended = with-counts finished (λ a. refl) v.lines v.lines v.literals v.work m.behind refl h

    by : (lits : List Literal) → Counts (record { lines = v.lines; literals = left_by lits v.literals; work = m.behind })
    by [] = same-counts v v.lines m.behind refl h
    by (a ∷ rest) = moved (moves_mark a rest)
      where
        moved : (b : Bool) → Counts (record { lines = v.lines; literals = if b then first_with looping (first_with finished v.literals) else first_with finished v.literals; work = m.behind })
        moved true = with-counts looping (λ a. refl) v.lines v.lines (first_with finished v.literals) m.behind m.behind refl ended
        moved false = ended

begins-counts : (v : View) (l : Line) (work : List Task) → is_literal l ≡ false → Counts v → Counts (record { lines = v.lines ++ l ∷ []; literals = v.literals; work = work })
begins-counts v l work e h = same-counts v (v.lines ++ l ∷ []) work (add-no-more v.lines l e) h

move-counts : (cs : List Clause) (v w : View) → Move cs v w → Counts v → Counts w
move-counts cs v w (repeats m) h = repeats-counts v w m h
move-counts cs v w (sees m) h = subst Counts (sym m.next) (begins-counts v (line.Seen m.lit m.one.number) m.behind refl h)
move-counts cs v w (goes_in m) h = subst Counts (sym m.next) (new-counts v _ m.one _ refl m.new.number h)
move-counts cs v w (negates m) h = subst Counts (sym m.next) (new-counts v _ m.one _ refl m.new.number h)
move-counts cs v w (takes_rule m) h = subst Counts (sym m.next) (begins-counts v (line.Rule m.atom m.rule m.first) _ refl h)
move-counts cs v w (matches m) h = subst Counts (sym m.next) (same-counts v v.lines _ refl h)
move-counts cs v w (begins m) h = subst Counts (sym m.next) (begins-counts v m.case _ (case-is false m.clause m.case m.items m.is_case) h)
move-counts cs v w (checks_clause m) h =
    let l : Line = line.Check m.rule m.first in
    let one : View = record { lines = v.lines ++ l ∷ []; literals = v.literals; work = m.behind } in
    subst Counts (sym m.next) (begins-counts one m.case _ (case-is true m.clause m.case m.items m.is_case) (begins-counts v l m.behind refl h))
move-counts cs v w (leaves m) h = leaves-counts v w m h
move-counts cs v w (closes m) h = subst Counts (sym m.next) (same-counts v v.lines _ refl h)

pub trail-counts : (cs : List Clause) (start v : View) → Trail cs start v → Counts start → Counts v
trail-counts cs start _ stays h = h
trail-counts cs start _ (follows v w t m) h = move-counts cs v w m (trail-counts cs start v t h)
