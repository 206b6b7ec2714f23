-- The literals of a view are numbered in the order of their lines, and so are the cases.
use Rattle.std.specs.Prelude.{◌≡◌, ⊤, ℕ, zero, suc, ◌+◌, ◌<◌, ◌≤◌, nat_eq, Bool, true, false, if◌then◌else◌, List, [], ◌∷◌, ◌++◌, map, drop, slice_get, length}
use Rattle.std.proofs.Common.{◌∙◌, refl, ap, sym, subst, arith}
use Rattle.std.proofs.lemmas.Bool.Decides.{nat_tests}
use Rattle.std.proofs.lemmas.List.{length-append, append-nil}
use Rattle.scasp_lines.specs.Dues.{Due, fact, goal}
use Rattle.scasp_search_rules.specs.declared.states.lines.Line.{Line}
use Rattle.scasp_search_rules.specs.declared.states.lines.Line.TheVariants as line
use Rattle.scasp_search_rules.specs.declared.states.state.Literal.{Literal}
use Rattle.scasp_search_rules.specs.declared.states.state.State.{State}
use Rattle.scasp_search_rules.specs.Successors.Calls.{looping, finished}
use Rattle.scasp_search_rules.specs.Successors.Trees.{is_literal, literal_lines, line_of, number_or}
use Rattle.scasp_syntax.specs.Programs.{pred_of, rules_of}
use Rattle.scasp_syntax.specs.Values.{Sub}
use Rattle.scasp_syntax.specs.declared.atom.Atom.{Atom}
use Rattle.scasp_syntax.specs.declared.program.Program.{Program}
use Rattle.scasp_law_headed.proofs.Views.{Case, IsCaseOf, Leaves, Move, Numbered, Repeats, Trail, View, Want, begins, checks_clause, closes, first_with, follows, gives_up, goes_in, leaves, left_by, moves_mark, negates, opens, rematches, repeats, rests, sees, stays, takes_rule, tells_test, tells_void, want_check, want_close, want_leave, want_match, want_node, want_rule, want_void, wanted}
use Rattle.scasp_law_headed.specs.Reading.{body_dues, case_lines, is_case_line}

-- ---- numbers of literals

pub first_with-numbered : (f : Literal → Literal) → ((a : Literal) → (f a).number ≡ a.number) → (n : ℕ) (lits : List Literal) → Numbered n lits → Numbered n (first_with f lits)
first_with-numbered f same n [] h = h
first_with-numbered f same n (a ∷ lits) h = by a.is_done (first_with-numbered f same a.number lits h.1)
  where
    by : (b : Bool) → Numbered a.number (first_with f lits) → Numbered n (if b then a ∷ first_with f lits else f a ∷ lits)
    by true k = (h.0, k)
    by false k = (h.0 ∙ ap suc (sym (same a)), subst (λ (k : ℕ). Numbered k lits) (sym (same a)) h.1)

pub first_with-length : (f : Literal → Literal) (lits : List Literal) → length (first_with f lits) ≡ length lits
first_with-length f [] = refl
first_with-length f (a ∷ lits) = by a.is_done (first_with-length f lits)
  where
    by : (b : Bool) → length (first_with f lits) ≡ length lits → length (if b then a ∷ first_with f lits else f a ∷ lits) ≡ suc (length lits)
    by true k = ap suc k
    by false k = refl

-- ---- lines of literals

pub lines-append : (n : ℕ) (xs ys : List Line) → literal_lines n (xs ++ ys) ≡ literal_lines n xs ++ literal_lines (n + length xs) ys
lines-append n [] ys = ap (λ (k : ℕ). literal_lines k ys) (omega arith)
lines-append n (x ∷ xs) ys = by (is_literal x) (lines-append (suc n) xs ys)
  where
    more : literal_lines (suc n) (xs ++ ys) ≡ literal_lines (suc n) xs ++ literal_lines (suc n + length xs) ys
        → literal_lines (suc n) (xs ++ ys) ≡ literal_lines (suc n) xs ++ literal_lines (n + suc (length xs)) ys
    more k =
        let e : suc n + length xs ≡ n + suc (length xs) = omega arith in
        k ∙ ap (λ (k : ℕ). literal_lines (suc n) xs ++ literal_lines k ys) e

    by : (b : Bool) → literal_lines (suc n) (xs ++ ys) ≡ literal_lines (suc n) xs ++ literal_lines (suc n + length xs) ys
        → (if b then n ∷ literal_lines (suc n) (xs ++ ys) else literal_lines (suc n) (xs ++ ys))
        ≡ (if b then n ∷ literal_lines (suc n) xs else literal_lines (suc n) xs) ++ literal_lines (n + suc (length xs)) ys
    by true k = ap (λ (z : List ℕ). n ∷ z) (more k)
    by false k = more k

pub cases-append : (n : ℕ) (xs ys : List Line) → case_lines n (xs ++ ys) ≡ case_lines n xs ++ case_lines (n + length xs) ys
cases-append n [] ys = ap (λ (k : ℕ). case_lines k ys) (omega arith)
cases-append n (x ∷ xs) ys = by (is_case_line x) (cases-append (suc n) xs ys)
  where
    more : case_lines (suc n) (xs ++ ys) ≡ case_lines (suc n) xs ++ case_lines (suc n + length xs) ys
        → case_lines (suc n) (xs ++ ys) ≡ case_lines (suc n) xs ++ case_lines (n + suc (length xs)) ys
    more k =
        let e : suc n + length xs ≡ n + suc (length xs) = omega arith in
        k ∙ ap (λ (k : ℕ). case_lines (suc n) xs ++ case_lines k ys) e

    by : (b : Bool) → case_lines (suc n) (xs ++ ys) ≡ case_lines (suc n) xs ++ case_lines (suc n + length xs) ys
        → (if b then n ∷ case_lines (suc n) (xs ++ ys) else case_lines (suc n) (xs ++ ys))
        ≡ (if b then n ∷ case_lines (suc n) xs else case_lines (suc n) xs) ++ case_lines (n + suc (length xs)) ys
    by true k = ap (λ (z : List ℕ). n ∷ z) (more k)
    by false k = more k

pub apart-above : (x y : ℕ) → y < x → nat_eq x y ≡ false
apart-above x y h = grind (arith, nat_tests, h)

pub apart-below : (x y : ℕ) → x < y → nat_eq x y ≡ false
apart-below x y h = grind (arith, nat_tests, h)

-- numbers that rise, the first of them from this one on
abbrev pub Rises : ℕ → List ℕ → Type 0
Rises n [] = ⊤
Rises n (x ∷ xs) = (n ≤ x) × Rises (suc x) xs

pub rises-later : (n m : ℕ) (xs : List ℕ) → n ≤ m → Rises m xs → Rises n xs
rises-later n m [] e h = tt
rises-later n m (x ∷ xs) e h = let first = h.0 in (omega (arith, e, first), h.1)

pub lines-rise : (n : ℕ) (ls : List Line) → Rises n (literal_lines n ls)
lines-rise n [] = tt
lines-rise n (l ∷ ls) = by (is_literal l) (lines-rise (suc n) ls)
  where
    by : (b : Bool) → Rises (suc n) (literal_lines (suc n) ls) → Rises n (if b then n ∷ literal_lines (suc n) ls else literal_lines (suc n) ls)
    by true k = (omega arith, k)
    by false k = rises-later n (suc n) (literal_lines (suc n) ls) (omega arith) k

pub cases-rise : (n : ℕ) (ls : List Line) → Rises n (case_lines n ls)
cases-rise n [] = tt
cases-rise n (l ∷ ls) = by (is_case_line l) (cases-rise (suc n) ls)
  where
    by : (b : Bool) → Rises (suc n) (case_lines (suc n) ls) → Rises n (if b then n ∷ case_lines (suc n) ls else case_lines (suc n) ls)
    by true k = (omega arith, k)
    by false k = rises-later n (suc n) (case_lines (suc n) ls) (omega arith) k

rises-from : (n i : ℕ) (xs : List ℕ) → Rises n xs → i < length xs → n ≤ number_or (slice_get xs i)
rises-from n i [] h e = absurd (omega (arith, e))
rises-from n zero (x ∷ xs) h e = h.0
rises-from n (suc i) (x ∷ xs) h e =
    let first = h.0 in
    let less : i < length xs = omega (arith, e) in
    let k = rises-from (suc x) i xs h.1 less in omega (arith, first, k)

pub rises-strictly : (n i j : ℕ) (xs : List ℕ) → Rises n xs → i < j → j < length xs → line_of xs i < line_of xs j
rises-strictly n i j [] h e l = absurd (omega (arith, l))
rises-strictly n zero zero (x ∷ xs) h e l = absurd (omega (arith, e))
rises-strictly n zero (suc j) (x ∷ xs) h e l =
    let less : j < length xs = omega (arith, l) in
    let k = rises-from (suc x) j xs h.1 less in omega (arith, k)
rises-strictly n (suc i) zero (x ∷ xs) h e l = absurd (omega (arith, e))
rises-strictly n (suc i) (suc j) (x ∷ xs) h e l =
    let before : i < j = omega (arith, e) in
    let less : j < length xs = omega (arith, l) in rises-strictly (suc x) i j xs h.1 before less

pub one-line : (l : Line) (n : ℕ) → is_literal l ≡ true → literal_lines n (l ∷ []) ≡ n ∷ []
one-line l n e = ap (λ (b : Bool). if b then n ∷ [] else []) e

pub no-line : (l : Line) (n : ℕ) → is_literal l ≡ false → literal_lines n (l ∷ []) ≡ []
no-line l n e = ap (λ (b : Bool). if b then n ∷ [] else []) e

-- ---- each move keeps the count

pub record Counts (a : View) : Type 0 where
  pub numbered : Numbered (length a.literals) a.literals
  pub lines : length (literal_lines 1 a.lines) ≡ length a.literals

add-one-more : (ls : List Line) (l : Line) → is_literal l ≡ true → length (literal_lines 1 (ls ++ l ∷ [])) ≡ suc (length (literal_lines 1 ls))
add-one-more ls l e =
    ap length (lines-append 1 ls (l ∷ [])) ∙ ap (λ (z : List ℕ). length (literal_lines 1 ls ++ z)) (one-line l (1 + length ls) e)
    ∙ length-append (literal_lines 1 ls) ((1 + length ls) ∷ []) ∙ omega arith

add-no-more : (ls : List Line) (l : Line) → is_literal l ≡ false → length (literal_lines 1 (ls ++ l ∷ [])) ≡ length (literal_lines 1 ls)
add-no-more ls l e =
    ap length (lines-append 1 ls (l ∷ [])) ∙ ap (λ (z : List ℕ). length (literal_lines 1 ls ++ z)) (no-line l (1 + length ls) e)
    ∙ ap length (append-nil (literal_lines 1 ls))

with-counts : (f : Literal → Literal) → ((a : Literal) → (f a).number ≡ a.number) → (ls ms : List Line) (lits : List Literal) (cs ds : List Case) (ws xs : List Want)
    → length (literal_lines 1 ms) ≡ length (literal_lines 1 ls) → Counts (record { lines = ls; literals = lits; cases = cs; wants = ws })
    → Counts (record { lines = ms; literals = first_with f lits; cases = ds; wants = xs })
with-counts f same ls ms lits cs ds ws xs e h = record {
  numbered = subst (λ (k : ℕ). Numbered k (first_with f lits)) (sym (first_with-length f lits)) (first_with-numbered f same (length lits) lits h.numbered);
  lines = e ∙ h.lines ∙ sym (first_with-length f lits);
}

-- the same literals, and as many lines of literals
same-counts : (a : View) (ms : List Line) (cs : List Case) (ws : List Want) → length (literal_lines 1 ms) ≡ length (literal_lines 1 a.lines) → Counts a
    → Counts (record { lines = ms; literals = a.literals; cases = cs; wants = ws })
same-counts a ms cs ws e h = record { numbered = h.numbered; lines = e ∙ h.lines }

-- one more literal, with its line
new-counts : (a : View) (l : Line) (one : Literal) (cs : List Case) (ws : List Want) → is_literal l ≡ true → one.number ≡ length a.literals → Counts a
    → Counts (record { lines = a.lines ++ l ∷ []; literals = one ∷ a.literals; cases = cs; wants = ws })
new-counts a l one cs ws e n h = record {
  numbered = (ap suc (sym n), subst (λ (k : ℕ). Numbered k a.literals) (sym n) h.numbered);
  lines = add-one-more a.lines l e ∙ ap suc h.lines;
}

line-counts : (a : View) (l : Line) (cs : List Case) (ws : List Want) → is_literal l ≡ false → Counts a → Counts (record { lines = a.lines ++ l ∷ []; literals = a.literals; cases = cs; wants = ws })
line-counts a l cs ws e h = same-counts a (a.lines ++ l ∷ []) cs ws (add-no-more a.lines l e) h

module _ (p : Program) (f : State) (v : Sub) where
  pub case-is : (checks : Bool) (k first : ℕ) (l : Line) (ds : List Due) → IsCaseOf p f v checks k first l ds → (is_literal l ≡ false) × (is_case_line l ≡ true)
  case-is checks k first (line.Leaf n) ds h = (refl, refl)
  case-is checks k first (line.Head n) ds h = (refl, refl)
  case-is checks k first l ds h = absurd h

  repeats-counts : (a b : View) → Repeats p f v a b → Counts a → Counts b
  repeats-counts a b m h = subst Counts (sym m.next) (by m.lit.positive)
    where
      by : (c : Bool) → Counts (record { lines = a.lines ++ line.Loop m.lit m.one.number ∷ []; literals = if c then first_with looping a.literals else a.literals; cases = a.cases; wants = m.behind })
      by true = with-counts looping (λ x. refl) a.lines (a.lines ++ line.Loop m.lit m.one.number ∷ []) a.literals a.cases a.cases a.wants m.behind (add-no-more a.lines (line.Loop m.lit m.one.number) refl) h
      by false = line-counts a (line.Loop m.lit m.one.number) a.cases m.behind refl h

  leaves-counts : (a b : View) → Leaves p f v a b → Counts a → Counts b
  leaves-counts a b m h = subst Counts (sym m.next) (by (opens a.literals))
    where
      ended : Counts (record { lines = a.lines; literals = first_with finished a.literals; cases = a.cases; wants = m.behind })
      ended = with-counts finished (λ x. refl) a.lines a.lines a.literals a.cases a.cases a.wants m.behind refl h

      by : (lits : List Literal) → Counts (record { lines = a.lines; literals = left_by lits a.literals; cases = a.cases; wants = m.behind })
      by [] = same-counts a a.lines a.cases m.behind refl h
      by (x ∷ rest) = moved (moves_mark x rest)
        where
          moved : (c : Bool) → Counts (record { lines = a.lines; literals = if c then first_with looping (first_with finished a.literals) else first_with finished a.literals; cases = a.cases; wants = m.behind })
          moved true = with-counts looping (λ x. refl) a.lines a.lines (first_with finished a.literals) a.cases a.cases m.behind m.behind refl ended
          moved false = ended

  move-counts : (a b : View) → Move p f v a b → Counts a → Counts b
  move-counts a b (rests e) h = subst Counts e h
  move-counts a b (repeats m) h = repeats-counts a b m h
  move-counts a b (sees m) h = subst Counts (sym m.next) (line-counts a (line.Seen m.lit m.one.number) a.cases m.behind refl h)
  move-counts a b (goes_in m) h = subst Counts (sym m.next) (new-counts a _ m.one a.cases _ refl m.new.number h)
  move-counts a b (negates m) h = subst Counts (sym m.next) (new-counts a _ m.one a.cases _ refl m.new.number h)
  move-counts a b (tells_test m) h = subst Counts (sym m.next) (line-counts a (line.Test m.test) a.cases m.behind refl h)
  move-counts a b (takes_rule m) h = subst Counts (sym m.next) (line-counts a (line.Rule m.atom m.rule m.first) a.cases _ refl h)
  move-counts a b (rematches m) h = subst Counts (sym m.next) (same-counts a a.lines a.cases _ refl h)
  move-counts a b (gives_up m) h = subst Counts (sym m.next) (same-counts a a.lines a.cases _ refl h)
  move-counts a b (tells_void m) h = subst Counts (sym m.next) (line-counts a line.Void a.cases m.behind refl h)
  move-counts a b (begins m) h = subst Counts (sym m.next) (line-counts a m.case _ _ (case-is false m.rule m.first m.case m.dues m.is_case).0 h)
  move-counts a b (checks_clause m) h =
      let l : Line = line.Check m.rule m.first in
      let one : View = record { lines = a.lines ++ l ∷ []; literals = a.literals; cases = a.cases; wants = m.behind } in
      subst Counts (sym m.next) (line-counts one m.case _ _ (case-is true m.rule m.first m.case m.dues m.is_case).0 (line-counts a l a.cases m.behind refl h))
  move-counts a b (leaves m) h = leaves-counts a b m h
  move-counts a b (closes m) h = subst Counts (sym m.next) (same-counts a a.lines _ _ refl h)

  pub trail-counts : (start a : View) → Trail p f v start a → Counts start → Counts a
  trail-counts start _ stays h = h
  trail-counts start _ (follows a b t m) h = move-counts a b m (trail-counts start a t h)

-- ---- each open case has its end among what is left to do

abbrev pub closing : List Want → ℕ
closing [] = 0
closing (want_node d ∷ ts) = closing ts
closing (want_rule a k ∷ ts) = closing ts
closing (want_match bs ps k first ∷ ts) = closing ts
closing (want_void ∷ ts) = closing ts
closing (want_check k h ∷ ts) = closing ts
closing (want_leave ∷ ts) = closing ts
closing (want_close ∷ ts) = suc (closing ts)

pub closing-wanted : (ds : List Due) (ts : List Want) → closing (wanted ds ++ ts) ≡ closing ts
closing-wanted [] ts = refl
closing-wanted (d ∷ ds) ts = closing-wanted ds ts

closing-rules : (a : Atom) (ks : List ℕ) (ts : List Want) → closing (map (want_rule a) ks ++ ts) ≡ closing ts
closing-rules a [] ts = refl
closing-rules a (k ∷ ks) ts = closing-rules a ks ts

abbrev pub Closed : View → Type 0
Closed a = length a.cases ≡ closing a.wants

closed-by : (a : View) (w : Want) (behind : List Want) → a.wants ≡ w ∷ behind → closing (w ∷ behind) ≡ closing behind → Closed a → length a.cases ≡ closing behind
closed-by a w behind e n h = h ∙ ap closing e ∙ n

one-less : (cs : List Case) (n : ℕ) → length cs ≡ suc n → length (drop 1 cs) ≡ n
one-less [] n e = absurd (cc e)
one-less (c ∷ cs) n e = cc e

module _ (p : Program) (f : State) (v : Sub) where
  move-closed : (a b : View) → Move p f v a b → Closed a → Closed b
  move-closed a b (rests e) h = subst Closed e h
  move-closed a b (repeats m) h = subst Closed (sym m.next) (closed-by a (want_node (goal m.lit)) m.behind m.wants refl h)
  move-closed a b (sees m) h = subst Closed (sym m.next) (closed-by a (want_node (goal m.lit)) m.behind m.wants refl h)
  move-closed a b (goes_in m) h =
      subst Closed (sym m.next) (closed-by a (want_node (goal m.lit)) m.behind m.wants refl h ∙ sym (closing-wanted (body_dues p f v m.rule m.first) (want_leave ∷ m.behind)))
  move-closed a b (negates m) h =
      subst Closed (sym m.next) (closed-by a (want_node (goal m.lit)) m.behind m.wants refl h ∙ sym (closing-rules m.lit.atom (rules_of p (pred_of m.lit.atom)) (want_leave ∷ m.behind)))
  move-closed a b (tells_test m) h = subst Closed (sym m.next) (closed-by a (want_node (fact m.due)) m.behind m.wants refl h)
  move-closed a b (takes_rule m) h = subst Closed (sym m.next) (closed-by a (want_rule m.atom m.rule) m.behind m.wants refl h)
  move-closed a b (rematches m) h = subst Closed (sym m.next) (closed-by a (want_match m.bound m.pairs m.rule m.first) m.behind m.wants refl h)
  move-closed a b (gives_up m) h = subst Closed (sym m.next) (closed-by a (want_match m.bound m.pairs m.rule m.first) m.behind m.wants refl h)
  move-closed a b (tells_void m) h = subst Closed (sym m.next) (closed-by a want_void m.behind m.wants refl h)
  move-closed a b (begins m) h =
      subst Closed (sym m.next) (ap suc (closed-by a (want_match m.bound m.pairs m.rule m.first) m.behind m.wants refl h) ∙ sym (closing-wanted m.dues (want_close ∷ m.behind)))
  move-closed a b (checks_clause m) h =
      subst Closed (sym m.next) (ap suc (closed-by a (want_check m.rule m.checks_head) m.behind m.wants refl h) ∙ sym (closing-wanted m.dues (want_close ∷ m.behind)))
  move-closed a b (leaves m) h = subst Closed (sym m.next) (closed-by a want_leave m.behind m.wants refl h)
  move-closed a b (closes m) h = subst Closed (sym m.next) (one-less a.cases (closing m.behind) (h ∙ ap closing m.wants))

  pub trail-closed : (start a : View) → Trail p f v start a → Closed start → Closed a
  trail-closed start _ stays h = h
  trail-closed start _ (follows a b t m) h = move-closed a b m (trail-closed start a t h)
