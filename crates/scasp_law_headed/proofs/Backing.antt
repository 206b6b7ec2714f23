-- Backward along the moves: where the lines to come fit what is left to do behind a move, they do before it.
use Rattle.std.specs.Prelude.{◌≡◌, ⊤, ℕ, suc, ◌+◌, ◌<◌, ◌≤◌, nat_eq, Bool, true, false, ◌||◌, not, if◌then◌else◌, Some, List, [], ◌∷◌, ◌++◌, map, slice_get, drop, length}
use Rattle.std.specs.List.{filter, list_all, list_any}
use Rattle.std.proofs.Common.{◌∙◌, refl, ap, sym, subst, arith, append_assoc}
use Rattle.std.proofs.lemmas.Bool.{and_from, and_parts, cond-true, cond-false, eq-eqb, eqb-true, or_cases, or_left, or_right}
use Rattle.std.proofs.Common.{◌⊎◌, inl, inr}
use Rattle.std.proofs.lemmas.List.{length-append}
use Rattle.std.proofs.Math.Seq.{drop-append_seam}
use Rattle.scasp_checker_rules.specs.Ancestors.{entry_at, is_negated_before}
use Rattle.scasp_lines.specs.Dues.{goal, fact}
use Rattle.scasp_lines.specs.Places.{Above, Around}
use Rattle.scasp_lines.proofs.PartLemmas.{nat-self}
use Rattle.scasp_search_rules.specs.Successors.Calls.{looping, finished, vars_of_clause}
use Rattle.scasp_search_rules.specs.Successors.Items.{body_of}
use Rattle.scasp_search_rules.specs.Successors.Reading.{among}
use Rattle.scasp_search_rules.specs.Successors.Trees.{Built, built, put, is_literal, line_of, literal_lines, number_or}
use Rattle.scasp_search_rules.specs.declared.states.lines.Line.{Line}
use Rattle.scasp_search_rules.specs.declared.states.lines.Line.TheVariants as line
use Rattle.scasp_search_rules.specs.declared.states.state.Literal.{Literal}
use Rattle.scasp_search_rules.specs.declared.states.state.State.{State}
use Rattle.scasp_syntax.specs.Programs.{rules_of, pred_of}
use Rattle.scasp_syntax.specs.Tm.{Tms}
use Rattle.scasp_syntax.specs.Values.{Sub, all_under}
use Rattle.scasp_syntax.specs.declared.atom.Lit.{Lit}
use Rattle.scasp_syntax.specs.declared.program.Program.{Program}
use Rattle.scasp_unify.specs.Negations.{new_parts}
use Rattle.scasp_law_headed.proofs.Counting.{Counts, Rises, apart-above, case-is, cases-append, lines-append, lines-rise, rises-strictly}
use Rattle.scasp_law_headed.proofs.Fitting.{Fits, fit-begin, fit-check, fit-gives_up, fit-loop, fit-negated, fit-positive, fit-rematch, fit-rule, fit-seen, fit-test, fit-void}
use Rattle.scasp_law_headed.proofs.Shapes.{entry, rounds}
use Rattle.scasp_law_headed.specs.Good.{Enters, LoopsBack, SeesLine, above, apart_lines, around, ats, cats, first_tree, is_literal_line, node_at}
use Rattle.scasp_law_headed.proofs.Views.{Begins, Case, Checks, GivesUp, GoesIn, IsNew, Leaves, Move, Negates, Numbered, Rematches, Repeats, Sees, TakesRule, TellsTest, TellsVoid, View, Want, adds, apart_cases, begins, case_numbers, checks_clause, closes, first_with, gives_up, goes_in, is_negative, leaves, left_by, moves_mark, negates, opens, rematches, repeats, rests, sees, takes_rule, tells_test, tells_void, want_check, want_close, want_leave, want_match, want_node, want_rule, want_void, wanted}
use Rattle.scasp_law_headed.specs.Reading.{body_dues, case_lines, cases_of, is_case_line, is_plain_rule, reading}

-- ---- the literals that are open

abbrev pub Falls : ℕ → List Literal → Type 0
Falls n [] = ⊤
Falls n (a ∷ lits) = (a.number < n) × Falls a.number lits

falls-below : (n m : ℕ) (lits : List Literal) → n ≤ m → Falls n lits → Falls m lits
falls-below n m [] e h = tt
falls-below n m (a ∷ lits) e h = let first = h.0 in (omega (arith, e, first), h.1)

pub opens-fall : (n : ℕ) (lits : List Literal) → Numbered n lits → Falls n (opens lits)
opens-fall n [] h = tt
opens-fall n (a ∷ lits) h = by a.is_done (opens-fall a.number lits h.1)
  where
    here : n ≡ suc a.number
    here = h.0

    by : (b : Bool) → Falls a.number (opens lits) → Falls n (if not b then a ∷ opens lits else opens lits)
    by true k = falls-below a.number n (opens lits) (omega (arith, here)) k
    by false k = (omega (arith, here), k)

falls-among : (n : ℕ) (inner : List Literal) (one : Literal) (outer : List Literal) → Falls n (inner ++ one ∷ outer) → one.number < n
falls-among n [] one outer h = h.0
falls-among n (a ∷ lits) one outer h =
    let first = h.0 in
    let k = falls-among a.number lits one outer h.1 in omega (arith, first, k)

abbrev pub entries : List ℕ → List Literal → List Above
entries ns lits = map (entry ns) lits

pub opens-finished : (lits : List Literal) → opens (first_with finished lits) ≡ drop 1 (opens lits)
opens-finished [] = refl
opens-finished (a ∷ lits) = by a.is_done refl (opens-finished lits)
  where
    by : (b : Bool) → a.is_done ≡ b → opens (first_with finished lits) ≡ drop 1 (opens lits)
        → opens (if b then a ∷ first_with finished lits else finished a ∷ lits) ≡ drop 1 (if not b then a ∷ opens lits else opens lits)
    by true e k = ap (λ (z : Bool). if not z then a ∷ opens (first_with finished lits) else opens (first_with finished lits)) e ∙ k
    by false e k = refl

pub entries-marked : (ns : List ℕ) (lits : List Literal) → entries ns (opens (first_with looping lits)) ≡ entries ns (opens lits)
entries-marked ns [] = refl
entries-marked ns (a ∷ lits) = by a.is_done refl (entries-marked ns lits)
  where
    by : (b : Bool) → a.is_done ≡ b → entries ns (opens (first_with looping lits)) ≡ entries ns (opens lits)
        → entries ns (opens (if b then a ∷ first_with looping lits else looping a ∷ lits)) ≡ entries ns (if not b then a ∷ opens lits else opens lits)
    by true e k =
        ap (λ (z : Bool). entries ns (if not z then a ∷ opens (first_with looping lits) else opens (first_with looping lits))) e ∙ k
    by false e k = ap (λ (z : Bool). entries ns (if not z then looping a ∷ opens lits else opens lits)) e

entries-dropped : (ns : List ℕ) (lits : List Literal) → entries ns (drop 1 lits) ≡ drop 1 (entries ns lits)
entries-dropped ns [] = refl
entries-dropped ns (a ∷ lits) = refl

pub entries-left : (ns : List ℕ) (lits : List Literal) → entries ns (opens (left_by (opens lits) lits)) ≡ drop 1 (entries ns (opens lits))
entries-left ns lits = by (opens lits) refl
  where
    ended : entries ns (opens (first_with finished lits)) ≡ drop 1 (entries ns (opens lits))
    ended = ap (entries ns) (opens-finished lits) ∙ entries-dropped ns (opens lits)

    moved : (b : Bool) → entries ns (opens (if b then first_with looping (first_with finished lits) else first_with finished lits)) ≡ drop 1 (entries ns (opens lits))
    moved true = entries-marked ns (first_with finished lits) ∙ ended
    moved false = ended

    by : (bs : List Literal) → opens lits ≡ bs → entries ns (opens (left_by bs lits)) ≡ drop 1 (entries ns (opens lits))
    by [] e = ap (entries ns) e ∙ ap (λ (z : List Literal). drop 1 (entries ns z)) (sym e)
    by (b ∷ bs) e = moved (moves_mark b bs)

-- ---- the literal that a loop names

module _ (ns : List ℕ) (rises : Rises 1 ns) where
  later : (a b : Literal) → b.number < a.number → a.number < length ns → nat_eq (line_of ns a.number) (line_of ns b.number) ≡ false
  later a b e l = apart-above (line_of ns a.number) (line_of ns b.number) (rises-strictly 1 b.number a.number ns rises e l)

  entry-found : (n : ℕ) (inner : List Literal) (one : Literal) (outer : List Literal) → Falls n (inner ++ one ∷ outer) → n ≤ length ns
      → entry_at (line_of ns one.number) (entries ns (inner ++ one ∷ outer)) ≡ Some (entry ns one)
  entry-found n [] one outer h l =
      cond-true (nat_eq (line_of ns one.number) (line_of ns one.number)) (Some (entry ns one)) (entry_at (line_of ns one.number) (entries ns outer)) (nat-self (line_of ns one.number))
  entry-found n (a ∷ lits) one outer h l =
      let first : a.number < n = h.0 in
      let within : a.number ≤ length ns = omega (arith, first, l) in
      let less : a.number < length ns = omega (arith, first, l) in
      cond-false (nat_eq (line_of ns a.number) (line_of ns one.number)) (Some (entry ns a)) (entry_at (line_of ns one.number) (entries ns (lits ++ one ∷ outer)))
      (later a one (falls-among a.number lits one outer h.1) less)
      ∙ entry-found a.number lits one outer h.1 within

  negated-before : (n : ℕ) (inner : List Literal) (one : Literal) (outer : List Literal) → Falls n (inner ++ one ∷ outer) → n ≤ length ns
      → list_any is_negative inner ≡ true → is_negated_before (line_of ns one.number) (entries ns (inner ++ one ∷ outer)) ≡ true
  negated-before n [] one outer h l e = absurd (cc e)
  negated-before n (a ∷ lits) one outer h l e =
      let first : a.number < n = h.0 in
      let within : a.number ≤ length ns = omega (arith, first, l) in
      let less : a.number < length ns = omega (arith, first, l) in
      let to : ℕ = line_of ns one.number in
      let rest : Bool = is_negated_before to (entries ns (lits ++ one ∷ outer)) in
      cond-false (nat_eq (line_of ns a.number) to) false (not a.lit.positive || rest) (later a one (falls-among a.number lits one outer h.1) less)
      ∙ by a.lit.positive e (λ f. negated-before a.number lits one outer h.1 within f)
    where
      by : (b : Bool) → (not b || list_any is_negative lits) ≡ true
          → (list_any is_negative lits ≡ true → is_negated_before (line_of ns one.number) (entries ns (lits ++ one ∷ outer)) ≡ true)
          → (not b || is_negated_before (line_of ns one.number) (entries ns (lits ++ one ∷ outer))) ≡ true
      by true e k = k e
      by false e k = refl

  pub loops-back : (lits : List Literal) (n : ℕ) (lit : Lit) (inner : List Literal) (one : Literal) (outer : List Literal) → Falls n lits → n ≤ length ns
      → lits ≡ inner ++ one ∷ outer → one.lit ≡ lit → (lit.positive ≡ true → list_any is_negative inner ≡ true)
      → LoopsBack (entries ns lits) lit (line_of ns one.number)
  loops-back lits n lit inner one outer h l e same crosses =
      let f : Falls n (inner ++ one ∷ outer) = subst (Falls n) e h in
      subst (λ (z : List Literal). LoopsBack (entries ns z) lit (line_of ns one.number)) (sym e) (record {
        entry = entry ns one;
        found = entry-found n inner one outer f l;
        sign = ap (λ (k : Lit). k.positive) same;
        same = ap (λ (k : Lit). k.atom) same;
        crosses = λ p. negated-before n inner one outer f l (crosses p);
      })

-- ---- the next line

get-seam : {A : Type 0} (xs : List A) (y : A) (ys : List A) → slice_get (xs ++ y ∷ ys) (length xs) ≡ Some y
get-seam [] y ys = refl
get-seam (x ∷ xs) y ys = get-seam xs y ys

pub long-one : {A : Type 0} (xs : List A) (y : A) → length (xs ++ y ∷ []) ≡ suc (length xs)
long-one [] y = refl
long-one (x ∷ xs) y = ap suc (long-one xs y)

-- the lines in the whole list, those so far
abbrev pub Begun : List Line → List Line → Type 0
Begun ls xs = ls ≡ xs ++ drop (length xs) ls

-- this line comes next
pub record IsNext (ls xs : List Line) (l : Line) : Type 0 where
  pub begun : Begun ls xs
  pub rest : drop (length xs) ls ≡ l ∷ drop (length (xs ++ l ∷ [])) ls
  pub there : slice_get ls (length xs) ≡ Some l

pub next-line : (ls xs : List Line) (l : Line) → Begun ls (xs ++ l ∷ []) → IsNext ls xs l
next-line ls xs l h =
    let back : List Line = drop (length (xs ++ l ∷ [])) ls in
    let all : ls ≡ xs ++ l ∷ back = h ∙ append_assoc xs (l ∷ []) back in
    let rest : drop (length xs) ls ≡ l ∷ back = ap (drop (length xs)) all ∙ drop-append_seam xs (l ∷ back) in
    record {
      begun = all ∙ ap (λ (z : List Line). xs ++ z) (sym rest);
      rest = rest;
      there = ap (λ (z : List Line). slice_get z (length xs)) all ∙ get-seam xs l back;
    }

-- ---- cases by their lines

pub apart-rounds : (ms : List ℕ) (cs : List Case) → apart_lines (rounds ms cs) ≡ map (line_of ms) (apart_cases cs)
apart-rounds ms [] = refl
apart-rounds ms (c ∷ cs) = by c.plain (apart-rounds ms cs)
  where
    by : (b : Bool) → apart_lines (rounds ms cs) ≡ map (line_of ms) (apart_cases cs)
        → map (λ (d : Around). d.at) (if not b then record { at = line_of ms c.number; plain = c.plain } ∷ filter (λ d. not d.plain) (rounds ms cs) else filter (λ d. not d.plain) (rounds ms cs))
        ≡ map (line_of ms) (map (λ (d : Case). d.number) (if not b then c ∷ filter (λ d. not d.plain) cs else filter (λ d. not d.plain) cs))
    by true k = k
    by false k = ap (λ (z : List ℕ). line_of ms c.number ∷ z) k

rounds-at : (ms : List ℕ) (cs : List Case) → map (λ (d : Around). d.at) (rounds ms cs) ≡ map (line_of ms) (case_numbers cs)
rounds-at ms [] = refl
rounds-at ms (c ∷ cs) = ap (λ (z : List ℕ). line_of ms c.number ∷ z) (rounds-at ms cs)

among-mapped : (g : ℕ → ℕ) (k : ℕ) (xs : List ℕ) → among k xs ≡ true → among (g k) (map g xs) ≡ true
among-mapped g k [] e = absurd (cc e)
among-mapped g k (x ∷ xs) e = by (or_cases (nat_eq k x) (among k xs) e) (among-mapped g k xs)
  where
    by : (nat_eq k x ≡ true) ⊎ (among k xs ≡ true) → (among k xs ≡ true → among (g k) (map g xs) ≡ true) → (nat_eq (g k) (g x) || among (g k) (map g xs)) ≡ true
    by (inl h) rec = or_left (nat_eq (g k) (g x)) (among (g k) (map g xs)) (eq-eqb (g k) (g x) (ap g (eqb-true k x h)))
    by (inr h) rec = or_right (nat_eq (g k) (g x)) (among (g k) (map g xs)) (rec h)

-- a case that is open is around
pub scope-rounds : (ms : List ℕ) (cs : List Case) (ks : List ℕ) → list_all (λ k. among k (case_numbers cs)) ks ≡ true
    → list_all (λ k. among (line_of ms k) (map (λ (d : Around). d.at) (rounds ms cs))) ks ≡ true
scope-rounds ms cs [] e = refl
scope-rounds ms cs (k ∷ ks) e =
    let q = and_parts (among k (case_numbers cs)) (list_all (λ k. among k (case_numbers cs)) ks) e in
    and_from (among (line_of ms k) (map (λ (d : Around). d.at) (rounds ms cs))) (list_all (λ k. among (line_of ms k) (map (λ (d : Around). d.at) (rounds ms cs))) ks)
    (ap (among (line_of ms k)) (rounds-at ms cs) ∙ among-mapped (line_of ms) k (case_numbers cs) q.0) (scope-rounds ms cs ks q.1)

pub rounds-dropped : (ms : List ℕ) (cs : List Case) → rounds ms (drop 1 cs) ≡ drop 1 (rounds ms cs)
rounds-dropped ms [] = refl
rounds-dropped ms (c ∷ cs) = refl

module _ (p : Program) (f : State) (v : Sub) (ls : List Line) where
  abbrev pub coming : List Line → Built
  coming xs = built (ats p f v ls) (drop (length xs) ls)

  abbrev pub FitsAt : List Line → List Literal → List Case → List Want → Built → Type 0
  FitsAt xs lits cs ws b = Fits p f v ls (suc (length xs)) (entries (ats p f v ls) (opens lits)) (rounds (cats p f v ls) cs) ws b

  pub record Shape (a : View) : Type 0 where
    pub begun : Begun ls a.lines
    pub fits : FitsAt a.lines a.literals a.cases a.wants (coming a.lines)

  pub made-next : (xs : List Line) (l : Line) → IsNext ls xs l → coming xs ≡ put (ats p f v ls) l (coming (xs ++ l ∷ []))
  made-next xs l h = ap (built (ats p f v ls)) h.rest

  pub node-next : (xs : List Line) (l : Line) → IsNext ls xs l → node_at p f v ls (suc (length xs)) ≡ first_tree (put (ats p f v ls) l (coming (xs ++ l ∷ []))).nodes
  node-next xs l h = ap (λ (b : Built). first_tree b.nodes) (made-next xs l h)

  -- a literal that is no more than those so far has a line
  numbers-within : (a : View) → Counts a → Begun ls a.lines → length a.literals ≤ length (ats p f v ls)
  numbers-within a n h =
      let all : ats p f v ls ≡ literal_lines 1 a.lines ++ literal_lines (1 + length a.lines) (drop (length a.lines) ls) =
      ap (literal_lines 1) h ∙ lines-append 1 a.lines (drop (length a.lines) ls) in
      let long = ap length all in
      let sum = length-append (literal_lines 1 a.lines) (literal_lines (1 + length a.lines) (drop (length a.lines) ls)) in
      let count = n.lines in
      omega (arith, long, sum, count)

  -- the line of the next literal
  pub record IsNewLine (a : View) : Type 0 where
    pub line : line_of (ats p f v ls) (length a.literals) ≡ suc (length a.lines)
    pub within : length a.literals < length (ats p f v ls)

  pub new-line : (a : View) (l : Line) → Counts a → IsNext ls a.lines l → is_literal l ≡ true → IsNewLine a
  new-line a l n h e =
      let back : List Line = drop (length (a.lines ++ l ∷ [])) ls in
      let at : ℕ = 1 + length a.lines in
      let one : literal_lines at (l ∷ back) ≡ at ∷ literal_lines (suc at) back =
      ap (λ (b : Bool). if b then at ∷ literal_lines (suc at) back else literal_lines (suc at) back) e in
      let all : ats p f v ls ≡ literal_lines 1 a.lines ++ at ∷ literal_lines (suc at) back =
      ap (literal_lines 1) (h.begun ∙ ap (λ (z : List Line). a.lines ++ z) h.rest) ∙ lines-append 1 a.lines (l ∷ back)
      ∙ ap (λ (z : List ℕ). literal_lines 1 a.lines ++ z) one in
      let last : suc (length a.lines) ≡ at = omega arith in
      let long = ap length all in
      let sum = length-append (literal_lines 1 a.lines) (at ∷ literal_lines (suc at) back) in
      let count = n.lines in
      record {
        line = ap (λ (z : List ℕ). number_or (slice_get z (length a.literals))) all
            ∙ ap (λ (i : ℕ). number_or (slice_get (literal_lines 1 a.lines ++ at ∷ literal_lines (suc at) back) i)) (sym n.lines)
            ∙ ap number_or (get-seam (literal_lines 1 a.lines) at (literal_lines (suc at) back)) ∙ sym last;
        within = omega (arith, long, sum, count);
      }

  -- the line of the next case
  pub case-line : (xs : List Line) (l : Line) → IsNext ls xs l → is_case_line l ≡ true → line_of (cats p f v ls) (length (case_lines 1 xs)) ≡ suc (length xs)
  case-line xs l h e =
      let back : List Line = drop (length (xs ++ l ∷ [])) ls in
      let at : ℕ = 1 + length xs in
      let one : case_lines at (l ∷ back) ≡ at ∷ case_lines (suc at) back =
      ap (λ (b : Bool). if b then at ∷ case_lines (suc at) back else case_lines (suc at) back) e in
      let all : cats p f v ls ≡ case_lines 1 xs ++ at ∷ case_lines (suc at) back =
      ap (case_lines 1) (h.begun ∙ ap (λ (z : List Line). xs ++ z) h.rest) ∙ cases-append 1 xs (l ∷ back)
      ∙ ap (λ (z : List ℕ). case_lines 1 xs ++ z) one in
      let last : suc (length xs) ≡ at = omega arith in
      ap (λ (z : List ℕ). number_or (slice_get z (length (case_lines 1 xs)))) all
      ∙ ap number_or (get-seam (case_lines 1 xs) at (case_lines (suc at) back)) ∙ sym last

  -- the shape of a view from the fit behind its next line
  from-line : (a : View) (l : Line) → IsNext ls a.lines l → FitsAt a.lines a.literals a.cases a.wants (put (ats p f v ls) l (coming (a.lines ++ l ∷ []))) → Shape a
  from-line a l h k = record {
    begun = h.begun;
    fits = subst (FitsAt a.lines a.literals a.cases a.wants) (sym (made-next a.lines l h)) k;
  }

  -- what fits behind one more line, by the number of the line
  behind-line : (xs : List Line) (l : Line) (abv : List Above) (rs : List Around) (ws : List Want) (b : Built)
      → Fits p f v ls (suc (length (xs ++ l ∷ []))) abv rs ws b → Fits p f v ls (suc (suc (length xs))) abv rs ws b
  behind-line xs l abv rs ws b k = subst (λ (n : ℕ). Fits p f v ls (suc n) abv rs ws b) (long-one xs l) k

  with-wants : (a : View) (ws : List Want) (b : Built) → a.wants ≡ ws → FitsAt a.lines a.literals a.cases ws b → FitsAt a.lines a.literals a.cases a.wants b
  with-wants a ws b e k = subst (λ (z : List Want). FitsAt a.lines a.literals a.cases z b) (sym e) k

  -- ---- each move

  back-repeats : (a b : View) → Counts a → Repeats p f v a b → Shape b → Shape a
  back-repeats a b n m sh =
      let l : Line = line.Loop m.lit m.one.number in
      let lits : List Literal = if m.lit.positive then first_with looping a.literals else a.literals in
      let s : Shape (adds a l lits a.cases m.behind) = subst Shape m.next sh in
      let h = next-line ls a.lines l s.begun in
      let abv : List Above = entries (ats p f v ls) (opens a.literals) in
      let rs : List Around = rounds (cats p f v ls) a.cases in
      let fits : Fits p f v ls (suc (suc (length a.lines))) abv rs m.behind (coming (a.lines ++ l ∷ [])) =
      subst (λ (z : List Above). Fits p f v ls (suc (suc (length a.lines))) z rs m.behind (coming (a.lines ++ l ∷ []))) (same m.lit.positive)
      (behind-line a.lines l (entries (ats p f v ls) (opens lits)) rs m.behind (coming (a.lines ++ l ∷ [])) s.fits) in
      from-line a l h (with-wants a (want_node (goal m.lit) ∷ m.behind) (put (ats p f v ls) l (coming (a.lines ++ l ∷ []))) m.wants
      (fit-loop p f v ls (suc (length a.lines)) abv rs m.lit m.one.number m.behind (coming (a.lines ++ l ∷ [])) h.there
      (loops-back (ats p f v ls) (lines-rise 1 ls) (opens a.literals) (length a.literals) m.lit m.inner m.one m.outer (opens-fall (length a.literals) a.literals n.numbered)
      (numbers-within a n h.begun) m.among m.same m.crosses)
      (node-next a.lines l h) fits))
    where
      same : (c : Bool) → entries (ats p f v ls) (opens (if c then first_with looping a.literals else a.literals)) ≡ entries (ats p f v ls) (opens a.literals)
      same true = entries-marked (ats p f v ls) a.literals
      same false = refl

  pub sees-line : (a b : View) (m : Sees p f v a b) → IsNext ls a.lines (line.Seen m.lit m.one.number)
      → SeesLine p f v ls (suc (length a.lines)) (rounds (cats p f v ls) a.cases) m.lit (line_of (ats p f v ls) m.one.number)
  sees-line a b m h = record { number = m.one.number; line = h.there; to_is = refl; scope = scope-rounds (cats p f v ls) a.cases (cases_of p f v m.one.number) m.scope }

  back-sees : (a b : View) → Sees p f v a b → Shape b → Shape a
  back-sees a b m sh =
      let l : Line = line.Seen m.lit m.one.number in
      let s : Shape (adds a l a.literals a.cases m.behind) = subst Shape m.next sh in
      let h = next-line ls a.lines l s.begun in
      let x : Built = coming (a.lines ++ l ∷ []) in
      let abv : List Above = entries (ats p f v ls) (opens a.literals) in
      let rs : List Around = rounds (cats p f v ls) a.cases in
      from-line a l h (with-wants a (want_node (goal m.lit) ∷ m.behind) (put (ats p f v ls) l x) m.wants
      (fit-seen p f v ls (suc (length a.lines)) abv rs m.lit m.one.number m.behind x (sees-line a b m h)
      (node-next a.lines l h) (behind-line a.lines l abv rs m.behind x s.fits)))

  back-tells_test : (a b : View) → TellsTest p f v a b → Shape b → Shape a
  back-tells_test a b m sh =
      let l : Line = line.Test m.test in
      let s : Shape (adds a l a.literals a.cases m.behind) = subst Shape m.next sh in
      let h = next-line ls a.lines l s.begun in
      let x : Built = coming (a.lines ++ l ∷ []) in
      let abv : List Above = entries (ats p f v ls) (opens a.literals) in
      let rs : List Around = rounds (cats p f v ls) a.cases in
      from-line a l h (with-wants a (want_node (fact m.due) ∷ m.behind) (put (ats p f v ls) l x) m.wants
      (fit-test p f v ls (suc (length a.lines)) abv rs m.due m.test m.behind x m.due_is h.there
      (node-next a.lines l h) (behind-line a.lines l abv rs m.behind x s.fits)))

  -- the entry of a new literal stands above those that were open
  new-entries : (a : View) (l : Line) (lit : Lit) (one : Literal) → Counts a → IsNext ls a.lines l → is_literal l ≡ true → IsNew p f v a lit one
      → entries (ats p f v ls) (opens (one ∷ a.literals)) ≡ above (suc (length a.lines)) lit.positive lit.atom ∷ entries (ats p f v ls) (opens a.literals)
  new-entries a l lit one n h e new =
      let at : line_of (ats p f v ls) one.number ≡ suc (length a.lines) = ap (line_of (ats p f v ls)) new.number ∙ (new-line a l n h e).line in
      ap (λ (z : Bool). entries (ats p f v ls) (if not z then one ∷ opens a.literals else opens a.literals)) new.open_yet
      ∙ (λ i. above (at i) (new.of i).positive (new.of i).atom ∷ entries (ats p f v ls) (opens a.literals))

  enters-new : (a : View) (l : Line) (lit : Lit) (one : Literal) → Counts a → IsNext ls a.lines l → is_literal l ≡ true → IsNew p f v a lit one
      → Enters p f v ls (suc (length a.lines)) (rounds (cats p f v ls) a.cases)
  enters-new a l lit one n h e new =
      let q = new-line a l n h e in
      let w : length a.literals < length (ats p f v ls) = q.within in
      let k : one.number ≡ length a.literals = new.number in (
        one.number,
        ap (line_of (ats p f v ls)) new.number ∙ q.line,
        omega (arith, w, k),
        apart-rounds (cats p f v ls) a.cases ∙ ap (map (line_of (cats p f v ls))) (sym new.cases),
      )

  back-goes_in : (a b : View) → Counts a → GoesIn p f v a b → Shape b → Shape a
  back-goes_in a b n m sh =
      let ts : Tms = all_under (reading f v) (new_parts m.first (vars_of_clause p m.rule)) in
      let l : Line = line.Pos m.lit.atom m.rule ts (length (body_of p m.rule m.first)) in
      let ws : List Want = wanted (body_dues p f v m.rule m.first) ++ want_leave ∷ m.behind in
      let s : Shape (adds a l (m.one ∷ a.literals) a.cases ws) = subst Shape m.next sh in
      let h = next-line ls a.lines l s.begun in
      let x : Built = coming (a.lines ++ l ∷ []) in
      let abv : List Above = entries (ats p f v ls) (opens a.literals) in
      let rs : List Around = rounds (cats p f v ls) a.cases in
      let all : entries (ats p f v ls) (opens (m.one ∷ a.literals)) ≡ above (suc (length a.lines)) true m.lit.atom ∷ abv =
      new-entries a l m.lit m.one n h refl m.new ∙ ap (λ (z : Bool). above (suc (length a.lines)) z m.lit.atom ∷ abv) m.positive in
      let fits = subst (λ (z : List Above). Fits p f v ls (suc (suc (length a.lines))) z rs ws x) all
      (behind-line a.lines l (entries (ats p f v ls) (opens (m.one ∷ a.literals))) rs ws x s.fits) in
      from-line a l h (with-wants a (want_node (goal m.lit) ∷ m.behind) (put (ats p f v ls) l x) m.wants
      (fit-positive p f v ls (suc (length a.lines)) abv rs m.lit m.rule m.first m.behind x
      (record {
        positive = m.positive;
        atom = refl;
        clause = m.clause;
        named = m.named;
        is_rule = m.is_rule;
        terms = refl;
        reads = m.head;
        children = length (body_of p m.rule m.first);
        line = h.there;
        enters = enters-new a l m.lit m.one n h refl m.new;
      })
      (node-next a.lines l h) fits))

  back-negates : (a b : View) → Counts a → Negates p f v a b → Shape b → Shape a
  back-negates a b n m sh =
      let rules : List ℕ = rules_of p (pred_of m.lit.atom) in
      let l : Line = line.Neg m.lit.atom (length rules) in
      let ws : List Want = map (want_rule m.lit.atom) rules ++ want_leave ∷ m.behind in
      let s : Shape (adds a l (m.one ∷ a.literals) a.cases ws) = subst Shape m.next sh in
      let h = next-line ls a.lines l s.begun in
      let x : Built = coming (a.lines ++ l ∷ []) in
      let abv : List Above = entries (ats p f v ls) (opens a.literals) in
      let rs : List Around = rounds (cats p f v ls) a.cases in
      let all : entries (ats p f v ls) (opens (m.one ∷ a.literals)) ≡ above (suc (length a.lines)) false m.lit.atom ∷ abv =
      new-entries a l m.lit m.one n h refl m.new ∙ ap (λ (z : Bool). above (suc (length a.lines)) z m.lit.atom ∷ abv) m.negative in
      let fits = subst (λ (z : List Above). Fits p f v ls (suc (suc (length a.lines))) z rs ws x) all
      (behind-line a.lines l (entries (ats p f v ls) (opens (m.one ∷ a.literals))) rs ws x s.fits) in
      from-line a l h (with-wants a (want_node (goal m.lit) ∷ m.behind) (put (ats p f v ls) l x) m.wants
      (fit-negated p f v ls (suc (length a.lines)) abv rs m.lit m.behind x m.negative h.there (enters-new a l m.lit m.one n h refl m.new) (node-next a.lines l h) fits))

  none-there : (xs : List Line) (l : Line) → IsNext ls xs l → is_literal l ≡ false → is_literal_line (slice_get ls (length xs)) ≡ false
  none-there xs l h e = ap is_literal_line h.there ∙ e

  back-takes_rule : (a b : View) → TakesRule p f v a b → Shape b → Shape a
  back-takes_rule a b m sh =
      let l : Line = line.Rule m.atom m.rule m.first in
      let ws : List Want = want_match m.bound m.pairs m.rule m.first ∷ m.behind in
      let s : Shape (adds a l a.literals a.cases ws) = subst Shape m.next sh in
      let h = next-line ls a.lines l s.begun in
      let x : Built = coming (a.lines ++ l ∷ []) in
      let abv : List Above = entries (ats p f v ls) (opens a.literals) in
      let rs : List Around = rounds (cats p f v ls) a.cases in
      from-line a l h (with-wants a (want_rule m.atom m.rule ∷ m.behind) (put (ats p f v ls) l x) m.wants
      (fit-rule p f v ls (suc (length a.lines)) abv rs m.atom m.atom m.rule m.first m.bound m.pairs m.behind x (none-there a.lines l h refl) m.same m.missed
      (behind-line a.lines l abv rs ws x s.fits)))

  back-rematches : (a b : View) → Rematches p f v a b → Shape b → Shape a
  back-rematches a b m sh =
      let s : Shape (record a { wants = want_match m.more_bound m.other m.rule m.first ∷ m.behind }) = subst Shape m.next sh in
      record {
        begun = s.begun;
        fits = with-wants a (want_match m.bound m.pairs m.rule m.first ∷ m.behind) (coming a.lines) m.wants
            (fit-rematch p f v ls (suc (length a.lines)) (entries (ats p f v ls) (opens a.literals)) (rounds (cats p f v ls) a.cases) m.bound m.more_bound m.pairs m.other m.rule m.first m.behind (coming a.lines)
            m.same m.missed s.fits);
      }

  back-gives_up : (a b : View) → GivesUp p f v a b → Shape b → Shape a
  back-gives_up a b m sh =
      let s : Shape (record a { wants = want_void ∷ m.behind }) = subst Shape m.next sh in
      record {
        begun = s.begun;
        fits = with-wants a (want_match m.bound m.pairs m.rule m.first ∷ m.behind) (coming a.lines) m.wants
            (fit-gives_up p f v ls (suc (length a.lines)) (entries (ats p f v ls) (opens a.literals)) (rounds (cats p f v ls) a.cases) m.bound m.pairs m.rule m.first m.behind (coming a.lines) m.missed s.fits);
      }

  back-tells_void : (a b : View) → TellsVoid p f v a b → Shape b → Shape a
  back-tells_void a b m sh =
      let s : Shape (adds a line.Void a.literals a.cases m.behind) = subst Shape m.next sh in
      let h = next-line ls a.lines line.Void s.begun in
      let x : Built = coming (a.lines ++ line.Void ∷ []) in
      let abv : List Above = entries (ats p f v ls) (opens a.literals) in
      let rs : List Around = rounds (cats p f v ls) a.cases in
      from-line a line.Void h (with-wants a (want_void ∷ m.behind) (put (ats p f v ls) line.Void x) m.wants
      (fit-void p f v ls (suc (length a.lines)) abv rs m.behind x (none-there a.lines line.Void h refl) (behind-line a.lines line.Void abv rs m.behind x s.fits)))

  -- the new case stands around
  pub new-rounds : (xs : List Line) (k : ℕ) (l : Line) (one : Case) (cs : List Case) → IsNext ls xs l → is_case_line l ≡ true → one.number ≡ length (case_lines 1 xs) → one.plain ≡ is_plain_rule p f v k
      → rounds (cats p f v ls) (one ∷ cs) ≡ around (suc (length xs)) (is_plain_rule p f v k) ∷ rounds (cats p f v ls) cs
  new-rounds xs k l one cs h e number plain =
      let at : line_of (cats p f v ls) one.number ≡ suc (length xs) = ap (line_of (cats p f v ls)) number ∙ case-line xs l h e in
      λ i. around (at i) (plain i) ∷ rounds (cats p f v ls) cs

  back-begins : (a b : View) → Begins p f v a b → Shape b → Shape a
  back-begins a b m sh =
      let ws : List Want = wanted m.dues ++ want_close ∷ m.behind in
      let s : Shape (adds a m.case a.literals (m.one ∷ a.cases) ws) = subst Shape m.next sh in
      let h = next-line ls a.lines m.case s.begun in
      let x : Built = coming (a.lines ++ m.case ∷ []) in
      let abv : List Above = entries (ats p f v ls) (opens a.literals) in
      let rs : List Around = rounds (cats p f v ls) a.cases in
      let kind = case-is p f v false m.rule m.first m.case m.dues m.is_case in
      let new : rounds (cats p f v ls) (m.one ∷ a.cases) ≡ around (suc (length a.lines)) (is_plain_rule p f v m.rule) ∷ rs = new-rounds a.lines m.rule m.case m.one a.cases h kind.1 m.new.number m.new.plain in
      from-line a m.case h (with-wants a (want_match m.bound m.pairs m.rule m.first ∷ m.behind) (put (ats p f v ls) m.case x) m.wants
      (fit-begin p f v ls (suc (length a.lines)) abv rs m.bound m.pairs m.rule m.first m.case m.dues m.behind x m.same m.is_case (none-there a.lines m.case h kind.0)
      (subst (λ (z : List Around). Fits p f v ls (suc (suc (length a.lines))) abv z ws x) new (behind-line a.lines m.case abv (rounds (cats p f v ls) (m.one ∷ a.cases)) ws x s.fits))))

  -- a line that begins no case counts for none
  pub check-cases : (xs : List Line) (k first : ℕ) → length (case_lines 1 (xs ++ line.Check k first ∷ [])) ≡ length (case_lines 1 xs)
  check-cases xs k first =
      ap length (cases-append 1 xs (line.Check k first ∷ [])) ∙ length-append (case_lines 1 xs) [] ∙ omega arith

  back-checks : (a b : View) → Checks p f v a b → Shape b → Shape a
  back-checks a b m sh =
      let l : Line = line.Check m.rule m.first in
      let xs : List Line = a.lines ++ l ∷ [] in
      let ws : List Want = wanted m.dues ++ want_close ∷ m.behind in
      let s : Shape (adds (adds a l a.literals a.cases m.behind) m.case a.literals (m.one ∷ a.cases) ws) = subst Shape m.next sh in
      let k = next-line ls xs m.case s.begun in
      let h = next-line ls a.lines l k.begun in
      let x : Built = coming (xs ++ m.case ∷ []) in
      let after : Built = put (ats p f v ls) m.case x in
      let abv : List Above = entries (ats p f v ls) (opens a.literals) in
      let rs : List Around = rounds (cats p f v ls) a.cases in
      let at : length xs ≡ suc (length a.lines) = long-one a.lines l in
      let kind = case-is p f v true m.rule m.first m.case m.dues m.is_case in
      let new : rounds (cats p f v ls) (m.one ∷ a.cases) ≡ around (suc (length xs)) (is_plain_rule p f v m.rule) ∷ rs =
      new-rounds xs m.rule m.case m.one a.cases k kind.1 (m.new.number ∙ sym (check-cases a.lines m.rule m.first)) m.new.plain in
      let F : ℕ → Type 0 = λ n. Fits p f v ls (suc (suc n)) abv (around (suc n) (is_plain_rule p f v m.rule) ∷ rs) ws x in
      let inner : F (length xs) = subst (λ (z : List Around). Fits p f v ls (suc (suc (length xs))) abv z ws x) new (behind-line xs m.case abv (rounds (cats p f v ls) (m.one ∷ a.cases)) ws x s.fits) in
      let none : is_literal_line (slice_get ls (suc (length a.lines))) ≡ false = subst (λ (n : ℕ). is_literal_line (slice_get ls n) ≡ false) at (none-there xs m.case k kind.0) in
      let two : coming a.lines ≡ put (ats p f v ls) l after = made-next a.lines l h ∙ ap (put (ats p f v ls) l) (made-next xs m.case k) in
      record {
        begun = h.begun;
        fits = subst (FitsAt a.lines a.literals a.cases a.wants) (sym two)
            (with-wants a (want_check m.rule m.checks_head ∷ m.behind) (put (ats p f v ls) l after) m.wants
            (fit-check p f v ls (suc (length a.lines)) abv rs m.rule m.first m.checks_head m.case m.dues m.behind x m.is_case (m.first, h.there) none (subst F at inner)));
      }

  back-leaves : (a b : View) → Leaves p f v a b → Shape b → Shape a
  back-leaves a b m sh =
      let s : Shape (record { lines = a.lines; literals = left_by (opens a.literals) a.literals; cases = a.cases; wants = m.behind }) = subst Shape m.next sh in
      record {
        begun = s.begun;
        fits = with-wants a (want_leave ∷ m.behind) (coming a.lines) m.wants
            (subst (λ (z : List Above). Fits p f v ls (suc (length a.lines)) z (rounds (cats p f v ls) a.cases) m.behind (coming a.lines)) (entries-left (ats p f v ls) a.literals) s.fits);
      }

  pub move-back : (a b : View) → Counts a → Move p f v a b → Shape b → Shape a
  move-back a b n (rests e) sh = subst Shape (sym e) sh
  move-back a b n (repeats m) sh = back-repeats a b n m sh
  move-back a b n (sees m) sh = back-sees a b m sh
  move-back a b n (goes_in m) sh = back-goes_in a b n m sh
  move-back a b n (negates m) sh = back-negates a b n m sh
  move-back a b n (tells_test m) sh = back-tells_test a b m sh
  move-back a b n (takes_rule m) sh = back-takes_rule a b m sh
  move-back a b n (rematches m) sh = back-rematches a b m sh
  move-back a b n (gives_up m) sh = back-gives_up a b m sh
  move-back a b n (tells_void m) sh = back-tells_void a b m sh
  move-back a b n (begins m) sh = back-begins a b m sh
  move-back a b n (checks_clause m) sh = back-checks a b m sh
  move-back a b n (leaves m) sh = back-leaves a b m sh
  move-back a b n (closes m) sh =
      let s : Shape (record { lines = a.lines; literals = a.literals; cases = drop 1 a.cases; wants = m.behind }) = subst Shape m.next sh in
      record {
        begun = s.begun;
        fits = with-wants a (want_close ∷ m.behind) (coming a.lines) m.wants
            (subst (λ (z : List Around). Fits p f v ls (suc (length a.lines)) (entries (ats p f v ls) (opens a.literals)) z m.behind (coming a.lines)) (rounds-dropped (cats p f v ls) a.cases) s.fits);
      }
