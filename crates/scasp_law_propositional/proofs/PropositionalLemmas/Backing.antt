-- Backward along the moves: where the lines to come fit what is left to do behind a move, they do before it.
use Rattle.std.specs.Prelude.{◌≡◌, ⊤, ℕ, suc, ◌+◌, ◌<◌, ◌≤◌, nat_eq, Bool, true, false, ◌||◌, not, if◌then◌else◌, Some, List, [], ◌∷◌, ◌++◌, map, slice_get, drop, length}
use Rattle.std.specs.List.{list_any}
use Rattle.std.proofs.Common.{◌∙◌, refl, ap, sym, subst, arith, append_assoc}
use Rattle.std.proofs.lemmas.Bool.{cond-true, cond-false}
use Rattle.std.proofs.lemmas.List.{length-append}
use Rattle.std.proofs.Math.Seq.{drop-append_seam}
use Rattle.scasp_checker_rules.specs.Ancestors.{entry_at, is_negated_before}
use Rattle.scasp_lines.specs.Places.{Above}
use Rattle.scasp_lines.proofs.PartLemmas.{nat-self}
use Rattle.scasp_search_rules.specs.declared.states.lines.Line.{Line}
use Rattle.scasp_search_rules.specs.declared.states.lines.Line.TheVariants as line
use Rattle.scasp_search_rules.specs.declared.states.state.Literal.{Literal}
use Rattle.scasp_search_rules.specs.declared.states.tasks.Aim.TheVariants as aims
use Rattle.scasp_search_rules.specs.declared.states.tasks.Task.{Task}
use Rattle.scasp_search_rules.specs.declared.states.tasks.Task.TheVariants as task
use Rattle.scasp_search_rules.specs.Successors.Calls.{looping, finished}
use Rattle.scasp_search_rules.specs.Successors.Trees.{Built, built, put, is_literal, line_of, literal_lines, number_or}
use Rattle.scasp_syntax.specs.Flat.{flat_body}
use Rattle.scasp_syntax.specs.Programs.{rules_from, pred_of}
use Rattle.scasp_syntax.specs.Tm.{nil}
use Rattle.scasp_syntax.specs.declared.atom.Lit.{Lit}
use Rattle.scasp_syntax.specs.declared.clause.Clause.{Clause}
use Rattle.scasp_syntax.specs.declared.clause.FlatItem.TheVariants as flat
use Rattle.scasp_law_propositional.proofs.PropositionalLemmas.Counting.{apart-above, Rises, lines-append, lines-rise, rises-strictly, case-is, Counts}
use Rattle.scasp_law_propositional.proofs.PropositionalLemmas.Fitting.{Fits, FitCase, fit-loop, fit-seen, fit-positive, fit-negated, fit-rule, fit-case, fit-begin, fit-check}
use Rattle.scasp_law_propositional.proofs.PropositionalLemmas.Shapes.{first_tree, above, entry, is_literal_line, LoopsBack, node_at}
use Rattle.scasp_law_propositional.proofs.PropositionalLemmas.Views.{View, opens, first_with, Numbered, is_negative, moves_mark, left_by, shows, adds, Repeats, Sees, IsNew, GoesIn, Negates, TakesRule, Begins, Checks, Leaves, Move, repeats, sees, goes_in, negates, takes_rule, matches, begins, checks_clause, leaves, closes}

-- ---- the literals that are open

abbrev pub Falls : ℕ → List Literal → Type 0
Falls n [] = ⊤
Falls n (a ∷ lits) = (a.number < n) × Falls a.number lits

falls-below : (n m : ℕ) (lits : List Literal) → n ≤ m → Falls n lits → Falls m lits
falls-below n m [] e h = tt
falls-below n m (a ∷ lits) e h = let first = h.0 in (omega (arith, e, first), h.1)

pub opens-fall : (n : ℕ) (lits : List Literal) → Numbered n lits → Falls n (opens lits)
opens-fall n [] h = tt
opens-fall n (a ∷ lits) h = by a.is_done (opens-fall a.number lits h.1)
  where
    here : n ≡ suc a.number
    here = h.0

    by : (b : Bool) → Falls a.number (opens lits) → Falls n (if not b then a ∷ opens lits else opens lits)
    by true k = falls-below a.number n (opens lits) (omega (arith, here)) k
    by false k = (omega (arith, here), k)

falls-among : (n : ℕ) (inner : List Literal) (one : Literal) (outer : List Literal) → Falls n (inner ++ one ∷ outer) → one.number < n
falls-among n [] one outer h = h.0
falls-among n (a ∷ lits) one outer h =
    let first = h.0 in
    let k = falls-among a.number lits one outer h.1 in omega (arith, first, k)

abbrev pub entries : List ℕ → List Literal → List Above
entries ats lits = map (entry ats) lits

pub opens-finished : (lits : List Literal) → opens (first_with finished lits) ≡ drop 1 (opens lits)
opens-finished [] = refl
opens-finished (a ∷ lits) = by a.is_done refl (opens-finished lits)
  where
    by : (b : Bool) → a.is_done ≡ b → opens (first_with finished lits) ≡ drop 1 (opens lits)
        → opens (if b then a ∷ first_with finished lits else finished a ∷ lits) ≡ drop 1 (if not b then a ∷ opens lits else opens lits)
    by true e k = ap (λ (z : Bool). if not z then a ∷ opens (first_with finished lits) else opens (first_with finished lits)) e ∙ k
    by false e k = refl

pub entries-marked : (ats : List ℕ) (lits : List Literal) → entries ats (opens (first_with looping lits)) ≡ entries ats (opens lits)
entries-marked ats [] = refl
entries-marked ats (a ∷ lits) = by a.is_done refl (entries-marked ats lits)
  where
    by : (b : Bool) → a.is_done ≡ b → entries ats (opens (first_with looping lits)) ≡ entries ats (opens lits)
        → entries ats (opens (if b then a ∷ first_with looping lits else looping a ∷ lits)) ≡ entries ats (if not b then a ∷ opens lits else opens lits)
    by true e k =
        ap (λ (z : Bool). entries ats (if not z then a ∷ opens (first_with looping lits) else opens (first_with looping lits))) e ∙ k
    by false e k = ap (λ (z : Bool). entries ats (if not z then looping a ∷ opens lits else opens lits)) e

entries-dropped : (ats : List ℕ) (lits : List Literal) → entries ats (drop 1 lits) ≡ drop 1 (entries ats lits)
entries-dropped ats [] = refl
entries-dropped ats (a ∷ lits) = refl

pub entries-left : (ats : List ℕ) (lits : List Literal) → entries ats (opens (left_by (opens lits) lits)) ≡ drop 1 (entries ats (opens lits))
entries-left ats lits = by (opens lits) refl
  where
    ended : entries ats (opens (first_with finished lits)) ≡ drop 1 (entries ats (opens lits))
    ended = ap (entries ats) (opens-finished lits) ∙ entries-dropped ats (opens lits)

    moved : (b : Bool) → entries ats (opens (if b then first_with looping (first_with finished lits) else first_with finished lits)) ≡ drop 1 (entries ats (opens lits))
    moved true = entries-marked ats (first_with finished lits) ∙ ended
    moved false = ended

    by : (bs : List Literal) → opens lits ≡ bs → entries ats (opens (left_by bs lits)) ≡ drop 1 (entries ats (opens lits))
    by [] e = ap (entries ats) e ∙ ap (λ (z : List Literal). drop 1 (entries ats z)) (sym e)
    by (b ∷ bs) e = moved (moves_mark b bs)

-- ---- the literal that a loop names

module _ (ats : List ℕ) (rises : Rises 1 ats) where
  later : (a b : Literal) → b.number < a.number → a.number < length ats → nat_eq (line_of ats a.number) (line_of ats b.number) ≡ false
  later a b e l = apart-above (line_of ats a.number) (line_of ats b.number) (rises-strictly 1 b.number a.number ats rises e l)

  entry-found : (n : ℕ) (inner : List Literal) (one : Literal) (outer : List Literal) → Falls n (inner ++ one ∷ outer) → n ≤ length ats
      → entry_at (line_of ats one.number) (entries ats (inner ++ one ∷ outer)) ≡ Some (entry ats one)
  entry-found n [] one outer h l =
      cond-true (nat_eq (line_of ats one.number) (line_of ats one.number)) (Some (entry ats one)) (entry_at (line_of ats one.number) (entries ats outer)) (nat-self (line_of ats one.number))
  entry-found n (a ∷ lits) one outer h l =
      let first : a.number < n = h.0 in
      let within : a.number ≤ length ats = omega (arith, first, l) in
      let less : a.number < length ats = omega (arith, first, l) in
      cond-false (nat_eq (line_of ats a.number) (line_of ats one.number)) (Some (entry ats a)) (entry_at (line_of ats one.number) (entries ats (lits ++ one ∷ outer)))
      (later a one (falls-among a.number lits one outer h.1) less)
      ∙ entry-found a.number lits one outer h.1 within

  negated-before : (n : ℕ) (inner : List Literal) (one : Literal) (outer : List Literal) → Falls n (inner ++ one ∷ outer) → n ≤ length ats
      → list_any is_negative inner ≡ true → is_negated_before (line_of ats one.number) (entries ats (inner ++ one ∷ outer)) ≡ true
  negated-before n [] one outer h l e = absurd (cc e)
  negated-before n (a ∷ lits) one outer h l e =
      let first : a.number < n = h.0 in
      let within : a.number ≤ length ats = omega (arith, first, l) in
      let less : a.number < length ats = omega (arith, first, l) in
      let to : ℕ = line_of ats one.number in
      let rest : Bool = is_negated_before to (entries ats (lits ++ one ∷ outer)) in
      cond-false (nat_eq (line_of ats a.number) to) false (not a.lit.positive || rest) (later a one (falls-among a.number lits one outer h.1) less)
      ∙ by a.lit.positive e (λ f. negated-before a.number lits one outer h.1 within f)
    where
      by : (b : Bool) → (not b || list_any is_negative lits) ≡ true
          → (list_any is_negative lits ≡ true → is_negated_before (line_of ats one.number) (entries ats (lits ++ one ∷ outer)) ≡ true)
          → (not b || is_negated_before (line_of ats one.number) (entries ats (lits ++ one ∷ outer))) ≡ true
      by true e k = k e
      by false e k = refl

  pub loops-back : (lits : List Literal) (n : ℕ) (lit : Lit) (inner : List Literal) (one : Literal) (outer : List Literal) → Falls n lits → n ≤ length ats
      → lits ≡ inner ++ one ∷ outer → one.lit ≡ lit → (lit.positive ≡ true → list_any is_negative inner ≡ true)
      → LoopsBack (entries ats lits) lit (line_of ats one.number)
  loops-back lits n lit inner one outer h l e same crosses =
      let f : Falls n (inner ++ one ∷ outer) = subst (Falls n) e h in
      subst (λ (z : List Literal). LoopsBack (entries ats z) lit (line_of ats one.number)) (sym e) (record {
        entry = entry ats one;
        found = entry-found n inner one outer f l;
        sign = ap (λ (k : Lit). k.positive) same;
        same = ap (λ (k : Lit). k.atom) same;
        crosses = λ p. negated-before n inner one outer f l (crosses p);
      })

-- ---- the next line

get-seam : {A : Type 0} (xs : List A) (y : A) (ys : List A) → slice_get (xs ++ y ∷ ys) (length xs) ≡ Some y
get-seam [] y ys = refl
get-seam (x ∷ xs) y ys = get-seam xs y ys

pub long-one : {A : Type 0} (xs : List A) (y : A) → length (xs ++ y ∷ []) ≡ suc (length xs)
long-one [] y = refl
long-one (x ∷ xs) y = ap suc (long-one xs y)

-- the lines in the whole list, those so far
abbrev pub Begun : List Line → List Line → Type 0
Begun ls xs = ls ≡ xs ++ drop (length xs) ls

-- this line comes next
pub record IsNext (ls xs : List Line) (l : Line) : Type 0 where
  pub begun : Begun ls xs
  pub rest : drop (length xs) ls ≡ l ∷ drop (length (xs ++ l ∷ [])) ls
  pub there : slice_get ls (length xs) ≡ Some l

pub next-line : (ls xs : List Line) (l : Line) → Begun ls (xs ++ l ∷ []) → IsNext ls xs l
next-line ls xs l h =
    let back : List Line = drop (length (xs ++ l ∷ [])) ls in
    let all : ls ≡ xs ++ l ∷ back = h ∙ append_assoc xs (l ∷ []) back in
    let rest : drop (length xs) ls ≡ l ∷ back = ap (drop (length xs)) all ∙ drop-append_seam xs (l ∷ back) in
    record {
      begun = all ∙ ap (λ (z : List Line). xs ++ z) (sym rest);
      rest = rest;
      there = ap (λ (z : List Line). slice_get z (length xs)) all ∙ get-seam xs l back;
    }

module _ (cs : List Clause) (ls : List Line) where
  abbrev pub ats : List ℕ
  ats = literal_lines 1 ls

  abbrev pub coming : List Line → Built
  coming xs = built ats (drop (length xs) ls)

  pub record Shape (v : View) : Type 0 where
    pub begun : Begun ls v.lines
    pub fits : Fits cs ls ats (suc (length v.lines)) (entries ats (opens v.literals)) v.work (coming v.lines)

  pub made-next : (xs : List Line) (l : Line) → IsNext ls xs l → coming xs ≡ put ats l (coming (xs ++ l ∷ []))
  made-next xs l h = ap (built ats) h.rest

  pub node-next : (xs : List Line) (l : Line) → IsNext ls xs l → node_at cs ls ats (suc (length xs)) ≡ first_tree (put ats l (coming (xs ++ l ∷ []))).nodes
  node-next xs l h = ap (λ (b : Built). first_tree b.nodes) (made-next xs l h)

  -- a literal that is no more than those so far has a line
  numbers-within : (v : View) → Counts v → Begun ls v.lines → length v.literals ≤ length ats
  numbers-within v n h =
      let all : ats ≡ literal_lines 1 v.lines ++ literal_lines (1 + length v.lines) (drop (length v.lines) ls) =
      ap (literal_lines 1) h ∙ lines-append 1 v.lines (drop (length v.lines) ls) in
      let long = ap length all in
      let sum = length-append (literal_lines 1 v.lines) (literal_lines (1 + length v.lines) (drop (length v.lines) ls)) in
      let count = n.lines in
      omega (arith, long, sum, count)

  -- the line of the next literal
  pub new-line : (v : View) (l : Line) → Counts v → IsNext ls v.lines l → is_literal l ≡ true → line_of ats (length v.literals) ≡ suc (length v.lines)
  new-line v l n h e =
      let back : List Line = drop (length (v.lines ++ l ∷ [])) ls in
      let at : ℕ = 1 + length v.lines in
      let one : literal_lines at (l ∷ back) ≡ at ∷ literal_lines (suc at) back =
      ap (λ (b : Bool). if b then at ∷ literal_lines (suc at) back else literal_lines (suc at) back) e in
      let all : ats ≡ literal_lines 1 v.lines ++ at ∷ literal_lines (suc at) back =
      ap (literal_lines 1) (h.begun ∙ ap (λ (z : List Line). v.lines ++ z) h.rest) ∙ lines-append 1 v.lines (l ∷ back)
      ∙ ap (λ (z : List ℕ). literal_lines 1 v.lines ++ z) one in
      let last : suc (length v.lines) ≡ at = omega arith in
      ap (λ (z : List ℕ). number_or (slice_get z (length v.literals))) all
      ∙ ap (λ (i : ℕ). number_or (slice_get (literal_lines 1 v.lines ++ at ∷ literal_lines (suc at) back) i)) (sym n.lines)
      ∙ ap number_or (get-seam (literal_lines 1 v.lines) at (literal_lines (suc at) back)) ∙ sym last

  -- the shape of a view from the fit behind its next line
  from-line : (v : View) (l : Line) → IsNext ls v.lines l
      → Fits cs ls ats (suc (length v.lines)) (entries ats (opens v.literals)) v.work (put ats l (coming (v.lines ++ l ∷ []))) → Shape v
  from-line v l h f = record {
    begun = h.begun;
    fits = subst (Fits cs ls ats (suc (length v.lines)) (entries ats (opens v.literals)) v.work) (sym (made-next v.lines l h)) f;
  }

  -- what fits behind one more line, by the number of the line
  behind-line : (xs : List Line) (l : Line) (abv : List Above) (work : List Task) (b : Built)
      → Fits cs ls ats (suc (length (xs ++ l ∷ []))) abv work b → Fits cs ls ats (suc (suc (length xs))) abv work b
  behind-line xs l abv work b f = subst (λ (n : ℕ). Fits cs ls ats (suc n) abv work b) (long-one xs l) f

  with-work : (v : View) (work : List Task) (b : Built) → v.work ≡ work → Fits cs ls ats (suc (length v.lines)) (entries ats (opens v.literals)) work b
      → Fits cs ls ats (suc (length v.lines)) (entries ats (opens v.literals)) v.work b
  with-work v work b e f = subst (λ (z : List Task). Fits cs ls ats (suc (length v.lines)) (entries ats (opens v.literals)) z b) (sym e) f

  -- ---- each move

  back-repeats : (v w : View) → Counts v → Repeats v w → Shape w → Shape v
  back-repeats v w n m sh =
      let l : Line = line.Loop m.lit m.one.number in
      let lits : List Literal = if m.lit.positive then first_with looping v.literals else v.literals in
      let s : Shape (adds v l lits m.behind) = subst Shape m.next sh in
      let h = next-line ls v.lines l s.begun in
      let abv : List Above = entries ats (opens v.literals) in
      let fits : Fits cs ls ats (suc (suc (length v.lines))) abv m.behind (coming (v.lines ++ l ∷ [])) =
      subst (λ (z : List Above). Fits cs ls ats (suc (suc (length v.lines))) z m.behind (coming (v.lines ++ l ∷ []))) (same m.lit.positive)
      (behind-line v.lines l (entries ats (opens lits)) m.behind (coming (v.lines ++ l ∷ [])) s.fits) in
      from-line v l h (with-work v (task.Show (flat.Call m.lit) ∷ m.behind) (put ats l (coming (v.lines ++ l ∷ []))) m.work
      (fit-loop cs ls ats (suc (length v.lines)) abv m.lit m.one.number m.behind (coming (v.lines ++ l ∷ [])) m.no_argument
      (loops-back ats (lines-rise 1 ls) (opens v.literals) (length v.literals) m.lit m.inner m.one m.outer (opens-fall (length v.literals) v.literals n.numbered)
      (numbers-within v n h.begun) m.among m.same m.crosses)
      (node-next v.lines l h) fits))
    where
      same : (b : Bool) → entries ats (opens (if b then first_with looping v.literals else v.literals)) ≡ entries ats (opens v.literals)
      same true = entries-marked ats v.literals
      same false = refl

  back-sees : (v w : View) → Sees v w → Shape w → Shape v
  back-sees v w m sh =
      let l : Line = line.Seen m.lit m.one.number in
      let s : Shape (adds v l v.literals m.behind) = subst Shape m.next sh in
      let h = next-line ls v.lines l s.begun in
      let b : Built = coming (v.lines ++ l ∷ []) in
      let abv : List Above = entries ats (opens v.literals) in
      from-line v l h (with-work v (task.Show (flat.Call m.lit) ∷ m.behind) (put ats l b) m.work
      (fit-seen cs ls ats (suc (length v.lines)) abv m.lit m.one.number m.behind b m.no_argument h.there
      (node-next v.lines l h) (behind-line v.lines l abv m.behind b s.fits)))

  -- the entry of a new literal stands above those that were open
  new-entries : (v : View) (l : Line) (lit : Lit) (one : Literal) → Counts v → IsNext ls v.lines l → is_literal l ≡ true → IsNew v lit one
      → entries ats (opens (one ∷ v.literals)) ≡ above (suc (length v.lines)) lit.positive lit.atom ∷ entries ats (opens v.literals)
  new-entries v l lit one n h e new =
      let at : line_of ats one.number ≡ suc (length v.lines) = ap (line_of ats) new.number ∙ new-line v l n h e in
      ap (λ (z : Bool). entries ats (if not z then one ∷ opens v.literals else opens v.literals)) new.open_yet
      ∙ (λ i. above (at i) (new.of i).positive (new.of i).atom ∷ entries ats (opens v.literals))

  back-goes_in : (v w : View) → Counts v → GoesIn cs v w → Shape w → Shape v
  back-goes_in v w n m sh =
      let body = flat_body m.clause.body in
      let l : Line = line.Pos m.lit.atom m.rule nil (length body) in
      let work : List Task = shows body ++ task.Leave ∷ m.behind in
      let s : Shape (adds v l (m.one ∷ v.literals) work) = subst Shape m.next sh in
      let h = next-line ls v.lines l s.begun in
      let b : Built = coming (v.lines ++ l ∷ []) in
      let abv : List Above = entries ats (opens v.literals) in
      let all : entries ats (opens (m.one ∷ v.literals)) ≡ above (suc (length v.lines)) true m.lit.atom ∷ abv =
      new-entries v l m.lit m.one n h refl m.new ∙ ap (λ (z : Bool). above (suc (length v.lines)) z m.lit.atom ∷ abv) m.positive in
      let fits = subst (λ (z : List Above). Fits cs ls ats (suc (suc (length v.lines))) z work b) all
      (behind-line v.lines l (entries ats (opens (m.one ∷ v.literals))) work b s.fits) in
      from-line v l h (with-work v (task.Show (flat.Call m.lit) ∷ m.behind) (put ats l b) m.work
      (fit-positive cs ls ats (suc (length v.lines)) abv m.lit m.rule m.clause m.behind b
      (record { positive = m.positive; atom = refl; no_argument = m.no_argument; no_term = refl; clause = m.clause; named = m.named; head = m.head })
      m.named (node-next v.lines l h) fits))

  back-negates : (v w : View) → Counts v → Negates cs v w → Shape w → Shape v
  back-negates v w n m sh =
      let rules : List ℕ = rules_from 1 cs (pred_of m.lit.atom) in
      let l : Line = line.Neg m.lit.atom (length rules) in
      let work : List Task = map (task.Cover m.lit.atom) rules ++ task.Leave ∷ m.behind in
      let s : Shape (adds v l (m.one ∷ v.literals) work) = subst Shape m.next sh in
      let h = next-line ls v.lines l s.begun in
      let b : Built = coming (v.lines ++ l ∷ []) in
      let abv : List Above = entries ats (opens v.literals) in
      let all : entries ats (opens (m.one ∷ v.literals)) ≡ above (suc (length v.lines)) false m.lit.atom ∷ abv =
      new-entries v l m.lit m.one n h refl m.new ∙ ap (λ (z : Bool). above (suc (length v.lines)) z m.lit.atom ∷ abv) m.negative in
      let fits = subst (λ (z : List Above). Fits cs ls ats (suc (suc (length v.lines))) z work b) all
      (behind-line v.lines l (entries ats (opens (m.one ∷ v.literals))) work b s.fits) in
      from-line v l h (with-work v (task.Show (flat.Call m.lit) ∷ m.behind) (put ats l b) m.work
      (fit-negated cs ls ats (suc (length v.lines)) abv m.lit rules m.behind b m.negative m.no_argument refl (node-next v.lines l h) fits))

  none-there : (xs : List Line) (l : Line) → IsNext ls xs l → is_literal l ≡ false → is_literal_line (slice_get ls (length xs)) ≡ false
  none-there xs l h e = ap is_literal_line h.there ∙ e

  back-takes_rule : (v w : View) → TakesRule v w → Shape w → Shape v
  back-takes_rule v w m sh =
      let l : Line = line.Rule m.atom m.rule m.first in
      let work : List Task = task.Differ [] (aims.Head m.rule m.first) ∷ m.behind in
      let s : Shape (adds v l v.literals work) = subst Shape m.next sh in
      let h = next-line ls v.lines l s.begun in
      let b : Built = coming (v.lines ++ l ∷ []) in
      let abv : List Above = entries ats (opens v.literals) in
      from-line v l h (with-work v (task.Cover m.atom m.rule ∷ m.behind) (put ats l b) m.work
      (fit-rule cs ls ats (suc (length v.lines)) abv m.atom m.rule m.first m.behind b (none-there v.lines l h refl)
      (behind-line v.lines l abv work b s.fits)))

  back-begins : (v w : View) → Begins cs v w → Shape w → Shape v
  back-begins v w m sh =
      let work : List Task = shows m.items ++ task.Close ∷ m.behind in
      let s : Shape (adds v m.case v.literals work) = subst Shape m.next sh in
      let h = next-line ls v.lines m.case s.begun in
      let b : Built = coming (v.lines ++ m.case ∷ []) in
      let abv : List Above = entries ats (opens v.literals) in
      from-line v m.case h (with-work v (task.Begin m.rule m.first false ∷ m.behind) (put ats m.case b) m.work
      (fit-begin cs ls ats (suc (length v.lines)) abv m.rule m.first m.clause m.behind b (put ats m.case b) m.named
      (fit-case cs ls ats false (suc (length v.lines)) abv m.rule m.clause m.case m.items m.behind b m.named m.is_case
      (none-there v.lines m.case h (case-is false m.clause m.case m.items m.is_case)) (behind-line v.lines m.case abv work b s.fits))))

  back-checks : (v w : View) → Checks cs v w → Shape w → Shape v
  back-checks v w m sh =
      let l : Line = line.Check m.rule m.first in
      let xs : List Line = v.lines ++ l ∷ [] in
      let work : List Task = shows m.items ++ task.Close ∷ m.behind in
      let s : Shape (adds (adds v l v.literals m.behind) m.case v.literals work) = subst Shape m.next sh in
      let k = next-line ls xs m.case s.begun in
      let h = next-line ls v.lines l k.begun in
      let b : Built = coming (xs ++ m.case ∷ []) in
      let after : Built = put ats m.case b in
      let abv : List Above = entries ats (opens v.literals) in
      let at : suc (length xs) ≡ suc (suc (length v.lines)) = ap suc (long-one v.lines l) in
      let case = fit-case cs ls ats true (suc (length xs)) abv m.rule m.clause m.case m.items m.behind b m.named m.is_case
      (none-there xs m.case k (case-is true m.clause m.case m.items m.is_case)) (behind-line xs m.case abv work b s.fits) in
      let two : coming v.lines ≡ put ats l after = made-next v.lines l h ∙ ap (put ats l) (made-next xs m.case k) in
      record {
        begun = h.begun;
        fits = subst (Fits cs ls ats (suc (length v.lines)) abv v.work) (sym two)
            (with-work v (task.Check m.rule m.checks_head ∷ m.behind) (put ats l after) m.work
            (fit-check cs ls ats (suc (length v.lines)) abv m.rule m.first m.checks_head m.clause m.behind b after m.named (m.first, h.there)
            (subst (λ (j : ℕ). FitCase cs ls ats true j abv m.rule m.behind b after) at case)));
      }

  back-leaves : (v w : View) → Leaves v w → Shape w → Shape v
  back-leaves v w m sh =
      let s : Shape (record { lines = v.lines; literals = left_by (opens v.literals) v.literals; work = m.behind }) = subst Shape m.next sh in
      record {
        begun = s.begun;
        fits = with-work v (task.Leave ∷ m.behind) (coming v.lines) m.work
            (subst (λ (z : List Above). Fits cs ls ats (suc (length v.lines)) z m.behind (coming v.lines)) (entries-left ats v.literals) s.fits);
      }

  pub move-back : (v w : View) → Counts v → Move cs v w → Shape w → Shape v
  move-back v w n (repeats m) sh = back-repeats v w n m sh
  move-back v w n (sees m) sh = back-sees v w m sh
  move-back v w n (goes_in m) sh = back-goes_in v w n m sh
  move-back v w n (negates m) sh = back-negates v w n m sh
  move-back v w n (takes_rule m) sh = back-takes_rule v w m sh
  move-back v w n (matches m) sh =
      let s : Shape (record v { work = task.Begin m.rule m.first false ∷ m.behind }) = subst Shape m.next sh in
      record { begun = s.begun; fits = with-work v (task.Differ [] (aims.Head m.rule m.first) ∷ m.behind) (coming v.lines) m.work s.fits }
  move-back v w n (begins m) sh = back-begins v w m sh
  move-back v w n (checks_clause m) sh = back-checks v w m sh
  move-back v w n (leaves m) sh = back-leaves v w m sh
  move-back v w n (closes m) sh =
      let s : Shape (record v { work = m.behind }) = subst Shape m.next sh in
      record { begun = s.begun; fits = with-work v (task.Close ∷ m.behind) (coming v.lines) m.work s.fits }
