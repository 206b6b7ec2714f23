-- What is known of the lines so far: forward along the moves.
use Rattle.std.specs.Prelude.{◌≡◌, ◌⊎◌, ℕ, suc, ◌+◌, ◌<◌, ◌≤◌, nat_lt, Bool, true, false, ◌&&◌, not, if◌then◌else◌, Some, List, [], ◌∷◌, ◌++◌, map, take, drop, slice_get, length, Contains}
use Rattle.std.proofs.Common.{◌∙◌, refl, ap, sym, subst, arith, inl, inr}
use Rattle.std.proofs.lemmas.Bool.Decides.{nat_tests}
use Rattle.scasp_list.specs.Each.{Each}
use Rattle.scasp_list.proofs.EachLemmas.{Each-map}
use Rattle.scasp_list.proofs.MemberLemmas.{Contains-none, Contains-cases}
use Rattle.scasp_checker_rules.proofs.TestLemmas.{lt-from}
use Rattle.scasp_checker_rules.specs.Accepted.{IsTreeOf}
use Rattle.scasp_checker_rules.specs.Firm.{is_firm, are_firm}
use Rattle.scasp_cert.specs.Lines.{lines_of, lines_below, lines_at, lines_in}
use Rattle.scasp_cert.specs.Trees.{Tree, Branch, pos_tree, neg_tree, loop_tree, seen_tree, test_tree, listed, covering}
use Rattle.scasp_lines.specs.Dues.{Due, goal, fact}
use Rattle.scasp_lines.specs.Places.{Above, Around}
use Rattle.scasp_search_rules.specs.declared.states.lines.Line.{Line}
use Rattle.scasp_search_rules.specs.declared.states.lines.Line.TheVariants as line
use Rattle.scasp_search_rules.specs.declared.states.state.Literal.{Literal}
use Rattle.scasp_search_rules.specs.declared.states.state.State.{State}
use Rattle.scasp_search_rules.specs.Successors.Calls.{looping, finished, vars_of_clause}
use Rattle.scasp_search_rules.specs.Successors.Calls.{is_firm as is_firm_literal}
use Rattle.scasp_search_rules.specs.Successors.Items.{body_of}
use Rattle.scasp_search_rules.specs.Successors.Trees.{Built, put, first_case, line_of, is_literal}
use Rattle.scasp_syntax.specs.Programs.{rules_of, pred_of}
use Rattle.scasp_syntax.specs.Tm.{Tms}
use Rattle.scasp_syntax.specs.Values.{Sub, all_under}
use Rattle.scasp_syntax.specs.declared.atom.Lit.{Lit}
use Rattle.scasp_syntax.specs.declared.program.Program.{Program}
use Rattle.scasp_unify.specs.Negations.{new_parts}
use Rattle.scasp_law_headed.proofs.Backing.{Shape, coming, entries, IsNext, long-one, made-next, move-back, new-line, next-line, node-next, opens-finished}
use Rattle.scasp_law_headed.proofs.Counting.{Counts, trail-counts}
use Rattle.scasp_law_headed.proofs.Fitting.{Fits, case-long, dropped, dues-long, fit-covers, fit-trees, head-long, taken}
use Rattle.scasp_law_headed.proofs.Shapes.{first_entry, rounds}
use Rattle.scasp_law_headed.specs.Good.{SeenRight, ats, cats, first_tree, is_literal_line, line_at, node_at}
use Rattle.scasp_law_headed.proofs.Spanning.{Ends, Spans, head_marked, node_of, spans-covers, spans-marked, spans-negative, spans-trees}
use Rattle.scasp_law_headed.proofs.Views.{Begins, Case, Checks, GoesIn, IsCaseOf, IsNew, Leaves, Move, Negates, Repeats, Sees, TakesRule, TellsTest, TellsVoid, Trail, View, Want, adds, begins, checks_clause, closes, first_with, follows, gives_up, goes_in, leaves, left_by, moves_mark, negates, opens, rematches, repeats, rests, sees, stays, takes_rule, tells_test, tells_void, want_check, want_close, want_leave, want_match, want_node, want_rule, want_void, wanted}
use Rattle.scasp_law_headed.specs.Reading.{body_dues, reading}

-- the node is of the literal
abbrev pub IsNodeOf : Lit → Tree → Type 0
IsNodeOf l (pos_tree a k ts children) = (l.positive ≡ true) × (a ≡ l.atom)
IsNodeOf l (neg_tree a covers) = (l.positive ≡ false) × (a ≡ l.atom)
IsNodeOf l (loop_tree lit to) = ⊥
IsNodeOf l (seen_tree lit to) = ⊥
IsNodeOf l (test_tree c hint) = ⊥

node-tree : (l : Lit) (t : Tree) → IsNodeOf l t → is_firm t ≡ true → IsTreeOf l t
node-tree l (pos_tree a k ts children) h f = (h.0, h.1, f)
node-tree l (neg_tree a covers) h f = h
node-tree l (loop_tree lit to) h f = absurd h
node-tree l (seen_tree lit to) h f = absurd h
node-tree l (test_tree c hint) h f = absurd h

opens-marked : (lits : List Literal) → opens (first_with looping lits) ≡ head_marked (opens lits)
opens-marked [] = refl
opens-marked (a ∷ lits) = by a.is_done refl (opens-marked lits)
  where
    by : (b : Bool) → a.is_done ≡ b → opens (first_with looping lits) ≡ head_marked (opens lits)
        → opens (if b then a ∷ first_with looping lits else looping a ∷ lits) ≡ head_marked (if not b then a ∷ opens lits else opens lits)
    by true e k = ap (λ (z : Bool). if not z then a ∷ opens (first_with looping lits) else opens (first_with looping lits)) e ∙ k
    by false e k = ap (λ (z : Bool). if not z then looping a ∷ opens lits else opens lits) e

module _ (p : Program) (fin : State) (u : Sub) (ls : List Line) where
  -- the terms for the variables of the clause
  abbrev pub terms_of : ℕ → ℕ → Tms
  terms_of k first = all_under (reading fin u) (new_parts first (vars_of_clause p k))

  -- The literal's line is one of a literal, and its node is of it. Where the literal is done its node has ended before this line, and is firm
  -- where no loop leads out of it.
  pub record Known (at : ℕ) (a : Literal) : Type 0 where
    pub literal : is_literal_line (line_at p fin u ls (line_of (ats p fin u ls) a.number)) ≡ true
    pub node : IsNodeOf a.lit (node_of p fin u ls a)
    pub ended : a.is_done ≡ true → line_of (ats p fin u ls) a.number + lines_of (node_of p fin u ls a) ≤ at
    pub firm : a.is_done ≡ true → is_firm_literal a ≡ true → is_firm (node_of p fin u ls a) ≡ true

  abbrev pub SpansAt : View → Type 0
  SpansAt v = Spans p fin u ls (suc (length v.lines)) true (opens v.literals) v.wants (coming p fin u ls v.lines)

  pub record Past (v : View) : Type 0 where
    pub spans : SpansAt v
    pub known : Each (Known (suc (length v.lines))) v.literals
    pub seen : (i : ℕ) (l : Lit) (n : ℕ) → i < length v.lines → slice_get ls i ≡ Some (line.Seen l n) → SeenRight p fin u ls (suc i) l (line_of (ats p fin u ls) n)

  -- ---- literals

  known-later : (at later : ℕ) → at ≤ later → (lits : List Literal) → Each (Known at) lits → Each (Known later) lits
  known-later at later e lits h =
      Each-map (Known at) (Known later) (λ a k. record {
        literal = k.literal;
        node = k.node;
        ended = λ d. (let before = k.ended d in omega (arith, e, before));
        firm = k.firm;
      }) lits h

  known-marked : (at : ℕ) (lits : List Literal) → Each (Known at) lits → Each (Known at) (first_with looping lits)
  known-marked at [] h = tt
  known-marked at (a ∷ lits) h = by a.is_done refl (known-marked at lits h.1)
    where
      by : (b : Bool) → a.is_done ≡ b → Each (Known at) (first_with looping lits) → Each (Known at) (if b then a ∷ first_with looping lits else looping a ∷ lits)
      by true e k = (h.0, k)
      by false e k = (
        record { literal = h.0.literal; node = h.0.node; ended = λ d. absurd (cc (d, e)); firm = λ d f. absurd (cc (d, e)) },
        h.1,
      )

  is-firm : (loops positive : Bool) (P : Type 0) → (positive ≡ false → P) → (loops ≡ false → P) → not (positive && loops) ≡ true → P
  is-firm loops false P n u e = n refl
  is-firm false true P n u e = u refl
  is-firm true true P n u e = absurd (cc e)

  -- where the innermost open literal ends here it is known as done
  known-finished : (at : ℕ) (lits : List Literal) (a : Literal) (rest : List Literal) → opens lits ≡ a ∷ rest → Ends p fin u ls a at true → Each (Known at) lits
      → Each (Known at) (first_with finished lits)
  known-finished at [] a rest e n h = absurd (cc e)
  known-finished at (x ∷ lits) a rest e n h = by x.is_done refl (λ o. known-finished at lits a rest o n h.1)
    where
      by : (b : Bool) → x.is_done ≡ b → (opens lits ≡ a ∷ rest → Each (Known at) (first_with finished lits))
          → Each (Known at) (if b then x ∷ first_with finished lits else finished x ∷ lits)
      by true d k = (h.0, k (sym (ap (λ (z : Bool). if not z then x ∷ opens lits else opens lits) d) ∙ e))
      by false d k =
          let all : x ∷ opens lits ≡ a ∷ rest = sym (ap (λ (z : Bool). if not z then x ∷ opens lits else opens lits) d) ∙ e in
          let same : a ≡ x = cc all in
          let m : Ends p fin u ls x at true = subst (λ (z : Literal). Ends p fin u ls z at true) same n in
          let last = m.ends in (
            record {
              literal = h.0.literal;
              node = h.0.node;
              ended = λ k. omega (arith, last);
              firm = λ k f. is-firm x.loops x.lit.positive (is_firm (node_of p fin u ls x) ≡ true) m.negative (λ u. m.unmarked u refl) f;
            },
            h.1,
          )

  known-among : (at : ℕ) (lits : List Literal) (a : Literal) → Contains lits a → Each (Known at) lits → Known at a
  known-among at [] a c h = absurd (Contains-none a c)
  known-among at (x ∷ lits) a c h = elim (Contains-cases x lits a c) [
    | inl e ↦ subst (Known at) e h.0
    | inr k ↦ known-among at lits a k h.1
  ]

  -- ---- what is seen

  abbrev pub AreSeen : ℕ → Type 0
  AreSeen n = (i : ℕ) (l : Lit) (k : ℕ) → i < n → slice_get ls i ≡ Some (line.Seen l k) → SeenRight p fin u ls (suc i) l (line_of (ats p fin u ls) k)

  below-or : (i n : ℕ) → i < suc n → (i < n) ⊎ (i ≡ n)
  below-or i n h = by (nat_lt i n) refl
    where
      by : (b : Bool) → nat_lt i n ≡ b → (i < n) ⊎ (i ≡ n)
      by true e = inl (lt-from i n e)
      by false e = inr (let k : i ≡ n = grind (arith, nat_tests, e, h) in k)

  seen-more : (xs : List Line) (l : Line) → IsNext ls xs l → ((lit : Lit) (k : ℕ) → l ≡ line.Seen lit k → SeenRight p fin u ls (suc (length xs)) lit (line_of (ats p fin u ls) k))
      → AreSeen (length xs) → AreSeen (length (xs ++ l ∷ []))
  seen-more xs l h this before i lit k less e =
      let in_all : i < suc (length xs) = subst (λ (n : ℕ). i < n) (long-one xs l) less in
      elim (below-or i (length xs) in_all) [
        | inl a ↦ before i lit k a e
        | inr q ↦ (
            let is : Some l ≡ Some (line.Seen lit k) = sym h.there ∙ ap (slice_get ls) (sym q) ∙ e in
            let same : l ≡ line.Seen lit k = cc is in
            subst (λ (n : ℕ). SeenRight p fin u ls (suc n) lit (line_of (ats p fin u ls) k)) (sym q) (this lit k same)
            )
      ]

  -- ---- spans of a move, where the line is added

  abbrev pub at_line : List Line → ℕ
  at_line xs = suc (length xs)

  spans-work : (v : View) (work : List Want) (b : Built) → v.wants ≡ work → coming p fin u ls v.lines ≡ b → SpansAt v
      → Spans p fin u ls (suc (length v.lines)) true (opens v.literals) work b
  spans-work v work b e m h =
      subst (Spans p fin u ls (suc (length v.lines)) true (opens v.literals) work) m
      (subst (λ (z : List Want). Spans p fin u ls (suc (length v.lines)) true (opens v.literals) z (coming p fin u ls v.lines)) e h)

  -- the same with the number of the line behind
  spans-behind : (xs : List Line) (l : Line) (firm : Bool) (lits : List Literal) (work : List Want) (b : Built)
      → Spans p fin u ls (suc (suc (length xs))) firm lits work b → Spans p fin u ls (suc (length (xs ++ l ∷ []))) firm lits work b
  spans-behind xs l firm lits work b h = subst (λ (n : ℕ). Spans p fin u ls (suc n) firm lits work b) (sym (long-one xs l)) h

  spans-repeats : (v w : View) (m : Repeats p fin u v w) → IsNext ls v.lines (line.Loop m.lit m.one.number) → SpansAt v → SpansAt w
  spans-repeats v w m h s =
      let l : Line = line.Loop m.lit m.one.number in
      let b : Built = coming p fin u ls (v.lines ++ l ∷ []) in
      let spans = spans-work v (want_node (goal m.lit) ∷ m.behind) (put (ats p fin u ls) l b) m.wants (made-next p fin u ls v.lines l h) s in
      let sum : suc (length v.lines) + 1 ≡ suc (suc (length v.lines)) = omega arith in
      let now : Spans p fin u ls (suc (suc (length v.lines))) (not m.lit.positive) (opens v.literals) m.behind b =
      subst (λ (n : ℕ). Spans p fin u ls n (not m.lit.positive) (opens v.literals) m.behind b) sum spans in
      subst SpansAt (sym m.next) (spans-behind v.lines l true _ m.behind b (by m.lit.positive now))
    where
      by : (positive : Bool) → Spans p fin u ls (suc (suc (length v.lines))) (not positive) (opens v.literals) m.behind (coming p fin u ls (v.lines ++ line.Loop m.lit m.one.number ∷ []))
          → Spans p fin u ls (suc (suc (length v.lines))) true (opens (if positive then first_with looping v.literals else v.literals)) m.behind
          (coming p fin u ls (v.lines ++ line.Loop m.lit m.one.number ∷ []))
      by true k =
          subst (λ (z : List Literal). Spans p fin u ls (suc (suc (length v.lines))) true z m.behind (coming p fin u ls (v.lines ++ line.Loop m.lit m.one.number ∷ [])))
          (sym (opens-marked v.literals)) (spans-marked p fin u ls (suc (suc (length v.lines))) false true (opens v.literals) m.behind _ k)
      by false k = k

  spans-sees : (v w : View) (m : Sees p fin u v w) → IsNext ls v.lines (line.Seen m.lit m.one.number) → SpansAt v → SpansAt w
  spans-sees v w m h s =
      let l : Line = line.Seen m.lit m.one.number in
      let b : Built = coming p fin u ls (v.lines ++ l ∷ []) in
      let spans = spans-work v (want_node (goal m.lit) ∷ m.behind) (put (ats p fin u ls) l b) m.wants (made-next p fin u ls v.lines l h) s in
      let sum : suc (length v.lines) + 1 ≡ suc (suc (length v.lines)) = omega arith in
      subst SpansAt (sym m.next) (spans-behind v.lines l true (opens v.literals) m.behind b
      (subst (λ (n : ℕ). Spans p fin u ls n true (opens v.literals) m.behind b) sum spans))

  -- a new literal, whose node is this tree, is open until the tree ends
  entering : (one : Literal) (at end : ℕ) (t : Tree) (firm : Bool) (lits : List Literal) (behind : List Want) (b : Built)
      → line_of (ats p fin u ls) one.number ≡ at → node_of p fin u ls one ≡ t → at + lines_of t ≡ end
      → (one.lit.positive ≡ false → is_firm t ≡ true) → (firm ≡ true → is_firm t ≡ true) → Spans p fin u ls end (is_firm t) lits behind b
      → Spans p fin u ls end firm (one ∷ lits) (want_leave ∷ behind) b
  entering one at end t firm lits behind b l n e neg un s = (
    record {
      ends = (λ i. l i + lines_of (n i)) ∙ e;
      negative = λ q. ap is_firm n ∙ neg q;
      unmarked = λ q r. ap is_firm n ∙ un r;
    },
    subst (λ (z : Tree). Spans p fin u ls end (is_firm z) lits behind b) (sym n) s,
  )

  opens-new : (v : View) (lit : Lit) (one : Literal) → IsNew p fin u v lit one → opens (one ∷ v.literals) ≡ one ∷ opens v.literals
  opens-new v lit one new = ap (λ (z : Bool). if not z then one ∷ opens v.literals else opens v.literals) new.open_yet

  -- where the new literal and its node stand
  pub record Stands (v : View) (l : Line) (one : Literal) : Type 0 where
    pub at : line_of (ats p fin u ls) one.number ≡ suc (length v.lines)
    pub node : node_of p fin u ls one ≡ first_tree (put (ats p fin u ls) l (coming p fin u ls (v.lines ++ l ∷ []))).nodes

  stands-new : (v : View) (l : Line) (lit : Lit) (one : Literal) → Counts v → IsNext ls v.lines l → is_literal l ≡ true → IsNew p fin u v lit one → Stands v l one
  stands-new v l lit one n h e new =
      let at : line_of (ats p fin u ls) one.number ≡ suc (length v.lines) = ap (line_of (ats p fin u ls)) new.number ∙ (new-line p fin u ls v l n h e).line in
      record { at = at; node = ap (node_at p fin u ls) at ∙ node-next p fin u ls v.lines l h }

  known-new : (v : View) (l : Line) (lit : Lit) (one : Literal) → IsNext ls v.lines l → is_literal l ≡ true → IsNew p fin u v lit one → Stands v l one
      → IsNodeOf lit (first_tree (put (ats p fin u ls) l (coming p fin u ls (v.lines ++ l ∷ []))).nodes) → Known (suc (suc (length v.lines))) one
  known-new v l lit one h e new st is = record {
    literal = ap (λ (n : ℕ). is_literal_line (line_at p fin u ls n)) st.at ∙ ap is_literal_line h.there ∙ e;
    node = subst (λ (z : Lit). IsNodeOf z (node_of p fin u ls one)) (sym new.of) (subst (IsNodeOf lit) (sym st.node) is);
    ended = λ d. absurd (cc (d, new.open_yet));
    firm = λ d f. absurd (cc (d, new.open_yet));
  }

  spans-goes_in : (v w : View) (m : GoesIn p fin u v w) → IsNext ls v.lines (line.Pos m.lit.atom m.rule (terms_of m.rule m.first) (length (body_of p m.rule m.first)))
      → Stands v (line.Pos m.lit.atom m.rule (terms_of m.rule m.first) (length (body_of p m.rule m.first))) m.one → Shape p fin u ls w → SpansAt v → SpansAt w
  spans-goes_in v w m h st sh s =
      let n : ℕ = length (body_of p m.rule m.first) in
      let l : Line = line.Pos m.lit.atom m.rule (terms_of m.rule m.first) n in
      let b : Built = coming p fin u ls (v.lines ++ l ∷ []) in
      let at : ℕ = suc (length v.lines) in
      let work : List Want = wanted (body_dues p fin u m.rule m.first) ++ want_leave ∷ m.behind in
      let shape : Shape p fin u ls (adds v l (m.one ∷ v.literals) v.cases work) = subst (Shape p fin u ls) m.next sh in
      let r = fit-trees p fin u ls _ _ _ (body_dues p fin u m.rule m.first) (want_leave ∷ m.behind) b shape.fits in
      let front : take n b.nodes ≡ r.trees = taken p fin u ls n b.nodes r.trees r.rest r.nodes (r.long ∙ dues-long (reading fin u) (body_of p m.rule m.first)) in
      let back : drop n b.nodes ≡ r.rest = dropped p fin u ls n b.nodes r.trees r.rest r.nodes (r.long ∙ dues-long (reading fin u) (body_of p m.rule m.first)) in
      let spans = spans-work v (want_node (goal m.lit) ∷ m.behind) (put (ats p fin u ls) l b) m.wants (made-next p fin u ls v.lines l h) s in
      let P : List Tree → List Tree → Type 0 = λ xs ys. Spans p fin u ls (at + (1 + lines_below (listed xs))) (are_firm (listed xs)) (opens v.literals) m.behind (record b { nodes = ys }) in
      let spans_front : P r.trees (drop n b.nodes) = subst (λ (z : List Tree). P z (drop n b.nodes)) front spans in
      let spans_both : P r.trees r.rest = subst (P r.trees) back spans_front in
      let t : Tree = pos_tree m.lit.atom m.rule (terms_of m.rule m.first) (listed r.trees) in
      let node : node_of p fin u ls m.one ≡ t = st.node ∙ ap (λ (z : List Tree). pos_tree m.lit.atom m.rule (terms_of m.rule m.first) (listed z)) front in
      let sum : at + (1 + lines_below (listed r.trees)) ≡ suc at + lines_below (listed r.trees) = omega arith in
      let end : Spans p fin u ls (suc at + lines_below (listed r.trees)) (are_firm (listed r.trees)) (opens v.literals) m.behind (record b { nodes = r.rest }) =
      subst (λ (k : ℕ). Spans p fin u ls k (are_firm (listed r.trees)) (opens v.literals) m.behind (record b { nodes = r.rest })) sum spans_both in
      let all : Spans p fin u ls (suc at) true (m.one ∷ opens v.literals) work (record b { nodes = r.trees ++ r.rest }) =
      spans-trees p fin u ls (suc at) true (m.one ∷ opens v.literals) (body_dues p fin u m.rule m.first) r.trees r.rest (want_leave ∷ m.behind) b r.long
      (entering m.one at (suc at + lines_below (listed r.trees)) t (are_firm (listed r.trees)) (opens v.literals) m.behind (record b { nodes = r.rest })
      st.at node sum (λ q. absurd (cc (q, ap (λ (z : Lit). z.positive) m.new.of, m.positive))) (λ q. q) end) in
      let here : Spans p fin u ls (suc at) true (m.one ∷ opens v.literals) work b =
      subst (λ (z : List Tree). Spans p fin u ls (suc at) true (m.one ∷ opens v.literals) work (record b { nodes = z })) (sym r.nodes) all in
      subst SpansAt (sym m.next) (spans-behind v.lines l true (opens (m.one ∷ v.literals)) work b
      (subst (λ (z : List Literal). Spans p fin u ls (suc at) true z work b) (sym (opens-new v m.lit m.one m.new)) here))

  spans-negates : (v w : View) (m : Negates p fin u v w) → IsNext ls v.lines (line.Neg m.lit.atom (length (rules_of p (pred_of m.lit.atom))))
      → Stands v (line.Neg m.lit.atom (length (rules_of p (pred_of m.lit.atom)))) m.one → Shape p fin u ls w → SpansAt v → SpansAt w
  spans-negates v w m h st sh s =
      let ks : List ℕ = rules_of p (pred_of m.lit.atom) in
      let n : ℕ = length ks in
      let l : Line = line.Neg m.lit.atom n in
      let b : Built = coming p fin u ls (v.lines ++ l ∷ []) in
      let at : ℕ = suc (length v.lines) in
      let work : List Want = map (want_rule m.lit.atom) ks ++ want_leave ∷ m.behind in
      let shape : Shape p fin u ls (adds v l (m.one ∷ v.literals) v.cases work) = subst (Shape p fin u ls) m.next sh in
      let r = fit-covers p fin u ls _ _ _ m.lit.atom ks (want_leave ∷ m.behind) b shape.fits in
      let front : take n b.covers ≡ r.covers = taken p fin u ls n b.covers r.covers r.rest r.all r.long in
      let back : drop n b.covers ≡ r.rest = dropped p fin u ls n b.covers r.covers r.rest r.all r.long in
      let spans = spans-work v (want_node (goal m.lit) ∷ m.behind) (put (ats p fin u ls) l b) m.wants (made-next p fin u ls v.lines l h) s in
      let P : List (ℕ × Branch) → List (ℕ × Branch) → Type 0 =
      λ xs ys. Spans p fin u ls (at + (1 + lines_in (covering xs))) true (opens v.literals) m.behind (record b { covers = ys }) in
      let spans_front : P r.covers (drop n b.covers) = subst (λ (z : List (ℕ × Branch)). P z (drop n b.covers)) front spans in
      let spans_both : P r.covers r.rest = subst (P r.covers) back spans_front in
      let t : Tree = neg_tree m.lit.atom (covering r.covers) in
      let node : node_of p fin u ls m.one ≡ t = st.node ∙ ap (λ (z : List (ℕ × Branch)). neg_tree m.lit.atom (covering z)) front in
      let sum : at + (1 + lines_in (covering r.covers)) ≡ suc at + lines_in (covering r.covers) = omega arith in
      let end : Spans p fin u ls (suc at + lines_in (covering r.covers)) true (opens v.literals) m.behind (record b { covers = r.rest }) =
      subst (λ (k : ℕ). Spans p fin u ls k true (opens v.literals) m.behind (record b { covers = r.rest })) sum spans_both in
      let all : Spans p fin u ls (suc at) true (m.one ∷ opens v.literals) work (record b { covers = r.covers ++ r.rest }) =
      spans-covers p fin u ls (suc at) (m.one ∷ opens v.literals) m.lit.atom ks r.covers r.rest (want_leave ∷ m.behind) b r.long
      (entering m.one at (suc at + lines_in (covering r.covers)) t true (opens v.literals) m.behind (record b { covers = r.rest })
      st.at node sum (λ q. refl) (λ q. refl) end) in
      let here : Spans p fin u ls (suc at) true (m.one ∷ opens v.literals) work b =
      subst (λ (z : List (ℕ × Branch)). Spans p fin u ls (suc at) true (m.one ∷ opens v.literals) work (record b { covers = z })) (sym r.all) all in
      subst SpansAt (sym m.next) (spans-behind v.lines l true (opens (m.one ∷ v.literals)) work b
      (subst (λ (z : List Literal). Spans p fin u ls (suc at) true z work b) (sym (opens-new v m.lit m.one m.new)) here))

  spans-takes_rule : (v w : View) (m : TakesRule p fin u v w) → IsNext ls v.lines (line.Rule m.atom m.rule m.first) → SpansAt v → SpansAt w
  spans-takes_rule v w m h s =
      let l : Line = line.Rule m.atom m.rule m.first in
      let b : Built = coming p fin u ls (v.lines ++ l ∷ []) in
      let at : ℕ = suc (length v.lines) in
      let work : List Want = want_match m.bound m.pairs m.rule m.first ∷ m.behind in
      let spans = spans-work v (want_rule m.atom m.rule ∷ m.behind) (put (ats p fin u ls) l b) m.wants (made-next p fin u ls v.lines l h) s in
      let sum : at + (1 + lines_at (first_case b.cases)) ≡ suc at + lines_at (first_case b.cases) = omega arith in
      subst SpansAt (sym m.next) (spans-behind v.lines l true (opens v.literals) work b
      (subst (λ (n : ℕ). Spans p fin u ls n true (opens v.literals) m.behind (record b { cases = drop 1 b.cases })) sum spans))

  -- the children of a case, where the number of the case's line is one less
  spans-children : (at n : ℕ) (abv : List Above) (rs : List Around) (ds : List Due) (behind : List Want) (lits : List Literal) (b : Built) → length ds ≡ n
      → Fits p fin u ls (suc at) abv rs (wanted ds ++ want_close ∷ behind) b
      → Spans p fin u ls (at + (1 + lines_below (listed (take n b.nodes)))) true lits behind (record b { nodes = drop n b.nodes })
      → Spans p fin u ls (suc at) true lits (wanted ds ++ want_close ∷ behind) b
  spans-children at n abv rs ds behind lits b e k s =
      let r = fit-trees p fin u ls (suc at) abv rs ds (want_close ∷ behind) b k in
      let long : length r.trees ≡ n = r.long ∙ e in
      let front : take n b.nodes ≡ r.trees = taken p fin u ls n b.nodes r.trees r.rest r.nodes long in
      let back : drop n b.nodes ≡ r.rest = dropped p fin u ls n b.nodes r.trees r.rest r.nodes long in
      let P : List Tree → List Tree → Type 0 = λ xs ys. Spans p fin u ls (at + (1 + lines_below (listed xs))) true lits behind (record b { nodes = ys }) in
      let s_front : P r.trees (drop n b.nodes) = subst (λ (z : List Tree). P z (drop n b.nodes)) front s in
      let s_both : P r.trees r.rest = subst (P r.trees) back s_front in
      let sum : at + (1 + lines_below (listed r.trees)) ≡ suc at + lines_below (listed r.trees) = omega arith in
      subst (λ (z : List Tree). Spans p fin u ls (suc at) true lits (wanted ds ++ want_close ∷ behind) (record b { nodes = z })) (sym r.nodes)
      (spans-trees p fin u ls (suc at) true lits ds r.trees r.rest (want_close ∷ behind) b r.long
      (subst (λ (k : ℕ). Spans p fin u ls k true lits behind (record b { nodes = r.rest })) sum s_both))

  spans-case : (checks : Bool) (at : ℕ) (abv : List Above) (rs : List Around) (k first : ℕ) (l : Line) (ds : List Due) (behind : List Want) (lits : List Literal) (b : Built)
      → IsCaseOf p fin u checks k first l ds → Fits p fin u ls (suc at) abv rs (wanted ds ++ want_close ∷ behind) b
      → Spans p fin u ls (at + lines_at (first_case (put (ats p fin u ls) l b).cases)) true lits behind
      (record (put (ats p fin u ls) l b) { cases = drop 1 (put (ats p fin u ls) l b).cases })
      → Spans p fin u ls (suc at) true lits (wanted ds ++ want_close ∷ behind) b
  spans-case checks at abv rs k first (line.Leaf n) ds behind lits b h y s =
      spans-children at n abv rs ds behind lits b (case-long p fin u ls checks k first (line.Leaf n) n ds refl h) y s
  spans-case checks at abv rs k first (line.Head n) ds behind lits b h y s = spans-children at n abv rs ds behind lits b (head-long p fin u ls checks k first n ds h) y s
  spans-case checks at abv rs k first l ds behind lits b h y s = absurd h

  spans-begins : (v w : View) (m : Begins p fin u v w) → IsNext ls v.lines m.case → Shape p fin u ls w → SpansAt v → SpansAt w
  spans-begins v w m h sh s =
      let b : Built = coming p fin u ls (v.lines ++ m.case ∷ []) in
      let at : ℕ = suc (length v.lines) in
      let work : List Want = wanted m.dues ++ want_close ∷ m.behind in
      let shape : Shape p fin u ls (adds v m.case v.literals (m.one ∷ v.cases) work) = subst (Shape p fin u ls) m.next sh in
      let fits = subst (λ (n : ℕ). Fits p fin u ls (suc n) (entries (ats p fin u ls) (opens v.literals)) (rounds (cats p fin u ls) (m.one ∷ v.cases)) work b) (long-one v.lines m.case) shape.fits in
      let spans = spans-work v (want_match m.bound m.pairs m.rule m.first ∷ m.behind) (put (ats p fin u ls) m.case b) m.wants (made-next p fin u ls v.lines m.case h) s in
      subst SpansAt (sym m.next) (spans-behind v.lines m.case true (opens v.literals) work b
      (spans-case false at _ _ m.rule m.first m.case m.dues m.behind (opens v.literals) b m.is_case fits spans))

  spans-checks : (v w : View) (m : Checks p fin u v w) → IsNext ls v.lines (line.Check m.rule m.first) → IsNext ls (v.lines ++ line.Check m.rule m.first ∷ []) m.case
      → Shape p fin u ls w → SpansAt v → SpansAt w
  spans-checks v w m h k sh s =
      let l : Line = line.Check m.rule m.first in
      let xs : List Line = v.lines ++ l ∷ [] in
      let b : Built = coming p fin u ls (xs ++ m.case ∷ []) in
      let after : Built = put (ats p fin u ls) m.case b in
      let at : ℕ = suc (length v.lines) in
      let work : List Want = wanted m.dues ++ want_close ∷ m.behind in
      let shape : Shape p fin u ls (adds (adds v l v.literals v.cases m.behind) m.case v.literals (m.one ∷ v.cases) work) = subst (Shape p fin u ls) m.next sh in
      let fits = subst (λ (n : ℕ). Fits p fin u ls (suc n) (entries (ats p fin u ls) (opens v.literals)) (rounds (cats p fin u ls) (m.one ∷ v.cases)) work b) (long-one xs m.case) shape.fits in
      let two : coming p fin u ls v.lines ≡ put (ats p fin u ls) l after = made-next p fin u ls v.lines l h ∙ ap (put (ats p fin u ls) l) (made-next p fin u ls xs m.case k) in
      let spans = spans-work v (want_check m.rule m.checks_head ∷ m.behind) (put (ats p fin u ls) l after) m.wants two s in
      let sum : at + (1 + lines_at (first_case after.cases)) ≡ suc (length xs) + lines_at (first_case after.cases) =
      (let long = long-one v.lines l in omega (arith, long)) in
      subst SpansAt (sym m.next) (spans-behind xs m.case true (opens v.literals) work b
      (spans-case true (suc (length xs)) _ _ m.rule m.first m.case m.dues m.behind (opens v.literals) b m.is_case fits
      (subst (λ (n : ℕ). Spans p fin u ls n true (opens v.literals) m.behind (record after { cases = drop 1 after.cases })) sum spans)))

  -- ---- the end of a literal

  -- where no literal is open, none has an end that is to come
  spans-none : (at : ℕ) (firm : Bool) (ts : List Want) (b : Built) → Spans p fin u ls at firm [] ts b
  spans-none at firm [] b = tt
  spans-none at firm (want_node d ∷ ts) b = spans-none (at + lines_of (first_tree b.nodes)) (firm && is_firm (first_tree b.nodes)) ts (record b { nodes = drop 1 b.nodes })
  spans-none at firm (want_rule a k ∷ ts) b = spans-none (at + (1 + lines_at (first_entry b.covers).1)) true ts (record b { covers = drop 1 b.covers })
  spans-none at firm (want_check k c ∷ ts) b = spans-none (at + (1 + lines_at (first_entry b.checks).1)) true ts (record b { checks = drop 1 b.checks })
  spans-none at firm (want_match bs ps k first ∷ ts) b = spans-none (at + lines_at (first_case b.cases)) true ts (record b { cases = drop 1 b.cases })
  spans-none at firm (want_void ∷ ts) b = spans-none (at + lines_at (first_case b.cases)) true ts (record b { cases = drop 1 b.cases })
  spans-none at firm (want_leave ∷ ts) b = spans-none at true ts b
  spans-none at firm (want_close ∷ ts) b = spans-none at true ts b

  -- what is left where the literal ends, by whether its mark moves on
  spans-left : (at : ℕ) (a : Literal) (rest : List Literal) (ts : List Want) (b : Built) (firm : Bool)
      → is_firm (node_of p fin u ls a) ≡ firm → Ends p fin u ls a at true
      → Spans p fin u ls at firm rest ts b → moves_mark a rest ≡ false → Spans p fin u ls at true rest ts b
  spans-left at a rest ts b true e n h k = h
  spans-left at a [] ts b false e n h k = spans-none at true ts b
  spans-left at a (x ∷ rest) ts b false e n h k = by a.loops a.lit.positive x.lit.positive refl refl refl k
    where
      by : (l y q : Bool) → a.loops ≡ l → a.lit.positive ≡ y → x.lit.positive ≡ q → (l && y && q) ≡ false → Spans p fin u ls at true (x ∷ rest) ts b
      by true true true el ep eq f = absurd (cc f)
      by true true false el ep eq f = spans-negative p fin u ls at false true (x ∷ rest) ts b eq h
      by true false q el ep eq f = absurd (cc (n.negative ep, e))
      by false y q el ep eq f = absurd (cc (n.unmarked el refl, e))

  spans-ended : (at : ℕ) (a : Literal) (rest : List Literal) (ts : List Want) (b : Built) (lits : List Literal) (moves : Bool)
      → opens lits ≡ a ∷ rest → moves_mark a rest ≡ moves → Ends p fin u ls a at true
      → Spans p fin u ls at (is_firm (node_of p fin u ls a)) rest ts b
      → Spans p fin u ls at true (opens (if moves then first_with looping (first_with finished lits) else first_with finished lits)) ts b
  spans-ended at a rest ts b lits true o k n h =
      let all : opens (first_with looping (first_with finished lits)) ≡ head_marked rest =
      opens-marked (first_with finished lits) ∙ ap head_marked (opens-finished lits ∙ ap (drop 1) o) in
      subst (λ (z : List Literal). Spans p fin u ls at true z ts b) (sym all)
      (spans-marked p fin u ls at (is_firm (node_of p fin u ls a)) true rest ts b h)
  spans-ended at a rest ts b lits false o k n h =
      let all : opens (first_with finished lits) ≡ rest = opens-finished lits ∙ ap (drop 1) o in
      subst (λ (z : List Literal). Spans p fin u ls at true z ts b) (sym all) (spans-left at a rest ts b _ refl n h k)

  leaves-by : (v : View) (behind : List Want) (lits : List Literal) → opens v.literals ≡ lits → Each (Known (suc (length v.lines))) v.literals → AreSeen (length v.lines)
      → Spans p fin u ls (suc (length v.lines)) true lits (want_leave ∷ behind) (coming p fin u ls v.lines)
      → Past (record { lines = v.lines; literals = left_by lits v.literals; cases = v.cases; wants = behind })
  leaves-by v behind [] o known seen h = record {
    spans = subst (λ (z : List Literal). Spans p fin u ls (suc (length v.lines)) true z behind (coming p fin u ls v.lines)) (sym o) h;
    known = known;
    seen = seen;
  }
  leaves-by v behind (a ∷ rest) o known seen h = record {
    spans = spans-ended (suc (length v.lines)) a rest behind (coming p fin u ls v.lines) v.literals (moves_mark a rest) o refl h.0 h.1;
    known = by (moves_mark a rest);
    seen = seen;
  }
    where
      ended : Each (Known (suc (length v.lines))) (first_with finished v.literals)
      ended = known-finished (suc (length v.lines)) v.literals a rest o h.0 known

      by : (b : Bool) → Each (Known (suc (length v.lines))) (if b then first_with looping (first_with finished v.literals) else first_with finished v.literals)
      by true = known-marked (suc (length v.lines)) (first_with finished v.literals) ended
      by false = ended

  past-leaves : (v w : View) → Leaves p fin u v w → Past v → Past w
  past-leaves v w m pt =
      subst Past (sym m.next) (leaves-by v m.behind (opens v.literals) refl pt.known pt.seen
      (spans-work v (want_leave ∷ m.behind) (coming p fin u ls v.lines) m.wants refl pt.spans))

  -- ---- each move

  -- where a line is added, from what is known behind it
  past-line : (v : View) (l : Line) (lits : List Literal) (cases : List Case) (work : List Want) → Each (Known (suc (suc (length v.lines)))) lits
      → AreSeen (length (v.lines ++ l ∷ [])) → SpansAt (adds v l lits cases work) → Past (adds v l lits cases work)
  past-line v l lits cases work known seen spans = record {
    spans = spans;
    known = subst (λ (n : ℕ). Each (Known (suc n)) lits) (sym (long-one v.lines l)) known;
    seen = seen;
  }

  seen-other : (xs : List Line) (l : Line) → IsNext ls xs l → ((lit : Lit) (k : ℕ) → l ≡ line.Seen lit k → ⊥) → AreSeen (length xs) → AreSeen (length (xs ++ l ∷ []))
  seen-other xs l h none before = seen-more xs l h (λ lit k e. absurd (none lit k e)) before

  case-other : (checks : Bool) (k first : ℕ) (l : Line) (ds : List Due) → IsCaseOf p fin u checks k first l ds → (lit : Lit) (n : ℕ) → l ≡ line.Seen lit n → ⊥
  case-other checks k first (line.Leaf n) ds h lit j e = cc e
  case-other checks k first (line.Head n) ds h lit j e = cc e
  case-other checks k first l ds h lit j e = h

  past-repeats : (v w : View) (m : Repeats p fin u v w) → Shape p fin u ls w → Past v → Past w
  past-repeats v w m sh pt =
      let l : Line = line.Loop m.lit m.one.number in
      let lits : List Literal = if m.lit.positive then first_with looping v.literals else v.literals in
      let shape : Shape p fin u ls (adds v l lits v.cases m.behind) = subst (Shape p fin u ls) m.next sh in
      let h = next-line ls v.lines l shape.begun in
      let later = known-later (suc (length v.lines)) (suc (suc (length v.lines))) (omega arith) v.literals pt.known in
      subst Past (sym m.next) (past-line v l lits v.cases m.behind (by m.lit.positive later)
      (seen-other v.lines l h (λ lit k e. cc e) pt.seen) (subst SpansAt m.next (spans-repeats v w m h pt.spans)))
    where
      by : (b : Bool) → Each (Known (suc (suc (length v.lines)))) v.literals
          → Each (Known (suc (suc (length v.lines)))) (if b then first_with looping v.literals else v.literals)
      by true k = known-marked (suc (suc (length v.lines))) v.literals k
      by false k = k

  past-sees : (v w : View) (m : Sees p fin u v w) → Shape p fin u ls w → Past v → Past w
  past-sees v w m sh pt =
      let l : Line = line.Seen m.lit m.one.number in
      let shape : Shape p fin u ls (adds v l v.literals v.cases m.behind) = subst (Shape p fin u ls) m.next sh in
      let h = next-line ls v.lines l shape.begun in
      let later = known-later (suc (length v.lines)) (suc (suc (length v.lines))) (omega arith) v.literals pt.known in
      let one = known-among (suc (length v.lines)) v.literals m.one m.told pt.known in
      let right : SeenRight p fin u ls (suc (length v.lines)) m.lit (line_of (ats p fin u ls) m.one.number) =
      record {
        literal = one.literal;
        node = subst (λ (z : Lit). IsTreeOf z (node_of p fin u ls m.one)) m.same
            (node-tree m.one.lit (node_of p fin u ls m.one) one.node (one.firm m.done m.firm));
        ended = one.ended m.done;
      } in
      let this : (lit : Lit) (k : ℕ) → l ≡ line.Seen lit k → SeenRight p fin u ls (suc (length v.lines)) lit (line_of (ats p fin u ls) k) =
      λ lit k e. (
      let same : m.lit ≡ lit = cc e in
      let number : m.one.number ≡ k = cc e in
      subst (λ (z : Lit). SeenRight p fin u ls (suc (length v.lines)) z (line_of (ats p fin u ls) k)) same
      (subst (λ (z : ℕ). SeenRight p fin u ls (suc (length v.lines)) m.lit (line_of (ats p fin u ls) z)) number right)
      ) in
      subst Past (sym m.next) (past-line v l v.literals v.cases m.behind later (seen-more v.lines l h this pt.seen) (subst SpansAt m.next (spans-sees v w m h pt.spans)))

  past-goes_in : (v w : View) (m : GoesIn p fin u v w) → Counts v → Shape p fin u ls w → Past v → Past w
  past-goes_in v w m n sh pt =
      let l : Line = line.Pos m.lit.atom m.rule (terms_of m.rule m.first) (length (body_of p m.rule m.first)) in
      let work : List Want = wanted (body_dues p fin u m.rule m.first) ++ want_leave ∷ m.behind in
      let shape : Shape p fin u ls (adds v l (m.one ∷ v.literals) v.cases work) = subst (Shape p fin u ls) m.next sh in
      let h = next-line ls v.lines l shape.begun in
      let st = stands-new v l m.lit m.one n h refl m.new in
      let later = known-later (suc (length v.lines)) (suc (suc (length v.lines))) (omega arith) v.literals pt.known in
      subst Past (sym m.next) (past-line v l (m.one ∷ v.literals) v.cases work (known-new v l m.lit m.one h refl m.new st (m.positive, refl), later)
      (seen-other v.lines l h (λ lit k e. cc e) pt.seen) (subst SpansAt m.next (spans-goes_in v w m h st sh pt.spans)))

  past-negates : (v w : View) (m : Negates p fin u v w) → Counts v → Shape p fin u ls w → Past v → Past w
  past-negates v w m n sh pt =
      let l : Line = line.Neg m.lit.atom (length (rules_of p (pred_of m.lit.atom))) in
      let work : List Want = map (want_rule m.lit.atom) (rules_of p (pred_of m.lit.atom)) ++ want_leave ∷ m.behind in
      let shape : Shape p fin u ls (adds v l (m.one ∷ v.literals) v.cases work) = subst (Shape p fin u ls) m.next sh in
      let h = next-line ls v.lines l shape.begun in
      let st = stands-new v l m.lit m.one n h refl m.new in
      let later = known-later (suc (length v.lines)) (suc (suc (length v.lines))) (omega arith) v.literals pt.known in
      subst Past (sym m.next) (past-line v l (m.one ∷ v.literals) v.cases work (known-new v l m.lit m.one h refl m.new st (m.negative, refl), later)
      (seen-other v.lines l h (λ lit k e. cc e) pt.seen) (subst SpansAt m.next (spans-negates v w m h st sh pt.spans)))

  past-takes_rule : (v w : View) (m : TakesRule p fin u v w) → Shape p fin u ls w → Past v → Past w
  past-takes_rule v w m sh pt =
      let l : Line = line.Rule m.atom m.rule m.first in
      let work : List Want = want_match m.bound m.pairs m.rule m.first ∷ m.behind in
      let shape : Shape p fin u ls (adds v l v.literals v.cases work) = subst (Shape p fin u ls) m.next sh in
      let h = next-line ls v.lines l shape.begun in
      let later = known-later (suc (length v.lines)) (suc (suc (length v.lines))) (omega arith) v.literals pt.known in
      subst Past (sym m.next) (past-line v l v.literals v.cases work later (seen-other v.lines l h (λ lit k e. cc e) pt.seen)
      (subst SpansAt m.next (spans-takes_rule v w m h pt.spans)))

  past-tells_test : (v w : View) (m : TellsTest p fin u v w) → Shape p fin u ls w → Past v → Past w
  past-tells_test v w m sh pt =
      let l : Line = line.Test m.test in
      let shape : Shape p fin u ls (adds v l v.literals v.cases m.behind) = subst (Shape p fin u ls) m.next sh in
      let h = next-line ls v.lines l shape.begun in
      let x : Built = coming p fin u ls (v.lines ++ l ∷ []) in
      let later = known-later (suc (length v.lines)) (suc (suc (length v.lines))) (omega arith) v.literals pt.known in
      let spans = spans-work v (want_node (fact m.due) ∷ m.behind) (put (ats p fin u ls) l x) m.wants (made-next p fin u ls v.lines l h) pt.spans in
      let sum : suc (length v.lines) + 1 ≡ suc (suc (length v.lines)) = omega arith in
      subst Past (sym m.next) (past-line v l v.literals v.cases m.behind later (seen-other v.lines l h (λ lit k e. cc e) pt.seen)
      (spans-behind v.lines l true (opens v.literals) m.behind x (subst (λ (n : ℕ). Spans p fin u ls n true (opens v.literals) m.behind x) sum spans)))

  past-tells_void : (v w : View) (m : TellsVoid p fin u v w) → Shape p fin u ls w → Past v → Past w
  past-tells_void v w m sh pt =
      let l : Line = line.Void in
      let shape : Shape p fin u ls (adds v l v.literals v.cases m.behind) = subst (Shape p fin u ls) m.next sh in
      let h = next-line ls v.lines l shape.begun in
      let x : Built = coming p fin u ls (v.lines ++ l ∷ []) in
      let later = known-later (suc (length v.lines)) (suc (suc (length v.lines))) (omega arith) v.literals pt.known in
      let spans = spans-work v (want_void ∷ m.behind) (put (ats p fin u ls) l x) m.wants (made-next p fin u ls v.lines l h) pt.spans in
      let sum : suc (length v.lines) + 1 ≡ suc (suc (length v.lines)) = omega arith in
      subst Past (sym m.next) (past-line v l v.literals v.cases m.behind later (seen-other v.lines l h (λ lit k e. cc e) pt.seen)
      (spans-behind v.lines l true (opens v.literals) m.behind x (subst (λ (n : ℕ). Spans p fin u ls n true (opens v.literals) m.behind x) sum spans)))

  past-begins : (v w : View) (m : Begins p fin u v w) → Shape p fin u ls w → Past v → Past w
  past-begins v w m sh pt =
      let work : List Want = wanted m.dues ++ want_close ∷ m.behind in
      let shape : Shape p fin u ls (adds v m.case v.literals (m.one ∷ v.cases) work) = subst (Shape p fin u ls) m.next sh in
      let h = next-line ls v.lines m.case shape.begun in
      let later = known-later (suc (length v.lines)) (suc (suc (length v.lines))) (omega arith) v.literals pt.known in
      subst Past (sym m.next) (past-line v m.case v.literals (m.one ∷ v.cases) work later (seen-other v.lines m.case h (case-other false m.rule m.first m.case m.dues m.is_case) pt.seen)
      (subst SpansAt m.next (spans-begins v w m h sh pt.spans)))

  past-checks : (v w : View) (m : Checks p fin u v w) → Shape p fin u ls w → Past v → Past w
  past-checks v w m sh pt =
      let l : Line = line.Check m.rule m.first in
      let xs : List Line = v.lines ++ l ∷ [] in
      let one : View = adds v l v.literals v.cases m.behind in
      let work : List Want = wanted m.dues ++ want_close ∷ m.behind in
      let shape : Shape p fin u ls (adds one m.case v.literals (m.one ∷ v.cases) work) = subst (Shape p fin u ls) m.next sh in
      let k = next-line ls xs m.case shape.begun in
      let h = next-line ls v.lines l k.begun in
      let later = known-later (suc (length v.lines)) (suc (suc (length xs))) (let long = long-one v.lines l in omega (arith, long)) v.literals pt.known in
      subst Past (sym m.next) (past-line one m.case v.literals (m.one ∷ v.cases) work later
      (seen-other xs m.case k (case-other true m.rule m.first m.case m.dues m.is_case) (seen-other v.lines l h (λ lit j e. cc e) pt.seen))
      (subst SpansAt m.next (spans-checks v w m h k sh pt.spans)))

  pub move-past : (v w : View) → Counts v → Move p fin u v w → Shape p fin u ls w → Past v → Past w
  move-past v w n (repeats m) sh pt = past-repeats v w m sh pt
  move-past v w n (sees m) sh pt = past-sees v w m sh pt
  move-past v w n (goes_in m) sh pt = past-goes_in v w m n sh pt
  move-past v w n (negates m) sh pt = past-negates v w m n sh pt
  move-past v w n (takes_rule m) sh pt = past-takes_rule v w m sh pt
  move-past v w n (tells_test m) sh pt = past-tells_test v w m sh pt
  move-past v w n (tells_void m) sh pt = past-tells_void v w m sh pt
  move-past v w n (rests e) sh pt = subst Past e pt
  move-past v w n (rematches m) sh pt =
      subst Past (sym m.next) (record {
        spans = spans-work v (want_match m.bound m.pairs m.rule m.first ∷ m.behind) (coming p fin u ls v.lines) m.wants refl pt.spans;
        known = pt.known;
        seen = pt.seen;
      })
  move-past v w n (gives_up m) sh pt =
      subst Past (sym m.next) (record {
        spans = spans-work v (want_match m.bound m.pairs m.rule m.first ∷ m.behind) (coming p fin u ls v.lines) m.wants refl pt.spans;
        known = pt.known;
        seen = pt.seen;
      })
  move-past v w n (begins m) sh pt = past-begins v w m sh pt
  move-past v w n (checks_clause m) sh pt = past-checks v w m sh pt
  move-past v w n (leaves m) sh pt = past-leaves v w m pt
  move-past v w n (closes m) sh pt =
      subst Past (sym m.next) (record {
        spans = spans-work v (want_close ∷ m.behind) (coming p fin u ls v.lines) m.wants refl pt.spans;
        known = pt.known;
        seen = pt.seen;
      })

  pub past-begun : (ws : List Want) → Past (record { lines = []; literals = []; cases = []; wants = ws })
  past-begun ws = record {
    spans = spans-none 1 true ws (coming p fin u ls []);
    known = tt;
    seen = λ i l n less e. absurd (omega (arith, less));
  }

  -- the whole trail: back from the last view and on from the first
  pub record Passed (start v : View) : Type 0 where
    pub shape : Shape p fin u ls start
    pub past : Past v

  pub trail-passed : (start v : View) → Trail p fin u start v → Counts start → (Shape p fin u ls start → Past start) → Shape p fin u ls v → Passed start v
  trail-passed start _ stays n first sh = record { shape = sh; past = first sh }
  trail-passed start _ (follows v w t m) n first sh =
      let counts = trail-counts p fin u start v t n in
      let before = trail-passed start v t n first (move-back p fin u ls v w counts m sh) in
      record { shape = before.shape; past = move-past v w counts m sh before.past }
