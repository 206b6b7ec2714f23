-- What is known of the lines so far: forward along the moves.
use Rattle.std.specs.Prelude.{◌≡◌, ◌⊎◌, ℕ, suc, ◌+◌, ◌<◌, ◌≤◌, nat_lt, Bool, true, false, ◌&&◌, not, if◌then◌else◌, Some, List, [], ◌∷◌, ◌++◌, map, take, drop, slice_get, length, Contains}
use Rattle.std.proofs.Common.{◌∙◌, refl, ap, sym, subst, arith, inl, inr}
use Rattle.std.proofs.lemmas.List.{length-append}
use Rattle.scasp_list.specs.Each.{Each}
use Rattle.scasp_list.proofs.EachLemmas.{Each-map}
use Rattle.scasp_list.proofs.MemberLemmas.{Contains-none, Contains-cases}
use Rattle.std.proofs.lemmas.Bool.Decides.{nat_tests}
use Rattle.scasp_checker_rules.proofs.TestLemmas.{lt-from}
use Rattle.scasp_checker_rules.specs.Accepted.{IsTreeOf}
use Rattle.scasp_checker_rules.specs.Firm.{is_firm, are_firm}
use Rattle.scasp_cert.specs.Lines.{lines_of, lines_below, lines_at, lines_in}
use Rattle.scasp_cert.specs.Trees.{Tree, Branch, pos_tree, neg_tree, loop_tree, seen_tree, test_tree, listed, covering}
use Rattle.scasp_lines.specs.Places.{Above}
use Rattle.scasp_search_rules.specs.declared.states.lines.Line.{Line}
use Rattle.scasp_search_rules.specs.declared.states.lines.Line.TheVariants as line
use Rattle.scasp_search_rules.specs.declared.states.state.Literal.{Literal}
use Rattle.scasp_search_rules.specs.declared.states.tasks.Aim.TheVariants as aims
use Rattle.scasp_search_rules.specs.declared.states.tasks.Task.{Task}
use Rattle.scasp_search_rules.specs.declared.states.tasks.Task.TheVariants as task
use Rattle.scasp_search_rules.specs.Successors.Calls.{looping, finished}
use Rattle.scasp_search_rules.specs.Successors.Calls.{is_firm as is_firm_literal}
use Rattle.scasp_search_rules.specs.Successors.Trees.{Built, put, first_case, line_of, is_literal}
use Rattle.scasp_syntax.specs.Flat.{flat_body}
use Rattle.scasp_syntax.specs.Programs.{rules_from, pred_of}
use Rattle.scasp_syntax.specs.Tm.{nil}
use Rattle.scasp_syntax.specs.declared.atom.Lit.{Lit}
use Rattle.scasp_syntax.specs.declared.clause.Clause.{Clause}
use Rattle.scasp_syntax.specs.declared.clause.FlatItem.{FlatItem}
use Rattle.scasp_syntax.specs.declared.clause.FlatItem.TheVariants as flat
use Rattle.scasp_law_propositional.proofs.PropositionalLemmas.Backing.{entries, ats, coming, Shape, move-back, IsNext, next-line, new-line, opens-finished, long-one, made-next, node-next}
use Rattle.scasp_law_propositional.proofs.PropositionalLemmas.Counting.{Counts, trail-counts}
use Rattle.scasp_law_propositional.proofs.PropositionalLemmas.Fitting.{Fits, FitTrees, fit-trees, fit-covers, taken, dropped}
use Rattle.scasp_law_propositional.proofs.PropositionalLemmas.Plains.{length-failing}
use Rattle.scasp_law_propositional.proofs.PropositionalLemmas.Shapes.{first_tree, is_literal_line, line_at, node_at}
use Rattle.scasp_law_propositional.proofs.PropositionalLemmas.Spanning.{node_of, Ends, Spans, head_marked, spans-marked, spans-negative, spans-trees, spans-covers}
use Rattle.scasp_law_propositional.proofs.PropositionalLemmas.Views.{View, opens, first_with, moves_mark, left_by, shows, adds, IsCaseOf, Repeats, Sees, IsNew, GoesIn, Negates, TakesRule, Begins, Checks, Leaves, Move, repeats, sees, goes_in, negates, takes_rule, matches, begins, checks_clause, leaves, closes, Trail, stays, follows}

-- the node is of the literal
abbrev pub IsNodeOf : Lit → Tree → Type 0
IsNodeOf l (pos_tree a k ts children) = (l.positive ≡ true) × (a ≡ l.atom)
IsNodeOf l (neg_tree a covers) = (l.positive ≡ false) × (a ≡ l.atom)
IsNodeOf l (loop_tree lit to) = ⊥
IsNodeOf l (seen_tree lit to) = ⊥
IsNodeOf l (test_tree c hint) = ⊥

node-tree : (l : Lit) (t : Tree) → IsNodeOf l t → is_firm t ≡ true → IsTreeOf l t
node-tree l (pos_tree a k ts children) h f = (h.0, h.1, f)
node-tree l (neg_tree a covers) h f = h
node-tree l (loop_tree lit to) h f = absurd h
node-tree l (seen_tree lit to) h f = absurd h
node-tree l (test_tree c hint) h f = absurd h

opens-marked : (lits : List Literal) → opens (first_with looping lits) ≡ head_marked (opens lits)
opens-marked [] = refl
opens-marked (a ∷ lits) = by a.is_done refl (opens-marked lits)
  where
    by : (b : Bool) → a.is_done ≡ b → opens (first_with looping lits) ≡ head_marked (opens lits)
        → opens (if b then a ∷ first_with looping lits else looping a ∷ lits) ≡ head_marked (if not b then a ∷ opens lits else opens lits)
    by true e k = ap (λ (z : Bool). if not z then a ∷ opens (first_with looping lits) else opens (first_with looping lits)) e ∙ k
    by false e k = ap (λ (z : Bool). if not z then looping a ∷ opens lits else opens lits) e

module _ (cs : List Clause) (ls : List Line) where
  -- The literal's line is one of a literal, and its node is of it. Where the literal is done its node has ended before this line, and is firm
  -- where no loop leads out of it.
  pub record Known (at : ℕ) (a : Literal) : Type 0 where
    pub literal : is_literal_line (line_at cs ls (ats cs ls) (line_of (ats cs ls) a.number)) ≡ true
    pub node : IsNodeOf a.lit (node_of cs ls (ats cs ls) a)
    pub ended : a.is_done ≡ true → line_of (ats cs ls) a.number + lines_of (node_of cs ls (ats cs ls) a) ≤ at
    pub firm : a.is_done ≡ true → is_firm_literal a ≡ true → is_firm (node_of cs ls (ats cs ls) a) ≡ true

  pub record SeenRight (at : ℕ) (l : Lit) (to : ℕ) : Type 0 where
    pub literal : is_literal_line (line_at cs ls (ats cs ls) to) ≡ true
    pub node : IsTreeOf l (node_at cs ls (ats cs ls) to)
    pub ended : to + lines_of (node_at cs ls (ats cs ls) to) ≤ at

  abbrev pub SpansAt : View → Type 0
  SpansAt v = Spans cs ls (ats cs ls) (suc (length v.lines)) true (opens v.literals) v.work (coming cs ls v.lines)

  pub record Past (v : View) : Type 0 where
    pub spans : SpansAt v
    pub known : Each (Known (suc (length v.lines))) v.literals
    pub seen : (i : ℕ) (l : Lit) (n : ℕ) → i < length v.lines → slice_get ls i ≡ Some (line.Seen l n) → SeenRight (suc i) l (line_of (ats cs ls) n)

  -- ---- literals

  known-later : (at later : ℕ) → at ≤ later → (lits : List Literal) → Each (Known at) lits → Each (Known later) lits
  known-later at later e lits h =
      Each-map (Known at) (Known later) (λ a k. record {
        literal = k.literal;
        node = k.node;
        ended = λ d. (let before = k.ended d in omega (arith, e, before));
        firm = k.firm;
      }) lits h

  known-marked : (at : ℕ) (lits : List Literal) → Each (Known at) lits → Each (Known at) (first_with looping lits)
  known-marked at [] h = tt
  known-marked at (a ∷ lits) h = by a.is_done refl (known-marked at lits h.1)
    where
      by : (b : Bool) → a.is_done ≡ b → Each (Known at) (first_with looping lits) → Each (Known at) (if b then a ∷ first_with looping lits else looping a ∷ lits)
      by true e k = (h.0, k)
      by false e k = (
        record { literal = h.0.literal; node = h.0.node; ended = λ d. absurd (cc (d, e)); firm = λ d f. absurd (cc (d, e)) },
        h.1,
      )

  is-firm : (loops positive : Bool) (P : Type 0) → (positive ≡ false → P) → (loops ≡ false → P) → not (positive && loops) ≡ true → P
  is-firm loops false P n u e = n refl
  is-firm false true P n u e = u refl
  is-firm true true P n u e = absurd (cc e)

  -- where the innermost open literal ends here it is known as done
  known-finished : (at : ℕ) (lits : List Literal) (a : Literal) (rest : List Literal) → opens lits ≡ a ∷ rest → Ends cs ls (ats cs ls) a at true → Each (Known at) lits
      → Each (Known at) (first_with finished lits)
  known-finished at [] a rest e n h = absurd (cc e)
  known-finished at (x ∷ lits) a rest e n h = by x.is_done refl (λ o. known-finished at lits a rest o n h.1)
    where
      by : (b : Bool) → x.is_done ≡ b → (opens lits ≡ a ∷ rest → Each (Known at) (first_with finished lits))
          → Each (Known at) (if b then x ∷ first_with finished lits else finished x ∷ lits)
      by true d k = (h.0, k (sym (ap (λ (z : Bool). if not z then x ∷ opens lits else opens lits) d) ∙ e))
      by false d k =
          let all : x ∷ opens lits ≡ a ∷ rest = sym (ap (λ (z : Bool). if not z then x ∷ opens lits else opens lits) d) ∙ e in
          let same : a ≡ x = cc all in
          let m : Ends cs ls (ats cs ls) x at true = subst (λ (z : Literal). Ends cs ls (ats cs ls) z at true) same n in
          let last = m.ends in (
            record {
              literal = h.0.literal;
              node = h.0.node;
              ended = λ k. omega (arith, last);
              firm = λ k f. is-firm x.loops x.lit.positive (is_firm (node_of cs ls (ats cs ls) x) ≡ true) m.negative (λ u. m.unmarked u refl) f;
            },
            h.1,
          )

  known-among : (at : ℕ) (lits : List Literal) (a : Literal) → Contains lits a → Each (Known at) lits → Known at a
  known-among at [] a c h = absurd (Contains-none a c)
  known-among at (x ∷ lits) a c h = elim (Contains-cases x lits a c) [
    | inl e ↦ subst (Known at) e h.0
    | inr k ↦ known-among at lits a k h.1
  ]

  -- ---- what is seen

  abbrev pub AreSeen : ℕ → Type 0
  AreSeen n = (i : ℕ) (l : Lit) (k : ℕ) → i < n → slice_get ls i ≡ Some (line.Seen l k) → SeenRight (suc i) l (line_of (ats cs ls) k)

  below-or : (i n : ℕ) → i < suc n → (i < n) ⊎ (i ≡ n)
  below-or i n h = by (nat_lt i n) refl
    where
      by : (b : Bool) → nat_lt i n ≡ b → (i < n) ⊎ (i ≡ n)
      by true e = inl (lt-from i n e)
      by false e = inr (let k : i ≡ n = grind (arith, nat_tests, e, h) in k)

  seen-more : (xs : List Line) (l : Line) → IsNext ls xs l → ((lit : Lit) (k : ℕ) → l ≡ line.Seen lit k → SeenRight (suc (length xs)) lit (line_of (ats cs ls) k))
      → AreSeen (length xs) → AreSeen (length (xs ++ l ∷ []))
  seen-more xs l h this before i lit k less e =
      let in_all : i < suc (length xs) = subst (λ (n : ℕ). i < n) (long-one xs l) less in
      elim (below-or i (length xs) in_all) [
        | inl a ↦ before i lit k a e
        | inr q ↦ (
            let is : Some l ≡ Some (line.Seen lit k) = sym h.there ∙ ap (slice_get ls) (sym q) ∙ e in
            let same : l ≡ line.Seen lit k = cc is in
            subst (λ (n : ℕ). SeenRight (suc n) lit (line_of (ats cs ls) k)) (sym q) (this lit k same)
            )
      ]

  -- ---- spans of a move, where the line is added

  abbrev pub at_line : List Line → ℕ
  at_line xs = suc (length xs)

  spans-work : (v : View) (work : List Task) (b : Built) → v.work ≡ work → coming cs ls v.lines ≡ b → SpansAt v
      → Spans cs ls (ats cs ls) (suc (length v.lines)) true (opens v.literals) work b
  spans-work v work b e m h =
      subst (Spans cs ls (ats cs ls) (suc (length v.lines)) true (opens v.literals) work) m
      (subst (λ (z : List Task). Spans cs ls (ats cs ls) (suc (length v.lines)) true (opens v.literals) z (coming cs ls v.lines)) e h)

  -- the same with the number of the line behind
  spans-behind : (xs : List Line) (l : Line) (firm : Bool) (lits : List Literal) (work : List Task) (b : Built)
      → Spans cs ls (ats cs ls) (suc (suc (length xs))) firm lits work b → Spans cs ls (ats cs ls) (suc (length (xs ++ l ∷ []))) firm lits work b
  spans-behind xs l firm lits work b h = subst (λ (n : ℕ). Spans cs ls (ats cs ls) (suc n) firm lits work b) (sym (long-one xs l)) h

  spans-repeats : (v w : View) (m : Repeats v w) → IsNext ls v.lines (line.Loop m.lit m.one.number) → SpansAt v → SpansAt w
  spans-repeats v w m h s =
      let l : Line = line.Loop m.lit m.one.number in
      let b : Built = coming cs ls (v.lines ++ l ∷ []) in
      let spans = spans-work v (task.Show (flat.Call m.lit) ∷ m.behind) (put (ats cs ls) l b) m.work (made-next cs ls v.lines l h) s in
      let sum : suc (length v.lines) + 1 ≡ suc (suc (length v.lines)) = omega arith in
      let now : Spans cs ls (ats cs ls) (suc (suc (length v.lines))) (not m.lit.positive) (opens v.literals) m.behind b =
      subst (λ (n : ℕ). Spans cs ls (ats cs ls) n (not m.lit.positive) (opens v.literals) m.behind b) sum spans in
      subst SpansAt (sym m.next) (spans-behind v.lines l true _ m.behind b (by m.lit.positive now))
    where
      by : (positive : Bool) → Spans cs ls (ats cs ls) (suc (suc (length v.lines))) (not positive) (opens v.literals) m.behind (coming cs ls (v.lines ++ line.Loop m.lit m.one.number ∷ []))
          → Spans cs ls (ats cs ls) (suc (suc (length v.lines))) true (opens (if positive then first_with looping v.literals else v.literals)) m.behind
          (coming cs ls (v.lines ++ line.Loop m.lit m.one.number ∷ []))
      by true k =
          subst (λ (z : List Literal). Spans cs ls (ats cs ls) (suc (suc (length v.lines))) true z m.behind (coming cs ls (v.lines ++ line.Loop m.lit m.one.number ∷ [])))
          (sym (opens-marked v.literals)) (spans-marked cs ls (ats cs ls) (suc (suc (length v.lines))) false true (opens v.literals) m.behind _ k)
      by false k = k

  spans-sees : (v w : View) (m : Sees v w) → IsNext ls v.lines (line.Seen m.lit m.one.number) → SpansAt v → SpansAt w
  spans-sees v w m h s =
      let l : Line = line.Seen m.lit m.one.number in
      let b : Built = coming cs ls (v.lines ++ l ∷ []) in
      let spans = spans-work v (task.Show (flat.Call m.lit) ∷ m.behind) (put (ats cs ls) l b) m.work (made-next cs ls v.lines l h) s in
      let sum : suc (length v.lines) + 1 ≡ suc (suc (length v.lines)) = omega arith in
      subst SpansAt (sym m.next) (spans-behind v.lines l true (opens v.literals) m.behind b
      (subst (λ (n : ℕ). Spans cs ls (ats cs ls) n true (opens v.literals) m.behind b) sum spans))

  -- a new literal, whose node is this tree, is open until the tree ends
  entering : (one : Literal) (at end : ℕ) (t : Tree) (firm : Bool) (lits : List Literal) (behind : List Task) (b : Built)
      → line_of (ats cs ls) one.number ≡ at → node_of cs ls (ats cs ls) one ≡ t → at + lines_of t ≡ end
      → (one.lit.positive ≡ false → is_firm t ≡ true) → (firm ≡ true → is_firm t ≡ true) → Spans cs ls (ats cs ls) end (is_firm t) lits behind b
      → Spans cs ls (ats cs ls) end firm (one ∷ lits) (task.Leave ∷ behind) b
  entering one at end t firm lits behind b l n e p f s = (
    record {
      ends = (λ i. l i + lines_of (n i)) ∙ e;
      negative = λ q. ap is_firm n ∙ p q;
      unmarked = λ q r. ap is_firm n ∙ f r;
    },
    subst (λ (z : Tree). Spans cs ls (ats cs ls) end (is_firm z) lits behind b) (sym n) s,
  )

  opens-new : (v : View) (lit : Lit) (one : Literal) → IsNew v lit one → opens (one ∷ v.literals) ≡ one ∷ opens v.literals
  opens-new v lit one new = ap (λ (z : Bool). if not z then one ∷ opens v.literals else opens v.literals) new.open_yet

  -- where the new literal and its node stand
  pub record Stands (v : View) (l : Line) (one : Literal) : Type 0 where
    pub at : line_of (ats cs ls) one.number ≡ suc (length v.lines)
    pub node : node_of cs ls (ats cs ls) one ≡ first_tree (put (ats cs ls) l (coming cs ls (v.lines ++ l ∷ []))).nodes

  stands-new : (v : View) (l : Line) (lit : Lit) (one : Literal) → Counts v → IsNext ls v.lines l → is_literal l ≡ true → IsNew v lit one → Stands v l one
  stands-new v l lit one n h e new =
      let at : line_of (ats cs ls) one.number ≡ suc (length v.lines) = ap (line_of (ats cs ls)) new.number ∙ new-line cs ls v l n h e in
      record { at = at; node = ap (node_at cs ls (ats cs ls)) at ∙ node-next cs ls v.lines l h }

  known-new : (v : View) (l : Line) (lit : Lit) (one : Literal) → IsNext ls v.lines l → is_literal l ≡ true → IsNew v lit one → Stands v l one
      → IsNodeOf lit (first_tree (put (ats cs ls) l (coming cs ls (v.lines ++ l ∷ []))).nodes) → Known (suc (suc (length v.lines))) one
  known-new v l lit one h e new st is = record {
    literal = ap (λ (n : ℕ). is_literal_line (line_at cs ls (ats cs ls) n)) st.at ∙ ap is_literal_line h.there ∙ e;
    node = subst (λ (z : Lit). IsNodeOf z (node_of cs ls (ats cs ls) one)) (sym new.of) (subst (IsNodeOf lit) (sym st.node) is);
    ended = λ d. absurd (cc (d, new.open_yet));
    firm = λ d f. absurd (cc (d, new.open_yet));
  }

  spans-goes_in : (v w : View) (m : GoesIn cs v w) → IsNext ls v.lines (line.Pos m.lit.atom m.rule nil (length (flat_body m.clause.body)))
      → Stands v (line.Pos m.lit.atom m.rule nil (length (flat_body m.clause.body))) m.one → Shape cs ls w → SpansAt v → SpansAt w
  spans-goes_in v w m h st sh s =
      let n : ℕ = length (flat_body m.clause.body) in
      let l : Line = line.Pos m.lit.atom m.rule nil n in
      let b : Built = coming cs ls (v.lines ++ l ∷ []) in
      let at : ℕ = suc (length v.lines) in
      let work : List Task = shows (flat_body m.clause.body) ++ task.Leave ∷ m.behind in
      let shape : Shape cs ls (adds v l (m.one ∷ v.literals) work) = subst (Shape cs ls) m.next sh in
      let r = fit-trees cs ls (ats cs ls) _ _ (flat_body m.clause.body) (task.Leave ∷ m.behind) b shape.fits in
      let front : take n b.nodes ≡ r.trees = taken cs ls (ats cs ls) n b.nodes r.trees r.rest r.nodes r.long in
      let back : drop n b.nodes ≡ r.rest = dropped cs ls (ats cs ls) n b.nodes r.trees r.rest r.nodes r.long in
      let spans = spans-work v (task.Show (flat.Call m.lit) ∷ m.behind) (put (ats cs ls) l b) m.work (made-next cs ls v.lines l h) s in
      let P : List Tree → List Tree → Type 0 = λ xs ys. Spans cs ls (ats cs ls) (at + (1 + lines_below (listed xs))) (are_firm (listed xs)) (opens v.literals) m.behind (record b { nodes = ys }) in
      let spans_front : P r.trees (drop n b.nodes) = subst (λ (z : List Tree). P z (drop n b.nodes)) front spans in
      let spans_both : P r.trees r.rest = subst (P r.trees) back spans_front in
      let t : Tree = pos_tree m.lit.atom m.rule nil (listed r.trees) in
      let node : node_of cs ls (ats cs ls) m.one ≡ t = st.node ∙ ap (λ (z : List Tree). pos_tree m.lit.atom m.rule nil (listed z)) front in
      let sum : at + (1 + lines_below (listed r.trees)) ≡ suc at + lines_below (listed r.trees) = omega arith in
      let end : Spans cs ls (ats cs ls) (suc at + lines_below (listed r.trees)) (are_firm (listed r.trees)) (opens v.literals) m.behind (record b { nodes = r.rest }) =
      subst (λ (k : ℕ). Spans cs ls (ats cs ls) k (are_firm (listed r.trees)) (opens v.literals) m.behind (record b { nodes = r.rest })) sum spans_both in
      let all : Spans cs ls (ats cs ls) (suc at) true (m.one ∷ opens v.literals) work (record b { nodes = r.trees ++ r.rest }) =
      spans-trees cs ls (ats cs ls) (suc at) true (m.one ∷ opens v.literals) (flat_body m.clause.body) r.trees r.rest (task.Leave ∷ m.behind) b r.long
      (entering m.one at (suc at + lines_below (listed r.trees)) t (are_firm (listed r.trees)) (opens v.literals) m.behind (record b { nodes = r.rest })
      st.at node sum (λ q. absurd (cc (q, ap (λ (z : Lit). z.positive) m.new.of, m.positive))) (λ q. q) end) in
      let here : Spans cs ls (ats cs ls) (suc at) true (m.one ∷ opens v.literals) work b =
      subst (λ (z : List Tree). Spans cs ls (ats cs ls) (suc at) true (m.one ∷ opens v.literals) work (record b { nodes = z })) (sym r.nodes) all in
      subst SpansAt (sym m.next) (spans-behind v.lines l true (opens (m.one ∷ v.literals)) work b
      (subst (λ (z : List Literal). Spans cs ls (ats cs ls) (suc at) true z work b) (sym (opens-new v m.lit m.one m.new)) here))

  spans-negates : (v w : View) (m : Negates cs v w) → IsNext ls v.lines (line.Neg m.lit.atom (length (rules_from 1 cs (pred_of m.lit.atom))))
      → Stands v (line.Neg m.lit.atom (length (rules_from 1 cs (pred_of m.lit.atom)))) m.one → Shape cs ls w → SpansAt v → SpansAt w
  spans-negates v w m h st sh s =
      let ks : List ℕ = rules_from 1 cs (pred_of m.lit.atom) in
      let n : ℕ = length ks in
      let l : Line = line.Neg m.lit.atom n in
      let b : Built = coming cs ls (v.lines ++ l ∷ []) in
      let at : ℕ = suc (length v.lines) in
      let work : List Task = map (task.Cover m.lit.atom) ks ++ task.Leave ∷ m.behind in
      let shape : Shape cs ls (adds v l (m.one ∷ v.literals) work) = subst (Shape cs ls) m.next sh in
      let r = fit-covers cs ls (ats cs ls) _ _ m.lit.atom ks (task.Leave ∷ m.behind) b shape.fits in
      let front : take n b.covers ≡ r.covers = taken cs ls (ats cs ls) n b.covers r.covers r.rest r.all r.long in
      let back : drop n b.covers ≡ r.rest = dropped cs ls (ats cs ls) n b.covers r.covers r.rest r.all r.long in
      let spans = spans-work v (task.Show (flat.Call m.lit) ∷ m.behind) (put (ats cs ls) l b) m.work (made-next cs ls v.lines l h) s in
      let P : List (ℕ × Branch) → List (ℕ × Branch) → Type 0 =
      λ xs ys. Spans cs ls (ats cs ls) (at + (1 + lines_in (covering xs))) true (opens v.literals) m.behind (record b { covers = ys }) in
      let spans_front : P r.covers (drop n b.covers) = subst (λ (z : List (ℕ × Branch)). P z (drop n b.covers)) front spans in
      let spans_both : P r.covers r.rest = subst (P r.covers) back spans_front in
      let t : Tree = neg_tree m.lit.atom (covering r.covers) in
      let node : node_of cs ls (ats cs ls) m.one ≡ t = st.node ∙ ap (λ (z : List (ℕ × Branch)). neg_tree m.lit.atom (covering z)) front in
      let sum : at + (1 + lines_in (covering r.covers)) ≡ suc at + lines_in (covering r.covers) = omega arith in
      let end : Spans cs ls (ats cs ls) (suc at + lines_in (covering r.covers)) true (opens v.literals) m.behind (record b { covers = r.rest }) =
      subst (λ (k : ℕ). Spans cs ls (ats cs ls) k true (opens v.literals) m.behind (record b { covers = r.rest })) sum spans_both in
      let all : Spans cs ls (ats cs ls) (suc at) true (m.one ∷ opens v.literals) work (record b { covers = r.covers ++ r.rest }) =
      spans-covers cs ls (ats cs ls) (suc at) (m.one ∷ opens v.literals) m.lit.atom ks r.covers r.rest (task.Leave ∷ m.behind) b r.long
      (entering m.one at (suc at + lines_in (covering r.covers)) t true (opens v.literals) m.behind (record b { covers = r.rest })
      st.at node sum (λ q. refl) (λ q. refl) end) in
      let here : Spans cs ls (ats cs ls) (suc at) true (m.one ∷ opens v.literals) work b =
      subst (λ (z : List (ℕ × Branch)). Spans cs ls (ats cs ls) (suc at) true (m.one ∷ opens v.literals) work (record b { covers = z })) (sym r.all) all in
      subst SpansAt (sym m.next) (spans-behind v.lines l true (opens (m.one ∷ v.literals)) work b
      (subst (λ (z : List Literal). Spans cs ls (ats cs ls) (suc at) true z work b) (sym (opens-new v m.lit m.one m.new)) here))

  spans-takes_rule : (v w : View) (m : TakesRule v w) → IsNext ls v.lines (line.Rule m.atom m.rule m.first) → SpansAt v → SpansAt w
  spans-takes_rule v w m h s =
      let l : Line = line.Rule m.atom m.rule m.first in
      let b : Built = coming cs ls (v.lines ++ l ∷ []) in
      let at : ℕ = suc (length v.lines) in
      let work : List Task = task.Differ [] (aims.Head m.rule m.first) ∷ m.behind in
      let spans = spans-work v (task.Cover m.atom m.rule ∷ m.behind) (put (ats cs ls) l b) m.work (made-next cs ls v.lines l h) s in
      let sum : at + (1 + lines_at (first_case b.cases)) ≡ suc at + lines_at (first_case b.cases) = omega arith in
      subst SpansAt (sym m.next) (spans-behind v.lines l true (opens v.literals) work b
      (subst (λ (n : ℕ). Spans cs ls (ats cs ls) n true (opens v.literals) m.behind (record b { cases = drop 1 b.cases })) sum spans))

  -- the children of a case, where the number of the case's line is one less
  spans-children : (at n : ℕ) (abv : List Above) (is : List FlatItem) (behind : List Task) (lits : List Literal) (b : Built)
      → (r : FitTrees cs ls (ats cs ls) (suc at) abv is (task.Close ∷ behind) b) → length r.trees ≡ n
      → Spans cs ls (ats cs ls) (at + (1 + lines_below (listed (take n b.nodes)))) true lits behind (record b { nodes = drop n b.nodes })
      → Spans cs ls (ats cs ls) (suc at) true lits (shows is ++ task.Close ∷ behind) b
  spans-children at n abv is behind lits b r long s =
      let front : take n b.nodes ≡ r.trees = taken cs ls (ats cs ls) n b.nodes r.trees r.rest r.nodes long in
      let back : drop n b.nodes ≡ r.rest = dropped cs ls (ats cs ls) n b.nodes r.trees r.rest r.nodes long in
      let P : List Tree → List Tree → Type 0 = λ xs ys. Spans cs ls (ats cs ls) (at + (1 + lines_below (listed xs))) true lits behind (record b { nodes = ys }) in
      let s_front : P r.trees (drop n b.nodes) = subst (λ (z : List Tree). P z (drop n b.nodes)) front s in
      let s_both : P r.trees r.rest = subst (P r.trees) back s_front in
      let sum : at + (1 + lines_below (listed r.trees)) ≡ suc at + lines_below (listed r.trees) = omega arith in
      subst (λ (z : List Tree). Spans cs ls (ats cs ls) (suc at) true lits (shows is ++ task.Close ∷ behind) (record b { nodes = z })) (sym r.nodes)
      (spans-trees cs ls (ats cs ls) (suc at) true lits is r.trees r.rest (task.Close ∷ behind) b r.long
      (subst (λ (k : ℕ). Spans cs ls (ats cs ls) k true lits behind (record b { nodes = r.rest })) sum s_both))

  spans-case : (checks : Bool) (at : ℕ) (abv : List Above) (c : Clause) (l : Line) (is : List FlatItem) (behind : List Task) (lits : List Literal) (b : Built)
      → IsCaseOf checks c l is → Fits cs ls (ats cs ls) (suc at) abv (shows is ++ task.Close ∷ behind) b
      → Spans cs ls (ats cs ls) (at + lines_at (first_case (put (ats cs ls) l b).cases)) true lits behind
      (record (put (ats cs ls) l b) { cases = drop 1 (put (ats cs ls) l b).cases })
      → Spans cs ls (ats cs ls) (suc at) true lits (shows is ++ task.Close ∷ behind) b
  spans-case checks at abv c (line.Leaf n) is behind lits b h f s =
      let r = fit-trees cs ls (ats cs ls) (suc at) abv is (task.Close ∷ behind) b f in
      let long : length r.trees ≡ n = r.long ∙ ap length h.3 ∙ length-failing h.0 (flat_body c.body) h.2 ∙ sym h.1 in
      spans-children at n abv is behind lits b r long s
  spans-case checks at abv c (line.Head n) is behind lits b h f s =
      let r = fit-trees cs ls (ats cs ls) (suc at) abv is (task.Close ∷ behind) b f in
      let number = h.3 in
      let count : length (flat_body c.body) + 1 ≡ n = omega (arith, number) in
      let long : length r.trees ≡ n = r.long ∙ ap length h.4 ∙ length-append (flat_body c.body) _ ∙ count in
      spans-children at n abv is behind lits b r long s
  spans-case checks at abv c l is behind lits b h f s = absurd h

  spans-begins : (v w : View) (m : Begins cs v w) → IsNext ls v.lines m.case → Shape cs ls w → SpansAt v → SpansAt w
  spans-begins v w m h sh s =
      let b : Built = coming cs ls (v.lines ++ m.case ∷ []) in
      let at : ℕ = suc (length v.lines) in
      let work : List Task = shows m.items ++ task.Close ∷ m.behind in
      let shape : Shape cs ls (adds v m.case v.literals work) = subst (Shape cs ls) m.next sh in
      let fits = subst (λ (n : ℕ). Fits cs ls (ats cs ls) (suc n) (entries (ats cs ls) (opens v.literals)) work b) (long-one v.lines m.case) shape.fits in
      let spans = spans-work v (task.Begin m.rule m.first false ∷ m.behind) (put (ats cs ls) m.case b) m.work (made-next cs ls v.lines m.case h) s in
      subst SpansAt (sym m.next) (spans-behind v.lines m.case true (opens v.literals) work b
      (spans-case false at _ m.clause m.case m.items m.behind (opens v.literals) b m.is_case fits spans))

  spans-checks : (v w : View) (m : Checks cs v w) → IsNext ls v.lines (line.Check m.rule m.first) → IsNext ls (v.lines ++ line.Check m.rule m.first ∷ []) m.case
      → Shape cs ls w → SpansAt v → SpansAt w
  spans-checks v w m h k sh s =
      let l : Line = line.Check m.rule m.first in
      let xs : List Line = v.lines ++ l ∷ [] in
      let b : Built = coming cs ls (xs ++ m.case ∷ []) in
      let after : Built = put (ats cs ls) m.case b in
      let at : ℕ = suc (length v.lines) in
      let work : List Task = shows m.items ++ task.Close ∷ m.behind in
      let shape : Shape cs ls (adds (adds v l v.literals m.behind) m.case v.literals work) = subst (Shape cs ls) m.next sh in
      let fits = subst (λ (n : ℕ). Fits cs ls (ats cs ls) (suc n) (entries (ats cs ls) (opens v.literals)) work b) (long-one xs m.case) shape.fits in
      let two : coming cs ls v.lines ≡ put (ats cs ls) l after = made-next cs ls v.lines l h ∙ ap (put (ats cs ls) l) (made-next cs ls xs m.case k) in
      let spans = spans-work v (task.Check m.rule m.checks_head ∷ m.behind) (put (ats cs ls) l after) m.work two s in
      let sum : at + (1 + lines_at (first_case after.cases)) ≡ suc (length xs) + lines_at (first_case after.cases) =
      (let long = long-one v.lines l in omega (arith, long)) in
      subst SpansAt (sym m.next) (spans-behind xs m.case true (opens v.literals) work b
      (spans-case true (suc (length xs)) _ m.clause m.case m.items m.behind (opens v.literals) b m.is_case fits
      (subst (λ (n : ℕ). Spans cs ls (ats cs ls) n true (opens v.literals) m.behind (record after { cases = drop 1 after.cases })) sum spans)))

  -- ---- the end of a literal

  spans-none : (at : ℕ) (f g : Bool) (ts : List Task) (b : Built) → Spans cs ls (ats cs ls) at f [] ts b → Spans cs ls (ats cs ls) at g [] ts b
  spans-none at f g ts b h = spans-negative cs ls (ats cs ls) at f g [] ts b tt h

  -- what is left where the literal ends, by whether its mark moves on
  spans-left : (at : ℕ) (a : Literal) (rest : List Literal) (ts : List Task) (b : Built) (firm : Bool)
      → is_firm (node_of cs ls (ats cs ls) a) ≡ firm → Ends cs ls (ats cs ls) a at true
      → Spans cs ls (ats cs ls) at firm rest ts b → moves_mark a rest ≡ false → Spans cs ls (ats cs ls) at true rest ts b
  spans-left at a rest ts b true e n h k = h
  spans-left at a [] ts b false e n h k = spans-none at false true ts b h
  spans-left at a (x ∷ rest) ts b false e n h k = by a.loops a.lit.positive x.lit.positive refl refl refl k
    where
      by : (l p q : Bool) → a.loops ≡ l → a.lit.positive ≡ p → x.lit.positive ≡ q → (l && p && q) ≡ false → Spans cs ls (ats cs ls) at true (x ∷ rest) ts b
      by true true true el ep eq f = absurd (cc f)
      by true true false el ep eq f = spans-negative cs ls (ats cs ls) at false true (x ∷ rest) ts b eq h
      by true false q el ep eq f = absurd (cc (n.negative ep, e))
      by false p q el ep eq f = absurd (cc (n.unmarked el refl, e))

  spans-ended : (at : ℕ) (a : Literal) (rest : List Literal) (ts : List Task) (b : Built) (lits : List Literal) (moves : Bool)
      → opens lits ≡ a ∷ rest → moves_mark a rest ≡ moves → Ends cs ls (ats cs ls) a at true
      → Spans cs ls (ats cs ls) at (is_firm (node_of cs ls (ats cs ls) a)) rest ts b
      → Spans cs ls (ats cs ls) at true (opens (if moves then first_with looping (first_with finished lits) else first_with finished lits)) ts b
  spans-ended at a rest ts b lits true o k n h =
      let all : opens (first_with looping (first_with finished lits)) ≡ head_marked rest =
      opens-marked (first_with finished lits) ∙ ap head_marked (opens-finished lits ∙ ap (drop 1) o) in
      subst (λ (z : List Literal). Spans cs ls (ats cs ls) at true z ts b) (sym all)
      (spans-marked cs ls (ats cs ls) at (is_firm (node_of cs ls (ats cs ls) a)) true rest ts b h)
  spans-ended at a rest ts b lits false o k n h =
      let all : opens (first_with finished lits) ≡ rest = opens-finished lits ∙ ap (drop 1) o in
      subst (λ (z : List Literal). Spans cs ls (ats cs ls) at true z ts b) (sym all) (spans-left at a rest ts b _ refl n h k)

  leaves-by : (v : View) (behind : List Task) (lits : List Literal) → opens v.literals ≡ lits → Each (Known (suc (length v.lines))) v.literals → AreSeen (length v.lines)
      → Spans cs ls (ats cs ls) (suc (length v.lines)) true lits (task.Leave ∷ behind) (coming cs ls v.lines)
      → Past (record { lines = v.lines; literals = left_by lits v.literals; work = behind })
  leaves-by v behind [] o known seen h = record {
    spans = subst (λ (z : List Literal). Spans cs ls (ats cs ls) (suc (length v.lines)) true z behind (coming cs ls v.lines)) (sym o) h;
    known = known;
    seen = seen;
  }
  leaves-by v behind (a ∷ rest) o known seen h = record {
    spans = spans-ended (suc (length v.lines)) a rest behind (coming cs ls v.lines) v.literals (moves_mark a rest) o refl h.0 h.1;
    known = by (moves_mark a rest);
    seen = seen;
  }
    where
      ended : Each (Known (suc (length v.lines))) (first_with finished v.literals)
      ended = known-finished (suc (length v.lines)) v.literals a rest o h.0 known

      by : (b : Bool) → Each (Known (suc (length v.lines))) (if b then first_with looping (first_with finished v.literals) else first_with finished v.literals)
      by true = known-marked (suc (length v.lines)) (first_with finished v.literals) ended
      by false = ended

  past-leaves : (v w : View) → Leaves v w → Past v → Past w
  past-leaves v w m p =
      subst Past (sym m.next) (leaves-by v m.behind (opens v.literals) refl p.known p.seen
      (spans-work v (task.Leave ∷ m.behind) (coming cs ls v.lines) m.work refl p.spans))

  -- ---- each move

  -- where a line is added, from what is known behind it
  past-line : (v : View) (l : Line) (lits : List Literal) (work : List Task) → Each (Known (suc (suc (length v.lines)))) lits
      → AreSeen (length (v.lines ++ l ∷ [])) → SpansAt (adds v l lits work) → Past (adds v l lits work)
  past-line v l lits work known seen spans = record {
    spans = spans;
    known = subst (λ (n : ℕ). Each (Known (suc n)) lits) (sym (long-one v.lines l)) known;
    seen = seen;
  }

  seen-other : (xs : List Line) (l : Line) → IsNext ls xs l → ((lit : Lit) (k : ℕ) → l ≡ line.Seen lit k → ⊥) → AreSeen (length xs) → AreSeen (length (xs ++ l ∷ []))
  seen-other xs l h none before = seen-more xs l h (λ lit k e. absurd (none lit k e)) before

  case-other : (checks : Bool) (c : Clause) (l : Line) (is : List FlatItem) → IsCaseOf checks c l is → (lit : Lit) (k : ℕ) → l ≡ line.Seen lit k → ⊥
  case-other checks c (line.Leaf n) is h lit k e = cc e
  case-other checks c (line.Head n) is h lit k e = cc e
  case-other checks c l is h lit k e = h

  past-repeats : (v w : View) (m : Repeats v w) → Shape cs ls w → Past v → Past w
  past-repeats v w m sh p =
      let l : Line = line.Loop m.lit m.one.number in
      let lits : List Literal = if m.lit.positive then first_with looping v.literals else v.literals in
      let shape : Shape cs ls (adds v l lits m.behind) = subst (Shape cs ls) m.next sh in
      let h = next-line ls v.lines l shape.begun in
      let later = known-later (suc (length v.lines)) (suc (suc (length v.lines))) (omega arith) v.literals p.known in
      subst Past (sym m.next) (past-line v l lits m.behind (by m.lit.positive later)
      (seen-other v.lines l h (λ lit k e. cc e) p.seen) (subst SpansAt m.next (spans-repeats v w m h p.spans)))
    where
      by : (b : Bool) → Each (Known (suc (suc (length v.lines)))) v.literals
          → Each (Known (suc (suc (length v.lines)))) (if b then first_with looping v.literals else v.literals)
      by true k = known-marked (suc (suc (length v.lines))) v.literals k
      by false k = k

  past-sees : (v w : View) (m : Sees v w) → Shape cs ls w → Past v → Past w
  past-sees v w m sh p =
      let l : Line = line.Seen m.lit m.one.number in
      let shape : Shape cs ls (adds v l v.literals m.behind) = subst (Shape cs ls) m.next sh in
      let h = next-line ls v.lines l shape.begun in
      let later = known-later (suc (length v.lines)) (suc (suc (length v.lines))) (omega arith) v.literals p.known in
      let one = known-among (suc (length v.lines)) v.literals m.one m.among p.known in
      let right : SeenRight (suc (length v.lines)) m.lit (line_of (ats cs ls) m.one.number) =
      record {
        literal = one.literal;
        node = subst (λ (z : Lit). IsTreeOf z (node_of cs ls (ats cs ls) m.one)) m.same
            (node-tree m.one.lit (node_of cs ls (ats cs ls) m.one) one.node (one.firm m.done m.firm));
        ended = one.ended m.done;
      } in
      let this : (lit : Lit) (k : ℕ) → l ≡ line.Seen lit k → SeenRight (suc (length v.lines)) lit (line_of (ats cs ls) k) =
      λ lit k e. (
      let same : m.lit ≡ lit = cc e in
      let number : m.one.number ≡ k = cc e in
      subst (λ (z : Lit). SeenRight (suc (length v.lines)) z (line_of (ats cs ls) k)) same
      (subst (λ (z : ℕ). SeenRight (suc (length v.lines)) m.lit (line_of (ats cs ls) z)) number right)
      ) in
      subst Past (sym m.next) (past-line v l v.literals m.behind later (seen-more v.lines l h this p.seen) (subst SpansAt m.next (spans-sees v w m h p.spans)))

  past-goes_in : (v w : View) (m : GoesIn cs v w) → Counts v → Shape cs ls w → Past v → Past w
  past-goes_in v w m n sh p =
      let l : Line = line.Pos m.lit.atom m.rule nil (length (flat_body m.clause.body)) in
      let work : List Task = shows (flat_body m.clause.body) ++ task.Leave ∷ m.behind in
      let shape : Shape cs ls (adds v l (m.one ∷ v.literals) work) = subst (Shape cs ls) m.next sh in
      let h = next-line ls v.lines l shape.begun in
      let st = stands-new v l m.lit m.one n h refl m.new in
      let later = known-later (suc (length v.lines)) (suc (suc (length v.lines))) (omega arith) v.literals p.known in
      subst Past (sym m.next) (past-line v l (m.one ∷ v.literals) work (known-new v l m.lit m.one h refl m.new st (m.positive, refl), later)
      (seen-other v.lines l h (λ lit k e. cc e) p.seen) (subst SpansAt m.next (spans-goes_in v w m h st sh p.spans)))

  past-negates : (v w : View) (m : Negates cs v w) → Counts v → Shape cs ls w → Past v → Past w
  past-negates v w m n sh p =
      let l : Line = line.Neg m.lit.atom (length (rules_from 1 cs (pred_of m.lit.atom))) in
      let work : List Task = map (task.Cover m.lit.atom) (rules_from 1 cs (pred_of m.lit.atom)) ++ task.Leave ∷ m.behind in
      let shape : Shape cs ls (adds v l (m.one ∷ v.literals) work) = subst (Shape cs ls) m.next sh in
      let h = next-line ls v.lines l shape.begun in
      let st = stands-new v l m.lit m.one n h refl m.new in
      let later = known-later (suc (length v.lines)) (suc (suc (length v.lines))) (omega arith) v.literals p.known in
      subst Past (sym m.next) (past-line v l (m.one ∷ v.literals) work (known-new v l m.lit m.one h refl m.new st (m.negative, refl), later)
      (seen-other v.lines l h (λ lit k e. cc e) p.seen) (subst SpansAt m.next (spans-negates v w m h st sh p.spans)))

  past-takes_rule : (v w : View) (m : TakesRule v w) → Shape cs ls w → Past v → Past w
  past-takes_rule v w m sh p =
      let l : Line = line.Rule m.atom m.rule m.first in
      let work : List Task = task.Differ [] (aims.Head m.rule m.first) ∷ m.behind in
      let shape : Shape cs ls (adds v l v.literals work) = subst (Shape cs ls) m.next sh in
      let h = next-line ls v.lines l shape.begun in
      let later = known-later (suc (length v.lines)) (suc (suc (length v.lines))) (omega arith) v.literals p.known in
      subst Past (sym m.next) (past-line v l v.literals work later (seen-other v.lines l h (λ lit k e. cc e) p.seen)
      (subst SpansAt m.next (spans-takes_rule v w m h p.spans)))

  past-begins : (v w : View) (m : Begins cs v w) → Shape cs ls w → Past v → Past w
  past-begins v w m sh p =
      let work : List Task = shows m.items ++ task.Close ∷ m.behind in
      let shape : Shape cs ls (adds v m.case v.literals work) = subst (Shape cs ls) m.next sh in
      let h = next-line ls v.lines m.case shape.begun in
      let later = known-later (suc (length v.lines)) (suc (suc (length v.lines))) (omega arith) v.literals p.known in
      subst Past (sym m.next) (past-line v m.case v.literals work later (seen-other v.lines m.case h (case-other false m.clause m.case m.items m.is_case) p.seen)
      (subst SpansAt m.next (spans-begins v w m h sh p.spans)))

  past-checks : (v w : View) (m : Checks cs v w) → Shape cs ls w → Past v → Past w
  past-checks v w m sh p =
      let l : Line = line.Check m.rule m.first in
      let xs : List Line = v.lines ++ l ∷ [] in
      let one : View = adds v l v.literals m.behind in
      let work : List Task = shows m.items ++ task.Close ∷ m.behind in
      let shape : Shape cs ls (adds one m.case v.literals work) = subst (Shape cs ls) m.next sh in
      let k = next-line ls xs m.case shape.begun in
      let h = next-line ls v.lines l k.begun in
      let later = known-later (suc (length v.lines)) (suc (suc (length xs))) (let long = long-one v.lines l in omega (arith, long)) v.literals p.known in
      subst Past (sym m.next) (past-line one m.case v.literals work later
      (seen-other xs m.case k (case-other true m.clause m.case m.items m.is_case) (seen-other v.lines l h (λ lit j e. cc e) p.seen))
      (subst SpansAt m.next (spans-checks v w m h k sh p.spans)))

  pub move-past : (v w : View) → Counts v → Move cs v w → Shape cs ls w → Past v → Past w
  move-past v w n (repeats m) sh p = past-repeats v w m sh p
  move-past v w n (sees m) sh p = past-sees v w m sh p
  move-past v w n (goes_in m) sh p = past-goes_in v w m n sh p
  move-past v w n (negates m) sh p = past-negates v w m n sh p
  move-past v w n (takes_rule m) sh p = past-takes_rule v w m sh p
  move-past v w n (matches m) sh p =
      subst Past (sym m.next) (record {
        spans = spans-work v (task.Differ [] (aims.Head m.rule m.first) ∷ m.behind) (coming cs ls v.lines) m.work refl p.spans;
        known = p.known;
        seen = p.seen;
      })
  move-past v w n (begins m) sh p = past-begins v w m sh p
  move-past v w n (checks_clause m) sh p = past-checks v w m sh p
  move-past v w n (leaves m) sh p = past-leaves v w m p
  move-past v w n (closes m) sh p =
      subst Past (sym m.next) (record {
        spans = spans-work v (task.Close ∷ m.behind) (coming cs ls v.lines) m.work refl p.spans;
        known = p.known;
        seen = p.seen;
      })

  -- the whole trail: back from the last view and on from the first
  pub record Passed (start v : View) : Type 0 where
    pub shape : Shape cs ls start
    pub past : Past v

  pub trail-passed : (start v : View) → Trail cs start v → Counts start → (Shape cs ls start → Past start) → Shape cs ls v → Passed start v
  trail-passed start _ stays n first sh = record { shape = sh; past = first sh }
  trail-passed start _ (follows v w t m) n first sh =
      let counts = trail-counts cs start v t n in
      let before = trail-passed start v t n first (move-back cs ls v w counts m sh) in
      record { shape = before.shape; past = move-past v w counts m sh before.past }
