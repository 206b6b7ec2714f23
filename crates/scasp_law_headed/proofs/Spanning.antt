-- Where the literals that are open end, and which of them are firm: forward along the moves.
use Rattle.std.specs.Prelude.{◌≡◌, ⊤, ℕ, ◌+◌, Bool, true, false, ◌&&◌, List, [], ◌∷◌, ◌++◌, map, drop, length}
use Rattle.std.proofs.Common.{refl, subst, arith}
use Rattle.scasp_checker_rules.specs.Firm.{is_firm, are_firm}
use Rattle.scasp_cert.specs.Lines.{lines_of, lines_below, lines_at, lines_in}
use Rattle.scasp_cert.specs.Trees.{Tree, Branch, listed, covering}
use Rattle.scasp_lines.specs.Dues.{Due}
use Rattle.scasp_search_rules.specs.declared.states.lines.Line.{Line}
use Rattle.scasp_search_rules.specs.declared.states.state.Literal.{Literal}
use Rattle.scasp_search_rules.specs.declared.states.state.State.{State}
use Rattle.scasp_search_rules.specs.Successors.Calls.{looping}
use Rattle.scasp_search_rules.specs.Successors.Trees.{Built, first_case, line_of}
use Rattle.scasp_syntax.specs.Values.{Sub}
use Rattle.scasp_syntax.specs.declared.atom.Atom.{Atom}
use Rattle.scasp_syntax.specs.declared.program.Program.{Program}
use Rattle.scasp_law_headed.proofs.Shapes.{first_entry}
use Rattle.scasp_law_headed.specs.Good.{ats, first_tree, node_at}
use Rattle.scasp_law_headed.proofs.Views.{Want, want_check, want_close, want_leave, want_match, want_node, want_rule, want_void, wanted}

-- the innermost literal is marked
abbrev pub head_marked : List Literal → List Literal
head_marked [] = []
head_marked (a ∷ lits) = looping a ∷ lits

-- the innermost literal, if there is one, is negative
abbrev pub IsHeadNegative : List Literal → Type 0
IsHeadNegative [] = ⊤
IsHeadNegative (a ∷ lits) = a.lit.positive ≡ false

module _ (p : Program) (fin : State) (u : Sub) (ls : List Line) where
  -- the node of the literal
  abbrev pub node_of : Literal → Tree
  node_of a = node_at p fin u ls (line_of (ats p fin u ls) a.number)

  -- The node of the literal ends before this line; it is firm where the literal is negative, and where no loop leads out of it and what is
  -- still to come below it is firm.
  pub record Ends (a : Literal) (at : ℕ) (firm : Bool) : Type 0 where
    pub ends : line_of (ats p fin u ls) a.number + lines_of (node_of a) ≡ at
    pub negative : a.lit.positive ≡ false → is_firm (node_of a) ≡ true
    pub unmarked : a.loops ≡ false → firm ≡ true → is_firm (node_of a) ≡ true

  -- Each of these open literals ends where what is left to do says so, from this line on.
  abbrev pub Spans : ℕ → Bool → List Literal → List Want → Built → Type 0
  Spans at firm lits [] b = ⊤
  Spans at firm lits (want_node d ∷ ts) b =
      Spans (at + lines_of (first_tree b.nodes)) (firm && is_firm (first_tree b.nodes)) lits ts (record b { nodes = drop 1 b.nodes })
  Spans at firm lits (want_rule a k ∷ ts) b = Spans (at + (1 + lines_at (first_entry b.covers).1)) true lits ts (record b { covers = drop 1 b.covers })
  Spans at firm lits (want_check k h ∷ ts) b = Spans (at + (1 + lines_at (first_entry b.checks).1)) true lits ts (record b { checks = drop 1 b.checks })
  Spans at firm lits (want_match bs ps k first ∷ ts) b = Spans (at + lines_at (first_case b.cases)) true lits ts (record b { cases = drop 1 b.cases })
  Spans at firm lits (want_void ∷ ts) b = Spans (at + lines_at (first_case b.cases)) true lits ts (record b { cases = drop 1 b.cases })
  Spans at firm [] (want_leave ∷ ts) b = Spans at true [] ts b
  Spans at firm (a ∷ lits) (want_leave ∷ ts) b = Ends a at firm × Spans at (is_firm (node_of a)) lits ts b
  Spans at firm lits (want_close ∷ ts) b = Spans at true lits ts b

  -- ---- whether what has come is firm does not matter where the innermost literal is marked, is negative, or where there is none

  pub spans-marked : (at : ℕ) (f g : Bool) (lits : List Literal) (ts : List Want) (b : Built) → Spans at f lits ts b → Spans at g (head_marked lits) ts b
  spans-marked at f g [] [] b h = tt
  spans-marked at f g (a ∷ lits) [] b h = tt
  spans-marked at f g lits (want_node d ∷ ts) b h =
      spans-marked (at + lines_of (first_tree b.nodes)) (f && is_firm (first_tree b.nodes)) (g && is_firm (first_tree b.nodes)) lits ts (record b { nodes = drop 1 b.nodes }) h
  spans-marked at f g lits (want_rule a k ∷ ts) b h =
      spans-marked (at + (1 + lines_at (first_entry b.covers).1)) true true lits ts (record b { covers = drop 1 b.covers }) h
  spans-marked at f g lits (want_check k c ∷ ts) b h =
      spans-marked (at + (1 + lines_at (first_entry b.checks).1)) true true lits ts (record b { checks = drop 1 b.checks }) h
  spans-marked at f g lits (want_match bs ps k first ∷ ts) b h = spans-marked (at + lines_at (first_case b.cases)) true true lits ts (record b { cases = drop 1 b.cases }) h
  spans-marked at f g lits (want_void ∷ ts) b h = spans-marked (at + lines_at (first_case b.cases)) true true lits ts (record b { cases = drop 1 b.cases }) h
  spans-marked at f g [] (want_leave ∷ ts) b h = h
  spans-marked at f g (a ∷ lits) (want_leave ∷ ts) b h =
      (record { ends = h.0.ends; negative = h.0.negative; unmarked = λ e. absurd (cc e) }, h.1)
  spans-marked at f g lits (want_close ∷ ts) b h = spans-marked at true true lits ts b h

  pub spans-negative : (at : ℕ) (f g : Bool) (lits : List Literal) (ts : List Want) (b : Built) → IsHeadNegative lits → Spans at f lits ts b → Spans at g lits ts b
  spans-negative at f g lits [] b n h = tt
  spans-negative at f g lits (want_node d ∷ ts) b n h =
      spans-negative (at + lines_of (first_tree b.nodes)) (f && is_firm (first_tree b.nodes)) (g && is_firm (first_tree b.nodes)) lits ts (record b { nodes = drop 1 b.nodes }) n h
  spans-negative at f g lits (want_rule a k ∷ ts) b n h = h
  spans-negative at f g lits (want_check k c ∷ ts) b n h = h
  spans-negative at f g lits (want_match bs ps k first ∷ ts) b n h = h
  spans-negative at f g lits (want_void ∷ ts) b n h = h
  spans-negative at f g [] (want_leave ∷ ts) b n h = h
  spans-negative at f g (a ∷ lits) (want_leave ∷ ts) b n h =
      (record { ends = h.0.ends; negative = h.0.negative; unmarked = λ e k. h.0.negative n }, h.1)
  spans-negative at f g lits (want_close ∷ ts) b n h = h

  -- ---- items and rules in a row

  pub spans-trees : (at : ℕ) (firm : Bool) (lits : List Literal) (is : List Due) (trees rest : List Tree) (ts : List Want) (b : Built) → length trees ≡ length is
      → Spans (at + lines_below (listed trees)) (firm && are_firm (listed trees)) lits ts (record b { nodes = rest })
      → Spans at firm lits (wanted is ++ ts) (record b { nodes = trees ++ rest })
  spans-trees at firm lits [] [] rest ts b e h =
      subst (λ (n : ℕ). Spans n firm lits ts (record b { nodes = rest })) (omega arith)
      (subst (λ (f : Bool). Spans (at + 0) f lits ts (record b { nodes = rest })) (and-true firm) h)
    where
      and-true : (f : Bool) → (f && true) ≡ f
      and-true true = refl
      and-true false = refl
  spans-trees at firm lits [] (t ∷ trees) rest ts b e h = absurd (cc e)
  spans-trees at firm lits (i ∷ is) [] rest ts b e h = absurd (cc e)
  spans-trees at firm lits (i ∷ is) (t ∷ trees) rest ts b e h =
      let less : length trees ≡ length is = cc e in
      let sum : at + (lines_of t + lines_below (listed trees)) ≡ (at + lines_of t) + lines_below (listed trees) = omega arith in
      spans-trees (at + lines_of t) (firm && is_firm t) lits is trees rest ts (record b { nodes = trees ++ rest }) less
      (subst (λ (n : ℕ). Spans n ((firm && is_firm t) && are_firm (listed trees)) lits ts (record b { nodes = rest })) sum
      (subst (λ (f : Bool). Spans (at + (lines_of t + lines_below (listed trees))) f lits ts (record b { nodes = rest })) (and-assoc firm (is_firm t) (are_firm (listed trees))) h))
    where
      and-assoc : (f g k : Bool) → (f && (g && k)) ≡ ((f && g) && k)
      and-assoc true g k = refl
      and-assoc false g k = refl

  pub spans-covers : (at : ℕ) (lits : List Literal) (a : Atom) (ks : List ℕ) (covers rest : List (ℕ × Branch)) (ts : List Want) (b : Built) → length covers ≡ length ks
      → Spans (at + lines_in (covering covers)) true lits ts (record b { covers = rest })
      → Spans at true lits (map (want_rule a) ks ++ ts) (record b { covers = covers ++ rest })
  spans-covers at lits a [] [] rest ts b e h = subst (λ (n : ℕ). Spans n true lits ts (record b { covers = rest })) (omega arith) h
  spans-covers at lits a [] (c ∷ covers) rest ts b e h = absurd (cc e)
  spans-covers at lits a (k ∷ ks) [] rest ts b e h = absurd (cc e)
  spans-covers at lits a (k ∷ ks) (c ∷ covers) rest ts b e h =
      let less : length covers ≡ length ks = cc e in
      let sum : at + (1 + lines_at c.1 + lines_in (covering covers)) ≡ (at + (1 + lines_at c.1)) + lines_in (covering covers) = omega arith in
      spans-covers (at + (1 + lines_at c.1)) lits a ks covers rest ts (record b { covers = covers ++ rest }) less
      (subst (λ (n : ℕ). Spans n true lits ts (record b { covers = rest })) sum h)
