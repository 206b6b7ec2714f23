-- Trees of literals without arguments, as the lines of the search make them.
use Rattle.std.specs.Prelude.{◌≡◌, ⊤, ℕ, suc, pred, ◌+◌, ◌<◌, Bool, true, false, Option, Some, None, List, [], ◌∷◌, ◌++◌, drop, length}
use Rattle.scasp_checker_rules.specs.Ancestors.{entry_at, is_negated_before}
use Rattle.scasp_cert.specs.Lines.{lines_of, lines_at}
use Rattle.scasp_cert.specs.Trees.{Tree, Trees, Branch, Branches, pos_tree, neg_tree, loop_tree, seen_tree, test_tree, no_tree, tree, split, void, leaf, head, no_branch, branch}
use Rattle.scasp_lines.specs.Below.{rule_numbers}
use Rattle.scasp_lines.specs.Places.{Above}
use Rattle.scasp_search_rules.specs.declared.states.lines.Line.{Line}
use Rattle.scasp_search_rules.specs.declared.states.lines.Line.TheVariants as line
use Rattle.scasp_search_rules.specs.declared.states.state.Literal.{Literal}
use Rattle.scasp_search_rules.specs.Successors.Cases.{failing_at}
use Rattle.scasp_search_rules.specs.Successors.Trees.{built, is_literal, line_of}
use Rattle.scasp_syntax.specs.Flat.{flat_body}
use Rattle.scasp_syntax.specs.Programs.{numbered, rules_from, pred_of}
use Rattle.scasp_syntax.specs.Tm.{Tms, nil}
use Rattle.scasp_syntax.specs.declared.atom.Atom.{Atom}
use Rattle.scasp_syntax.specs.declared.atom.Lit.{Lit}
use Rattle.scasp_syntax.specs.declared.clause.Clause.{Clause}
use Rattle.scasp_syntax.specs.declared.clause.FlatItem.{FlatItem}
use Rattle.scasp_syntax.specs.declared.clause.FlatItem.TheVariants as flat
use Rattle.scasp_syntax.specs.declared.con.Con.TheVariants as con
use Rattle.scasp_syntax.specs.declared.hint.Hint.TheVariants as hint

-- ---- lines by number

abbrev pub first_tree : List Tree → Tree
first_tree [] = test_tree (con.NotShape 0 0 0) hint.Terms
first_tree (t ∷ ts) = t

abbrev pub first_entry : List (ℕ × Branch) → ℕ × Branch
first_entry [] = (0, void hint.Terms)
first_entry (c ∷ cs) = c

abbrev pub is_literal_line : Option Line → Bool
is_literal_line None = false
is_literal_line (Some l) = is_literal l

abbrev pub body_in : Option Clause → List FlatItem
body_in None = []
body_in (Some c) = flat_body c.body

abbrev pub head_in : Option Clause → Option Atom
head_in None = None
head_in (Some c) = c.head

abbrev pub above : ℕ → Bool → Atom → Above
above at positive a = record { at = at; positive = positive; atom = a }

abbrev pub entry : List ℕ → Literal → Above
entry ats a = above (line_of ats a.number) a.lit.positive a.lit.atom

-- The line that a loop names is one of the literal above it.
pub record LoopsBack (above : List Above) (lit : Lit) (to : ℕ) : Type 0 where
  pub entry : Above
  pub found : entry_at to above ≡ Some entry
  pub sign : entry.positive ≡ lit.positive
  pub same : entry.atom ≡ lit.atom
  pub crosses : lit.positive ≡ true → is_negated_before to above ≡ true

pub record IsPositive (cs : List Clause) (l : Lit) (a : Atom) (k : ℕ) (ts : Tms) : Type 0 where
  pub positive : l.positive ≡ true
  pub atom : a ≡ l.atom
  pub no_argument : a.args ≡ nil
  pub no_term : ts ≡ nil
  pub clause : Clause
  pub named : numbered cs k ≡ Some clause
  pub head : clause.head ≡ Some a

pub record IsNegated (cs : List Clause) (l : Lit) (a : Atom) (covers : Branches) : Type 0 where
  pub negative : l.positive ≡ false
  pub atom : a ≡ l.atom
  pub no_argument : a.args ≡ nil
  pub rules : rule_numbers covers ≡ rules_from 1 cs (pred_of a)

abbrev pub IsClause : List Clause → ℕ → Type 0
IsClause cs k = (c : Clause) × (numbered cs k ≡ Some c)

-- ---- trees, under clauses and the lines of the whole search, with the line numbers of its literals
module _ (cs : List Clause) (ls : List Line) (ats : List ℕ) where
  -- the line of this number, and the node that stands there
  abbrev pub line_at : ℕ → Option Line
  line_at at = numbered ls at

  abbrev pub node_at : ℕ → Tree
  node_at at = first_tree (built ats (drop (pred at) ls)).nodes

  -- no literal stands on the line
  abbrev pub IsNoLiteral : ℕ → Type 0
  IsNoLiteral at = is_literal_line (line_at at) ≡ false

  abbrev pub SeesLine : ℕ → Lit → ℕ → Type 0
  SeesLine at lit to = (n : ℕ) × (line_at at ≡ Some (line.Seen lit n)) × (to ≡ line_of ats n)

  abbrev pub ChecksLine : ℕ → ℕ → Type 0
  ChecksLine at k = (first : ℕ) × (line_at at ≡ Some (line.Check k first))

  -- The tree on this line, below these literals, is due for the item.
  abbrev mutual
    pub Good : ℕ → List Above → FlatItem → Tree → Type 0
    Good at abv (flat.Test c) t = ⊥
    Good at abv (flat.Call l) (pos_tree a k ts children) =
        IsPositive cs l a k ts × GoodTrees (suc at) (above at true a ∷ abv) (body_in (numbered cs k)) children
    Good at abv (flat.Call l) (neg_tree a covers) = IsNegated cs l a covers × GoodCovers (suc at) (above at false a ∷ abv) covers
    Good at abv (flat.Call l) (loop_tree lit to) = (lit ≡ l) × (l.atom.args ≡ nil) × LoopsBack abv l to
    Good at abv (flat.Call l) (seen_tree lit to) = (lit ≡ l) × (l.atom.args ≡ nil) × SeesLine at l to
    Good at abv (flat.Call l) (test_tree c h) = ⊥

    pub GoodTrees : ℕ → List Above → List FlatItem → Trees → Type 0
    GoodTrees at abv [] no_tree = ⊤
    GoodTrees at abv [] (tree t ts) = ⊥
    GoodTrees at abv (i ∷ is) no_tree = ⊥
    GoodTrees at abv (i ∷ is) (tree t ts) = (node_at at ≡ t) × Good at abv i t × GoodTrees (at + lines_of t) abv is ts

    pub GoodCase : Bool → ℕ → List Above → ℕ → Branch → Type 0
    GoodCase checks at abv k (split c first second) = ⊥
    GoodCase checks at abv k (void h) = ⊥
    GoodCase checks at abv k (leaf n children) =
        IsNoLiteral at × (j : ℕ) × (n ≡ suc j) × (j < length (body_in (numbered cs k)))
        × GoodTrees (suc at) abv (failing_at j (body_in (numbered cs k))) children
    GoodCase checks at abv k (head children) =
        IsNoLiteral at × (h : Atom) × (checks ≡ true) × (head_in (numbered cs k) ≡ Some h)
        × GoodTrees (suc at) abv (body_in (numbered cs k) ++ flat.Call (record { positive = true; atom = h }) ∷ []) children

    pub GoodCovers : ℕ → List Above → Branches → Type 0
    GoodCovers at abv no_branch = ⊤
    GoodCovers at abv (branch k b bs) =
        (IsNoLiteral at × IsClause cs k × GoodCase false (suc at) abv k b) × GoodCovers (at + (1 + lines_at b)) abv bs

  abbrev pub GoodRule : ℕ → List Above → ℕ → Branch → Type 0
  GoodRule at abv k b = IsNoLiteral at × IsClause cs k × GoodCase false (suc at) abv k b

  abbrev pub GoodCheck : ℕ → List Above → ℕ → Branch → Type 0
  GoodCheck at abv k b = ChecksLine at k × IsClause cs k × GoodCase true (suc at) abv k b

  abbrev pub GoodChecks : ℕ → List Above → List (ℕ × Branch) → Type 0
  GoodChecks at abv [] = ⊤
  GoodChecks at abv (c ∷ cs) = GoodCheck at abv c.0 c.1 × GoodChecks (at + (1 + lines_at c.1)) abv cs
