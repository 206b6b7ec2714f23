-- Justification trees and case trees as values.
use Rattle.std.specs.Prelude.{ℕ, List, [], ◌∷◌}
use Rattle.scasp_syntax.specs.Tm.{Tms}
use Rattle.scasp_syntax.specs.declared.atom.Atom.{Atom}
use Rattle.scasp_syntax.specs.declared.atom.Lit.{Lit}
use Rattle.scasp_syntax.specs.declared.con.Con.{Con}
use Rattle.scasp_syntax.specs.declared.hint.Hint.{Hint}

-- A justification tree as a value: what the product's `Node`, `Nodes`, `Cover`, `Covers` and `Case` say, without where they lie in memory.
mutual
  pub data Tree : Type 0 where
    pos_tree : Atom → ℕ → Tms → Trees → Tree
    neg_tree : Atom → Branches → Tree
    loop_tree : Lit → ℕ → Tree
    seen_tree : Lit → ℕ → Tree
    test_tree : Con → Hint → Tree

  pub data Trees : Type 0 where
    no_tree : Trees
    tree : Tree → Trees → Trees

  pub data Branch : Type 0 where
    split : Con → Branch → Branch → Branch
    void : Hint → Branch
    leaf : ℕ → Trees → Branch
    head : Trees → Branch

  pub data Branches : Type 0 where
    no_branch : Branches
    branch : ℕ → Branch → Branches → Branches

-- the trees of a list, one below the other
abbrev pub listed : List Tree → Trees
listed [] = no_tree
listed (t ∷ ts) = tree t (listed ts)

-- the rules under a negated literal, each with its branch
abbrev pub covering : List (ℕ × Branch) → Branches
covering [] = no_branch
covering (c ∷ cs) = branch c.0 c.1 (covering cs)
