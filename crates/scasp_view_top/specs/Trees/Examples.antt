-- The rows of small trees, computed.
use Rattle.std.specs.Prelude.{◌≡◌, ℕ, Bool, true, false, List, [], ◌∷◌, ◌++◌, codes, refl}
use Rattle.scasp_syntax.specs.Tm.{nil}
use Rattle.scasp_syntax.specs.declared.atom.Atom.{Atom}
use Rattle.scasp_syntax.specs.declared.con.Con.TheVariants as con
use Rattle.scasp_syntax.specs.declared.hint.Hint.TheVariants as hint
use Rattle.scasp_syntax.specs.declared.term.Term.TheVariants.{Var}
use Rattle.scasp_cert.specs.Certificate.{Certificate}
use Rattle.scasp_cert.specs.Text.Terms.{atom_text, lit_text}
use Rattle.scasp_cert.specs.Trees.{Tree, Branch, pos_tree, neg_tree, loop_tree, test_tree, no_tree, tree, void, leaf, no_branch, branch}
use Rattle.scasp_view_top.specs.Digits.{d0, d1, d2, d3, d4, d5, d9}
use Rattle.scasp_view_top.specs.Trees.Labels.{pos_label, neg_label, rule_label, check_label, leaf_label, loop_label}
use Rattle.scasp_view_top.specs.Trees.Rows.{corner, fork}
use Rattle.scasp_view_top.specs.Trees.Settings.{Setting}
use Rattle.scasp_view_top.specs.Trees.Trees.{count_line, trees_text}

abbrev p : Atom
p = record { minus = false; name = 2; args = nil }

abbrev q : Atom
q = record { minus = false; name = 3; args = nil }

-- p :- not q. q :- not p.
abbrev by : Bool → Setting
by plain = record {
  names = codes "[]" ∷ codes "[|]" ∷ codes "p" ∷ codes "q" ∷ [];
  clauses = record { whole = codes "p :- not q.\n"; body = codes " :- not q"; items = codes "not q" ∷ [] }
      ∷ record { whole = codes "q :- not p.\n"; body = codes " :- not p"; items = codes "not p" ∷ [] }
      ∷ [];
  plain = plain;
}

abbrev answer : List Tree → List (ℕ × Branch) → Certificate
answer trees checks = record { query = 1; terms = nil; given = []; sample = nil; trees = trees; checks = checks; clashes = []; map = [] }

-- each holds where the other does not
abbrev even : Tree
even = pos_tree p 1 nil (tree (neg_tree q (branch 2 (leaf 1 (tree (loop_tree (record { positive = true; atom = p }) 1) no_tree)) no_branch)) no_tree)

plain_rows : trees_text (by true) false [] (answer (even ∷ []) [])
    ≡ codes "1\t  pos p rule 1 :- not q\n2\t    neg q\n3\t      rule 2 q :- not p.\n4\t        leaf 1 not p\n5\t          loop p at 1\nchecks 0\n"
unfolding pos_label neg_label rule_label leaf_label loop_label atom_text lit_text count_line
plain_rows = simp (d0, d1, d2, d3, d4, d5) refl

-- a line before others, and one before a test that is left out; what the program lacks is left out too
drawn_rows : trees_text (by false) true (codes "?- p.\n") (answer (pos_tree p 9 nil no_tree ∷ pos_tree q 9 nil no_tree ∷ test_tree (con.Num (Var 0)) hint.Terms ∷ []) ((2, void hint.Terms) ∷ []))
    ≡ codes "?- p.\n1\t" ++ fork ++ codes "pos p rule 9\n2\t" ++ corner ++ codes "pos q rule 9\n4\tcheck 2 q :- not p.\n5\t" ++ corner ++ codes "void\n"
unfolding pos_label check_label atom_text
drawn_rows = simp (d1, d2, d4, d5, d9) refl
