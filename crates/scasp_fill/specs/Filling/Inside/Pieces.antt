-- Lines without what stands below them, each with its hint, and the trees that they make from the last one back.
use Rattle.std.specs.Prelude.{ℕ, Some, List, [], ◌∷◌, drop, length, take}
use Rattle.scasp_search_trees.specs.Stacked.{with_check, with_rule, without_covers}
use Rattle.scasp_cert.specs.Certificate.{Certificate}
use Rattle.scasp_cert.specs.declared.certificate.Clash.{Clash}
use Rattle.scasp_cert.specs.Trees.{Tree, Branch, pos_tree, neg_tree, loop_tree, seen_tree, test_tree, split, void, leaf, head, listed, covering}
use Rattle.scasp_cert.specs.View.{branch_of, tree_of}
use Rattle.scasp_lines.specs.Below.{count, rule_numbers}
use Rattle.scasp_lines.specs.Walk.{Line, Part, of_node, of_rule, of_check, of_case}
use Rattle.scasp_search_rules.specs.Successors.Trees.{Built, first_case, no_lines, with_case, with_node, without_nodes}
use Rattle.scasp_syntax.specs.declared.con.Con.{Con}
use Rattle.scasp_syntax.specs.declared.hint.Hint.{Hint}
use Rattle.scasp_fill.specs.Filling.Filled.{hint_at}
use Rattle.scasp_fill.specs.declared.filling.hints.Hinted.{Hinted}
use Rattle.scasp_fill.specs.declared.filling.pieces.Piece.{Piece as ThisPiece}
use Rattle.scasp_fill.specs.declared.filling.pieces.Piece.TheVariants as piece

-- ---- pieces

-- A node, the number of a rule or of a clause that is checked, a case.
pub data Piece : Type 0 where
  a_tree : Tree → Piece
  a_rule : ℕ → Piece
  a_check : ℕ → Piece
  a_branch : Branch → Piece

abbrev pub piece_value : ThisPiece → Piece
piece_value (piece.Node node) = a_tree (tree_of node.now)
piece_value (piece.Rule k) = a_rule k
piece_value (piece.Check k) = a_check k
piece_value (piece.Case b) = a_branch (branch_of b.now)

abbrev pub piece_at : Part → Piece
piece_at (of_node due t) = a_tree t
piece_at (of_rule k a b) = a_rule k
piece_at (of_check k b) = a_check k
piece_at (of_case body b) = a_branch b

abbrev pub hinted_value : Hinted → Piece × Hint
hinted_value h = (piece_value h.piece, h.hint)

-- what stands on a line, with the hint that is found for it
abbrev pub hinted_at : List Con → Line → Piece × Hint
hinted_at given l = (piece_at l.part, hint_at given (Some l))

-- ---- what they make

abbrev pub put_tree : Tree → Hint → Built → Built
put_tree (pos_tree a k ts children) h b = with_node (pos_tree a k ts (listed (take (count children) b.nodes))) (count children) b
put_tree (neg_tree a covers) h b =
    let n = length (rule_numbers covers) in with_node (neg_tree a (covering (take n b.covers))) 0 (without_covers n b)
put_tree (loop_tree lit to) h b = with_node (loop_tree lit to) 0 b
put_tree (seen_tree lit to) h b = with_node (seen_tree lit to) 0 b
put_tree (test_tree c shown) h b = with_node (test_tree c h) 0 b

abbrev pub put_branch : Branch → Hint → Built → Built
put_branch (split c first second) h b = with_case (split c (first_case b.cases) (first_case (drop 1 b.cases))) 2 b
put_branch (void shown) h b = with_case (void h) 0 b
put_branch (leaf k children) h b = with_case (leaf k (listed (take (count children) b.nodes))) 0 (without_nodes (count children) b)
put_branch (head children) h b = with_case (head (listed (take (count children) b.nodes))) 0 (without_nodes (count children) b)

-- what a line makes of what the lines behind it make, with this hint
abbrev pub put : Piece × Hint → Built → Built
put (a_tree t, h) b = put_tree t h b
put (a_rule k, h) b = with_rule k b
put (a_check k, h) b = with_check k b
put (a_branch x, h) b = put_branch x h b

abbrev pub onto : List (Piece × Hint) → Built → Built
onto [] b = b
onto (p ∷ ps) b = put p (onto ps b)

-- the certificate with the trees and checks that these lines make, and these clash lines
abbrev pub made_of : Certificate → List (Piece × Hint) → List Clash → Certificate
made_of c hs clashes = record c { trees = (onto hs no_lines).nodes; checks = (onto hs no_lines).checks; clashes = clashes }
