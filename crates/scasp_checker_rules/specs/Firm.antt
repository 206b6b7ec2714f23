-- Firm lines: positive literals that rest on no positive loop through positive children alone.
use Rattle.std.specs.Prelude.{Bool, true, ◌&&◌, not}
use Rattle.scasp_cert.specs.Trees.{Tree, Trees, pos_tree, neg_tree, loop_tree, seen_tree, test_tree, no_tree, tree}

abbrev mutual
  pub is_firm : Tree → Bool
  is_firm (pos_tree a k ts children) = are_firm children
  is_firm (neg_tree a covers) = true
  is_firm (loop_tree lit to) = not lit.positive
  is_firm (seen_tree lit to) = true
  is_firm (test_tree c hint) = true

  pub are_firm : Trees → Bool
  are_firm no_tree = true
  are_firm (tree t ts) = is_firm t && are_firm ts
