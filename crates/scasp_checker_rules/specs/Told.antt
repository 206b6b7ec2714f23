-- What the lines of a certificate tell: each literal, with what opened above it.
use Rattle.std.specs.Prelude.{ℕ, Bool, true, false, List, [], ◌∷◌}
use Rattle.std.specs.List.{flat_map}
use Rattle.scasp_syntax.specs.declared.atom.Atom.{Atom}
use Rattle.scasp_cert.specs.Trees.{Tree, pos_tree, neg_tree, loop_tree, seen_tree, test_tree}
use Rattle.scasp_lines.specs.Opened.{Opened}
use Rattle.scasp_lines.specs.Walk.{Part, of_node, of_rule, of_check, of_case, Line}

-- A positive or a negated literal on a line.
pub record Told : Type 0 where
  pub at : ℕ
  pub positive : Bool
  pub atom : Atom
  pub opened : List Opened

abbrev pub told : ℕ → List Opened → Bool → Atom → Told
told at os positive a = record { at = at; positive = positive; atom = a; opened = os }

abbrev pub told_by_node : ℕ → List Opened → Tree → List Told
told_by_node at os (pos_tree a k ts children) = told at os true a ∷ []
told_by_node at os (neg_tree a covers) = told at os false a ∷ []
told_by_node at os (loop_tree lit to) = []
told_by_node at os (seen_tree lit to) = []
told_by_node at os (test_tree c hint) = []

abbrev pub told_by_part : ℕ → List Opened → Part → List Told
told_by_part at os (of_node due t) = told_by_node at os t
told_by_part at os (of_rule k a b) = []
told_by_part at os (of_check k b) = []
told_by_part at os (of_case body b) = []

abbrev pub told_at : Line → List Told
told_at l = told_by_part l.at l.here.opened l.part

abbrev pub all_told : List Line → List Told
all_told ls = flat_map told_at ls
