-- The line of a literal that was shown before.
use Rattle.std.specs.Prelude.{ℕ, ◌+◌, Bool, false, ◌&&◌, ◌||◌, not, nat_eq, nat_le, List}
use Rattle.std.specs.List.{list_all, list_any}
use Rattle.scasp_syntax.specs.Same.{same_atom}
use Rattle.scasp_syntax.specs.declared.atom.Lit.{Lit}
use Rattle.scasp_cert.specs.Lines.{lines_of}
use Rattle.scasp_cert.specs.Trees.{Tree, pos_tree, neg_tree, loop_tree, seen_tree, test_tree}
use Rattle.scasp_lines.specs.Places.{Around, Place}
use Rattle.scasp_lines.specs.Walk.{Part, of_node, of_rule, of_check, of_case, Line}
use Rattle.scasp_checker_rules.specs.Firm.{is_firm}

-- the line is one of this literal; a positive one is firm
abbrev pub is_tree_of : Lit → Tree → Bool
is_tree_of l (pos_tree a k ts children) = l.positive && same_atom a l.atom && is_firm (pos_tree a k ts children)
is_tree_of l (neg_tree a covers) = not l.positive && same_atom a l.atom
is_tree_of l (loop_tree lit to) = false
is_tree_of l (seen_tree lit to) = false
is_tree_of l (test_tree c hint) = false

-- the case is plain, or is around, too
abbrev pub is_around : List Around → Around → Bool
is_around around c = c.plain || list_any (λ k. nat_eq k.at c.at) around

-- the part shows the literal, has ended before line `at`, and each case around it that is not plain is around here
abbrev pub is_shown_by : Lit → ℕ → Place → Line → Part → Bool
is_shown_by l at here target (of_node due t) =
    is_tree_of l t && nat_le (target.at + lines_of t) at && list_all (is_around here.around) target.here.around
is_shown_by l at here target (of_rule k a b) = false
is_shown_by l at here target (of_check k b) = false
is_shown_by l at here target (of_case body b) = false

abbrev pub is_target : Lit → ℕ → Place → Line → Bool
is_target l at here target = is_shown_by l at here target target.part
