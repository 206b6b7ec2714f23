-- Where each line ends, and whether what stands on it is firm, from the last line to the first.
use Rattle.std.specs.Prelude.{ℕ, zero, suc, ◌+◌, Bool, true, false, ◌&&◌, not, List, [], ◌∷◌, length, drop}
use Rattle.scasp_syntax.specs.declared.atom.Atom.{Atom}
use Rattle.scasp_checker_rules.specs.Firm.{is_firm}
use Rattle.scasp_checker_rules.specs.Told.{told}
use Rattle.scasp_cert.specs.Trees.{Tree, pos_tree, neg_tree, loop_tree, seen_tree, test_tree, Branch, split, void, leaf, head}
use Rattle.scasp_lines.specs.Below.{count, rule_numbers}
use Rattle.scasp_lines.specs.Numbering.{lines_of_part}
use Rattle.scasp_lines.specs.Places.{Place}
use Rattle.scasp_lines.specs.Walk.{Part, of_node, of_rule, of_check, of_case, Line}
use Rattle.scasp_lines_walk.specs.Shown.Standings.{Shown, Standing, literal, other}
use Rattle.scasp_lines_walk.specs.declared.shown.ends.Ended.{Ended}

-- ---- what stands right below a line

abbrev pub parts_of_node : Tree → ℕ
parts_of_node (pos_tree a k ts children) = count children
parts_of_node (neg_tree a covers) = length (rule_numbers covers)
parts_of_node (loop_tree lit to) = 0
parts_of_node (seen_tree lit to) = 0
parts_of_node (test_tree c hint) = 0

abbrev pub parts_of_case : Branch → ℕ
parts_of_case (split c first second) = 2
parts_of_case (void hint) = 0
parts_of_case (leaf k children) = count children
parts_of_case (head children) = count children

-- how many lines stand right below the line
abbrev pub parts : Part → ℕ
parts (of_node due t) = parts_of_node t
parts (of_rule k a b) = 1
parts (of_check k b) = 1
parts (of_case body b) = parts_of_case b

-- ---- from what ended right below a line

-- a node is firm by those below it, or by itself
abbrev pub firm_node : Tree → Bool → Bool
firm_node (pos_tree a k ts children) below = below
firm_node (neg_tree a covers) below = true
firm_node (loop_tree lit to) below = not lit.positive
firm_node (seen_tree lit to) below = true
firm_node (test_tree c hint) below = true

abbrev pub firm_part : Part → Bool → Bool
firm_part (of_node due t) below = firm_node t below
firm_part (of_rule k a b) below = true
firm_part (of_check k b) below = true
firm_part (of_case body b) below = true

-- behind the first so many of these, and whether all of them are firm
abbrev pub gathered : Ended → ℕ → List Ended → Ended
gathered e zero es = e
gathered e (suc n) [] = e
gathered e (suc n) (x ∷ xs) = gathered (record { behind = x.behind; firm = e.firm && x.firm }) n xs

abbrev pub closed : Part → Ended → Ended
closed part below = record { behind = below.behind; firm = firm_part part below.firm }

abbrev pub ended_at : Line → List Ended → Ended
ended_at l after = closed l.part (gathered (record { behind = suc l.at; firm = true }) (parts l.part) after)

-- where the line ends, in the place of what ended right below it
abbrev pub with_end : Line → List Ended → List Ended
with_end l after = ended_at l after ∷ drop (parts l.part) after

-- what ends from the lines on that are not below one of them
abbrev pub ends : List Line → List Ended
ends [] = []
ends (l ∷ ls) = with_end l (ends ls)

-- ---- what it is

abbrev pub is_part_firm : Part → Bool
is_part_firm (of_node due t) = is_firm t
is_part_firm (of_rule k a b) = true
is_part_firm (of_check k b) = true
is_part_firm (of_case body b) = true

abbrev pub end_of : ℕ → Part → Ended
end_of at part = record { behind = at + lines_of_part part; firm = is_part_firm part }

-- ---- the row of a line that ends so

abbrev pub shown_with : ℕ → Place → Bool → Atom → Ended → Shown
shown_with at here positive a e = record { told = told at here.opened positive a; behind = e.behind; firm = e.firm; around = here.around }

abbrev pub node_row : ℕ → Place → Tree → Ended → Standing
node_row at here (pos_tree a k ts children) e = literal (shown_with at here true a e)
node_row at here (neg_tree a covers) e = literal (shown_with at here false a e)
node_row at here (loop_tree lit to) e = other here.opened
node_row at here (seen_tree lit to) e = other here.opened
node_row at here (test_tree c hint) e = other here.opened

abbrev pub part_row : ℕ → Place → Part → Ended → Standing
part_row at here (of_node due t) e = node_row at here t e
part_row at here (of_rule k a b) e = other here.opened
part_row at here (of_check k b) e = other here.opened
part_row at here (of_case body b) e = other here.opened

abbrev pub row_with : Line → List Ended → Standing
row_with l after = part_row l.at l.here l.part (ended_at l after)
