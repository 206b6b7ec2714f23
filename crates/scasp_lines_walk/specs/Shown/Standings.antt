-- What stands on the lines of a certificate, as far as other lines ask for it.
use Rattle.std.specs.Prelude.{ℕ, ◌+◌, Bool, true, false, ◌&&◌, nat_le, Option, None, Some, List, [], ◌∷◌, map}
use Rattle.std.specs.List.{list_all}
use Rattle.scasp_syntax.specs.Same.{same_atom, same_bool}
use Rattle.scasp_syntax.specs.declared.atom.Atom.{Atom}
use Rattle.scasp_syntax.specs.declared.atom.Lit.{Lit}
use Rattle.scasp_cert.specs.Lines.{lines_of}
use Rattle.scasp_cert.specs.Trees.{Tree, pos_tree, neg_tree, loop_tree, seen_tree, test_tree}
use Rattle.scasp_lines.specs.Opened.{Opened}
use Rattle.scasp_lines.specs.Places.{Around, Place}
use Rattle.scasp_lines.specs.Walk.{Part, of_node, of_rule, of_check, of_case, Line}
use Rattle.scasp_checker_rules.specs.Firm.{is_firm}
use Rattle.scasp_checker_rules.specs.Targets.{is_around}
use Rattle.scasp_checker_rules.specs.Told.{Told, told}

-- A positive or a negated literal on a line, the number of the line behind the last one below it, whether it is firm, and the cases around it.
pub record Shown : Type 0 where
  pub told : Told
  pub behind : ℕ
  pub firm : Bool
  pub around : List Around

-- What stands on a line: such a literal; or anything else, with what opened on the way to it.
pub data Standing : Type 0 where
  literal : Shown → Standing
  other : List Opened → Standing

abbrev pub shown_by : ℕ → Place → Bool → Atom → Tree → Shown
shown_by at here positive a t =
    record { told = told at here.opened positive a; behind = at + lines_of t; firm = is_firm t; around = here.around }

abbrev pub standing_of_node : ℕ → Place → Tree → Standing
standing_of_node at here (pos_tree a k ts children) = literal (shown_by at here true a (pos_tree a k ts children))
standing_of_node at here (neg_tree a covers) = literal (shown_by at here false a (neg_tree a covers))
standing_of_node at here (loop_tree lit to) = other here.opened
standing_of_node at here (seen_tree lit to) = other here.opened
standing_of_node at here (test_tree c hint) = other here.opened

abbrev pub standing_of_part : ℕ → Place → Part → Standing
standing_of_part at here (of_node due t) = standing_of_node at here t
standing_of_part at here (of_rule k a b) = other here.opened
standing_of_part at here (of_check k b) = other here.opened
standing_of_part at here (of_case body b) = other here.opened

abbrev pub standing_at : Line → Standing
standing_at l = standing_of_part l.at l.here l.part

-- what stands on the lines, in order
abbrev pub standings : List Line → List Standing
standings ls = map standing_at ls

-- the literals among what stands on lines, in order
abbrev pub told_by : Standing → List Told
told_by (literal s) = s.told ∷ []
told_by (other os) = []

abbrev pub told_where : Option Standing → Option Told
told_where None = None
told_where (Some (literal s)) = Some s.told
told_where (Some (other os)) = None

-- what opened on the way to a line
abbrev pub opened_at : Standing → List Opened
opened_at (literal s) = s.told.opened
opened_at (other os) = os

-- the line shows the literal at a place on line `at`
abbrev pub shows_it : Lit → ℕ → Place → Shown → Bool
shows_it l at here s =
    same_bool s.told.positive l.positive && same_atom s.told.atom l.atom && s.firm && nat_le s.behind at && list_all (is_around here.around) s.around

abbrev pub shows : Lit → ℕ → Place → Standing → Bool
shows l at here (literal s) = shows_it l at here s
shows l at here (other os) = false
