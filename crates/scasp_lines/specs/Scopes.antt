-- Lines on which each variable is known, and what then holds of what opened there.
use Rattle.std.specs.Prelude.{ℕ, zero, suc, Bool, true, false, ◌&&◌, IsTrue, Option, None, Some, ◌<◌, ◌≤◌, IsFalse}
use Rattle.std.specs.List.{list_all}
use Rattle.scasp_syntax.specs.declared.con.Con.{Con}
use Rattle.scasp_syntax.specs.declared.program.Program.{Program}
use Rattle.scasp_cert.specs.Certificate.{Certificate}
use Rattle.scasp_cert.specs.Trees.{Branch, split, void, leaf, head}
use Rattle.scasp_lines.specs.Bodies.{Body}
use Rattle.scasp_lines.specs.Known.{is_known, is_con_known}
use Rattle.scasp_lines.specs.Lines.{free_of, lines}
use Rattle.scasp_lines.specs.Opened.{knows, well, AreUnknown}
use Rattle.scasp_lines.specs.Places.{Place}
use Rattle.scasp_lines.specs.Said.{is_node_known}
use Rattle.scasp_lines.specs.Sides.{Shape, shape_of}
use Rattle.scasp_lines.specs.Walk.{Part, of_node, of_rule, of_check, of_case, Line, Setting}
use Rattle.scasp_syntax.specs.declared.con.Con.TheVariants as con

-- it is no excluded shape that has parts
abbrev pub excludes_no_parts : Con → Bool
excludes_no_parts (con.Eq t u) = true
excludes_no_parts (con.Neq t u) = true
excludes_no_parts (con.NotShape x f zero) = true
excludes_no_parts (con.NotShape x f (suc n)) = false
excludes_no_parts (con.Num t) = true
excludes_no_parts (con.NotNum t) = true
excludes_no_parts (con.Row r) = true

-- the variables of a split's constraint are known, or its variable where it has a shape; it excludes no shape that has parts
abbrev pub is_split_known : (ℕ → Bool) → Option Shape → Con → Bool
is_split_known known (Some s) c = known s.of
is_split_known known None c = is_con_known known c && excludes_no_parts c

abbrev pub is_branch_known : (ℕ → Bool) → ℕ → Branch → Bool
is_branch_known known next (split c first second) = is_split_known known (shape_of next c) c
is_branch_known known next (void hint) = true
is_branch_known known next (leaf k children) = true
is_branch_known known next (head children) = true

-- the variables that stand on the line itself are known
abbrev pub is_part_scoped : (ℕ → Bool) → ℕ → Part → Bool
is_part_scoped known next (of_node due t) = is_node_known known t
is_part_scoped known next (of_rule k a b) = true
is_part_scoped known next (of_check k b) = true
is_part_scoped known next (of_case body b) = is_branch_known known next b

abbrev pub is_line_scoped : ℕ → Line → Bool
is_line_scoped n l = is_part_scoped (knows n l.here.opened) l.next l.part

abbrev pub are_lines_scoped : Program → Certificate → Bool
are_lines_scoped p c = list_all (is_line_scoped (free_of c)) (lines p c)

-- What opened is well; no part from the next one on is known, and no universal from the next one on; and all universals are below the parts.
pub record PlaceFits (s : Setting) (here : Place) (next : ℕ) : Type 0 where
  pub well : IsTrue (well s.free here.opened)
  pub unseen : (y : ℕ) → here.hidden ≤ y → IsFalse (knows s.free here.opened y)
  pub to_come : AreUnknown s.free here.opened next s.top
  pub above : s.top ≤ here.hidden

-- what the body's variables stand for has known variables
pub record BodyFits (s : Setting) (body : Body) (here : Place) (next : ℕ) : Type 0 where
  pub place_fits : PlaceFits s here next
  pub values : (x : ℕ) → x < body.vars → IsTrue (is_known (knows s.free here.opened) (body.values x))

abbrev pub PartFits : Setting → Place → ℕ → Part → Type 0
PartFits s here next (of_node due t) = PlaceFits s here next
PartFits s here next (of_rule k a b) = PlaceFits s here next
PartFits s here next (of_check k b) = PlaceFits s here next
PartFits s here next (of_case body b) = BodyFits s body here next
