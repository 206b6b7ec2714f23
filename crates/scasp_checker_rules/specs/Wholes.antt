-- What is the same for all lines of a certificate.
use Rattle.std.specs.Prelude.{ℕ, Bool, nat_lt, List, if◌then◌else◌, [], ◌∷◌}
use Rattle.std.specs.List.{flat_map}
use Rattle.scasp_syntax.specs.declared.con.Con.{Con}
use Rattle.scasp_syntax.specs.declared.program.Program.{Program}
use Rattle.scasp_cert.specs.Certificate.{Certificate}
use Rattle.scasp_lines.specs.Lines.{lines, setting}
use Rattle.scasp_lines.specs.Places.{Place, in_scope, is_universal}
use Rattle.scasp_lines.specs.Walk.{Part, of_node, of_rule, of_check, of_case, Line, Setting}

-- The setting, what is given, all lines, and whether a positive literal may be shown by an earlier line of it.
pub record Whole : Type 0 where
  pub setting : Setting
  pub given : List Con
  pub lines : List Line
  pub positives : Bool

abbrev pub whole_of : Bool → Program → Certificate → Whole
whole_of positives p c = record { setting = setting p.clauses c; given = c.given; lines = lines p c; positives = positives }

-- the variable may stand at the place
abbrev pub scope : Whole → Place → ℕ → Bool
scope w here x = in_scope w.setting.free w.setting.top here x

-- it is a universal one that is not replaced
abbrev pub universal : Whole → Place → ℕ → Bool
universal w here x = is_universal w.setting.free w.setting.top here x

abbrev pub check_number : Part → List ℕ
check_number (of_check k b) = k ∷ []
check_number (of_node due t) = []
check_number (of_rule k a b) = []
check_number (of_case body b) = []

abbrev pub number_before : ℕ → Line → List ℕ
number_before at l = if nat_lt l.at at then check_number l.part else []

-- the clauses that are checked on lines before this one
abbrev pub checked_before : Whole → ℕ → List ℕ
checked_before w at = flat_map (number_before at) w.lines
