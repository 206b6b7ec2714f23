-- Down from a case to one that is not split: at each instance of a case one side of each split has an instance that agrees with it.
use Rattle.std.specs.Prelude.{◌≡◌, ℕ, Bool, true, false, IsTrue, List}
use Rattle.std.specs.List.{list_all, Contains}
use Rattle.scasp_syntax.specs.Tm.{Tm}
use Rattle.scasp_syntax.specs.Values.{Sub, is_ground}
use Rattle.scasp_cert.specs.Trees.{Branch, split, void, leaf, head}
use Rattle.scasp_lines.specs.Bodies.{Body}
use Rattle.scasp_lines.specs.Lines.{walk_of}
use Rattle.scasp_lines.specs.Opened.{knows, AllMet}
use Rattle.scasp_lines.specs.Walk.{of_case, Line, Setting}

-- the case is not split
abbrev pub is_end : Branch → Bool
is_end (split c first second) = false
is_end (void hint) = true
is_end (leaf k children) = true
is_end (head children) = true

-- the same clause, with the same values
pub record SameBody (a b : Body) : Type 0 where
  pub items : a.items ≡ b.items
  pub head : a.head ≡ b.head
  pub is_check : a.is_check ≡ b.is_check
  pub vars : a.vars ≡ b.vars
  pub values : a.values ≡ b.values

-- A case below the line, or the line itself, that is not split, with values that meet what opened there and agree with v on what is known
-- at the line.
pub record Ends (s : Setting) (d : List Tm) (l : Line) (body : Body) (v : Sub) : Type 0 where
  pub line : Line
  pub listed : Contains (walk_of s l) line
  pub own : Body
  pub last : Branch
  pub is : line.part ≡ of_case own last
  pub ends : IsTrue (is_end last)
  pub alike : SameBody own body
  pub by : Sub
  pub met : AllMet d by line.here.opened
  pub same : (x : ℕ) → IsTrue (knows s.free l.here.opened x) → by x ≡ v x
  pub ground : ((x : ℕ) → IsTrue (is_ground (v x))) → (x : ℕ) → IsTrue (is_ground (by x))
