-- A line that carries a literal which is due elsewhere.
use Rattle.std.specs.Prelude.{◌≡◌, ℕ, suc, ◌+◌, ◌<◌, ◌≤◌, Bool, true, false, List, [], ◌∷◌}
use Rattle.scasp_syntax.specs.Instances.{atom_under}
use Rattle.scasp_syntax.specs.Values.{Sub}
use Rattle.scasp_syntax.specs.declared.atom.Atom.{Atom}
use Rattle.scasp_syntax.specs.declared.atom.Lit.{Lit}
use Rattle.scasp_syntax.specs.declared.program.Program.{Program}
use Rattle.scasp_cert.specs.Certificate.{Certificate}
use Rattle.scasp_cert.specs.Lines.{lines_of}
use Rattle.scasp_cert.specs.Trees.{Tree}
use Rattle.scasp_lines.specs.Dues.{Due}
use Rattle.scasp_lines.specs.Places.{Above}
use Rattle.scasp_lines.specs.Surroundings.{IsNodeOf}
use Rattle.scasp_lines.specs.Walk.{of_node, Line}
use Rattle.scasp_checker_rules.specs.Firm.{is_firm}
use Rattle.scasp_law_promise.specs.Premises.{Premises, IsAt}

-- how many of the literals above are negated
abbrev pub negations : List Above → ℕ
negations [] = 0
negations (e ∷ es) = more e.positive (negations es)
  where
    more : Bool → ℕ → ℕ
    more true n = n
    more false n = suc n

-- How the line `other` with this tree carries what the line x with the tree t is due for: it is that line; x loops to it, over a negated
-- literal where it is positive; or it has ended before x, and is firm where it is positive.
pub data How (positive : Bool) (x : Line) (t : Tree) (other : Line) (tree : Tree) : Type 0 where
  itself : other ≡ x → How positive x t other tree
  looped : (positive ≡ true → (is_firm t ≡ false) × (negations other.here.above < negations x.here.above)) → How positive x t other tree
  seen : other.at + lines_of tree ≤ x.at → (positive ≡ true → is_firm tree ≡ true) → How positive x t other tree

-- A line of the literal's sign that has the same instance and the same atom under it.
pub record Carrier (b : Bool) (p : Program) (c : Certificate) (m : Premises b p c) (x : Line) (t : Tree) (l : Lit) (v : Sub) : Type 0 where
  pub line : Line
  pub at : IsAt b p c m line v
  pub due : Due
  pub tree : Tree
  pub node : line.part ≡ of_node due tree
  pub atom : Atom
  pub literal : IsNodeOf tree l.positive atom
  pub same : atom_under v atom ≡ atom_under v l.atom
  pub how : How l.positive x t line tree
