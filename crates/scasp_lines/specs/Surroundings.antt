-- What surrounds a line: the literals above it and the cases around it are lines, at which no more had opened; and what is replaced has the same value.
use Rattle.std.specs.Prelude.{◌≡◌, ℕ, Bool, true, false, IsTrue, List, [], ◌∷◌, ◌++◌, ⊤}
use Rattle.std.specs.List.{list_all, Contains}
use Rattle.scasp_syntax.specs.Tm.{Tm}
use Rattle.scasp_syntax.specs.Values.{Sub, under}
use Rattle.scasp_syntax.specs.declared.atom.Atom.{Atom}
use Rattle.scasp_cert.specs.Trees.{Tree, pos_tree, neg_tree, loop_tree, seen_tree, test_tree}
use Rattle.scasp_lines.specs.Bodies.{Body}
use Rattle.scasp_lines.specs.Opened.{Opened, AllMet}
use Rattle.scasp_lines.specs.Places.{Above, Around, Place}
use Rattle.scasp_lines.specs.Walk.{Part, of_node, of_rule, of_check, of_case, Line}

-- os is ps with more in front
pub record Extends (os ps : List Opened) : Type 0 where
  pub more : List Opened
  pub is : os ≡ more ++ ps

-- what each variable is replaced by has the variable's value wherever what opened is met
abbrev pub IsReplaced : Place → Type 0
IsReplaced here = (d : List Tm) (v : Sub) → AllMet d v here.opened → (x : ℕ) → v x ≡ under v (here.replaced x)

-- a line of a positive or a negated literal with this atom
abbrev pub IsNodeOf : Tree → Bool → Atom → Type 0
IsNodeOf (pos_tree a k ts children) positive b = (positive ≡ true) × (a ≡ b)
IsNodeOf (neg_tree a covers) positive b = (positive ≡ false) × (a ≡ b)
IsNodeOf (loop_tree lit to) positive b = ⊥
IsNodeOf (seen_tree lit to) positive b = ⊥
IsNodeOf (test_tree con hint) positive b = ⊥

abbrev pub IsLiteral : Part → Bool → Atom → Type 0
IsLiteral (of_node due t) positive b = IsNodeOf t positive b
IsLiteral (of_rule k a c) positive b = ⊥
IsLiteral (of_check k c) positive b = ⊥
IsLiteral (of_case body c) positive b = ⊥

abbrev pub IsCase : Part → Type 0
IsCase (of_node due t) = ⊥
IsCase (of_rule k a b) = ⊥
IsCase (of_check k b) = ⊥
IsCase (of_case body b) = ⊤

-- A literal above, with those above it, is one of the lines; less had opened there.
pub record IsAbove (ls : List Line) (os : List Opened) (e : Above) (es : List Above) : Type 0 where
  pub line : Line
  pub listed : Contains ls line
  pub number : line.at ≡ e.at
  pub literal : IsLiteral line.part e.positive e.atom
  pub above : line.here.above ≡ es
  pub opened : Extends os line.here.opened

abbrev pub AreAbove : List Line → List Opened → List Above → Type 0
AreAbove ls os [] = ⊤
AreAbove ls os (e ∷ es) = IsAbove ls os e es × AreAbove ls os es

-- A case around is one of the lines; less had opened there.
pub record IsAround (ls : List Line) (os : List Opened) (e : Around) : Type 0 where
  pub line : Line
  pub listed : Contains ls line
  pub number : line.at ≡ e.at
  pub case : IsCase line.part
  pub opened : Extends os line.here.opened

abbrev pub AreAround : List Line → List Opened → List Around → Type 0
AreAround ls os [] = ⊤
AreAround ls os (e ∷ es) = IsAround ls os e × AreAround ls os es

-- What opened did so at the case of this number.
pub record OpenedAt (ls : List Line) (os : List Opened) (at : ℕ) : Type 0 where
  pub line : Line
  pub listed : Contains ls line
  pub number : line.at ≡ at
  pub case : IsCase line.part
  pub same : line.here.opened ≡ os

-- the first where the case is plain, else the second
abbrev pub IfPlain : Bool → Type 0 → Type 0 → Type 0
IfPlain true A B = A
IfPlain false A B = B

-- all that opened did so at the innermost case that is not plain, and nothing did where all are plain
abbrev pub OpensInnermost : List Line → List Opened → List Around → Type 0
OpensInnermost ls os [] = os ≡ []
OpensInnermost ls os (e ∷ es) = IfPlain e.plain (OpensInnermost ls os es) (OpenedAt ls os e.at)

-- what surrounds what holds at a line
pub record Surrounded (ls : List Line) (here : Place) : Type 0 where
  pub replaced : IsReplaced here
  pub above : AreAbove ls here.opened here.above
  pub around : AreAround ls here.opened here.around

-- at a node or a check, and at the cases of a body that is bare, what opened is that of the innermost case
pub record NodeSurrounded (ls : List Line) (here : Place) : Type 0 where
  pub surrounded : Surrounded ls here
  pub innermost : OpensInnermost ls here.opened here.around

pub record CaseSurrounded (ls : List Line) (body : Body) (here : Place) : Type 0 where
  pub surrounded : Surrounded ls here
  pub innermost : body.bare ≡ true → OpensInnermost ls here.opened here.around

abbrev pub PartSurrounded : List Line → Place → Part → Type 0
PartSurrounded ls here (of_node due t) = NodeSurrounded ls here
PartSurrounded ls here (of_rule k a b) = NodeSurrounded ls here
PartSurrounded ls here (of_check k b) = NodeSurrounded ls here
PartSurrounded ls here (of_case body b) = CaseSurrounded ls body here
