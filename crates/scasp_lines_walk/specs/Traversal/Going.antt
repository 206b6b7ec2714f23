-- How what opened on the way to one line goes on from what opened on the way to the line before.
use Rattle.std.specs.Prelude.{◌≡◌, ℕ, ◌≤◌, ⊤, List, [], ◌∷◌, length, take}
use Rattle.scasp_syntax.specs.declared.con.Con.{Con}
use Rattle.scasp_lines.specs.Contexts.{context}
use Rattle.scasp_lines.specs.Walk.{Part, of_case, of_check, of_node, of_rule}
use Rattle.scasp_lines_places.specs.Places.View.{all_opened}
use Rattle.scasp_lines_walk.specs.Traversal.Pending.{Pending, checks, nodes, one_case, rules}
use Rattle.scasp_lines_walk.specs.Traversal.View.{stack_of}
use Rattle.scasp_lines_walk.specs.declared.traversal.cursor.Lines.{Lines}
use Rattle.scasp_lines_walk.specs.declared.traversal.parts.Line.{Line}

-- the constraints that opened at the place of such parts
abbrev pub opened_at : Pending → List Con
opened_at (nodes here dues ts) = context [] here.opened
opened_at (rules here a bs) = context [] here.opened
opened_at (one_case here body b) = context [] here.opened
opened_at (checks here cs) = context [] here.opened

-- more than these opened only at a case
abbrev pub OnlyCasesOpen : ℕ → Pending → Type 0
OnlyCasesOpen kept (nodes here dues ts) = kept ≡ length (context [] here.opened)
OnlyCasesOpen kept (rules here a bs) = kept ≡ length (context [] here.opened)
OnlyCasesOpen kept (one_case here body b) = ⊤
OnlyCasesOpen kept (checks here cs) = kept ≡ length (context [] here.opened)

-- how many constraints opened on the way to a line below one at which `kept` did
abbrev pub size_at : ℕ → Part → List Con → ℕ
size_at kept (of_node due t) here = kept
size_at kept (of_rule k a b) here = kept
size_at kept (of_check k b) here = kept
size_at kept (of_case body b) here = length here

-- Both lists begin with the same so many constraints.
pub record Agree (kept : ℕ) (now here : List Con) : Type 0 where
  pub within : kept ≤ length now
  pub long : kept ≤ length here
  pub same : take kept now ≡ take kept here

-- Where these constraints opened, each of what waits goes on from the first of them, and what waits further down from fewer.
abbrev pub Nested : List Con → List (ℕ × Pending) → Type 0
Nested now [] = ⊤
Nested now (w ∷ ws) = Agree w.0 now (opened_at w.1) × OnlyCasesOpen w.0 w.1 × Nested (take w.0 now) ws

-- These constraints opened on the way to the line that came last.
pub record IsReady (now : List Con) (left : Lines) : Type 0 where
  pub nested : Nested now (stack_of left.waiting.items)

-- Behind a line on the way to which some constraints opened comes one that keeps the first of them, and lines are left that go on from it.
pub record GoesOn (now : List Con) (l : Line) (left : Lines) : Type 0 where
  pub agree : Agree l.kept now (context [] (all_opened l.here.opened))
  pub size : l.size ≡ length (context [] (all_opened l.here.opened))
  pub ready : IsReady (context [] (all_opened l.here.opened)) left
