-- The states that the parts of a trail stand for: the present one, and one for each mark.
use Rattle.std.specs.Prelude.{ℕ, List, [], ◌∷◌, reverse}
use Rattle.scasp_search_rules.specs.declared.states.covers.Cover.{Cover}
use Rattle.scasp_search_rules.specs.declared.states.lines.Line.{Line}
use Rattle.scasp_search_rules.specs.declared.states.state.Literal.{Literal}
use Rattle.scasp_search_rules.specs.declared.states.state.Made.{Made}
use Rattle.scasp_search_rules.specs.declared.states.state.State.{State}
use Rattle.scasp_search_rules.specs.declared.states.tasks.Task.{Task}
use Rattle.scasp_search_state.specs.Choices.{Point}
use Rattle.scasp_search_trail.specs.declared.parts.Parts.{Parts}
use Rattle.scasp_search_trail.specs.declared.trail.Saved.{Saved}
use Rattle.scasp_search_trail.specs.declared.trail.Trail.{Trail}
use Rattle.scasp_syntax.specs.declared.con.Con.{Con}
use Rattle.scasp_trail.specs.Past.{earlier, latest}
use Rattle.scasp_unify.specs.declared.bindings.Binding.{Binding}

-- ---- lists of the parts

-- Each list as its part keeps it: the covers without their lines, the outermost first; the lines in pieces, those before the case of each
-- cover and last those of the innermost case.
pub record Lists : Type 0 where
  pub made : List Made
  pub bound : List Binding
  pub given : List Con
  pub covers : List Cover
  pub literals : List Literal
  pub pieces : List (List Line)
  pub work : List Task

-- the first of the pieces, if there is one
abbrev pub first : List (List Line) → List Line
first ps = latest [] ps

-- the pieces without the first
abbrev pub others : List (List Line) → List (List Line)
others ps = earlier ps

-- the covers with the lines before their cases; both have the innermost first
abbrev pub lined : List Cover → List (List Line) → List Cover
lined [] ps = []
lined (c ∷ cs) ps = record c { before = first ps } ∷ lined cs (others ps)

-- the state of these lists in which so many cases have begun
abbrev pub stands_for : ℕ → Lists → State
stands_for cases l = record {
  made = l.made;
  bound = l.bound;
  given = l.given;
  covers = lined (reverse l.covers) (others (reverse l.pieces));
  cases = cases;
  literals = l.literals;
  lines = first (reverse l.pieces);
  work = l.work;
}

-- ---- the present state

abbrev pub lists_of : Parts → Lists
lists_of p = record {
  made = p.variables.now;
  bound = p.store.bound.now;
  given = p.store.given.now;
  covers = p.scopes.now;
  literals = p.loops.now;
  pieces = p.told.now;
  work = p.frames.now;
}

abbrev pub state_of : Parts → State
state_of p = stands_for p.cases (lists_of p)

-- ---- the states that wait

-- each list at each mark, the latest first
pub record Marks : Type 0 where
  pub made : List (List Made)
  pub bound : List (List Binding)
  pub given : List (List Con)
  pub covers : List (List Cover)
  pub literals : List (List Literal)
  pub pieces : List (List (List Line))
  pub work : List (List Task)

abbrev pub marks_of : Parts → Marks
marks_of p = record {
  made = p.variables.before;
  bound = p.store.bound.before;
  given = p.store.given.before;
  covers = p.scopes.before;
  literals = p.loops.before;
  pieces = p.told.before;
  work = p.frames.before;
}

-- the lists at the latest mark; empty ones where there is none
abbrev pub last_marked : Marks → Lists
last_marked m = record {
  made = latest [] m.made;
  bound = latest [] m.bound;
  given = latest [] m.given;
  covers = latest [] m.covers;
  literals = latest [] m.literals;
  pieces = latest [] m.pieces;
  work = latest [] m.work;
}

-- the marks without the latest
abbrev pub marked_before : Marks → Marks
marked_before m = record {
  made = earlier m.made;
  bound = earlier m.bound;
  given = earlier m.given;
  covers = earlier m.covers;
  literals = earlier m.literals;
  pieces = earlier m.pieces;
  work = earlier m.work;
}

-- the points of these choices, the latest first
abbrev pub points_from : List Saved → Marks → List Point
points_from [] m = []
points_from (q ∷ qs) m = record { choice = q.choice; state = stands_for q.cases (last_marked m) } ∷ points_from qs (marked_before m)

-- ---- the trail

abbrev pub now_of : Trail → State
now_of t = state_of t.parts

-- the latest choice is the last that is kept
abbrev pub points_of : Trail → List Point
points_of t = points_from (reverse t.saved.items) (marks_of t.parts)
