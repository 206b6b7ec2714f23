-- The present state and the states that wait, as they are kept.
use Rattle.std.specs.Prelude.{List, map, reverse}
use Rattle.scasp_search_copies.specs.declared.copied.Copied.{Copied}
use Rattle.scasp_search_copies.specs.declared.copied.Saved.{Saved}
use Rattle.scasp_search_rules.specs.declared.states.state.State.{State}
use Rattle.scasp_search_state.specs.Choices.{Point}

abbrev pub point_of : Saved → Point
point_of q = record { choice = q.choice; state = q.state }

abbrev pub now_of : Copied → State
now_of c = c.state

-- the latest is the last that is kept
abbrev pub points_of : Copied → List Point
points_of c = map point_of (reverse c.saved.items)
