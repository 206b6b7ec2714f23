-- The sessions that are open.
use Rattle.std.specs.Prelude.{ℕ, ◌==◌, if◌then◌else◌, Bool, List, [], ◌∷◌, Option, None, Some, option_map}
use Rattle.scasp_search.specs.Rests.{rest_of}
use Rattle.scasp_search.specs.declared.search.Search.{Search}
use Rattle.scasp_sessions.specs.declared.session.Session.{Session}

-- the sessions that are open, in the order of opening, and the number of the next one
pub record Table : Type 0 where
  pub opened : List Session
  pub next : ℕ

abbrev pub no_sessions : Table
no_sessions = record { opened = []; next = 1 }

abbrev pub has_number : ℕ → Session → Bool
has_number id s = s.number == id

-- the search of the session with the number, if one is open
abbrev pub search_of : ℕ → List Session → Option Search
search_of id [] = None
search_of id (s ∷ ss) = if has_number id s then Some s.search else search_of id ss

-- how many calls the session with the number has spent, if one is open
abbrev pub calls_in : ℕ → Table → Option ℕ
calls_in id t = option_map (λ s. (rest_of s).calls) (search_of id t.opened)

-- the sessions, with another search for the one with the number
abbrev pub with_search : ℕ → Search → List Session → List Session
with_search id search [] = []
with_search id search (s ∷ ss) = if has_number id s then record s { search = search } ∷ ss else s ∷ with_search id search ss

-- the sessions but the one with the number
abbrev pub without : ℕ → List Session → List Session
without id [] = []
without id (s ∷ ss) = if has_number id s then ss else s ∷ without id ss
