-- What holds of sessions, as types.
use Rattle.std.specs.Prelude.{◌≡◌, ℕ, ◌≤◌, List, ◌∷◌, ◌++◌, None, Ok, length, map}
use Rattle.std.specs.List.{range_with_len}
use Rattle.scasp_cert.specs.declared.certificate.Cert.{Cert}
use Rattle.scasp_search.specs.Rests.{AdvancesAll, rest_of, stopped}
use Rattle.scasp_search.specs.declared.search.Search.{Search}
use Rattle.scasp_search_walk.specs.declared.events.Advance.{Advance}
use Rattle.scasp_sessions.specs.Alone.{ComesAlone, Exchange, IsAdvancedBy, RepliesAll, comes_of, opening, slices_of}
use Rattle.scasp_sessions.specs.Numbers.{asked_in, due_to_all, no_numbers, numbers_in, said_in}
use Rattle.scasp_sessions.specs.Tables.{Table, no_sessions}
use Rattle.scasp_syntax.specs.declared.program.Program.{Program}

-- Among any calls: what comes of the slices that are asked of one session is what may come of a search by itself for the same query, of the
-- same slices.
abbrev pub StandAlone : Type 0
StandAlone =
    (before after : List Exchange) (program : Program) (query budget fresh number : ℕ) (end : Table)
    → RepliesAll no_sessions (before ++ opening program query budget fresh (Ok number) ∷ after) end
    → ComesAlone program query budget fresh (slices_of number after) (comes_of number after)

-- What comes of slices, one after the other, are the events of the run, in order, and pauses.
abbrev pub GiveEvents : Type 0
GiveEvents =
    (first last : Search) (slices : List ℕ) (comes : List (Advance Cert)) → stopped first ≡ None → IsAdvancedBy first slices comes last
    → AdvancesAll (rest_of first) slices comes (rest_of last)

-- The numbers, and the refusals of calls, follow from the calls, and from which of them want of memory refuses.
abbrev pub FollowFromCalls : Type 0
FollowFromCalls = (exchanges : List Exchange) (end : Table) → RepliesAll no_sessions exchanges end → map said_in exchanges ≡ due_to_all no_numbers (map asked_in exchanges)

-- no more sessions are ever open
abbrev pub AreFew : Type 0
AreFew = (exchanges : List Exchange) (end : Table) → RepliesAll no_sessions exchanges end → length end.opened ≤ 64

-- the numbers are 1, 2, 3 and so on, so none is given twice
abbrev pub Count : Type 0
Count = (exchanges : List Exchange) (end : Table) → RepliesAll no_sessions exchanges end → numbers_in exchanges ≡ range_with_len 1 (length (numbers_in exchanges))
