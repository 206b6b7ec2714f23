-- What one call does.
use Rattle.std.specs.Prelude.{◌≡◌, ℕ, ◌+◌, ◌<◌, ◌≤◌, [], ◌∷◌, ◌++◌, length, None, Some, IsSome, IsSomeAnd, Result, Ok, Err}
use Rattle.scasp_cert.specs.declared.certificate.Cert.{Cert}
use Rattle.scasp_search.specs.Rests.{Advances, rest_of, stopped}
use Rattle.scasp_search.specs.declared.search.Search.{Search}
use Rattle.scasp_search_constraints.specs.declared.assuming.step.SearchErr.TheVariants as errors
use Rattle.scasp_search_walk.specs.Slices.{stop_of}
use Rattle.scasp_search_walk.specs.declared.events.Advance.{Advance}
use Rattle.scasp_search_walk.specs.declared.events.Advance.TheVariants as advance
use Rattle.scasp_sessions.specs.Tables.{Table, search_of, with_search, without}
use Rattle.scasp_sessions.specs.declared.errors.NoSession.{NoSession}
use Rattle.scasp_sessions.specs.declared.errors.OpenErr.{OpenErr}
use Rattle.scasp_sessions.specs.declared.errors.OpenErr.TheVariants as refusal
use Rattle.scasp_syntax.specs.Programs.{numbered}
use Rattle.scasp_syntax.specs.declared.program.Program.{Program}
use Rattle.scasp_written.specs.Written.Rests.{IsSameRun, Opens}

-- ---- a search by itself

-- what `Search::open` gives: the whole run of the query is still to come
pub record IsOpened (program : Program) (query budget fresh : ℕ) (search : Search) : Type 0 where
  pub run : IsSomeAnd (numbered program.queries query) (λ q. Opens program query budget fresh q (rest_of search))
  pub goes : stopped search ≡ None

-- what `Search::advance` does: this comes of a slice of so many calls
pub record IsAdvanced (old : Search) (calls : ℕ) (comes : Advance Cert) (new : Search) : Type 0 where
  pub event : stopped old ≡ None → Advances (rest_of old) calls comes (rest_of new)
  pub same : IsSameRun (rest_of old) (rest_of new)
  pub stops : stopped new ≡ stop_of comes
  pub overflow : stopped old ≡ Some errors.Overflow → comes ≡ advance.Overflow
  pub memory : stopped old ≡ Some errors.Memory → comes ≡ advance.Memory
  pub stays : IsSome (stopped old) → new ≡ old

-- ---- a search among others

abbrev pub HasQuery : Program → ℕ → Type 0
HasQuery program query = IsSome (numbered program.queries query)

-- `open`: a session with the next number stands behind the others. No such query goes before too many sessions, and both before want of memory.
abbrev pub Opening : Table → Program → ℕ → ℕ → ℕ → Result ℕ OpenErr → Table → Type 0
Opening old program query budget fresh (Ok number) new =
    (length old.opened < 64) × (number ≡ old.next)
    × ((search : Search) × IsOpened program query budget fresh search
    × (new ≡ record { opened = old.opened ++ record { number = number; search = search } ∷ []; next = number + 1 }))
Opening old program query budget fresh (Err refusal.NoQuery) new = (numbered program.queries query ≡ None) × (new ≡ old)
Opening old program query budget fresh (Err refusal.Full) new = HasQuery program query × (64 ≤ length old.opened) × (new ≡ old)
Opening old program query budget fresh (Err refusal.Memory) new = HasQuery program query × (length old.opened < 64) × (new ≡ old)

-- `next`: the search of the session with the number goes on, and nothing else changes
abbrev pub Advancing : Table → ℕ → ℕ → Result (Advance Cert) NoSession → Table → Type 0
Advancing old id calls (Ok comes) new =
    (before : Search) × (after : Search) × (search_of id old.opened ≡ Some before) × IsAdvanced before calls comes after
    × (new ≡ record old { opened = with_search id after old.opened })
Advancing old id calls (Err refused) new = (search_of id old.opened ≡ None) × (new ≡ old)

-- `close`: the session with the number is taken out
abbrev pub Closing : Table → ℕ → Result Unit NoSession → Table → Type 0
Closing old id (Ok done) new = IsSome (search_of id old.opened) × (new ≡ record old { opened = without id old.opened })
Closing old id (Err refused) new = (search_of id old.opened ≡ None) × (new ≡ old)
