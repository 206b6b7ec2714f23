-- Sessions as searches for the queries of the program that is served.
use Rattle.std.specs.Prelude.{ℕ, List, length}
use Rattle.scasp_list.specs.Each.{Each}
use Rattle.scasp_search.specs.Rests.{rest_of}
use Rattle.scasp_search.specs.declared.search.Search.{Search}
use Rattle.scasp_serve_replies.specs.Comings.{SessionGoesOn}
use Rattle.scasp_serve_replies.specs.Replies.{Replies, Reply, Standing, at_start}
use Rattle.scasp_serve_replies.specs.declared.coming.Coming.{Coming}
use Rattle.scasp_serve_words.specs.declared.command.Command.{Command}
use Rattle.scasp_sessions.specs.Calls.{IsOpened}
use Rattle.scasp_sessions.specs.Tables.{Table}
use Rattle.scasp_syntax.specs.declared.program.Program.{Program}
use Rattle.scasp_written.specs.Written.Rests.{IsSameRun}

-- a search for one of the program's queries, which was opened within a budget; `fresh` is the first name that samples may use
pub record IsSearchOf (p : Program) (fresh : ℕ) (s : Search) : Type 0 where
  pub query : ℕ
  pub budget : ℕ
  pub first : Search
  pub opened : IsOpened p query budget fresh first
  pub same : IsSameRun (rest_of first) (rest_of s)

abbrev pub AreSearchesOf : Program → ℕ → Table → Type 0
AreSearchesOf p fresh t = Each (λ s. IsSearchOf p fresh s.search) t.opened

-- this stands behind some commands and the replies to them
pub data Stands (p : Program) (names : List (List ℕ)) : Standing → Type 0 where
  starts : Stands p names at_start
  replied : (old new : Standing) (command : Command) (reply : Reply) → Stands p names old → Replies p names old command reply new → Stands p names new

abbrev pub SessionsAreSearches : Type 0
SessionsAreSearches = (p : Program) (names : List (List ℕ)) (s : Standing) → Stands p names s → AreSearchesOf p (length names) s.table

-- what comes of the slice comes of a search for a query of the program, and behind it stands the same search
pub record IsOfQuery (p : Program) (fresh : ℕ) (before after : Search) : Type 0 where
  pub of_query : IsSearchOf p fresh before
  pub same : IsSameRun (rest_of before) (rest_of after)

abbrev pub GoesOnInQuery : Type 0
GoesOnInQuery =
    (p : Program) (names : List (List ℕ)) (s : Standing) (id calls : ℕ) (coming : Coming) (t : Table) → Stands p names s
    → (goes : SessionGoesOn p s.table id calls coming t) → IsOfQuery p (length names) goes.before goes.after
