-- The replies to commands.
use Rattle.std.specs.Prelude.{◌≡◌, ⊤, ℕ, ◌+◌, true, false, List, [], ◌∷◌, ◌++◌, length, None, Some, Ok, Err}
use Rattle.scasp_cert.specs.Certificate.{Certificate, certificate_of}
use Rattle.scasp_cert.specs.declared.certificate.Cert.{Cert}
use Rattle.scasp_print_samples.specs.Samples.{NamesSample}
use Rattle.scasp_search.specs.declared.search.Search.{Search}
use Rattle.scasp_serve_replies.specs.Comings.{SessionGoesOn}
use Rattle.scasp_serve_replies.specs.Tallies.{behind, tally_of, with_tally}
use Rattle.scasp_serve_replies.specs.declared.coming.Coming.TheVariants as coming
use Rattle.scasp_serve_replies.specs.declared.coming.NoAnswer.{NoAnswer}
use Rattle.scasp_serve_replies.specs.declared.coming.NoAnswer.TheVariants.{Overflow}
use Rattle.scasp_serve_replies.specs.declared.tallies.Tally.{Tally}
use Rattle.scasp_serve_replies.specs.declared.tallies.TheConstants.{NOTHING}
use Rattle.scasp_serve_words.specs.declared.command.Command.{Command}
use Rattle.scasp_serve_words.specs.declared.command.Command.TheVariants.{Open, Next, Close}
use Rattle.scasp_sessions.specs.Calls.{Closing, Opening}
use Rattle.scasp_sessions.specs.Tables.{Table, no_sessions, search_of}
use Rattle.scasp_sessions.specs.declared.errors.OpenErr.TheVariants as refusal
use Rattle.scasp_syntax.specs.declared.program.Program.{Program}

-- a reply; an answer of a session has its number among the answers of that session, and the table by which its names are written
pub data Reply : Type 0 where
  opened : ℕ → Reply
  no_query : ℕ → Reply
  full : Reply
  answer : ℕ → ℕ → List (List ℕ) → Certificate → Reply
  without : ℕ → NoAnswer → Reply
  no_session : ℕ → Reply
  closed : ℕ → Reply

-- what stands between two commands: the open sessions, and what was told of each session that was opened
pub record Standing : Type 0 where
  pub table : Table
  pub tallies : List Tally

abbrev pub at_start : Standing
at_start = record { table = no_sessions; tallies = [] }

-- Of a program with this table of names, this is the reply to a command, and this stands behind it. Behind an overflow a session comes to nothing
-- else.
pub data Replies (p : Program) (names : List (List ℕ)) (old : Standing) : Command → Reply → Standing → Type 0 where
  opens : (query budget id : ℕ) (t : Table) → Opening old.table p query budget (length names) (Ok id) t
      → Replies p names old (Open query budget) (opened id) (record { table = t; tallies = old.tallies ++ NOTHING ∷ [] })
  opens_no_query : (query budget : ℕ) (t : Table) → Opening old.table p query budget (length names) (Err refusal.NoQuery) t
      → Replies p names old (Open query budget) (no_query query) (record old { table = t })
  opens_none : (query budget : ℕ) (t : Table) → Opening old.table p query budget (length names) (Err refusal.Full) t
      → Replies p names old (Open query budget) full (record old { table = t })
  is_not_open : (id calls : ℕ) → search_of id old.table.opened ≡ None → Replies p names old (Next id calls) (no_session id) old
  has_overflowed : (id calls : ℕ) (search : Search) → search_of id old.table.opened ≡ Some search → (tally_of id old.tallies).overflowed ≡ true
      → Replies p names old (Next id calls) (without id Overflow) old
  answers : (id calls : ℕ) (t : Table) (cert : Cert) (table : List (List ℕ)) → (tally_of id old.tallies).overflowed ≡ false
      → SessionGoesOn p old.table id calls (coming.Answer cert) t → NamesSample names table (certificate_of cert)
      → Replies p names old (Next id calls) (answer id ((tally_of id old.tallies).answers + 1) table (certificate_of cert))
      (record { table = t; tallies = with_tally id (record (tally_of id old.tallies) { answers = (tally_of id old.tallies).answers + 1 }) old.tallies })
  goes_without : (id calls : ℕ) (t : Table) (none : NoAnswer) → (tally_of id old.tallies).overflowed ≡ false
      → SessionGoesOn p old.table id calls (coming.Without none) t
      → Replies p names old (Next id calls) (without id none) (record { table = t; tallies = with_tally id (behind none (tally_of id old.tallies)) old.tallies })
  closes : (id : ℕ) (t : Table) → Closing old.table id (Ok tt) t → Replies p names old (Close id) (closed id) (record old { table = t })
  closes_none : (id : ℕ) → search_of id old.table.opened ≡ None → Replies p names old (Close id) (no_session id) old

-- The replies to the first commands, in order, from where this stands; all have one where they are as many.
abbrev pub RepliesAll : Program → List (List ℕ) → Standing → List Command → List Reply → Type 0
RepliesAll p names s commands [] = ⊤
RepliesAll p names s [] (r ∷ rs) = ⊥
RepliesAll p names s (c ∷ cs) (r ∷ rs) = (t : Standing) × Replies p names s c r t × RepliesAll p names t cs rs
