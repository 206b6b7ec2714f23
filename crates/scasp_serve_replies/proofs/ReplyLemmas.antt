-- The reply to each command.
use Rattle.std.proofs.Common.{◌≡◌, ◌∙◌, ℕ, ◌+◌, true, false, List, [], ◌∷◌, ◌++◌, length, Option, None, Some, Result, Ok, Err, IfOk, refl, ap, sym, subst, arith, length-append, codes}
use Rattle.scasp_cert.specs.Certificate.{Certificate, certificate_of}
use Rattle.scasp_cert.specs.declared.certificate.Cert.{Cert}
use Rattle.scasp_print_samples.specs.Tables.{IsTable}
use Rattle.scasp_search.specs.Rests.{rest_of}
use Rattle.scasp_search.specs.declared.search.Search.{Search}
use Rattle.scasp_serve_replies.specs.Comings.{SessionGoesOn}
use Rattle.scasp_serve_replies.specs.Desks.{IsCounted, Tells, standing}
use Rattle.scasp_serve_replies.specs.Inside.{Answers}
use Rattle.scasp_serve_replies.specs.Replies.{Replies, Reply, Standing, answer, answers, closed, closes, closes_none, full, goes_without, has_overflowed, is_not_open, no_query, no_session, opened, opens, opens_no_query, opens_none, without}
use Rattle.scasp_serve_replies.specs.Tallies.{behind, tally_of, with_tally}
use Rattle.scasp_serve_replies.specs.Texts.{number_line, reply_text, session_line, word_of}
use Rattle.scasp_serve_replies.specs.declared.coming.Coming.TheVariants as coming
use Rattle.scasp_serve_replies.specs.declared.coming.NoAnswer.{NoAnswer}
use Rattle.scasp_serve_replies.specs.declared.coming.NoAnswer.TheVariants.{Overflow}
use Rattle.scasp_serve_replies.specs.declared.desk.Desk.{Desk}
use Rattle.scasp_serve_replies.specs.declared.tallies.Tally.{Tally}
use Rattle.scasp_serve_replies.specs.declared.tallies.TheConstants.{NOTHING}
use Rattle.scasp_serve_words.specs.declared.command.Command.{Command}
use Rattle.scasp_serve_words.specs.declared.command.Command.TheVariants.{Open, Next, Close}
use Rattle.scasp_sessions.specs.Calls.{Closing, Opening}
use Rattle.scasp_sessions.specs.Tables.{Table, calls_in, search_of}
use Rattle.scasp_sessions.specs.declared.errors.OpenErr.TheVariants as refusal
use Rattle.scasp_syntax.specs.declared.program.Program.{Program}

-- what follows of each value holds of the one that is there
pub ok-more : {A E : Type 0} {P Q : A → Type 0} (r : Result A E) → ((x : A) → P x → Q x) → IfOk r P → IfOk r Q
ok-more (Ok x) more h = more x h
ok-more (Err e) more h = tt

-- no calls are told of a number that no open session has
pub calls-none : (id : ℕ) (t : Table) → calls_in id t ≡ None → search_of id t.opened ≡ None
calls-none id t h = by (search_of id t.opened) refl
  where
    by : (o : Option Search) → search_of id t.opened ≡ o → search_of id t.opened ≡ None
    by None e = e
    by (Some s) e =
        let k : calls_in id t ≡ Some (rest_of s).calls = rw e refl in
        absurd (cc (k, h))

module _ (p : Program) (names : List (List ℕ)) (old new : Desk) (text : List ℕ) where
  told : (command : Command) (r : Reply) (table : Table) (tallies : List Tally) → new.sessions ≡ table → new.tallies.items ≡ tallies
      → Replies p names (standing old) command r (record { table = table; tallies = tallies }) → text ≡ reply_text r → Tells p names old command text new
  told command r table tallies sessions_are tallies_are replies is = record {
    told = r;
    replies =
        subst (λ (t : Table). Replies p names (standing old) command r (record { table = t; tallies = new.tallies.items })) (sym sessions_are)
        (subst (λ (ts : List Tally). Replies p names (standing old) command r (record { table = table; tallies = ts })) (sym tallies_are) replies);
    text_is = is;
  }

  -- ---- `open`

  pub tells-opened : (query budget id : ℕ) → IsTable names old.table → Opening old.sessions p query budget old.table.program (Ok id) new.sessions
      → new.tallies.items ≡ old.tallies.items ++ NOTHING ∷ [] → text ≡ number_line (codes "opened") id → Tells p names old (Open query budget) text new
  tells-opened query budget id table o tallies is =
      told (Open query budget) (opened id) new.sessions (old.tallies.items ++ NOTHING ∷ []) refl tallies
      (opens query budget id new.sessions (subst (λ n. Opening old.sessions p query budget n (Ok id) new.sessions) table.program_is o)) is

  pub tells-no-query : (query budget : ℕ) → IsTable names old.table → Opening old.sessions p query budget old.table.program (Err refusal.NoQuery) new.sessions
      → new.tallies.items ≡ old.tallies.items → text ≡ number_line (codes "no query") query → Tells p names old (Open query budget) text new
  tells-no-query query budget table o tallies is =
      told (Open query budget) (no_query query) new.sessions old.tallies.items refl tallies (opens_no_query query budget new.sessions o) is

  pub tells-full : (query budget : ℕ) → IsTable names old.table → Opening old.sessions p query budget old.table.program (Err refusal.Full) new.sessions
      → new.tallies.items ≡ old.tallies.items → text ≡ codes "full\n" → Tells p names old (Open query budget) text new
  tells-full query budget table o tallies is =
      told (Open query budget) full new.sessions old.tallies.items refl tallies (opens_none query budget new.sessions o) is

  -- ---- `next`

  pub tells-not-open : (id calls : ℕ) → search_of id old.sessions.opened ≡ None → new.sessions ≡ old.sessions → new.tallies.items ≡ old.tallies.items
      → text ≡ number_line (codes "no session") id → Tells p names old (Next id calls) text new
  tells-not-open id calls none sessions tallies is =
      told (Next id calls) (no_session id) old.sessions old.tallies.items sessions tallies (is_not_open id calls none) is

  pub tells-overflow : (id calls n : ℕ) → calls_in id old.sessions ≡ Some n → (tally_of id old.tallies.items).overflowed ≡ true → new.sessions ≡ old.sessions
      → new.tallies.items ≡ old.tallies.items → text ≡ session_line id (word_of Overflow) → Tells p names old (Next id calls) text new
  tells-overflow id calls n there over sessions tallies is = by (search_of id old.sessions.opened) refl
    where
      by : (o : Option Search) → search_of id old.sessions.opened ≡ o → Tells p names old (Next id calls) text new
      by None e =
          let k : calls_in id old.sessions ≡ None = rw e refl in
          absurd (cc (k, there))
      by (Some s) e = told (Next id calls) (without id Overflow) old.sessions old.tallies.items sessions tallies (has_overflowed id calls s e over) is

  pub tells-answer : (id calls : ℕ) (cert : Cert) (mid : Desk) → (tally_of id old.tallies.items).overflowed ≡ false → SessionGoesOn p old.sessions id calls (coming.Answer cert) mid.sessions
      → mid.tallies.items ≡ old.tallies.items → new.sessions ≡ mid.sessions → Answers names mid id (certificate_of cert) text new
      → Tells p names old (Next id calls) text new
  tells-answer id calls cert mid none goes tallies sessions a =
      let is : Tally = tally_of id old.tallies.items in
      told (Next id calls) (answer id (is.answers + 1) new.table.names (certificate_of cert)) mid.sessions
      (with_tally id (record is { answers = is.answers + 1 }) old.tallies.items) sessions
      (a.tallies ∙ ap (λ (ts : List Tally). with_tally id (record (tally_of id ts) { answers = (tally_of id ts).answers + 1 }) ts) tallies)
      (answers id calls mid.sessions cert new.table.names none goes a.table)
      (a.text_is ∙ ap (λ (ts : List Tally). reply_text (answer id ((tally_of id ts).answers + 1) new.table.names (certificate_of cert))) tallies)

  pub tells-without : (id calls : ℕ) (none : NoAnswer) (t : Table) → (tally_of id old.tallies.items).overflowed ≡ false → SessionGoesOn p old.sessions id calls (coming.Without none) t
      → new.sessions ≡ t → new.tallies.items ≡ with_tally id (behind none (tally_of id old.tallies.items)) old.tallies.items → text ≡ session_line id (word_of none)
      → Tells p names old (Next id calls) text new
  tells-without id calls none t over goes sessions tallies is =
      told (Next id calls) (without id none) t (with_tally id (behind none (tally_of id old.tallies.items)) old.tallies.items) sessions tallies
      (goes_without id calls t none over goes) is

  -- ---- `close`

  pub tells-closed : (id : ℕ) → Closing old.sessions id (Ok tt) new.sessions → new.tallies.items ≡ old.tallies.items → text ≡ number_line (codes "closed") id
      → Tells p names old (Close id) text new
  tells-closed id c tallies is = told (Close id) (closed id) new.sessions old.tallies.items refl tallies (closes id new.sessions c) is

  pub tells-not-closed : (id : ℕ) → search_of id old.sessions.opened ≡ None → new.sessions ≡ old.sessions → new.tallies.items ≡ old.tallies.items
      → text ≡ number_line (codes "no session") id → Tells p names old (Close id) text new
  tells-not-closed id none sessions tallies is = told (Close id) (no_session id) old.sessions old.tallies.items sessions tallies (closes_none id none) is

-- ---- as many sessions were opened as there are tallies

pub counted-open : (p : Program) (old new : Desk) (query budget fresh id : ℕ) → IsCounted old → Opening old.sessions p query budget fresh (Ok id) new.sessions
    → new.tallies.items ≡ old.tallies.items ++ NOTHING ∷ [] → IsCounted new
counted-open p old new query budget fresh id counted o tallies =
    let next : new.sessions.next ≡ id + 1 = ap (λ (t : Table). t.next) o.2.2 in
    let count : length new.tallies.items ≡ length old.tallies.items + 1 = ap length tallies ∙ length-append old.tallies.items (NOTHING ∷ []) in
    next ∙ ap (λ n. n + 1) (o.1 ∙ counted ∙ sym count)

pub counted-same : (old new : Desk) → IsCounted old → new.sessions.next ≡ old.sessions.next → length new.tallies.items ≡ length old.tallies.items → IsCounted new
counted-same old new counted next count = next ∙ counted ∙ ap (λ n. n + 1) (sym count)
