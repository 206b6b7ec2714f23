-- Each reply keeps that the open sessions are searches for queries of the program.
use Rattle.std.proofs.Common.{◌≡◌, ◌∙◌, ℕ, Bool, true, false, List, [], ◌∷◌, Some, refl, subst}
use Rattle.std.specs.Prelude.{if◌then◌else◌, length}
use Rattle.scasp_list.specs.Each.{Each}
use Rattle.scasp_list.proofs.EachLemmas.{Each-append}
use Rattle.scasp_law_sessions.specs.Searches.{AreSearchesOf, IsOfQuery, IsSearchOf, Stands, replied, starts}
use Rattle.scasp_search.specs.Rests.{rest_of}
use Rattle.scasp_search.specs.declared.search.Search.{Search}
use Rattle.scasp_serve_replies.specs.Comings.{GoesOn, SessionGoesOn, comes, passes}
use Rattle.scasp_serve_replies.specs.Replies.{Replies, Reply, Standing, answers, closes, closes_none, goes_without, has_overflowed, is_not_open, opens, opens_no_query, opens_none}
use Rattle.scasp_serve_replies.specs.declared.coming.Coming.{Coming}
use Rattle.scasp_serve_words.specs.declared.command.Command.{Command}
use Rattle.scasp_sessions.specs.Tables.{Table, has_number, search_of, with_search, without}
use Rattle.scasp_sessions.specs.declared.session.Session.{Session}
use Rattle.scasp_syntax.specs.declared.program.Program.{Program}
use Rattle.scasp_written.specs.Written.Rests.{IsSameRun, Rest}

-- ---- runs that are the same

same-self : (r : Rest) → IsSameRun r r
same-self r = record { problem = refl; queried = refl; budget = refl }

same-then : (r s t : Rest) → IsSameRun r s → IsSameRun s t → IsSameRun r t
same-then r s t g h = record { problem = h.problem ∙ g.problem; queried = h.queried ∙ g.queried; budget = h.budget ∙ g.budget }

pub goes-same : (p : Program) (old : Search) (calls : ℕ) (coming : Coming) (new : Search) → GoesOn p old calls coming new → IsSameRun (rest_of old) (rest_of new)
goes-same p o c k n (comes old new calls given coming advanced is) = advanced.same
goes-same p o c k n (passes old between new calls tree coming advanced passed rest) =
    same-then (rest_of old) (rest_of between) (rest_of new) advanced.same (goes-same p between _ coming new rest)

-- ---- one search of the table

abbrev IsOf : Program → ℕ → Session → Type 0
IsOf p fresh s = IsSearchOf p fresh s.search

found : (p : Program) (fresh id : ℕ) (ss : List Session) (x : Search) → Each (IsOf p fresh) ss → search_of id ss ≡ Some x → IsSearchOf p fresh x
found p fresh id [] x e h = absurd (cc h)
found p fresh id (s ∷ ss) x e h = by (has_number id s) h (found p fresh id ss x e.1)
  where
    by : (b : Bool) → (if b then Some s.search else search_of id ss) ≡ Some x → (search_of id ss ≡ Some x → IsSearchOf p fresh x) → IsSearchOf p fresh x
    by true h next = let same : s.search ≡ x = cc h in subst (λ (y : Search). IsSearchOf p fresh y) same e.0
    by false h next = next h

changed : (p : Program) (fresh id : ℕ) (x : Search) (ss : List Session) → IsSearchOf p fresh x → Each (IsOf p fresh) ss → Each (IsOf p fresh) (with_search id x ss)
changed p fresh id x [] g e = tt
changed p fresh id x (s ∷ ss) g e = by (has_number id s) (changed p fresh id x ss g e.1)
  where
    by : (b : Bool) → Each (IsOf p fresh) (with_search id x ss) → Each (IsOf p fresh) (if b then record s { search = x } ∷ ss else s ∷ with_search id x ss)
    by true f = (g, e.1)
    by false f = (e.0, f)

fewer : (p : Program) (fresh id : ℕ) (ss : List Session) → Each (IsOf p fresh) ss → Each (IsOf p fresh) (without id ss)
fewer p fresh id [] e = tt
fewer p fresh id (s ∷ ss) e = by (has_number id s) (fewer p fresh id ss e.1)
  where
    by : (b : Bool) → Each (IsOf p fresh) (without id ss) → Each (IsOf p fresh) (if b then ss else s ∷ without id ss)
    by true f = e.1
    by false f = (e.0, f)

-- ---- replies

pub of-query : (p : Program) (fresh : ℕ) (old : Table) (id calls : ℕ) (coming : Coming) (new : Table) → AreSearchesOf p fresh old
    → (g : SessionGoesOn p old id calls coming new) → IsOfQuery p fresh g.before g.after
of-query p fresh old id calls coming new e g = record {
  of_query = found p fresh id old.opened g.before e g.there;
  same = goes-same p g.before calls coming g.after g.goes;
}

goes-on : (p : Program) (fresh : ℕ) (old : Table) (id calls : ℕ) (coming : Coming) (new : Table) → AreSearchesOf p fresh old
    → SessionGoesOn p old id calls coming new → AreSearchesOf p fresh new
goes-on p fresh old id calls coming new e g =
    let of = of-query p fresh old id calls coming new e g in
    let now : IsSearchOf p fresh g.after = record {
      query = of.of_query.query;
      budget = of.of_query.budget;
      first = of.of_query.first;
      opened = of.of_query.opened;
      same = same-then (rest_of of.of_query.first) (rest_of g.before) (rest_of g.after) of.of_query.same of.same;
    } in
    rw g.rest (changed p fresh id g.after old.opened now e)

kept : (p : Program) (names : List (List ℕ)) (old : Standing) (command : Command) (reply : Reply) (new : Standing) → Replies p names old command reply new
    → AreSearchesOf p (length names) old.table → AreSearchesOf p (length names) new.table
kept p names old command reply new (opens query budget id t o) e =
    let session : Session = record { number = id; search = o.2.0 } in
    let first : IsSearchOf p (length names) o.2.0 = record { query = query; budget = budget; first = o.2.0; opened = o.2.1; same = same-self (rest_of o.2.0) } in
    rw o.2.2 (Each-append (IsOf p (length names)) old.table.opened (session ∷ []) e (first, tt))
kept p names old command reply new (opens_no_query query budget t o) e = rw o.1 e
kept p names old command reply new (opens_none query budget t o) e = rw o.2 e
kept p names old command reply new (is_not_open id calls none) e = e
kept p names old command reply new (has_overflowed id calls search there overflowed) e = e
kept p names old command reply new (answers id calls t cert table told goes named) e = goes-on p (length names) old.table id calls _ t e goes
kept p names old command reply new (goes_without id calls t none told goes) e = goes-on p (length names) old.table id calls _ t e goes
kept p names old command reply new (closes id t c) e = rw c.1 (fewer p (length names) id old.table.opened e)
kept p names old command reply new (closes_none id none) e = e

pub are-searches : (p : Program) (names : List (List ℕ)) (s : Standing) → Stands p names s → AreSearchesOf p (length names) s.table
are-searches p names s starts = tt
are-searches p names s (replied old new command reply before r) = kept p names old command reply new r (are-searches p names old before)
