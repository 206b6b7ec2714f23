-- One session among any calls.
use Rattle.std.specs.Prelude.{◌≡◌, ℕ, ◌+◌, ◌<◌, ◌==◌, Bool, true, false, if◌then◌else◌, List, [], ◌∷◌, ◌++◌, None, Some, Ok, Err, refl}
use Rattle.std.proofs.Common.{arith, eqb-true, subst, sym, ◌∙◌}
use Rattle.scasp_cert.specs.declared.certificate.Cert.{Cert}
use Rattle.scasp_search.specs.declared.search.Search.{Search}
use Rattle.scasp_search_walk.specs.declared.events.Advance.{Advance}
use Rattle.scasp_sessions.proofs.TableLemmas.{AllBelow, below-append, below-more, below-with, below-without, not-same, search-append, search-new, search-with, search-with-other, search-without-other}
use Rattle.scasp_sessions.specs.Alone.{ComesAlone, Exchange, IsAdvancedBy, Replies, RepliesAll, advancing, closing, comes_of, opening, slices_of}
use Rattle.scasp_sessions.specs.Calls.{IsAdvanced}
use Rattle.scasp_sessions.specs.Tables.{Table, no_sessions, search_of, with_search}
use Rattle.scasp_sessions.specs.declared.errors.OpenErr.TheVariants as refusal
use Rattle.scasp_sessions.specs.declared.session.Session.{Session}
use Rattle.scasp_syntax.specs.declared.program.Program.{Program}

-- every number is below the next
abbrev pub IsNumbered : Table → Type 0
IsNumbered t = AllBelow t.next t.opened

numbered-open : (old new : Table) (session : Session) → session.number ≡ old.next → new ≡ record { opened = old.opened ++ session ∷ []; next = session.number + 1 } → IsNumbered old → IsNumbered new
numbered-open old new session is e h =
    let more : AllBelow (session.number + 1) old.opened = below-more old.next (session.number + 1) old.opened (omega (arith, is)) h in
    let last : session.number < session.number + 1 = omega arith in
    rw e (below-append (session.number + 1) old.opened session more last)

-- each call keeps that
pub numbered-reply : (e : Exchange) (old new : Table) → Replies old e new → IsNumbered old → IsNumbered new
numbered-reply (opening program query budget fresh (Ok number)) old new r h = numbered-open old new (record { number = number; search = r.2.0 }) r.1 r.2.2 h
numbered-reply (opening program query budget fresh (Err refusal.NoQuery)) old new r h = rw r.1 h
numbered-reply (opening program query budget fresh (Err refusal.Full)) old new r h = rw r.2 h
numbered-reply (opening program query budget fresh (Err refusal.Memory)) old new r h = rw r.2 h
numbered-reply (advancing id calls (Ok comes)) old new r h = rw r.4 (below-with old.next id r.1 old.opened h)
numbered-reply (advancing id calls (Err refused)) old new r h = rw r.1 h
numbered-reply (closing id (Ok done)) old new r h = rw r.1 (below-without old.next id old.opened h)
numbered-reply (closing id (Err refused)) old new r h = rw r.1 h

-- ---- behind the call that opens a session

-- what is still to come of a session whose search is this one
abbrev Comes : ℕ → List Exchange → Search → Type 0
Comes id es s = (last : Search) × IsAdvancedBy s (slices_of id es) (comes_of id es) last

abbrev Goes : ℕ → List Exchange → Table → Search → Type 0
Goes id es t s = IsNumbered t → id < t.next → search_of id t.opened ≡ Some s → Comes id es s

-- a call that changes neither the number's search nor frees the number
passes : (id : ℕ) (es : List Exchange) (e : Exchange) (old between : Table) (s : Search) → Replies old e between → IsNumbered old → id < between.next
    → search_of id between.opened ≡ Some s → Goes id es between s → Comes id es s
passes id es e old between s r h l is next = next (numbered-reply e old between r h) l is

two-searches : (id : ℕ) (t : Table) (s before : Search) → search_of id t.opened ≡ Some s → search_of id t.opened ≡ Some before → before ≡ s
two-searches id t s before h g = cc (h, g)

comes-slice : (id other calls : ℕ) (comes : Advance Cert) (es : List Exchange) (old between : Table) (s : Search) → Replies old (advancing other calls (Ok comes)) between → IsNumbered old → id < old.next
    → search_of id old.opened ≡ Some s → ((after : Search) → Goes id es between after) → Comes id (advancing other calls (Ok comes) ∷ es) s
comes-slice id other calls comes es old between s r h l is next = by (other == id) refl
  where
    stays : between ≡ record old { opened = with_search other r.1 old.opened }
    stays = r.4

    keeps : id < between.next
    keeps = rw stays l

    by : (b : Bool) → (other == id) ≡ b → (last : Search) × IsAdvancedBy s (if b then calls ∷ slices_of id es else slices_of id es) (if b then comes ∷ comes_of id es else comes_of id es) last
    by true e =
        let same : other ≡ id = eqb-true other id e in
        let mine : search_of id old.opened ≡ Some r.0 = subst (λ n. search_of n old.opened ≡ Some r.0) same r.2 in
        let first : r.0 ≡ s = two-searches id old s r.0 is mine in
        let now : search_of id (with_search id r.1 old.opened) ≡ Some r.1 = search-with id r.1 r.0 old.opened mine in
        let there : search_of id between.opened ≡ Some r.1 = rw stays (subst (λ n. search_of id (with_search n r.1 old.opened) ≡ Some r.1) (sym same) now) in
        let rest = next r.1 (numbered-reply (advancing other calls (Ok comes)) old between r h) keeps there in
        (rest.0, (r.1, subst (λ before. IsAdvanced before calls comes r.1) first r.3, rest.1))
    by false e =
        let there : search_of id between.opened ≡ Some s = rw stays (search-with-other other id r.1 old.opened (λ same. not-same other id e (sym same)) ∙ is) in
        next s (numbered-reply (advancing other calls (Ok comes)) old between r h) keeps there

comes-none : (id other calls : ℕ) (es : List Exchange) (old between : Table) (s : Search) → search_of other old.opened ≡ None → between ≡ old → IsNumbered old → id < old.next
    → search_of id old.opened ≡ Some s → Goes id es between s → (last : Search) × IsAdvancedBy s (slices_of id (advancing other calls (Err (record {})) ∷ es)) (comes_of id es) last
comes-none id other calls es old between s none stays h l is next = by (other == id) refl
  where
    by : (b : Bool) → (other == id) ≡ b → (last : Search) × IsAdvancedBy s (if b then calls ∷ slices_of id es else slices_of id es) (comes_of id es) last
    by true e =
        let same : other ≡ id = eqb-true other id e in
        let mine : search_of id old.opened ≡ None = subst (λ n. search_of n old.opened ≡ None) same none in
        absurd (cc (mine, is))
    by false e = next (rw stays h) (rw stays l) (rw stays is)

comes-close : (id other : ℕ) (es : List Exchange) (s : Search) → ((other == id) ≡ false → Comes id es s) → (last : Search) × IsAdvancedBy s (if other == id then [] else slices_of id es) (if other == id then [] else comes_of id es) last
comes-close id other es s next = by (other == id) refl
  where
    by : (b : Bool) → (other == id) ≡ b → (last : Search) × IsAdvancedBy s (if b then [] else slices_of id es) (if b then [] else comes_of id es) last
    by true e = (s, refl)
    by false e = next e

pub comes-alone : (id : ℕ) (es : List Exchange) (t end : Table) (s : Search) → RepliesAll t es end → IsNumbered t → id < t.next → search_of id t.opened ≡ Some s → Comes id es s
comes-alone id [] t end s r h l is = (s, refl)
comes-alone id (opening program query budget fresh (Ok number) ∷ es) t end s r h l is =
    let stays = r.1.2.2 in
    let session : Session = record { number = number; search = r.1.2.0 } in
    comes-alone id es r.0 end s r.2 (numbered-reply (opening program query budget fresh (Ok number)) t r.0 r.1 h) (rw stays (omega (arith, l, r.1.1)))
    (rw stays (search-append id s t.opened (session ∷ []) is))
comes-alone id (opening program query budget fresh (Err refusal.NoQuery) ∷ es) t end s r h l is = let stays = r.1.1 in comes-alone id es r.0 end s r.2 (rw stays h) (rw stays l) (rw stays is)
comes-alone id (opening program query budget fresh (Err refusal.Full) ∷ es) t end s r h l is = let stays = r.1.2 in comes-alone id es r.0 end s r.2 (rw stays h) (rw stays l) (rw stays is)
comes-alone id (opening program query budget fresh (Err refusal.Memory) ∷ es) t end s r h l is = let stays = r.1.2 in comes-alone id es r.0 end s r.2 (rw stays h) (rw stays l) (rw stays is)
comes-alone id (advancing other calls (Ok comes) ∷ es) t end s r h l is =
    comes-slice id other calls comes es t r.0 s r.1 h l is (λ after. comes-alone id es r.0 end after r.2)
comes-alone id (advancing other calls (Err refused) ∷ es) t end s r h l is =
    comes-none id other calls es t r.0 s r.1.0 r.1.1 h l is (comes-alone id es r.0 end s r.2)
comes-alone id (closing other (Ok done) ∷ es) t end s r h l is =
    let stays = r.1.1 in
    comes-close id other es s (λ e.
    comes-alone id es r.0 end s r.2 (numbered-reply (closing other (Ok done)) t r.0 r.1 h) (rw stays l)
    (rw stays (search-without-other other id t.opened (λ same. not-same other id e (sym same)) ∙ is)))
comes-alone id (closing other (Err refused) ∷ es) t end s r h l is =
    let stays = r.1.1 in
    comes-close id other es s (λ e. comes-alone id es r.0 end s r.2 (rw stays h) (rw stays l) (rw stays is))

-- ---- up to that call

-- the calls behind others are made of some table
later-calls : (before after : List Exchange) (t end : Table) → RepliesAll t (before ++ after) end → IsNumbered t → (u : Table) × IsNumbered u × RepliesAll u after end
later-calls [] after t end r h = (t, h, r)
later-calls (e ∷ es) after t end r h = later-calls es after r.0 end r.2 (numbered-reply e t r.0 r.1 h)

pub stands-alone : (before after : List Exchange) (program : Program) (query budget fresh number : ℕ) (end : Table)
    → RepliesAll no_sessions (before ++ opening program query budget fresh (Ok number) ∷ after) end
    → ComesAlone program query budget fresh (slices_of number after) (comes_of number after)
stands-alone before after program query budget fresh number end r =
    let there = later-calls before (opening program query budget fresh (Ok number) ∷ after) no_sessions end r tt in
    let old = there.0 in
    let reply = there.2.1 in
    let between = there.2.0 in
    let stays = reply.2.2 in
    let search = reply.2.0 in
    let is : number ≡ old.next = reply.1 in
    let new : search_of number (old.opened ++ record { number = number; search = search } ∷ []) ≡ Some search =
    search-new number search old.opened (subst (λ n. AllBelow n old.opened) (sym is) there.1) in
    let next : number < number + 1 = omega arith in
    let rest = comes-alone number after between end search there.2.2 (numbered-reply (opening program query budget fresh (Ok number)) old between reply there.1)
    (rw stays next) (rw stays new) in
    record { first = search; last = rest.0; opened = reply.2.1; advanced = rest.1 }
