-- At most 64 sessions are open.
use Rattle.std.specs.Prelude.{◌≡◌, ℕ, ◌<◌, ◌≤◌, Bool, true, false, if◌then◌else◌, List, [], ◌∷◌, ◌++◌, length, Ok, Err, refl}
use Rattle.std.proofs.Common.{arith, length-append}
use Rattle.scasp_search.specs.declared.search.Search.{Search}
use Rattle.scasp_sessions.specs.Alone.{Exchange, Replies, RepliesAll, advancing, closing, opening}
use Rattle.scasp_sessions.specs.Tables.{Table, has_number, no_sessions, with_search, without}
use Rattle.scasp_sessions.specs.declared.errors.OpenErr.TheVariants as refusal
use Rattle.scasp_sessions.specs.declared.session.Session.{Session}

length-with : (id : ℕ) (t : Search) (ss : List Session) → length (with_search id t ss) ≡ length ss
length-with id t [] = refl
length-with id t (s ∷ ss) = by (has_number id s) (length-with id t ss)
  where
    by : (b : Bool) → length (with_search id t ss) ≡ length ss → length (if b then record s { search = t } ∷ ss else s ∷ with_search id t ss) ≡ length (s ∷ ss)
    by true next = refl
    by false next = omega (arith, next)

length-without : (id : ℕ) (ss : List Session) → length (without id ss) ≤ length ss
length-without id [] = omega arith
length-without id (s ∷ ss) = by (has_number id s) (length-without id ss)
  where
    by : (b : Bool) → length (without id ss) ≤ length ss → length (if b then ss else s ∷ without id ss) ≤ length (s ∷ ss)
    by true next = omega arith
    by false next = omega (arith, next)

one-more : (ss : List Session) (s : Session) → length ss < 64 → length (ss ++ s ∷ []) ≤ 64
one-more ss s h = omega (arith, h, length-append ss (s ∷ []))

few-reply : (e : Exchange) (old new : Table) → Replies old e new → length old.opened ≤ 64 → length new.opened ≤ 64
few-reply (opening program query budget fresh (Ok number)) old new r h =
    let session : Session = record { number = number; search = r.2.0 } in
    rw r.2.2 (one-more old.opened session r.0)
few-reply (opening program query budget fresh (Err refusal.NoQuery)) old new r h = rw r.1 h
few-reply (opening program query budget fresh (Err refusal.Full)) old new r h = rw r.2 h
few-reply (opening program query budget fresh (Err refusal.Memory)) old new r h = rw r.2 h
few-reply (advancing id calls (Ok comes)) old new r h = rw (r.4, length-with id r.1 old.opened) h
few-reply (advancing id calls (Err refused)) old new r h = rw r.1 h
few-reply (closing id (Ok done)) old new r h =
    let less = length-without id old.opened in
    rw r.1 (omega (arith, less, h))
few-reply (closing id (Err refused)) old new r h = rw r.1 h

few-replies : (es : List Exchange) (old new : Table) → RepliesAll old es new → length old.opened ≤ 64 → length new.opened ≤ 64
few-replies [] old new r h = rw r h
few-replies (e ∷ es) old new r h = few-replies es r.0 new r.2 (few-reply e old r.0 r.1 h)

pub few : (es : List Exchange) (end : Table) → RepliesAll no_sessions es end → length end.opened ≤ 64
few es end r = few-replies es no_sessions end r (omega arith)
