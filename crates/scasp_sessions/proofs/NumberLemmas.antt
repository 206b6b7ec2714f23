-- Numbers and refusals follow from the calls.
use Rattle.std.specs.Prelude.{◌≡◌, ℕ, ◌<◌, ◌≤◌, ◌||◌, nat_lt, Bool, true, false, if◌then◌else◌, List, [], ◌∷◌, length, map, Option, None, Some, IsSome, IsSomeAnd, Ok, Err, refl}
use Rattle.std.proofs.Common.{ap, arith, sym}
use Rattle.std.proofs.lemmas.List.{length-map, map-append}
use Rattle.std.proofs.lemmas.Bool.Decides.{nat_tests}
use Rattle.scasp_search.specs.declared.search.Search.{Search}
use Rattle.scasp_sessions.specs.Alone.{Exchange, Replies, RepliesAll, advancing, closing, opening}
use Rattle.scasp_sessions.specs.Numbers.{Numbers, Said, asked_in, due_to, due_to_all, is_taken, no_numbers, said_in, without_number}
use Rattle.scasp_sessions.specs.Tables.{Table, has_number, no_sessions, search_of, with_search, without}
use Rattle.scasp_sessions.specs.declared.errors.OpenErr.TheVariants as refusal
use Rattle.scasp_sessions.specs.declared.session.Session.{Session}
use Rattle.scasp_syntax.specs.Programs.{numbered}
use Rattle.scasp_syntax.specs.declared.clause.Query.{Query}

abbrev number_of : Session → ℕ
number_of s = s.number

abbrev numbers_of : Table → Numbers
numbers_of t = record { taken = map number_of t.opened; next = t.next }

taken-some : (id : ℕ) (s : Search) (ss : List Session) → search_of id ss ≡ Some s → is_taken id (map number_of ss) ≡ true
taken-some id s [] h = absurd (cc h)
taken-some id s (x ∷ ss) h = by (has_number id x) h (taken-some id s ss)
  where
    by : (b : Bool) → (if b then Some x.search else search_of id ss) ≡ Some s → (search_of id ss ≡ Some s → is_taken id (map number_of ss) ≡ true) → (b || is_taken id (map number_of ss)) ≡ true
    by true h next = refl
    by false h next = next h

taken-is-some : (id : ℕ) (ss : List Session) → IsSome (search_of id ss) → is_taken id (map number_of ss) ≡ true
taken-is-some id ss h = by (search_of id ss) refl h
  where
    by : (o : Option Search) → search_of id ss ≡ o → IsSome o → is_taken id (map number_of ss) ≡ true
    by None e h = absurd (cc h)
    by (Some s) e h = taken-some id s ss e

taken-none : (id : ℕ) (ss : List Session) → search_of id ss ≡ None → is_taken id (map number_of ss) ≡ false
taken-none id [] h = refl
taken-none id (x ∷ ss) h = by (has_number id x) h (taken-none id ss)
  where
    by : (b : Bool) → (if b then Some x.search else search_of id ss) ≡ None → (search_of id ss ≡ None → is_taken id (map number_of ss) ≡ false) → (b || is_taken id (map number_of ss)) ≡ false
    by true h next = absurd (cc h)
    by false h next = next h

numbers-with : (id : ℕ) (t : Search) (ss : List Session) → map number_of (with_search id t ss) ≡ map number_of ss
numbers-with id t [] = refl
numbers-with id t (s ∷ ss) = by (has_number id s) (numbers-with id t ss)
  where
    by : (b : Bool) → map number_of (with_search id t ss) ≡ map number_of ss → map number_of (if b then record s { search = t } ∷ ss else s ∷ with_search id t ss) ≡ map number_of (s ∷ ss)
    by true next = refl
    by false next = ap (λ l. s.number ∷ l) next

numbers-without : (id : ℕ) (ss : List Session) → map number_of (without id ss) ≡ without_number id (map number_of ss)
numbers-without id [] = refl
numbers-without id (s ∷ ss) = by (has_number id s) (numbers-without id ss)
  where
    by : (b : Bool) → map number_of (without id ss) ≡ without_number id (map number_of ss)
        → map number_of (if b then ss else s ∷ without id ss) ≡ (if b then map number_of ss else s.number ∷ without_number id (map number_of ss))
    by true next = refl
    by false next = ap (λ l. s.number ∷ l) next

room : (ss : List Session) → length ss < 64 → nat_lt (length (map number_of ss)) 64 ≡ true
room ss h = rw (length-map ss number_of) (grind (arith, nat_tests, h))

no-room : (ss : List Session) → 64 ≤ length ss → nat_lt (length (map number_of ss)) 64 ≡ false
no-room ss h = rw (length-map ss number_of) (grind (arith, nat_tests, h))

-- what is said to a call is what is due to it
abbrev IsDue : Exchange → Table → Table → Type 0
IsDue e old new = due_to (numbers_of old) (asked_in e) ≡ (said_in e, numbers_of new)

query-there : (o : Option Query) → IsSome o → (q : Query) × (o ≡ Some q)
query-there None h = absurd (cc h)
query-there (Some q) h = (q, refl)

query-asked : (o : Option Query) (P : Query → Type 0) → IsSomeAnd o P → (q : Query) × (o ≡ Some q)
query-asked None P h = absurd h
query-asked (Some q) P h = (q, refl)

is-due : (e : Exchange) (old new : Table) → Replies old e new → IsDue e old new
is-due (opening program query budget fresh (Ok number)) old new r =
    let q = query-asked (numbered program.queries query) _ r.2.1.run in
    let session : Session = record { number = number; search = r.2.0 } in
    rw (q.1, room old.opened r.0, r.2.2, map-append number_of old.opened (session ∷ []), r.1) refl
is-due (opening program query budget fresh (Err refusal.NoQuery)) old new r = rw (r.0, r.1) refl
is-due (opening program query budget fresh (Err refusal.Full)) old new r = let q = query-there (numbered program.queries query) r.0 in rw (q.1, no-room old.opened r.1, r.2) refl
is-due (opening program query budget fresh (Err refusal.Memory)) old new r = let q = query-there (numbered program.queries query) r.0 in rw (q.1, room old.opened r.1, r.2) refl
is-due (advancing id calls (Ok comes)) old new r = rw (taken-some id r.0 old.opened r.2, r.4) (ap (λ l. (Said.comes, record { taken = l; next = old.next })) (sym (numbers-with id r.1 old.opened)))
is-due (advancing id calls (Err refused)) old new r = rw (taken-none id old.opened r.0, r.1) refl
is-due (closing id (Ok done)) old new r = rw (taken-is-some id old.opened r.0, r.1, numbers-without id old.opened) refl
is-due (closing id (Err refused)) old new r = rw (taken-none id old.opened r.0, r.1) refl

all-due : (es : List Exchange) (old new : Table) → RepliesAll old es new → map said_in es ≡ due_to_all (numbers_of old) (map asked_in es)
all-due [] old new r = refl
all-due (e ∷ es) old new r = rw (is-due e old r.0 r.1) (ap (λ l. said_in e ∷ l) (all-due es r.0 new r.2))

pub numbers-follow : (es : List Exchange) (end : Table) → RepliesAll no_sessions es end → map said_in es ≡ due_to_all no_numbers (map asked_in es)
numbers-follow es end r = all-due es no_sessions end r
