-- What comes of slices of a search by itself are the events of its run.
use Rattle.std.specs.Prelude.{◌≡◌, ℕ, ◌+◌, ◌<◌, ◌≤◌, List, [], ◌∷◌, None}
use Rattle.std.proofs.Common.{arith, subst}
use Rattle.scasp_cert.specs.Certificate.{certificate_of}
use Rattle.scasp_cert.specs.declared.certificate.Cert.{Cert}
use Rattle.scasp_search.specs.Rests.{Advances, AdvancesAll, rest_of, stopped}
use Rattle.scasp_search.specs.declared.search.Search.{Search}
use Rattle.scasp_search_rules.specs.Successors.Machine.{Machine, answered, ended, spent}
use Rattle.scasp_search_walk.proofs.LaterLemmas.{allows-later, found-later, tells-later}
use Rattle.scasp_search_walk.proofs.ReachedLemmas.{reached-both, reached-none}
use Rattle.scasp_search_walk.specs.Slices.{Comes, NeedsMore}
use Rattle.scasp_search_walk.specs.Walks.{Reached}
use Rattle.scasp_search_walk.specs.declared.events.Advance.{Advance}
use Rattle.scasp_search_walk.specs.declared.events.Advance.TheVariants as advance
use Rattle.scasp_sessions.specs.Alone.{IsAdvancedBy}
use Rattle.scasp_written.specs.Written.Rests.{IsSameRun, Rest, machine}

-- what needs more than a slice behind pauses needs more than they have together
needs-behind : {S V : Type 0} (m : Machine S V) (budget calls middle held n : ℕ) (old between : List S) → Reached m budget old calls between middle → middle ≡ calls + held
    → NeedsMore m budget between middle n → NeedsMore m budget old calls (held + n)
needs-behind m budget calls middle held n old between r e h found f =
    let g = found-later m budget calls middle old between found r f in
    by middle calls held n g.0.calls found.calls (h g.0 g.1) e g.2
  where
    by : (middle calls held n a b : ℕ) → middle + n < a → middle ≡ calls + held → a ≡ b → calls + (held + n) < b
    by middle calls held n a b h e f = omega (arith, h, e, f)

by-slice : (k middle calls held more n : ℕ) → k ≤ middle + (more + n) → middle ≡ calls + held → k ≤ calls + ((held + more) + n)
by-slice k middle calls held more n h e = omega (arith, h, e)

held-more : (held more n : ℕ) → held + (more + n) ≡ (held + more) + n
held-more held more n = omega arith

-- what comes of slices behind a pause comes of them with the pause in front
pub comes-behind : {S A V : Type 0} (value : A → V) (m : Machine S V) (budget calls middle held more after : ℕ) (old between new : List S) (ns : List ℕ) (es : List (Advance A))
    → Reached m budget old calls between middle → middle ≡ calls + held → Comes value m budget between middle more ns es new after → Comes value m budget old calls (held + more) ns es new after
comes-behind value m budget calls middle held more after old between new [] [] r e h =
    (reached-both m budget calls middle after old between new r h.0, omega (arith, e, h.1))
comes-behind value m budget calls middle held more after old between new [] (f ∷ es) r e h = absurd h
comes-behind value m budget calls middle held more after old between new (n ∷ ns) [] r e h = absurd h
comes-behind value m budget calls middle held more after old between new (n ∷ ns) (advance.Answer a ∷ es) r e h =
    (h.0, h.1, tells-later m budget calls middle h.0 old between h.1 (answered (value a)) r h.2, by-slice h.0 middle calls held more n h.3 e, h.4)
comes-behind value m budget calls middle held more after old between new (n ∷ ns) (advance.Paused ∷ es) r e h = (
  subst (λ k. NeedsMore m budget old calls k) (held-more held more n) (needs-behind m budget calls middle held (more + n) old between r e h.0),
  subst (λ k. Comes value m budget old calls k ns es new after) (held-more held more n) (comes-behind value m budget calls middle held (more + n) after old between new ns es r e h.1),
)
comes-behind value m budget calls middle held more after old between new (n ∷ ns) (advance.Ended ∷ es) r e h =
    (h.0, h.1, tells-later m budget calls middle h.0 old between h.1 ended r h.2, by-slice h.0 middle calls held more n h.3 e, h.4)
comes-behind value m budget calls middle held more after old between new (n ∷ ns) (advance.Spent ∷ es) r e h =
    (h.0, h.1, tells-later m budget calls middle h.0 old between h.1 spent r h.2, by-slice h.0 middle calls held more n h.3 e, h.4)
comes-behind value m budget calls middle held more after old between new (n ∷ ns) (advance.Overflow ∷ es) r e h = allows-later m budget calls middle old between r h
comes-behind value m budget calls middle held more after old between new (n ∷ ns) (advance.Memory ∷ es) r e h = tt

-- ---- one slice, and the others behind it

-- what comes of the slices from these states
abbrev ComesFrom : Rest → Rest → List ℕ → List (Advance Cert) → Rest → Type 0
ComesFrom run old ns es new = Comes certificate_of (machine run.problem run.queried) run.budget old.states old.calls 0 ns es new.states new.calls

same-machine : (run old new : Rest) (ns : List ℕ) (es : List (Advance Cert)) → IsSameRun run old → AdvancesAll old ns es new → ComesFrom run old ns es new
same-machine run old new ns es s h = rw (s.problem, s.queried, s.budget) at h

no-wait : (k calls n : ℕ) → k ≤ calls + n → k ≤ calls + (0 + n)
no-wait k calls n h = omega (arith, h)

no-calls : (calls : ℕ) → calls ≡ calls + 0
no-calls calls = omega arith

nothing : (run : Rest) → AdvancesAll run [] [] run
nothing run = (reached-none (machine run.problem run.queried) run.budget run.calls run.states, no-calls run.calls)

-- an event, and what comes behind it
answer-first : (old between last : Rest) (n : ℕ) (ns : List ℕ) (cert : Cert) (es : List (Advance Cert)) → Advances old n (advance.Answer cert) between → ComesFrom old between ns es last
    → AdvancesAll old (n ∷ ns) (advance.Answer cert ∷ es) last
answer-first old between last n ns cert es a h = (between.calls, between.states, a.gives, no-wait between.calls old.calls n a.keeps, h)

end-first : (old between last : Rest) (n : ℕ) (ns : List ℕ) (es : List (Advance Cert)) → Advances old n advance.Ended between → ComesFrom old between ns es last
    → AdvancesAll old (n ∷ ns) (advance.Ended ∷ es) last
end-first old between last n ns es a h = (between.calls, between.states, a.gives, no-wait between.calls old.calls n a.keeps, h)

spent-first : (old between last : Rest) (n : ℕ) (ns : List ℕ) (es : List (Advance Cert)) → Advances old n advance.Spent between → ComesFrom old between ns es last
    → AdvancesAll old (n ∷ ns) (advance.Spent ∷ es) last
spent-first old between last n ns es a h = (between.calls, between.states, a.gives, no-wait between.calls old.calls n a.keeps, h)

pause-first : (old between last : Rest) (n : ℕ) (ns : List ℕ) (es : List (Advance Cert)) → Advances old n advance.Paused between → ComesFrom old between ns es last
    → AdvancesAll old (n ∷ ns) (advance.Paused ∷ es) last
pause-first old between last n ns es a h =
    let m = machine old.problem old.queried in
    let zero-more : (k : ℕ) → k + 0 ≡ 0 + k = λ k. omega arith in
    let zero-before : n ≡ 0 + n = omega arith in (
      subst (λ k. NeedsMore m old.budget old.states old.calls k) zero-before a.keeps.1,
      subst (λ k. Comes certificate_of m old.budget old.states old.calls k ns es last.states last.calls) (zero-more n)
          (comes-behind certificate_of m old.budget old.calls between.calls n 0 last.calls old.states between.states last.states ns es a.gives a.keeps.0 h),
    )

pub events-come : (first last : Search) (ns : List ℕ) (es : List (Advance Cert)) → stopped first ≡ None → IsAdvancedBy first ns es last → AdvancesAll (rest_of first) ns es (rest_of last)
events-come first last [] [] goes h = rw h (nothing (rest_of first))
events-come first last [] (e ∷ es) goes h = absurd h
events-come first last (n ∷ ns) [] goes h = absurd h
events-come first last (n ∷ ns) (advance.Answer cert ∷ es) goes h =
    answer-first (rest_of first) (rest_of h.0) (rest_of last) n ns cert es (h.1.event goes)
    (same-machine (rest_of first) (rest_of h.0) (rest_of last) ns es h.1.same (events-come h.0 last ns es h.1.stops h.2))
events-come first last (n ∷ ns) (advance.Paused ∷ es) goes h =
    pause-first (rest_of first) (rest_of h.0) (rest_of last) n ns es (h.1.event goes)
    (same-machine (rest_of first) (rest_of h.0) (rest_of last) ns es h.1.same (events-come h.0 last ns es h.1.stops h.2))
events-come first last (n ∷ ns) (advance.Ended ∷ es) goes h =
    end-first (rest_of first) (rest_of h.0) (rest_of last) n ns es (h.1.event goes)
    (same-machine (rest_of first) (rest_of h.0) (rest_of last) ns es h.1.same (events-come h.0 last ns es h.1.stops h.2))
events-come first last (n ∷ ns) (advance.Spent ∷ es) goes h =
    spent-first (rest_of first) (rest_of h.0) (rest_of last) n ns es (h.1.event goes)
    (same-machine (rest_of first) (rest_of h.0) (rest_of last) ns es h.1.same (events-come h.0 last ns es h.1.stops h.2))
events-come first last (n ∷ ns) (advance.Overflow ∷ es) goes h = let a = h.1.event goes in a.gives
events-come first last (n ∷ ns) (advance.Memory ∷ es) goes h = tt
