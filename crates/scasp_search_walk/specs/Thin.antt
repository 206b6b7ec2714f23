-- Searches without states at which nothing is asked and of which nothing comes.
use Rattle.std.specs.Prelude.{◌≡◌, ℕ, Bool, true, false, not, None, List, [], filter}
use Rattle.scasp_search_rules.specs.Successors.Machine.{Found, Finds, Machine}

-- where the test holds, the state is no answer, costs nothing, asks nothing that overflows, and has no successor
pub record IsSilent {S A : Type 0} (m : Machine S A) (silent : S → Bool) : Type 0 where
  pub answer : (s : S) → silent s ≡ true → m.answer s ≡ None
  pub pays : (s : S) → silent s ≡ true → m.pays s ≡ false
  pub asks : (s : S) → silent s ≡ true → m.asks s ≡ false
  pub next : (s : S) → silent s ≡ true → m.next s ≡ []

abbrev pub others : {S : Type 0} → (S → Bool) → List S → List S
others silent states = filter (λ s. not (silent s)) states

-- the search that leaves them out
abbrev pub thin : {S A : Type 0} → (S → Bool) → Machine S A → Machine S A
thin silent m = record { next = λ s. others silent (m.next s); pays = m.pays; answer = m.answer; asks = m.asks }

abbrev pub thinned : {S A : Type 0} → (S → Bool) → Found S A → Found S A
thinned silent f = record { event = f.event; calls = f.calls; may = f.may; rest = others silent f.rest }

-- Both meet the same first event, with the same calls, and are behind it again such searches.
abbrev pub MeetSame : (S A : Type 0) → Type 0
MeetSame S A =
    (m : Machine S A) (silent : S → Bool) → IsSilent m silent → (budget calls : ℕ) (states : List S) (found : Found S A)
    → Finds m budget states calls found → Finds (thin silent m) budget (others silent states) calls (thinned silent found)

-- And what such a search meets first is met by the other.
abbrev pub MeetSameBack : (S A : Type 0) → Type 0
MeetSameBack S A =
    (m : Machine S A) (silent : S → Bool) → IsSilent m silent → (budget calls : ℕ) (states : List S) (f : Found S A)
    → Finds (thin silent m) budget (others silent states) calls f → (found : Found S A) × Finds m budget states calls found × (thinned silent found ≡ f)
