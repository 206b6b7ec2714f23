-- The answers that a search meets.
use Rattle.std.specs.Prelude.{◌≡◌, ℕ, List}
use Rattle.scasp_search_rules.specs.Successors.Machine.{Machine, Found, Finds, answered}

-- From these states, with so many calls spent, the search meets this answer: its first event is the answer, or is another one, and
-- then the search meets the answer from the states behind that.
pub data GivesAnswer {S A : Type 0} (m : Machine S A) (budget : ℕ) (a : A) : List S → ℕ → Type 0 where
  at_once : (states : List S) (calls : ℕ) (found : Found S A) → Finds m budget states calls found → found.event ≡ answered a → GivesAnswer m budget a states calls
  later : (states : List S) (calls : ℕ) (found : Found S A) (b : A) → Finds m budget states calls found → found.event ≡ answered b
      → GivesAnswer m budget a found.rest found.calls → GivesAnswer m budget a states calls
