-- Literals kept as two lists, of which the first may be longer.
use Rattle.std.specs.Prelude.{◌≡◌, ◌≤◌, ℕ, suc, List, [], ◌∷◌, length, slice_get, take, Some, ⊤}
use Rattle.scasp_loops.specs.Held.{literal_of}
use Rattle.scasp_loops.specs.declared.entry.Entry.{Entry}
use Rattle.scasp_loops.specs.declared.entry.Marks.{Marks}
use Rattle.scasp_search_rules.specs.declared.states.state.Literal.{Literal}
use Rattle.scasp_trail.specs.Past.{Past}

-- the literals, whose numbers are k and those behind it
abbrev pub literals_from : ℕ → List Entry → List Marks → List Literal
literals_from k [] ms = []
literals_from k (e ∷ es) [] = []
literals_from k (e ∷ es) (m ∷ ms) = literal_of k e m ∷ literals_from (suc k) es ms

abbrev pub literals_each : List (List Entry) → List (List Marks) → List (List Literal)
literals_each [] mss = []
literals_each (es ∷ ess) [] = []
literals_each (es ∷ ess) (ms ∷ mss) = literals_from 0 es ms ∷ literals_each ess mss

abbrev pub past_literals : Past Entry → Past Marks → Past Literal
past_literals entries marks = record { now = literals_from 0 entries.now marks.now; before = literals_each entries.before marks.before }

abbrev pub FitEach : List (List Entry) → List (List Marks) → Type 0
FitEach [] [] = ⊤
FitEach [] (ms ∷ mss) = ⊥
FitEach (es ∷ ess) [] = ⊥
FitEach (es ∷ ess) (ms ∷ mss) = (length ms ≤ length es) × FitEach ess mss

-- there is an entry for each of the marks, now and at each mark
pub record Fit (entries : Past Entry) (marks : Past Marks) : Type 0 where
  pub now : length marks.now ≤ length entries.now
  pub before : FitEach entries.before marks.before

-- the item stands at this place of the new list, which has the first items of the old one
pub record StandsAt {T : Type 0} (n : ℕ) (x : T) (old new : List T) : Type 0 where
  pub there : slice_get new n ≡ Some x
  pub first : take n new ≡ take n old
