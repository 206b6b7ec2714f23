-- Literals of which some change.
use Rattle.std.specs.Prelude.{◌≡◌, ℕ, zero, suc, true, List, [], ◌∷◌, ⊤}
use Rattle.scasp_loops.specs.Inside.Hinted.{AreHinted, AreHintedEach, lit_key}
use Rattle.scasp_loops.specs.Inside.Topped.{AreTopped}
use Rattle.scasp_loops.specs.Inside.Zipped.{Fit, literals_each, literals_from}
use Rattle.scasp_loops.specs.declared.lists.Lists.{Lists}
use Rattle.scasp_search_rules.specs.declared.states.state.Literal.{Literal}
use Rattle.scasp_syntax.specs.Values.{are_ground}
use Rattle.scasp_trail.specs.Past.{Past, earlier, latest}

abbrev pub literals_in : Lists → List Literal
literals_in l = literals_from 0 l.entries.now l.marks.now

-- what a hint may say of the first it may say of the second
pub record StaysSo (a b : Literal) : Type 0 where
  pub key : lit_key b.lit ≡ lit_key a.lit
  pub done : a.is_done ≡ true → b.is_done ≡ true
  pub ground : are_ground a.lit.atom.args ≡ true → are_ground b.lit.atom.args ≡ true

abbrev pub StayEach : List Literal → List Literal → Type 0
StayEach [] [] = ⊤
StayEach (a ∷ ls) (b ∷ ks) = StaysSo a b × StayEach ls ks
StayEach ls ks = ⊥

-- what hints say of the old ones is so of the new ones
pub record AllStay (old new : List Literal) : Type 0 where
  pub each : StayEach old new

-- the items from this place on changed
abbrev pub changed_behind : {T : Type 0} → ℕ → (T → T) → List T → List T
changed_behind n f [] = []
changed_behind zero f (x ∷ xs) = f x ∷ changed_behind zero f xs
changed_behind (suc n) f (x ∷ xs) = x ∷ changed_behind n f xs

-- ---- marks

-- one mark more
pub record AreMarked (old new : Lists) : Type 0 where
  pub entries : new.entries.before ≡ old.entries.now ∷ old.entries.before
  pub marks : new.marks.before ≡ old.marks.now ∷ old.marks.before
  pub hints : new.hints.before ≡ old.hints.now ∷ old.hints.before

-- the marks are as they were
pub record SameMarks (old new : Lists) : Type 0 where
  pub entries : new.entries.before ≡ old.entries.before
  pub marks : new.marks.before ≡ old.marks.before
  pub hints : new.hints.before ≡ old.hints.before

-- the lists are as they were
pub record SameNow (old new : Lists) : Type 0 where
  pub entries : new.entries.now ≡ old.entries.now
  pub marks : new.marks.now ≡ old.marks.now
  pub hints : new.hints.now ≡ old.hints.now
  pub raised : new.raised ≡ old.raised

-- each list is what it was at its latest mark
pub record AreLeft (old new : Lists) : Type 0 where
  pub entries : new.entries.now ≡ latest old.entries.now old.entries.before
  pub entries_before : new.entries.before ≡ earlier old.entries.before
  pub marks : new.marks.now ≡ latest old.marks.now old.marks.before
  pub marks_before : new.marks.before ≡ earlier old.marks.before
  pub hints : new.hints.now ≡ latest old.hints.now old.hints.before
  pub hints_before : new.hints.before ≡ earlier old.hints.before
  pub raised : new.raised ≡ old.raised

-- ---- all lists together

-- now, and at each mark
pub record AreSound (lists : Lists) (ts : Past ℕ) : Type 0 where
  pub fit : Fit lists.entries lists.marks
  pub now : AreHinted (literals_in lists) lists.hints.now ts.now
  pub before : AreHintedEach (literals_each lists.entries.before lists.marks.before) lists.hints.before ts.before
  pub tops : AreTopped lists.raised lists.entries lists.hints
