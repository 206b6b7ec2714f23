-- The values that a way gives to variables.
use Rattle.std.specs.Prelude.{◌≡◌, ℕ, List, [], ◌∷◌, map, Bool, false, true, Option, None, Some, Result, Ok, Err}
use Rattle.scasp_ground.specs.declared.error.GroundErr.{GroundErr}
use Rattle.scasp_ground.specs.declared.error.GroundErr.TheVariants as errors
use Rattle.scasp_lines.specs.Ways.{set_to}
use Rattle.scasp_lines_places.specs.Places.View.{all_bound}
use Rattle.scasp_syntax.specs.Tm.{Tm, items}
use Rattle.scasp_syntax.specs.Values.{Sub}
use Rattle.scasp_extend_instances.specs.Values.{valued}
use Rattle.scasp_extend_instances.specs.declared.values.Way.{Way}

-- the values with these, the last that was bound in front
abbrev pub with_all : List (ℕ × Tm) → Sub → Sub
with_all [] v = v
with_all (b ∷ bs) v = set_to (with_all bs v) b.0 b.1

abbrev pub way_of : Way → Sub
way_of w = with_all (all_bound w.bound) (valued (items w.free.now))

abbrev pub ways_of : List Way → List Sub
ways_of ws = map way_of ws

-- some values, or none, as a list
abbrev pub way_in : Option Way → List Sub
way_in None = []
way_in (Some w) = way_of w ∷ []

-- what is made where no row overflows; an overflow where one does
abbrev pub Makes : {A : Type 0} → Result A GroundErr → Bool → (A → Type 0) → Type 0
Makes (Ok x) past made = (past ≡ false) × made x
Makes (Err errors.Overflow) past made = past ≡ true
Makes (Err errors.TooLarge) past made = ⊥
Makes (Err errors.Memory) past made = Unit {0}

-- the test that was asked; none where its row overflows
abbrev pub Tests : Result Bool GroundErr → Option Bool → Type 0
Tests (Ok b) o = o ≡ Some b
Tests (Err errors.Overflow) o = o ≡ None
Tests (Err errors.TooLarge) o = ⊥
Tests (Err errors.Memory) o = Unit {0}
