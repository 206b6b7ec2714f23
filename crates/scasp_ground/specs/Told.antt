-- Which answer says what.
use Rattle.std.specs.Prelude.{◌≡◌, Bool, true, false, Option, None, Some, Result, Ok, Err}
use Rattle.scasp_ground.specs.declared.error.GroundErr.{GroundErr}
use Rattle.scasp_ground.specs.declared.error.GroundErr.TheVariants as errors

-- the test that was asked; an overflow where it has none
abbrev pub Tests : Result Bool GroundErr → Option Bool → Type 0
Tests (Ok b) o = o ≡ Some b
Tests (Err errors.Overflow) o = o ≡ None
Tests (Err errors.TooLarge) o = ⊥
Tests (Err errors.Memory) o = Unit {0}

-- too many instances before an overflow, and an answer where there is neither; want of memory says nothing
abbrev pub Limits : {A : Type 0} → Result A GroundErr → Bool → Bool → Type 0
Limits (Ok x) large past = (large ≡ false) × (past ≡ false)
Limits (Err errors.TooLarge) large past = large ≡ true
Limits (Err errors.Overflow) large past = (large ≡ false) × (past ≡ true)
Limits (Err errors.Memory) large past = Unit {0}
