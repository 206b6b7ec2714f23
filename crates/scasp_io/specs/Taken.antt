-- What a sink took of a text that is made and written piece by piece.
use Rattle.std.specs.Prelude.{◌≡◌, ℕ, List, Option, None, Some, Result, Ok, Err}
use Rattle.scasp_io.specs.Bytes.{TakesPrefix, behind}
use Rattle.scasp_io.specs.declared.errors.OutputErr.{OutputErr}
use Rattle.scasp_io.specs.declared.errors.OutputErr.TheVariants.{Memory, Write}

-- the sink took a whole text that may be written
pub record TakesWhole (May : List ℕ → Type 0) (old new : Option (List ℕ)) : Type 0 where
  pub text : List ℕ
  pub may : May text
  pub taken : new ≡ behind old text

-- the sink took a first part of a text that may be written
pub record TakesFirst (May : List ℕ → Type 0) (old new : Option (List ℕ)) : Type 0 where
  pub text : List ℕ
  pub may : May text
  pub part : TakesPrefix old new text

-- What the sink took, where this text may be written with this result, and without a result where it is cut off: the whole text; for want of memory one that is cut
-- off; where a write failed, a first part of one of these.
abbrev pub Writes : {R : Type 0} → (List ℕ → Option R → Type 0) → Option (List ℕ) → Option (List ℕ) → Result R OutputErr → Type 0
Writes May old new (Ok r) = TakesWhole (λ text. May text (Some r)) old new
Writes May old new (Err Memory) = TakesWhole (λ text. May text None) old new
Writes {R} May old new (Err Write) = TakesFirst (λ text. (r : Option R) × May text r) old new
