-- What a call gives or takes of bytes that an object tells. None: the object does not tell its bytes.
use Rattle.std.specs.Prelude.{◌≡◌, ℕ, ◌≤◌, ◌<◌, ◌-◌, min, List, ◌++◌, length, take, drop, Option, None, Some, IfSome}

-- a count of bytes from `at` was read to the front of the buffer, and is 0 at the end of the bytes alone
pub record Reads (all : List ℕ) (at : ℕ) (buffer : List ℕ) (count : ℕ) : Type 0 where
  pub same : take count buffer ≡ take count (drop at all)
  pub there : count ≤ length (drop at all)
  pub end : count ≡ 0 → 0 < length buffer → length all ≤ at

-- the same of the bytes of a file, where they are told
abbrev pub Fills : Option (List ℕ) → ℕ → List ℕ → ℕ → Type 0
Fills told at buffer count = IfSome told (λ all. Reads all at buffer count)

-- as many bytes were read as are there and as the buffer holds
abbrev pub ReadsMost : Option (List ℕ) → ℕ → List ℕ → ℕ → Type 0
ReadsMost told at buffer count =
    IfSome told (λ all. count ≡ min (length all - at) (length buffer))

-- what a sink holds once a piece stands behind what it held
abbrev pub behind : Option (List ℕ) → List ℕ → Option (List ℕ)
behind None piece = None
behind (Some before) piece = Some (before ++ piece)

-- a sink took a first part of the bytes, and nothing else
pub record TakesPrefix (old new : Option (List ℕ)) (bytes : List ℕ) : Type 0 where
  pub count : ℕ
  pub within : count ≤ length bytes
  pub taken : new ≡ behind old (take count bytes)
