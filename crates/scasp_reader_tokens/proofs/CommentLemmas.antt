-- The end of a comment, a byte after the other.
use Rattle.std.proofs.Common.{◌≡◌, ℕ, ◌<◌, true, false, List, [], ◌∷◌, length, drop, codes, Some, refl, arith}
use Rattle.scasp_reader_tokens.specs.Bytes.{begins, farther}
use Rattle.scasp_reader_tokens.specs.Comments.{length_before_end}

pub length_before_end-passed : (bytes : List ℕ) → 0 < length bytes → begins bytes (codes "*/") ≡ false → length_before_end bytes ≡ farther 1 (length_before_end (drop 1 bytes))
length_before_end-passed [] h e = absurd (omega arith)
length_before_end-passed (b ∷ bytes) h e = rw e refl

pub length_before_end-found : (bytes : List ℕ) → 0 < length bytes → begins bytes (codes "*/") ≡ true → length_before_end bytes ≡ Some 0
length_before_end-found [] h e = absurd (omega arith)
length_before_end-found (b ∷ bytes) h e = rw e refl
