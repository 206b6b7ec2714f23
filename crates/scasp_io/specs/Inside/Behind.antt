-- Pieces that a sink takes one after another.
use Rattle.std.specs.Prelude.{◌≡◌, ℕ, ◌+◌, List, ◌++◌, length, take, Option, None, Some, refl}
use Rattle.std.proofs.Common.{append_assoc, arith, length-append}
use Rattle.std.proofs.Math.Seq.{take-append-add}
use Rattle.scasp_io.specs.Bytes.{behind, TakesPrefix}

-- two pieces stand there as one
pub behind-append : (old : Option (List ℕ)) (first second : List ℕ)
    → behind old (first ++ second) ≡ behind (behind old first) second
behind-append None first second = refl
behind-append (Some before) first second = rw append_assoc refl

-- a first part of the bytes behind a whole piece is a first part of both
pub TakesPrefix-append : (old mid new : Option (List ℕ)) (piece bytes : List ℕ)
    → mid ≡ behind old piece → TakesPrefix mid new bytes → TakesPrefix old new (piece ++ bytes)
TakesPrefix-append old mid new piece bytes whole part =
    record {
      count = length piece + part.count;
      within = omega (arith, length-append piece bytes);
      taken = rw (take-append-add piece bytes part.count, behind-append old piece (take part.count bytes), ← whole) part.taken;
    }
