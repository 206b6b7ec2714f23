-- How a read moves a reader on in a file whose bytes are told.
use Rattle.std.specs.Prelude.{◌≡◌, ◌≤◌, ◌<◌, ◌+◌, ℕ, List, [], ◌++◌, length, take, drop, Option, None, Some, refl}
use Rattle.std.specs.Io.KnownBytes.{Consumes, IsAtEnd}
use Rattle.std.proofs.Common.{arith, ap, sym, ◌∙◌, length-append, length-drop}
use Rattle.std.proofs.lemmas.List.{drop-drop, drop_all, drop_at, length-take-le, take_at}
use Rattle.scasp_io.specs.Bytes.{Fills}
use Rattle.scasp_system.specs.Standing.{StandsAt}

-- bytes that were read stood in front of those that are left
consumed : (old new : Option (List ℕ)) (bytes left : List ℕ) → Consumes old new bytes → old ≡ Some left
    → (rest : List ℕ) × (new ≡ Some rest) × (left ≡ bytes ++ rest)
consumed None new bytes left took is = cc
consumed (Some xs) None bytes left took is = absurd took
consumed (Some xs) (Some ys) bytes left took is = (ys, refl, let e : xs ≡ left = cc in sym e ∙ took)

-- nothing is left at the end
at_end : (new : Option (List ℕ)) (rest : List ℕ) → IsAtEnd new → new ≡ Some rest → rest ≡ []
at_end None rest end is = cc
at_end (Some xs) rest end is = cc

-- a reader that gave bytes stands behind them
pub StandsAt-consumed : (told old new : Option (List ℕ)) (at count : ℕ) (buffer : List ℕ)
    → StandsAt told at old → count ≤ length buffer → Consumes old new (take count buffer) → StandsAt told (at + count) new
StandsAt-consumed told old new at count buffer stands within took all is =
    let parts = consumed old new (take count buffer) (drop at all) took (stands all is) in
    let size : length (take count buffer) ≡ count = length-take-le count buffer within in
    let behind : drop count (take count buffer ++ parts.0) ≡ parts.0 = drop_at (take count buffer) parts.0 count size in
    let passed : drop count (drop at all) ≡ parts.0 = ap (drop count) parts.2 ∙ behind in
    parts.1 ∙ ap (λ (xs : List ℕ). Some xs) (sym passed ∙ drop-drop count at all)

-- a reader at the end of a file stands at each byte from there on
pub StandsAt-end : (told new : Option (List ℕ)) (at more : ℕ)
    → StandsAt told at new → IsAtEnd new → at ≤ more → StandsAt told more new
StandsAt-end told new at more stands end reached all is =
    let none : drop at all ≡ [] = at_end new (drop at all) end (stands all is) in
    let short : length all ≤ more = omega (arith, length-drop at all, ap length none) in
    stands all is ∙ ap (λ (xs : List ℕ). Some xs) (none ∙ sym (drop_all more all short))

-- what a read gave is what stands there
pub Fills-consumed : (told old new : Option (List ℕ)) (at count : ℕ) (buffer : List ℕ)
    → StandsAt told at old → count ≤ length buffer → Consumes old new (take count buffer)
    → (count ≡ 0 → 0 < length buffer → IsAtEnd new) → Fills told at buffer count
Fills-consumed None old new at count buffer stands within took end = tt
Fills-consumed (Some all) old new at count buffer stands within took end =
    let parts = consumed old new (take count buffer) (drop at all) took (stands all refl) in
    let size : length (take count buffer) ≡ count = length-take-le count buffer within in
    let front : take count (take count buffer ++ parts.0) ≡ take count buffer = take_at (take count buffer) parts.0 count size in
    record {
      same = sym front ∙ ap (take count) (sym parts.2);
      there = omega (arith, ap length parts.2, length-append (take count buffer) parts.0);
      end = λ none room.
          let behind : StandsAt (Some all) (at + count) new = StandsAt-consumed (Some all) old new at count buffer stands within took in
          let past : drop (at + count) all ≡ [] = at_end new (drop (at + count) all) (end none room) (behind all refl) in
          omega (arith, length-drop (at + count) all, ap length past);
    }
