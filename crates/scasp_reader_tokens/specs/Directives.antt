-- Directives: `#`, a name, and all up to a stop.
use Rattle.std.specs.Prelude.{ℕ, zero, suc, ◌-◌, Bool, false, ◌||◌, ◌&&◌, ◌==◌, List, [], ◌∷◌, drop, codes, if◌then◌else◌, Option, None, Some}
use Rattle.std.specs.Str.{bytes_eq}
use Rattle.scasp_reader_tokens.specs.Bytes.{is_blank, is_lower, begins, farther}
use Rattle.scasp_reader_tokens.specs.Comments.{line_length, block_length}
use Rattle.scasp_reader_tokens.specs.Quoted.{quoted_length}

-- `#`, and the first byte of a name
abbrev pub begins_directive : List ℕ → Bool
begins_directive [] = false
begins_directive (b ∷ []) = false
begins_directive (b ∷ c ∷ bytes) = b == 35 && (is_lower c || c == 39)

-- the name of a directive that is skipped
abbrev pub is_skipped_name : List ℕ → Bool
is_skipped_name text = bytes_eq text (codes "show") || bytes_eq text (codes "pred")

-- the name of the directive before a predicate that may be assumed
abbrev pub is_abducible_name : List ℕ → Bool
is_abducible_name text = bytes_eq text (codes "abducible")

-- a stop that ends a directive: behind it stands a blank, a comment or nothing
abbrev pub is_last_stop : List ℕ → Bool
is_last_stop [] = false
is_last_stop (b ∷ []) = b == 46
is_last_stop (b ∷ c ∷ bytes) = b == 46 && (is_blank c || c == 37)

-- the bytes of a comment, a quoted name, or one other byte, where it has an end
abbrev pub piece_length : List ℕ → Option ℕ
piece_length bytes =
    if begins bytes (codes "%") then Some (line_length bytes)
    else (if begins bytes (codes "/*") then block_length bytes
    else (if begins bytes (codes "'") then farther 2 (quoted_length (drop 1 bytes))
    else Some 1))

-- The bytes up to the stop of a directive, and with it. The first `skip` of them belong to a piece that began before.
abbrev pub length_to_stop : ℕ → List ℕ → Option ℕ
length_to_stop skip [] = None
length_to_stop (suc skip) (b ∷ bytes) = farther 1 (length_to_stop skip bytes)
length_to_stop zero (b ∷ bytes) =
    if is_last_stop (b ∷ bytes) then Some 1
    else elim (piece_length (b ∷ bytes)) [ None ↦ None | Some n ↦ farther 1 (length_to_stop (n - 1) bytes) ]
