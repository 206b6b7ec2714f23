-- What is read from the bytes of an answer file: its entries, or the first fault with its place.
use Rattle.std.specs.Prelude.{ℕ, ◌+◌, ◌-◌, ◌==◌, nat_lt, nat_le, Bool, true, false, if◌then◌else◌, List, [], ◌∷◌, ◌++◌, length, take, drop, flat_map, codes, bytes_eq, Option, None, Some, Result, Ok, Err}
use Rattle.scasp_num.specs.Arithmetic.{◌>>=◌}
use Rattle.scasp_reader_terms.specs.Names.{place_in}
use Rattle.scasp_answers_terms.specs.Tokens.Tokens.{Token, tokens_in}
use Rattle.scasp_answers_terms.specs.Tokens.Readers.{number_at}
use Rattle.scasp_answers_terms.specs.Tokens.Forms.{line_in}
use Rattle.scasp_answers_terms.specs.Tokens.Bounds.{is_place, line_fits}
use Rattle.scasp_copies.specs.Pieces.{Piece, piece_of, piece_text}
use Rattle.scasp_copies.specs.Copies.{begins, copy_of}
pub use Rattle.scasp_copies.specs.Pieces.{Split, with_byte, split_lines, indent}
use Rattle.scasp_answers.specs.Blocks.Blocks.{at}
use Rattle.scasp_answers.specs.Blocks.States.{Entry, Phase, at_start, between, in_given, in_sample, in_tree, in_clashes, in_map, State, first_state, next_state}
use Rattle.scasp_answers.specs.declared.blocks.fault.AnswerKind.{AnswerKind}
use Rattle.scasp_answers.specs.declared.blocks.fault.AnswerKind.TheVariants as kind
use Rattle.scasp_answers.specs.declared.blocks.fault.AnswerFault.{AnswerFault}
use Rattle.scasp_answers.specs.declared.blocks.version.Version.{Version}
use Rattle.scasp_answers.specs.declared.blocks.version.Version.TheVariants as version

-- what is read of a file
abbrev pub Reading : Type 0
Reading = Result (List Entry) AnswerFault

abbrev pub fault : ℕ → AnswerKind → Reading
fault at kind = Err (record { at = at; kind = kind })

-- ---- lines

-- a line that begins with `%`
abbrev pub is_remark : List ℕ → Bool
is_remark [] = false
is_remark (b ∷ bs) = b == 37

-- ---- faults

abbrev pub in_order : Option State → Result State AnswerKind
in_order None = Err kind.Order
in_order (Some s) = Ok s

-- the state behind the line, or its fault: it has no form, then a number too large, then it may not stand there
abbrev pub judged : List (List ℕ) → State → Piece → Result State AnswerKind
judged names s p =
    elim (line_in (place_in names) p.words) [
      | None ↦ Err kind.Line
      | Some l ↦ if line_fits l then in_order (next_state s (at p.depth l)) else Err kind.NumberTooLarge
    ]

-- the place of a line's fault: behind the indent for what the line says, else its first byte
abbrev pub fault_place : ℕ → List ℕ → AnswerKind → ℕ
fault_place at line kind.Line = at + indent line
fault_place at line kind.NumberTooLarge = at + indent line
fault_place at line kind.Order = at
fault_place at line kind.Cut = at
fault_place at line kind.Limit = at

-- ---- both versions

-- What has been read of a file. In version 2 `told` has the numbered lines of the block so far, copies written out, and `room` is how
-- many bytes the text of version 1 may still have that what was read stands for, without remarks.
pub record Versioned : Type 0 where
  pub state : State
  pub version : Version
  pub told : List Piece
  pub room : ℕ

-- the longest file that is read
abbrev pub byte_limit : ℕ
byte_limit = 67108864

abbrev pub first_versioned : Versioned
first_versioned = record { state = first_state; version = version.One; told = []; room = byte_limit }

-- the header of version 2, which otherwise is read as that of version 1
abbrev pub is_second : List ℕ → Bool
is_second words = bytes_eq words (codes "scasp 2")

abbrev pub first_words : List ℕ → List ℕ
first_words words = if is_second words then codes "scasp 1" else words

abbrev pub as_first : Piece → Piece
as_first p = record { depth = p.depth; words = first_words p.words }

abbrev pub version_behind : Version → Piece → Version
version_behind v p = if is_second p.words then version.Two else v

-- the numbered lines of a block begin behind `tree`
abbrev pub told_behind : List Piece → Piece → List Piece
told_behind told p = if bytes_eq p.words (codes "tree") then [] else told ++ p ∷ []

-- version 1 keeps no line
abbrev pub with_line : Version → Versioned → Piece → Versioned
with_line version.One v p = v
with_line version.Two v p = record v { told = told_behind v.told p; room = v.room - length (piece_text p) }

-- the line stands, and the state behind it is s
abbrev pub behind : Versioned → Piece → State → Versioned
behind v p s =
    let w = version_behind v.version p in
    with_line w (record v { state = s; version = w }) p

-- a fault stays, and else this is done
abbrev pub unless_fault : {A B : Type 0} → Result A AnswerKind → (A → Result B AnswerKind) → Result B AnswerKind
unless_fault (Err k) next = Err k
unless_fault (Ok x) next = next x

-- a line that is no copy
abbrev pub plain_judged : List (List ℕ) → Versioned → Piece → Result Versioned AnswerKind
plain_judged names v p = unless_fault (judged names v.state (as_first p)) (λ s. Ok (behind v p s))

abbrev pub all_judged : List (List ℕ) → Versioned → List Piece → Result Versioned AnswerKind
all_judged names v [] = Ok v
all_judged names v (p ∷ ps) = unless_fault (plain_judged names v p) (λ w. all_judged names w ps)

-- The lines of a copy. Where they find no room they are over the limit, if the first of them may stand there.
abbrev pub copy_read : List (List ℕ) → Versioned → List Piece → Result Versioned AnswerKind
copy_read names v ps =
    if nat_le (length (flat_map piece_text ps)) v.room then all_judged names v ps
    else unless_fault (all_judged names v (take 1 ps)) (λ w. Err kind.Limit)

-- a line `copy n` that is so deep: version 1 has none
abbrev pub copy_in_version : Version → List (List ℕ) → Versioned → ℕ → ℕ → Result Versioned AnswerKind
copy_in_version version.One names v n depth = Err kind.Order
copy_in_version version.Two names v n depth = elim (copy_of n depth v.told) [ None ↦ Err kind.Order | Some ps ↦ copy_read names v ps ]

abbrev pub copy_judged : List (List ℕ) → Versioned → ℕ → ℕ → Result Versioned AnswerKind
copy_judged names v n depth = if is_place n then copy_in_version v.version names v n depth else Err kind.NumberTooLarge

abbrev pub alone : ℕ × List Token → Option ℕ
alone (n, []) = Some n
alone (n, t ∷ ts) = None

abbrev pub number_alone : List ℕ → Option ℕ
number_alone bytes = number_at (tokens_in bytes) >>= alone

-- the number of a line `copy n`
abbrev pub copy_in : List ℕ → Option ℕ
copy_in words = if begins (codes "copy ") words then number_alone (drop 5 words) else None

abbrev pub line_judged : List (List ℕ) → Versioned → Piece → Result Versioned AnswerKind
line_judged names v p = elim (copy_in p.words) [ None ↦ plain_judged names v p | Some n ↦ copy_judged names v n p.depth ]

-- ---- files

abbrev pub proceeds : {A : Type 0} → Result A AnswerKind → (AnswerKind → ℕ) → (A → Reading) → Reading
proceeds (Err k) place behind = fault (place k) k
proceeds (Ok s) place behind = behind s

abbrev pub is_between : Phase → Bool
is_between at_start = false
is_between between = true
is_between in_given = false
is_between in_sample = false
is_between in_tree = false
is_between in_clashes = false
is_between in_map = false

-- Reading goes on at the byte `at`; `rest` is what stands behind the last line feed.
abbrev pub read_lines : List (List ℕ) → Versioned → ℕ → List (List ℕ) → List ℕ → Reading
read_lines names v at [] [] = if is_between v.state.phase then Ok v.state.entries else fault at kind.Cut
read_lines names v at [] (b ∷ bs) = fault at kind.Cut
read_lines names v at (line ∷ lines) rest =
    if is_remark line then read_lines names v (at + length line + 1) lines rest
    else proceeds (line_judged names v (piece_of line)) (fault_place at line) (λ w. read_lines names w (at + length line + 1) lines rest)

-- what is read of these bytes, with the names in the table
unfoldable pub file_in : List (List ℕ) → List ℕ → Reading
file_in names bytes =
    if nat_lt byte_limit (length bytes) then fault byte_limit kind.Limit
    else read_lines names first_versioned 0 (split_lines bytes).lines (split_lines bytes).rest
