-- One line of a file.
use Rattle.std.proofs.Common.{◌≡◌, ◌∙◌, ℕ, ◌+◌, ◌<◌, ◌≤◌, Bool, true, false, List, [], ◌∷◌, length, take, drop, None, Some, Result, Ok, Err, refl, sym, ap, arith}
use Rattle.std.specs.Prelude.{if◌then◌else◌}
use Rattle.std.proofs.lemmas.List.{length-take-le}
use Rattle.scasp_answers.specs.declared.blocks.fault.AnswerFault.{AnswerFault}
use Rattle.scasp_answers.specs.declared.blocks.fault.AnswerKind.{AnswerKind}
use Rattle.scasp_copies.specs.Pieces.{piece_of}
use Rattle.scasp_answers.specs.Blocks.Files.{Reading, fault, is_remark, Versioned, line_judged, fault_place, proceeds, read_lines, split_lines}
use Rattle.scasp_answers.specs.Files.Inside.{Splits}

abbrev pub behind : List (List ℕ) → Versioned → List ℕ → Result Versioned AnswerKind
behind names s line = if is_remark line then Ok s else line_judged names s (piece_of line)

-- how reading goes on behind a line
abbrev pub goes_on : List (List ℕ) → Versioned → ℕ → List ℕ → List (List ℕ) → List ℕ → Reading
goes_on names s at line lines rest = proceeds (behind names s line) (fault_place at line) (λ t. read_lines names t (at + length line + 1) lines rest)

read-line : (names : List (List ℕ)) (s : Versioned) (at : ℕ) (line : List ℕ) (lines : List (List ℕ)) (rest : List ℕ) → read_lines names s at (line ∷ lines) rest ≡ goes_on names s at line lines rest
read-line names s at line lines rest = by (is_remark line) refl
  where
    by : (b : Bool) → is_remark line ≡ b → read_lines names s at (line ∷ lines) rest ≡ goes_on names s at line lines rest
    by true q = rw q refl
    by false q = rw q refl

line-read : (names : List (List ℕ)) (s t : Versioned) (at : ℕ) (line : List ℕ) (lines : List (List ℕ)) (rest : List ℕ) → behind names s line ≡ Ok t
    → read_lines names s at (line ∷ lines) rest ≡ read_lines names t (at + length line + 1) lines rest
line-read names s t at line lines rest e =
    read-line names s at line lines rest ∙ ap (λ j. proceeds j (fault_place at line) (λ u. read_lines names u (at + length line + 1) lines rest)) e

line-fault : (names : List (List ℕ)) (s : Versioned) (k : AnswerKind) (at : ℕ) (line : List ℕ) (lines : List (List ℕ)) (rest : List ℕ) → behind names s line ≡ Err k
    → read_lines names s at (line ∷ lines) rest ≡ fault (fault_place at line k) k
line-fault names s k at line lines rest e =
    read-line names s at line lines rest ∙ ap (λ j. proceeds j (fault_place at line) (λ u. read_lines names u (at + length line + 1) lines rest)) e

-- what is read of these bytes from here on
abbrev pub read_on : List (List ℕ) → Versioned → ℕ → List ℕ → Reading
read_on names s at bytes = read_lines names s at (split_lines bytes).lines (split_lines bytes).rest

-- the first line of the bytes is read
pub reads_on : (names : List (List ℕ)) (s t : Versioned) (at len : ℕ) (bytes : List ℕ) → len < length bytes → Splits bytes (Some len) → behind names s (take len bytes) ≡ Ok t
    → read_on names s at bytes ≡ read_on names t (at + (len + 1)) (drop (len + 1) bytes)
reads_on names s t at len bytes h e j =
    let line = take len bytes in
    let others = split_lines (drop (len + 1) bytes) in
    let within : len ≤ length bytes = omega arith in
    let n : at + length line + 1 ≡ at + (len + 1) = omega (arith, length-take-le len bytes within) in
    ap (λ x. read_lines names s at x.lines x.rest) e
    ∙ line-read names s t at line others.lines others.rest j
    ∙ ap (λ m. read_lines names t m others.lines others.rest) n

-- the first line of the bytes is at fault
pub stops_there : (names : List (List ℕ)) (s : Versioned) (at len : ℕ) (bytes : List ℕ) (f : AnswerFault) → Splits bytes (Some len)
    → behind names s (take len bytes) ≡ Err f.kind → f.at ≡ fault_place at (take len bytes) f.kind → read_on names s at bytes ≡ Err f
stops_there names s at len bytes f e j p =
    let line = take len bytes in
    let others = split_lines (drop (len + 1) bytes) in
    ap (λ x. read_lines names s at x.lines x.rest) e
    ∙ line-fault names s f.kind at line others.lines others.rest j
    ∙ ap (λ m. fault m f.kind) (sym p)

-- no line ends
pub ends_there : (names : List (List ℕ)) (s : Versioned) (at : ℕ) (bytes : List ℕ) → Splits bytes None → read_on names s at bytes ≡ read_lines names s at [] bytes
ends_there names s at bytes e = ap (λ x. read_lines names s at x.lines x.rest) e
