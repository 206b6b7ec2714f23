-- The tokens of a text, with their places. The last one, and only it, is the end or the first fault.
use Rattle.std.specs.Prelude.{ℕ, zero, suc, ◌+◌, ◌-◌, ◌<◌, ◌≤◌, ◌||◌, ◌==◌, nat_lt, List, [], ◌∷◌, length, take, drop, codes, if◌then◌else◌, None, Some}
use Rattle.std.specs.List.{take_while}
use Rattle.std.specs.Str.{bytes_eq}
use Rattle.scasp_reader_tokens.specs.declared.token.Token.{Token}
use Rattle.scasp_reader_tokens.specs.declared.token.Token.TheVariants as token
use Rattle.scasp_reader_tokens.specs.declared.token.Placed.{Placed}
use Rattle.scasp_reader_tokens.specs.declared.token.Front.{Front}
use Rattle.scasp_reader_tokens.specs.declared.token.Front.TheVariants.{Gap, Found, Last}
use Rattle.scasp_reader_tokens.specs.Bytes.{is_blank, is_lower, is_upper, is_digit, is_name_byte, begins}
use Rattle.scasp_reader_tokens.specs.Comments.{line_length, block_length}
use Rattle.scasp_reader_tokens.specs.Quoted.{quoted_length, text_of, good_length}
use Rattle.scasp_reader_tokens.specs.Numbers.{digits, decimals, written_length, literal_value}
use Rattle.scasp_reader_tokens.specs.Signs.{signs, entry_at}
use Rattle.scasp_reader_tokens.specs.Directives.{begins_directive, is_skipped_name, is_abducible_name, length_to_stop}

-- ---- what stands at the front: `Gap` without a token, `Found` with one, of so many bytes; `Last`, so many bytes on, behind which nothing is looked for

abbrev pub block_comment : List ℕ → Front
block_comment bytes = elim (block_length bytes) [ None ↦ Last token.Unclosed 0 | Some n ↦ Gap n ]

abbrev pub word_token : List ℕ → Token
word_token text = if bytes_eq text (codes "not") then token.Not else token.Name text

abbrev pub word : List ℕ → Front
word bytes = let text = take_while is_name_byte bytes in Found (word_token text) (length text)

abbrev pub variable : List ℕ → Front
variable bytes = let text = take_while is_name_byte bytes in Found (token.Variable text) (length text)

-- the bytes between two quotes
abbrev pub between_quotes : List ℕ → Front
between_quotes bytes =
    if nat_lt (good_length bytes) (length bytes) then Last token.BadByte (good_length bytes + 1) else Found (token.Name (text_of bytes)) (length bytes + 2)

abbrev pub quoted_name : List ℕ → Front
quoted_name bytes = elim (quoted_length (drop 1 bytes)) [ None ↦ Last token.Unclosed 0 | Some n ↦ between_quotes (take n (drop 1 bytes)) ]

abbrev pub number : List ℕ → Front
number bytes =
    let whole = digits bytes in
    let part = decimals (drop (length whole) bytes) in
    Found (token.Number (literal_value whole part)) (written_length whole part)

-- a directive of a name of four letters
abbrev pub skipped_directive : List ℕ → Front
skipped_directive bytes = elim (length_to_stop 0 (drop 5 bytes)) [ None ↦ Last token.UnclosedDirective 0 | Some n ↦ Found token.SkippedDirective (n + 5) ]

-- a directive of this name: one that is skipped, `#abducible`, or another
abbrev pub directive_of : List ℕ → List ℕ → Front
directive_of name bytes =
    if is_skipped_name name then skipped_directive bytes
    else (if is_abducible_name name then Found token.Abducible (length name + 1) else Last token.OtherDirective 0)

abbrev pub directive : List ℕ → Front
directive bytes = directive_of (take_while is_name_byte (drop 1 bytes)) bytes

-- a sign, a directive, or a byte that begins no token
abbrev pub sign_or_directive : List ℕ → Front
sign_or_directive bytes =
    elim (entry_at signs bytes) [
      | None ↦ (if begins_directive bytes then directive bytes else Last token.BadByte 0)
      | Some e ↦ Found (token.Sign e.sign) (length e.text)
    ]

abbrev pub front : List ℕ → Front
front [] = Last token.End 0
front (b ∷ bytes) =
    if is_blank b then Gap 1
    else (if b == 37 then Gap (line_length (b ∷ bytes))
    else (if begins (b ∷ bytes) (codes "/*") then block_comment (b ∷ bytes)
    else (if is_lower b then word (b ∷ bytes)
    else (if b == 39 then quoted_name (b ∷ bytes)
    else (if is_upper b || b == 95 then variable (b ∷ bytes)
    else (if is_digit b then number (b ∷ bytes)
    else sign_or_directive (b ∷ bytes)))))))

-- what stands at the front has some bytes, and of them there are so many
abbrev pub IsWithin : ℕ → Front → Type 0
IsWithin len (Gap n) = (0 < n) × (n ≤ len)
IsWithin len (Found t n) = (0 < n) × (n ≤ len)
IsWithin len (Last t n) = n ≤ len

-- ---- all tokens

abbrev pub placed : ℕ → Token → Placed
placed at t = record { at = at; token = t }

-- the tokens from a place on, where `rest` gives those behind so many bytes
abbrev pub tokens_from : ℕ → Front → (ℕ → List Placed) → List Placed
tokens_from at (Gap n) rest = rest n
tokens_from at (Found t n) rest = placed at t ∷ rest n
tokens_from at (Last t n) rest = placed (at + n) t ∷ []

-- The tokens of the bytes that stand from this place on. The first `skip` of them belong to what stands before.
abbrev pub tokens_behind : ℕ → ℕ → List ℕ → List Placed
tokens_behind skip at [] = placed at token.End ∷ []
tokens_behind (suc skip) at (b ∷ bytes) = tokens_behind skip (at + 1) bytes
tokens_behind zero at (b ∷ bytes) = tokens_from at (front (b ∷ bytes)) (λ n. tokens_behind (n - 1) (at + 1) bytes)

unfoldable pub tokens_of : List ℕ → List Placed
tokens_of bytes = tokens_behind 0 0 bytes
