-- One line of a file of commands.
use Rattle.std.proofs.Common.{◌≡◌, ◌≢◌, ◌∙◌, ℕ, ◌+◌, ◌<◌, ◌≤◌, Bool, true, false, List, [], ◌∷◌, ◌++◌, length, take, drop, Option, None, Some, Result, Ok, Err, refl, sym, ap, arith, append_assoc}
use Rattle.std.proofs.lemmas.List.{length-take-le}
use Rattle.std.specs.Prelude.{◌==◌}
use Rattle.std.specs.List.{position_or_len}
use Rattle.scasp_answers.proofs.FilesLemmas.ByteLemmas.{split-rest, split-line}
use Rattle.scasp_serve_words.specs.Commands.{command_in}
use Rattle.scasp_serve_words.specs.Reading.{Reading, begins_with, commands_at}
use Rattle.scasp_answers.specs.Blocks.Files.{split_lines}
use Rattle.scasp_serve_words.specs.declared.command.Command.{Command}

-- what is read of these bytes from here on
abbrev pub read_on : ℕ → List ℕ → Reading
read_on at bytes = commands_at at (split_lines bytes).lines (split_lines bytes).rest

-- these commands stand before what is read
abbrev pub ahead : List Command → Reading → Reading
ahead commands (Ok more) = Ok (commands ++ more)
ahead commands (Err at) = Err at

pub ahead-none : (r : Reading) → ahead [] r ≡ r
ahead-none (Ok more) = refl
ahead-none (Err at) = refl

ahead-one : (commands : List Command) (c : Command) (at : ℕ) (r : Reading) → ahead commands (begins_with (Some c) at r) ≡ ahead (commands ++ c ∷ []) r
ahead-one commands c at (Ok more) = ap Ok (sym (append_assoc commands (c ∷ []) more))
ahead-one commands c at (Err place) = refl

abbrev pub len_of : List ℕ → ℕ
len_of bytes = position_or_len (λ b. b == 10) bytes

line-read : (at : ℕ) (bytes : List ℕ) → len_of bytes < length bytes
    → read_on at bytes ≡ begins_with (command_in (take (len_of bytes) bytes)) at (read_on (at + (len_of bytes + 1)) (drop (len_of bytes + 1) bytes))
line-read at bytes within =
    let len = len_of bytes in
    let others = split_lines (drop (len + 1) bytes) in
    let fits : len ≤ length bytes = omega (arith, within) in
    let n : at + length (take len bytes) + 1 ≡ at + (len + 1) = omega (arith, length-take-le len bytes fits) in
    ap (λ x. commands_at at x.lines x.rest) (split-line bytes within)
    ∙ ap (λ m. begins_with (command_in (take len bytes)) at (commands_at m others.lines others.rest)) n

-- the first line is a command
pub reads-on : (commands : List Command) (c : Command) (at len : ℕ) (bytes : List ℕ) → len ≡ len_of bytes → len < length bytes → command_in (take len bytes) ≡ Some c
    → ahead commands (read_on at bytes) ≡ ahead (commands ++ c ∷ []) (read_on (at + (len + 1)) (drop (len + 1) bytes))
reads-on commands c at len bytes is within command =
    let there : len_of bytes < length bytes = omega (arith, is, within) in
    let line = line-read at bytes there in
    ap (ahead commands) (rw (sym is) at line)
    ∙ ap (λ o. ahead commands (begins_with o at (read_on (at + (len + 1)) (drop (len + 1) bytes)))) command
    ∙ ahead-one commands c at (read_on (at + (len + 1)) (drop (len + 1) bytes))

-- it is none
pub refuses-line : (at len : ℕ) (bytes : List ℕ) → len ≡ len_of bytes → len < length bytes → command_in (take len bytes) ≡ None → read_on at bytes ≡ Err at
refuses-line at len bytes is within none =
    let there : len_of bytes < length bytes = omega (arith, is, within) in
    let line = line-read at bytes there in
    (rw (sym is) at line) ∙ ap (λ o. begins_with o at (read_on (at + (len + 1)) (drop (len + 1) bytes))) none

no-line : (at : ℕ) (bytes : List ℕ) → bytes ≢ [] → commands_at at [] bytes ≡ Err at
no-line at [] there = absurd (there refl)
no-line at (b ∷ bs) there = refl

pub some-byte : (bytes : List ℕ) (b : Bool) → b ≡ (length bytes == 0) → b ≡ false → bytes ≢ []
some-byte [] b is full e = cc (is, full)
some-byte (x ∷ xs) b is full e = cc e

-- no line ends
pub lacks-end : (at : ℕ) (bytes : List ℕ) → length bytes ≤ len_of bytes → bytes ≢ [] → read_on at bytes ≡ Err at
lacks-end at bytes all there = ap (λ x. commands_at at x.lines x.rest) (split-rest bytes all) ∙ no-line at bytes there
