-- Reading lines one after the other, and the entries that blocks are.
use Rattle.std.specs.Prelude.{ℕ, List, [], ◌∷◌, flat_map, map, Option, Some}
use Rattle.scasp_num.specs.Arithmetic.{◌>>=◌}
use Rattle.scasp_cert.specs.Certificate.{Certificate}
use Rattle.scasp_answers.specs.Blocks.Blocks.{Placed, block_lines}
use Rattle.scasp_answers.specs.Blocks.States.{Entry, block, State, between, first_state, next_state, begins_block, ends_block}

-- the state behind these lines, where each may stand behind those before it
abbrev pub read_placed : State → List Placed → Option State
read_placed s [] = Some s
read_placed s (p ∷ ps) = next_state s p >>= (λ t. read_placed t ps)

-- the state with answer n behind the other entries
abbrev pub with_block : State → Certificate → ℕ → State
with_block s c n = ends_block (begins_block s n c)

-- these entries have been read, and no block is begun
abbrev pub has_read : List Entry → State
has_read entries = record first_state { phase = between; entries = entries }

-- ---- answers, each with its number

abbrev pub blocks_lines : List (ℕ × Certificate) → List Placed
blocks_lines answers = flat_map (λ a. block_lines a.1 a.0) answers

abbrev pub blocks : List (ℕ × Certificate) → List Entry
blocks answers = map (λ a. block a.0 a.1) answers
