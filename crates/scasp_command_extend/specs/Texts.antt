-- The text of a file's blocks: what came of extending each over a domain, and the number of models.
use Rattle.std.specs.Prelude.{ℕ, List, [], ◌∷◌, ◌++◌, codes, decimal}
use Rattle.std.specs.List.{concat, flat_map}
use Rattle.scasp_answers.specs.Blocks.States.{Entry, block, ended_entry, rejected_entry}
use Rattle.scasp_cert.specs.Certificate.{Certificate}
use Rattle.scasp_command_check.specs.Texts.{reason_words}
use Rattle.scasp_extend_parts.specs.declared.errors.ExtendErr.{ExtendErr}
use Rattle.scasp_extend_parts.specs.declared.errors.ExtendErr.TheVariants as obstacle
use Rattle.scasp_print_atoms.specs.Lines.{atom_count, atom_lines}
use Rattle.scasp_syntax.specs.Tm.{Tm}
use Rattle.scasp_syntax.specs.declared.atom.Atom.{Atom}
use Rattle.scasp_syntax.specs.declared.program.Program.{Program}
use Rattle.scasp_command_extend.specs.Ends.{block_ends, model_count}
use Rattle.scasp_command_extend.specs.Outcomes.{Outcome, model, outcome_of, stopped}

-- what stands in the way; the words of a sample that does not serve and of want of memory stand on no line
abbrev pub obstacle_words : ExtendErr → List ℕ
obstacle_words (obstacle.Refused fault) = codes "refused " ++ decimal fault.at ++ codes " " ++ reason_words fault.reason
obstacle_words (obstacle.Joins fault) = codes "joins " ++ decimal fault.rule
obstacle_words obstacle.Given = codes "given"
obstacle_words obstacle.TooLarge = codes "large"
obstacle_words obstacle.Overflow = codes "overflow"
obstacle_words (obstacle.NotClosed at) = codes "open " ++ decimal at
obstacle_words obstacle.Memory = codes "memory"

-- how many atoms a model has, and a line for each
abbrev pub model_words : List (List ℕ) → List Atom → List ℕ
model_words names atoms = codes "model " ++ decimal (atom_count atoms) ++ codes "\n" ++ atom_lines names atoms

abbrev pub outcome_words : List (List ℕ) → Outcome → List ℕ
outcome_words names (model atoms) = model_words names atoms
outcome_words names (stopped why) = obstacle_words why ++ codes "\n"

-- the numbers of the query and of the answer
abbrev pub block_head : ℕ → Certificate → List ℕ
block_head n c = decimal c.query ++ codes "." ++ decimal n ++ codes " "

-- what came of answer n
unfoldable pub block_text : List (List ℕ) → Outcome → ℕ → Certificate → List ℕ
block_text names outcome n c = block_head n c ++ outcome_words names outcome

-- the text of an entry that is a block
abbrev pub entry_texts : List (List ℕ) → Program → List Tm → Entry → List (List ℕ)
entry_texts names p d (block n c) = block_text names (outcome_of p d c) n c ∷ []
entry_texts names p d (ended_entry e q) = []
entry_texts names p d (rejected_entry q n at why) = []

abbrev pub block_texts : List (List ℕ) → Program → List Tm → List Entry → List (List ℕ)
block_texts names p d entries = flat_map (entry_texts names p d) entries

unfoldable pub extended_line : ℕ → List ℕ
extended_line n = codes "extended " ++ decimal n ++ codes "\n"

-- the text of each block, and behind them how many models there are
abbrev pub extend_text : List (List ℕ) → Program → List Tm → List Entry → List ℕ
extend_text names p d entries = concat (block_texts names p d entries) ++ extended_line (model_count (block_ends p d entries))
