-- How the extension of blocks ends.
use Rattle.std.specs.Prelude.{ℕ, Bool, true, false, if◌then◌else◌, List, [], ◌∷◌, sum_by}
use Rattle.std.specs.List.{flat_map, list_all, list_any}
use Rattle.scasp_answers.specs.Blocks.States.{Entry, block, ended_entry, rejected_entry}
use Rattle.scasp_extend_parts.specs.declared.errors.ExtendErr.{ExtendErr}
use Rattle.scasp_extend_parts.specs.declared.errors.ExtendErr.TheVariants as obstacle
use Rattle.scasp_syntax.specs.Tm.{Tm}
use Rattle.scasp_syntax.specs.declared.program.Program.{Program}
use Rattle.scasp_command_extend.specs.Outcomes.{Outcome, model, outcome_of, stopped}
use Rattle.scasp_command_extend.specs.declared.ends.Extended.{Extended}
use Rattle.scasp_command_extend.specs.declared.ends.Extended.TheVariants.{Models, NoModel, Refused}

abbrev pub obstacle_end : ExtendErr → Extended
obstacle_end (obstacle.Refused fault) = Refused
obstacle_end (obstacle.Joins fault) = NoModel
obstacle_end obstacle.Given = NoModel
obstacle_end obstacle.TooLarge = NoModel
obstacle_end obstacle.Overflow = NoModel
obstacle_end (obstacle.NotClosed at) = NoModel
obstacle_end obstacle.Memory = NoModel

-- how that of one block ends
abbrev pub end_by : Outcome → Extended
end_by (model atoms) = Models
end_by (stopped why) = obstacle_end why

-- of an entry that is a block
abbrev pub entry_ends : Program → List Tm → Entry → List Extended
entry_ends p d (block n c) = end_by (outcome_of p d c) ∷ []
entry_ends p d (ended_entry e q) = []
entry_ends p d (rejected_entry q n at why) = []

abbrev pub block_ends : Program → List Tm → List Entry → List Extended
block_ends p d entries = flat_map (entry_ends p d) entries

-- ---- of all blocks

abbrev pub is_model : Extended → Bool
is_model Models = true
is_model NoModel = false
is_model Refused = false

abbrev pub is_refused : Extended → Bool
is_refused Models = false
is_refused NoModel = false
is_refused Refused = true

-- a block is refused; or none is, and above one there is no model; or above each there is one
abbrev pub whole_end : List Extended → Extended
whole_end ends = if list_any is_refused ends then Refused else if list_all is_model ends then Models else NoModel

abbrev pub models_in : Extended → ℕ
models_in Models = 1
models_in NoModel = 0
models_in Refused = 0

-- how many models there are
abbrev pub model_count : List Extended → ℕ
model_count ends = sum_by models_in ends

abbrev pub extended_of : Program → List Tm → List Entry → Extended
extended_of p d entries = whole_end (block_ends p d entries)
