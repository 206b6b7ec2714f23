-- What is printed where the answers of a file are extended over the domain of another, and the status with which that ends.
use Rattle.std.specs.Prelude.{◌≡◌, ◌⊎◌, ℕ, All, Option, None, Some, List, [], take}
use Rattle.std.specs.List.{concat}
use Rattle.scasp_answers.specs.Blocks.States.{Entry}
use Rattle.scasp_command_inputs.specs.Domains.{HasMembers, IsNoDomain}
use Rattle.scasp_command_inputs.specs.Inputs.{Failed, HasAnswers, IsNoAnswers, IsNoProgram, IsProgram, Outside, Says}
use Rattle.scasp_command_inputs.specs.declared.status.Status.{Status}
use Rattle.scasp_command_inputs.specs.declared.status.Status.TheVariants as status
use Rattle.scasp_syntax.specs.Tm.{Tm}
use Rattle.scasp_syntax.specs.declared.program.Program.{Program}
use Rattle.scasp_command_extend.specs.Ends.{extended_of}
use Rattle.scasp_command_extend.specs.Outputs.{KeepsOutcome}
use Rattle.scasp_command_extend.specs.Texts.{block_texts, extend_text}
use Rattle.scasp_command_extend.specs.declared.ends.Extended.{Extended}
use Rattle.scasp_command_extend.specs.declared.ends.Extended.TheVariants.{Models, NoModel, Refused}

-- of an extension that ended so, or was cut off
abbrev pub extend_status : Option Extended → Status
extend_status None = status.Memory
extend_status (Some Models) = status.Done
extend_status (Some NoModel) = status.NoModel
extend_status (Some Refused) = status.Refused

-- The text of an extension that ended so. Of one that was cut off the texts of the first blocks were printed, each whole.
abbrev pub IsExtension : List (List ℕ) → Program → List Tm → List Entry → List ℕ → Option Extended → Type 0
IsExtension names p d entries text None = (count : ℕ) × (text ≡ concat (take count (block_texts names p d entries)))
IsExtension names p d entries text (Some end) = (text ≡ extend_text names p d entries) × (end ≡ extended_of p d entries)

-- the extension of the blocks of a file, whole or cut off; what their texts say holds
pub record ExtendsBlocks (names : List (List ℕ)) (p : Program) (d : List Tm) (entries : List Entry) (text : List ℕ) (ending : Status) : Type 0 where
  pub end : Option Extended
  pub extension : IsExtension names p d entries text end
  pub ending_is : ending ≡ extend_status end
  pub says : All (KeepsOutcome p d) entries

-- a read of one of the files failed
abbrev pub AnyFailed : Outside → List ℕ → List ℕ → List ℕ → Type 0
AnyFailed o program answers domain = Failed o program ⊎ (Failed o answers ⊎ Failed o domain)

-- Of the program, the answers and the domain in these files, which are read in this order, each behind the names of those before. Want of memory may
-- come before anything is printed.
pub data Extends (o : Outside) (program answers domain text : List ℕ) (ending : Status) : Type 0 where
  nothing_extended : Says [] status.Memory text ending → Extends o program answers domain text ending
  without_program : IsNoProgram o program text ending → Extends o program answers domain text ending
  without_answers : (p : Program) (names : List (List ℕ)) → IsProgram (o.told program) p names → IsNoAnswers o answers names text ending
      → Extends o program answers domain text ending
  without_domain : (p : Program) (names : List (List ℕ)) (entries : List Entry) (table : List (List ℕ)) → IsProgram (o.told program) p names
      → HasAnswers (o.told answers) names entries table → IsNoDomain o domain table text ending → Extends o program answers domain text ending
  extended : (p : Program) (names : List (List ℕ)) (entries : List Entry) (table : List (List ℕ)) (d : List Tm) (last : List (List ℕ))
      → IsProgram (o.told program) p names → HasAnswers (o.told answers) names entries table → HasMembers (o.told domain) table d last
      → ExtendsBlocks last p d entries text ending → Extends o program answers domain text ending
