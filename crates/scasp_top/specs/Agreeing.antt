-- What a check prints, and how it ends, is settled by the bytes of both files.
use Rattle.std.specs.Prelude.{◌≡◌, ◌≢◌, ℕ, All, List, Option, Some}
use Rattle.scasp_syntax.specs.declared.program.Program.{Program}
use Rattle.scasp_answers.specs.Blocks.States.{Entry}
use Rattle.scasp_command_check.specs.Meaning.{IsAccepted}
use Rattle.scasp_command_words.specs.declared.command.Command.TheVariants.{Check}
use Rattle.scasp_command_inputs.specs.Inputs.{Outside, without_faults}
use Rattle.scasp_top.specs.Outputs.{Checks, Outputs}
use Rattle.scasp_command_inputs.specs.declared.status.Status.{Status}
use Rattle.scasp_command_inputs.specs.declared.status.Status.TheVariants.{Done, Memory, Refused}

-- Where the bytes of both files are told, no read fails and memory is not wanting, one text alone may be printed, with one status.
abbrev pub ChecksAgree : Type 0
ChecksAgree =
    (program answers : List ℕ) (o : Outside) (bytes blocks : List ℕ) (text other : List ℕ) (end last : Status)
    → o.told program ≡ Some bytes → o.told answers ≡ Some blocks
    → Outputs (Some (Check program answers)) (without_faults o) text end → Outputs (Some (Check program answers)) (without_faults o) other last
    → end ≢ Memory → last ≢ Memory → (text ≡ other) × (end ≡ last)

-- a check of blocks ends as Done only where each is accepted, and as Refused only where one is not
abbrev pub ChecksMean : Type 0
ChecksMean =
    (p : Program) (entries : List Entry) (text : List ℕ) (status : Status) → Checks p entries text status
    → (status ≡ Done → All (IsAccepted p) entries) × (status ≡ Refused → ¬ All (IsAccepted p) entries)
