-- What is printed in place of what the words ask for.
use Rattle.std.specs.Prelude.{⊤, ℕ, List, []}
use Rattle.scasp_command_inputs.specs.Inputs.{Says}
use Rattle.scasp_command_inputs.specs.declared.halt.Halt.{Halt}
use Rattle.scasp_command_inputs.specs.declared.halt.Halt.TheVariants as halt
use Rattle.scasp_command_inputs.specs.declared.status.Status.{Status}
use Rattle.scasp_command_inputs.specs.declared.status.Status.TheVariants.{Memory}

-- where a line is printed, this holds of it and the status
abbrev pub IfLine : Halt → (List ℕ → Status → Type 0) → Type 0
IfLine (halt.Line text status) P = P text.items status
IfLine halt.Memory P = ⊤

-- what is printed for it
abbrev pub Tells : Halt → List ℕ → Status → Type 0
Tells (halt.Line line ending) text status = Says line.items ending text status
Tells halt.Memory text status = Says [] Memory text status
