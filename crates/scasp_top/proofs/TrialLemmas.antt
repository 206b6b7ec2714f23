-- The line of the trial program.
use Rattle.std.proofs.Common.{◌≡◌, ℕ, List, Some, Result, Ok, Err, IfOk, subst}
use Rattle.scasp_command_inputs.proofs.InputLemmas.{line-widen}
use Rattle.scasp_command_inputs.specs.Halts.{IfLine}
use Rattle.scasp_command_inputs.specs.Inputs.{IsProgram, RefusesProgram}
use Rattle.scasp_command_inputs.specs.declared.halt.Halt.{Halt}
use Rattle.scasp_gen.specs.Trial.{trial_text}
use Rattle.scasp_syntax.specs.declared.program.Program.{Program}
use Rattle.scasp_top.specs.Outputs.{Tries, TriesNodes, is_refused, is_tried}

pub line-tried : {E : Type 0} (n : ℕ) (bytes : List ℕ) (p : Program) (names : List (List ℕ)) (r : Result Halt E) → bytes ≡ trial_text n
    → IsProgram (Some bytes) p names → IfOk r (λ h. IfLine h (Tries n p names)) → IfOk r (λ h. IfLine h (TriesNodes n))
line-tried n bytes p names (Ok h) same read line =
    let is : IsProgram (Some (trial_text n)) p names = subst (λ (b : List ℕ). IsProgram (Some b) p names) same read in
    line-widen h (Tries n p names) (TriesNodes n) line (λ text status t. is_tried p names is t)
line-tried n bytes p names (Err e) same read line = line

pub line-refused : (n : ℕ) (bytes : List ℕ) (h : Halt) → bytes ≡ trial_text n → IfLine h (RefusesProgram bytes) → IfLine h (TriesNodes n)
line-refused n bytes h same line =
    line-widen h (RefusesProgram bytes) (TriesNodes n) line (λ text status r. is_refused (subst (λ (b : List ℕ). RefusesProgram b text status) same r))
