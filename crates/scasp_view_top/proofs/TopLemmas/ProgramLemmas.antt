-- What is told of a program in a file.
use Rattle.std.proofs.Common.{ℕ, Option, List}
use Rattle.scasp_command_inputs.proofs.InputLemmas.{line-widen}
use Rattle.scasp_command_inputs.specs.Halts.{IfLine}
use Rattle.scasp_command_inputs.specs.Inputs.{IsNoProgram, IsWritten, Says, outside}
use Rattle.scasp_command_inputs.specs.declared.halt.Halt.{Halt}
use Rattle.scasp_command_inputs.specs.declared.status.Status.TheVariants.{Done}
use Rattle.scasp_syntax.specs.declared.program.Program.{Program}
use Rattle.scasp_view_top.specs.Program.Lines.{numbered_text}
use Rattle.scasp_view_top.specs.Top.Programs.{TellsProgram, no_program, program}

module _ (told : List ℕ → Option (List ℕ)) (before after : List ℕ → ℕ) (file : List ℕ) (h : Halt) where
  pub no-program : IfLine h (IsNoProgram (outside told before after) file) → IfLine h (TellsProgram (outside told before after) file)
  no-program line = line-widen h (IsNoProgram (outside told before after) file) (TellsProgram (outside told before after) file) line (λ text status no. no_program no)

  pub numbered-program : (p : Program) (names : List (List ℕ)) → IsWritten (told file) p names
      → IfLine h (Says (numbered_text names p.abducibles p.clauses p.queries) Done) → IfLine h (TellsProgram (outside told before after) file)
  numbered-program p names is says =
      line-widen h (Says (numbered_text names p.abducibles p.clauses p.queries) Done) (TellsProgram (outside told before after) file) says
      (λ text status s. program p names is s)
