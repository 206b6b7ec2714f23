-- The status with which an extension ends, and what is printed where no read fails.
use Rattle.std.proofs.Common.{◌⊎◌, inl, inr, ℕ, Option, None, Some, List}
use Rattle.scasp_command_inputs.specs.Inputs.{Failed, Outside, without_faults}
use Rattle.scasp_command_inputs.specs.declared.status.Status.{Status}
use Rattle.scasp_command_inputs.specs.declared.status.Status.TheVariants.{Memory}
use Rattle.scasp_command_inputs.proofs.FaultLemmas.{EndsBy, IsQuiet, answers-end, answers-without, domain-ends, domain-without, memory-quiet, program-ends, program-without, quiet, wider}
use Rattle.scasp_command_extend.specs.Commands.{AnyFailed, Extends, extend_status, extended, nothing_extended, without_answers, without_domain, without_program}
use Rattle.scasp_command_extend.specs.declared.ends.Extended.{Extended}
use Rattle.scasp_command_extend.specs.declared.ends.Extended.TheVariants.{Models, NoModel, Refused}

status-quiet : (end : Option Extended) → IsQuiet (extend_status end)
status-quiet None = (λ e. cc, λ e. cc)
status-quiet (Some Models) = (λ e. cc, λ e. cc)
status-quiet (Some NoModel) = (λ e. cc, λ e. cc)
status-quiet (Some Refused) = (λ e. cc, λ e. cc)

module _ (o : Outside) (program answers domain text : List ℕ) (s : Status) where
  pub extends-end : Extends o program answers domain text s → EndsBy (AnyFailed o program answers domain) s
  extends-end (nothing_extended says) = quiet (AnyFailed o program answers domain) s Memory says.ending_is memory-quiet
  extends-end (without_program line) = wider (Failed o program) (AnyFailed o program answers domain) s inl (program-ends o _ program text s line)
  extends-end (without_answers p names is line) = wider (Failed o answers) (AnyFailed o program answers domain) s (λ h. inr (inl h)) (answers-end o names answers text s line)
  extends-end (without_domain p names entries table is has line) = wider (Failed o domain) (AnyFailed o program answers domain) s (λ h. inr (inr h)) (domain-ends o table domain text s line)
  extends-end (extended p names entries table d last is has members e) = quiet (AnyFailed o program answers domain) s (extend_status e.end) e.ending_is (status-quiet e.end)

  pub extends-without : ¬ AnyFailed o program answers domain → Extends o program answers domain text s → Extends (without_faults o) program answers domain text s
  extends-without fine (nothing_extended says) = nothing_extended says
  extends-without fine (without_program line) = without_program (program-without o _ program text s (λ h. fine (inl h)) line)
  extends-without fine (without_answers p names is line) = without_answers p names is (answers-without o names answers text s (λ h. fine (inr (inl h))) line)
  extends-without fine (without_domain p names entries table is has line) =
      without_domain p names entries table is has (domain-without o table domain text s (λ h. fine (inr (inr h))) line)
  extends-without fine (extended p names entries table d last is has members e) = extended p names entries table d last is has members e
