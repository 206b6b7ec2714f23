-- What the sink took, by the status.
use Rattle.std.specs.Prelude.{◌≡◌, ℕ, Option, List}
use Rattle.scasp_io.specs.Counts.{Rose}
use Rattle.scasp_io.specs.Taken.{TakesFirst, TakesWhole}
use Rattle.scasp_command_inputs.specs.declared.status.Status.{Status}
use Rattle.scasp_command_inputs.specs.declared.status.Status.TheVariants.{Write}

-- What the sink took, where this text may be printed with this status, by what it had before and has now, and its counts of faults: a whole text with
-- the status; or a write failed, and it is a first part of some text.
pub data Reports (may : List ℕ → Status → Type 0) (before after : Option (List ℕ)) (faults faults' : ℕ) (status : Status) : Type 0 where
  whole : TakesWhole (λ text. may text status) before after → Reports may before after faults faults' status
  part : status ≡ Write → Rose faults faults' → TakesFirst (λ text. (other : Status) × may text other) before after
      → Reports may before after faults faults' status
