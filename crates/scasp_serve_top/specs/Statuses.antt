-- The statuses with which the serving of commands ends, among those of `scasp`.
use Rattle.std.specs.Prelude.{⊤}
use Rattle.scasp_command_inputs.specs.declared.status.Status.{Status}
use Rattle.scasp_command_inputs.specs.declared.status.Status.TheVariants as status
use Rattle.scasp_serve_top.specs.declared.status.ServeStatus.{ServeStatus}
use Rattle.scasp_serve_top.specs.declared.status.ServeStatus.TheVariants.{Done, Usage, Text, Read, Write, Memory, Limit}

abbrev pub status_of : ServeStatus → Status
status_of Done = status.Done
status_of Usage = status.Usage
status_of Text = status.Text
status_of Read = status.Read
status_of Write = status.Write
status_of Memory = status.Memory
status_of Limit = status.Limit

-- the status is one of those
abbrev pub IsServeStatus : Status → Type 0
IsServeStatus status.Done = ⊤
IsServeStatus status.NoAnswer = ⊥
IsServeStatus status.Usage = ⊤
IsServeStatus status.Text = ⊤
IsServeStatus status.Read = ⊤
IsServeStatus status.Write = ⊤
IsServeStatus status.Spent = ⊥
IsServeStatus status.Overflow = ⊥
IsServeStatus status.Memory = ⊤
IsServeStatus status.Refused = ⊥
IsServeStatus status.Limit = ⊤
IsServeStatus status.NoModel = ⊥
