-- What private functions alone speak of.
use Rattle.std.specs.Prelude.{Option, None, Some}
use Rattle.scasp_written.specs.Written.Rests.{Rest}
use Rattle.scasp_syntax.specs.declared.program.Program.{Program}
use Rattle.scasp_command_trial.specs.Trials.{Tries}
use Rattle.scasp_command_trial.specs.declared.first.Trial.{Trial}

-- From the old rest of the search the trial comes to this; and where it is not known yet, to whatever it comes from the new one.
abbrev pub Leads : Program → Rest → Rest → Option Trial → Type 0
Leads p old new None = (trial : Trial) → Tries p new trial → Tries p old trial
Leads p old new (Some trial) = Tries p old trial
