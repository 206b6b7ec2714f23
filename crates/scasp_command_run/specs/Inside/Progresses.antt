-- The run of a query between two events.
use Rattle.std.specs.Prelude.{◌≡◌, ◌≢◌, Some}
use Rattle.scasp_cert.specs.Certificate.{Certificate}
use Rattle.scasp_command_run.specs.Inside.Continuing.{Standing}
use Rattle.scasp_command_run.specs.Inside.Events.{MeetsRight}
use Rattle.scasp_command_run.specs.declared.queries.Progress.{Progress}
use Rattle.scasp_search.specs.Rests.{rest_of}
use Rattle.scasp_syntax.specs.declared.program.Program.{Program}

abbrev pub standing : Progress → Standing
standing p = record { rest = rest_of p.search; asked = p.asked; printed = p.printed; format = p.format }

-- From the first standing the search has come to the answer and to this one, where the answer is not yet printed.
pub record IsAnswered (p : Program) (first : Standing) (c : Certificate) (now : Standing) : Type 0 where
  pub comes : MeetsRight p first.rest c now.rest
  pub more : first.asked ≢ Some 0
  pub asked : now.asked ≡ first.asked
  pub printed : now.printed ≡ first.printed
  pub format : now.format ≡ first.format
