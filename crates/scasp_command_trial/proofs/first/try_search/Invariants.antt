use Rattle.scasp_command_run.specs.Inside.Events.{IsGoing}
use Rattle.scasp_search.specs.Rests.{rest_of, stopped}
use Rattle.scasp_command_trial.specs.Trials.{Tries}
use Rattle.scasp_command_trial.specs.declared.first.Trial.{Trial}
use Rattle.scasp_command_trial.proofs.first.try_search.Given as goal

-- the search goes on, and the trial comes to what it comes to from there
abbrev pub invariant-loop-event : goal.invariant-loop-event
invariant-loop-event l =
    IsGoing l.program (rest_of l.search) (stopped l.search)
    × ((trial : Trial) → Tries l.program (rest_of l.search) trial → Tries l.program (rest_of l.fn.search) trial)
