use Rattle.scasp_cert.specs.Certificate.{certificate_of}
use Rattle.scasp_command_run.proofs.EventLemmas.{about-after, meets-event}
use Rattle.scasp_command_run.proofs.OutputLemmas.{ok-always}
use Rattle.scasp_command_run.specs.Inside.Events.{IsGoing}
use Rattle.scasp_search.specs.Rests.{rest_of, stopped}
use Rattle.scasp_search_rules.specs.Successors.Machine.{answered}
use Rattle.scasp_command_trial.proofs.TrialLemmas.{tries-ended, tries-spent}
use Rattle.scasp_command_trial.specs.Trials.{overflows}
use Rattle.scasp_command_trial.proofs.first.step.Goals as goal

pub returns-in-Answer-clause-going : goal.returns-in-Answer-clause-going
returns-in-Answer-clause-going c =
    let old = rest_of c.args.search.now in
    let new = rest_of c.next_event.new.search in
    let tells = rw c.in-Answer.is at (c.in_ok-tree.ensures.event c.requires.goes) in
    let meets = meets-event old new (answered (certificate_of c.in-Answer.tree)) c.next_event.ensures.same tells in
    let going : IsGoing c.args.program.now new (stopped c.next_event.new.search) =
    record { about = about-after c.args.program.now old new (certificate_of c.in-Answer.tree) c.requires.about meets; goes = rw c.in-Answer.is at c.in_ok-tree.ensures.stops } in
    ok-always c.tree_of.result (λ trial h is. h) going

pub returns-in-Ended-clause-leads : goal.returns-in-Ended-clause-leads
returns-in-Ended-clause-leads c =
    tries-ended c.args.program.now (rest_of c.args.search.now) (rest_of c.next_event.new.search) c.next_event.ensures.same
    (rw c.in-Ended.is at (c.in_ok-tree.ensures.event c.requires.goes))

pub returns-in-Spent-clause-leads : goal.returns-in-Spent-clause-leads
returns-in-Spent-clause-leads c =
    tries-spent c.args.program.now (rest_of c.args.search.now) (rest_of c.next_event.new.search) c.next_event.ensures.same
    (rw c.in-Spent.is at (c.in_ok-tree.ensures.event c.requires.goes))

pub returns-in-Overflow-clause-leads : goal.returns-in-Overflow-clause-leads
returns-in-Overflow-clause-leads c =
    overflows (rest_of c.args.search.now) (rw c.in-Overflow.is at (c.in_ok-tree.ensures.event c.requires.goes))
