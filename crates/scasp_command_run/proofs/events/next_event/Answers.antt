use Rattle.scasp_cert.specs.Certificate.{certificate_of}
use Rattle.scasp_command_run.proofs.EventLemmas.{about-after, goes-on, meets-event}
use Rattle.scasp_command_run.proofs.OutputLemmas.{ok-always}
use Rattle.scasp_command_run.specs.Inside.Events.{IsGoing}
use Rattle.scasp_search.specs.Rests.{rest_of, stopped}
use Rattle.scasp_search_rules.specs.Successors.Machine.{answered}
use Rattle.scasp_command_run.proofs.events.next_event.Goals as goal

pub returns-in-Overflow-clause-comes : goal.returns-in-Overflow-clause-comes
returns-in-Overflow-clause-comes c = rw c.in-Overflow.is at (c.in_ok-tree.ensures.event c.requires.goes)

pub returns-in-Answer-clause-goes_on : goal.returns-in-Answer-clause-goes_on
returns-in-Answer-clause-goes_on c =
    let old = rest_of c.args.search.now in
    let new = rest_of c.next_event.new.search in
    let tells = rw c.in-Answer.is at (c.in_ok-tree.ensures.event c.requires.goes) in
    let meets = meets-event old new (answered (certificate_of c.in-Answer.tree)) c.next_event.ensures.same tells in
    let going : IsGoing c.args.program.now new (stopped c.next_event.new.search) =
    record { about = about-after c.args.program.now old new (certificate_of c.in-Answer.tree) c.requires.about meets; goes = rw c.in-Answer.is at c.in_ok-tree.ensures.stops } in
    ok-always c.next_of.result (goes-on c.args.program.now new (stopped c.next_event.new.search)) going
