use Rattle.scasp_command_trial.proofs.first.try_search.Goals as goal

pub loop-event-init : goal.loop-event-init
loop-event-init c = (c.requires, λ trial t. t)

pub step-requires : goal.step-requires
step-requires c = c.loop-event.invariant.0

pub loop-event-preserved : goal.loop-event-preserved
loop-event-preserved c =
    let leads = rw c.in-None.is at c.in_ok-trial.ensures.leads in
    (c.in_ok-trial.ensures.going c.in-None.is, λ trial t. c.loop-event.invariant.1 trial (leads trial t))

pub returns-in-Some : goal.returns-in-Some
returns-in-Some c =
    let comes = rw c.in-Some.is at c.in_ok-trial.ensures.leads in
    c.loop-event.invariant.1 c.in-Some.trial comes
