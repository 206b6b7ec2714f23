use Rattle.std.specs.Prelude.{None}
use Rattle.std.proofs.Common.{◌≡◌, ◌∙◌, ap, refl, subst, sym}
use Rattle.scasp_search.proofs.EventLemmas.{gives-later, paused-goes, paused-more, same-run}
use Rattle.scasp_search.specs.Rests.{Advances, rest_of, stopped}
use Rattle.scasp_search_walk.proofs.ReachedLemmas.{reached-none}
use Rattle.scasp_search_walk.specs.Slices.{stop_of}
use Rattle.scasp_written.specs.Written.Rests.{machine}
use Rattle.scasp_written.specs.declared.written.written.Event.TheVariants as event
use Rattle.scasp_search.proofs.slices.next_event.Goals as goal

pub loop-cert-init : goal.loop-cert-init
loop-cert-init c =
    let rest = rest_of c.args.search.now in
    record {
      same = record { problem = refl; queried = refl; budget = refl };
      stops = refl;
      reached = λ fresh. reached-none (machine rest.problem rest.queried) rest.budget rest.calls rest.states;
    }

pub loop-cert-preserved : goal.loop-cert-preserved
loop-cert-preserved c =
    let old = rest_of c.args.search.now in
    let between = rest_of c.loop-cert.search in
    let new = rest_of c.advance.new.self in
    let goes = paused-goes (stopped c.loop-cert.search) c.advance.result c.in-Paused.is c.advance.ensures.overflow c.advance.ensures.memory in
    record {
      same = same-run old between new c.loop-cert.invariant.same c.advance.ensures.same;
      stops = c.advance.ensures.stops ∙ ap stop_of c.in-Paused.is ∙ sym (sym c.loop-cert.invariant.stops ∙ goes);
      reached = λ fresh. paused-more old between new c.args.slice c.advance.result c.loop-cert.invariant.same (c.loop-cert.invariant.reached fresh) c.in-Paused.is (c.advance.ensures.event goes);
    }

pub returns-in-Answer-clause-event : goal.returns-in-Answer-clause-event
returns-in-Answer-clause-event c = λ fresh.
    let old = rest_of c.args.search.now in
    let between = rest_of c.loop-cert.search in
    let new = rest_of c.advance.new.self in
    let comes = subst (λ r. Advances between c.args.slice r new) c.in-Answer.is (c.advance.ensures.event (c.loop-cert.invariant.stops ∙ fresh)) in
    gives-later old between new (event.Answer c.in-Answer.cert) c.loop-cert.invariant.same (c.loop-cert.invariant.reached fresh) comes.gives

pub returns-in-Answer-clause-same : goal.returns-in-Answer-clause-same
returns-in-Answer-clause-same c =
    same-run (rest_of c.args.search.now) (rest_of c.loop-cert.search) (rest_of c.advance.new.self) c.loop-cert.invariant.same c.advance.ensures.same

pub returns-in-Ended-clause-event : goal.returns-in-Ended-clause-event
returns-in-Ended-clause-event c = λ fresh.
    let old = rest_of c.args.search.now in
    let between = rest_of c.loop-cert.search in
    let new = rest_of c.advance.new.self in
    let comes = subst (λ r. Advances between c.args.slice r new) c.in-Ended.is (c.advance.ensures.event (c.loop-cert.invariant.stops ∙ fresh)) in
    gives-later old between new event.Ended c.loop-cert.invariant.same (c.loop-cert.invariant.reached fresh) comes.gives

pub returns-in-Ended-clause-same : goal.returns-in-Ended-clause-same
returns-in-Ended-clause-same c =
    same-run (rest_of c.args.search.now) (rest_of c.loop-cert.search) (rest_of c.advance.new.self) c.loop-cert.invariant.same c.advance.ensures.same

pub returns-in-Spent-clause-event : goal.returns-in-Spent-clause-event
returns-in-Spent-clause-event c = λ fresh.
    let old = rest_of c.args.search.now in
    let between = rest_of c.loop-cert.search in
    let new = rest_of c.advance.new.self in
    let comes = subst (λ r. Advances between c.args.slice r new) c.in-Spent.is (c.advance.ensures.event (c.loop-cert.invariant.stops ∙ fresh)) in
    gives-later old between new event.Spent c.loop-cert.invariant.same (c.loop-cert.invariant.reached fresh) comes.gives

pub returns-in-Spent-clause-same : goal.returns-in-Spent-clause-same
returns-in-Spent-clause-same c =
    same-run (rest_of c.args.search.now) (rest_of c.loop-cert.search) (rest_of c.advance.new.self) c.loop-cert.invariant.same c.advance.ensures.same

pub returns-in-Overflow-clause-event : goal.returns-in-Overflow-clause-event
returns-in-Overflow-clause-event c = λ fresh.
    let old = rest_of c.args.search.now in
    let between = rest_of c.loop-cert.search in
    let new = rest_of c.advance.new.self in
    let comes = subst (λ r. Advances between c.args.slice r new) c.in-Overflow.is (c.advance.ensures.event (c.loop-cert.invariant.stops ∙ fresh)) in
    gives-later old between new event.Overflow c.loop-cert.invariant.same (c.loop-cert.invariant.reached fresh) comes.gives

pub returns-in-Overflow-clause-same : goal.returns-in-Overflow-clause-same
returns-in-Overflow-clause-same c =
    same-run (rest_of c.args.search.now) (rest_of c.loop-cert.search) (rest_of c.advance.new.self) c.loop-cert.invariant.same c.advance.ensures.same

pub returns-in-Memory-clause-same : goal.returns-in-Memory-clause-same
returns-in-Memory-clause-same c =
    same-run (rest_of c.args.search.now) (rest_of c.loop-cert.search) (rest_of c.advance.new.self) c.loop-cert.invariant.same c.advance.ensures.same
