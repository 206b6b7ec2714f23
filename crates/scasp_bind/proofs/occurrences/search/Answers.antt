use Rattle.std.proofs.Common.{nat_eq, is_some, length, refl, sym, ap, ◌∙◌}
use Rattle.std.specs.HashMap.{get}
use Rattle.scasp_syntax.specs.View.{tm_of}
use Rattle.scasp_unify.specs.Parts.{occurs}
use Rattle.scasp_bind.specs.Inside.Soundness.{resolver}
use Rattle.scasp_bind.specs.Inside.Jobs.{jobs_of}
use Rattle.scasp_bind.proofs.JobLemmas.{spreads_app, spreads_none}
use Rattle.scasp_bind.proofs.NoteLemmas.{noted_without}
use Rattle.scasp_bind.proofs.occurrences.search.Goals as goal

pub returns-then-is_some-clause-spreads : goal.returns-then-is_some-clause-spreads
returns-then-is_some-clause-spreads c e =
    let s = resolver c.args.store.now in
    spreads_none (length c.args.store.now.variables) c.args.x s (tm_of c.args.term.now) (jobs_of c.args.tasks.now.items) (jobs_of c.args.tasks.now.items) refl
    (ap (occurs c.args.x) (sym c.walk-reached.ensures.same)
    ∙ noted_without c.args.x s (get nat_eq c.args.without.now) (tm_of c.walk-reached.result.now) c.requires.2
    (ap is_some (sym c.noted.ensures) ∙ sym c.is_some.ensures ∙ c.if-is_some.true))

pub returns-in_ok-push_tasks-in-App-clause-spreads : goal.returns-in_ok-push_tasks-in-App-clause-spreads
returns-in_ok-push_tasks-in-App-clause-spreads c e =
    spreads_app (length c.args.store.now.variables) c.args.x c.in-App.field-0 (resolver c.args.store.now) (tm_of c.args.term.now) (tm_of c.walk-reached.result.now) c.in-App.args
    (jobs_of c.args.tasks.now.items) (jobs_of c.push_tasks.new.tasks.items) c.in_ok-push_tasks-in-App.ensures (ap tm_of c.in-App.is) c.walk-reached.ensures.same c.requires.1 c.walk-reached.ensures.below
