use Rattle.std.proofs.Common.{◌≤◌, arith, refl}
use Rattle.std.proofs.lemmas.Result.{err_from_is_err_and}
use Rattle.scasp_command_run.proofs.EventLemmas.{about-opened}
use Rattle.scasp_command_run.proofs.QueryLemmas.{going-first, going-on, opens-names, query-cut, query-ended, query-failed, query-none, some-each, some-known, some-more}
use Rattle.scasp_command_run.specs.Inside.Progresses.{standing}
use Rattle.scasp_command_run.specs.Jobs.{job}
use Rattle.scasp_search.specs.Rests.{rest_of}
use Rattle.scasp_syntax.specs.Programs.{numbered}
use Rattle.scasp_command_run.proofs.queries.run_query.Goals as goal

pub returns-in_err-search-clause-output : goal.returns-in_err-search-clause-output
returns-in_err-search-clause-output g c =
    let e = err_from_is_err_and c.from_residual.result c.from_residual.ensures.1 in
    λ names is.
    rw (e.1, e.2)
    (some-each (numbered c.args.program.now.queries c.args.query)
    (λ q. query-none (job c.args.program.now names c.args.request) c.args.query q (g.K.Sink.taken c.args.out.now)))

pub loop-event-init : goal.loop-event-init
loop-event-init g c = (
  record {
    about =
        some-known (numbered c.args.program.now.queries c.args.query) c.requires
        (some-more (numbered c.args.program.now.queries c.args.query)
        (λ q opens. about-opened c.args.program.now c.args.query c.args.request.budget c.args.table.now.program q (rest_of c.in_ok-search.search) opens)
        c.in_ok-search.ensures.run);
    goes = c.in_ok-search.ensures.goes;
  },
  λ names is. going-first c.args.program.now names c.args.query _ (g.K.Sink.taken c.args.out.now),
  λ names is. is,
  omega arith,
)

pub returns-in_err-end-clause-output : goal.returns-in_err-end-clause-output
returns-in_err-end-clause-output g c =
    let e = err_from_is_err_and c.from_residual-in_err-end.result c.from_residual-in_err-end.ensures.1 in
    λ names is.
    rw (e.1, e.2)
    (some-more (numbered c.args.program.now.queries c.args.query)
    (λ q opens.
    query-failed (job c.args.program.now names c.args.request) c.args.query q (rest_of c.in_ok-search.search)
    (opens-names c.args.program.now names c.args.table.now c.args.query c.args.request.budget q (rest_of c.in_ok-search.search) is opens)
    (standing c.loop-event.progress) (standing c.step.new.progress) (g.K.Sink.taken c.args.out.now) (g.K.Sink.taken c.loop-event.out) (g.K.Sink.taken c.step.new.out) _
    (c.loop-event.invariant.1 names is) (c.in_err-end.ensures.output names (c.loop-event.invariant.2 names is)))
    c.in_ok-search.ensures.run)

pub returns-in-Some-clause-output : goal.returns-in-Some-clause-output
returns-in-Some-clause-output g c =
    λ names is.
    some-more (numbered c.args.program.now.queries c.args.query)
    (λ q opens.
    query-ended (job c.args.program.now names c.args.request) c.args.query q (rest_of c.in_ok-search.search)
    (opens-names c.args.program.now names c.args.table.now c.args.query c.args.request.budget q (rest_of c.in_ok-search.search) is opens)
    (standing c.loop-event.progress) (standing c.step.new.progress) (g.K.Sink.taken c.args.out.now) (g.K.Sink.taken c.loop-event.out) (g.K.Sink.taken c.step.new.out) c.in-Some.end _
    (c.loop-event.invariant.1 names is) refl (rw c.in-Some.is at (c.in_ok-end.ensures.output names (c.loop-event.invariant.2 names is))))
    c.in_ok-search.ensures.run

pub loop-event-preserved : goal.loop-event-preserved
loop-event-preserved g c = (
  c.in_ok-end.ensures.going c.in-None.is,
  λ names is.
      going-on c.args.program.now names c.args.query _ (standing c.loop-event.progress) (standing c.step.new.progress) (g.K.Sink.taken c.args.out.now) (g.K.Sink.taken c.loop-event.out) (g.K.Sink.taken c.step.new.out)
      (c.loop-event.invariant.1 names is) (rw c.in-None.is at (c.in_ok-end.ensures.output names (c.loop-event.invariant.2 names is))),
  λ names is. c.in_ok-end.ensures.table names (c.loop-event.invariant.2 names is),
  omega (arith, c.loop-event.invariant.3, c.in_ok-end.ensures.counts),
)

pub returns-clause-output : goal.returns-clause-output
returns-clause-output g c =
    λ names is.
    some-more (numbered c.args.program.now.queries c.args.query)
    (λ q opens.
    query-cut (job c.args.program.now names c.args.request) c.args.query q (rest_of c.in_ok-search.search)
    (opens-names c.args.program.now names c.args.table.now c.args.query c.args.request.budget q (rest_of c.in_ok-search.search) is opens)
    (standing c.loop-event.progress) (g.K.Sink.taken c.args.out.now) (g.K.Sink.taken c.loop-event.out) (c.loop-event.invariant.1 names is))
    c.in_ok-search.ensures.run
