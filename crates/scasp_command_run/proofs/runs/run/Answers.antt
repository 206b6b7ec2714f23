use Rattle.std.proofs.Common.{◌≡◌, ◌||◌, ◌<◌, ◌+◌, ◌≤◌, length, drop, ap, arith, is_some, subst, sym, Bool}
use Rattle.std.proofs.lemmas.Result.{err_from_is_err_and}
use Rattle.scasp_command_run.proofs.RunLemmas.{all-run, header-before, header-broken, next-query, query-broken, query-goes, query-last}
use Rattle.scasp_command_run.specs.Inside.Whole.{IsBefore}
use Rattle.scasp_command_run.specs.Jobs.{job}
use Rattle.scasp_command_run.proofs.runs.run.Goals as goal

pub returns-in_err-write_all-clause-output : goal.returns-in_err-write_all-clause-output
returns-in_err-write_all-clause-output g c =
    let e = err_from_is_err_and c.from_residual.result c.from_residual.ensures.1 in
    rw (e.1, e.2) (header-broken (job c.args.program.now c.args.names c.args.request) _ _ (rw c.header_line.ensures at c.in_err-write_all.ensures.err))

pub run_query-requires : goal.run_query-requires
run_query-requires g c =
    let below : c.loop-place.place < length c.args.program.now.queries = omega (arith, c.loop-place-test.true, c.len-place-end.ensures) in
    ap is_some (next-query c.args.program.now.queries c.loop-place.place below).found

pub returns-in_err-queried-clause-output : goal.returns-in_err-queried-clause-output
returns-in_err-queried-clause-output g c =
    let below : c.loop-place.place < length c.args.program.now.queries = omega (arith, c.loop-place-test.true, c.len-place-end.ensures) in
    let e = err_from_is_err_and c.from_residual-in_err-queried.result c.from_residual-in_err-queried.ensures.1 in
    rw (e.1, e.2)
    (query-broken (job c.args.program.now c.args.names c.args.request) c.loop-place.place c.loop-place.answered
    (g.K.Sink.taken c.args.out.now) (g.K.Sink.taken c.loop-place.out) (g.K.Sink.taken c.run_query.new.out) below c.loop-place.invariant.0 _
    (c.in_err-queried.ensures.output c.args.names c.loop-place.invariant.1))

pub returns-in-Some-clause-output : goal.returns-in-Some-clause-output
returns-in-Some-clause-output g c =
    let below : c.loop-place.place < length c.args.program.now.queries = omega (arith, c.loop-place-test.true, c.len-place-end.ensures) in
    query-last (job c.args.program.now c.args.names c.args.request) c.loop-place.place c.loop-place.answered
    (g.K.Sink.taken c.args.out.now) (g.K.Sink.taken c.loop-place.out) (g.K.Sink.taken c.run_query.new.out) below c.loop-place.invariant.0
    c.in_ok-queried.queried c.in-Some.end c.in-Some.ensures (c.in_ok-queried.ensures.output c.args.names c.loop-place.invariant.1)

pub loop-place-preserved : goal.loop-place-preserved
loop-place-preserved g c =
    let below : c.loop-place.place < length c.args.program.now.queries = omega (arith, c.loop-place-test.true, c.len-place-end.ensures) in (
      subst (λ (b : Bool). IsBefore (job c.args.program.now c.args.names c.args.request) (c.loop-place.place + 1 + 1) (drop (c.loop-place.place + 1) c.args.program.now.queries)
          b (g.K.Sink.taken c.args.out.now) (g.K.Sink.taken c.run_query.new.out)) (sym c.either-answered.ensures)
          (query-goes (job c.args.program.now c.args.names c.args.request) c.loop-place.place c.loop-place.answered
          (g.K.Sink.taken c.args.out.now) (g.K.Sink.taken c.loop-place.out) (g.K.Sink.taken c.run_query.new.out) below c.loop-place.invariant.0
          c.in_ok-queried.queried c.in-None.ensures (c.in_ok-queried.ensures.output c.args.names c.loop-place.invariant.1)),
      c.in_ok-queried.ensures.table c.args.names c.loop-place.invariant.1,
      omega (arith, c.loop-place.invariant.2, c.in_ok-queried.ensures.counts),
    )

pub returns-clause-output : goal.returns-clause-output
returns-clause-output g c =
    let past : length c.args.program.now.queries ≤ c.loop-place.place = omega (arith, c.loop-place-test.false, c.len-place-end.ensures) in
    all-run (job c.args.program.now c.args.names c.args.request) c.loop-place.place c.loop-place.answered
    (g.K.Sink.taken c.args.out.now) (g.K.Sink.taken c.loop-place.out) c.end_by.result past c.loop-place.invariant.0 c.end_by.ensures
