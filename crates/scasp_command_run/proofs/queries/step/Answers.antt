use Rattle.std.proofs.Common.{refl}
use Rattle.std.proofs.lemmas.Result.{err_from_is_err_and}
use Rattle.scasp_command_run.proofs.QueryLemmas.{ends-here, nothing-steps, pass-written, stops-here, true-false}
use Rattle.scasp_command_run.specs.Inside.Progresses.{standing}
use Rattle.scasp_command_run.specs.declared.queries.Progress.{Progress}
use Rattle.scasp_search.specs.Rests.{rest_of}
use Rattle.scasp_command_run.proofs.queries.step.Goals as goal

pub returns-then-is_enough-clause-output : goal.returns-then-is_enough-clause-output
returns-then-is_enough-clause-output g c =
    λ names is.
    c.print_end.ensures.output c.args.program.now names (standing c.args.progress.now) (standing c.args.progress.now)
    (stops-here c.args.program.now names c.args.progress.now.asked (rest_of c.args.progress.now.search) (c.is_enough.ensures.0 c.if-is_enough.true))

pub returns-in_err-cert-clause-output : goal.returns-in_err-cert-clause-output
returns-in_err-cert-clause-output g c =
    let e = err_from_is_err_and c.from_residual.result c.from_residual.ensures.1 in
    let next : Progress = record { search = c.next_event.new.search; asked = c.args.progress.now.asked; printed = c.args.progress.now.printed; format = c.args.progress.now.format } in
    λ names is. rw (e.1, e.2) (nothing-steps c.args.program.now names c.args.query (standing c.args.progress.now) (standing next) (g.K.Sink.taken c.args.out.now))

pub returns-in-Answer-clause-output : goal.returns-in-Answer-clause-output
returns-in-Answer-clause-output g c =
    let comes = rw c.in-Answer.is at c.in_ok-cert.ensures.comes in
    λ names is.
    c.print_next.ensures.output names c.args.query (standing c.args.progress.now) is
    (record { comes = comes; more = λ e. true-false c.is_enough.result (c.is_enough.ensures.1 e) c.if-is_enough.false; asked = refl; printed = refl; format = refl })

pub returns-in-Passed-clause-output : goal.returns-in-Passed-clause-output
returns-in-Passed-clause-output g c =
    let comes = rw c.in-Passed.is at c.in_ok-cert.ensures.comes in
    λ names is.
    pass-written c.args.program.now names c.args.query (standing c.args.progress.now) _ (g.K.Sink.taken c.args.out.now) comes
    (λ e. true-false c.is_enough.result (c.is_enough.ensures.1 e) c.if-is_enough.false) refl refl refl

pub returns-in-End-clause-output : goal.returns-in-End-clause-output
returns-in-End-clause-output g c =
    let comes = rw c.in-End.is at c.in_ok-cert.ensures.comes in
    λ names is.
    c.print_end-in-End.ensures.output c.args.program.now names (standing c.args.progress.now) _
    (ends-here c.args.program.now names c.args.progress.now.asked (rest_of c.args.progress.now.search) (rest_of c.next_event.new.search) c.in-End.end
    (λ e. true-false c.is_enough.result (c.is_enough.ensures.1 e) c.if-is_enough.false) comes)
