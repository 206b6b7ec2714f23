use Rattle.std.proofs.Common.{◌∙◌, List, ℕ, Ok, Err, refl, subst}
use Rattle.std.proofs.lemmas.Result.{err_from_is_err_and}
use Rattle.scasp_cert.specs.Certificate.{certificate_of}
use Rattle.scasp_command_run.proofs.QueryLemmas.{answer-failed, answer-written, nothing-steps}
use Rattle.scasp_command_run.specs.Inside.Continuing.{IsText}
use Rattle.scasp_command_run.specs.Inside.Progresses.{standing}
use Rattle.scasp_io.specs.Taken.{Writes}
use Rattle.scasp_command_run.proofs.queries.print_next.Goals as goal

pub returns-in_err-number-clause-output : goal.returns-in_err-number-clause-output
returns-in_err-number-clause-output g c =
    let e = err_from_is_err_and c.from_residual.result c.from_residual.ensures.1 in
    λ names query first is answered. rw (e.1, e.2) (nothing-steps c.args.program.now names query first (standing c.args.progress.now) (g.K.Sink.taken c.args.out.now))

pub returns-in_err-name_sample-clause-output : goal.returns-in_err-name_sample-clause-output
returns-in_err-name_sample-clause-output g c =
    let e = err_from_is_err_and c.from_residual-in_err-name_sample.result c.from_residual-in_err-name_sample.ensures.1 in
    λ names query first is answered. rw (e.1, e.2) (nothing-steps c.args.program.now names query first (standing c.args.progress.now) (g.K.Sink.taken c.args.out.now))

pub returns-in_err-text-clause-output : goal.returns-in_err-text-clause-output
returns-in_err-text-clause-output g c =
    let e = err_from_is_err_and c.from_residual-in_err-text.result c.from_residual-in_err-text.ensures.1 in
    λ names query first is answered. rw (e.1, e.2) (nothing-steps c.args.program.now names query first (standing c.args.progress.now) (g.K.Sink.taken c.args.out.now))

pub returns-in_err-write_answer-clause-output : goal.returns-in_err-write_answer-clause-output
returns-in_err-write_answer-clause-output g c =
    let e = err_from_is_err_and c.from_residual-in_err-write_answer.result c.from_residual-in_err-write_answer.ensures.1 in
    λ names query first is answered.
    rw (e.1, e.2)
    (answer-failed c.args.program.now names query first (standing c.args.progress.now) (standing c.args.progress.now) (certificate_of c.args.cert.now) c.name_sample.new.table.names c.in_ok-number.number
    (g.K.Sink.taken c.args.out.now) (g.K.Sink.taken c.write_answer.new.out) _ answered (c.in_ok-name_sample.ensures names is).has c.in_ok-number.ensures
    (subst (λ (t : List ℕ). Writes (IsText t) (g.K.Sink.taken c.args.out.now) (g.K.Sink.taken c.write_answer.new.out) (Err c.in_err-write_answer.field-0.0)) (c.as_slice.ensures.value ∙ c.in_ok-text.ensures) c.in_err-write_answer.ensures.output))

pub returns-clause-output : goal.returns-clause-output
returns-clause-output g c =
    λ names query first is answered.
    answer-written c.args.program.now names query first (standing c.args.progress.now) _ (certificate_of c.args.cert.now) c.name_sample.new.table.names c.in_ok-number.number
    (g.K.Sink.taken c.args.out.now) (g.K.Sink.taken c.write_answer.new.out) answered (c.in_ok-name_sample.ensures names is).has c.in_ok-number.ensures refl c.fewer-progress.ensures refl refl
    (subst (λ (t : List ℕ). Writes (IsText t) (g.K.Sink.taken c.args.out.now) (g.K.Sink.taken c.write_answer.new.out) (Ok tt)) (c.as_slice.ensures.value ∙ c.in_ok-text.ensures) c.in_ok-write_answer.ensures.output)
