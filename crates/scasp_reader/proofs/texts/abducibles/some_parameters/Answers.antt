use Rattle.std.proofs.Common.{◌-◌, ◌+◌, Ok, Err, sym, ap, ◌∙◌, arith}
use Rattle.std.proofs.lemmas.Result.{err_from_is_err_and}
use Rattle.scasp_reader_expressions.proofs.ChainLemmas.{Does_stops}
use Rattle.scasp_reader.specs.Texts.Abducibles.{parameter, some_parameters}
use Rattle.scasp_reader.proofs.TextsLemmas.ParameterLemmas.{parameters_last, parameters_more, parameters_stop}
use Rattle.scasp_reader.proofs.texts.abducibles.some_parameters.Goals as goal

pub returns-in_err-parameter : goal.returns-in_err-parameter
returns-in_err-parameter c =
    let p = err_from_is_err_and c.from_residual.result c.from_residual.ensures.1 in
    let n = c.loop-left.count in
    let s = c.loop-left.reader in
    Does_stops (λ x. x) (λ x. x) some_parameters (parameter n) c.args.reader.now s c.from_residual.result c.in_err-parameter.field-0.0 c.parameter.new.reader _
    (λ fault h. sym c.loop-left.invariant.0 ∙ parameters_stop c.loop-left.left n c.loop-left-test.true s fault h)
    (p.1 ∙ ap Err p.2) c.in_err-parameter.ensures

pub returns-then-not-taken : goal.returns-then-not-taken
returns-then-not-taken c =
    let s2 = c.taken.new.self in
    sym c.loop-left.invariant.0
    ∙ parameters_last c.loop-left.left c.loop-left.count c.loop-left-test.true c.loop-left.reader c.in_ok-parameter.field-0 c.parameter.new.reader s2 c.in_ok-parameter.ensures (c.taken.ensures ∙ ap (λ b. Ok (b, s2)) c.if-not-taken.true)

pub loop-left-preserved : goal.loop-left-preserved
loop-left-preserved c =
    let s2 = c.taken.new.self in (
      sym (parameters_more c.loop-left.left c.loop-left.count c.loop-left-test.true c.loop-left.reader c.in_ok-parameter.field-0 c.parameter.new.reader s2 c.in_ok-parameter.ensures (c.taken.ensures ∙ ap (λ b. Ok (b, s2)) c.if-not-taken.false))
          ∙ c.loop-left.invariant.0,
      omega arith,
    )
