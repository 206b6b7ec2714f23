use Rattle.std.proofs.lemmas.Result.{err_from_is_err_and}
use Rattle.scasp_command_run.proofs.QueryLemmas.{end-failed}
use Rattle.scasp_command_run.proofs.queries.print_end.Goals as goal

pub returns-in_err-write_end-clause-output : goal.returns-in_err-write_end-clause-output
returns-in_err-write_end-clause-output g c =
    let e = err_from_is_err_and c.from_residual.result c.from_residual.ensures.1 in
    λ p names old new h. rw (e.1, e.2) (end-failed p names c.args.query old new c.args.end _ _ _ h c.in_err-write_end.ensures.output)
