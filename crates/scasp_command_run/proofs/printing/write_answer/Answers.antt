use Rattle.std.proofs.Common.{refl}
use Rattle.std.proofs.lemmas.Result.{err_from_is_err_and}
use Rattle.scasp_command_run.proofs.OutputLemmas.{text-broken}
use Rattle.scasp_command_run.proofs.printing.write_answer.Goals as goal

pub returns-in_err-write_all-clause-output : goal.returns-in_err-write_all-clause-output
returns-in_err-write_all-clause-output g c =
    let p = err_from_is_err_and c.from_residual.result c.from_residual.ensures.1 in
    rw (p.1, p.2) (text-broken _ _ _ c.args.text.now refl c.in_err-write_all.ensures.err)
