use Rattle.std.proofs.Common.{◌≡◌, map}
use Rattle.std.proofs.lemmas.Result.{err_from_is_err_and}
use Rattle.scasp_answers.specs.Files.View.{entry_of}
use Rattle.scasp_io.specs.declared.errors.OutputErr.TheVariants as error
use Rattle.scasp_command_check.proofs.EntryLemmas.{last-broken}
use Rattle.scasp_command_check.proofs.checking.recheck.Goals as goal

pub returns-in_err-write_checked-clause-write : goal.returns-in_err-write_checked-clause-write
returns-in_err-write_checked-clause-write g c = λ h.
    let e = err_from_is_err_and c.from_residual-in_err-write_checked.result c.from_residual-in_err-write_checked.ensures.1 in
    let is : c.in_err-write_checked.field-0.0 ≡ error.Write = cc (h, e.1, e.2) in
    last-broken c.args.program.now (map entry_of c.args.entries.now) c.in_ok-tally.tally
    (g.K.Sink.taken c.args.out.now) (g.K.Sink.taken c.recheck_entries.new.out) (g.K.Sink.taken c.write_checked.new.out) c.in_err-write_checked.field-0.0 is
    c.in_ok-tally.ensures.tally c.in_ok-tally.ensures.took c.in_err-write_checked.ensures.took
