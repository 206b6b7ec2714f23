use Rattle.std.proofs.Common.{◌≡◌, ap, map}
use Rattle.std.proofs.lemmas.Result.{err_from_is_err_and}
use Rattle.scasp_answers.specs.Files.View.{entry_of}
use Rattle.scasp_io.specs.declared.errors.OutputErr.TheVariants as error
use Rattle.scasp_syntax.specs.Tm.{items}
use Rattle.scasp_command_extend.specs.Texts.{block_texts, extended_line}
use Rattle.scasp_command_extend.specs.declared.ends.Tally.{Tally}
use Rattle.scasp_command_extend.proofs.EntryLemmas.{last-broken}
use Rattle.scasp_command_extend.proofs.extending.extend_blocks.Goals as goal

pub returns-in_err-write_extended-clause-write : goal.returns-in_err-write_extended-clause-write
returns-in_err-write_extended-clause-write g c = λ h.
    let e = err_from_is_err_and c.from_residual-in_err-write_extended.result c.from_residual-in_err-write_extended.ensures.1 in
    let is : c.in_err-write_extended.field-0.0 ≡ error.Write = cc (h, e.1, e.2) in
    last-broken (block_texts c.args.names.now c.args.program.now (items c.args.domain.now) (map entry_of c.args.entries.now)) _ _
    (g.K.Sink.taken c.args.out.now) (g.K.Sink.taken c.extend_entries.new.out) (g.K.Sink.taken c.write_extended.new.out) c.in_err-write_extended.field-0.0 is
    (ap (λ (t : Tally). extended_line t.models) c.in_ok-tally.ensures.tally) c.in_ok-tally.ensures.took c.in_err-write_extended.ensures.took
