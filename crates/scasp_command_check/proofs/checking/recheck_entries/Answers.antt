use Rattle.std.proofs.Common.{◌<◌, arith, length}
use Rattle.std.proofs.lemmas.Result.{err_from_is_err_and}
use Rattle.scasp_answers.specs.Files.View.{entry_of}
use Rattle.scasp_answers.specs.declared.states.state.Entry.{Entry}
use Rattle.scasp_command_check.proofs.EntryLemmas.{stops-here, taken-next, tally-next}
use Rattle.scasp_command_check.proofs.checking.recheck_entries.Goals as goal

pub returns-in_err-tally-clause-took : goal.returns-in_err-tally-clause-took
returns-in_err-tally-clause-took g c =
    let items = c.as_slice-entry-items.result.now in
    let below : c.loop-entry.entry-index < length items = omega (arith, c.loop-entry-test.true) in
    let e = err_from_is_err_and c.from_residual.result c.from_residual.ensures.1 in
    rw (e.1, e.2)
    (stops-here Entry c.args.program.now entry_of items c.loop-entry.entry-index c.entry-item.result below c.entry-item.is c.args.entries.now
    (g.K.Sink.taken c.args.out.now) (g.K.Sink.taken c.loop-entry.out) (g.K.Sink.taken c.recheck_entry.new.out) _
    c.as_slice-entry-items.ensures c.loop-entry.invariant.taken c.in_err-tally.ensures.took)

pub loop-entry-preserved : goal.loop-entry-preserved
loop-entry-preserved g c =
    let items = c.as_slice-entry-items.result.now in
    let below : c.loop-entry.entry-index < length items = omega (arith, c.loop-entry-test.true) in
    record {
      tally = tally-next Entry c.args.program.now entry_of items c.loop-entry.entry-index c.entry-item.result below c.entry-item.is
          c.loop-entry.tally c.in_ok-tally.tally c.loop-entry.invariant.tally c.in_ok-tally.ensures.tally;
      taken = taken-next Entry c.args.program.now entry_of items c.loop-entry.entry-index c.entry-item.result below c.entry-item.is
          (g.K.Sink.taken c.args.out.now) (g.K.Sink.taken c.loop-entry.out) (g.K.Sink.taken c.recheck_entry.new.out)
          c.loop-entry.invariant.taken c.in_ok-tally.ensures.took;
      counts = omega (arith, c.loop-entry.invariant.counts, c.in_ok-tally.ensures.counts);
    }
