use Rattle.std.proofs.Common.{◌<◌, arith, length}
use Rattle.std.specs.Prelude.{Option}
use Rattle.std.proofs.lemmas.Result.{err_from_is_err_and}
use Rattle.scasp_answers.specs.Files.View.{entry_of}
use Rattle.scasp_answers.specs.declared.states.state.Entry.{Entry}
use Rattle.scasp_syntax.specs.Tm.{items}
use Rattle.scasp_command_extend.specs.Ends.{entry_ends}
use Rattle.scasp_command_extend.specs.Texts.{entry_texts}
use Rattle.scasp_command_extend.specs.declared.ends.Extended.{Extended}
use Rattle.scasp_command_extend.specs.declared.ends.Tally.{Tally}
use Rattle.scasp_command_extend.proofs.EntryLemmas.{stops-here, stops-next, taken-next, tally-next}
use Rattle.scasp_command_extend.proofs.extending.extend_entries.Goals as goal

pub returns-in_err-end-clause-took : goal.returns-in_err-end-clause-took
returns-in_err-end-clause-took g c =
    let seen = c.as_slice-entry-items.result.now in
    let below : c.loop-entry.entry-index < length seen = omega (arith, c.loop-entry-test.true) in
    let e = err_from_is_err_and c.from_residual.result c.from_residual.ensures.1 in
    rw (e.1, e.2)
    (stops-here Entry entry_of (entry_texts c.args.names.now c.args.program.now (items c.args.domain.now)) seen c.loop-entry.entry-index c.entry-item.result below c.entry-item.is
    (Option Extended) Tally c.args.entries.now (g.K.Sink.taken c.args.out.now) (g.K.Sink.taken c.loop-entry.out) (g.K.Sink.taken c.extend_entry.new.out) _
    c.as_slice-entry-items.ensures c.loop-entry.invariant.taken c.in_err-end.ensures.took)

pub returns-in_err-tally-clause-took : goal.returns-in_err-tally-clause-took
returns-in_err-tally-clause-took g c =
    let seen = c.as_slice-entry-items.result.now in
    let below : c.loop-entry.entry-index < length seen = omega (arith, c.loop-entry-test.true) in
    let e = err_from_is_err_and c.from_residual-in_err-tally.result c.from_residual-in_err-tally.ensures.1 in
    rw (e.1, e.2)
    (stops-next Entry entry_of (entry_texts c.args.names.now c.args.program.now (items c.args.domain.now)) seen c.loop-entry.entry-index c.entry-item.result below c.entry-item.is
    c.args.entries.now (g.K.Sink.taken c.args.out.now) (g.K.Sink.taken c.loop-entry.out) (g.K.Sink.taken c.extend_entry.new.out)
    c.as_slice-entry-items.ensures c.loop-entry.invariant.taken c.in_ok-end.ensures.took)

pub loop-entry-preserved : goal.loop-entry-preserved
loop-entry-preserved g c =
    let seen = c.as_slice-entry-items.result.now in
    let below : c.loop-entry.entry-index < length seen = omega (arith, c.loop-entry-test.true) in
    record {
      tally = tally-next Entry entry_of (entry_ends c.args.program.now (items c.args.domain.now)) seen c.loop-entry.entry-index c.entry-item.result below c.entry-item.is
          c.loop-entry.tally c.in_ok-tally.tally c.in_ok-end.end c.loop-entry.invariant.tally c.in_ok-end.ensures.ends c.in_ok-tally.ensures;
      taken = taken-next Entry entry_of (entry_texts c.args.names.now c.args.program.now (items c.args.domain.now)) seen c.loop-entry.entry-index c.entry-item.result below c.entry-item.is
          (g.K.Sink.taken c.args.out.now) (g.K.Sink.taken c.loop-entry.out) (g.K.Sink.taken c.extend_entry.new.out)
          c.loop-entry.invariant.taken c.in_ok-end.ensures.took;
      counts = omega (arith, c.loop-entry.invariant.counts, c.in_ok-end.ensures.counts);
    }
