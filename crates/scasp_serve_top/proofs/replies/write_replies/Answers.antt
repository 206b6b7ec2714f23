use Rattle.std.proofs.Common.{◌∙◌, arith, subst, sym}
use Rattle.std.proofs.lemmas.List.{drop_more}
use Rattle.std.proofs.lemmas.Result.{err_from_is_err_and}
use Rattle.scasp_serve_replies.specs.Desks.{standing}
use Rattle.scasp_serve_replies.specs.Replies.{Standing}
use Rattle.scasp_serve_top.proofs.ServedLemmas.{going-first, going-on, served-all, served-cut, served-part}
use Rattle.scasp_serve_top.specs.Inside.{Going}
use Rattle.scasp_serve_top.proofs.replies.write_replies.Goals as goal

pub loop-command-init : goal.loop-command-init
loop-command-init g c = record {
  going =
      subst (λ (s : Standing). Going c.args.program.now c.args.names c.args.commands.now 0 s (g.K.Sink.taken c.args.out.now) (g.K.Sink.taken c.args.out.now)) (sym c.new-desk.ensures.standing)
      (going-first c.args.program.now c.args.names c.args.commands.now (g.K.Sink.taken c.args.out.now));
  table = c.new-desk.ensures.table;
  counted = c.new-desk.ensures.counted;
  counts = omega arith;
}

pub returns-in_err-text-clause-output : goal.returns-in_err-text-clause-output
returns-in_err-text-clause-output g c =
    let e = err_from_is_err_and c.from_residual.result c.from_residual.ensures.1 in
    rw (e.1, e.2)
    (served-cut c.args.program.now c.args.names c.args.commands.now c.loop-command.command-index (standing c.loop-command.desk) (g.K.Sink.taken c.args.out.now) (g.K.Sink.taken c.loop-command.out)
    c.loop-command.invariant.going)

pub returns-in_err-write_all-clause-output : goal.returns-in_err-write_all-clause-output
returns-in_err-write_all-clause-output g c =
    let e = err_from_is_err_and c.from_residual-in_err-write_all.result c.from_residual-in_err-write_all.ensures.1 in
    let t = c.in_ok-text.ensures.tells c.args.names c.loop-command.invariant.table in
    rw (e.1, e.2)
    (served-part c.args.program.now c.args.names c.args.commands.now c.loop-command.command-index _ (standing c.loop-command.desk) (standing c.reply.new.desk) t.told c.as_slice.result.now
    (g.K.Sink.taken c.args.out.now) (g.K.Sink.taken c.loop-command.out) (drop_more c.args.commands.now c.loop-command.command-index _ c.loop-command-test.true) c.loop-command.invariant.going
    t.replies (c.as_slice.ensures.value ∙ t.text_is) (g.K.Sink.taken c.write_all.new.out) c.in_err-write_all.ensures.err)

pub loop-command-preserved : goal.loop-command-preserved
loop-command-preserved g c =
    let t = c.in_ok-text.ensures.tells c.args.names c.loop-command.invariant.table in
    record {
      going =
          going-on c.args.program.now c.args.names c.args.commands.now c.loop-command.command-index _ (standing c.loop-command.desk) (standing c.reply.new.desk) t.told c.as_slice.result.now
          (g.K.Sink.taken c.args.out.now) (g.K.Sink.taken c.loop-command.out) (drop_more c.args.commands.now c.loop-command.command-index _ c.loop-command-test.true) c.loop-command.invariant.going
          t.replies (c.as_slice.ensures.value ∙ t.text_is) (g.K.Sink.taken c.write_all.new.out) c.in_ok-write_all.ensures.ok;
      table = c.in_ok-text.ensures.table c.args.names c.loop-command.invariant.table;
      counted = c.in_ok-text.ensures.counted;
      counts = omega (arith, c.loop-command.invariant.counts, c.in_ok-write_all.ensures.counts);
    }

pub returns-clause-output : goal.returns-clause-output
returns-clause-output g c =
    served-all c.args.program.now c.args.names c.args.commands.now c.loop-command.command-index (standing c.loop-command.desk) (g.K.Sink.taken c.args.out.now) (g.K.Sink.taken c.loop-command.out)
    c.loop-command-test.false c.loop-command.invariant.going
