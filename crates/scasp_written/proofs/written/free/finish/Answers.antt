use Rattle.scasp_written.proofs.WrittenLemmas.WalkLemmas.{meets-overflow, passes-finished}
use Rattle.scasp_written.proofs.written.free.finish.Goals as goal

pub returns-in-Ok : goal.returns-in-Ok
returns-in-Ok c = λ e budget calls old rest r.
    passes-finished c.args.goal.now budget calls c.args.state.now old rest c.in-Ok.found c.ahead_of.result c.ahead_of.ensures e r c.in-Ok.ensures

pub returns-in-Err : goal.returns-in-Err
returns-in-Err c = λ e budget calls old rest r.
    meets-overflow c.args.goal.now budget calls c.args.state.now old rest rest c.in-Err.error r e c.in-Err.ensures
