use Rattle.scasp_search_suspended.proofs.LookLemmas.{sees_found, sees_overflow}
use Rattle.scasp_search_suspended.proofs.looks.finished.Goals as goal

pub returns-in-Ok : goal.returns-in-Ok
returns-in-Ok c = λ e rest. sees_found c.args.goal.now c.args.state.now rest c.in-Ok.found c.look_of.result c.look_of.ensures e c.in-Ok.ensures

pub returns-in-Err : goal.returns-in-Err
returns-in-Err c = λ e rest. sees_overflow c.args.goal.now c.args.state.now rest c.in-Err.error e c.in-Err.ensures
