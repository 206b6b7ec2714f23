use Rattle.scasp_hint.proofs.RunCalls.{accepted-shown}
use Rattle.scasp_hint.proofs.showing.unsat.Goals as goal

pub returns-clause-shown : goal.returns-clause-shown
returns-clause-shown c = accepted-shown c.args.constraints.now c.args.hint.now c.show.result c.read_rows.ensures c.show.ensures
