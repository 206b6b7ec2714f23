use Rattle.std.proofs.Common.{refl}
use Rattle.scasp_search_trail.specs.States.{now_of}
use Rattle.scasp_search_trail.proofs.trail.TrailSituation.take_task.Goals as goal

pub returns-clause-task : goal.returns-clause-task
returns-clause-task c = c.take_task.ensures.taken (now_of c.args.self.now) refl
