use Rattle.std.proofs.Common.{None, Some, refl}
use Rattle.scasp_top.proofs.EndLemmas.{takes-part, takes-run}
use Rattle.scasp_command_inputs.specs.declared.status.Status.TheVariants.{Memory}
use Rattle.scasp_top.proofs.run_command.run_program.Goals as goal

pub returns-in-Ok : goal.returns-in-Ok
returns-in-Ok g c =
    takes-run c.args.program.now c.args.names c.args.request (Some c.in-Ok.end) c.run_status.result _ _ _ _ c.in-Ok.ensures.output c.run_status.ensures

pub returns-in-Err-Write : goal.returns-in-Err-Write
returns-in-Err-Write g c =
    takes-part c.args.program.now c.args.names c.args.request _ _ _ _ (rw c.in-Err-Write.field-0-is at c.in-Err-Write.ensures.output)
    (c.in-Err-Write.ensures.write (cc c.in-Err-Write.field-0-is))

pub returns-in-Err-Memory : goal.returns-in-Err-Memory
returns-in-Err-Memory g c =
    takes-run c.args.program.now c.args.names c.args.request None Memory _ _ _ _ (rw c.in-Err-Memory.field-0-is at c.in-Err-Memory.ensures.output) refl
