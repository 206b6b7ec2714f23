use Rattle.std.proofs.Common.{None, Some, refl}
use Rattle.scasp_command_inputs.specs.declared.status.Status.TheVariants.{Done, Memory}
use Rattle.scasp_serve_top.proofs.ServedLemmas.{reports-part, reports-whole}
use Rattle.scasp_serve_top.proofs.replies.serve_commands.Goals as goal

pub returns-in-Ok : goal.returns-in-Ok
returns-in-Ok g c = reports-whole c.args.program.now c.args.names c.args.commands.now (Some tt) Done _ _ _ _ (rw c.in-Ok.is at c.write_replies.ensures.output) refl

pub returns-in-Err-Write : goal.returns-in-Err-Write
returns-in-Err-Write g c =
    reports-part c.args.program.now c.args.names c.args.commands.now _ _ _ _ (rw c.in-Err-Write.field-0-is at c.in-Err-Write.ensures.output)
    (c.in-Err-Write.ensures.write (cc c.in-Err-Write.field-0-is))

pub returns-in-Err-Memory : goal.returns-in-Err-Memory
returns-in-Err-Memory g c =
    reports-whole c.args.program.now c.args.names c.args.commands.now None Memory _ _ _ _ (rw c.in-Err-Memory.field-0-is at c.in-Err-Memory.ensures.output) refl
