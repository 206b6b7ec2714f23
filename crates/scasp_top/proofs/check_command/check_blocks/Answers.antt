use Rattle.std.proofs.Common.{map}
use Rattle.scasp_answers.specs.Files.View.{entry_of}
use Rattle.scasp_top.proofs.EndLemmas.{takes-check, takes-check_part, takes-lines}
use Rattle.scasp_top.proofs.check_command.check_blocks.Goals as goal

pub returns-in-Ok : goal.returns-in-Ok
returns-in-Ok g c =
    takes-check c.args.program.now (map entry_of c.args.entries.now) c.in-Ok.end c.check_status.result _ _ _ _
    c.in-Ok.ensures.ok c.in-Ok.ensures.accepted c.check_status.ensures c.in-Ok.ensures.says

pub returns-in-Err-Write : goal.returns-in-Err-Write
returns-in-Err-Write g c =
    takes-check_part c.args.program.now (map entry_of c.args.entries.now) _ _ _ _
    (c.in-Err-Write.ensures.write (cc c.in-Err-Write.field-0-is))
    (c.in-Err-Write.ensures.cause (cc c.in-Err-Write.field-0-is)) c.in-Err-Write.ensures.says

pub returns-in-Err-Memory : goal.returns-in-Err-Memory
returns-in-Err-Memory g c =
    takes-lines c.args.program.now (map entry_of c.args.entries.now) _ _ _ _
    (c.in-Err-Memory.ensures.memory (cc c.in-Err-Memory.field-0-is)) c.in-Err-Memory.ensures.says
