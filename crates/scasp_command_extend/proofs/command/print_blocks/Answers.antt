use Rattle.std.proofs.Common.{map}
use Rattle.scasp_answers.specs.Files.View.{entry_of}
use Rattle.scasp_syntax.specs.Tm.{items}
use Rattle.scasp_command_extend.proofs.CommandLemmas.{takes-all, takes-first, takes-part}
use Rattle.scasp_command_extend.proofs.command.print_blocks.Goals as goal

pub returns-in-Ok : goal.returns-in-Ok
returns-in-Ok g c =
    takes-all c.args.names.now c.args.program.now (items c.args.domain.now) (map entry_of c.args.entries.now) _ _ _ _
    c.in-Ok.ensures.says c.in-Ok.end c.extend_status.result c.in-Ok.ensures.ok c.in-Ok.ensures.extended c.extend_status.ensures

pub returns-in-Err-Write : goal.returns-in-Err-Write
returns-in-Err-Write g c =
    takes-part c.args.names.now c.args.program.now (items c.args.domain.now) (map entry_of c.args.entries.now) _ _ _ _
    c.in-Err-Write.ensures.says
    (c.in-Err-Write.ensures.write (cc c.in-Err-Write.field-0-is)) (c.in-Err-Write.ensures.cause (cc c.in-Err-Write.field-0-is))

pub returns-in-Err-Memory : goal.returns-in-Err-Memory
returns-in-Err-Memory g c =
    takes-first c.args.names.now c.args.program.now (items c.args.domain.now) (map entry_of c.args.entries.now) _ _ _ _
    c.in-Err-Memory.ensures.says (c.in-Err-Memory.ensures.memory (cc c.in-Err-Memory.field-0-is))
