use Rattle.scasp_view_top.proofs.ProgramLemmas.LineLemmas.{count-is}
use Rattle.scasp_view_top.proofs.program.lines.count_written.Goals as goal

pub returns : goal.returns
returns c = count-is c.args.program.now.clauses c.args.program.now.queries c.written_count.result c.written_count.ensures.place c.written_count.ensures.clauses
