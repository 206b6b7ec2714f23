use Rattle.scasp_lines_places.proofs.dues.pending.room_here.Goals as goal

pub returns-in-Case : goal.returns-in-Case
returns-in-Case c = rw c.in-Case.is (c.room_of_case.ensures c.args.program.now.clauses)
