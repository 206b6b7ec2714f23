use Rattle.std.proofs.Common.{option_copied}
use Rattle.scasp_lines_walk.proofs.ShownLemmas.StandingLemmas.{line_found}
use Rattle.scasp_lines_walk.proofs.shown.table.Table.line.Goals as goal

pub returns : goal.returns
returns c =
    line_found c.args.self.now.rows.items c.as_slice.result.now c.args.number (option_copied c.row_at.result) c.if-number-eq0.false c.as_slice.ensures.value c.row_at.ensures
