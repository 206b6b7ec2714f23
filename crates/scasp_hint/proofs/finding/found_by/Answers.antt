use Rattle.std.proofs.Common.{sym, ◌∙◌}
use Rattle.scasp_hint.proofs.PlainRows.{asks-plain}
use Rattle.scasp_hint.proofs.finding.found_by.Goals as goal

pub found_by_rows-requires-clause-rows : goal.found_by_rows-requires-clause-rows
found_by_rows-requires-clause-rows c = asks-plain c.args.constraints.now c.in-Ok-Asks.rows (sym c.in-Ok-Asks.ensures ∙ c.in-Ok-Asks.field-0-is)
