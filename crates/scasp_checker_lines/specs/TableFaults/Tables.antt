-- The table of the lines of a certificate.
use Rattle.std.specs.Prelude.{◌≡◌}
use Rattle.scasp_checker_lines.specs.LineFaults.Whole.{whole}
use Rattle.scasp_checker_lines.specs.declared.line_faults.common.Common.{Common}
use Rattle.scasp_lines_walk.specs.Shown.Standings.{standings}
use Rattle.scasp_lines_walk.specs.Shown.TableView.{table_value}
use Rattle.scasp_lines_walk.specs.declared.shown.table.Table.{Table}

-- it is that of the certificate
abbrev pub Tells : Table → Common → Type 0
Tells t c = table_value t ≡ standings (whole c).lines
