use Rattle.std.proofs.Common.{map, reverse, vec_len}
use Rattle.scasp_cert.specs.Certificate.{certificate_of}
use Rattle.scasp_lines.specs.Lines.{lines}
use Rattle.scasp_lines_walk.specs.Shown.TableView.{standing_of}
use Rattle.scasp_lines_walk.proofs.ShownLemmas.RowLemmas.{Tabled}
use Rattle.scasp_lines_walk.proofs.shown.rows.table_of.Given as goal

abbrev pub invariant-loop-line : goal.invariant-loop-line
invariant-loop-line l = Tabled (lines l.program (certificate_of l.cert)) l.lines.items (map standing_of l.rows.items) (reverse l.ended.items)

abbrev pub decreases-loop-line : goal.decreases-loop-line
decreases-loop-line l = vec_len l.lines
