use Rattle.std.proofs.Common.{refl}
use Rattle.scasp_checker_lines.specs.LineFaults.Whole.{whole}
use Rattle.scasp_lines_places.specs.Dues.DueView.{due_value}
use Rattle.scasp_lines_places.specs.Places.View.{place_of}
use Rattle.scasp_checker_lines.proofs.TableFaultsLemmas.SeenLemmas.{seen-judged}
use Rattle.scasp_checker_lines.proofs.table_faults.seen.accept_seen.Goals as goal

pub returns : goal.returns
returns c =
    seen-judged (whole c.args.common.now) c.args.at (place_of c.args.here.now) (due_value c.args.due.now) c.args.lit.now c.args.to
    c.in_ok-is_shown.is_shown c.accept_seen.result refl
    (c.in_ok-is_shown.ensures (whole c.args.common.now).lines c.requires) c.accept_seen.ensures
