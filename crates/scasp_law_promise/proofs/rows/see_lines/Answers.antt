use Rattle.std.proofs.Common.{rules, ◌≡◌, []}
use Rattle.scasp_cert.specs.Certificate.{certificate_of}
use Rattle.scasp_cert.specs.WalkView.{lines_left}
use Rattle.scasp_law_promise.proofs.SeenRows.{wholly_normal}
use Rattle.scasp_law_promise.proofs.rows.see_lines.Goals as goal

pub returns : goal.returns
returns c =
    let none : lines_left c.loop-walk.walk ≡ [] = search rules in
    wholly_normal (certificate_of c.args.cert.now) (lines_left c.loop-walk.walk) c.see_constraints.ensures c.loop-walk.invariant none
