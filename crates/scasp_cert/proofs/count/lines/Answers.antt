use Rattle.std.proofs.Common.{rules, ◌≡◌, [], length, ap, arith}
use Rattle.scasp_cert.specs.Certificate.{certificate_of}
use Rattle.scasp_cert.specs.WalkView.{lines_left}
use Rattle.scasp_cert.proofs.WalkLemmas.{all_counted}
use Rattle.scasp_cert.proofs.count.lines.Goals as goal

pub returns : goal.returns
returns c =
    let none : lines_left c.loop-walk.walk ≡ [] = search rules in
    omega (arith, ap length none, all_counted (certificate_of c.args.cert.now), c.loop-walk.invariant.kept, c.loop-walk.invariant.bound)
