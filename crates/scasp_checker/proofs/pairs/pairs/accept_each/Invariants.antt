use Rattle.std.proofs.Common.{◌≡◌, drop, map}
use Rattle.scasp_cert.specs.Certificate.{certificate_of}
use Rattle.scasp_lines.specs.Lines.{free_of}
use Rattle.scasp_lines_walk.specs.Shown.TableView.{told_from, told_of}
use Rattle.scasp_checker.specs.Pairs.Inside.Groups.{group_faults}
use Rattle.scasp_checker.proofs.pairs.pairs.accept_each.Given as goal

abbrev pub invariant-loop-second : goal.invariant-loop-second
invariant-loop-second l =
    let c = l.against.cert.now in
    group_faults (free_of (certificate_of c)) c.given c.clashes (told_of l.first, map (λ s. told_from s.now) (drop l.second-index l.seconds))
    ≡ group_faults (free_of (certificate_of c)) c.given c.clashes (told_of l.first, map (λ s. told_from s.now) l.seconds)
