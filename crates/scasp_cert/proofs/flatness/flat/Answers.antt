use Rattle.std.proofs.Common.{rules, ◌≡◌, [], false}
use Rattle.scasp_cert.specs.Certificate.{certificate_of}
use Rattle.scasp_cert.specs.Flat.{are_flat, listed_on}
use Rattle.scasp_cert.specs.WalkView.{line_of, lines_left}
use Rattle.scasp_cert.proofs.FlatLemmas.{not_flat, wholly_flat}
use Rattle.scasp_cert.proofs.WalkLemmas.{comes}
use Rattle.scasp_cert.proofs.flatness.flat.Goals as goal

pub returns-then-not-branch : goal.returns-then-not-branch
returns-then-not-branch c =
    let unflat : are_flat c.len-free.result (listed_on (line_of c.in-Some.line)) ≡ false = search rules in
    not_flat c.len-free.result (certificate_of c.args.cert.now) (line_of c.in-Some.line) (lines_left c.loop-walk.walk) (lines_left c.next.new.self)
    c.len-free.ensures c.loop-walk.invariant (comes c.in_ok-line.field-0 c.in-Some.line c.loop-walk.walk c.next.new.self c.in-Some.is c.in_ok-line.ensures) unflat

pub returns : goal.returns
returns c =
    let none : lines_left c.loop-walk.walk ≡ [] = search rules in
    wholly_flat c.len-free.result (certificate_of c.args.cert.now) (lines_left c.loop-walk.walk) c.len-free.ensures c.loop-walk.invariant none
