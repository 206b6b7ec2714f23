use Rattle.std.proofs.Common.{◌≡◌, ◌-◌, ◌+◌, length, nat_eq, ap, arith}
use Rattle.std.specs.HashMap.{get}
use Rattle.scasp_diseq.proofs.ChainLemmas.{all-back, latest-there}
use Rattle.scasp_diseq.proofs.mentions.Mentions.take_back_latest.Goals as goal

pub restore-requires : goal.restore-requires
restore-requires c =
    let ms = c.self.inside.trail.items in
    let last : length ms ≡ (c.len-last.result - 1) + 1 = omega (arith, c.len-last.ensures.len, c.requires, ap length c.self.view_is) in
    latest-there (get nat_eq c.self.inside.latest) ms (c.len-last.result - 1) c.get-mention.result.now c.self.invariant.0 c.self.invariant.1 c.get-mention.ensures last

pub invariant_of-self : goal.invariant_of-self
invariant_of-self c =
    let ms = c.self.inside.trail.items in
    let last : length ms ≡ (c.len-last.result - 1) + 1 = omega (arith, c.len-last.ensures.len, c.requires, ap length c.self.view_is) in
    all-back (get nat_eq c.self.inside.latest) ms (c.len-last.result - 1) c.get-mention.result.now c.self.invariant.0 c.self.invariant.1 c.get-mention.ensures last
    (get nat_eq c.restore.new.latest) c.rewind.new.self.items c.rewind.ensures.items c.restore.ensures
