use Rattle.std.proofs.Common.{length, ap, refl}
use Rattle.scasp_store.proofs.KeepLemmas.{kept_given}
use Rattle.scasp_store.proofs.store.Store.give.Goals as goal

pub invariant_of-self-2 : goal.invariant_of-self-2
invariant_of-self-2 c = kept_given c.self.inside.is_solved c.self.inside.known c.self.inside.bound c.self.inside.given c.give.new.self c.self.inside.rest record { reading = c.self.inside.rest.reading; fixed = c.self.inside.rest.fixed; places = c.push.new.self } c.args.constraint (length c.as_slice-place.result.now) c.in_ok-give.ensures.now c.give.ensures.before refl refl c.in_ok-push.ensures.now c.push.ensures.before (ap length c.as_slice-place.ensures) c.self.invariant
