use Rattle.std.proofs.Common.{ap, ◌∙◌}
use Rattle.scasp_syntax.specs.View.{tm_of}
use Rattle.scasp_bind.specs.Inside.Heads.{terms_of}
use Rattle.scasp_bind.proofs.WalkLemmas.{known_app, known_lighter, terms_of-push}
use Rattle.scasp_bind.proofs.walks.is_known.Goals as goal

pub loop-next-smaller : goal.loop-next-smaller
loop-next-smaller c =
    known_lighter c.in-App.field-0 (terms_of c.pop.new.self.items) (terms_of c.loop-next.unseen.items) (terms_of c.push_all.new.unseen.items) (tm_of c.in-Some.next.now) c.in-App.args
    (ap terms_of c.in-Some.ensures.items ∙ terms_of-push c.pop.new.self.items c.in-Some.next) c.in_ok-push_all-in-App.ensures (ap tm_of c.in-App.is)

pub loop-next-preserved : goal.loop-next-preserved
loop-next-preserved c =
    known_app c.args.count c.in-App.field-0 (terms_of c.pop.new.self.items) (terms_of c.loop-next.unseen.items) (terms_of c.push_all.new.unseen.items) (tm_of c.in-Some.next.now) c.in-App.args _
    (ap terms_of c.in-Some.ensures.items ∙ terms_of-push c.pop.new.self.items c.in-Some.next) c.in_ok-push_all-in-App.ensures (ap tm_of c.in-App.is) c.loop-next.invariant
