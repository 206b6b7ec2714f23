use Rattle.std.proofs.Common.{sym, subst, ◌∙◌}
use Rattle.scasp_store.specs.Inside.Fixing.{AreFixed}
use Rattle.scasp_store.proofs.FixLemmas.{one_fixed}
use Rattle.scasp_store.proofs.fixing.fix.Goals as goal

pub returns : goal.returns
returns c = λ cs d l s t h. subst (AreFixed cs) (sym c.in_ok-push.ensures.now) (one_fixed cs d c.args.told.now c.args.fixed.now.now c.args.binding (sym c.is_among.ensures ∙ c.if-not-is_among.false) (c.in_ok-is_new.ensures c.if-not-branch.false) l s t h)
