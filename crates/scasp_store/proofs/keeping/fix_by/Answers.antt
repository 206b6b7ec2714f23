use Rattle.std.proofs.Common.{IfSome, subst}
use Rattle.scasp_store.specs.Inside.Fixing.{Leaves}
use Rattle.scasp_store.proofs.BehindLemmas.{then_ok}
use Rattle.scasp_store.proofs.keeping.fix_by.Goals as goal

pub returns-in-Some-clause-good : goal.returns-in-Some-clause-good
returns-in-Some-clause-good c = then_ok c.fix.result (λ f bs s h. f bs c.args.constraint.now (subst (λ o. IfSome o (Leaves c.args.rest.now.reading.now c.args.constraint.now)) c.in-Some.is (c.in_ok-binding.ensures h.reads.triangular)) s h) c.fix.ensures.good
