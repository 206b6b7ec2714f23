use Rattle.std.proofs.Common.{◌∙◌, nat_lt}
use Rattle.scasp_touched.proofs.EditLemmas.{place-among}
use Rattle.scasp_touched.proofs.edit.has.Goals as goal

pub returns : goal.returns
returns c = (λ i. nat_lt (c.place.ensures i) (c.len.ensures i)) ∙ place-among c.args.preds.now c.args.pred
