use Rattle.std.proofs.Common.{ap, ◌∙◌}
use Rattle.scasp_syntax.specs.View.{tms_of}
use Rattle.scasp_syntax.specs.Walks.{onto, waiting}
use Rattle.scasp_syntax.proofs.WalkLemmas.{onto-nil}
use Rattle.scasp_syntax.proofs.walk.Walk.over.Goals as goal

pub returns : goal.returns
returns c = ap (λ ls. onto (tms_of c.args.terms.now) (waiting ls)) c.new.ensures.items ∙ onto-nil (tms_of c.args.terms.now)
