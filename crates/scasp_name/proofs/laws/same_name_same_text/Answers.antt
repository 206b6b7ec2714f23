use Rattle.std.proofs.Common.{ap, slice_get}
use Rattle.scasp_name.proofs.TextLemmas.{same_place}
use Rattle.scasp_name.proofs.laws.same_name_same_text.Goals as goal

pub returns : goal.returns
returns c =
    (λ e. ap (slice_get c.args.names.now) e, same_place c.args.names.now _ _ c.len.ensures.distinct c.requires.first_there)
