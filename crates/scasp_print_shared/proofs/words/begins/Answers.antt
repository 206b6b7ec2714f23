use Rattle.std.proofs.Common.{◌∙◌, sym}
use Rattle.scasp_copies.proofs.WordLemmas.{begins_is}
use Rattle.scasp_print_shared.proofs.words.begins.Goals as goal

pub returns : goal.returns
returns c = c.starts_with.ensures.value ∙ sym (begins_is c.args.first.now c.args.text.now)
