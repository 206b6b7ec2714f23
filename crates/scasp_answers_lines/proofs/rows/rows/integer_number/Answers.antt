use Rattle.std.proofs.Common.{◌∙◌, ap, pos}
use Rattle.scasp_num.specs.Arithmetic.{lowest}
use Rattle.scasp_num.proofs.Numbers.{stored}
use Rattle.scasp_lines_places.proofs.DuesLemmas.NormalLemmas.{integer_is}
use Rattle.scasp_answers_lines.proofs.rows.rows.integer_number.Goals as goal

pub returns : goal.returns
returns c = integer_is c.args.value c.in-Ok.number (c.in-Ok.ensures.value ∙ ap (λ z. lowest z (pos 1)) (stored c.args.value c.requires))
