use Rattle.std.proofs.Common.{◌∙◌, ap, sym}
use Rattle.scasp_syntax.specs.Tm.{items}
use Rattle.scasp_syntax.specs.View.{tm_of}
use Rattle.scasp_tables.specs.Tables.{is_member}
use Rattle.scasp_extend_parts.proofs.SaidLemmas.{member-found}
use Rattle.scasp_extend_parts.proofs.literals.is_in.Goals as goal

pub returns-in-Some : goal.returns-in-Some
returns-in-Some c =
    let d = items c.args.domain.now in
    sym (ap (is_member d) (sym c.in_ok-value.ensures)
    ∙ member-found d (tm_of c.in_ok-value.value) c.in_ok-find.field-0 _ c.in-Some.is c.in_ok-find.ensures.found)
