use Rattle.std.proofs.Common.{◌∙◌, ap, sym}
use Rattle.scasp_syntax.specs.Tm.{items}
use Rattle.scasp_tables.proofs.KeyLemmas.{found_term, tested_term}
use Rattle.scasp_tables.proofs.domain.Domain.find.Goals as goal

pub returns-in-Some-clause-found : goal.returns-in-Some-clause-found
returns-in-Some-clause-found c =
    found_term _ _ _ _ _ _ c.in-Some.place (ap items c.self.view_is) c.self.invariant.0 c.as_slice.ensures.value c.in_ok-key.ensures c.in-Some.ensures.found

pub returns-clause-absent : goal.returns-clause-absent
returns-clause-absent c =
    sym (tested_term _ _ _ _ _ _ (ap items c.self.view_is) c.self.invariant.0 c.as_slice.ensures.value c.in_ok-key.ensures) ∙ c.in-None.ensures.absent
