use Rattle.std.proofs.Common.{string_bytes, sym}
use Rattle.scasp_name.proofs.TextLemmas.{text_at-position, has_text-map}
use Rattle.scasp_name.proofs.names.Names.find.Goals as goal

pub returns-in-Some-clause-found : goal.returns-in-Some-clause-found
returns-in-Some-clause-found c =
    rw (← c.self.view_is, c.new.ensures) (text_at-position string_bytes _ _ _ (sym c.in-Some.ensures.index))

pub returns-in-None-clause-absent : goal.returns-in-None-clause-absent
returns-in-None-clause-absent c =
    rw (← c.self.view_is, has_text-map string_bytes) (sym c.in-None.ensures.found)
