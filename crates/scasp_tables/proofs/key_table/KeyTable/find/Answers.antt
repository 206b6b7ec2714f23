use Rattle.std.proofs.Common.{sym, ap, ◌∙◌}
use Rattle.scasp_name.specs.Texts.{has_text}
use Rattle.scasp_name.proofs.TextLemmas.{text_at-position, has_text-map}
use Rattle.scasp_tables.proofs.key_table.KeyTable.find.Goals as goal

pub returns-in-Some-clause-found : goal.returns-in-Some-clause-found
returns-in-Some-clause-found c =
    rw (← c.self.view_is) (text_at-position (λ k. k.items) _ _ _ (sym c.in-Some.ensures.index))

pub returns-in-None-clause-absent : goal.returns-in-None-clause-absent
returns-in-None-clause-absent c =
    ap (λ z. has_text z c.args.key.now) (sym c.self.view_is) ∙ has_text-map _ c.self.inside.keys.keys c.args.key.now ∙ sym c.in-None.ensures.found
