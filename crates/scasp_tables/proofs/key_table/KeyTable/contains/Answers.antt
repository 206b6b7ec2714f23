use Rattle.std.proofs.Common.{sym, ap, ◌∙◌}
use Rattle.scasp_name.specs.Texts.{has_text}
use Rattle.scasp_name.proofs.TextLemmas.{has_text-map}
use Rattle.scasp_tables.proofs.key_table.KeyTable.contains.Goals as goal

pub returns : goal.returns
returns c =
    c.is_some.ensures ∙ c.get_index_of.ensures.found ∙ sym (has_text-map _ c.self.inside.keys.keys c.args.key.now)
    ∙ ap (λ z. has_text z c.args.key.now) c.self.view_is
