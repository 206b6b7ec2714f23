use Rattle.std.proofs.Common.{◌≡◌, ◌++◌, ◌∷◌, [], map, ap, ◌∙◌}
use Rattle.std.proofs.lemmas.Bool.{cond-false}
use Rattle.scasp_name.specs.Texts.{with_text}
use Rattle.scasp_name.proofs.TextLemmas.{with_text-map}
use Rattle.scasp_tables.proofs.key_table.KeyTable.push.Goals as goal

pub returns-clause-ok : goal.returns-clause-ok
returns-clause-ok c =
    let key = c.args.key in
    let old = c.args.self.now in
    ap (map (λ k. k.items)) c.in_ok-insert.ensures.keys ∙ with_text-map (λ k. k.items) c.self.inside.keys.keys key
    ∙ ap (λ keys. with_text keys key.items) c.self.view_is
    ∙ cond-false _ old (old ++ key.items ∷ []) c.requires
