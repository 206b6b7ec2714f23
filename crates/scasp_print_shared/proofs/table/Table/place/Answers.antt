use Rattle.std.proofs.Common.{map, ap, ◌∙◌}
use Rattle.scasp_name.specs.Texts.{with_text}
use Rattle.scasp_name.proofs.TextLemmas.{with_text-map}
use Rattle.scasp_print_shared.specs.Inside.Classes.{place_in}
use Rattle.scasp_print_shared.specs.Inside.Keys.{numbers_of}
use Rattle.scasp_print_shared.proofs.ClassLemmas.{place-map}
use Rattle.scasp_print_shared.proofs.table.Table.place.Goals as goal

pub returns-clause-place : goal.returns-clause-place
returns-clause-place c =
    c.in_ok-place.ensures.index ∙ place-map numbers_of c.self.inside.keys.keys (numbers_of c.args.key)
    ∙ ap (λ keys. place_in keys (numbers_of c.args.key)) c.self.view_is

pub returns-clause-keys : goal.returns-clause-keys
returns-clause-keys c =
    ap (map numbers_of) c.in_ok-place.ensures.keys ∙ with_text-map numbers_of c.self.inside.keys.keys c.args.key
    ∙ ap (λ keys. with_text keys (numbers_of c.args.key)) c.self.view_is
