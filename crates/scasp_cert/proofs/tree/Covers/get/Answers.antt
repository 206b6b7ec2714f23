use Rattle.std.proofs.Common.{ap, sym, ◌∙◌, slice_get}
use Rattle.std.proofs.lemmas.Option.{slice_get-map}
use Rattle.std.specs.Option.{option_map}
use Rattle.scasp_cert.specs.View.{cover_of}
use Rattle.scasp_cert.proofs.tree.Covers.get.Goals as goal

pub returns : goal.returns
returns c =
    ap (λ xs. slice_get xs c.args.i) (sym c.as_slice.ensures)
    ∙ slice_get-map cover_of c.as_slice.result.now c.args.i
    ∙ ap (option_map cover_of) (sym c.item_at.ensures)
