use Rattle.std.proofs.Common.{◌∙◌, ap, map, sym}
use Rattle.std.proofs.lemmas.Result.{IfOk-weaker}
use Rattle.std.proofs.lemmas.Simd.{map-map}
use Rattle.scasp_lines_places.specs.Places.Chains.{behind}
use Rattle.scasp_lines_places.specs.Places.View.{opened_of}
use Rattle.scasp_lines_places.proofs.dues.contexts.entries.Goals as goal

pub returns : goal.returns
returns c = IfOk-weaker c.items.result _ _ (λ all e. sym (map-map opened_of behind all.items) ∙ ap (map opened_of) e) c.items.ensures
