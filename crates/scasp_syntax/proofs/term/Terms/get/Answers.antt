use Rattle.std.proofs.Common.{ap, sym, option_map, ◌∙◌}
use Rattle.std.proofs.lemmas.Option.{slice_get-map}
use Rattle.scasp_syntax.specs.View.{tm_of}
use Rattle.scasp_syntax.proofs.TermLemmas.{items-tms_of, slice_get-got}
use Rattle.scasp_syntax.proofs.term.Terms.get.Goals as goal

pub returns : goal.returns
returns c =
    let terms = c.self.inside.list.items in
    let found = c.get.ensures.lookup in
    let at = slice_get-got c.get.result c.deref.result.now terms c.args.place c.deref.ensures.value found.0 found.1 in
    rw (← c.self.view_is, items-tms_of) (ap (option_map tm_of) at ∙ sym (slice_get-map tm_of terms c.args.place))
