use Rattle.std.proofs.Common.{sym}
use Rattle.std.proofs.lemmas.List.{length-map}
use Rattle.scasp_syntax.specs.View.{tm_of}
use Rattle.scasp_syntax.proofs.TermLemmas.{items-tms_of}
use Rattle.scasp_syntax.proofs.term.Terms.len.Goals as goal

pub returns : goal.returns
returns c = rw (← c.self.view_is, items-tms_of, c.as_slice.ensures.value) (sym (length-map c.self.inside.list.items tm_of))
