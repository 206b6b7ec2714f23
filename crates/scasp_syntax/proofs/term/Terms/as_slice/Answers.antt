use Rattle.std.proofs.Common.{sym}
use Rattle.scasp_syntax.proofs.TermLemmas.{items-tms_of, weight-at}
use Rattle.scasp_syntax.proofs.term.Terms.as_slice.Goals as goal

pub returns-clause-terms : goal.returns-clause-terms
returns-clause-terms c = rw (c.as_slice.ensures.value, ← c.self.view_is) (sym (items-tms_of c.self.inside.list.items))

pub returns-clause-lighter : goal.returns-clause-lighter
returns-clause-lighter c = λ i d h. rw (c.as_slice.ensures.value, ← c.self.view_is) (weight-at c.self.inside.list.items i d (rw c.as_slice.ensures.value at h))
