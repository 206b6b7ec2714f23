use Rattle.scasp_reader_terms.proofs.Places.{place_in-at}
use Rattle.scasp_answers_terms.proofs.TermsLemmas.PlaceLemmas.{place_in-absent}
use Rattle.std.proofs.Common.{◌∙◌}
use Rattle.scasp_answers_terms.proofs.terms.names.place.Goals as goal

pub returns-in-Some : goal.returns-in-Some
returns-in-Some c = place_in-at c.args.names.now c.args.text.now c.in-Some.name c.len-len.ensures.distinct c.in-Some.ensures.found

pub returns-in-None : goal.returns-in-None
returns-in-None c = c.new.ensures ∙ (c.len-len.ensures.count ∙ place_in-absent c.args.names.now c.args.text.now c.in-None.ensures.absent)
