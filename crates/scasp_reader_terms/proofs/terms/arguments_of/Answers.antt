use Rattle.std.proofs.Common.{[], ◌∷◌, sym, ap, ◌∙◌}
use Rattle.std.proofs.lemmas.List.{map-append}
use Rattle.scasp_syntax.specs.Tm.{listed, pushed}
use Rattle.scasp_syntax.specs.View.{tm_of}
use Rattle.scasp_reader_terms.proofs.TermLemmas.{listed-push}
use Rattle.scasp_reader_terms.proofs.terms.arguments_of.Goals as goal

pub loop-term-preserved : goal.loop-term-preserved
loop-term-preserved c =
    let t = c.in-Some.term in
    c.in_ok-push.ensures.value ∙ ap (λ ts. pushed ts (tm_of t)) c.loop-term.invariant ∙ listed-push _ (tm_of t) ∙ ap listed (sym (map-append tm_of c.loop-term.yielded (t ∷ [])))
