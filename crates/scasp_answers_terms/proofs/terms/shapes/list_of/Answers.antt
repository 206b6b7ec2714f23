use Rattle.std.proofs.Common.{◌≡◌, map, sym, ap, ◌∙◌}
use Rattle.scasp_syntax.specs.Tm.{app, cons, nil, pushed}
use Rattle.scasp_syntax.specs.View.{tm_of}
use Rattle.scasp_reader_terms.specs.Terms.{list_of}
use Rattle.scasp_reader_terms.proofs.TermLemmas.{list_of-popped}
use Rattle.scasp_answers_terms.proofs.terms.shapes.list_of.Goals as goal

pub loop-term-preserved : goal.loop-term-preserved
loop-term-preserved c =
    let t = c.in-Some.term in
    let tail = c.loop-term.list in
    let rest = c.pop.new.self.items in
    let parts : c.push-in-Some.new.self ≡ cons (tm_of t) (cons (tm_of tail) nil) =
    c.in_ok-push-2.ensures.value ∙ ap (λ ts. pushed ts (tm_of tail)) (c.in_ok-push.ensures.value ∙ ap (λ ts. pushed ts (tm_of t)) c.new-parts.ensures) in
    ap (λ ts. list_of (map tm_of rest) (app 1 ts)) parts ∙ sym (list_of-popped c.loop-term.terms.items rest t (tm_of tail) c.in-Some.ensures.items) ∙ c.loop-term.invariant
