use Rattle.scasp_syntax.specs.View.{tm_of}
use Rattle.scasp_unify.specs.Parts.{occurs}
use Rattle.scasp_diseq.proofs.UnseenLemmas.{noted-twice, on_ok}
use Rattle.scasp_diseq.proofs.noting.note_sides.Goals as goal

pub returns-clause-noted : goal.returns-clause-noted
returns-clause-noted c =
    on_ok c.note_term-2.result c.note_term-2.ensures.noted
    (noted-twice c.args.place (λ y. occurs y (tm_of c.args.left.now)) (λ y. occurs y (tm_of c.args.right.now)) c.args.mentions.now c.note_term.new.mentions c.note_term-2.new.mentions c.in_ok-note_term.ensures.noted)
