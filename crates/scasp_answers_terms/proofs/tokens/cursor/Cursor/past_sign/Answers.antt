use Rattle.scasp_answers_terms.proofs.TokensLemmas.PastLemmas.{past-sign}
use Rattle.scasp_answers_terms.proofs.tokens.cursor.Cursor.past_sign.Goals as goal

pub returns-then-takes-clause-some : goal.returns-then-takes-clause-some
returns-then-takes-clause-some c =
    let next = rw c.if-takes.true at c.takes.ensures in
    past-sign c.args.first c.args.behind.now c.args.text.now c.args.self.now c.takes.new.self c.requires.text c.requires.sign next
