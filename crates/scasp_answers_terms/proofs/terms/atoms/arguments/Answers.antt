use Rattle.std.proofs.Common.{◌≡◌, ◌∙◌, ap, sym, subst, true}
use Rattle.scasp_reader_terms.specs.Names.{place_in}
use Rattle.scasp_answers_terms.specs.Tokens.View.{Reads}
use Rattle.scasp_answers_terms.specs.Tokens.Terms.{arguments_at}
use Rattle.scasp_answers_terms.proofs.terms.atoms.arguments.Goals as goal

pub returns-then-takes : goal.returns-then-takes
returns-then-takes c =
    let next = rw c.if-takes.true at c.takes.ensures in
    subst (λ read. Reads (λ ts. ts) read c.listed_until.result c.listed_until.new.cursor) (sym (ap (arguments_at (place_in c.args.names.now)) next)) c.listed_until.ensures
