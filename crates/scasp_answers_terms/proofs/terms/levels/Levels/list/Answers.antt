use Rattle.std.proofs.Common.{◌∙◌, ◌∷◌, [], ap, sym, subst, Some}
use Rattle.scasp_syntax.specs.Tm.{app}
use Rattle.scasp_answers_terms.specs.Tokens.Tokens.{bracket}
use Rattle.scasp_answers_terms.specs.Tokens.Terms.{wants, ends}
use Rattle.scasp_answers_terms.specs.Terms.Levels.{opens_of, before_of, Goes}
use Rattle.scasp_answers_terms.proofs.TermsLemmas.BeginLemmas.{list-open}
use Rattle.scasp_answers_terms.proofs.terms.levels.Levels.list.Goals as goal

pub returns-then-takes-clause-goes : goal.returns-then-takes-clause-goes
returns-then-takes-clause-goes c = λ place.
    let levels = c.args.self.now in
    let next = rw c.if-takes.true at c.takes.ensures in
    ap (λ ts. wants place (opens_of levels) (before_of levels) (bracket ∷ ts)) next
    ∙ ap (λ ts. ends place (opens_of levels) (before_of levels) (Some (app 0 ts)) c.takes.new.self) (sym c.new.ensures)

pub returns-clause-goes : goal.returns-clause-goes
returns-clause-goes c = λ place.
    let levels = c.args.self.now in
    let ts = c.takes.new.self in
    let next = rw c.if-takes.false at c.takes.ensures in
    let same = list-open place (opens_of levels) (before_of levels) c.args.cursor.now next.0 in
    let moved = same ∙ ap (wants place _ []) (sym next.1) in
    subst (λ read. Goes place read c.open_list.result c.open_list.new.self ts) (sym moved) (c.open_list.ensures.goes place ts)
