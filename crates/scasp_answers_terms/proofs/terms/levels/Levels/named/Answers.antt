use Rattle.std.proofs.Common.{◌∙◌, ap, sym, subst}
use Rattle.scasp_answers_terms.specs.Tokens.Terms.{ends}
use Rattle.scasp_answers_terms.specs.Terms.Levels.{opens_of, before_of, named, Goes}
use Rattle.scasp_answers_terms.proofs.TermsLemmas.BeginLemmas.{named-alone}
use Rattle.scasp_answers_terms.proofs.terms.levels.Levels.named.Goals as goal

pub returns-then-takes-clause-goes : goal.returns-then-takes-clause-goes
returns-then-takes-clause-goes c = λ place.
    let levels = c.args.self.now in
    let ts = c.takes.new.self in
    let next = rw c.if-takes.true at c.takes.ensures in
    let same = ap (named place (opens_of levels) (before_of levels) c.args.name) next in
    subst (λ read. Goes place read c.open_call.result c.open_call.new.self ts) (sym same) (c.open_call.ensures.goes place ts)

pub returns-clause-goes : goal.returns-clause-goes
returns-clause-goes c = λ place.
    let levels = c.args.self.now in
    let ts = c.takes.new.self in
    let next = rw c.if-takes.false at c.takes.ensures in
    let same = named-alone place (opens_of levels) (before_of levels) c.args.name c.args.cursor.now next.0 in
    let moved = same ∙ ap (ends place (opens_of levels) (before_of levels) _) (sym next.1) in
    subst (λ read. Goes place read c.constant.result levels ts) (sym moved) (c.constant.ensures.goes place levels ts)
