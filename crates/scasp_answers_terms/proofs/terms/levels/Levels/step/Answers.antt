use Rattle.std.proofs.Common.{sym, subst}
use Rattle.scasp_reader_terms.specs.Names.{place_in}
use Rattle.scasp_answers_terms.specs.Terms.Levels.{opens_of, before_of, goes, Goes}
use Rattle.scasp_answers_terms.proofs.terms.levels.Levels.step.Goals as goal

pub returns-in-Ended-clause-goes : goal.returns-in-Ended-clause-goes
returns-in-Ended-clause-goes c =
    let place = place_in c.args.names.now in
    let levels = c.args.self.now in
    subst (λ n. Goes place (goes place n (opens_of levels) (before_of levels) c.args.cursor.now) c.end.result c.end.new.self c.end.new.cursor) (sym c.in-Ended.is) (c.end.ensures.goes place)
