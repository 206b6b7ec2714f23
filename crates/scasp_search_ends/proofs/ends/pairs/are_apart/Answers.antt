use Rattle.std.proofs.Common.{◌∷◌, ◌∙◌, map, sym}
use Rattle.std.proofs.lemmas.Result.{err_from_is_err_and}
use Rattle.scasp_lines_walk.specs.Shown.TableView.{told_from}
use Rattle.scasp_search_ends.proofs.EndsLemmas.BehindLemmas.{walked-fault, walked-met, walked-more}
use Rattle.scasp_search_ends.specs.Ends.Inside.Behind.{told_under}
use Rattle.scasp_search_ends.proofs.ends.pairs.are_apart.Goals as goal

pub returns-in_err-is_apart_behind : goal.returns-in_err-is_apart_behind
returns-in_err-is_apart_behind c =
    let w = c.loop-saying.invariant in
    let p = err_from_is_err_and c.from_residual.result c.from_residual.ensures.1 in
    rw (p.1, p.2)
    (walked-fault c.args.free c.args.given.now c.in-Some.saying c.loop-saying.left.items c.pop.new.self.items (map told_from c.args.left.items) w.0 (told_under c.loop-saying.behind)
    c.in-Some.ensures.items w.1 c.in_err-is_apart_behind.field-0.0 _ _ (c.in_err-is_apart_behind.ensures w.0 w.1.found))

pub returns-then-not-branch : goal.returns-then-not-branch
returns-then-not-branch c =
    let w = c.loop-saying.invariant in
    walked-met c.args.free c.args.given.now c.in-Some.saying c.loop-saying.left.items c.pop.new.self.items (map told_from c.args.left.items) w.0 (told_under c.loop-saying.behind)
    c.in-Some.ensures.items w.1 (sym c.if-not-branch.true ∙ c.in_ok-is_apart_behind.ensures w.0 w.1.found)

pub loop-saying-preserved : goal.loop-saying-preserved
loop-saying-preserved c =
    let w = c.loop-saying.invariant in (
      told_from c.in-Some.saying ∷ w.0,
      walked-more c.args.free c.args.given.now c.in-Some.saying c.loop-saying.left.items c.pop.new.self.items (map told_from c.args.left.items) w.0 (told_under c.loop-saying.behind)
          c.in-Some.ensures.items w.1 (told_under c.put_before.new.behind) (c.in_ok-put_before.ensures w.0 w.1.found)
          (sym c.if-not-branch.false ∙ c.in_ok-is_apart_behind.ensures w.0 w.1.found),
    )
