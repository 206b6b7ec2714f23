use Rattle.std.proofs.Common.{◌+◌, ◌∷◌, [], List, drop, map, refl, sym, ap, ◌∙◌}
use Rattle.std.proofs.lemmas.Result.{err_from_is_err_and}
use Rattle.std.specs.Borrow.{Bor}
use Rattle.scasp_checker_rules.specs.Told.{Told}
use Rattle.scasp_lines_walk.specs.Shown.TableView.{told_from, told_of}
use Rattle.scasp_lines_walk.specs.declared.shown.table.Saying.{Saying}
use Rattle.scasp_search_ends.proofs.EndsLemmas.PairLemmas.{behind-first, left-behind, left-fault, left-met}
use Rattle.scasp_search_ends.specs.Ends.Inside.Apart.{lists_behind}
use Rattle.scasp_syntax.proofs.Walks.{drop-at}
use Rattle.scasp_search_ends.proofs.ends.pairs.is_apart_from.Goals as goal

pub returns-in_err-is_apart : goal.returns-in_err-is_apart
returns-in_err-is_apart c =
    let free = c.args.free in
    let given = c.args.given.now in
    let a = told_of c.args.first.now in
    let bs = c.args.seconds.now in
    let i = c.loop-second.second-index in
    let b = c.second-item.result in
    let now = drop-at bs i b b c.loop-second-test.true c.second-item.is refl in
    let later : List Told = map (λ s. told_from s.now) (drop (i + 1) bs) in
    let parts = ap (λ (xs : List (Bor (Bor Saying))). lists_behind free given a (map (λ s. told_from s.now) xs)) now ∙ behind-first free given a (told_from b.now) later in
    let p = err_from_is_err_and c.from_residual.result c.from_residual.ensures.1 in
    rw (p.1, p.2)
    (left-fault c.in_err-is_apart.field-0.0 (lists_behind free given a (told_from b.now ∷ [])) (lists_behind free given a later)
    (lists_behind free given a (map (λ s. told_from s.now) (drop i bs))) (lists_behind free given a (map (λ s. told_from s.now) bs)) _ _ c.loop-second.invariant parts c.in_err-is_apart.ensures)

pub returns-then-not-branch : goal.returns-then-not-branch
returns-then-not-branch c =
    let free = c.args.free in
    let given = c.args.given.now in
    let a = told_of c.args.first.now in
    let bs = c.args.seconds.now in
    let i = c.loop-second.second-index in
    let b = c.second-item.result in
    let now = drop-at bs i b b c.loop-second-test.true c.second-item.is refl in
    let later : List Told = map (λ s. told_from s.now) (drop (i + 1) bs) in
    let parts = ap (λ (xs : List (Bor (Bor Saying))). lists_behind free given a (map (λ s. told_from s.now) xs)) now ∙ behind-first free given a (told_from b.now) later in
    left-met (lists_behind free given a (told_from b.now ∷ [])) (lists_behind free given a later)
    (lists_behind free given a (map (λ s. told_from s.now) (drop i bs))) (lists_behind free given a (map (λ s. told_from s.now) bs)) c.loop-second.invariant parts
    (sym c.in_ok-is_apart.ensures ∙ c.if-not-branch.true)

pub loop-second-preserved : goal.loop-second-preserved
loop-second-preserved c =
    let free = c.args.free in
    let given = c.args.given.now in
    let a = told_of c.args.first.now in
    let bs = c.args.seconds.now in
    let i = c.loop-second.second-index in
    let b = c.second-item.result in
    let now = drop-at bs i b b c.loop-second-test.true c.second-item.is refl in
    let later : List Told = map (λ s. told_from s.now) (drop (i + 1) bs) in
    let parts = ap (λ (xs : List (Bor (Bor Saying))). lists_behind free given a (map (λ s. told_from s.now) xs)) now ∙ behind-first free given a (told_from b.now) later in
    left-behind (lists_behind free given a (told_from b.now ∷ [])) (lists_behind free given a later)
    (lists_behind free given a (map (λ s. told_from s.now) (drop i bs))) (lists_behind free given a (map (λ s. told_from s.now) bs)) c.loop-second.invariant parts
    (sym c.in_ok-is_apart.ensures ∙ c.if-not-branch.false)
