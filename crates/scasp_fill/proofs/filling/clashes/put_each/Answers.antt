use Rattle.std.proofs.Common.{◌≡◌, ◌∙◌, ◌+◌, ◌∷◌, List, ap, drop, map, refl, sym}
use Rattle.std.specs.Borrow.{Bor}
use Rattle.scasp_fill.specs.Filling.Inside.Clashing.{with_pairs}
use Rattle.scasp_checker.specs.Partners.Partners.{pairs_of}
use Rattle.scasp_lines_walk.specs.Shown.TableView.{told_from, told_of}
use Rattle.scasp_lines_walk.specs.declared.shown.table.Saying.{Saying}
use Rattle.scasp_syntax.proofs.Walks.{drop-at}
use Rattle.scasp_fill.proofs.filling.clashes.put_each.Goals as goal

pub loop-second-preserved : goal.loop-second-preserved
loop-second-preserved c =
    let free = c.args.free in
    let given = c.args.given.now in
    let first = told_of c.args.first.now in
    let ss = c.args.seconds.now in
    let i = c.loop-second.second-index in
    let s = c.second-item.result in
    let here : drop i ss ≡ s ∷ drop (i + 1) ss = drop-at ss i s s c.loop-second-test.true c.second-item.is refl in
    ap (with_pairs free given (pairs_of (first, map (λ (x : Bor (Bor Saying)). told_from x.now) (drop (i + 1) ss)))) c.in_ok-put_pair.ensures
    ∙ ap (λ (xs : List (Bor (Bor Saying))). with_pairs free given (pairs_of (first, map (λ (x : Bor (Bor Saying)). told_from x.now) xs)) c.loop-second.made) (sym here)
    ∙ c.loop-second.invariant
