use Rattle.std.proofs.Common.{◌≡◌, ◌∙◌, ◌+◌, ◌-◌, ◌<◌, List, ap, sym, arith, length}
use Rattle.std.specs.Borrow.{Bor}
use Rattle.std.proofs.lemmas.Result.{err_from_is_err_and}
use Rattle.scasp_lines.specs.Opened.{Opened}
use Rattle.scasp_lines_places.specs.Places.View.{opened_of}
use Rattle.scasp_lines_places.specs.declared.places.place.Entry.{Entry}
use Rattle.scasp_syntax.specs.Tm.{items}
use Rattle.scasp_extend_instances.specs.Values.{valued}
use Rattle.scasp_extend_instances.specs.View.{ways_of}
use Rattle.scasp_extend_instances.specs.Within.{overflows}
use Rattle.scasp_extend_instances.proofs.WayLemmas.{makes-later, overflows-at}
use Rattle.scasp_extend_instances.proofs.ways.ways_of.Goals as goal

pub returns-in_err-made-2 : goal.returns-in_err-made-2
returns-in_err-made-2 c =
    let d = items c.args.domain.now in
    let v = valued (items c.args.free.now) in
    let es : List (Bor Entry) = c.in_ok-entries.entries.items in
    let i = c.loop-left.left - 1 in
    let next : i + 1 ≡ c.loop-left.left = omega arith in
    let below : i < length es = omega (arith, c.loop-left.invariant.within) in
    let p = err_from_is_err_and c.from_residual-in_err-made-2.result c.from_residual-in_err-made-2.ensures.1 in
    rw (p.1, p.2)
    (makes-later _ _ _ _ _
    (λ h. sym (ap (λ (os : List Opened). overflows d os v) c.in_ok-entries.ensures)
    ∙ overflows-at (λ (b : Bor Entry). opened_of b.now) d v es i c.loop-left.left c.index.result.now (ways_of c.loop-left.made) next below c.index.ensures
    c.loop-left.invariant.made h)
    c.in_err-made-2.ensures)
