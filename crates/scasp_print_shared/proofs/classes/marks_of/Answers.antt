use Rattle.std.proofs.Common.{◌≡◌, ◌+◌, ◌-◌, ◌<◌, ◌^◌, ℕ, length, get_or, subst, arith}
use Rattle.std.proofs.lemmas.List.{get_or_default}
use Rattle.scasp_print_shared.proofs.LineLemmas.{no_line}
use Rattle.scasp_print_shared.proofs.MarkLemmas.{Marked, all-marked, one-more}
use Rattle.scasp_print_shared.proofs.classes.marks_of.Goals as goal

pub loop-left-preserved : goal.loop-left-preserved
loop-left-preserved c =
    let ls = c.args.lines.now in
    let left = c.loop-left.left in
    let now = left - 1 in
    let x = get_or ls now no_line in
    let w = c.loop-left.invariant.within in
    let e : now + 1 ≡ left = omega (arith, c.loop-left-test.true) in
    let at : x ≡ get_or ls now x = get_or_default ls now no_line x (omega (arith, w, e)) in
    one-more c.loop-left.table c.add_root.new.table ls now left x c.in_ok-add_root.field-0
    c.loop-left.roots.items c.add_root.new.roots.items c.loop-left.marks.items c.push.new.self.items
    c.loop-left.invariant e at c.in_ok-add_root.ensures.root c.in_ok-add_root.ensures.roots c.in_ok-add_root.ensures.table c.in_ok-push.ensures.items

pub returns : goal.returns
returns c =
    let ls = c.args.lines.now in
    let small : length ls < 2 ^ 63 = omega arith in
    let zero : c.loop-left.left ≡ 0 = omega (arith, c.loop-left-test.false) in
    all-marked c.loop-left.table ls c.loop-left.roots.items c.loop-left.marks.items _ small
    (subst (λ (n : ℕ). Marked c.loop-left.table ls n c.loop-left.roots.items c.loop-left.marks.items) zero c.loop-left.invariant) c.reverse.ensures.items
