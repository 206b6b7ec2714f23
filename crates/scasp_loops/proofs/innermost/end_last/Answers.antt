use Rattle.std.proofs.Common.{◌≡◌, List, length, subst, sym, ap, ◌≤◌, ◌∙◌}
use Rattle.scasp_loops.proofs.OpenLemmas.{left_one}
use Rattle.scasp_loops.specs.Inside.Open.{left}
use Rattle.scasp_loops.specs.Inside.Changed.{changed, done, looped_at}
use Rattle.scasp_loops.specs.Inside.Zipped.{literals_from}
use Rattle.scasp_loops.specs.declared.entry.Marks.{Marks}
use Rattle.scasp_loops.proofs.innermost.end_last.Goals as goal

pub returns-clause-now : goal.returns-clause-now
returns-clause-now c =
    let es = c.args.entries.now in
    let list = c.as_slice-list.result.now in
    let around = c.moves_to-around.result in
    let e : list ≡ c.args.marks.now.now = c.as_slice-list.ensures in
    let fit : length list ≤ length es = subst (λ (ms : List Marks). length ms ≤ length es) (sym e) c.requires.fit in
    ap (literals_from 0 es) (c.in_ok-mark_loop_at.ensures.now ∙ ap (looped_at around) (c.in_ok-mark_done.ensures.now ∙ ap (changed c.in-Some.at done) (sym e)))
    ∙ left_one es list c.len.result c.in-Some.at c.entry_at-entry.result.now c.marks_at-old.result c.moves_on-moves.result around
    (c.len.ensures.len ∙ ap length (sym e)) fit c.in-Some.ensures.open c.entry_at-entry.ensures c.marks_at-old.ensures c.moves_on-moves.ensures c.moves_to-around.ensures.moved
    ∙ ap (λ (ms : List Marks). left (literals_from 0 es ms)) e
