use Rattle.std.proofs.Common.{◌≡◌, ◌-◌, List, Some, ap, arith, length, slice_get, sym, ◌∙◌}
use Rattle.scasp_loops.specs.declared.entry.Entry.{Entry}
use Rattle.scasp_loops.specs.declared.hints.Hint.{Hint}
use Rattle.scasp_loops.proofs.TopLemmas.{more_top}
use Rattle.scasp_loops.proofs.lists.top_among.Goals as goal

pub returns : goal.returns
returns c =
    let es = c.args.lists.now.entries.now in
    let hs = c.args.lists.now.hints.now in
    let last = c.len-count.result - 1 in
    let entry : slice_get es last ≡ Some c.entry_at-entry.result.now = ap (λ (xs : List Entry). slice_get xs last) (sym c.as_slice-2.ensures) ∙ c.entry_at-entry.ensures in
    let hint : slice_get hs last ≡ Some c.hint_of-hint.result = ap (λ (xs : List Hint). slice_get xs last) (sym c.as_slice.ensures) ∙ c.hint_of-hint.ensures in
    more_top c.later.result last (length c.args.lists.now.marks.now) es hs c.entry_at-entry.result.now c.hint_of-hint.result (omega arith) (omega arith) entry hint c.later.ensures.first
    (λ r u. c.start_of.ensures r (omega (arith, u, c.later.ensures.second)))
