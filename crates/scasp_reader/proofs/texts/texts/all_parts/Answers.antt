use Rattle.std.proofs.Common.{◌≡◌, ◌-◌, ◌+◌, ◌≤◌, sym, ap, ◌∙◌, arith}
use Rattle.scasp_reader.specs.Texts.Texts.{next_part, part_count, parts_within, with_part}
use Rattle.scasp_reader.proofs.TextsLemmas.PartLemmas.{part_count-more, parts_more}
use Rattle.scasp_reader.proofs.texts.texts.all_parts.Goals as goal

pub loop-left-preserved : goal.loop-left-preserved
loop-left-preserved c =
    let p = c.loop-left.parts in
    let s = c.loop-left.reader in
    let t = c.next_part.new.reader in
    let left = c.loop-left.left in
    let q = c.in_ok-part.part in
    let is_next = ap (λ n. next_part n s) (sym c.count.ensures) ∙ c.in_ok-part.ensures in
    let more : part_count (with_part p q) ≤ part_count p + 1 = part_count-more p q in
    let same : part_count c.push.new.self ≡ part_count (with_part p q) = ap part_count c.in_ok-push.ensures in (
      ap (λ q. parts_within (left - 1) q t) c.in_ok-push.ensures
          ∙ sym (parts_more left c.loop-left-test.true p s q t is_next (sym c.is_end.ensures ∙ c.if-is_end.false))
          ∙ c.loop-left.invariant.0,
      omega (arith, more, same, c.loop-left.invariant.1, c.loop-left-test.true),
    )
