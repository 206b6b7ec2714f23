use Rattle.std.proofs.Common.{◌≡◌, ◌∙◌, List, ap, map, subst, sym}
use Rattle.std.specs.Borrow.{Bor}
use Rattle.std.specs.Prelude.{OnOk}
use Rattle.std.proofs.lemmas.Simd.{map-map}
use Rattle.scasp_checker_rules.specs.Told.{Told}
use Rattle.scasp_fill.specs.Filling.Inside.Clashing.{with_pairs}
use Rattle.scasp_checker.specs.Partners.Partners.{pairs_of}
use Rattle.scasp_lines_walk.specs.Shown.TableView.{told_from}
use Rattle.scasp_lines_walk.specs.declared.shown.table.Saying.{Saying}
use Rattle.scasp_fill.proofs.filling.clashes.put_partners.Goals as goal

pub returns : goal.returns
returns c =
    let behind : Bor (Bor Saying) → Bor Saying = λ s. s.now in
    subst (λ (ts : List Told). OnOk c.put_each.result (c.put_each.new.made ≡ with_pairs c.args.free c.args.given.now (pairs_of (told_from c.args.partners.now.first, ts)) c.args.made.now))
    (ap (map (λ (s : Bor (Bor Saying)). told_from s.now)) c.as_slice.ensures.value ∙ sym (map-map told_from behind c.in_ok-seconds.seconds.items)
    ∙ ap (map told_from) c.in_ok-seconds.ensures)
    c.put_each.ensures
