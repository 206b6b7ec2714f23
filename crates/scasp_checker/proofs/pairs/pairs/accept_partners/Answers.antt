use Rattle.std.proofs.Common.{◌∙◌, List, ap, map, subst, sym}
use Rattle.std.specs.Borrow.{Bor}
use Rattle.std.proofs.lemmas.Simd.{map-map}
use Rattle.scasp_checker_rules.specs.Told.{Told}
use Rattle.scasp_cert.specs.Certificate.{certificate_of}
use Rattle.scasp_checker_answer.specs.Judged.{Judges}
use Rattle.scasp_lines.specs.Lines.{free_of}
use Rattle.scasp_lines_walk.specs.Shown.TableView.{told_from}
use Rattle.scasp_lines_walk.specs.declared.shown.table.Saying.{Saying}
use Rattle.scasp_checker.specs.Pairs.Inside.Groups.{group_faults}
use Rattle.scasp_checker.proofs.pairs.pairs.accept_partners.Goals as goal

pub returns : goal.returns
returns c =
    let cert = c.args.against.now.cert.now in
    let P : List Told → Type 0 =
    λ ts. Judges c.accept_each.result (group_faults (free_of (certificate_of cert)) cert.given cert.clashes (told_from c.args.partners.now.first, ts)) in
    let behind : Bor (Bor Saying) → Bor Saying = λ s. s.now in
    subst P
    (ap (map (λ (s : Bor (Bor Saying)). told_from s.now)) c.as_slice.ensures.value ∙ sym (map-map told_from behind c.in_ok-seconds.seconds.items)
    ∙ ap (map told_from) c.in_ok-seconds.ensures)
    c.accept_each.ensures
