use Rattle.std.proofs.Common.{◌≡◌, ◌∙◌, ◌+◌, ◌++◌, ◌<◌, length, ap, sym, arith}
use Rattle.std.proofs.lemmas.List.{length-map}
use Rattle.scasp_print_shared.specs.Inside.Lines.{read, read_all}
use Rattle.scasp_print_shared.proofs.PlaceLemmas.{places-next}
use Rattle.scasp_print_shared.proofs.WalkLemmas.{below-copy, text_from}
use Rattle.scasp_print_shared.proofs.walk.put_shared.Goals as goal
use Rattle.scasp_print_shared.proofs.walk.put_shared.Goals.{then-left_out-gt0, else-left_out-gt0+in_ok-left_out}

pub loop-line-preserved : goal.loop-line-preserved
loop-line-preserved c =
    let ls = c.args.lines.now in
    let ps = read_all ls in
    let ms = c.in_ok-marks.marks.items in
    let line = c.loop-line.line in
    let size = length-map ls read in
    let within : line < length ps = omega (arith, c.loop-line-test.true, size) in
    let marked : line < length ms = omega (arith, within, c.in_ok-marks.ensures.size) in
    record {
      text = elim c.if-left_out-gt0.branch [
        | then-left_out-gt0 w ↦
            ap (λ v. v.items ++ text_from c.if-left_out-gt0.left_out (line + 1) ps) w.out-is
            ∙ ap (λ t. c.loop-line.out.items ++ t) (sym (below-copy ps line c.loop-line.left_out c.if-left_out-gt0.left_out within w.if-left_out-gt0.true w.left_out-is))
            ∙ c.loop-line.invariant.text
        | else-left_out-gt0+in_ok-left_out w ↦
            let none : 0 ≡ c.loop-line.left_out = omega (arith, w.if-left_out-gt0.false) in
            ap (λ v. v.items ++ text_from c.if-left_out-gt0.left_out (line + 1) ps) w.out-is
            ∙ ap (λ n. w.put_next.new.out.items ++ text_from n (line + 1) ps) w.left_out-is
            ∙ w.in_ok-left_out.ensures
            ∙ ap (λ n. c.loop-line.out.items ++ text_from n line ps) none
            ∙ c.loop-line.invariant.text
      ];
      places = places-next c.loop-line.places.items c.add_place.new.lists.items ms line c.index.result.now marked c.index.ensures c.loop-line.invariant.places c.in_ok-add_place.ensures;
    }
