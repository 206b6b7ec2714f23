use Rattle.std.proofs.Common.{◌≡◌, ◌∙◌, ℕ, ◌<◌, List, length, get_or, drop, take, sym, ap, subst, arith}
use Rattle.std.proofs.lemmas.List.{at_drop_all, length-map, length-take-le}
use Rattle.scasp_print_shared.specs.Inside.Lines.{read, read_all}
use Rattle.scasp_print_shared.specs.Inside.Places.{first_among, places_of}
use Rattle.scasp_print_shared.specs.Shared.{is_copy}
use Rattle.scasp_print_shared.proofs.PlaceLemmas.{listed-at, listed-past, places-within}
use Rattle.scasp_print_shared.proofs.SearchLemmas.{no_root, first-here, least-by_class, no-least}
use Rattle.scasp_print_shared.proofs.search.least_copy.Goals as goal
use Rattle.scasp_print_shared.proofs.search.least_copy.Goals.{then-root-lt3-via-then-root-lt3, then-root-lt3-via-else-root-lt3+then-root-places}

pub returns-then-root-lt3 : goal.returns-then-root-lt3
returns-then-root-lt3 c =
    let ps = read_all c.args.lines.now in
    let ms = c.args.marks.now in
    let line = c.args.line in
    let within : line < length ps = omega (arith, c.requires.within, length-map c.args.lines.now read) in
    let class = (get_or ms line no_root).class in
    elim c.then-root-lt3.branch [
      | then-root-lt3-via-then-root-lt3 w ↦ sym (no-least ps ms line no_root c.requires.marks within w.if-root-lt3.true)
      | then-root-lt3-via-else-root-lt3+then-root-places w ↦ sym
          (least-by_class ps ms line no_root c.requires.marks within w.if-root-lt3.false
          ∙ ap (first_among (is_copy (take line ps) (drop line ps))) (sym (c.requires.places class) ∙ listed-past c.args.places.now class w.if-root-places.true))
    ]

pub is_copy-requires-clause-before : goal.is_copy-requires-clause-before
is_copy-requires-clause-before c =
    let ps = read_all c.args.lines.now in
    let ms = c.args.marks.now in
    let line = c.args.line in
    let within : line < length ps = omega (arith, c.requires.within, length-map c.args.lines.now read) in
    let class = (get_or ms line no_root).class in
    let items = c.as_slice-place-items.result.now in
    let items-are : items ≡ places_of class 0 (take line ms) =
    c.as_slice-place-items.ensures ∙ sym (listed-at c.args.places.now class c.index-places-root.result c.if-root-places.false c.index-places-root.is) ∙ c.requires.places class in
    let size = c.requires.marks.size in
    let h : c.loop-place.place-index < length (places_of class 0 (take line ms)) = subst (λ (z : List ℕ). c.loop-place.place-index < length z) items-are c.loop-place-test.true in
    let b = places-within class 0 (take line ms) 0 c.loop-place.place-index h in
    let t = length-take-le line ms (omega (arith, size, within)) in
    let low : get_or items c.loop-place.place-index 0 < line = subst (λ (z : List ℕ). get_or z c.loop-place.place-index 0 < line) (sym items-are) (omega (arith, b, t)) in
    low

pub overflow_add-result : goal.overflow_add-result
overflow_add-result c =
    let ps = read_all c.args.lines.now in
    let ms = c.args.marks.now in
    let line = c.args.line in
    let within : line < length ps = omega (arith, c.requires.within, length-map c.args.lines.now read) in
    let class = (get_or ms line no_root).class in
    let items = c.as_slice-place-items.result.now in
    let items-are : items ≡ places_of class 0 (take line ms) =
    c.as_slice-place-items.ensures ∙ sym (listed-at c.args.places.now class c.index-places-root.result c.if-root-places.false c.index-places-root.is) ∙ c.requires.places class in
    let size = c.requires.marks.size in
    let h : c.loop-place.place-index < length (places_of class 0 (take line ms)) = subst (λ (z : List ℕ). c.loop-place.place-index < length z) items-are c.loop-place-test.true in
    let b = places-within class 0 (take line ms) 0 c.loop-place.place-index h in
    let t = length-take-le line ms (omega (arith, size, within)) in
    let low : get_or items c.loop-place.place-index 0 < line = subst (λ (z : List ℕ). get_or z c.loop-place.place-index 0 < line) (sym items-are) (omega (arith, b, t)) in
    omega (arith, low, c.ranges.line.fits)

pub returns-then-branch : goal.returns-then-branch
returns-then-branch c =
    let ps = read_all c.args.lines.now in
    let ms = c.args.marks.now in
    let line = c.args.line in
    let within : line < length ps = omega (arith, c.requires.within, length-map c.args.lines.now read) in
    let class = (get_or ms line no_root).class in
    let items = c.as_slice-place-items.result.now in
    let items-are : items ≡ places_of class 0 (take line ms) =
    c.as_slice-place-items.ensures ∙ sym (listed-at c.args.places.now class c.index-places-root.result c.if-root-places.false c.index-places-root.is) ∙ c.requires.places class in
    let holds = is_copy (take line ps) (drop line ps) in
    sym
    (least-by_class ps ms line no_root c.requires.marks within c.if-root-lt3.false
    ∙ ap (first_among holds) (sym items-are)
    ∙ sym c.loop-place.invariant
    ∙ first-here holds items c.loop-place.place-index c.loop-place-test.true (sym c.in_ok-is_copy.ensures ∙ c.if-branch.true))

pub returns : goal.returns
returns c =
    let ps = read_all c.args.lines.now in
    let ms = c.args.marks.now in
    let line = c.args.line in
    let within : line < length ps = omega (arith, c.requires.within, length-map c.args.lines.now read) in
    let class = (get_or ms line no_root).class in
    let items = c.as_slice-place-items.result.now in
    let items-are : items ≡ places_of class 0 (take line ms) =
    c.as_slice-place-items.ensures ∙ sym (listed-at c.args.places.now class c.index-places-root.result c.if-root-places.false c.index-places-root.is) ∙ c.requires.places class in
    let holds = is_copy (take line ps) (drop line ps) in
    sym
    (least-by_class ps ms line no_root c.requires.marks within c.if-root-lt3.false
    ∙ ap (first_among holds) (sym items-are)
    ∙ sym c.loop-place.invariant
    ∙ at_drop_all (first_among holds) items c.loop-place.place-index c.loop-place-test.false)
