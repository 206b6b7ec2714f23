use Rattle.std.proofs.Common.{◌≡◌, ◌∙◌, Bool, inl, inr, sym, subst, arith}
use Rattle.std.specs.Prelude.{IfOk}
use Rattle.scasp_print_shared.proofs.LineLemmas.{no_line}
use Rattle.scasp_print_shared.proofs.SearchLemmas.{no_root, is-copy, is-no-copy, line-fits}
use Rattle.scasp_print_shared.proofs.search.is_copy.Goals as goal
use Rattle.scasp_print_shared.proofs.search.is_copy.Goals.{then-not-is_call-via-then-not-is_call, then-not-is_call-via-else-not-is_call+then-marks-place, then-not-is_call-via-else-not-is_call+else-marks-place+then-count-line}

pub returns-then-not-is_call : goal.returns-then-not-is_call
returns-then-not-is_call c =
    is-no-copy c.args.lines.now c.args.marks.now c.args.place c.args.line no_line no_root c.requires.marks c.requires.before c.requires.within
    (elim c.then-not-is_call.branch [
      | then-not-is_call-via-then-not-is_call w ↦ inl (sym c.is_call.ensures ∙ w.if-not-is_call.true)
      | then-not-is_call-via-else-not-is_call+then-marks-place w ↦ inr (inl w.if-marks-place.true)
      | then-not-is_call-via-else-not-is_call+else-marks-place+then-count-line w ↦ inr (inr w.if-count-line.true)
    ])

pub slice_bounds-same_lines-end-2 : goal.slice_bounds-same_lines-end-2
slice_bounds-same_lines-end-2 c =
    let h = line-fits c.args.lines.now c.args.marks.now c.args.place c.args.line no_line no_root c.requires.marks c.requires.before c.requires.within in
    omega (arith, h)

pub returns : goal.returns
returns c =
    let same : Bool → Type 0 = λ b. IfOk c.same_lines.result (λ (r : Bool). r ≡ b) in
    subst same
    (is-copy c.args.lines.now c.args.marks.now c.args.place c.args.line no_line no_root c.requires.marks c.requires.before c.requires.within
    (sym c.is_call.ensures ∙ c.if-not-is_call.false) c.if-marks-place.false c.if-count-line.false)
    c.same_lines.ensures
