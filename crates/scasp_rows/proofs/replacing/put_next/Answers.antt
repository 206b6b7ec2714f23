use Rattle.std.proofs.Common.{◌≡◌, ◌+◌, ◌++◌, ◌||◌, Ok, List, take, drop, set, true, false, sym, subst, ap, ◌∙◌}
use Rattle.std.specs.List.{list_any, remove}
use Rattle.scasp_num.specs.SameRow.{same_row}
use Rattle.scasp_rows.specs.declared.replacing.Progress.{Progress}
use Rattle.scasp_rows.specs.declared.state.Standing.{Standing}
use Rattle.scasp_rows.specs.declared.state.State.{State}
use Rattle.scasp_rows.specs.Points.{is_constant}
use Rattle.scasp_rows.specs.Elimination.{looked}
use Rattle.scasp_rows.specs.Inside.Replacing.{Puts}
use Rattle.scasp_rows.proofs.Placing.{drops-next, puts-next}
use Rattle.scasp_rows.proofs.replacing.put_next.Goals as goal

pub returns-then-is_dropped : goal.returns-then-is_dropped
returns-then-is_dropped c =
    let r = c.args.r in
    let s = c.args.progress.state in
    let n = c.args.progress.done in
    let start : State = record { standing = take n s.standing; steps = s.steps; last = s.last } in
    let all = sym (c.as_slice.ensures.value ∙ c.into_vec-rows.ensures) in
    let drops : (is_constant r.row || list_any (λ o. same_row o.row r.row) (take n s.standing ++ drop (n + 1) s.standing)) ≡ true =
    (λ i. is_constant r.row || list_any (λ (o : Standing). same_row o.row r.row) (take n (all i) ++ drop (n + 1) (all i))) ∙ sym c.is_dropped.ensures ∙ c.if-is_dropped.true in
    subst (λ (g : Progress). Puts (Ok g) (drop (n + 1) s.standing) (looked r (drop (n + 1) s.standing) start)) (sym c.progressed.ensures)
    (drops-next r s c.remove-old.new.self.items n c.requires (sym c.is_false.ensures ∙ c.if-is_false.false) drops
    (c.remove-old.ensures.items ∙ ap (λ (rows : List Standing). remove rows n) c.into_vec-rows.ensures))

pub returns : goal.returns
returns c =
    let r = c.args.r in
    let s = c.args.progress.state in
    let n = c.args.progress.done in
    let start : State = record { standing = take n s.standing; steps = s.steps; last = s.last } in
    let all = sym (c.as_slice.ensures.value ∙ c.into_vec-rows.ensures) in
    let stays : (is_constant r.row || list_any (λ o. same_row o.row r.row) (take n s.standing ++ drop (n + 1) s.standing)) ≡ false =
    (λ i. is_constant r.row || list_any (λ (o : Standing). same_row o.row r.row) (take n (all i) ++ drop (n + 1) (all i))) ∙ sym c.is_dropped.ensures ∙ c.if-is_dropped.false in
    subst (λ (g : Progress). Puts (Ok g) (drop (n + 1) s.standing) (looked r (drop (n + 1) s.standing) start)) (sym c.progressed-2.ensures)
    (puts-next r s c.put_at.new.rows.items n c.requires (sym c.is_false.ensures ∙ c.if-is_false.false) stays
    (c.put_at.ensures ∙ ap (λ (rows : List Standing). set rows n r) c.into_vec-rows.ensures))
