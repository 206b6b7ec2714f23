use Rattle.std.proofs.Common.{◌≡◌, Result, Err, subst, ◌∙◌}
use Rattle.scasp_rows.specs.declared.state.Sign.TheVariants as sign
use Rattle.scasp_rows.specs.declared.state.Halt.{Halt}
use Rattle.scasp_rows.specs.declared.state.State.{State}
use Rattle.scasp_rows.specs.Elimination.{Ends, all_paired, and_then, limited, rows_with}
use Rattle.scasp_rows.proofs.Pairing.{ended-limited}
use Rattle.scasp_rows.proofs.elimination.by_bounds.Goals as goal

pub returns-then-branch : goal.returns-then-branch
returns-then-branch c =
    let x = c.args.x in
    let rows = c.args.rows in
    let start : State = record { standing = rows_with sign.Zero x rows; steps = c.args.steps; last = c.args.last } in
    let lo : c.as_slice-lowers.result.now ≡ rows_with sign.Below x rows = c.as_slice-lowers.ensures ∙ c.in_ok-lowers.ensures in
    let up : c.as_slice-uppers.result.now ≡ rows_with sign.Above x rows = c.as_slice-uppers.ensures ∙ c.in_ok-uppers.ensures in
    subst (λ (r : Result State Halt). Ends {A = State} (Err c.falsified.result) r) (λ i. and_then (all_paired x (lo i) (up i) start) limited)
    (ended-limited x c.as_slice-lowers.result.now c.as_slice-uppers.result.now start c.falsified.result c.falsified.ensures)
