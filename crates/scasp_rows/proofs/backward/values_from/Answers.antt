use Rattle.std.proofs.Common.{[], Result, Err, List, sym, ap, subst, ◌∙◌}
use Rattle.scasp_num.specs.declared.linear.RatPair.{RatPair}
use Rattle.scasp_rows.specs.declared.backward.Aside.{Aside}
use Rattle.scasp_rows.specs.declared.state.Halt.{Halt}
use Rattle.scasp_rows.specs.Elimination.{Ends, and_then}
use Rattle.scasp_rows.specs.Inside.Asides.{asides_from, valued}
use Rattle.scasp_rows.proofs.SettingAside.{ends-first, values_from-valued}
use Rattle.scasp_rows.proofs.backward.values_from.Goals as goal

pub returns-in-Ok : goal.returns-in-Ok
returns-in-Ok c =
    let xs = c.args.variables.now in
    let s = c.args.state in
    subst (λ (o : Result (List RatPair) Halt). Ends c.valued.result o) (sym (values_from-valued xs s ∙ ap (λ (o : Result (List Aside) Halt). and_then o (λ all. valued all [])) c.in-Ok.ensures)) c.valued.ensures

pub returns-in-Err : goal.returns-in-Err
returns-in-Err c =
    let xs = c.args.variables.now in
    let s = c.args.state in
    subst (λ (o : Result (List RatPair) Halt). Ends {A = List RatPair} (Err c.in-Err.halt) o) (sym (values_from-valued xs s)) (ends-first (asides_from xs s) (λ all. valued all []) c.in-Err.halt c.in-Err.ensures)
