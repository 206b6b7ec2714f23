use Rattle.std.proofs.Common.{◌≡◌, [], Result, Err, List, sym, ap, subst, ◌∙◌}
use Rattle.scasp_num.specs.declared.linear.RatPair.{RatPair}
use Rattle.scasp_rows.specs.declared.backward.Aside.{Aside}
use Rattle.scasp_rows.specs.declared.state.Halt.{Halt}
use Rattle.scasp_rows.specs.Elimination.{Ends, and_then}
use Rattle.scasp_rows.specs.Samples.{value_for, with_value_for}
use Rattle.scasp_rows.specs.Inside.Asides.{valued}
use Rattle.scasp_rows.proofs.SettingAside.{ends-first, valued-last}
use Rattle.scasp_rows.proofs.backward.valued.Goals as goal

pub loop-aside-preserved : goal.loop-aside-preserved
loop-aside-preserved c =
    let a = c.in-Some.aside in
    let left = c.pop.new.self.items in
    let point = c.loop-aside.point in
    let value = with_value_for a.x point (value_for a.x a.rows point) in
    let same : and_then value (valued left) ≡ valued c.args.asides [] =
    sym (valued-last left a point) ∙ ap (λ (all : List Aside). valued all point) (sym c.in-Some.ensures.items) ∙ c.loop-aside.invariant in
    let given : with_value_for a.x c.as_slice-in-Some.result.now (value_for a.x c.as_slice.result.now c.as_slice-in-Some.result.now) ≡ value =
    (λ i. with_value_for a.x (c.as_slice-in-Some.ensures i) (value_for a.x (c.as_slice.ensures i) (c.as_slice-in-Some.ensures i))) in
    ap (λ (o : Result (List RatPair) Halt). and_then o (valued left)) (sym (sym given ∙ c.in-Ok.ensures)) ∙ same

pub returns-in-Err : goal.returns-in-Err
returns-in-Err c =
    let a = c.in-Some.aside in
    let left = c.pop.new.self.items in
    let point = c.loop-aside.point in
    let value = with_value_for a.x point (value_for a.x a.rows point) in
    let same : and_then value (valued left) ≡ valued c.args.asides [] =
    sym (valued-last left a point) ∙ ap (λ (all : List Aside). valued all point) (sym c.in-Some.ensures.items) ∙ c.loop-aside.invariant in
    let given : with_value_for a.x c.as_slice-in-Some.result.now (value_for a.x c.as_slice.result.now c.as_slice-in-Some.result.now) ≡ value =
    (λ i. with_value_for a.x (c.as_slice-in-Some.ensures i) (value_for a.x (c.as_slice.ensures i) (c.as_slice-in-Some.ensures i))) in
    let end = λ (o : Result (List RatPair) Halt). Ends {A = List RatPair} (Err c.in-Err.halt) o in
    subst end same (ends-first value (valued left) c.in-Err.halt (subst end given c.in-Err.ensures))
