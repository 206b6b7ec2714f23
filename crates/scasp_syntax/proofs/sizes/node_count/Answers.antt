use Rattle.std.proofs.Common.{◌≡◌, ◌+◌, ◌-◌, ◌^◌, min, List, ◌∷◌, [], ◌++◌, Bor, drop, sym, ap, ◌∙◌, arith}
use Rattle.std.proofs.lemmas.List.{drop_all, nil_from_length}
use Rattle.scasp_syntax.specs.Tm.{weight_s}
use Rattle.scasp_syntax.specs.View.{tms_of}
use Rattle.scasp_syntax.specs.declared.term.Term.{Term}
use Rattle.scasp_syntax.specs.declared.term.Term.TheVariants.{Var, Num, App}
use Rattle.scasp_syntax.proofs.Walks.{sum_by-pushed, drop-at, counted, nodes, work}
use Rattle.scasp_syntax.proofs.sizes.node_count.Goals as goal
use Rattle.scasp_syntax.proofs.sizes.node_count.Goals.{in-Var, in-Num, in-App+in_ok-push-in-App}

pub loop-list-init : goal.loop-list-init
loop-list-init c =
    let first : nodes c.push.new.self.items ≡ 0 + weight_s (tms_of c.as_slice.result.now) =
    ap nodes (c.in_ok-push.ensures.items ∙ ap (λ ls. ls ++ c.as_slice.result ∷ []) c.new-unseen.ensures.items) in
    let all : nodes c.push.new.self.items ≡ weight_s c.args.terms.now = first ∙ (omega (arith, ap weight_s c.as_slice.ensures.value)) in
    record { bound = omega arith; kept = ap (λ n. min n (2 ^ 64 - 1)) (omega (arith, all)) }

pub loop-term-init : goal.loop-term-init
loop-term-init c =
    let before : nodes c.loop-list.unseen.items ≡ nodes c.pop.new.self.items + weight_s (tms_of c.in-Some.list.now) =
    ap nodes c.in-Some.ensures.items ∙ sum_by-pushed _ c.pop.new.self.items c.in-Some.list in
    record {
      bound = c.loop-list.invariant.bound;
      kept = ap (λ n. min (c.loop-list.count + n) (2 ^ 64 - 1)) (sym before) ∙ c.loop-list.invariant.kept;
      smaller = omega arith;
    }

pub loop-list-smaller : goal.loop-list-smaller
loop-list-smaller c =
    let before = ap work c.in-Some.ensures.items ∙ sum_by-pushed _ c.pop.new.self.items c.in-Some.list in
    omega (arith, before, c.loop-term.invariant.smaller)

pub loop-list-preserved : goal.loop-list-preserved
loop-list-preserved c =
    let done = ap (λ ts. weight_s (tms_of ts)) (drop_all c.loop-term.term-index c.in-Some.list.now c.loop-term-test.false) in
    record {
      bound = c.loop-term.invariant.bound;
      kept = ap (λ n. min (c.loop-term.count + n) (2 ^ 64 - 1)) (omega (arith, done)) ∙ c.loop-term.invariant.kept;
    }

pub loop-term-preserved : goal.loop-term-preserved
loop-term-preserved c =
    let list = c.in-Some.list.now in
    let i = c.loop-term.term-index in
    let before = c.loop-term.unseen.items in
    let one = counted c.loop-term.count c.saturating_add-count.result (nodes before + weight_s (tms_of (drop i list))) in
    let bound = c.saturating_add-count.ensures in
    elim c.match-term.branch [
      | in-Var w ↦
          let now = ap (λ ts. weight_s (tms_of ts)) (drop-at list i (Var w.in-Var.field-0) c.term-item.result c.loop-term-test.true c.term-item.is w.in-Var.is) in
          let same : c.match-term.unseen.items ≡ before = ap (λ v. v.items) w.unseen-is in
          record {
            bound = omega (arith, bound);
            kept = one _ _ _ c.saturating_add-count.ensures (omega (arith, ap nodes same, now)) c.loop-term.invariant.kept;
            smaller = omega (arith, ap work same, now, c.loop-term.invariant.smaller);
          }
      | in-Num w ↦
          let now = ap (λ ts. weight_s (tms_of ts)) (drop-at list i (Num w.in-Num.field-0) c.term-item.result c.loop-term-test.true c.term-item.is w.in-Num.is) in
          let same : c.match-term.unseen.items ≡ before = ap (λ v. v.items) w.unseen-is in
          record {
            bound = omega (arith, bound);
            kept = one _ _ _ c.saturating_add-count.ensures (omega (arith, ap nodes same, now)) c.loop-term.invariant.kept;
            smaller = omega (arith, ap work same, now, c.loop-term.invariant.smaller);
          }
      | in-App+in_ok-push-in-App w ↦
          let now = ap (λ ts. weight_s (tms_of ts)) (drop-at list i (App w.in-App.field-0 w.in-App.args) c.term-item.result c.loop-term-test.true c.term-item.is w.in-App.is) in
          let slice = w.as_slice-in-App.result in
          let same : c.match-term.unseen.items ≡ before ++ slice ∷ [] = ap (λ v. v.items) w.unseen-is ∙ w.in_ok-push-in-App.ensures.items in
          let args = ap weight_s w.as_slice-in-App.ensures.value in
          record {
            bound = omega (arith, bound);
            kept = one _ _ _ c.saturating_add-count.ensures (omega (arith, ap nodes same, sum_by-pushed (λ (l : Bor (List Term)). weight_s (tms_of l.now)) before slice, args, now)) c.loop-term.invariant.kept;
            smaller = omega (arith, ap work same, sum_by-pushed (λ (l : Bor (List Term)). weight_s (tms_of l.now) + 1) before slice, args, now, c.loop-term.invariant.smaller);
          }
    ]

pub returns : goal.returns
returns c =
    let empty : c.loop-list.unseen.items ≡ [] = nil_from_length c.loop-list.unseen.items (omega (arith, c.in_default.ensures.cases.0)) in
    let none : nodes c.loop-list.unseen.items ≡ 0 = ap nodes empty in
    omega (arith, none, c.loop-list.invariant.kept, c.loop-list.invariant.bound)
