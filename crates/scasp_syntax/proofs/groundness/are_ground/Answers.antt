use Rattle.std.proofs.Common.{◌≡◌, ◌+◌, ◌&&◌, List, ◌∷◌, [], ◌++◌, Bor, drop, refl, sym, ap, ◌∙◌, arith}
use Rattle.std.specs.List.{list_all}
use Rattle.std.proofs.lemmas.List.{drop_all, nil_from_length}
use Rattle.std.proofs.Math.Bool.{and-true}
use Rattle.scasp_syntax.specs.Tm.{weight_s}
use Rattle.scasp_syntax.specs.Values.{are_ground}
use Rattle.scasp_syntax.specs.View.{tms_of}
use Rattle.scasp_syntax.specs.declared.term.Term.{Term}
use Rattle.scasp_syntax.specs.declared.term.Term.TheVariants.{Var, Num, App}
use Rattle.scasp_syntax.proofs.Walks.{list_all-pushed, sum_by-pushed, drop-at, passed, put_off, failed, is_list_ground, work}
use Rattle.scasp_syntax.proofs.groundness.are_ground.Goals as goal
use Rattle.scasp_syntax.proofs.groundness.are_ground.Goals.{in-Num, in-App+in_ok-push-in-App}

pub loop-list-init : goal.loop-list-init
loop-list-init c =
    ap (list_all is_list_ground) (c.in_ok-push.ensures.items ∙ ap (λ ls. ls ++ c.as_slice.result ∷ []) c.new-unseen.ensures.items)
    ∙ and-true (is_list_ground c.as_slice.result) ∙ ap are_ground c.as_slice.ensures.value

pub loop-term-init : goal.loop-term-init
loop-term-init c = record {
  kept = sym (list_all-pushed is_list_ground c.pop.new.self.items c.in-Some.list) ∙ ap (list_all is_list_ground) (sym c.in-Some.ensures.items) ∙ c.loop-list.invariant;
  smaller = omega arith;
}

pub loop-list-smaller : goal.loop-list-smaller
loop-list-smaller c =
    let before = ap work c.in-Some.ensures.items ∙ sum_by-pushed _ c.pop.new.self.items c.in-Some.list in
    omega (arith, before, c.loop-term.invariant.smaller)

pub loop-list-preserved : goal.loop-list-preserved
loop-list-preserved c =
    sym (and-true (list_all is_list_ground c.loop-term.unseen.items))
    ∙ ap (λ ts. list_all is_list_ground c.loop-term.unseen.items && are_ground (tms_of ts)) (sym (drop_all c.loop-term.term-index c.in-Some.list.now c.loop-term-test.false))
    ∙ c.loop-term.invariant.kept

pub returns-in-Var : goal.returns-in-Var
returns-in-Var c =
    let list = c.in-Some.list.now in
    let i = c.loop-term.term-index in
    let now = drop-at list i (Var c.in-Var.field-0) c.term-item.result c.loop-term-test.true c.term-item.is c.in-Var.is in
    failed (list_all is_list_ground c.loop-term.unseen.items) _ (are_ground (tms_of (drop (i + 1) list))) _ (ap (λ ts. are_ground (tms_of ts)) now) refl c.loop-term.invariant.kept

pub loop-term-preserved : goal.loop-term-preserved
loop-term-preserved c =
    let list = c.in-Some.list.now in
    let i = c.loop-term.term-index in
    let before = c.loop-term.unseen.items in
    elim c.match-term.branch [
      | in-Num w ↦
          let now = drop-at list i (Num w.in-Num.field-0) c.term-item.result c.loop-term-test.true c.term-item.is w.in-Num.is in
          let same : c.match-term.unseen.items ≡ before = ap (λ v. v.items) w.unseen-is in
          record {
            kept =
                ap (λ ls. list_all is_list_ground ls && are_ground (tms_of (drop (i + 1) list))) same
                ∙ passed (list_all is_list_ground before) _ (are_ground (tms_of (drop (i + 1) list))) _ (ap (λ ts. are_ground (tms_of ts)) now) refl c.loop-term.invariant.kept;
            smaller = omega (arith, ap work same, ap (λ ts. weight_s (tms_of ts)) now, c.loop-term.invariant.smaller);
          }
      | in-App+in_ok-push-in-App w ↦
          let now = drop-at list i (App w.in-App.field-0 w.in-App.args) c.term-item.result c.loop-term-test.true c.term-item.is w.in-App.is in
          let slice = w.as_slice-in-App.result in
          let same : c.match-term.unseen.items ≡ before ++ slice ∷ [] = ap (λ v. v.items) w.unseen-is ∙ w.in_ok-push-in-App.ensures.items in
          let args : tms_of slice.now ≡ w.in-App.args = w.as_slice-in-App.ensures.value in
          record {
            kept =
                put_off (list_all is_list_ground before) _ (is_list_ground slice) (are_ground w.in-App.args) (are_ground (tms_of (drop (i + 1) list))) _
                (ap (λ ts. are_ground (tms_of ts)) now) (ap are_ground (sym args)) (ap (list_all is_list_ground) same ∙ list_all-pushed is_list_ground before slice) c.loop-term.invariant.kept;
            smaller = omega (arith, ap work same, sum_by-pushed (λ (l : Bor (List Term)). weight_s (tms_of l.now) + 1) before slice, ap weight_s args, ap (λ ts. weight_s (tms_of ts)) now, c.loop-term.invariant.smaller);
          }
    ]

pub returns : goal.returns
returns c =
    let empty : c.loop-list.unseen.items ≡ [] = nil_from_length c.loop-list.unseen.items (omega (arith, c.in_default.ensures.cases.0)) in
    ap (list_all is_list_ground) (sym empty) ∙ c.loop-list.invariant
