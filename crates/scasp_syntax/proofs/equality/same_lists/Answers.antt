use Rattle.std.proofs.Common.{◌≡◌, ℕ, ◌+◌, ◌&&◌, List, ◌∷◌, [], ◌++◌, drop, refl, sym, ap, ◌∙◌, arith}
use Rattle.std.specs.List.{list_all}
use Rattle.std.proofs.lemmas.List.{drop_all, nil_from_length}
use Rattle.std.proofs.Math.Bool.{and-true, and-false}
use Rattle.scasp_syntax.specs.Same.{same_head, same_tm, same_tms}
use Rattle.scasp_syntax.specs.Tm.{var, num, app, weight_s}
use Rattle.scasp_syntax.specs.View.{tm_of, tms_of}
use Rattle.scasp_syntax.specs.declared.term.Term.{Term}
use Rattle.scasp_syntax.specs.declared.term.Term.TheVariants.{Var, Num, App}
use Rattle.scasp_syntax.proofs.Walks.{list_all-pushed, sum_by-pushed, drop-at, passed, put_off, failed, Pair, is_pair_same, pair_work, heads-differ, same-by_args, same-var, same-num, lengths-differ}
use Rattle.scasp_syntax.proofs.equality.same_lists.Goals as goal
use Rattle.scasp_syntax.proofs.equality.same_lists.Goals.{in-Var, in-Num, in-App+in_ok-push-in-App}

-- the lists from a place on, where these terms stand there
lists-at : (ts us : List Term) (i : ℕ) (t u : Term) → drop i ts ≡ t ∷ drop (i + 1) ts → drop i us ≡ u ∷ drop (i + 1) us → same_tms (tms_of (drop i ts)) (tms_of (drop i us)) ≡ (same_tm (tm_of t) (tm_of u) && same_tms (tms_of (drop (i + 1) ts)) (tms_of (drop (i + 1) us)))
lists-at ts us i t u e f = λ j. same_tms (tms_of (e j)) (tms_of (f j))

pub loop-left-init : goal.loop-left-init
loop-left-init c =
    ap (list_all is_pair_same) (c.in_ok-push.ensures.items ∙ ap (λ ps. ps ++ (c.args.first, c.args.second) ∷ []) c.new-unseen.ensures.items)
    ∙ and-true (is_pair_same (c.args.first, c.args.second))

pub returns-then-left-right : goal.returns-then-left-right
returns-then-left-right c =
    let pair : Pair = (c.in-Some.left, c.in-Some.right) in
    sym (and-false (list_all is_pair_same c.pop.new.self.items))
    ∙ ap (λ b. list_all is_pair_same c.pop.new.self.items && b) (sym (lengths-differ c.in-Some.left.now c.in-Some.right.now c.if-left-right.true))
    ∙ sym (list_all-pushed is_pair_same c.pop.new.self.items pair) ∙ ap (list_all is_pair_same) (sym c.in-Some.ensures.items) ∙ c.loop-left.invariant

pub loop-place-init : goal.loop-place-init
loop-place-init c = record {
  kept = sym (list_all-pushed is_pair_same c.pop.new.self.items (c.in-Some.left, c.in-Some.right)) ∙ ap (list_all is_pair_same) (sym c.in-Some.ensures.items) ∙ c.loop-left.invariant;
  smaller = omega arith;
  lengths = c.if-left-right.false;
}

pub loop-left-smaller : goal.loop-left-smaller
loop-left-smaller c =
    let pair : Pair = (c.in-Some.left, c.in-Some.right) in
    let before = ap pair_work c.in-Some.ensures.items ∙ sum_by-pushed _ c.pop.new.self.items pair in
    omega (arith, before, c.loop-place.invariant.smaller)

pub loop-left-preserved : goal.loop-left-preserved
loop-left-preserved c =
    let left = drop_all c.loop-place.place c.in-Some.left.now c.loop-place-test.false in
    let right = drop_all c.loop-place.place c.in-Some.right.now (omega (arith, c.loop-place-test.false, c.loop-place.invariant.lengths)) in
    sym (and-true (list_all is_pair_same c.loop-place.unseen.items))
    ∙ (λ j. list_all is_pair_same c.loop-place.unseen.items && same_tms (tms_of (sym left j)) (tms_of (sym right j)))
    ∙ c.loop-place.invariant.kept

pub returns-then-not-has_same_head : goal.returns-then-not-has_same_head
returns-then-not-has_same_head c =
    let ts = c.in-Some.left.now in
    let us = c.in-Some.right.now in
    let i = c.loop-place.place in
    let t = c.index-left-place.result in
    let u = c.index-right-place.result in
    let left = drop-at ts i t t c.loop-place-test.true c.index-left-place.is refl in
    let right = drop-at us i u u (omega (arith, c.loop-place-test.true, c.loop-place.invariant.lengths)) c.index-right-place.is refl in
    failed (list_all is_pair_same c.loop-place.unseen.items) (same_tm (tm_of t) (tm_of u)) (same_tms (tms_of (drop (i + 1) ts)) (tms_of (drop (i + 1) us))) _
    (lists-at ts us i t u left right) (heads-differ (tm_of t) (tm_of u) (sym c.has_same_head.ensures ∙ c.if-not-has_same_head.true)) c.loop-place.invariant.kept

pub loop-place-preserved : goal.loop-place-preserved
loop-place-preserved c =
    let ts = c.in-Some.left.now in
    let us = c.in-Some.right.now in
    let i = c.loop-place.place in
    let u = c.index-right-place.result in
    let before = c.loop-place.unseen.items in
    let rest = same_tms (tms_of (drop (i + 1) ts)) (tms_of (drop (i + 1) us)) in
    let right = drop-at us i u u (omega (arith, c.loop-place-test.true, c.loop-place.invariant.lengths)) c.index-right-place.is refl in
    let heads = sym c.has_same_head.ensures ∙ c.if-not-has_same_head.false in
    elim c.match-term.branch [
      | in-Var w ↦
          let x = w.in-Var.field-0 in
          let left = drop-at ts i (Var x) c.index-left-place.result c.loop-place-test.true c.index-left-place.is w.in-Var.is in
          let same : c.match-term.unseen.items ≡ before = ap (λ v. v.items) w.unseen-is in
          record {
            kept =
                ap (λ ps. list_all is_pair_same ps && rest) same
                ∙ passed (list_all is_pair_same before) (same_tm (var x) (tm_of u)) rest _ (lists-at ts us i (Var x) u left right) (same-var x (tm_of u) ∙ ap (λ t. same_head (tm_of t) (tm_of u)) (sym w.in-Var.is) ∙ heads) c.loop-place.invariant.kept;
            smaller = omega (arith, ap pair_work same, ap (λ ts. weight_s (tms_of ts)) left, c.loop-place.invariant.smaller);
            lengths = c.loop-place.invariant.lengths;
          }
      | in-Num w ↦
          let q = w.in-Num.field-0 in
          let left = drop-at ts i (Num q) c.index-left-place.result c.loop-place-test.true c.index-left-place.is w.in-Num.is in
          let same : c.match-term.unseen.items ≡ before = ap (λ v. v.items) w.unseen-is in
          record {
            kept =
                ap (λ ps. list_all is_pair_same ps && rest) same
                ∙ passed (list_all is_pair_same before) (same_tm (num q) (tm_of u)) rest _ (lists-at ts us i (Num q) u left right) (same-num q (tm_of u) ∙ ap (λ t. same_head (tm_of t) (tm_of u)) (sym w.in-Num.is) ∙ heads) c.loop-place.invariant.kept;
            smaller = omega (arith, ap pair_work same, ap (λ ts. weight_s (tms_of ts)) left, c.loop-place.invariant.smaller);
            lengths = c.loop-place.invariant.lengths;
          }
      | in-App+in_ok-push-in-App w ↦
          let f = w.in-App.field-0 in
          let args = w.in-App.args in
          let left = drop-at ts i (App f args) c.index-left-place.result c.loop-place-test.true c.index-left-place.is w.in-App.is in
          let pair : Pair = (w.as_slice.result, w.arguments.result) in
          let same : c.match-term.unseen.items ≡ before ++ pair ∷ [] = ap (λ v. v.items) w.unseen-is ∙ w.in_ok-push-in-App.ensures.items in
          record {
            kept =
                put_off (list_all is_pair_same before) _ (is_pair_same pair) (same_tm (app f args) (tm_of u)) rest _ (lists-at ts us i (App f args) u left right)
                (same-by_args (app f args) (tm_of u) (ap (λ t. same_head (tm_of t) (tm_of u)) (sym w.in-App.is) ∙ heads) ∙ (λ j. same_tms (sym w.as_slice.ensures.value j) (sym w.arguments.ensures j)))
                (ap (list_all is_pair_same) same ∙ list_all-pushed is_pair_same before pair) c.loop-place.invariant.kept;
            smaller = omega (arith, ap pair_work same, sum_by-pushed (λ (p : Pair). weight_s (tms_of p.0.now) + 1) before pair, ap weight_s w.as_slice.ensures.value, ap (λ ts. weight_s (tms_of ts)) left, c.loop-place.invariant.smaller);
            lengths = c.loop-place.invariant.lengths;
          }
    ]

pub returns : goal.returns
returns c =
    let empty : c.loop-left.unseen.items ≡ [] = nil_from_length c.loop-left.unseen.items (omega (arith, c.in_default.ensures.cases.0)) in
    ap (list_all is_pair_same) (sym empty) ∙ c.loop-left.invariant
