use Rattle.std.proofs.Common.{◌≡◌, ◌+◌, ◌||◌, List, ◌∷◌, [], ◌++◌, Bor, drop, ap, sym, ◌∙◌, arith}
use Rattle.std.proofs.Math.Bool.{or-false}
use Rattle.std.proofs.lemmas.List.{drop_all, nil_from_length}
use Rattle.scasp_syntax.specs.Tm.{weight_s}
use Rattle.scasp_syntax.specs.View.{tms_of}
use Rattle.scasp_syntax.specs.declared.term.Term.{Term}
use Rattle.scasp_syntax.specs.declared.term.Term.TheVariants.{Var, Num, App}
use Rattle.scasp_syntax.proofs.Walks.{drop-at, sum_by-pushed, work}
use Rattle.scasp_abduce.specs.Occurrences.{has, terms_names}
use Rattle.scasp_abduce.proofs.NameSetLemmas.{list_has, node-seen, unseen-pushed, unseen_has}
use Rattle.scasp_abduce.proofs.occurrences.TermsHasNames.take_names.Goals as goal
use Rattle.scasp_abduce.proofs.occurrences.TermsHasNames.take_names.Goals.{in-Var, in-Num, in-App+in_ok-insert-in-App+in_ok-push-in-App}

pub loop-list-init : goal.loop-list-init
loop-list-init c =
    let items : c.push.new.self.items ≡ c.as_slice.result ∷ [] = c.in_ok-push.ensures.items ∙ ap (λ ls. ls ++ c.as_slice.result ∷ []) c.new-unseen.ensures.items in
    λ n. ap (λ ls. has c.args.taken.now n || unseen_has ls n) items
    ∙ ap (λ b. has c.args.taken.now n || b) (or-false (list_has n c.as_slice.result) ∙ ap (λ ts. has (terms_names ts) n) c.as_slice.ensures.value)

pub loop-term-init : goal.loop-term-init
loop-term-init c = record {
  kept = λ n. ap (λ b. has c.loop-list.taken n || b) (sym (ap (λ ls. unseen_has ls n) c.in-Some.ensures.items ∙ unseen-pushed c.pop.new.self.items c.in-Some.list n)) ∙ c.loop-list.invariant n;
  smaller = omega arith;
}

pub loop-list-smaller : goal.loop-list-smaller
loop-list-smaller c =
    let before = ap work c.in-Some.ensures.items ∙ sum_by-pushed _ c.pop.new.self.items c.in-Some.list in
    omega (arith, before, c.loop-term.invariant.smaller)

pub loop-list-preserved : goal.loop-list-preserved
loop-list-preserved c =
    λ n. ap (λ b. has c.loop-term.taken n || b)
    (sym (or-false (unseen_has c.loop-term.unseen.items n))
    ∙ ap (λ ts. unseen_has c.loop-term.unseen.items n || has (terms_names (tms_of ts)) n) (sym (drop_all c.loop-term.term-index c.in-Some.list.now c.loop-term-test.false)))
    ∙ c.loop-term.invariant.kept n

pub loop-term-preserved : goal.loop-term-preserved
loop-term-preserved c =
    let list = c.in-Some.list.now in
    let i = c.loop-term.term-index in
    let rest = drop (i + 1) list in
    let before = c.loop-term.unseen.items in
    let taken = c.loop-term.taken in
    elim c.match-term.branch [
      | in-Var w ↦
          let now = drop-at list i (Var w.in-Var.field-0) c.term-item.result c.loop-term-test.true c.term-item.is w.in-Var.is in
          let same : c.match-term.unseen.items ≡ before = ap (λ v. v.items) w.unseen-is in
          record {
            kept = λ n. ap (λ ks. has ks n || (unseen_has c.match-term.unseen.items n || has (terms_names (tms_of rest)) n)) w.taken-is
                ∙ ap (λ ls. has taken n || (unseen_has ls n || has (terms_names (tms_of rest)) n)) same
                ∙ ap (λ ts. has taken n || (unseen_has before n || has (terms_names (tms_of ts)) n)) (sym now) ∙ c.loop-term.invariant.kept n;
            smaller = omega (arith, ap work same, ap (λ ts. weight_s (tms_of ts)) now, c.loop-term.invariant.smaller);
          }
      | in-Num w ↦
          let now = drop-at list i (Num w.in-Num.field-0) c.term-item.result c.loop-term-test.true c.term-item.is w.in-Num.is in
          let same : c.match-term.unseen.items ≡ before = ap (λ v. v.items) w.unseen-is in
          record {
            kept = λ n. ap (λ ks. has ks n || (unseen_has c.match-term.unseen.items n || has (terms_names (tms_of rest)) n)) w.taken-is
                ∙ ap (λ ls. has taken n || (unseen_has ls n || has (terms_names (tms_of rest)) n)) same
                ∙ ap (λ ts. has taken n || (unseen_has before n || has (terms_names (tms_of ts)) n)) (sym now) ∙ c.loop-term.invariant.kept n;
            smaller = omega (arith, ap work same, ap (λ ts. weight_s (tms_of ts)) now, c.loop-term.invariant.smaller);
          }
      | in-App+in_ok-insert-in-App+in_ok-push-in-App w ↦
          let now = drop-at list i (App w.in-App.name w.in-App.args) c.term-item.result c.loop-term-test.true c.term-item.is w.in-App.is in
          let slice = w.as_slice-in-App.result in
          let same : c.match-term.unseen.items ≡ before ++ slice ∷ [] = ap (λ v. v.items) w.unseen-is ∙ w.in_ok-push-in-App.ensures.items in
          let args : tms_of slice.now ≡ w.in-App.args = w.as_slice-in-App.ensures.value in
          record {
            kept = λ n.
                node-seen taken c.match-term.taken (terms_names w.in-App.args) (terms_names (tms_of rest)) w.in-App.name n (unseen_has before n) (unseen_has c.match-term.unseen.items n) _
                (λ k. ap (λ ks. has ks k) w.taken-is ∙ w.in_ok-insert-in-App.ensures k)
                (ap (λ ls. unseen_has ls n) same ∙ unseen-pushed before slice n ∙ ap (λ ts. unseen_has before n || has (terms_names ts) n) args)
                (ap (λ ts. has taken n || (unseen_has before n || has (terms_names (tms_of ts)) n)) (sym now) ∙ c.loop-term.invariant.kept n);
            smaller = omega (arith, ap work same, sum_by-pushed (λ (l : Bor (List Term)). weight_s (tms_of l.now) + 1) before slice, ap weight_s args, ap (λ ts. weight_s (tms_of ts)) now, c.loop-term.invariant.smaller);
          }
    ]

pub returns : goal.returns
returns c =
    let empty : c.loop-list.unseen.items ≡ [] = nil_from_length c.loop-list.unseen.items (omega (arith, c.in_default.ensures.cases.0)) in
    λ n. sym (or-false (has c.loop-list.taken n)) ∙ ap (λ ls. has c.loop-list.taken n || unseen_has ls n) (sym empty) ∙ c.loop-list.invariant n
