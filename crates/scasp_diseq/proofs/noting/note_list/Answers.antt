use Rattle.std.proofs.Common.{◌≡◌, ℕ, ◌+◌, ◌||◌, ◌++◌, ◌∷◌, [], drop, length, nat_eq, take, sym, ap, ◌∙◌, subst, arith}
use Rattle.scasp_syntax.specs.Tm.{weight_s}
use Rattle.scasp_syntax.specs.View.{tms_of}
use Rattle.scasp_syntax.specs.declared.term.Term.TheVariants.{App, Num, Var}
use Rattle.scasp_unify.specs.Parts.{occurs_among}
use Rattle.scasp_diseq.specs.Inside.Noting.{Notes}
use Rattle.scasp_diseq.specs.Inside.Unseen.{any_unseen, work}
use Rattle.scasp_diseq.proofs.IndexLemmas.{prefix-further}
use Rattle.scasp_diseq.proofs.UnseenLemmas.{drop-at, seen-app, seen-num, seen-var, work-pushed}
use Rattle.scasp_diseq.proofs.noting.note_list.Goals as goal
use Rattle.scasp_diseq.proofs.noting.note_list.Goals.{in-Var+in_ok-note-in-Var, in-Num, in-App+in_ok-push-in-App}

pub loop-term-preserved : goal.loop-term-preserved
loop-term-preserved c =
    let list = c.args.list.now in
    let i = c.loop-term.term-index in
    let p = c.args.place in
    let first = λ (y : ℕ). any_unseen y c.args.unseen.now.items || occurs_among y (tms_of list) in
    let ms = c.args.mentions.now in
    let ls = c.loop-term.mentions in
    let ns = c.match-term.mentions in
    let us = c.loop-term.unseen.items in
    let vs = c.match-term.unseen.items in
    let before = c.loop-term.invariant in
    elim c.match-term.branch [
      | in-Var+in_ok-note-in-Var w ↦
          let now = drop-at list i (Var w.in-Var.x) c.term-item.result c.loop-term-test.true c.term-item.is w.in-Var.is in
          let same : vs ≡ us = ap (λ v. v.items) w.unseen-is in
          record {
            begins = subst (λ n. take (length ms) n ≡ ms) (sym w.mentions-is) (prefix-further ms ls w.note.new.self before.begins w.in_ok-note-in-Var.ensures.begins);
            seen = seen-var p w.in-Var.x first ms ls ns us vs (drop i list) (drop (i + 1) list) before.seen now same (subst (λ n. Notes p (λ y. nat_eq y w.in-Var.x) ls n) (sym w.mentions-is) w.in_ok-note-in-Var.ensures.noted);
            smaller = omega (arith, ap work same, ap (λ ts. weight_s (tms_of ts)) now, before.smaller);
          }
      | in-Num w ↦
          let now = drop-at list i (Num w.in-Num.field-0) c.term-item.result c.loop-term-test.true c.term-item.is w.in-Num.is in
          let same : vs ≡ us = ap (λ v. v.items) w.unseen-is in
          record {
            begins = ap (take (length ms)) w.mentions-is ∙ before.begins;
            seen = seen-num p w.in-Num.field-0 first ms ls ns us vs (drop i list) (drop (i + 1) list) before.seen now same w.mentions-is;
            smaller = omega (arith, ap work same, ap (λ ts. weight_s (tms_of ts)) now, before.smaller);
          }
      | in-App+in_ok-push-in-App w ↦
          let now = drop-at list i (App w.in-App.field-0 w.in-App.args) c.term-item.result c.loop-term-test.true c.term-item.is w.in-App.is in
          let slice = w.as_slice.result in
          let same : vs ≡ us ++ slice ∷ [] = ap (λ v. v.items) w.unseen-is ∙ w.in_ok-push-in-App.ensures.items in
          record {
            begins = ap (take (length ms)) w.mentions-is ∙ before.begins;
            seen = seen-app p w.in-App.field-0 w.in-App.args slice first ms ls ns us vs (drop i list) (drop (i + 1) list) before.seen now same w.as_slice.ensures.value w.mentions-is;
            smaller = omega (arith, ap work same, work-pushed us slice, ap weight_s w.as_slice.ensures.value, ap (λ ts. weight_s (tms_of ts)) now, before.smaller);
          }
    ]
