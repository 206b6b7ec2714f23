use Rattle.std.proofs.Common.{◌≡◌, ◌∷◌, [], take, drop, sym, ap, ◌∙◌, arith}
use Rattle.std.proofs.lemmas.List.{append-nil, nil_from_length}
use Rattle.scasp_syntax.specs.Tm.{items, listed, app}
use Rattle.scasp_syntax.specs.View.{tm_of}
use Rattle.scasp_syntax.proofs.TermLemmas.{listed-items}
use Rattle.scasp_bind.specs.Inside.Heads.{tops}
use Rattle.scasp_bind.proofs.HeadLemmas.{none_taken, one_taken, tops-last}
use Rattle.scasp_bind.proofs.resolving.build.Goals as goal
use Rattle.scasp_bind.proofs.resolving.build.Goals.{in-Some+in_ok-push, in_default}

pub loop-preserved : goal.loop-preserved
loop-preserved c =
    let all = tops c.args.done.now.items in
    elim c.match-pop.branch [
      | in-Some+in_ok-push w ↦
          let p = one_taken c.loop.counter all (items c.loop.args) (tops c.pop.new.self.items) (tm_of w.in-Some.arg) c.loop.invariant.0
          (sym (tops-last c.pop.new.self.items w.in-Some.arg) ∙ ap tops (sym w.in-Some.ensures.items) ∙ c.loop.invariant.1) in
          (ap items w.args-is ∙ w.in_ok-push.ensures.ok ∙ p.0, p.1)
      | in_default w ↦
          let empty : c.loop.done.items ≡ [] = nil_from_length c.loop.done.items (omega (arith, w.in_default.ensures.cases.0)) in
          let rest : c.pop.new.self.items ≡ [] = sym (append-nil c.pop.new.self.items) ∙ sym w.in_default.ensures.items ∙ empty in
          let p = none_taken c.loop.counter all (items c.loop.args) c.loop.invariant.0 (sym (ap tops empty) ∙ c.loop.invariant.1) in
          (ap items w.args-is ∙ p.0, ap tops rest ∙ p.1)
    ]

pub returns : goal.returns
returns c =
    let all = tops c.args.done.now.items in
    let n : c.loop.counter ≡ c.args.count = omega (arith, c.loop-test.false, c.loop.auto.counter-end) in
    let made : listed (take c.args.count all) ≡ c.loop.args = ap (λ i. listed (take i all)) (sym n) ∙ ap listed (sym c.loop.invariant.0) ∙ listed-items c.loop.args in
    ap tops c.in_ok-push-2.ensures.items ∙ tops-last c.loop.done.items _
    ∙ ap (λ ts. app c.args.name ts ∷ tops c.loop.done.items) (sym made)
    ∙ ap (λ ds. app c.args.name (listed (take c.args.count all)) ∷ ds) (c.loop.invariant.1 ∙ ap (λ i. drop i all) n)
