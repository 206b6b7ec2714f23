use Rattle.std.proofs.Common.{rules, ◌≡◌, [], ap, ◌∙◌, arith}
use Rattle.std.specs.Result.{is_ok}
use Rattle.std.proofs.lemmas.Bool.Decides.{nat_tests}
use Rattle.std.proofs.lemmas.List.{nil_from_length}
use Rattle.scasp_syntax.specs.Tm.{weight, weight_s}
use Rattle.scasp_syntax.specs.View.{tm_of, tms_of}
use Rattle.scasp_syntax.proofs.DropLemmas.{weight-pushed, weight-put, weight-least}
use Rattle.scasp_syntax.proofs.+term.Goals as goal

pub term::Terms::drop-loop-term-smaller-in_default-pop : goal.term::Terms::drop-loop-term-smaller-in_default-pop
term::Terms::drop-loop-term-smaller-in_default-pop t c =
    let before = ap (λ ts. weight_s (tms_of ts)) c.in-Some.ensures.items ∙ weight-pushed c.pop.new.self.items c.in-Some.term in
    omega (arith, before, weight-least c.loop-hand.hand, c.loop-hand.invariant)

pub term::Terms::drop-loop-term-preserved-in_default-pop : goal.term::Terms::drop-loop-term-preserved-in_default-pop
term::Terms::drop-loop-term-preserved-in_default-pop t c =
    let before = ap (λ ts. weight_s (tms_of ts)) c.in-Some.ensures.items ∙ weight-pushed c.pop.new.self.items c.in-Some.term in
    omega (arith, before, c.loop-hand.invariant, c.loop-term.invariant)

pub term::Terms::drop-loop-term-smaller : goal.term::Terms::drop-loop-term-smaller
term::Terms::drop-loop-term-smaller t c =
    let before = ap (λ ts. weight_s (tms_of ts)) c.in-Some.ensures.items ∙ weight-pushed c.pop.new.self.items c.in-Some.term in
    omega (arith, before, weight-least c.loop-hand.hand, c.loop-hand.invariant)

pub term::Terms::drop-loop-term-preserved : goal.term::Terms::drop-loop-term-preserved
term::Terms::drop-loop-term-preserved t c =
    let before = ap (λ ts. weight_s (tms_of ts)) c.in-Some.ensures.items ∙ weight-pushed c.pop.new.self.items c.in-Some.term in
    omega (arith, before, c.loop-hand.invariant, c.loop-term.invariant)

pub term::Terms::drop-drop-requires : goal.term::Terms::drop-drop-requires
term::Terms::drop-drop-requires t c κs =
    let none : c.replace-aside.result.items ≡ [] = nil_from_length c.replace-aside.result.items (grind (arith, nat_tests, c.is_empty.ensures, c.if-is_empty.true)) in
    rw none (search rules)

pub term::Terms::drop-loop-hand-smaller-then-is_empty : goal.term::Terms::drop-loop-hand-smaller-then-is_empty
term::Terms::drop-loop-hand-smaller-then-is_empty t c =
    let hand = ap (λ u. weight (tm_of u)) c.in-App.is in
    let args = ap weight_s c.into_list-below.ensures in
    let below = ap (λ ts. weight_s (tms_of ts)) c.in-Some-pop.ensures.items ∙ weight-pushed c.pop-in-App.new.self.items c.in-Some-pop.last in
    omega (arith, hand, args, below)

pub term::Terms::drop-loop-hand-smaller : goal.term::Terms::drop-loop-hand-smaller
term::Terms::drop-loop-hand-smaller t c =
    let hand = ap (λ u. weight (tm_of u)) c.in-App.is in
    let args = ap weight_s c.into_list-below.ensures in
    let below = ap (λ ts. weight_s (tms_of ts)) c.in-Some-pop.ensures.items ∙ weight-pushed c.pop-in-App.new.self.items c.in-Some-pop.last in
    omega (arith, hand, args, below)

pub term::Terms::drop-loop-hand-preserved-then-is_empty : goal.term::Terms::drop-loop-hand-preserved-then-is_empty
term::Terms::drop-loop-hand-preserved-then-is_empty t c =
    let hand = ap (λ u. weight (tm_of u)) c.in-App.is in
    let args = ap weight_s c.into_list-below.ensures in
    let below = ap (λ ts. weight_s (tms_of ts)) c.in-Some-pop.ensures.items ∙ weight-pushed c.pop-in-App.new.self.items c.in-Some-pop.last in
    let rest = ap (λ v. weight_s (tms_of v.items)) c.replace-aside.ensures.after in
    omega (arith, hand, args, below, rest, c.loop-hand.invariant)

pub term::Terms::drop-loop-hand-preserved : goal.term::Terms::drop-loop-hand-preserved
term::Terms::drop-loop-hand-preserved t c =
    let hand = ap (λ u. weight (tm_of u)) c.in-App.is in
    let args = ap weight_s c.into_list-below.ensures in
    let below = ap (λ ts. weight_s (tms_of ts)) c.in-Some-pop.ensures.items ∙ weight-pushed c.pop-in-App.new.self.items c.in-Some-pop.last in
    let rest = ap (λ v. weight_s (tms_of v.items)) c.replace-aside.ensures.after in
    let aside = ap (λ v. weight_s (tms_of v.items)) c.replace-aside.ensures.value in
    let put = weight-put (is_ok c.insert.result) c.in-App.name (tms_of c.replace-aside.result.items) c.replace-aside.new.dest.items c.insert.new.self.items c.insert.ensures.items in
    omega (arith, hand, args, below, rest, aside, put, c.loop-hand.invariant)
