use Rattle.std.proofs.Common.{◌∙◌, ◌&&◌, ◌+◌, Bool, drop, map, ap, sym}
use Rattle.scasp_syntax.specs.View.{tm_of}
use Rattle.scasp_unify.specs.Numbers.{is_among_numbers, is_number_term}
use Rattle.scasp_unify.specs.Solving.{part_of}
use Rattle.scasp_unify.proofs.NumberLemmas.{among-next}
use Rattle.scasp_unify.proofs.failures.are_among_numbers.Goals as goal

pub returns-then-not-is_number_variable : goal.returns-then-not-is_number_variable
returns-then-not-is_number_variable c = λ cs h.
    let rest = is_among_numbers cs (map part_of (drop (c.loop-part.part-index + 1) c.args.parts.now)) in
    sym (c.loop-part.invariant cs h
    ∙ among-next cs c.args.parts.now c.loop-part.part-index c.part-item.result c.loop-part-test.true c.part-item.is
    ∙ ap (λ (b : Bool). (b && is_number_term cs (tm_of c.part-item.result.term)) && rest) (sym (c.is_number_variable.ensures cs h) ∙ c.if-not-is_number_variable.true))

pub returns-then-not-is_number_term : goal.returns-then-not-is_number_term
returns-then-not-is_number_term c = λ cs h.
    let rest = is_among_numbers cs (map part_of (drop (c.loop-part.part-index + 1) c.args.parts.now)) in
    sym (c.loop-part.invariant cs h
    ∙ among-next cs c.args.parts.now c.loop-part.part-index c.part-item.result c.loop-part-test.true c.part-item.is
    ∙ ap (λ (b : Bool). (b && is_number_term cs (tm_of c.part-item.result.term)) && rest) (sym (c.is_number_variable.ensures cs h) ∙ c.if-not-is_number_variable.false)
    ∙ ap (λ (b : Bool). b && rest) (sym (c.is_number_term.ensures cs h) ∙ c.if-not-is_number_term.true))

pub loop-part-preserved : goal.loop-part-preserved
loop-part-preserved c = λ cs h.
    let rest = is_among_numbers cs (map part_of (drop (c.loop-part.part-index + 1) c.args.parts.now)) in
    c.loop-part.invariant cs h
    ∙ among-next cs c.args.parts.now c.loop-part.part-index c.part-item.result c.loop-part-test.true c.part-item.is
    ∙ ap (λ (b : Bool). (b && is_number_term cs (tm_of c.part-item.result.term)) && rest) (sym (c.is_number_variable.ensures cs h) ∙ c.if-not-is_number_variable.false)
    ∙ ap (λ (b : Bool). b && rest) (sym (c.is_number_term.ensures cs h) ∙ c.if-not-is_number_term.false)
