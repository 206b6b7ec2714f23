use Rattle.std.proofs.Common.{◌≡◌, ◌∷◌, [], ◌++◌, sym, ap, ◌∙◌, arith}
use Rattle.std.specs.Prelude.{◌||◌}
use Rattle.std.specs.List.{list_any}
use Rattle.std.proofs.lemmas.List.{drop_all, nil_from_length}
use Rattle.scasp_syntax.specs.View.{tms_of}
use Rattle.scasp_syntax.proofs.Walks.{sum_by-pushed, work}
use Rattle.scasp_unify.specs.Unification.{terms_vars}
use Rattle.scasp_project.proofs.VariableWalk.{list_has, or-false, any-pushed}
use Rattle.scasp_project.proofs.dropped.push_variables.Goals as goal

pub loop-list-init : goal.loop-list-init
loop-list-init c = λ test.
    ap (λ b. list_any test c.args.found.now.items || b)
    (ap (list_any (list_has test)) (c.in_ok-push.ensures.items ∙ ap (λ ls. ls ++ c.as_slice.result ∷ []) c.new-unseen.ensures.items)
    ∙ or-false (list_has test c.as_slice.result) ∙ ap (λ ts. list_any test (terms_vars ts)) c.as_slice.ensures.value)

pub loop-term-init : goal.loop-term-init
loop-term-init c = record {
  kept = λ test. ap (λ b. list_any test c.loop-list.found.items || b) (sym (any-pushed (list_has test) c.pop.new.self.items c.in-Some.list) ∙ ap (list_any (list_has test)) (sym c.in-Some.ensures.items)) ∙ c.loop-list.invariant test;
  smaller = omega arith;
}

pub loop-list-smaller : goal.loop-list-smaller
loop-list-smaller c =
    let before = ap work c.in-Some.ensures.items ∙ sum_by-pushed _ c.pop.new.self.items c.in-Some.list in
    omega (arith, before, c.loop-term.invariant.smaller)

pub loop-list-preserved : goal.loop-list-preserved
loop-list-preserved c = λ test.
    ap (λ b. list_any test c.loop-term.found.items || b)
    (sym (or-false (list_any (list_has test) c.loop-term.unseen.items))
    ∙ ap (λ ts. list_any (list_has test) c.loop-term.unseen.items || list_any test (terms_vars (tms_of ts))) (sym (drop_all c.loop-term.term-index c.in-Some.list.now c.loop-term-test.false)))
    ∙ c.loop-term.invariant.kept test

pub returns : goal.returns
returns c = λ test.
    let empty : c.loop-list.unseen.items ≡ [] = nil_from_length c.loop-list.unseen.items (omega (arith, c.in_default.ensures.cases.0)) in
    sym (or-false (list_any test c.loop-list.found.items)) ∙ ap (λ ls. list_any test c.loop-list.found.items || list_any (list_has test) ls) (sym empty) ∙ c.loop-list.invariant test
