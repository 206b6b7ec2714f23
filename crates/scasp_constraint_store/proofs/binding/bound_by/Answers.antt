use Rattle.std.proofs.Common.{◌≡◌, ◌≢◌, ◌-◌, ◌+◌, ◌++◌, ◌∷◌, [], suc, ℕ, List, Some, length, drop, take, map, option_map, sym, ap, ◌∙◌, arith}
use Rattle.std.proofs.lemmas.Bool.Decides.{nat_tests}
use Rattle.std.proofs.lemmas.List.{length-append}
use Rattle.scasp_syntax.specs.declared.term.Term.{Term}
use Rattle.scasp_unify.specs.Parts.{Part}
use Rattle.scasp_unify.specs.Solving.{part_of, sub_of}
use Rattle.scasp_unify.specs.Unification.{parts_under}
use Rattle.scasp_unify.specs.declared.bindings.Binding.{Binding}
use Rattle.scasp_unify.specs.declared.parts.Part.{Part as FoundPart}
use Rattle.scasp_unify.proofs.SolvingLemmas.{first-and-rest}
use Rattle.scasp_constraint_store.specs.Bound.{binding_of, bound_by}
use Rattle.scasp_constraint_store.proofs.BindingLemmas.{bound-step, latest-alone, term-again}
use Rattle.scasp_constraint_store.proofs.binding.bound_by.Goals as goal

pub loop-preserved : goal.loop-preserved
loop-preserved c =
    let first = c.remove-first.result in
    let made = c.loop.made.items in
    let left = c.loop.left.items in
    let now = c.remove-first.new.self.items in
    let m = c.args.count - (c.loop.counter + 1) in
    let b : Binding = record { x = first.at; term = first.term } in
    let qs : List Part = map part_of c.in-Some.rest.items in
    let filled : length left ≢ 0 = λ e. absurd (grind (arith, nat_tests, e, c.loop.left.ok.0, c.if-is_empty.ensures, c.if-is_empty.false)) in
    let items : left ≡ first ∷ now = first-and-rest left first filled c.remove-first.ensures.value ∙ ap (λ (ps : List FoundPart). first ∷ ps) (sym c.remove-first.ensures.items) in
    let named : b ≡ binding_of (part_of first) = ap (λ (t : Term). record { x = first.at; term = t }) (sym (term-again first.term)) in
    let all : c.as_slice-in-loop.result.now ≡ made ++ b ∷ [] = c.as_slice-in-loop.ensures.value ∙ c.in_ok-push.ensures.items in
    let place : c.len-latest.result - 1 ≡ length made = omega (arith, c.len-latest.ensures, c.push.new.self.ok.0, ap length c.in_ok-push.ensures.items, length-append made (b ∷ [])) in
    let found : Some qs ≡ parts_under (sub_of (b ∷ [])) (map part_of now) =
    sym (ap (option_map (λ v. map part_of v.items)) c.in-Some.is) ∙ c.in_ok-parts_under.ensures
    ∙ ap (λ (ps : List FoundPart). parts_under (sub_of (take (length c.as_slice-in-loop.result.now - (c.len-latest.result - 1)) (drop (c.len-latest.result - 1) c.as_slice-in-loop.result.now))) (map part_of ps)) c.as_slice.ensures.value
    ∙ ap (λ (bs : List Binding). parts_under (sub_of bs) (map part_of now)) (latest-alone (c.len-latest.result - 1) made c.as_slice-in-loop.result.now b all place) in
    let size : c.args.count - c.loop.counter ≡ suc m = omega (arith, c.loop-test.true) in
    ap (λ (bs : List Binding). option_map (λ ds. bs ++ ds) (bound_by m qs)) c.in_ok-push.ensures.items
    ∙ bound-step m made b left now first qs _ items named found (ap (λ (n : ℕ). option_map (λ bs. made ++ bs) (bound_by n (map part_of left))) (sym size) ∙ c.loop.invariant)
