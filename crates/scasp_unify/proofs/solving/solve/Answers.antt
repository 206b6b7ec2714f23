use Rattle.std.proofs.Common.{◌∙◌, ◌++◌, List, [], ◌∷◌, length, map, ap, subst, arith}
use Rattle.std.specs.Prelude.{MatchOption}
use Rattle.std.proofs.lemmas.List.{take_all}
use Rattle.scasp_unify.specs.Solving.{Clashes, LeadsTo, part_of, sub_of}
use Rattle.scasp_unify.specs.declared.parts.Part.{Part}
use Rattle.scasp_unify.proofs.SolvingLemmas.{all-waiting, kept-longer, kept_on, next-clashes, next-solved}
use Rattle.scasp_unify.proofs.solving.solve.Goals as goal

pub parts-init : goal.parts-init
parts-init c =
    let bs = c.args.bindings.now.items in
    record {
      leads = all-waiting (sub_of bs) c.args.parts.items c.reverse.new.self.items c.reverse.ensures.items;
      resolved = c.requires;
      kept = take_all (length bs) bs (omega arith);
      longer = omega arith;
    }

pub returns-in_default-2-clause-solved : goal.returns-in_default-2-clause-solved
returns-in_default-2-clause-solved c =
    let r = sub_of c.parts.bindings.items in
    let p = part_of c.in-Some.part in
    next-clashes (sub_of c.args.bindings.now.items) r (map part_of c.args.parts.items) c.parts.left.items c.pop.new.self.items c.in-Some.part c.in-Some.ensures.items c.parts.invariant.leads
    (subst (λ o. MatchOption o (Clashes r (p ∷ [])) (λ parts. LeadsTo r (p ∷ []) (sub_of c.bind_first.new.bindings.items) (map part_of parts.items))) c.in_default-2.is c.in_ok-rest.ensures.found)

pub parts-preserved-in_ok-append : goal.parts-preserved-in_ok-append
parts-preserved-in_ok-append c =
    let before = c.parts.bindings.items in
    let after = c.bind_first.new.bindings.items in
    let p = part_of c.in-Some.part in
    let fewer = c.pop.new.self.items in
    let more = c.in_ok-append.ensures.items ∙ ap (λ (fs : List Part). fewer ++ fs) c.reverse-in-Some.ensures.items in
    record {
      leads =
          next-solved (sub_of c.args.bindings.now.items) (sub_of before) (sub_of after) (map part_of c.args.parts.items) c.parts.left.items fewer c.append.new.self.items c.in-Some-2.rest.items c.in-Some.part c.in-Some.ensures.items more c.parts.invariant.leads
          (subst (λ o. MatchOption o (Clashes (sub_of before) (p ∷ [])) (λ parts. LeadsTo (sub_of before) (p ∷ []) (sub_of after) (map part_of parts.items))) c.in-Some-2.is c.in_ok-rest.ensures.found);
      resolved = c.in_ok-rest.ensures.resolved;
      kept = kept_on c.args.bindings.now.items before after c.parts.invariant.kept c.parts.invariant.longer c.in_ok-rest.ensures.kept;
      longer = omega (arith, c.parts.invariant.longer, kept-longer before after c.in_ok-rest.ensures.kept);
    }

pub parts-preserved : goal.parts-preserved
parts-preserved c =
    let before = c.parts.bindings.items in
    let after = c.bind_first.new.bindings.items in
    let p = part_of c.in-Some.part in
    let fewer = c.pop.new.self.items in
    let more = c.in_ok-append.ensures.items ∙ ap (λ (fs : List Part). fewer ++ fs) c.reverse-in-Some.ensures.items in
    record {
      leads =
          next-solved (sub_of c.args.bindings.now.items) (sub_of before) (sub_of after) (map part_of c.args.parts.items) c.parts.left.items fewer c.append.new.self.items c.in-Some-2.rest.items c.in-Some.part c.in-Some.ensures.items more c.parts.invariant.leads
          (subst (λ o. MatchOption o (Clashes (sub_of before) (p ∷ [])) (λ parts. LeadsTo (sub_of before) (p ∷ []) (sub_of after) (map part_of parts.items))) c.in-Some-2.is c.in_ok-rest.ensures.found);
      resolved = c.in_ok-rest.ensures.resolved;
      kept = kept_on c.args.bindings.now.items before after c.parts.invariant.kept c.parts.invariant.longer c.in_ok-rest.ensures.kept;
      longer = omega (arith, c.parts.invariant.longer, kept-longer before after c.in_ok-rest.ensures.kept);
    }
