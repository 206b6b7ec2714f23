use Rattle.std.proofs.Common.{◌≡◌, ◌≢◌, ◌∙◌, List, ◌∷◌, Some, length, map, option_map, sym, ap, arith}
use Rattle.std.proofs.lemmas.Bool.Decides.{nat_tests}
use Rattle.scasp_unify.specs.Solving.{part_of, resolved_parts, sub_of}
use Rattle.scasp_unify.specs.declared.bindings.Binding.{Binding}
use Rattle.scasp_unify.specs.declared.parts.Part.{Part}
use Rattle.scasp_unify.proofs.SolvingLemmas.{FirstBound, first-and-rest, first-bound}
use Rattle.scasp_unify.proofs.solving.bind_first.Goals as goal

bound : (c : goal.In_ok-push) → FirstBound c.args.bindings.now.items (part_of c.args.part.now) c.push.new.self.items c.remove-first.new.self.items
bound c =
    let found : Some (map part_of c.in-Some.found.items) ≡ resolved_parts (sub_of c.args.bindings.now.items) (part_of c.args.part.now) =
    sym (ap (option_map (λ v. map part_of v.items)) c.in-Some.is) ∙ c.in_ok-found.ensures ∙ ap (λ (bs : List Binding). resolved_parts (sub_of bs) (part_of c.args.part.now)) c.as_slice.ensures.value in
    let filled : length c.in-Some.found.items ≢ 0 = λ e. absurd (grind (arith, nat_tests, e, c.in-Some.found.ok.0, c.if-is_empty.ensures, c.if-is_empty.false)) in
    let items = first-and-rest c.in-Some.found.items c.remove-first.result filled c.remove-first.ensures.value ∙ ap (λ (ps : List Part). c.remove-first.result ∷ ps) (sym c.remove-first.ensures.items) in
    first-bound c.args.bindings.now.items (part_of c.args.part.now) c.in-Some.found.items c.remove-first.new.self.items c.remove-first.result c.push.new.self.items c.requires found items c.in_ok-push.ensures.items

pub returns-clause-found : goal.returns-clause-found
returns-clause-found c = (bound c).leads

pub returns-clause-resolved : goal.returns-clause-resolved
returns-clause-resolved c = (bound c).resolved
