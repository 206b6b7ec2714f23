use Rattle.std.proofs.Common.{◌≡◌, ◌≢◌, ◌∙◌, ◌∷◌, List, length, map, true, refl, sym, ap, subst, take, arith}
use Rattle.std.proofs.lemmas.Bool.Decides.{nat_tests}
use Rattle.scasp_syntax.specs.View.{tm_of}
use Rattle.scasp_unify.specs.Solving.{part_of, sub_of}
use Rattle.scasp_unify.specs.Unification.{Absorbs}
use Rattle.scasp_unify.specs.declared.bindings.Binding.{Binding}
use Rattle.scasp_unify.specs.declared.parts.Part.{Part}
use Rattle.scasp_unify.proofs.SolvingLemmas.{first-and-rest, found-apart, found-parts, kept-first, none-found, rest-solved, sides-apart, sides-clash, sides-unify, whole-bound}
use Rattle.scasp_unify.proofs.solving.unify.Goals as goal

pub returns-then-not-branch-clause-unified : goal.returns-then-not-branch-clause-unified
returns-then-not-branch-clause-unified c =
    let bs = c.args.bindings.now.items in
    (sides-apart (sub_of bs) (tm_of c.args.left.now) (tm_of c.args.right.now)
    (found-apart bs c.as_slice.result.now c.as_slice-2.result.now (tm_of c.args.left.now) (tm_of c.args.right.now) (tm_of c.in_ok-first.first) (tm_of c.in_ok-second.second) c.in_ok-find_parts.field-0 c.new-parts.result.items c.find_parts.new.found.items c.as_slice.ensures.value c.as_slice-2.ensures.value c.in_ok-first.ensures c.in_ok-second.ensures c.in_ok-find_parts.ensures c.if-not-branch.true)).unified

pub returns-then-not-branch-clause-bound : goal.returns-then-not-branch-clause-bound
returns-then-not-branch-clause-bound c =
    let bs = c.args.bindings.now.items in
    (sides-apart (sub_of bs) (tm_of c.args.left.now) (tm_of c.args.right.now)
    (found-apart bs c.as_slice.result.now c.as_slice-2.result.now (tm_of c.args.left.now) (tm_of c.args.right.now) (tm_of c.in_ok-first.first) (tm_of c.in_ok-second.second) c.in_ok-find_parts.field-0 c.new-parts.result.items c.find_parts.new.found.items c.as_slice.ensures.value c.as_slice-2.ensures.value c.in_ok-first.ensures c.in_ok-second.ensures c.in_ok-find_parts.ensures c.if-not-branch.true)).bound

pub returns-then-is_empty-clause-unified : goal.returns-then-is_empty-clause-unified
returns-then-is_empty-clause-unified c =
    let bs = c.args.bindings.now.items in
    let left = tm_of c.args.left.now in
    let right = tm_of c.args.right.now in
    let all = c.find_parts.new.found.items in
    let found = found-parts bs c.as_slice.result.now c.as_slice-2.result.now left right (tm_of c.in_ok-first.first) (tm_of c.in_ok-second.second) c.in_ok-find_parts.field-0 c.new-parts.result.items all c.as_slice.ensures.value c.as_slice-2.ensures.value c.in_ok-first.ensures c.in_ok-second.ensures c.in_ok-find_parts.ensures c.if-not-branch.false c.new-parts.ensures.items in
    let none : length all ≡ 0 = grind (arith, nat_tests, c.find_parts.new.found.ok.0, c.if-is_empty.ensures, c.if-is_empty.true) in
    (sides-unify (sub_of bs) (sub_of bs) left right (map part_of all) c.requires found true (none-found (sub_of bs) all none) refl).unified

pub returns-then-is_empty-clause-bound : goal.returns-then-is_empty-clause-bound
returns-then-is_empty-clause-bound c =
    let bs = c.args.bindings.now.items in
    let left = tm_of c.args.left.now in
    let right = tm_of c.args.right.now in
    let all = c.find_parts.new.found.items in
    let found = found-parts bs c.as_slice.result.now c.as_slice-2.result.now left right (tm_of c.in_ok-first.first) (tm_of c.in_ok-second.second) c.in_ok-find_parts.field-0 c.new-parts.result.items all c.as_slice.ensures.value c.as_slice-2.ensures.value c.in_ok-first.ensures c.in_ok-second.ensures c.in_ok-find_parts.ensures c.if-not-branch.false c.new-parts.ensures.items in
    let none : length all ≡ 0 = grind (arith, nat_tests, c.find_parts.new.found.ok.0, c.if-is_empty.ensures, c.if-is_empty.true) in
    (sides-unify (sub_of bs) (sub_of bs) left right (map part_of all) c.requires found true (none-found (sub_of bs) all none) refl).bound

pub solve-requires : goal.solve-requires
solve-requires c =
    let bs = c.args.bindings.now.items in
    let left = tm_of c.args.left.now in
    let right = tm_of c.args.right.now in
    let all = c.find_parts.new.found.items in
    let found = found-parts bs c.as_slice.result.now c.as_slice-2.result.now left right (tm_of c.in_ok-first.first) (tm_of c.in_ok-second.second) c.in_ok-find_parts.field-0 c.new-parts.result.items all c.as_slice.ensures.value c.as_slice-2.ensures.value c.in_ok-first.ensures c.in_ok-second.ensures c.in_ok-find_parts.ensures c.if-not-branch.false c.new-parts.ensures.items in
    let filled : length all ≢ 0 = λ e. absurd (grind (arith, nat_tests, e, c.find_parts.new.found.ok.0, c.if-is_empty.ensures, c.if-is_empty.false)) in
    let part = c.remove-part.result in
    let rest = c.remove-part.new.self.items in
    let after = c.push.new.self.items in
    let items : all ≡ part ∷ rest = first-and-rest all part filled c.remove-part.ensures.value ∙ ap (λ (ps : List Part). part ∷ ps) (sym c.remove-part.ensures.items) in
    let whole = whole-bound bs left right all rest part after c.requires found items c.in_ok-push.ensures.items in
    whole.resolved

pub returns-then-branch-clause-unified : goal.returns-then-branch-clause-unified
returns-then-branch-clause-unified c =
    let bs = c.args.bindings.now.items in
    let left = tm_of c.args.left.now in
    let right = tm_of c.args.right.now in
    let all = c.find_parts.new.found.items in
    let found = found-parts bs c.as_slice.result.now c.as_slice-2.result.now left right (tm_of c.in_ok-first.first) (tm_of c.in_ok-second.second) c.in_ok-find_parts.field-0 c.new-parts.result.items all c.as_slice.ensures.value c.as_slice-2.ensures.value c.in_ok-first.ensures c.in_ok-second.ensures c.in_ok-find_parts.ensures c.if-not-branch.false c.new-parts.ensures.items in
    let filled : length all ≢ 0 = λ e. absurd (grind (arith, nat_tests, e, c.find_parts.new.found.ok.0, c.if-is_empty.ensures, c.if-is_empty.false)) in
    let part = c.remove-part.result in
    let rest = c.remove-part.new.self.items in
    let after = c.push.new.self.items in
    let items : all ≡ part ∷ rest = first-and-rest all part filled c.remove-part.ensures.value ∙ ap (λ (ps : List Part). part ∷ ps) (sym c.remove-part.ensures.items) in
    let whole = whole-bound bs left right all rest part after c.requires found items c.in_ok-push.ensures.items in
    let later = c.in_ok-solve.ensures.solved in
    let solved = rest-solved c.in_ok-solve.field-0 (sub_of bs) (sub_of after) (sub_of c.solve.new.bindings.items) (map part_of all) (map part_of rest) whole.leads later in
    (sides-unify (sub_of bs) (sub_of c.solve.new.bindings.items) left right (map part_of all) c.requires found c.in_ok-solve.field-0 solved c.if-branch.true).unified

pub returns-then-branch-clause-bound : goal.returns-then-branch-clause-bound
returns-then-branch-clause-bound c =
    let bs = c.args.bindings.now.items in
    let left = tm_of c.args.left.now in
    let right = tm_of c.args.right.now in
    let all = c.find_parts.new.found.items in
    let found = found-parts bs c.as_slice.result.now c.as_slice-2.result.now left right (tm_of c.in_ok-first.first) (tm_of c.in_ok-second.second) c.in_ok-find_parts.field-0 c.new-parts.result.items all c.as_slice.ensures.value c.as_slice-2.ensures.value c.in_ok-first.ensures c.in_ok-second.ensures c.in_ok-find_parts.ensures c.if-not-branch.false c.new-parts.ensures.items in
    let filled : length all ≢ 0 = λ e. absurd (grind (arith, nat_tests, e, c.find_parts.new.found.ok.0, c.if-is_empty.ensures, c.if-is_empty.false)) in
    let part = c.remove-part.result in
    let rest = c.remove-part.new.self.items in
    let after = c.push.new.self.items in
    let items : all ≡ part ∷ rest = first-and-rest all part filled c.remove-part.ensures.value ∙ ap (λ (ps : List Part). part ∷ ps) (sym c.remove-part.ensures.items) in
    let whole = whole-bound bs left right all rest part after c.requires found items c.in_ok-push.ensures.items in
    let later = c.in_ok-solve.ensures.solved in
    let solved = rest-solved c.in_ok-solve.field-0 (sub_of bs) (sub_of after) (sub_of c.solve.new.bindings.items) (map part_of all) (map part_of rest) whole.leads later in
    (sides-unify (sub_of bs) (sub_of c.solve.new.bindings.items) left right (map part_of all) c.requires found c.in_ok-solve.field-0 solved c.if-branch.true).bound

pub returns-clause-unified : goal.returns-clause-unified
returns-clause-unified c =
    let bs = c.args.bindings.now.items in
    let left = tm_of c.args.left.now in
    let right = tm_of c.args.right.now in
    let all = c.find_parts.new.found.items in
    let found = found-parts bs c.as_slice.result.now c.as_slice-2.result.now left right (tm_of c.in_ok-first.first) (tm_of c.in_ok-second.second) c.in_ok-find_parts.field-0 c.new-parts.result.items all c.as_slice.ensures.value c.as_slice-2.ensures.value c.in_ok-first.ensures c.in_ok-second.ensures c.in_ok-find_parts.ensures c.if-not-branch.false c.new-parts.ensures.items in
    let filled : length all ≢ 0 = λ e. absurd (grind (arith, nat_tests, e, c.find_parts.new.found.ok.0, c.if-is_empty.ensures, c.if-is_empty.false)) in
    let part = c.remove-part.result in
    let rest = c.remove-part.new.self.items in
    let after = c.push.new.self.items in
    let items : all ≡ part ∷ rest = first-and-rest all part filled c.remove-part.ensures.value ∙ ap (λ (ps : List Part). part ∷ ps) (sym c.remove-part.ensures.items) in
    let whole = whole-bound bs left right all rest part after c.requires found items c.in_ok-push.ensures.items in
    let later = c.in_ok-solve.ensures.solved in
    let solved = rest-solved c.in_ok-solve.field-0 (sub_of bs) (sub_of after) (sub_of c.solve.new.bindings.items) (map part_of all) (map part_of rest) whole.leads later in
    (sides-clash (sub_of bs) (sub_of c.solve.new.bindings.items) left right (map part_of all) c.requires found c.in_ok-solve.field-0 solved c.if-branch.false).unified

pub returns-clause-bound : goal.returns-clause-bound
returns-clause-bound c =
    let bs = c.args.bindings.now.items in
    let left = tm_of c.args.left.now in
    let right = tm_of c.args.right.now in
    let all = c.find_parts.new.found.items in
    let found = found-parts bs c.as_slice.result.now c.as_slice-2.result.now left right (tm_of c.in_ok-first.first) (tm_of c.in_ok-second.second) c.in_ok-find_parts.field-0 c.new-parts.result.items all c.as_slice.ensures.value c.as_slice-2.ensures.value c.in_ok-first.ensures c.in_ok-second.ensures c.in_ok-find_parts.ensures c.if-not-branch.false c.new-parts.ensures.items in
    let filled : length all ≢ 0 = λ e. absurd (grind (arith, nat_tests, e, c.find_parts.new.found.ok.0, c.if-is_empty.ensures, c.if-is_empty.false)) in
    let part = c.remove-part.result in
    let rest = c.remove-part.new.self.items in
    let after = c.push.new.self.items in
    let items : all ≡ part ∷ rest = first-and-rest all part filled c.remove-part.ensures.value ∙ ap (λ (ps : List Part). part ∷ ps) (sym c.remove-part.ensures.items) in
    let whole = whole-bound bs left right all rest part after c.requires found items c.in_ok-push.ensures.items in
    let later = c.in_ok-solve.ensures.solved in
    let solved = rest-solved c.in_ok-solve.field-0 (sub_of bs) (sub_of after) (sub_of c.solve.new.bindings.items) (map part_of all) (map part_of rest) whole.leads later in
    let kept = kept-first bs after c.solve.new.bindings.items (record { x = part.at; term = part.term }) c.in_ok-push.ensures.items c.in_ok-solve.ensures.kept in
    let back = c.truncate.ensures.items ∙ ap (λ n. take n c.solve.new.bindings.items) (c.len-count.ensures ∙ c.args.bindings.now.ok.0) ∙ kept in
    ap sub_of back ∙ (sides-clash (sub_of bs) (sub_of c.solve.new.bindings.items) left right (map part_of all) c.requires found c.in_ok-solve.field-0 solved c.if-branch.false).bound

pub returns-clause-resolved : goal.returns-clause-resolved
returns-clause-resolved c =
    let bs = c.args.bindings.now.items in
    let part = c.remove-part.result in
    let after = c.push.new.self.items in
    let kept = kept-first bs after c.solve.new.bindings.items (record { x = part.at; term = part.term }) c.in_ok-push.ensures.items c.in_ok-solve.ensures.kept in
    let back = c.truncate.ensures.items ∙ ap (λ n. take n c.solve.new.bindings.items) (c.len-count.ensures ∙ c.args.bindings.now.ok.0) ∙ kept in
    subst (λ (ds : List Binding). Absorbs (sub_of ds) (sub_of ds)) (sym back) c.requires
