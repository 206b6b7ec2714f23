use Rattle.std.proofs.Common.{◌≡◌, ◌++◌, ℕ, List, Option, None, Some, IfOk, length, map, option_map, subst, sym, ap, ◌∙◌}
use Rattle.scasp_num.specs.Arithmetic.{◌>>=◌}
use Rattle.scasp_syntax.specs.View.{tm_of}
use Rattle.scasp_unify.specs.Parts.{Part, parts}
use Rattle.scasp_unify.specs.Solving.{part_of}
use Rattle.scasp_unify.specs.Unification.{term_vars}
use Rattle.scasp_unify.specs.declared.bindings.Binding.{Binding}
use Rattle.scasp_constraint_store.specs.Bound.{bindings_by, bound_by}
use Rattle.scasp_constraint_store.proofs.BindingLemmas.{unbound-sides}
use Rattle.scasp_constraint_store.proofs.binding.bindings_by.Goals as goal

pub returns-in-None : goal.returns-in-None
returns-in-None c =
    let t = tm_of c.args.left.now in
    let u = tm_of c.args.right.now in
    let sides : None ≡ parts t u = unbound-sides t u None (sym (ap (option_map (λ v. map part_of v.items)) c.in-None.is) ∙ c.in_ok-resolved_sides.ensures) in
    ap (λ (o : Option (List Part)). o >>= bound_by (length (term_vars t ++ term_vars u))) sides

pub returns-in-Some : goal.returns-in-Some
returns-in-Some c =
    let t = tm_of c.args.left.now in
    let u = tm_of c.args.right.now in
    let ps : List Part = map part_of c.in-Some.parts.items in
    let sides : Some ps ≡ parts t u = unbound-sides t u (Some ps) (sym (ap (option_map (λ v. map part_of v.items)) c.in-Some.is) ∙ c.in_ok-resolved_sides.ensures) in
    let same : bound_by c.in_ok-count.count ps ≡ bindings_by t u =
    ap (λ (n : ℕ). bound_by n ps) c.in_ok-count.ensures ∙ ap (λ (o : Option (List Part)). o >>= bound_by (length (term_vars t ++ term_vars u))) sides in
    subst (λ (o : Option (List Binding)). IfOk c.bound_by.result (λ made. option_map (λ v. v.items) made ≡ o)) same c.bound_by.ensures
