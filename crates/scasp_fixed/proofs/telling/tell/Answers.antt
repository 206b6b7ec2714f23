use Rattle.std.proofs.Common.{◌≡◌, ◌∙◌, IfOk, List, ap, map, subst}
use Rattle.scasp_fixed.specs.Fixed.{telling_by, values_found}
use Rattle.scasp_syntax.specs.Tm.{items}
use Rattle.scasp_syntax.specs.View.{tm_of}
use Rattle.scasp_unify.specs.declared.bindings.Binding.{Binding}
use Rattle.scasp_fixed.proofs.telling.tell.Goals as goal

pub returns-clause-told_lists : goal.returns-clause-told_lists
returns-clause-told_lists c =
    let found : c.in_ok-values.values.items ≡ values_found c.args.lists (items c.args.sample.now) =
    c.in_ok-values.ensures
    ∙ ap (λ ls. values_found ls (map tm_of c.as_slice-2.result.now)) c.as_slice.ensures
    ∙ ap (values_found c.args.lists) c.as_slice-2.ensures.terms in
    subst (λ (vs : List Binding). IfOk c.told_by.result (λ t. t.lists ≡ (telling_by vs c.args.lists).lists)) found c.told_by.ensures.told_lists
