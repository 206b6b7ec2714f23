use Rattle.std.proofs.Common.{[], map, ap, ◌∙◌}
use Rattle.scasp_bound.specs.Bounds.{unbound}
use Rattle.scasp_unify.specs.declared.bindings.Binding.{Binding}
use Rattle.scasp_store.proofs.BehindLemmas.{none_left}
use Rattle.scasp_store.proofs.behind.take_all.Goals as goal

pub returns-clause-now : goal.returns-clause-now
returns-clause-now c =
    let xs = c.as_slice-2.ensures ∙ c.in_ok-xs.ensures ∙ ap (map (λ (b : Binding). b.x)) (c.as_slice.ensures ∙ c.in_ok-bindings.ensures) in
    c.in_ok-end_case.ensures.now ∙ ap (λ ys. unbound ys [] c.args.reading.now.now) xs ∙ none_left c.args.reading.now.now
