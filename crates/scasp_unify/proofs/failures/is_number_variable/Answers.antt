use Rattle.std.proofs.Common.{◌∙◌, ℕ, List, nat_eq, ap}
use Rattle.std.specs.List.{list_any}
use Rattle.scasp_unify.proofs.failures.is_number_variable.Goals as goal

pub returns : goal.returns
returns c = λ cs h. c.contains.ensures.value ∙ ap (λ (zs : List ℕ). list_any (λ z. nat_eq z c.args.y) zs) c.as_slice.ensures.value ∙ h.numbers c.args.y
