use Rattle.std.proofs.Common.{◌≡◌, ℕ, ◌||◌, nat_eq, drop}
use Rattle.std.specs.List.{list_any}
use Rattle.scasp_syntax.specs.Tm.{var}
use Rattle.scasp_unify.specs.Numbers.{is_num_of}
use Rattle.scasp_unify.specs.Solving.{sub_of}
use Rattle.scasp_unify.proofs.resolver.number_variables.Given as goal

abbrev pub invariant-loop-constraint : goal.invariant-loop-constraint
invariant-loop-constraint l =
    (y : ℕ) → list_any (is_num_of (sub_of l.bindings) (var y)) l.constraints ≡ (list_any (λ z. nat_eq z y) l.numbers.items || list_any (is_num_of (sub_of l.bindings) (var y)) (drop l.constraint-index l.constraints))
