-- When a resolver is that of a list of constraints.
use Rattle.std.specs.Prelude.{◌≡◌, ℕ, List, nat_eq}
use Rattle.std.specs.List.{list_any}
use Rattle.scasp_syntax.specs.declared.con.Con.{Con}
use Rattle.scasp_unify.specs.Numbers.{number_var}
use Rattle.scasp_unify.specs.Resolver.{resolver, unifies}
use Rattle.scasp_unify.specs.Solving.{sub_of}
use Rattle.scasp_unify.specs.declared.resolver.Resolver.{Resolver}

pub record ResolvesList (r : Resolver) (cs : List Con) : Type 0 where
  pub bound : sub_of r.bindings.items ≡ resolver cs
  pub numbers : (y : ℕ) → list_any (λ z. nat_eq z y) r.numbers.items ≡ number_var cs y
  pub unifies : r.unifies ≡ unifies cs
