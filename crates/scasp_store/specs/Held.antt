-- What a store holds.
use Rattle.std.specs.Prelude.{List, ◌++◌, map}
use Rattle.scasp_search_rules.specs.Successors.Regions.{equation}
use Rattle.scasp_syntax.specs.declared.con.Con.{Con}
use Rattle.scasp_trail.specs.Past.{Past}
use Rattle.scasp_unify.specs.declared.bindings.Binding.{Binding}

-- the bindings and the given constraints, now and at each mark
pub record Held : Type 0 where
  pub bound : Past Binding
  pub given : Past Con

-- the bindings as equations, the given constraints, and then these
abbrev pub list_with : Held → List Con → List Con
list_with h more = map equation h.bound.now ++ (h.given.now ++ more)
