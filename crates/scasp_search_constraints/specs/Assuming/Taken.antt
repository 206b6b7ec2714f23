-- How the code gives what it asks lists for. An overflow is answered only where one of the lists overflows; want of memory says nothing.
use Rattle.std.specs.Prelude.{◌≡◌, true, List, Result, Ok, Err, ⊤}
use Rattle.std.specs.List.{list_any}
use Rattle.scasp_search_constraints.specs.declared.assuming.step.SearchErr.{SearchErr}
use Rattle.scasp_search_constraints.specs.declared.assuming.step.SearchErr.TheVariants as errors
use Rattle.scasp_hint.specs.Finding.{overflows_in}
use Rattle.scasp_syntax.specs.declared.con.Con.{Con}

-- what a call gives that asks these lists
abbrev pub Gives : {A : Type 0} → Result A SearchErr → A → List (List Con) → Type 0
Gives (Ok a) value asked = a ≡ value
Gives (Err errors.Overflow) value asked = list_any overflows_in asked ≡ true
Gives (Err errors.Memory) value asked = ⊤
