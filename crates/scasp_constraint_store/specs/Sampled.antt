-- The sample of a list: values for some variables, by the constraints that are no equations.
use Rattle.std.specs.Prelude.{ℕ, Bool, true, false, not, if◌then◌else◌, List, Option, None, filter, length, map}
use Rattle.std.specs.List.{list_any}
use Rattle.scasp_sample.specs.Sampling.{sample}
use Rattle.scasp_search_rules.specs.Successors.Numbering.{con_renamed, placing}
use Rattle.scasp_search_rules.specs.Successors.Reading.{con_under}
use Rattle.scasp_search_rules.specs.Successors.Replacing.{is_unreplaced}
use Rattle.scasp_syntax.specs.Tm.{Tms}
use Rattle.scasp_syntax.specs.Values.{Sub}
use Rattle.scasp_syntax.specs.declared.con.Con.{Con}
use Rattle.scasp_syntax.specs.declared.con.Con.TheVariants as con
use Rattle.scasp_unify.specs.Resolver.{resolver}

abbrev pub is_equation : Con → Bool
is_equation (con.Eq t u) = true
is_equation (con.Neq t u) = false
is_equation (con.NotShape x f n) = false
is_equation (con.Num t) = false
is_equation (con.NotNum t) = false
is_equation (con.Row r) = false

-- the constraints that are no equations, as s makes them, where each variable is its place among these
abbrev pub placed : Sub → List ℕ → List Con → List Con
placed s order cs = map (λ c. con_renamed (placing order) (con_under s c)) (filter (λ c. not (is_equation c)) cs)

-- values for these variables, in order; none where a row's replacement overflows, or the arithmetic of the sample
abbrev pub sampled : ℕ → List ℕ → List Con → Option Tms
sampled fresh order cs =
    if list_any (is_unreplaced (resolver cs)) cs then None else sample fresh (placed (resolver cs) order cs) (length order)
