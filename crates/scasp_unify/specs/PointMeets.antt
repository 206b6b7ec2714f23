-- When a rational point meets what a list of constraints says of numbers.
use Rattle.std.specs.Prelude.{◌≡◌, ℕ, true, List, Option, None, Some, ⊤}
use Rattle.scasp_list.specs.Each.{Each}
use Rattle.scasp_num.specs.Number.{Number}
use Rattle.scasp_num.specs.Values.{Holds}
use Rattle.scasp_syntax.specs.Values.{under}
use Rattle.scasp_syntax.specs.View.{tm_of}
use Rattle.scasp_unify.specs.Parts.{Part, parts}
use Rattle.scasp_unify.specs.Resolver.{resolver}
use Rattle.scasp_unify.specs.Numbers.{is_among_numbers}
use Rattle.scasp_unify.specs.Points.{read_as, through}
use Rattle.scasp_syntax.specs.declared.con.Con.{Con}
use Rattle.scasp_syntax.specs.declared.con.Con.TheVariants as con

-- of parts that are all between numbers, one differs
abbrev pub PartsDiffer : List Con → (ℕ → Number) → Option (List Part) → Type 0
PartsDiffer cs p None = ⊤
PartsDiffer cs p (Some ps) = is_among_numbers cs ps ≡ true → Each (λ (q : Part). p q.at ≡ read_as p q.at q.term) ps → ⊥

abbrev pub PointMeets : List Con → (ℕ → Number) → Con → Type 0
PointMeets cs p (con.Row r) = Holds (through (resolver cs) p) r
PointMeets cs p (con.Neq t u) = PartsDiffer cs p (parts (under (resolver cs) (tm_of t)) (under (resolver cs) (tm_of u)))
PointMeets cs p (con.Eq t u) = ⊤
PointMeets cs p (con.NotShape x f n) = ⊤
PointMeets cs p (con.Num t) = ⊤
PointMeets cs p (con.NotNum t) = ⊤
