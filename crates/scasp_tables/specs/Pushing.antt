-- What becomes of a term that is to be a member of a domain.
use Rattle.std.specs.Prelude.{◌≡◌, true, false, List, [], ◌∷◌, ◌++◌, IsTrue}
use Rattle.scasp_syntax.specs.Tm.{Tm}
use Rattle.scasp_syntax.specs.Values.{is_ground}
use Rattle.scasp_tables.specs.Tables.{is_member}
use Rattle.scasp_tables.specs.declared.pushed.Pushed.{Pushed}
use Rattle.scasp_tables.specs.declared.pushed.Pushed.TheVariants as pushed

-- from the members before to those after: a ground term that is no member goes last
abbrev pub PushedBy : List Tm → Tm → Pushed → List Tm → Type 0
PushedBy old t pushed.Added new = IsTrue (is_ground t) × (is_member old t ≡ false) × (new ≡ old ++ t ∷ [])
PushedBy old t pushed.NotGround new = (is_ground t ≡ false) × (new ≡ old)
PushedBy old t pushed.Repeated new = IsTrue (is_ground t) × (is_member old t ≡ true) × (new ≡ old)
