-- How two terms compare, and what becomes of a reading with one more binding.
use Rattle.std.specs.Prelude.{◌≡◌, true, [], ◌∷◌, ◌++◌, ⊤}
use Rattle.scasp_syntax.specs.Constraints.{is_number}
use Rattle.scasp_syntax.specs.Values.{Sub, under}
use Rattle.scasp_syntax.specs.View.{tm_of}
use Rattle.scasp_syntax.specs.declared.term.Term.{Term}
use Rattle.scasp_unify.specs.declared.bindings.Binding.{Binding}
use Rattle.scasp_store.specs.Inside.Open.{IsNew}
use Rattle.scasp_store.specs.declared.rest.Known.{Known}
use Rattle.scasp_store.specs.declared.rest.Known.TheVariants as known
use Rattle.scasp_store.specs.declared.rest.Rest.{Rest}

-- a number, and the same as it stands; or another one whatever their variables stand for
abbrev pub AreCompared : Known → Term → Term → Type 0
AreCompared known.Nothing t u = ⊤
AreCompared known.Read t u = (is_number (tm_of t) ≡ true) × (tm_of t ≡ tm_of u)
AreCompared known.Contrary t u = (v : Sub) → under v (tm_of t) ≡ under v (tm_of u) → ⊥

-- the binding is new, and stands behind the others
pub record IsMore (b : Binding) (old new : Rest) : Type 0 where
  pub fresh : IsNew old.reading.now b
  pub reading : new.reading.now ≡ old.reading.now ++ b ∷ []
  pub fixed : new.fixed.now ≡ old.fixed.now
  pub places : new.places.now ≡ old.places.now

abbrev pub IsPushed : Known → Binding → Rest → Rest → Type 0
IsPushed known.Nothing b old new = ⊤
IsPushed known.Read b old new = IsMore b old new
IsPushed known.Contrary b old new = ⊥
