-- The clauses of each function over its own lifetimes, as a walk takes them.
use mathlib.Core.Path.{◌≡◌}
use Prim.Native.Nat.{◌+◌, ◌<◌}
use mathlib.Core.List.{[], ◌∷◌, ◌++◌}
use seplogic.Ra.Ura.{Ura}
use base.Logic.{sep}
use types.Logic.{Logic}
use contract.Monad.{fact}
use denote.Triple.Clauses.{Ended, Clauses}
use denote.Exit.{yes, no}
use denote.Signature.{plain}
use denote.Builtin.{RefMutOf, unit, usize}
use lib.ListN.{set}
use Rattle.core.specs.List.{slice_get}
use Rattle.core.specs.declared.option.Option.TheVariants.{Some}
use Rattle.scasp_cells.proofs.Element.{El, el_len, el_cap, el_items, R, Sr}

module _ (E : El) where
  abbrev pub push_ended : Ended
  push_ended = record { signature = record { lifetimes = 1; outlives = []; params = RefMutOf (0 ∷ []) tt (plain (λ _. Sr E)) (λ _. tt) ∷ plain (λ _. R E) ∷ []; result = plain (λ _. unit) }; kept = (yes, (no, tt)) }

  abbrev pub push_clauses : {M : Type 1} {𝓤 : Ura M} (𝓛 : Logic 𝓤) → Clauses 𝓤 push_ended
  push_clauses {𝓤 = 𝓤} 𝓛 κs a = record { ghost = Unit {0}; requires = λ g. fact 𝓤 (el_len E a.0.now < el_cap E a.0.now); ensures = λ g r w. sep 𝓤 (fact 𝓤 (el_items E w.0.now ≡ el_items E a.0.now ++ a.1.0 ∷ [])) (sep 𝓤 (fact 𝓤 (el_len E w.0.now ≡ el_len E a.0.now + 1)) (sep 𝓤 (fact 𝓤 (el_cap E w.0.now ≡ el_cap E a.0.now)) (fact 𝓤 (w.0.now.ptr ≡ a.0.now.ptr)))) }

  abbrev pub pop_ended : Ended
  pop_ended = record { signature = record { lifetimes = 1; outlives = []; params = RefMutOf (0 ∷ []) tt (plain (λ _. Sr E)) (λ _. tt) ∷ []; result = plain (λ _. R E) }; kept = (yes, tt) }

  abbrev pub pop_clauses : {M : Type 1} {𝓤 : Ura M} (𝓛 : Logic 𝓤) → Clauses 𝓤 pop_ended
  pop_clauses {𝓤 = 𝓤} 𝓛 κs a = record { ghost = Unit {0}; requires = λ g. fact 𝓤 (0 < el_len E a.0.now); ensures = λ g r w. sep 𝓤 (fact 𝓤 (el_items E a.0.now ≡ el_items E w.0.now ++ r ∷ [])) (sep 𝓤 (fact 𝓤 (el_len E w.0.now + 1 ≡ el_len E a.0.now)) (sep 𝓤 (fact 𝓤 (el_cap E w.0.now ≡ el_cap E a.0.now)) (fact 𝓤 (w.0.now.ptr ≡ a.0.now.ptr)))) }

  abbrev pub replace_ended : Ended
  replace_ended = record { signature = record { lifetimes = 1; outlives = []; params = RefMutOf (0 ∷ []) tt (plain (λ _. Sr E)) (λ _. tt) ∷ plain (λ _. usize) ∷ plain (λ _. R E) ∷ []; result = plain (λ _. R E) }; kept = (yes, (yes, (no, tt))) }

  abbrev pub replace_clauses : {M : Type 1} {𝓤 : Ura M} (𝓛 : Logic 𝓤) → Clauses 𝓤 replace_ended
  replace_clauses {𝓤 = 𝓤} 𝓛 κs a = record { ghost = Unit {0}; requires = λ g. fact 𝓤 (a.1.0 < el_len E a.0.now); ensures = λ g r w. sep 𝓤 (fact 𝓤 (slice_get (el_items E a.0.now) a.1.0 ≡ Some r)) (sep 𝓤 (fact 𝓤 (el_items E w.0.now ≡ set (el_items E a.0.now) a.1.0 a.1.1.0)) (sep 𝓤 (fact 𝓤 (el_len E w.0.now ≡ el_len E a.0.now)) (sep 𝓤 (fact 𝓤 (el_cap E w.0.now ≡ el_cap E a.0.now)) (fact 𝓤 (w.0.now.ptr ≡ a.0.now.ptr))))) }
