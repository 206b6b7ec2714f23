-- Bindings to variables.
use Rattle.std.specs.Prelude.{◌≡◌, ◌<◌, ◌≤◌, ℕ, Bool, true, false, List, [], ◌∷◌, Option, None, Some, ⊤}
use Rattle.scasp_syntax.specs.Tm.{var}
use Rattle.scasp_syntax.specs.View.{tm_of}
use Rattle.scasp_unify.specs.declared.bindings.Binding.{Binding}

-- where it is to a variable beyond n, it is of that one or a later one
pub record Falls (n : ℕ) (b : Binding) : Type 0 where
  pub to : (y : ℕ) → n < y → tm_of b.term ≡ var y → y ≤ b.x

abbrev pub AllFall : ℕ → List (Option Binding) → Type 0
AllFall n [] = ⊤
AllFall n (None ∷ os) = AllFall n os
AllFall n (Some b ∷ os) = Falls n b × AllFall n os

abbrev pub AllFallEach : ℕ → List (List (Option Binding)) → Type 0
AllFallEach n [] = ⊤
AllFallEach n (os ∷ oss) = AllFall n os × AllFallEach n oss

-- they do so, where no change has failed
abbrev pub AreFalling : Bool → ℕ → List (Option Binding) → Type 0
AreFalling false n os = ⊤
AreFalling true n os = AllFall n os
