-- Where a reader of a file stands.
use Rattle.std.specs.Prelude.{◌≡◌, ℕ, List, drop, Option, Some}
use Rattle.std.specs.Coded.{Π_prop, →_prop, Coded-set, coded_option, coded_list, coded_ℕ}

-- where the bytes of the file are told, those from `at` on are left
abbrev pub StandsAt : Option (List ℕ) → ℕ → Option (List ℕ) → Type 0
StandsAt told at left = (all : List ℕ) → told ≡ Some all → left ≡ Some (drop at all)

-- there is one proof of it at most
pub StandsAt-prop : (told : Option (List ℕ)) (at : ℕ) (left : Option (List ℕ)) → IsProp (StandsAt told at left)
StandsAt-prop told at left = Π_prop (λ all. →_prop (Coded-set (coded_option (coded_list coded_ℕ)) left (Some (drop at all))))
