-- Values of variables, one by one.
use Rattle.std.specs.Prelude.{ℕ, ◌+◌, Bool, true, false, nat_eq, List}
use Rattle.std.specs.List.{list_any}
use Rattle.scasp_num.specs.declared.linear.RatPair.{RatPair}
use Rattle.scasp_rows.specs.Samples.{value_in}
use Rattle.scasp_syntax.specs.Tm.{Tm, num, app, nil}

-- the number is one of the list
abbrev pub is_one_of : List ℕ → ℕ → Bool
is_one_of xs y = list_any (λ x. nat_eq x y) xs

-- the number that the variable is at the point, or the name
abbrev pub value_at : Bool → List RatPair → ℕ → ℕ → Tm
value_at true point name x = num (value_in point x)
value_at false point name x = app name nil

-- the first name that is left
abbrev pub name_behind : Bool → ℕ → ℕ
name_behind true name = name
name_behind false name = name + 1
