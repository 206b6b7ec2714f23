-- Rules over numbers that stand for atoms, and the least set that they give.
use Rattle.std.specs.Prelude.{ℕ, Bool, true, false, if◌then◌else◌, IsTrue, List, slice_index_or}
use Rattle.std.specs.List.{list_all}
use Rattle.scasp_worklist.specs.declared.numbered.NumberedRule.{NumberedRule}

-- the number is marked; what lies behind the marks is not
abbrev pub has : List Bool → ℕ → Bool
has marks n = slice_index_or marks n false

-- the set has the head where it has the body
abbrev pub keeps : (ℕ → Bool) → ℕ → List ℕ → Bool
keeps set head body = if list_all set body then set head else true

-- the set is closed under the rules
abbrev pub is_closed_under : List NumberedRule → (ℕ → Bool) → Bool
is_closed_under rules set = list_all (λ r. keeps set r.head r.body) rules

-- the set is closed under the rules, and each set that is has all of it
pub record IsLeast (rules : List NumberedRule) (set : ℕ → Bool) : Type 0 where
  pub closed : IsTrue (is_closed_under rules set)
  pub within : (other : ℕ → Bool) → IsTrue (is_closed_under rules other) → (n : ℕ) → IsTrue (set n) → IsTrue (other n)
