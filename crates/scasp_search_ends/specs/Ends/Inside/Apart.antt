-- The lists that two literals of a certificate meet where they have one atom.
use Rattle.std.specs.Prelude.{◌≡◌, ℕ, Bool, true, not, List, map, filter}
use Rattle.std.specs.List.{list_all, list_any}
use Rattle.scasp_checker_rules.specs.PairLists.{pair_list}
use Rattle.scasp_checker_rules.specs.Pairs.{all_pairs, is_pair}
use Rattle.scasp_checker_rules.specs.Told.{Told}
use Rattle.scasp_hint.specs.Finding.{overflows_in}
use Rattle.scasp_hint.specs.Satisfying.{sat}
use Rattle.scasp_syntax.specs.declared.con.Con.{Con}

-- those of a literal and of those behind it
abbrev pub lists_behind : ℕ → List Con → Told → List Told → List (List Con)
lists_behind free given a behind = map (pair_list free given a) (filter (is_pair a) behind)

-- those of all pairs
abbrev pub pairs_of : ℕ → List Con → List Told → List (List Con)
pairs_of free given ts = map (λ ab. pair_list free given ab.0 ab.1) (all_pairs ts)

-- none of the lists has a valuation
abbrev pub all_fail : List (List Con) → Bool
all_fail lists = list_all (λ cs. not (sat cs)) lists

-- What is left of the lists says whether all of them fail, and an overflow among them is one of all.
pub record IsLeft (left all : List (List Con)) : Type 0 where
  pub same : all_fail left ≡ all_fail all
  pub overflow : list_any overflows_in left ≡ true → list_any overflows_in all ≡ true
