-- Variables that stay within the machine's numbers when they are raised.
use Rattle.std.proofs.Common.{◌≡◌, ℕ, ◌-◌, ◌^◌, ◌<◌, true, refl, ap, ◌∙◌, arith}
use Rattle.std.proofs.lemmas.Bool.{and_parts}
use Rattle.std.proofs.lemmas.Bool.Decides.{nat_tests}
use Rattle.scasp_syntax.specs.Raised.{raised_within}
use Rattle.scasp_syntax.specs.Tm.{Tm, Tms, var, num, app, nil, cons}
use Rattle.scasp_syntax.specs.Values.{under, all_under, raised}
use Rattle.scasp_syntax.specs.WellFormed.{is_below, are_below}

mutual
  one_raised : (by : ℕ) (t : Tm) → is_below (2 ^ 64 - by) t ≡ true → under (raised_within by) t ≡ under (raised by) t
  one_raised by (var x) h =
      let below : x < 2 ^ 64 - by = grind (arith, nat_tests) in
      ap var (omega (arith, below))
  one_raised by (num q) h = refl
  one_raised by (app f ts) h = ap (app f) (each_raised by ts h)

  each_raised : (by : ℕ) (ts : Tms) → are_below (2 ^ 64 - by) ts ≡ true → all_under (raised_within by) ts ≡ all_under (raised by) ts
  each_raised by nil h = refl
  each_raised by (cons t ts) h =
      let p = and_parts (is_below (2 ^ 64 - by) t) (are_below (2 ^ 64 - by) ts) h in
      λ j. cons (one_raised by t p.0 j) (each_raised by ts p.1 j)

pub all_raised : (by : ℕ) (ts us made : Tms) → are_below (2 ^ 64 - by) ts ≡ true → us ≡ ts → made ≡ all_under (raised_within by) us → made ≡ all_under (raised by) ts
all_raised by ts us made h u e = e ∙ ap (all_under (raised_within by)) u ∙ each_raised by ts h
