-- Parameters of a predicate that may be assumed: the last one, one more, or a stop.
use Rattle.std.proofs.Common.{◌≡◌, ℕ, zero, suc, ◌+◌, ◌-◌, ◌<◌, true, false, Ok, Err, refl, sym, ap, arith}
use Rattle.scasp_reader_tokens.specs.declared.sign.Sign.TheVariants as sign
use Rattle.scasp_reader_terms.specs.declared.fault.Fault.{Fault}
use Rattle.scasp_reader_terms.specs.Steps.{State, taken}
use Rattle.scasp_reader.specs.Texts.Abducibles.{parameter, parameters_within}

module _ (left n : ℕ) (some : 0 < left) (s : State) where
  module _ (x : ℕ) (s1 s2 : State) (is_one : parameter n s ≡ Ok (x, s1)) where
    pub parameters_last : taken sign.Comma s1 ≡ Ok (false, s2) → parameters_within left n s ≡ Ok (n + 1, s2)
    parameters_last c = by left some
      where
        by : (m : ℕ) → 0 < m → parameters_within m n s ≡ Ok (n + 1, s2)
        by zero h = absurd (omega arith)
        by (suc m) h = rw is_one (rw c refl)

    pub parameters_more : taken sign.Comma s1 ≡ Ok (true, s2) → parameters_within left n s ≡ parameters_within (left - 1) (n + 1) s2
    parameters_more c = by left some
      where
        by : (m : ℕ) → 0 < m → parameters_within m n s ≡ parameters_within (m - 1) (n + 1) s2
        by zero h = absurd (omega arith)
        by (suc m) h = let e : suc m - 1 ≡ m = omega arith in rw is_one (rw c (ap (λ k. parameters_within k (n + 1) s2) (sym e)))

  pub parameters_stop : (fault : Fault) → parameter n s ≡ Err fault → parameters_within left n s ≡ Err fault
  parameters_stop fault e = by left some
    where
      by : (m : ℕ) → 0 < m → parameters_within m n s ≡ Err fault
      by zero h = absurd (omega arith)
      by (suc m) h = rw e refl
