-- The problems that are searched have the tests of the whole language.
use Rattle.std.specs.Prelude.{◌≡◌, ℕ, zero, suc, Bool, true, false, if◌then◌else◌, Option, None, Some, List}
use Rattle.std.proofs.Common.{◌∙◌, refl, ap, sym, length}
use Rattle.scasp_search_ends.specs.Ends.Ends.{problem}
use Rattle.scasp_sample.specs.Sampling.{evaluated, values_from, point_for, sample}
use Rattle.scasp_command_run.proofs.AnswerLemmas.{evaluated-is}
use Rattle.scasp_nmr.specs.declared.items.CheckItem.{CheckItem}
use Rattle.scasp_num.specs.Arithmetic.{◌>>=◌}
use Rattle.scasp_num.specs.declared.linear.RatPair.{RatPair}
use Rattle.scasp_law_propositional.specs.Propositional.Problems.{HasTests}
use Rattle.scasp_rows.specs.Samples.{value_in}
use Rattle.scasp_syntax.specs.Tm.{Tms, nil, cons, num, app, items}
use Rattle.scasp_syntax.specs.Values.{are_ground}
use Rattle.scasp_syntax.specs.declared.con.Con.{Con}
use Rattle.scasp_syntax.specs.declared.predicate_map.PredMap.{PredMap}
use Rattle.scasp_syntax.specs.declared.program.Program.{Program}
use Rattle.scasp_unify.specs.Numbers.{number_var}

long-values : (is_number : ℕ → Bool) (point : List RatPair) (fresh x n : ℕ) → length (items (values_from is_number point fresh x n)) ≡ n
long-values is_number point fresh x zero = refl
long-values is_number point fresh x (suc n) = by (is_number x) (long-values is_number point fresh (suc x) n) (long-values is_number point (suc fresh) (suc x) n)
  where
    by : (b : Bool) → length (items (values_from is_number point fresh (suc x) n)) ≡ n → length (items (values_from is_number point (suc fresh) (suc x) n)) ≡ n
        → length (items (if b then cons (num (value_in point x)) (values_from is_number point fresh (suc x) n)
        else cons (app fresh nil) (values_from is_number point (suc fresh) (suc x) n))) ≡ suc n
    by true h k = ap suc h
    by false h k = ap suc k

ground-values : (is_number : ℕ → Bool) (point : List RatPair) (fresh x n : ℕ) → are_ground (values_from is_number point fresh x n) ≡ true
ground-values is_number point fresh x zero = refl
ground-values is_number point fresh x (suc n) = by (is_number x) (ground-values is_number point fresh (suc x) n) (ground-values is_number point (suc fresh) (suc x) n)
  where
    by : (b : Bool) → are_ground (values_from is_number point fresh (suc x) n) ≡ true → are_ground (values_from is_number point (suc fresh) (suc x) n) ≡ true
        → are_ground (if b then cons (num (value_in point x)) (values_from is_number point fresh (suc x) n)
        else cons (app fresh nil) (values_from is_number point (suc fresh) (suc x) n)) ≡ true
    by true h k = h
    by false h k = k

sampled : (fresh : ℕ) (cs : List Con) (n : ℕ) (ts : Tms) → sample fresh cs n ≡ Some ts → (length (items ts) ≡ n) × (are_ground ts ≡ true)
sampled fresh cs n ts e = by (point_for cs) e
  where
    by : (o : Option (List RatPair)) → (o >>= (λ point. evaluated cs (values_from (number_var cs) point fresh 0 n))) ≡ Some ts → (length (items ts) ≡ n) × (are_ground ts ≡ true)
    by None f = absurd (cc f)
    by (Some point) f =
        let same : values_from (number_var cs) point fresh 0 n ≡ ts = evaluated-is cs (values_from (number_var cs) point fresh 0 n) ts f in (
          ap (λ (z : Tms). length (items z)) (sym same) ∙ long-values (number_var cs) point fresh 0 n,
          ap are_ground (sym same) ∙ ground-values (number_var cs) point fresh 0 n,
        )

pub searched-tests : (p : Program) (query : ℕ) (checks : List CheckItem) (map : List PredMap) (fresh : ℕ) → HasTests (problem p query checks map fresh)
searched-tests p query checks map fresh = record { sat_is = refl; samples = sampled fresh }
