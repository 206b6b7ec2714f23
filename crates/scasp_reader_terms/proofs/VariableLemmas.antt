-- The number of a new variable.
use Rattle.std.proofs.Common.{◌≡◌, ℕ, true, false, List, Ok, sym, ◌∙◌, refl, arith, true≢false}
use Rattle.std.specs.Prelude.{nat_le, nat_lt}
use Rattle.std.proofs.lemmas.Bool.Decides.{nat_tests}
use Rattle.scasp_reader_terms.specs.declared.reader.TheConstants.{VARIABLE_LIMIT, NUMBER_LIMIT}
use Rattle.scasp_reader_terms.specs.Steps.{State}
use Rattle.scasp_reader_terms.specs.Names.{with_variable, put_variable}

module _ (n : ℕ) (few : nat_le VARIABLE_LIMIT n ≡ false) where
  pub few-numbered : nat_lt n NUMBER_LIMIT ≡ true
  few-numbered = grind (arith, nat_tests, few)

  pub few-not-many : nat_lt n NUMBER_LIMIT ≡ false → ⊥
  few-not-many many = true≢false (sym few-numbered ∙ many)

  -- within the limit a variable gets the next number
  pub few-put : (text : List ℕ) (s : State) → put_variable n text s ≡ Ok (n, with_variable text s)
  few-put text s = rw few-numbered refl
