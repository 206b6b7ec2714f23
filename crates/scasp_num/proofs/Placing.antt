-- What is still to come while one term is placed among others.
use Rattle.std.proofs.Common.{ℕ, Bool, true, false, ℤ, List, Option, Some}
use Rattle.scasp_num.specs.declared.linear.Coeff.{Coeff}
use Rattle.scasp_num.specs.declared.linear.RatPair.{RatPair}
use Rattle.scasp_num.specs.Number.{Number}
use Rattle.scasp_num.specs.Linear.{merged}
use Rattle.scasp_num.specs.Sums.{added}

-- the terms still to come, with c times y among them unless it was placed
abbrev pub merged_unless : Bool → ℕ → ℤ → List Coeff → Option (List Coeff)
merged_unless true y c ks = Some ks
merged_unless false y c ks = merged y c ks

-- the pairs still to come, with the number added unless it was placed
abbrev pub added_unless : Bool → ℕ → Number → List RatPair → Option (List RatPair)
added_unless true x v ks = Some ks
added_unless false x v ks = added x v ks
