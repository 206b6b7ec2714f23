-- Rows as keys: when they are equal, and what a row writes where it is hashed.
use Rattle.std.specs.Prelude.{◌≡◌, IsTrue, true, List, [], ◌∷◌, ◌++◌}
use Rattle.std.proofs.Common.{refl, sym, ap}
use Rattle.std.specs.Cmp.{IsEquivalence, both_ways}
use Rattle.std.specs.Hash as fed
use Rattle.scasp_num.specs.declared.linear.Coeff.{Coeff}
use Rattle.scasp_num.specs.Linear.{Linear}
use Rattle.scasp_num.specs.SameRow.{same_row}
use Rattle.scasp_num.proofs.SameRows.{row-decided}

-- each variable and its coefficient
abbrev pub terms_writes : List Coeff → fed.HashWrites
terms_writes [] = []
terms_writes (k ∷ ks) = fed.u64 k.x ++ fed.i128 k.c ++ terms_writes ks

-- all integers of the row
abbrev pub row_writes : Linear → fed.HashWrites
row_writes r = fed.i128 r.constant ++ terms_writes r.coeffs

-- ---- laws

same-symm : (p q : Linear) → same_row p q ≡ true → same_row q p ≡ true
same-symm p q e = (row-decided q p).1 (sym ((row-decided p q).0 e))

pub same_row-symm : (p q : Linear) → same_row p q ≡ same_row q p
same_row-symm p q = both_ways (same_row p q) (same_row q p) (same-symm p q) (same-symm q p)

pub rows_equivalent : {K : Type 0} (row : K → Linear) → IsEquivalence (λ a b. same_row (row b) (row a))
rows_equivalent row = record {
  refl = λ a. (row-decided (row a) (row a)).1 refl;
  symm = λ a b. same_row-symm (row b) (row a);
  congr = λ a b c e. ap (λ r. same_row (row c) r) (sym ((row-decided (row b) (row a)).0 e));
}

pub writes-same : (p q : Linear) → IsTrue (same_row q p) → row_writes p ≡ row_writes q
writes-same p q e = ap row_writes (sym ((row-decided q p).0 e))
