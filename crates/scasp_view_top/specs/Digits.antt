-- The texts of some digits, for the examples.
use Rattle.std.proofs.Common.{lit<}
use Rattle.std.specs.Prelude.{◌≡◌, [], ◌∷◌, decimal}
use Rattle.std.proofs.lemmas.Fmt.{decimal_digit}

pub d0 : decimal 0 ≡ 48 ∷ []
d0 = decimal_digit 0 (lit< tt)

pub d1 : decimal 1 ≡ 49 ∷ []
d1 = decimal_digit 1 (lit< tt)

pub d2 : decimal 2 ≡ 50 ∷ []
d2 = decimal_digit 2 (lit< tt)

pub d3 : decimal 3 ≡ 51 ∷ []
d3 = decimal_digit 3 (lit< tt)

pub d4 : decimal 4 ≡ 52 ∷ []
d4 = decimal_digit 4 (lit< tt)

pub d5 : decimal 5 ≡ 53 ∷ []
d5 = decimal_digit 5 (lit< tt)

pub d9 : decimal 9 ≡ 57 ∷ []
d9 = decimal_digit 9 (lit< tt)
