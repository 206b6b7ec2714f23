-- What is told of lists whose rows have number tests.
use Rattle.std.proofs.Common.{◌≡◌, true, List, [], ◌∷◌, refl}
use Rattle.std.specs.List.{list_all, list_any}
use Rattle.std.proofs.lemmas.Bool.{and_from, and_parts}
use Rattle.scasp_num.specs.declared.linear.Coeff.{Coeff}
use Rattle.scasp_syntax.specs.Constraints.{holds, is_number}
use Rattle.scasp_syntax.specs.RowTruth.{row_holds}
use Rattle.scasp_syntax.specs.Values.{Sub}
use Rattle.scasp_syntax.specs.declared.con.Con.{Con}
use Rattle.scasp_syntax.specs.declared.con.Con.TheVariants as con
use Rattle.scasp_shorten.specs.Following.{is_test_of}
use Rattle.scasp_shorten.specs.Told.{are_rows_tested, is_tested, tells, tells_all}
use Rattle.scasp_shorten.proofs.FollowingLemmas.{some-passes, test-holds, tells-meets}
use Rattle.scasp_shorten.proofs.ShorteningLemmas.{same-test}

numbers-hold : (v : Sub) (cs : List Con) (ks : List Coeff) → list_all (holds v) cs ≡ true → list_all (λ k. list_any (is_test_of k.x) cs) ks ≡ true → list_all (λ k. is_number (v k.x)) ks ≡ true
numbers-hold v cs [] m e = refl
numbers-hold v cs (k ∷ ks) m e =
    let p = and_parts (list_any (is_test_of k.x) cs) (list_all (λ j. list_any (is_test_of j.x) cs) ks) e in
    and_from (is_number (v k.x)) (list_all (λ j. is_number (v j.x)) ks) (some-passes (holds v) (is_number (v k.x) ≡ true) (is_test_of k.x) (λ c. test-holds v c k.x) cs m p.0) (numbers-hold v cs ks m p.1)

con-told : (v : Sub) (cs : List Con) (c : Con) → list_all (holds v) cs ≡ true → is_tested cs c ≡ true → holds v c ≡ true → tells v c ≡ true
con-told v cs (con.Row r) m e h = and_from (list_all (λ k. is_number (v k.x)) r.coeffs) (row_holds v r) (numbers-hold v cs r.coeffs m e) h
con-told v cs (con.Eq t u) m e h = h
con-told v cs (con.Neq t u) m e h = h
con-told v cs (con.NotShape x f n) m e h = h
con-told v cs (con.Num t) m e h = h
con-told v cs (con.NotNum t) m e h = h

each-told : (v : Sub) (cs ds : List Con) → list_all (holds v) cs ≡ true → list_all (is_tested cs) ds ≡ true → list_all (holds v) ds ≡ true → tells_all v ds ≡ true
each-told v cs [] m e h = refl
each-told v cs (d ∷ ds) m e h =
    let p = and_parts (is_tested cs d) (list_all (is_tested cs) ds) e in
    let q = and_parts (holds v d) (list_all (holds v) ds) h in
    and_from (tells v d) (tells_all v ds) (con-told v cs d m p.0 q.0) (each-told v cs ds m p.1 q.1)

pub tested-told : (v : Sub) (cs : List Con) → are_rows_tested cs ≡ true → tells_all v cs ≡ list_all (holds v) cs
tested-told v cs e = same-test (tells_all v cs) (list_all (holds v) cs) (tells-meets v cs) (λ m. each-told v cs cs m e m)
