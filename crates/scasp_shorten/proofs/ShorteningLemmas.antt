-- A list without what the rest of it tells, tells the same.
use Rattle.std.proofs.Common.{◌≡◌, ℕ, Bool, true, false, not, ◌&&◌, ◌||◌, List, [], ◌∷◌, ◌++◌, append_assoc, append-nil, refl, sym, ap, subst, ◌∙◌}
use Rattle.std.specs.Prelude.{if◌then◌else◌, filter}
use Rattle.std.specs.List.{list_all, list_any}
use Rattle.std.proofs.lemmas.Bool.{and_from, and_parts}
use Rattle.std.proofs.lemmas.List.Folds.{list_all-append}
use Rattle.scasp_list.specs.Each.{Each}
use Rattle.scasp_list.proofs.EachLemmas.{Each-append, Each-filter}
use Rattle.scasp_syntax.specs.Constraints.{holds}
use Rattle.scasp_syntax.specs.Values.{Sub, Valuation}
use Rattle.scasp_syntax.specs.declared.con.Con.{Con}
use Rattle.scasp_syntax.specs.declared.con.Con.TheVariants as con
use Rattle.scasp_syntax.specs.declared.term.Term.{Term}
use Rattle.scasp_syntax.specs.declared.term.Term.TheVariants as term
use Rattle.scasp_hint.specs.AskedRows.{RowsNormal}
use Rattle.scasp_shorten.specs.Following.{is_row_of}
use Rattle.scasp_shorten.specs.Shortest.{is_test, is_told, is_told_by_rows, shortened, without_tests}
use Rattle.scasp_shorten.specs.Told.{tells, tells_all}
use Rattle.scasp_shorten.specs.declared.shortening.Means.{Means}
use Rattle.scasp_shorten.proofs.EvidentLemmas.{means-told}
use Rattle.scasp_shorten.proofs.FollowingLemmas.{rows-told}
use Rattle.scasp_shorten.proofs.RowsLemmas.{normal-append, normal-left, normal-right}

pub same-test : (a b : Bool) → (a ≡ true → b ≡ true) → (b ≡ true → a ≡ true) → a ≡ b
same-test true b f g = sym (f refl)
same-test false true f g = g refl
same-test false false f g = refl

-- ---- what others tell

inserted : (a x r : Bool) → ((a && r) ≡ true → x ≡ true) → (a && (x && r)) ≡ (a && r)
inserted true true r h = refl
inserted true false true h = h refl
inserted true false false h = refl
inserted false x r h = refl

-- what the others tell adds nothing to them
needless : (v : Sub) (before rest : List Con) (c : Con) → (tells_all v (before ++ rest) ≡ true → tells v c ≡ true) → tells_all v (before ++ c ∷ rest) ≡ tells_all v (before ++ rest)
needless v before rest c h =
    let whole = list_all-append (tells v) before rest in
    list_all-append (tells v) before (c ∷ rest)
    ∙ inserted (tells_all v before) (tells v c) (tells_all v rest) (λ e. h (whole ∙ e))
    ∙ sym whole

pub shortened-told : (m : Means) (before rest : List Con) (v : Valuation) → RowsNormal (before ++ rest) → tells_all v.of (shortened m before rest) ≡ tells_all v.of (before ++ rest)
shortened-told m before [] v n = ap (tells_all v.of) (sym (append-nil before))
shortened-told m before (c ∷ rest) v n = by (not (is_test c) && is_told m (before ++ rest) c) refl (shortened-told m before rest v) (shortened-told m (before ++ c ∷ []) rest v)
  where
    behind : RowsNormal (c ∷ rest)
    behind = normal-right before (c ∷ rest) n

    without : RowsNormal (before ++ rest)
    without = normal-append before rest (normal-left before (c ∷ rest) n) (normal-right (c ∷ []) rest behind)

    step : Bool → List Con
    step b = if b then shortened m before rest else shortened m (before ++ c ∷ []) rest

    by : (b : Bool) → (not (is_test c) && is_told m (before ++ rest) c) ≡ b
        → (RowsNormal (before ++ rest) → tells_all v.of (shortened m before rest) ≡ tells_all v.of (before ++ rest))
        → (RowsNormal ((before ++ c ∷ []) ++ rest) → tells_all v.of (shortened m (before ++ c ∷ []) rest) ≡ tells_all v.of ((before ++ c ∷ []) ++ rest))
        → tells_all v.of (shortened m before (c ∷ rest)) ≡ tells_all v.of (before ++ c ∷ rest)
    by true p gone kept =
        ap (λ b. tells_all v.of (step b)) p
        ∙ gone without
        ∙ sym (needless v.of before rest c (means-told m (before ++ rest) c v without (normal-left (c ∷ []) rest behind) (and_parts (not (is_test c)) (is_told m (before ++ rest) c) p).1))
    by false p gone kept =
        ap (λ b. tells_all v.of (step b)) p
        ∙ kept (subst (λ (cs : List Con). RowsNormal cs) (sym (append_assoc before (c ∷ []) rest)) n)
        ∙ ap (tells_all v.of) (append_assoc before (c ∷ []) rest)

pub shortened-each : (P : Con → Type 0) (m : Means) (before rest : List Con) → Each P before → Each P rest → Each P (shortened m before rest)
shortened-each P m before [] a b = a
shortened-each P m before (c ∷ rest) a b =
    by (not (is_test c) && is_told m (before ++ rest) c) refl (shortened-each P m before rest a b.1) (shortened-each P m (before ++ c ∷ []) rest (Each-append P before (c ∷ []) a (b.0, tt)) b.1)
  where
    by : (b : Bool) → (not (is_test c) && is_told m (before ++ rest) c) ≡ b → Each P (shortened m before rest) → Each P (shortened m (before ++ c ∷ []) rest) → Each P (shortened m before (c ∷ rest))
    by true p gone kept = subst (λ (x : Bool). Each P (if x then shortened m before rest else shortened m (before ++ c ∷ []) rest)) (sym p) gone
    by false p gone kept = subst (λ (x : Bool). Each P (if x then shortened m before rest else shortened m (before ++ c ∷ []) rest)) (sym p) kept

-- ---- number tests

-- a row stays
row-stays : (cs ds : List Con) (x : ℕ) → list_any (is_row_of x) (filter (λ c. not (is_told_by_rows cs c)) ds) ≡ list_any (is_row_of x) ds
row-stays cs [] x = refl
row-stays cs (con.Row r ∷ ds) x = ap (λ b. is_row_of x (con.Row r) || b) (row-stays cs ds x)
row-stays cs (con.Eq t u ∷ ds) x = row-stays cs ds x
row-stays cs (con.Neq t u ∷ ds) x = row-stays cs ds x
row-stays cs (con.NotShape y f n ∷ ds) x = row-stays cs ds x
row-stays cs (con.NotNum t ∷ ds) x = row-stays cs ds x
row-stays cs (con.Num t ∷ ds) x = by (is_told_by_rows cs (con.Num t)) refl (row-stays cs ds x)
  where
    by : (b : Bool) → is_told_by_rows cs (con.Num t) ≡ b → list_any (is_row_of x) (filter (λ c. not (is_told_by_rows cs c)) ds) ≡ list_any (is_row_of x) ds → list_any (is_row_of x) (filter (λ c. not (is_told_by_rows cs c)) (con.Num t ∷ ds)) ≡ list_any (is_row_of x) ds
    by true p rest = ap (λ b. list_any (is_row_of x) (if not b then con.Num t ∷ filter (λ c. not (is_told_by_rows cs c)) ds else filter (λ c. not (is_told_by_rows cs c)) ds)) p ∙ rest
    by false p rest = ap (λ b. list_any (is_row_of x) (if not b then con.Num t ∷ filter (λ c. not (is_told_by_rows cs c)) ds else filter (λ c. not (is_told_by_rows cs c)) ds)) p ∙ rest

test-told : (v : Sub) (cs : List Con) (t : Term) → tells_all v (without_tests cs) ≡ true → is_told_by_rows cs (con.Num t) ≡ true → holds v (con.Num t) ≡ true
test-told v cs (term.Var x) m e = rows-told v (without_tests cs) x m (row-stays cs cs x ∙ e)
test-told v cs (term.Num q) m e = refl
test-told v cs (term.App f ts) m e = cc

dropped-told : (v : Sub) (cs : List Con) (c : Con) → tells_all v (without_tests cs) ≡ true → is_told_by_rows cs c ≡ true → tells v c ≡ true
dropped-told v cs (con.Num t) m e = test-told v cs t m e
dropped-told v cs (con.Row r) m e = cc
dropped-told v cs (con.Eq t u) m e = cc
dropped-told v cs (con.Neq t u) m e = cc
dropped-told v cs (con.NotShape x f n) m e = cc
dropped-told v cs (con.NotNum t) m e = cc

-- all is told where what stays is
all-told : (v : Sub) (cs ds : List Con) → tells_all v (without_tests cs) ≡ true → tells_all v (filter (λ c. not (is_told_by_rows cs c)) ds) ≡ true → tells_all v ds ≡ true
all-told v cs [] m e = refl
all-told v cs (c ∷ ds) m e = by (is_told_by_rows cs c) refl (all-told v cs ds m)
  where
    stay : List Con
    stay = filter (λ d. not (is_told_by_rows cs d)) ds

    by : (b : Bool) → is_told_by_rows cs c ≡ b → (tells_all v stay ≡ true → tells_all v ds ≡ true) → tells_all v (c ∷ ds) ≡ true
    by true p rest = and_from (tells v c) (tells_all v ds) (dropped-told v cs c m p) (rest (sym (ap (λ b. tells_all v (if not b then c ∷ stay else stay)) p) ∙ e))
    by false p rest =
        let q = and_parts (tells v c) (tells_all v stay) (sym (ap (λ b. tells_all v (if not b then c ∷ stay else stay)) p) ∙ e) in
        and_from (tells v c) (tells_all v ds) q.0 (rest q.1)

pub all-filter : (p test : Con → Bool) (cs : List Con) → list_all p cs ≡ true → list_all p (filter test cs) ≡ true
all-filter p test [] m = refl
all-filter p test (c ∷ cs) m = by (test c) refl (all-filter p test cs)
  where
    q : (p c ≡ true) × (list_all p cs ≡ true)
    q = and_parts (p c) (list_all p cs) m

    by : (b : Bool) → test c ≡ b → (list_all p cs ≡ true → list_all p (filter test cs) ≡ true) → list_all p (filter test (c ∷ cs)) ≡ true
    by true e rest = ap (λ b. list_all p (if b then c ∷ filter test cs else filter test cs)) e ∙ and_from (p c) (list_all p (filter test cs)) q.0 (rest q.1)
    by false e rest = ap (λ b. list_all p (if b then c ∷ filter test cs else filter test cs)) e ∙ rest q.1

pub without-told : (v : Sub) (cs : List Con) → tells_all v (without_tests cs) ≡ tells_all v cs
without-told v cs = same-test (tells_all v (without_tests cs)) (tells_all v cs) (λ m. all-told v cs cs m m) (all-filter (tells v) (λ c. not (is_told_by_rows cs c)) cs)

pub without-each : (P : Con → Type 0) (cs : List Con) → Each P cs → Each P (without_tests cs)
without-each P cs a = Each-filter P (λ c. not (is_told_by_rows cs c)) cs a
