-- The first entry of a table whose text stands at the front of bytes.
use Rattle.std.proofs.Common.{◌≡◌, ℕ, ◌+◌, ◌<◌, Bool, true, false, cond, nat_eq, nat_lt, List, [], ◌∷◌, ◌++◌, length, drop, map, option_map, get_or, Option, None, Some, Bor, refl, subst, ◌∙◌, arith}
use Rattle.std.specs.List.{starts_with, list_all}
use Rattle.std.specs.Option.{IfSome}
use Rattle.std.proofs.lemmas.Bool.{and_parts}
use Rattle.std.proofs.lemmas.Bool.Decides.{nat_tests}
use Rattle.std.proofs.lemmas.List.{at_drop_more}
use Rattle.scasp_reader_tokens.specs.declared.sign.Sign.{Sign}
use Rattle.scasp_reader_tokens.specs.Signs.{Entry, entry, signs, entry_at}

-- a table as code has it
abbrev pub entries : List (Bor (List ℕ) × Sign) → List Entry
entries table = map (λ e. entry e.0.now e.1) table

module _ (table : List (Bor (List ℕ) × Sign)) (bytes : List ℕ) (i : ℕ) (d : Bor (List ℕ) × Sign) (h : i < length table) where
  pub entry_at-passed : starts_with nat_eq bytes (get_or table i d).0.now ≡ false → entry_at (entries (drop i table)) bytes ≡ entry_at (entries (drop (i + 1) table)) bytes
  entry_at-passed e = at_drop_more (λ es. entry_at (entries es) bytes) table i d h ∙ rw e refl

  pub entry_at-found : starts_with nat_eq bytes (get_or table i d).0.now ≡ true → entry_at (entries (drop i table)) bytes ≡ Some (entry (get_or table i d).0.now (get_or table i d).1)
  entry_at-found e = at_drop_more (λ es. entry_at (entries es) bytes) table i d h ∙ rw e refl

pub some_of : (entries : List Entry) (bytes : List ℕ) → list_all (λ e. nat_lt 0 (length e.text)) entries ≡ true → IfSome (option_map {U = Sign × ℕ} (λ e. (e.sign, length e.text)) (entry_at entries bytes)) (λ x. 0 < x.1)
some_of [] bytes h = tt
some_of (e ∷ entries) bytes h =
    let parts = and_parts (nat_lt 0 (length e.text)) (list_all (λ x. nat_lt 0 (length x.text)) entries) h in
    by (starts_with nat_eq bytes e.text) (grind (arith, nat_tests, parts.0)) (some_of entries bytes parts.1)
  where
    by : (t : Bool) → 0 < length e.text → IfSome (option_map {U = Sign × ℕ} (λ x. (x.sign, length x.text)) (entry_at entries bytes)) (λ x. 0 < x.1)
        → IfSome (option_map {U = Sign × ℕ} (λ x. (x.sign, length x.text)) (cond t (Some e) (entry_at entries bytes))) (λ x. 0 < x.1)
    by true some rest = some
    by false some rest = rest

pub sign-some : (bytes : List ℕ) → IfSome (option_map {U = Sign × ℕ} (λ e. (e.sign, length e.text)) (entry_at signs bytes)) (λ x. 0 < x.1)
sign-some bytes = some_of signs bytes refl

-- ---- a table in two parts

-- what is told of an entry
abbrev pub told : Option Entry → Option (Sign × ℕ)
told o = option_map (λ e. (e.sign, length e.text)) o

-- what holds of an entry that is told, told of none it is nothing
abbrev OfTold : (Sign × ℕ → Type 0) → Option (Sign × ℕ) → Type 0
OfTold P None = Unit
OfTold P (Some r) = P r

pub first_part : (es fs : List Entry) (bytes : List ℕ) (r : Sign × ℕ) → told (entry_at es bytes) ≡ Some r → told (entry_at (es ++ fs) bytes) ≡ Some r
first_part [] fs bytes r h = subst (OfTold (λ x. told (entry_at fs bytes) ≡ Some x)) h tt
first_part (e ∷ es) fs bytes r h = by (starts_with nat_eq bytes e.text) (first_part es fs bytes r) h
  where
    by : (t : Bool) → (told (entry_at es bytes) ≡ Some r → told (entry_at (es ++ fs) bytes) ≡ Some r)
        → told (cond t (Some e) (entry_at es bytes)) ≡ Some r → told (cond t (Some e) (entry_at (es ++ fs) bytes)) ≡ Some r
    by true below g = g
    by false below g = below g
