-- Names of a style have their places in its table, and variables their numbers.
use Rattle.std.proofs.Common.{◌≡◌, ℕ, zero, suc, ◌+◌, ◌<◌, Bool, true, false, not, ◌&&◌, ◌||◌, nat_lt, List, [], ◌∷◌, ◌++◌, length, take, codes, slice_get, None, Some, refl, sym, ap, ◌∙◌, arith}
use Rattle.std.specs.Prelude.{unwrap_or}
use Rattle.std.specs.List.{position_from}
use Rattle.std.specs.Str.{IsUtf8, bytes_eq}
use Rattle.std.proofs.lemmas.Bool.{and_parts, false≢true}
use Rattle.std.proofs.lemmas.Bool.Decides.{nat_tests}
use Rattle.std.proofs.lemmas.List.{length-take-le, take_more}
use Rattle.std.proofs.lemmas.Option.{slice_get-get_or, unwrap_or-slice_get}
use Rattle.std.proofs.lemmas.Slice.Eq.{bytes_eq-Decides}
use Rattle.scasp_list.proofs.EachLemmas.{Each-at}
use Rattle.scasp_name.specs.Texts.{has_text, with_text}
use Rattle.scasp_name.proofs.TextLemmas.{has_text-at, with_text-at}
use Rattle.scasp_cert.specs.Text.Names.{text_at, name_text, quoted_text}
use Rattle.scasp_reader_terms.specs.Names.{place_in, known_variable}
use Rattle.scasp_reader_terms.proofs.Places.{place_in-at}
use Rattle.scasp_print_program.specs.Terms.{Style, variable_text}
use Rattle.scasp_law_program_text.specs.Readback.Endings.{is_variable_text}
use Rattle.scasp_law_program_text.specs.CompoundReadback.Styles.{is_anonymous, are_variables, IsStyle}

at-place : (texts : List (List ℕ)) (i : ℕ) → nat_lt i (length texts) ≡ true → slice_get texts i ≡ Some (unwrap_or (slice_get texts i) [])
at-place texts i h =
    let below : i < length texts = grind (arith, nat_tests) in
    slice_get-get_or texts i [] below ∙ ap Some (sym (unwrap_or-slice_get texts i []))

-- ---- names

module _ (w : Style) (style : IsStyle w) (f : ℕ) (h : nat_lt f (length w.names) ≡ true) where
  pub name-utf8 : IsUtf8 (text_at w.names f)
  name-utf8 = Each-at IsUtf8 w.names f (text_at w.names f) style.table.utf8 (sym (at-place w.names f h))

  pub name-place : place_in w.names (text_at w.names f) ≡ f
  name-place = sym (place_in-at w.names (text_at w.names f) f style.table.distinct (at-place w.names f h))

  pub name-there : with_text w.names (text_at w.names f) ≡ w.names
  name-there = sym (with_text-at w.names (text_at w.names f) f (at-place w.names f h))

-- the name of the empty list needs quotes
pub list-name : (w : Style) → IsStyle w → name_text w.names 0 ≡ codes "'[]'"
list-name w style = ap (λ o. quoted_text (unwrap_or o [])) style.table.lists.nil

-- ---- variables

parts : (text : List ℕ) (texts : List (List ℕ)) → are_variables (text ∷ texts) ≡ true
    → (is_variable_text text ≡ true) × ((is_anonymous text || not (has_text texts text)) ≡ true) × (are_variables texts ≡ true)
parts text texts v =
    let p = and_parts (is_variable_text text && (is_anonymous text || not (has_text texts text))) (are_variables texts) v in
    let q = and_parts (is_variable_text text) (is_anonymous text || not (has_text texts text)) p.0 in
    (q.0, q.1, p.1)

none-below : (i : ℕ) → nat_lt i 0 ≡ true → ⊥
none-below i h = grind (arith, nat_tests)

one-below : (i n : ℕ) → nat_lt (suc i) (suc n) ≡ true → nat_lt i n ≡ true
one-below i n h = grind (arith, nat_tests)

text-at : (texts : List (List ℕ)) (x : ℕ) → are_variables texts ≡ true → nat_lt x (length texts) ≡ true → is_variable_text (unwrap_or (slice_get texts x) []) ≡ true
text-at [] x v h = absurd (none-below x h)
text-at (t ∷ texts) zero v h = (parts t texts v).0
text-at (t ∷ texts) (suc x) v h = text-at texts x (parts t texts v).2 (one-below x (length texts) h)

-- a later text is another one
later-text : (t : List ℕ) (texts : List (List ℕ)) (x : ℕ) (text : List ℕ) → (is_anonymous t || not (has_text texts t)) ≡ true → is_anonymous text ≡ false → slice_get texts x ≡ Some text
    → bytes_eq text t ≡ false
later-text t texts x text v a e = by (bytes_eq text t) refl
  where
    by : (b : Bool) → bytes_eq text t ≡ b → bytes_eq text t ≡ false
    by false q = q
    by true q =
        let same : text ≡ t = (bytes_eq-Decides text t).0 q in
        let there : has_text texts t ≡ true = has_text-at texts t x (e ∙ ap Some same) in
        let named : is_anonymous t ≡ false = ap is_anonymous (sym same) ∙ a in
        absurd (false≢true (sym (ap (λ b. b || not (has_text texts t)) named ∙ ap (λ b. false || not b) there) ∙ v))

known-place : (texts : List (List ℕ)) (n x i : ℕ) (text : List ℕ) → are_variables texts ≡ true → is_anonymous text ≡ false → slice_get texts x ≡ Some text → x < n
    → position_from (bytes_eq text) i (take n texts) ≡ Some (i + x)
known-place [] n x i text v a e h = cc
known-place (t ∷ texts) zero x i text v a e h = absurd (omega arith)
known-place (t ∷ texts) (suc n) zero i text v a e h =
    let same : t ≡ text = cc in
    let first : i ≡ i + 0 = omega arith in rw (ap (bytes_eq text) same ∙ (bytes_eq-Decides text text).1 refl) (ap Some first)
known-place (t ∷ texts) (suc n) (suc x) i text v a e h =
    let p = parts t texts v in
    let place : i + 1 + x ≡ i + suc x = omega arith in
    rw (later-text t texts x text p.1 a e) (known-place texts n x (i + 1) text p.2 a e (omega arith) ∙ ap Some place)

not-yet : (texts : List (List ℕ)) (n i : ℕ) (text : List ℕ) → are_variables texts ≡ true → is_anonymous text ≡ false → slice_get texts n ≡ Some text → position_from (bytes_eq text) i (take n texts) ≡ None
not-yet [] n i text v a e = cc
not-yet (t ∷ texts) zero i text v a e = refl
not-yet (t ∷ texts) (suc n) i text v a e = let p = parts t texts v in rw (later-text t texts n text p.1 a e) (not-yet texts n (i + 1) text p.2 a e)

module _ (w : Style) (style : IsStyle w) (x : ℕ) (h : nat_lt x (length w.variables) ≡ true) where
  pub variable-is : is_variable_text (variable_text w x) ≡ true
  variable-is = text-at w.variables x style.variables h

  -- a variable that the clause has had
  pub variable-known : (n : ℕ) → x < n → is_anonymous (variable_text w x) ≡ false → known_variable (variable_text w x) (take n w.variables) ≡ Some x
  variable-known n below a =
      let first : 0 + x ≡ x = omega arith in
      rw a (known-place w.variables n x 0 (variable_text w x) style.variables a (at-place w.variables x h) below ∙ ap Some first)

  -- the next one
  pub variable-new : known_variable (variable_text w x) (take x w.variables) ≡ None
  variable-new = by (is_anonymous (variable_text w x)) refl
    where
      by : (b : Bool) → is_anonymous (variable_text w x) ≡ b → known_variable (variable_text w x) (take x w.variables) ≡ None
      by true a = rw a refl
      by false a = rw a (not-yet w.variables x 0 (variable_text w x) style.variables a (at-place w.variables x h))

  pub variables-had : length (take x w.variables) ≡ x
  variables-had = let below : x < length w.variables = grind (arith, nat_tests) in length-take-le x w.variables (omega arith)

  pub variables-more : take x w.variables ++ variable_text w x ∷ [] ≡ take (x + 1) w.variables
  variables-more =
      let below : x < length w.variables = grind (arith, nat_tests) in
      ap (λ t. take x w.variables ++ t ∷ []) (unwrap_or-slice_get w.variables x []) ∙ sym (take_more w.variables x [] below)
