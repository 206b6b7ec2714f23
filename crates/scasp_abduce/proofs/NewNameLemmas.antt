-- New names are not taken, and so many tries as names are taken are enough.
use Rattle.std.proofs.Common.{◌≡◌, ℕ, zero, suc, ◌+◌, ◌<◌, ◌≤◌, Bool, true, false, ◌||◌, cond, List, [], ◌∷◌, ◌++◌, codes, length, Some, slice_get, refl, ap, sym, subst, ◌∙◌, arith, inl, inr, length-append, add-one}
use Rattle.std.specs.Prelude.{nat_eq, nat_le, nat_lt}
use Rattle.std.specs.List.{Contains, count_by}
use Rattle.std.specs.Str.{bytes_eq}
use Rattle.std.proofs.lemmas.Bool.{true≢false, cases_Bool, cond-true, cond-false, or_cases, or_parts, or_from, or_left, or_right, le-leb, leb-true, leb-false, ltb-true, lt-ltb, false_from_ne_true, eqb-true, eq-eqb}
use Rattle.std.proofs.lemmas.List.Folds.{list_any-append}
use Rattle.std.proofs.lemmas.List.Sums.{count_by-le-length}
use Rattle.std.proofs.lemmas.Option.{slice_get_within}
use Rattle.std.proofs.lemmas.Slice.Eq.{bytes_eq-Decides}
use Rattle.scasp_list.proofs.MemberLemmas.{list_any-member, list_any-from, count-lt}
use Rattle.scasp_name.specs.Texts.{AreDistinct, has_text, with_text}
use Rattle.scasp_name.proofs.TextLemmas.{has_text-at, place_of_text, slice_get-with_text}
use Rattle.scasp_abduce.specs.NewNames.{place_of, or_empty, text_of, Named, named, negated, new_name}
use Rattle.scasp_abduce.specs.Occurrences.{has}

-- ---- lists of numbers

pub has-from : (ns : List ℕ) (n : ℕ) → has ns n ≡ true → Contains ns n
has-from ns n h =
    let q = list_any-member (nat_eq n) ns h in
    subst (λ (k : ℕ). Contains ns k) (sym (eqb-true n q.0 q.2)) q.1

pub has-in : (ns : List ℕ) (n : ℕ) → Contains ns n → has ns n ≡ true
has-in ns n i = list_any-from (nat_eq n) ns n i (eq-eqb n n refl)

-- the same numbers are in both lists
abbrev pub SameNumbers : List ℕ → List ℕ → Type 0
SameNumbers ns ks = (n : ℕ) → has ns n ≡ has ks n

-- ---- places of texts

same_text : (text : List ℕ) → bytes_eq text text ≡ true
same_text text = (bytes_eq-Decides text text).1 refl

pub text-at_place : (names : List (List ℕ)) (text : List ℕ) → has_text names text ≡ true → slice_get names (place_of names text) ≡ Some text
text-at_place [] text h = absurd (true≢false (sym h))
text-at_place (t ∷ names) text h = by (bytes_eq text t) refl (λ i. text-at_place names text i)
  where
    other : bytes_eq text t ≡ false → has_text names text ≡ true
    other e =
        elim (or_cases (bytes_eq text t) (has_text names text) h) [
          | inl i ↦ absurd (true≢false (sym i ∙ e))
          | inr i ↦ i
        ]

    by : (b : Bool) → bytes_eq text t ≡ b → (has_text names text ≡ true → slice_get names (place_of names text) ≡ Some text) → slice_get (t ∷ names) (cond b 0 (place_of names text + 1)) ≡ Some text
    by true e rest = ap Some (sym ((bytes_eq-Decides text t).0 e))
    by false e rest = rw add-one (rest (other e))

place-behind : (names : List (List ℕ)) (text : List ℕ) → has_text names text ≡ false → place_of (names ++ text ∷ []) text ≡ length names
place-behind [] text h = cond-true (bytes_eq text text) 0 (place_of [] text + 1) (same_text text)
place-behind (t ∷ names) text h =
    let p = or_parts (bytes_eq text t) (has_text names text) h in
    let rest : place_of (names ++ text ∷ []) text ≡ length names = place-behind names text p.1 in
    cond-false (bytes_eq text t) 0 (place_of (names ++ text ∷ []) text + 1) p.0 ∙ (omega (arith, rest))

-- a text that is put into a table stands there, at a new place where the table had it not
record IsPut (names : List (List ℕ)) (text : List ℕ) (table : List (List ℕ)) : Type 0 where
  pub stands : slice_get table (place_of table text) ≡ Some text
  pub longer : length names ≤ length table
  pub before : length names ≤ place_of table text → place_of table text ≡ length names
  pub old : has_text names text ≡ true → slice_get names (place_of table text) ≡ Some text
  pub new : has_text names text ≡ false → place_of table text ≡ length names

put : (names : List (List ℕ)) (text : List ℕ) → IsPut names text (with_text names text)
put names text = by (has_text names text) refl
  where
    behind : has_text names text ≡ false → has_text (names ++ text ∷ []) text ≡ true
    behind e =
        list_any-append (bytes_eq text) names (text ∷ [])
        ∙ or_right (has_text names text) (has_text (text ∷ []) text) (or_left (bytes_eq text text) false (same_text text))

    by : (b : Bool) → has_text names text ≡ b → IsPut names text (cond b names (names ++ text ∷ []))
    by true e =
        let at = text-at_place names text e in
        let within : place_of names text < length names = slice_get_within names (place_of names text) text at in
        record {
          stands = at;
          longer = omega arith;
          before = λ low. absurd (omega (arith, low, within));
          old = λ h. at;
          new = λ h. absurd (true≢false (sym e ∙ h));
        }
    by false e =
        let place = place-behind names text e in
        record {
          stands = text-at_place (names ++ text ∷ []) text (behind e);
          longer = omega (arith, length-append names (text ∷ []));
          before = λ low. place;
          old = λ h. absurd (true≢false (sym h ∙ e));
          new = λ h. place;
        }

pub text_of-at : (names : List (List ℕ)) (n : ℕ) (text : List ℕ) → slice_get names n ≡ Some text → text_of names n ≡ text
text_of-at names n text e = rw e refl

-- ---- names that a longer text may still meet: those that the table lacks, and those of longer texts

abbrev pub is_open : List (List ℕ) → List ℕ → ℕ → Bool
is_open names text n = nat_le (length names) n || nat_lt (length text) (length (text_of names n))

module _ (names : List (List ℕ)) (text next : List ℕ) (longer : length text < length next) where
  abbrev table : List (List ℕ)
  table = with_text names next

  abbrev place : ℕ
  place = place_of table next

  -- the name of the next text is open before
  pub open-before : is_open names text place ≡ true
  open-before =
      elim (cases_Bool (has_text names next)) [
        | inl e ↦
            (let at : text_of names place ≡ next = text_of-at names place next ((put names next).old e) in
            let more : length text < length (text_of names place) = omega (arith, longer, ap length at) in
            or_right (nat_le (length names) place) (nat_lt (length text) (length (text_of names place))) (lt-ltb (length text) (length (text_of names place)) more))
        | inr e ↦
            (let last : place ≡ length names = (put names next).new e in
            or_left (nat_le (length names) place) (nat_lt (length text) (length (text_of names place))) (le-leb (length names) place (omega (arith, last))))
      ]

  -- and not behind
  pub open-no_more : is_open table next place ≡ false
  open-no_more =
      let at : text_of table place ≡ next = text_of-at table place next (put names next).stands in
      let within : place < length table = slice_get_within table place next (put names next).stands in
      or_from (nat_le (length table) place) (nat_lt (length next) (length (text_of table place)))
      (false_from_ne_true (nat_le (length table) place) (λ h. let low = leb-true (length table) place h in absurd (omega (arith, low, within))))
      (false_from_ne_true (nat_lt (length next) (length (text_of table place)))
      (λ h. let low = ltb-true (length next) (length (text_of table place)) h in absurd (omega (arith, low, ap length at))))

  -- and no other is open behind that was not before
  pub open-fewer : (n : ℕ) → is_open table next n ≡ true → is_open names text n ≡ true
  open-fewer n h =
      elim (cases_Bool (nat_le (length names) n)) [
        | inl e ↦ or_left (nat_le (length names) n) (nat_lt (length text) (length (text_of names n))) e
        | inr e ↦
            elim (or_cases (nat_le (length table) n) (nat_lt (length next) (length (text_of table n))) h) [
              | inl i ↦
                  (let low = leb-true (length table) n i in
                  let more = (put names next).longer in
                  let some : length names ≤ n = omega (arith, low, more) in
                  or_left (nat_le (length names) n) (nat_lt (length text) (length (text_of names n))) (le-leb (length names) n some))
              | inr i ↦
                  (let low = ltb-true (length next) (length (text_of table n)) i in
                  let within : n < length names = leb-false (length names) n e in
                  let same : text_of table n ≡ text_of names n = ap or_empty (slice_get-with_text names next n within) in
                  let more : length text < length (text_of names n) = omega (arith, low, longer, ap length same) in
                  or_right (nat_le (length names) n) (nat_lt (length text) (length (text_of names n))) (lt-ltb (length text) (length (text_of names n)) more))
            ]
      ]

  -- fewer of the taken names are open where the next is taken
  pub open-falls : (taken : List ℕ) → has taken place ≡ true → count_by (is_open table next) taken < count_by (is_open names text) taken
  open-falls taken h = count-lt (is_open table next) (is_open names text) open-fewer taken place (has-from taken place h) open-no_more open-before

-- ---- the tries

-- the text with `no ` in front is longer
negated-longer : (text : List ℕ) → length text < length (negated text)
negated-longer text = let three : length (codes "no ") ≡ 3 = refl in omega (arith, three, length-append (codes "no ") text)

-- the names that are open, of those taken
abbrev pub open_taken : List ℕ → List (List ℕ) → List ℕ → ℕ
open_taken taken names text = count_by (is_open names text) taken

pub falls : (taken : List ℕ) (names : List (List ℕ)) (text : List ℕ) → has taken (named names (negated text)).name ≡ true → open_taken taken (named names (negated text)).names (negated text) < open_taken taken names text
falls taken names text h = open-falls names text (negated text) (negated-longer text) taken h

pub new_name-free : (taken : List ℕ) (tries : ℕ) (names : List (List ℕ)) (text : List ℕ) → open_taken taken names text ≤ tries → has taken (new_name taken tries names text).name ≡ false
new_name-free taken zero names text few =
    false_from_ne_true (has taken (named names (negated text)).name) (λ h. let less = falls taken names text h in absurd (omega (arith, few, less)))
new_name-free taken (suc tries) names text few =
    by (has taken (named names (negated text)).name) refl (λ h. new_name-free taken tries (named names (negated text)).names (negated text) h)
  where
    by : (b : Bool) → has taken (named names (negated text)).name ≡ b
        → (open_taken taken (named names (negated text)).names (negated text) ≤ tries → has taken (new_name taken tries (named names (negated text)).names (negated text)).name ≡ false)
        → has taken (cond b (new_name taken tries (named names (negated text)).names (negated text)) (named names (negated text))).name ≡ false
    by true e later = let less = falls taken names text e in later (omega (arith, few, less))
    by false e later = e

-- where the next name is free it is the new one, whatever the tries
pub new_name-stops : (taken : List ℕ) (tries : ℕ) (names : List (List ℕ)) (text : List ℕ) → has taken (named names (negated text)).name ≡ false → new_name taken tries names text ≡ named names (negated text)
new_name-stops taken zero names text e = refl
new_name-stops taken (suc tries) names text e =
    cond-false (has taken (named names (negated text)).name) (new_name taken tries (named names (negated text)).names (negated text)) (named names (negated text)) e

pub new_name-enough : (taken : List ℕ) (more few : ℕ) (names : List (List ℕ)) (text : List ℕ) → open_taken taken names text ≤ more → open_taken taken names text ≤ few → new_name taken more names text ≡ new_name taken few names text
new_name-enough taken zero few names text h k =
    sym (new_name-stops taken few names text
    (false_from_ne_true (has taken (named names (negated text)).name) (λ i. let less = falls taken names text i in absurd (omega (arith, h, less)))))
new_name-enough taken (suc more) zero names text h k =
    new_name-stops taken (suc more) names text
    (false_from_ne_true (has taken (named names (negated text)).name) (λ i. let less = falls taken names text i in absurd (omega (arith, k, less))))
new_name-enough taken (suc more) (suc few) names text h k =
    by (has taken (named names (negated text)).name) refl (λ i j. new_name-enough taken more few (named names (negated text)).names (negated text) i j)
  where
    by : (b : Bool) → has taken (named names (negated text)).name ≡ b
        → (open_taken taken (named names (negated text)).names (negated text) ≤ more → open_taken taken (named names (negated text)).names (negated text) ≤ few
        → new_name taken more (named names (negated text)).names (negated text) ≡ new_name taken few (named names (negated text)).names (negated text))
        → cond b (new_name taken more (named names (negated text)).names (negated text)) (named names (negated text))
        ≡ cond b (new_name taken few (named names (negated text)).names (negated text)) (named names (negated text))
    by true e later = let less = falls taken names text e in later (omega (arith, h, less)) (omega (arith, k, less))
    by false e later = refl

few-open : (taken : List ℕ) (names : List (List ℕ)) (text : List ℕ) → open_taken taken names text ≤ length taken
few-open taken names text = count_by-le-length (is_open names text) taken

-- one try
pub new_name-next : (taken : List ℕ) (names : List (List ℕ)) (text : List ℕ) → has taken (named names (negated text)).name ≡ true → new_name taken (length taken) names text ≡ new_name taken (length taken) (named names (negated text)).names (negated text)
new_name-next taken names text h = by (length taken) refl
  where
    by : (n : ℕ) → length taken ≡ n → new_name taken n names text ≡ new_name taken n (named names (negated text)).names (negated text)
    by zero e =
        let less = falls taken names text h in
        let few = few-open taken names text in
        absurd (omega (arith, e, less, few))
    by (suc n) e =
        let less = falls taken names text h in
        let few = few-open taken names text in
        cond-true (has taken (named names (negated text)).name) (new_name taken n (named names (negated text)).names (negated text)) (named names (negated text)) h
        ∙ new_name-enough taken n (suc n) (named names (negated text)).names (negated text) (omega (arith, e, less, few)) (omega (arith, e, less, few))

pub new_name-is_free : (taken : List ℕ) (names : List (List ℕ)) (text : List ℕ) → has taken (new_name taken (length taken) names text).name ≡ false
new_name-is_free taken names text = new_name-free taken (length taken) names text (few-open taken names text)

-- it depends on the numbers alone that are taken
same-tries : (ns ks : List ℕ) → SameNumbers ns ks → (tries : ℕ) (names : List (List ℕ)) (text : List ℕ) → new_name ns tries names text ≡ new_name ks tries names text
same-tries ns ks s zero names text = refl
same-tries ns ks s (suc tries) names text =
    let next = named names (negated text) in
    ap (λ b. cond b (new_name ns tries next.names (negated text)) next) (s next.name)
    ∙ ap (λ z. cond (has ks next.name) z next) (same-tries ns ks s tries next.names (negated text))

pub new_name-same : (ns ks : List ℕ) → SameNumbers ns ks → (names : List (List ℕ)) (text : List ℕ) → new_name ns (length ns) names text ≡ new_name ks (length ks) names text
new_name-same ns ks s names text =
    let few = few-open ns names text in
    let all = few-open ks names text in
    new_name-enough ns (length ns) (length ns + length ks) names text few (omega (arith, few))
    ∙ same-tries ns ks s (length ns + length ks) names text
    ∙ new_name-enough ks (length ns + length ks) (length ks) names text (omega (arith, all)) all

-- ---- a table that was given a text

abbrev pub name_in : List (List ℕ) → ℕ → Named
name_in names n = record { names = names; name = n }

pub put-named : (names table : List (List ℕ)) (text next : List ℕ) (n : ℕ) → table ≡ with_text names next → next ≡ negated text → slice_get table n ≡ Some next → AreDistinct table → record { names = table; name = n } ≡ named names (negated text)
put-named names table text next n e f at distinct =
    let place : n ≡ place_of table next =
    place_of_text table next n (place_of table next) distinct at (text-at_place table next (has_text-at table next n at)) in
    ap (name_in table) place ∙ ap (λ t. name_in t (place_of t next)) e ∙ ap (named names) f

-- one try: what was made of the text is put into the table
pub put-made : (names table : List (List ℕ)) (text seen made next : List ℕ) (n : ℕ) → seen ≡ text → made ≡ negated seen → next ≡ made → table ≡ with_text names next → slice_get table n ≡ Some next → AreDistinct table → name_in table n ≡ named names (negated text)
put-made names table text seen made next n a b c e at distinct =
    put-named names table text next n e (c ∙ b ∙ ap negated a) at distinct

module _ (taken : List ℕ) (names table : List (List ℕ)) (text made : List ℕ) (n : ℕ) (put : name_in table n ≡ named names (negated text)) (same : made ≡ negated text) where
  abbrev next_table : List (List ℕ)
  next_table = (named names (negated text)).names

  has-put : has taken (named names (negated text)).name ≡ has taken n
  has-put = ap (λ (w : Named). has taken w.name) (sym put)

  pub try-goes_on : has taken n ≡ true → new_name taken (length taken) table made ≡ new_name taken (length taken) names text
  try-goes_on h =
      ap (λ (w : Named). new_name taken (length taken) w.names made) put
      ∙ ap (new_name taken (length taken) next_table) same
      ∙ sym (new_name-next taken names text (has-put ∙ h))

  pub try-falls : has taken n ≡ true → open_taken taken table made < open_taken taken names text
  try-falls h =
      let e : open_taken taken table made ≡ open_taken taken next_table (negated text) =
      ap (λ (w : Named). open_taken taken w.names made) put ∙ ap (open_taken taken next_table) same in
      subst (λ (k : ℕ). k < open_taken taken names text) (sym e) (falls taken names text (has-put ∙ h))

  pub try-stops : has taken n ≡ false → name_in table n ≡ new_name taken (length taken) names text
  try-stops h = put ∙ sym (new_name-stops taken (length taken) names text (has-put ∙ h))
