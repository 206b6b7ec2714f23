-- The words of a line, and what moving a line makes of them.
use Rattle.std.proofs.Common.{inl, inr, ◌≡◌, ℕ, zero, suc, ◌+◌, ◌-◌, ◌*◌, ◌/◌, ◌%◌, ◌^◌, ◌<◌, ◌≤◌, ◌∙◌, Bool, true, false, ◌&&◌, List, [], ◌∷◌, ◌++◌, length, get_or, take, drop, reverse, refl, sym, ap, subst, arith, decimal}
use Rattle.std.specs.Prelude.{◌==◌, ◌⊎◌, nat_le, nat_lt, codes}
use Rattle.std.specs.List.{list_all, prefix_len}
use Rattle.std.specs.Str.{bytes_eq}
use Rattle.std.proofs.lemmas.Bool.{true≢false, and_parts, and_from, or_cases, or_left, or_right, and_right, cond-true, cond-false, eqb-true, leb-true, ltb-true, le-ltb}
use Rattle.std.proofs.lemmas.Bool.Decides.{nat_tests}
use Rattle.std.proofs.lemmas.Fmt.{decimal_by_steps}
use Rattle.std.proofs.lemmas.List.{reverse-append, reverse-reverse, length-reverse, length-append, length-drop, take-append-drop, take_at, drop_at, drop_more}
use Rattle.std.proofs.lemmas.List.Folds.{list_all-append, length-prefix_len}
use Rattle.std.proofs.lemmas.List.Sums.{prefix_len-le-length}
use Rattle.scasp_copies.specs.Copies.{begins, is_digit, last_digits, last_number, before_digits, names_line, Move, is_inside, moved_number, moved_words}
use Rattle.scasp_copies.proofs.WordLemmas.{digits_within, last_length}
use Rattle.scasp_print_shared.specs.Inside.Classes.{stem}
use Rattle.scasp_reader_tokens.specs.Numbers.{digits_value}

begins-take : (first text : List ℕ) (k : ℕ) → length first ≤ k → begins first text ≡ true → begins first (take k text) ≡ true
begins-take [] text k h e = refl
begins-take (f ∷ fs) [] k h e = absurd (true≢false (sym e))
begins-take (f ∷ fs) (b ∷ bs) zero h e = absurd (omega arith)
begins-take (f ∷ fs) (b ∷ bs) (suc k) h e =
    let p = and_parts (f == b) (begins fs bs) e in
    and_from (f == b) (begins fs (take k bs)) p.0 (begins-take fs bs k (omega arith) p.1)

begins-append : (first text more : List ℕ) → begins first text ≡ true → begins first (text ++ more) ≡ true
begins-append [] text more e = refl
begins-append (f ∷ fs) [] more e = absurd (true≢false (sym e))
begins-append (f ∷ fs) (b ∷ bs) more e =
    let p = and_parts (f == b) (begins fs bs) e in
    and_from (f == b) (begins fs (bs ++ more)) p.0 (begins-append fs bs more p.1)

begins-split : (first text : List ℕ) → begins first text ≡ true → text ≡ first ++ drop (length first) text
begins-split [] text e = refl
begins-split (f ∷ fs) [] e = absurd (true≢false (sym e))
begins-split (f ∷ fs) (b ∷ bs) e =
    let p = and_parts (f == b) (begins fs bs) e in
    let same = eqb-true f b p.0 in
    λ j. sym same j ∷ begins-split fs bs p.1 j

-- ---- the elements at the front that pass

prefix-stops : (p : ℕ → Bool) (xs : List ℕ) (y : ℕ) (ys : List ℕ) → p y ≡ false → prefix_len p (xs ++ y ∷ ys) ≤ length xs
prefix-stops p [] y ys e = rw e (omega arith)
prefix-stops p (x ∷ xs) y ys e = by (p x) refl (prefix-stops p xs y ys e)
  where
    by : (b : Bool) → p x ≡ b → prefix_len p (xs ++ y ∷ ys) ≤ length xs → prefix_len p ((x ∷ xs) ++ y ∷ ys) ≤ length (x ∷ xs)
    by true q ih = rw q (omega arith)
    by false q ih = rw q (omega arith)

prefix-behind : (p : ℕ → Bool) (xs : List ℕ) → prefix_len p (drop (prefix_len p xs) xs) ≡ 0
prefix-behind p [] = refl
prefix-behind p (x ∷ xs) = by (p x) refl (prefix-behind p xs)
  where
    by : (b : Bool) → p x ≡ b → prefix_len p (drop (prefix_len p xs) xs) ≡ 0 → prefix_len p (drop (prefix_len p (x ∷ xs)) (x ∷ xs)) ≡ 0
    by true q ih =
        let n : prefix_len p (x ∷ xs) ≡ suc (prefix_len p xs) = cond-true (p x) (1 + prefix_len p xs) 0 q ∙ omega arith in
        ap (λ k. prefix_len p (drop k (x ∷ xs))) n ∙ ih
    by false q ih =
        ap (λ k. prefix_len p (drop k (x ∷ xs))) (cond-false (p x) (1 + prefix_len p xs) 0 q) ∙ cond-false (p x) (1 + prefix_len p xs) 0 q

prefix-all : (p : ℕ → Bool) (xs ys : List ℕ) → list_all p xs ≡ true → prefix_len p ys ≡ 0 → prefix_len p (xs ++ ys) ≡ length xs
prefix-all p [] ys h e = e
prefix-all p (x ∷ xs) ys h e =
    let q = and_parts (p x) (list_all p xs) h in
    cond-true (p x) (1 + prefix_len p (xs ++ ys)) 0 q.0 ∙ omega (arith, prefix-all p xs ys q.1 e)

all-reverse : (p : ℕ → Bool) (xs : List ℕ) → list_all p xs ≡ true → list_all p (reverse xs) ≡ true
all-reverse p [] h = refl
all-reverse p (x ∷ xs) h =
    let q = and_parts (p x) (list_all p xs) h in
    ap (list_all p) (reverse-append (x ∷ []) xs) ∙ list_all-append p (reverse xs) (x ∷ [])
    ∙ and_from (list_all p (reverse xs)) (p x && true) (all-reverse p xs q.1) (and_from (p x) true q.0 refl)

-- ---- digits at the end

abbrev digits_len : List ℕ → ℕ
digits_len words = prefix_len is_digit (reverse words)

reverse-front : (words : List ℕ) (k : ℕ) → k ≤ length words → reverse (take (length words - k) words) ≡ drop k (reverse words)
reverse-front words k h =
    let a = length words - k in
    let n : length (reverse (drop a words)) ≡ k = omega (arith, length-reverse (drop a words), length-drop a words) in
    sym (drop_at (reverse (drop a words)) (reverse (take a words)) k n)
    ∙ ap (drop k) (sym (reverse-append (take a words) (drop a words)))
    ∙ ap (λ z. drop k (reverse z)) (take-append-drop a words)

before-is : (words : List ℕ) → before_digits words ≡ take (length words - digits_len words) words
before-is words = ap (λ n. take (length words - n) words) (last_length words)

-- no digit stands at the end of the words before the digits
ends-before : (words : List ℕ) → prefix_len is_digit (reverse (before_digits words)) ≡ 0
ends-before words =
    ap (λ z. prefix_len is_digit (reverse z)) (before-is words)
    ∙ ap (prefix_len is_digit) (reverse-front words (digits_len words) (digits_within words))
    ∙ prefix-behind is_digit (reverse words)

digits-behind : (front ds : List ℕ) → prefix_len is_digit (reverse front) ≡ 0 → list_all is_digit ds ≡ true → digits_len (front ++ ds) ≡ length ds
digits-behind front ds e h =
    ap (prefix_len is_digit) (reverse-append front ds)
    ∙ prefix-all is_digit (reverse ds) (reverse front) (all-reverse is_digit ds h) e
    ∙ length-reverse ds

before-behind : (front ds : List ℕ) → prefix_len is_digit (reverse front) ≡ 0 → list_all is_digit ds ≡ true → before_digits (front ++ ds) ≡ front
before-behind front ds e h =
    let n : length front ≡ length (front ++ ds) - length ds = omega (arith, length-append front ds) in
    before-is (front ++ ds)
    ∙ ap (λ k. take (length (front ++ ds) - k) (front ++ ds)) (digits-behind front ds e h)
    ∙ take_at front ds (length (front ++ ds) - length ds) n

pub last-behind : (front ds : List ℕ) → prefix_len is_digit (reverse front) ≡ 0 → list_all is_digit ds ≡ true → last_digits (front ++ ds) ≡ ds
last-behind front ds e h =
    let n : length (reverse ds) ≡ digits_len (front ++ ds) = length-reverse ds ∙ sym (digits-behind front ds e h) in
    ap (λ z. reverse (take (digits_len (front ++ ds)) z)) (reverse-append front ds)
    ∙ ap reverse (take_at (reverse ds) (reverse front) (digits_len (front ++ ds)) n)
    ∙ reverse-reverse ds

-- ---- numbers

abbrev AllDigits : ℕ → List ℕ → Type 0
AllDigits n ds = list_all is_digit ds ≡ true

one-digit : (n : ℕ) → n < 10 → AllDigits n ((48 + n) ∷ [])
one-digit n h = let digit : is_digit (48 + n) ≡ true = grind (arith, nat_tests) in and_from (is_digit (48 + n)) true digit refl

more-digits : (n : ℕ) (ds : List ℕ) → 10 ≤ n → AllDigits (n / 10) ds → AllDigits n (ds ++ (48 + n % 10) ∷ [])
more-digits n ds h s =
    let digit : is_digit (48 + n % 10) ≡ true = grind (arith, nat_tests) in
    list_all-append is_digit ds ((48 + n % 10) ∷ [])
    ∙ and_from (list_all is_digit ds) (is_digit (48 + n % 10) && true) s (and_from (is_digit (48 + n % 10)) true digit refl)

pub decimal-digits : (n : ℕ) → n < 2 ^ 64 → list_all is_digit (decimal n) ≡ true
decimal-digits n h = decimal_by_steps AllDigits one-digit more-digits n h

-- digits make a number larger
pub grows : (n : ℕ) (ds : List ℕ) → n ≤ digits_value n ds
grows n [] = omega arith
grows n (d ∷ ds) = let h = grows (10 * n + (d - 48)) ds in omega arith

-- ---- words that name a line

-- such a word ends in a blank, so it stands before the digits at the end
front-room : (first words : List ℕ) (y : ℕ) (ys : List ℕ) → reverse first ≡ y ∷ ys → is_digit y ≡ false → begins first words ≡ true
    → digits_len words + length first ≤ length words
front-room first words y ys r d e =
    let behind = drop (length first) words in
    let s = begins-split first words e in
    let flipped : reverse words ≡ reverse behind ++ y ∷ ys = ap reverse s ∙ reverse-append first behind ∙ ap (λ z. reverse behind ++ z) r in
    let h : digits_len words ≤ length (reverse behind) = rw flipped (prefix-stops is_digit (reverse behind) y ys d) in
    omega (arith, h, length-reverse behind, ap length s, length-append first behind)

keeps-front : (first words more : List ℕ) (y : ℕ) (ys : List ℕ) → reverse first ≡ y ∷ ys → is_digit y ≡ false → begins first words ≡ true
    → begins first (before_digits words ++ more) ≡ true
keeps-front first words more y ys r d e =
    let room = front-room first words y ys r d e in
    let k : length first ≤ length words - length (last_digits words) = omega (arith, room, last_length words) in
    begins-append first (before_digits words) more (begins-take first words (length words - length (last_digits words)) k e)

names-kept : (words more : List ℕ) → names_line words ≡ true → names_line (before_digits words ++ more) ≡ true
names-kept words more e = by (or_cases (begins (codes "loop ") words) (begins (codes "seen ") words) e)
  where
    by : (begins (codes "loop ") words ≡ true) ⊎ (begins (codes "seen ") words ≡ true) → names_line (before_digits words ++ more) ≡ true
    by (inl h) = or_left (begins (codes "loop ") (before_digits words ++ more)) (begins (codes "seen ") (before_digits words ++ more)) (keeps-front (codes "loop ") words more 32 _ refl refl h)
    by (inr h) = or_right (begins (codes "loop ") (before_digits words ++ more)) (begins (codes "seen ") (before_digits words ++ more)) (keeps-front (codes "seen ") words more 32 _ refl refl h)

-- ---- moving

inside-bound : (m : Move) (k : ℕ) → m.to + m.count < 2 ^ 64 → is_inside m k ≡ true → moved_number m k < 2 ^ 64
inside-bound m k h e =
    let p = and_parts (nat_le m.from k) (nat_lt k (m.from + m.count)) e in
    let low = leb-true m.from k p.0 in
    let high = ltb-true k (m.from + m.count) p.1 in
    let b : m.to + (k - m.from) < 2 ^ 64 = omega arith in
    let small : ℕ → Type 0 = λ n. n < 2 ^ 64 in
    subst small (sym (cond-true (is_inside m k) (m.to + (k - m.from)) k e)) b

-- a line keeps its words but for a line number at their end
pub stem-moved : (m : Move) (words : List ℕ) → m.to + m.count < 2 ^ 64 → stem (moved_words m words) ≡ stem words
stem-moved m words h = by (names_line words && is_inside m (last_number words)) refl
  where
    by : (b : Bool) → (names_line words && is_inside m (last_number words)) ≡ b → stem (moved_words m words) ≡ stem words
    by false e = ap stem (cond-false (names_line words && is_inside m (last_number words)) (before_digits words ++ decimal (moved_number m (last_number words))) words e)
    by true e =
        let p = and_parts (names_line words) (is_inside m (last_number words)) e in
        let n = moved_number m (last_number words) in
        let new = before_digits words ++ decimal n in
        let ds = decimal-digits n (inside-bound m (last_number words) h p.1) in
        ap stem (cond-true (names_line words && is_inside m (last_number words)) new words e)
        ∙ cond-true (names_line new) (before_digits new) new (names-kept words (decimal n) p.0)
        ∙ before-behind (before_digits words) (decimal n) (ends-before words) ds
        ∙ sym (cond-true (names_line words) (before_digits words) words p.0)

-- a number past 2^64 is of no line inside
pub far-stays : (m : Move) (words : List ℕ) → m.from ≤ m.to → m.to + m.count < 2 ^ 64 → (last_number words < 2 ^ 64 → ⊥) → moved_words m words ≡ words
far-stays m words f h n =
    let k = last_number words in
    let past : m.from + m.count ≤ k = omega (arith, f, h, n) in
    cond-false (names_line words && is_inside m k) (before_digits words ++ decimal (moved_number m k)) words
    (and_right (names_line words) (is_inside m k) (and_right (nat_le m.from k) (nat_lt k (m.from + m.count)) (le-ltb k (m.from + m.count) past)))

-- ---- one digit after the other

pub digit-step : (n : ℕ) (ds : List ℕ) (k : ℕ) → k < length ds → digits_value n (drop k ds) ≡ digits_value (10 * n + (get_or ds k 0 - 48)) (drop (k + 1) ds)
digit-step n ds k h = ap (digits_value n) (drop_more ds k 0 h)

pub too-large : (n : ℕ) (ds : List ℕ) (k : ℕ) → k < length ds → (10 * n + (get_or ds k 0 - 48) < 2 ^ 64 → ⊥) → digits_value n (drop k ds) < 2 ^ 64 → ⊥
too-large n ds k h past small =
    let v = 10 * n + (get_or ds k 0 - 48) in
    let g = grows v (drop (k + 1) ds) in
    let e = digit-step n ds k h in
    past (omega (arith, g, e, small))
