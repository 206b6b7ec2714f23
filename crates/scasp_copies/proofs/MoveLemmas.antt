-- Which line numbers move, and the words that they stand in.
use Rattle.std.proofs.Common.{◌≡◌, ◌∙◌, ℕ, suc, ◌+◌, ◌-◌, ◌^◌, ◌<◌, ◌≤◌, Bool, true, false, List, ◌++◌, inl, inr, refl, sym, ap, arith}
use Rattle.std.specs.Prelude.{min, nat_le, nat_lt, ◌&&◌, if◌then◌else◌, decimal}
use Rattle.std.proofs.lemmas.Bool.{le-leb, lt-leb, lt-ltb, true≢false}
use Rattle.std.proofs.lemmas.Bool.Decides.{leb_tells}
use Rattle.std.proofs.Math.Nat.{min-eq_left, min-eq_right}
use Rattle.scasp_copies.specs.Copies.{Move, is_inside, moved_number, moved_words, names_line, last_number, before_digits}

pub inside : (m : Move) (k : ℕ) → m.from ≤ k → k < m.from + m.count → is_inside m k ≡ true
inside m k low high = rw (le-leb m.from k low) (lt-ltb k (m.from + m.count) high)

pub before : (m : Move) (k : ℕ) → k < m.from → is_inside m k ≡ false
before m k low = rw (lt-leb m.from k low) refl

not-below : (m n : ℕ) → n ≤ m → nat_lt m n ≡ false
not-below m n h = lt-leb (suc m) n (omega arith)

pub behind : (m : Move) (k : ℕ) → m.from + m.count ≤ k → is_inside m k ≡ false
behind m k high = rw (le-leb m.from k (omega arith), not-below k (m.from + m.count) high) refl

pub number_inside : (m : Move) (k : ℕ) → is_inside m k ≡ true → moved_number m k ≡ m.to + (k - m.from)
number_inside m k h = rw h refl

-- a number above all that are inside stands for each other one
pub same_inside : (m : Move) (top k : ℕ) → m.from + m.count ≤ top → is_inside m (min k top) ≡ is_inside m k
same_inside m top k h = elim (leb_tells k top) [
  | inl low ↦ ap (is_inside m) (min-eq_left low.1)
  | inr high ↦ ap (is_inside m) (min-eq_right (omega (arith, high.1))) ∙ behind m top h ∙ sym (behind m k (omega (arith, high.1)))
]

pub same_number : (m : Move) (top k : ℕ) → m.from + m.count ≤ top → is_inside m (min k top) ≡ true → min k top ≡ k
same_number m top k h q = elim (leb_tells k top) [
  | inl low ↦ min-eq_left low.1
  | inr high ↦ absurd (true≢false (sym q ∙ ap (is_inside m) (min-eq_right (omega (arith, high.1))) ∙ behind m top h))
]

-- words that name a line inside
pub words_move : (m : Move) (top n k : ℕ) (words : List ℕ) → m.from + m.count ≤ top → names_line words ≡ true → n ≡ min (last_number words) top
    → is_inside m n ≡ true → k ≡ moved_number m n → moved_words m words ≡ before_digits words ++ decimal k
words_move m top n k words h names e q kk =
    let q' : is_inside m (min (last_number words) top) ≡ true = ap (is_inside m) (sym e) ∙ q in
    let same : n ≡ last_number words = e ∙ same_number m top (last_number words) h q' in
    let inside : is_inside m (last_number words) ≡ true = ap (is_inside m) (sym same) ∙ q in
    rw (names, inside) (ap (λ x. before_digits words ++ decimal x) (sym (kk ∙ number_inside m n q ∙ ap (λ x. m.to + (x - m.from)) same)))

pub words_stay : (m : Move) (top n : ℕ) (words : List ℕ) → m.from + m.count ≤ top → n ≡ min (last_number words) top → is_inside m n ≡ false → moved_words m words ≡ words
words_stay m top n words h e q =
    let inside : is_inside m (last_number words) ≡ false = sym (same_inside m top (last_number words) h) ∙ ap (is_inside m) (sym e) ∙ q in
    by (names_line words) refl inside
  where
    by : (b : Bool) → names_line words ≡ b → is_inside m (last_number words) ≡ false → moved_words m words ≡ words
    by true p i = rw (p, i) refl
    by false p i = rw p refl

pub no_name : (m : Move) (words : List ℕ) → names_line words ≡ false → moved_words m words ≡ words
no_name m words h = rw h refl
