-- Going back to a mark.
use Rattle.std.proofs.Common.{◌≡◌, ℕ, suc, ◌<◌, ◌≤◌, ◌-◌, List, [], ◌∷◌, ◌++◌, length, drop, refl, sym, ap, ◌∙◌, arith}
use Rattle.std.proofs.Math.Seq.{drop-append_seam}
use Rattle.std.proofs.lemmas.List.{length-append}
use Rattle.scasp_search_parts.specs.Times.{after, times, times_at}
use Rattle.scasp_trail.specs.Past.{Past, earlier, latest}

-- ---- the latest change taken back

pub one_less : {T : Type 0} (xss : List (List T)) → length (earlier xss) ≡ length xss - 1
one_less [] = refl
one_less (xs ∷ xss) = let same : length xss ≡ suc (length xss) - 1 = omega arith in same

pub went_back : {T : Type 0} (s t r : Past T) → t ≡ after s s.now → r.now ≡ latest t.now t.before → r.before ≡ earlier t.before → r ≡ s
went_back s t r e n b =
    let now : r.now ≡ s.now = n ∙ ap (λ p. latest p.now p.before) e in
    let before : r.before ≡ s.before = b ∙ ap (λ p. earlier p.before) e in
    ap (λ xs. record { now = xs; before = r.before }) now ∙ ap (λ xss. record { now = s.now; before = xss }) before

pub same_size : {T : Type 0} (s r : Past T) → s ≡ r → length s.before ≡ length r.before
same_size s r e = ap (λ p. length p.before) e

left-times : {T : Type 0} (now : List T) (xss : List (List T)) → 0 < length xss → latest now xss ∷ earlier xss ≡ xss
left-times now [] h = absurd (omega (arith, h))
left-times now (xs ∷ xss) h = refl

-- ---- going back to a mark

pub one_back : {T : Type 0} (m : ℕ) (s r : Past T) → r.now ≡ latest s.now s.before → r.before ≡ earlier s.before → m < length s.before → times_at m s ≡ times_at m r
one_back m s r n b h =
    let same : times r ≡ s.before = ap (λ xs. xs ∷ r.before) n ∙ ap (λ xss. latest s.now s.before ∷ xss) b ∙ left-times s.now s.before (omega (arith, h)) in
    let size : length r.before ≡ length s.before - 1 = ap length b ∙ one_less s.before in
    let more : length s.before - m ≡ suc (length r.before - m) = omega (arith, size, h) in
    ap (λ (n : ℕ). drop n (times s)) more ∙ ap (drop (length r.before - m)) (sym same)

pub at_now : {T : Type 0} (m : ℕ) (s : Past T) → length s.before ≤ m → times_at m s ≡ times s
at_now m s h = let none : length s.before - m ≡ 0 = omega (arith, h) in rw none refl

pub given_back : {T : Type 0} (later : List (List T)) (s : Past T) → drop (length (later ++ s.before) - length s.before) (later ++ times s) ≡ times s
given_back later s =
    let size : length (later ++ s.before) - length s.before ≡ length later = omega (arith, length-append later s.before) in
    rw size (drop-append_seam later (times s))
