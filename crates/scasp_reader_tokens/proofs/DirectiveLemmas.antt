-- The stop of a directive, a piece after the other.
use Rattle.std.proofs.Common.{◌≡◌, ℕ, zero, suc, ◌+◌, ◌-◌, ◌<◌, ◌≤◌, Bool, true, false, cond, List, [], ◌∷◌, length, drop, Option, None, Some, refl, sym, ap, ◌∙◌, arith}
use Rattle.scasp_reader_tokens.specs.Bytes.{farther}
use Rattle.scasp_reader_tokens.specs.Directives.{is_last_stop, piece_length, length_to_stop}
use Rattle.scasp_reader_tokens.proofs.Walks.{farther-farther, farther-zero}

length_to_stop-skip : (bytes : List ℕ) (k : ℕ) → k ≤ length bytes → length_to_stop k bytes ≡ farther k (length_to_stop 0 (drop k bytes))
length_to_stop-skip [] zero h = refl
length_to_stop-skip [] (suc k) h = absurd (omega arith)
length_to_stop-skip (b ∷ bytes) zero h = sym (farther-zero (length_to_stop 0 (b ∷ bytes)))
length_to_stop-skip (b ∷ bytes) (suc k) h =
    let e : 1 + k ≡ suc k = omega arith in
    let left : k ≤ length bytes = omega arith in
    ap (farther 1) (length_to_stop-skip bytes k left) ∙ farther-farther 1 k (length_to_stop 0 (drop k bytes)) ∙ ap (λ n. farther n (length_to_stop 0 (drop k bytes))) e

pub length_to_stop-piece : (bytes : List ℕ) (n : ℕ) → is_last_stop bytes ≡ false → 0 < n → n ≤ length bytes → piece_length bytes ≡ Some n → length_to_stop 0 bytes ≡ farther n (length_to_stop 0 (drop n bytes))
length_to_stop-piece bytes zero t above h e = absurd (omega arith)
length_to_stop-piece [] (suc n) t above h e = absurd (omega arith)
length_to_stop-piece (b ∷ bytes) (suc n) t above h e =
    let z : suc n - 1 ≡ n = omega arith in
    by (is_last_stop (b ∷ bytes)) (piece_length (b ∷ bytes)) t e ∙ ap (λ k. farther 1 (length_to_stop k bytes)) z ∙ length_to_stop-skip (b ∷ bytes) (suc n) h
  where
    by : (x : Bool) (o : Option ℕ) → x ≡ false → o ≡ Some (suc n) → cond x (Some 1) (elim o [ None ↦ None | Some k ↦ farther 1 (length_to_stop (k - 1) bytes) ]) ≡ farther 1 (length_to_stop (suc n - 1) bytes)
    by true o p q = cc
    by false None p q = cc
    by false (Some k) p q = let same : k ≡ suc n = cc in ap (λ m. farther 1 (length_to_stop (m - 1) bytes)) same
