-- Changes that are taken back.
use Rattle.std.specs.Prelude.{◌≡◌, ◌<◌, ◌≤◌, ◌+◌, ◌-◌, ℕ, zero, suc, Bool, true, false, not, nat_eq, List, [], ◌∷◌, ◌++◌, Some, length, reverse, slice_get, slice_set, take, refl}
use Rattle.std.specs.List.{insert, remove}
use Rattle.std.proofs.Common.{arith, ap, subst, sym, ◌∙◌}
use Rattle.std.proofs.lemmas.Bool.{true≢false}
use Rattle.std.proofs.lemmas.Bool.Decides.{Decides-eqb}
use Rattle.std.proofs.lemmas.List.{length-reverse, nil_from_length, reverse-append}
use Rattle.std.proofs.lemmas.List.Edits.{length-insert}
use Rattle.scasp_trail.specs.Past.{earlier, is_marked, latest}
use Rattle.scasp_trail.specs.Inside.Undoing.{CanUndo, GoesBack, IsUndoable, Speaks, here, left_of, marked, taken_back}
use Rattle.scasp_trail.specs.declared.change.Change.{Change}
use Rattle.scasp_trail.specs.declared.change.Change.TheVariants as change

noted : {T : Type 0} (cs : List (Change T)) (c : Change T) → reverse (cs ++ c ∷ []) ≡ c ∷ reverse cs
noted cs c = reverse-append cs (c ∷ [])

-- ---- more room, and more items behind

speaks_more : {T : Type 0} (r s n : ℕ) (c : Change T) → r ≤ s → Speaks r c n → Speaks s c n
speaks_more r s n (change.Mark kept) h v = v
speaks_more r s n (change.Popped x) h v = omega (arith, h, v)
speaks_more r s n (change.Replaced k x) h v = v
speaks_more r s n (change.Inserted k) h v = v

roomier : {T : Type 0} (r s : ℕ) (cs : List (Change T)) (n : ℕ) → r ≤ s → CanUndo r cs n → CanUndo s cs n
roomier r s [] n h u = u
roomier r s (c ∷ cs) n h u = (speaks_more r s n c h u.0, roomier r s cs (left_of c n) h u.1)

pub undoable_more : {T : Type 0} (r s l m k : ℕ) (cs : List (Change T)) → r ≤ s → l ≤ m → IsUndoable r l k cs → IsUndoable s m k cs
undoable_more r s l m k cs h i u = record { within = omega (arith, i, u.within); can = roomier r s (reverse cs) k h u.can }

-- ---- one more change

at_more : {T : Type 0} (cs : List (Change T)) (c : Change T) (xs : List T) → marked (reverse (cs ++ c ∷ [])) xs ≡ here c xs ++ marked (reverse cs) (taken_back c xs)
at_more cs c xs = ap (λ ds. marked ds xs) (noted cs c)

put_there : {T : Type 0} (k at : ℕ) (xs : List T) (x y : T) → at < k → slice_get xs at ≡ Some y → slice_set (take k (slice_set xs at x)) at y ≡ take k xs
put_there zero at xs x y h g = absurd (omega (arith, h))
put_there (suc k) at [] x y h g = absurd (cc g)
put_there (suc k) zero (z ∷ xs) x y h g = let e : z ≡ y = cc g in ap (λ w. w ∷ take k xs) (sym e)
put_there (suc k) (suc at) (z ∷ xs) x y h g = ap (λ ys. z ∷ ys) (put_there k at xs x y (omega (arith, h)) g)

pub past_replaced : {T : Type 0} (k at : ℕ) (cs : List (Change T)) (xs : List T) (x y : T) → at < k → slice_get xs at ≡ Some y → marked (reverse (cs ++ change.Replaced at y ∷ [])) (take k (slice_set xs at x)) ≡ marked (reverse cs) (take k xs)
past_replaced k at cs xs x y h g =
    at_more cs (change.Replaced at y) (take k (slice_set xs at x)) ∙ ap (marked (reverse cs)) (put_there k at xs x y h g)

taken_out : {T : Type 0} (k at : ℕ) (xs : List T) (x : T) → at < k → k ≤ length xs → remove (take (k + 1) (insert xs at x)) at ≡ take k xs
taken_out zero at xs x h w = absurd (omega (arith, h))
taken_out (suc k) at [] x h w = absurd (omega (arith, w))
taken_out (suc k) zero (z ∷ xs) x h w =
    let m : suc k + 1 ≡ suc (suc k) = omega arith in
    ap (λ (j : ℕ). remove (take j (insert (z ∷ xs) zero x)) zero) m
taken_out (suc k) (suc at) (z ∷ xs) x h w =
    let m : suc k + 1 ≡ suc (k + 1) = omega arith in
    ap (λ (j : ℕ). remove (take j (insert (z ∷ xs) (suc at) x)) (suc at)) m
    ∙ ap (λ ys. z ∷ ys) (taken_out k at xs x (omega (arith, h)) (omega (arith, w)))

pub undoable_inserted : {T : Type 0} (r k at : ℕ) (cs : List (Change T)) (xs : List T) (x : T) → at < k → IsUndoable r (length xs) k cs → IsUndoable r (length (insert xs at x)) (k + 1) (cs ++ change.Inserted at ∷ [])
undoable_inserted r k at cs xs x h u =
    let w = u.within in
    let n = length-insert xs at x (omega (arith, h, w)) in
    let m : k ≡ k + 1 - 1 = omega arith in
    let s : at + 1 < k + 1 = omega (arith, h) in
    let before : CanUndo r (reverse cs) (k + 1 - 1) = subst (λ (j : ℕ). CanUndo r (reverse cs) j) m u.can in
    record {
      within = omega (arith, n, w);
      can = subst (λ ds. CanUndo r ds (k + 1)) (sym (noted cs (change.Inserted at))) (s, before);
    }

pub past_inserted : {T : Type 0} (k at : ℕ) (cs : List (Change T)) (xs : List T) (x : T) → at < k → k ≤ length xs → marked (reverse (cs ++ change.Inserted at ∷ [])) (take (k + 1) (insert xs at x)) ≡ marked (reverse cs) (take k xs)
past_inserted k at cs xs x h w =
    at_more cs (change.Inserted at) (take (k + 1) (insert xs at x)) ∙ ap (marked (reverse cs)) (taken_out k at xs x h w)

-- ---- whether there is a mark

unmarked : {T : Type 0} (r n : ℕ) (cs : List (Change T)) (xs : List T) → CanUndo r cs n → marked cs xs ≡ [] → (n ≡ 0) × (cs ≡ [])
unmarked r n [] xs u m = (u, refl)
unmarked r n (change.Mark kept ∷ cs) xs u m = absurd (cc m)
unmarked r n (change.Popped x ∷ cs) xs u m = absurd (omega (arith, (unmarked r (n + 1) cs (taken_back (change.Popped x) xs) u.1 m).0))
unmarked r n (change.Replaced k x ∷ cs) xs u m = absurd (omega (arith, u.0, (unmarked r n cs (taken_back (change.Replaced k x) xs) u.1 m).0))
unmarked r n (change.Inserted k ∷ cs) xs u m = absurd (omega (arith, u.0, (unmarked r (n - 1) cs (taken_back (change.Inserted k) xs) u.1 m).0))

none_marked : {T : Type 0} (r k : ℕ) (cs : List (Change T)) (xs : List T) (yss : List (List T)) → marked (reverse cs) xs ≡ yss → CanUndo r (reverse cs) k → 0 < length cs → true ≡ is_marked yss
none_marked r k cs xs [] e u h = let z = unmarked r k (reverse cs) xs u e in absurd (omega (arith, h, ap length z.1, length-reverse cs))
none_marked r k cs xs (ys ∷ yss) e u h = refl

-- changes are kept where there is a mark, and only there
pub marks_are_changes : {T : Type 0} (r k n : ℕ) (b : Bool) (cs : List (Change T)) (xs : List T) → b ≡ nat_eq n 0 → n ≡ length cs → CanUndo r (reverse cs) k → not b ≡ is_marked (marked (reverse cs) xs)
marks_are_changes r k n true cs xs e l u =
    let z : n ≡ 0 = (Decides-eqb n 0).0 (sym e) in
    ap (λ ds. is_marked (marked (reverse ds) xs)) (sym (nil_from_length cs (sym l ∙ z)))
marks_are_changes r k zero false cs xs e l u = absurd (true≢false (sym e))
marks_are_changes r k (suc n) false cs xs e l u = none_marked r k cs xs (marked (reverse cs) xs) refl u (omega (arith, l))

-- ---- at the latest mark

pub latest_none : {T : Type 0} (now : List T) (xss : List (List T)) → is_marked xss ≡ false → latest now xss ≡ now
latest_none now [] h = refl
latest_none now (xs ∷ xss) h = absurd (true≢false h)

pub earlier_none : {T : Type 0} (xss : List (List T)) → is_marked xss ≡ false → earlier xss ≡ xss
earlier_none [] h = refl
earlier_none (xs ∷ xss) h = absurd (true≢false h)

pub latest_left : {T : Type 0} (old now : List T) (xss before : List (List T)) → is_marked xss ≡ true → GoesBack xss now before → now ≡ latest old xss
latest_left old now [] before h b = absurd (true≢false (sym h))
latest_left old now (xs ∷ xss) before h b = b.0

pub earlier_left : {T : Type 0} (now : List T) (xss before : List (List T)) → is_marked xss ≡ true → GoesBack xss now before → before ≡ earlier xss
earlier_left now [] before h b = absurd (true≢false (sym h))
earlier_left now (xs ∷ xss) before h b = b.1
