-- Values that are found and values that are given.
use Rattle.std.proofs.Common.{◌≡◌, ◌∙◌, ◌∷◌, ℕ, zero, suc, ◌+◌, ◌<◌, Bool, true, false, ◌||◌, nat_eq, List, [], Option, None, Some, length, get_or, drop, map, slice_get, refl, ap, sym, subst, arith}
use Rattle.std.specs.Borrow.{Bor}
use Rattle.std.specs.List.{list_any}
use Rattle.std.specs.Option.{option_copied, option_map}
use Rattle.std.specs.Prelude.{MatchOption, Err}
use Rattle.std.proofs.Math.Seq.{drop-cons}
use Rattle.std.proofs.lemmas.Bool.{cond-false, cond-true, or_left, or_right}
use Rattle.scasp_ground.specs.declared.error.GroundErr.{GroundErr}
use Rattle.scasp_ground.specs.declared.error.GroundErr.TheVariants as errors
use Rattle.scasp_lines.specs.Opened.{Opened}
use Rattle.scasp_lines.specs.Openings.{bound_to}
use Rattle.scasp_num.specs.Number.{zero_number}
use Rattle.scasp_syntax.specs.Tm.{Tm, num}
use Rattle.scasp_syntax.specs.Values.{Sub}
use Rattle.scasp_syntax.specs.View.{tm_of}
use Rattle.scasp_syntax.specs.declared.term.Term.{Term}
use Rattle.scasp_extend_instances.specs.Values.{valued}
use Rattle.scasp_extend_instances.specs.View.{Makes, with_all}
use Rattle.scasp_extend_instances.specs.Within.{entry_overflows, overflows, ways_within}

some-is : (t u : Tm) → Some t ≡ Some u → t ≡ u
some-is t u e = cc

-- what stands at a free variable's place is its value
pub valued-at : (ts : List Tm) (x : ℕ) (o : Option (Bor Term)) → option_map tm_of (option_copied o) ≡ slice_get ts x
    → MatchOption o (valued ts x ≡ num zero_number) (λ t. tm_of t.now ≡ valued ts x)
valued-at [] x None e = refl
valued-at [] x (Some t) e = cc
valued-at (t ∷ ts) zero None e = cc
valued-at (t ∷ ts) zero (Some u) e = cc
valued-at (t ∷ ts) (suc x) o e = valued-at ts x o e

-- the same of an equal value
pub match-same : (o : Option (Bor Term)) (a b : Tm) → a ≡ b → MatchOption o (a ≡ num zero_number) (λ t. tm_of t.now ≡ a)
    → MatchOption o (b ≡ num zero_number) (λ t. tm_of t.now ≡ b)
match-same o a b e h = let P : Tm → Type 0 = λ z. MatchOption o (z ≡ num zero_number) (λ t. tm_of t.now ≡ z) in subst P e h

-- a value that is found among those that were bound
pub bound-at : (bs : List (ℕ × Tm)) (v : Sub) (x : ℕ) (t : Tm) → bound_to bs x ≡ Some t → with_all bs v x ≡ t
bound-at [] v x t e = cc
bound-at (b ∷ bs) v x t e = by (nat_eq x b.0) refl (bound-at bs v x t)
  where
    by : (p : Bool) → nat_eq x b.0 ≡ p → (bound_to bs x ≡ Some t → with_all bs v x ≡ t) → with_all (b ∷ bs) v x ≡ t
    by true s r = cond-true (nat_eq x b.0) b.1 (with_all bs v x) s ∙ some-is b.1 t (sym (cond-true (nat_eq x b.0) (Some b.1) (bound_to bs x) s) ∙ e)
    by false s r =
        cond-false (nat_eq x b.0) b.1 (with_all bs v x) s ∙ r (sym (cond-false (nat_eq x b.0) (Some b.1) (bound_to bs x) s) ∙ e)

pub bound-none : (bs : List (ℕ × Tm)) (v : Sub) (x : ℕ) → bound_to bs x ≡ None → with_all bs v x ≡ v x
bound-none [] v x e = refl
bound-none (b ∷ bs) v x e = by (nat_eq x b.0) refl (bound-none bs v x)
  where
    by : (p : Bool) → nat_eq x b.0 ≡ p → (bound_to bs x ≡ None → with_all bs v x ≡ v x) → with_all (b ∷ bs) v x ≡ v x
    by true s r = let no : Some b.1 ≡ None = sym (cond-true (nat_eq x b.0) (Some b.1) (bound_to bs x) s) ∙ e in cc
    by false s r =
        cond-false (nat_eq x b.0) b.1 (with_all bs v x) s ∙ r (sym (cond-false (nat_eq x b.0) (Some b.1) (bound_to bs x) s) ∙ e)

-- an overflow stays one where more is asked
pub makes-later : {A B : Type 0} (e : GroundErr) (b c : Bool) (P : A → Type 0) (Q : B → Type 0) → (b ≡ true → c ≡ true)
    → Makes {A = A} (Err e) b P → Makes {A = B} (Err e) c Q
makes-later errors.TooLarge b c P Q f h = h
makes-later errors.Overflow b c P Q f h = f h
makes-later errors.Memory b c P Q f h = h

-- and where more opens behind it
overflows-behind : {E : Type 0} (f : E → Opened) (d : List Tm) (v : Sub) (i : ℕ) (es : List E) → overflows d (map f (drop i es)) v ≡ true → overflows d (map f es) v ≡ true
overflows-behind f d v zero es h = h
overflows-behind f d v (suc i) [] h = h
overflows-behind f d v (suc i) (e ∷ es) h =
    or_left (overflows d (map f es) v) (list_any (entry_overflows (f e)) (ways_within d (map f es) v)) (overflows-behind f d v i es h)

-- an entry that overflows at an instance of those behind it
pub overflows-at : {E : Type 0} (f : E → Opened) (d : List Tm) (v : Sub) (es : List E) (i j : ℕ) (x : E) (ws : List Sub) → i + 1 ≡ j → i < length es → x ≡ get_or es i x
    → ws ≡ ways_within d (map f (drop j es)) v → list_any (entry_overflows (f x)) ws ≡ true → overflows d (map f es) v ≡ true
overflows-at f d v es i j x ws next below at w h =
    let step : suc i ≡ j = omega arith in
    let split : drop i es ≡ x ∷ drop j es = drop-cons es i x below ∙ ap (λ y. y ∷ drop (suc i) es) (sym at) ∙ ap (λ k. x ∷ drop k es) step in
    overflows-behind f d v i es
    (ap (λ ys. overflows d (map f ys) v) split
    ∙ or_right (overflows d (map f (drop j es)) v) (list_any (entry_overflows (f x)) (ways_within d (map f (drop j es)) v))
    (ap (list_any (entry_overflows (f x))) (sym w) ∙ h))
