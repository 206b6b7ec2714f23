-- Lines that are read in place, and covers that are copied from the innermost out.
use Rattle.std.specs.Prelude.{◌≡◌, ◌<◌, ◌≤◌, ◌+◌, ◌-◌, ℕ, zero, suc, Some, List, [], ◌∷◌, ◌++◌, drop, length, map, reverse, slice_get, slice_set, take, refl}
use Rattle.std.proofs.Common.{append_assoc, append-nil, arith, ap, sym, ◌∙◌}
use Rattle.std.proofs.lemmas.List.{length-reverse, reverse-append, reverse-reverse, take_all}
use Rattle.scasp_search_rules.specs.declared.states.covers.Cover.{Cover}
use Rattle.scasp_search_rules.specs.declared.states.lines.Line.{Line}
use Rattle.scasp_search_trail.proofs.LineLemmas.{turned, turned_cons, turned_none}
use Rattle.scasp_search_trail.specs.States.{first, lined, others}
use Rattle.scasp_told.specs.Pieces.{last_of, set_last}

-- ---- lines that are read in place

pub read_more : (f : Line → Line) (k j : ℕ) (ls : List Line) (x : Line) → j ≡ k + 1 → slice_get (map f (take k ls) ++ drop k ls) k ≡ Some x
    → slice_set (map f (take k ls) ++ drop k ls) k (f x) ≡ map f (take j ls) ++ drop j ls
read_more f k j ls x q h = read f k ls x h ∙ (let s : suc k ≡ j = omega (arith, q) in ap (λ (i : ℕ). map f (take i ls) ++ drop i ls) s)
  where
    read : (f : Line → Line) (k : ℕ) (ls : List Line) (x : Line) → slice_get (map f (take k ls) ++ drop k ls) k ≡ Some x
        → slice_set (map f (take k ls) ++ drop k ls) k (f x) ≡ map f (take (suc k) ls) ++ drop (suc k) ls
    read f zero [] x h = absurd (cc h)
    read f zero (y ∷ ls) x h = let e : y ≡ x = cc h in ap (λ (z : Line). f z ∷ ls) (sym e)
    read f (suc k) [] x h = absurd (cc h)
    read f (suc k) (y ∷ ls) x h = ap (λ (zs : List Line). f y ∷ zs) (read f k ls x h)

pub all_read : (f : Line → Line) (k : ℕ) (ls : List Line) → length (map f (take k ls) ++ drop k ls) ≤ k → map f (take k ls) ++ drop k ls ≡ map f ls
all_read f zero [] h = refl
all_read f zero (y ∷ ls) h = absurd (omega (arith, h))
all_read f (suc k) [] h = refl
all_read f (suc k) (y ∷ ls) h = ap (λ (zs : List Line). f y ∷ zs) (all_read f k ls (omega (arith, h)))

pub read_length : (f : Line → Line) (k : ℕ) (ls : List Line) → length (map f (take k ls) ++ drop k ls) ≡ length ls
read_length f zero ls = refl
read_length f (suc k) [] = refl
read_length f (suc k) (y ∷ ls) = ap suc (read_length f k ls)

pub set_of_last : (k : ℕ) (x : Line) (ps : List (List Line)) → last_of (set_last k x ps) ≡ slice_set (last_of ps) k x
set_of_last k x [] = refl
set_of_last k x (p ∷ []) = refl
set_of_last k x (p ∷ q ∷ []) = refl
set_of_last k x (p ∷ q ∷ r ∷ ps) = set_of_last k x (q ∷ r ∷ ps)

set_append : (k : ℕ) (x : Line) (xs : List (List Line)) (q : List Line) → set_last k x (xs ++ q ∷ []) ≡ xs ++ slice_set q k x ∷ []
set_append k x [] q = refl
set_append k x (p ∷ []) q = refl
set_append k x (p ∷ r ∷ xs) q = ap (λ (ps : List (List Line)). p ∷ ps) (set_append k x (r ∷ xs) q)

pub set_others : (k : ℕ) (x : Line) (ps : List (List Line)) → others (reverse (set_last k x ps)) ≡ others (reverse ps)
set_others k x ps = by (reverse ps) refl
  where
    by : (rs : List (List Line)) → reverse ps ≡ rs → others (reverse (set_last k x ps)) ≡ others rs
    by [] e = ap (λ (zs : List (List Line)). others (reverse (set_last k x zs))) (turned_none ps e)
    by (q ∷ qs) e =
        ap (λ (zs : List (List Line)). others (reverse (set_last k x zs))) (turned ps q qs e) ∙ ap (λ (zs : List (List Line)). others (reverse zs)) (set_append k x (reverse qs) q)
        ∙ ap others (reverse-append (reverse qs) (slice_set q k x ∷ [])) ∙ reverse-reverse qs

-- ---- the first pieces

some_taken : (n : ℕ) (ps : List (List Line)) → n < length ps → 0 < length (reverse (take (suc n) ps))
some_taken n [] h = absurd (omega (arith, h))
some_taken n (p ∷ ps) h = omega (arith, length-reverse (take (suc n) (p ∷ ps)))

others_append : (xs ys : List (List Line)) → 0 < length xs → others (xs ++ ys) ≡ others xs ++ ys
others_append [] ys h = absurd (omega (arith, h))
others_append (x ∷ xs) ys h = refl

first_append : (xs ys : List (List Line)) → 0 < length xs → first (xs ++ ys) ≡ first xs
first_append [] ys h = absurd (omega (arith, h))
first_append (x ∷ xs) ys h = refl

others_of : (n : ℕ) (ps : List (List Line)) → n < length ps → others (reverse (take (suc n) ps)) ≡ reverse (take n ps)
others_of n [] h = absurd (omega (arith, h))
others_of zero (p ∷ ps) h = refl
others_of (suc n) (p ∷ ps) h =
    let m : n < length ps = omega (arith, h) in
    ap others (turned_cons p (take (suc n) ps)) ∙ others_append (reverse (take (suc n) ps)) (p ∷ []) (some_taken n ps m)
    ∙ ap (λ (zs : List (List Line)). zs ++ p ∷ []) (others_of n ps m) ∙ sym (turned_cons p (take n ps))

others_taken : (n : ℕ) (ps : List (List Line)) → n ≤ length ps → others (reverse (take n ps)) ≡ reverse (take (n - 1) ps)
others_taken zero ps h = refl
others_taken (suc n) ps h = let e : n ≡ suc n - 1 = omega arith in others_of n ps (omega (arith, h)) ∙ ap (λ (k : ℕ). reverse (take k ps)) e

pub first_taken : (n : ℕ) (ps : List (List Line)) (p : List Line) → 0 < n → slice_get ps (n - 1) ≡ Some p → p ≡ first (reverse (take n ps))
first_taken n ps p z h = let e : suc (n - 1) ≡ n = omega (arith, z) in sym (found (n - 1) ps p h) ∙ ap (λ (k : ℕ). first (reverse (take k ps))) e
  where
    within : (m : ℕ) (ps : List (List Line)) (p : List Line) → slice_get ps m ≡ Some p → m < length ps
    within m [] p h = absurd (cc h)
    within zero (q ∷ ps) p h = omega arith
    within (suc m) (q ∷ ps) p h = let l = within m ps p h in omega (arith, l)

    found : (m : ℕ) (ps : List (List Line)) (p : List Line) → slice_get ps m ≡ Some p → first (reverse (take (suc m) ps)) ≡ p
    found m [] p h = absurd (cc h)
    found zero (q ∷ ps) p h = let e : q ≡ p = cc h in e
    found (suc m) (q ∷ ps) p h =
        ap first (turned_cons q (take (suc m) ps)) ∙ first_append (reverse (take (suc m) ps)) (q ∷ []) (some_taken m ps (within m ps p h)) ∙ found m ps p h

pub none_taken : (n : ℕ) (ps : List (List Line)) → n ≡ 0 → [] ≡ first (reverse (take n ps))
none_taken n ps e = sym (ap (λ (k : ℕ). first (reverse (take k ps))) e)

-- ---- covers with the lines of the first pieces

pub lined_begins : (cs : List Cover) (ps : List (List Line)) (n : ℕ) → n ≡ length ps - 1 → lined cs (reverse (take n ps)) ≡ lined cs (others (reverse ps))
lined_begins cs ps n e =
    ap (λ (k : ℕ). lined cs (reverse (take k ps))) e ∙ ap (lined cs) (sym (others_taken (length ps) ps (omega arith)))
    ∙ ap (λ (zs : List (List Line)). lined cs (others (reverse zs))) (take_all (length ps) ps (omega arith))

pub lined_more : (made cs ds : List Cover) (c : Cover) (ls : List Line) (n m : ℕ) (ps : List (List Line)) → cs ≡ ds ++ c ∷ [] → n ≤ length ps → m ≡ n - 1 → ls ≡ first (reverse (take n ps))
    → (made ++ record c { before = ls } ∷ []) ++ lined (reverse ds) (reverse (take m ps)) ≡ made ++ lined (reverse cs) (reverse (take n ps))
lined_more made cs ds c ls n m ps e l q h =
    append_assoc made (record c { before = ls } ∷ []) (lined (reverse ds) (reverse (take m ps)))
    ∙ (λ i. made ++ (record c { before = h i } ∷ lined (reverse ds) (rest i)))
    ∙ ap (λ (xs : List Cover). made ++ lined xs (reverse (take n ps))) (sym (ap reverse e ∙ reverse-append ds (c ∷ [])))
  where
    rest : reverse (take m ps) ≡ others (reverse (take n ps))
    rest = ap (λ (k : ℕ). reverse (take k ps)) q ∙ sym (others_taken n ps l)

pub lined_ends : (made cs : List Cover) (qs : List (List Line)) → cs ≡ [] → made ≡ made ++ lined (reverse cs) qs
lined_ends made cs qs e = sym (ap (λ (xs : List Cover). made ++ lined (reverse xs) qs) e ∙ append-nil made)
