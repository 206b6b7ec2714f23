-- A list cut into pieces, with one item more, one piece more or one fewer.
use Rattle.std.specs.Prelude.{◌≡◌, ◌≤◌, ◌<◌, ◌+◌, ◌-◌, ℕ, zero, suc, List, [], ◌∷◌, ◌++◌, length, take, drop, slice_get, slice_set, Some, refl}
use Rattle.std.specs.List.{insert}
use Rattle.std.proofs.Common.{arith, ap, sym, length-append, ◌∙◌}
use Rattle.std.proofs.lemmas.List.{drop-append-le, drop_all, length-drop, take-append-drop, take-append-le, take_all}
use Rattle.std.proofs.lemmas.List.Edits.{length-insert}
use Rattle.scasp_told.specs.Inside.Cuts.{cut, total, end_of, raised_at}
use Rattle.scasp_told.specs.Pieces.{grown_at, join_last}

pub pieces : {T : Type 0} (ns : List ℕ) (xs : List T) → length (cut ns xs) ≡ length ns + 1
pieces [] xs = refl
pieces (n ∷ ns) xs = let e = pieces ns (drop n xs) in omega (arith, e)

pub inside : {T : Type 0} (k : ℕ) (ns : List ℕ) (xs : List T) → k + 1 < length (cut ns xs) → k < length ns
inside k ns xs h = omega (arith, h, pieces ns xs)

pub inside_all : {T : Type 0} (k : ℕ) (ns : List ℕ) (xs : List T) → k < length (cut ns xs) → k ≤ length ns
inside_all k ns xs h = omega (arith, h, pieces ns xs)

-- ---- at the end of the last piece

put : {T : Type 0} (ns : List ℕ) (xs : List T) (x : T) → total ns ≤ length xs → cut ns (xs ++ x ∷ []) ≡ grown_at (length ns) x (cut ns xs)
put [] xs x h = refl
put (n ∷ ns) xs x h =
    let l : n ≤ length xs = omega (arith, h) in
    ap (λ ps. ps ∷ cut ns (drop n (xs ++ x ∷ []))) (take-append-le n xs (x ∷ []) l)
    ∙ ap (λ ys. take n xs ∷ cut ns ys) (drop-append-le n xs (x ∷ []) l)
    ∙ ap (λ ps. take n xs ∷ ps) (put ns (drop n xs) x (omega (arith, h, length-drop n xs)))

pub put_last : {T : Type 0} (ns : List ℕ) (xs : List T) (x : T) → total ns ≤ length xs → cut ns (xs ++ x ∷ []) ≡ grown_at (length (cut ns xs) - 1) x (cut ns xs)
put_last ns xs x h =
    let n : length ns ≡ length (cut ns xs) - 1 = omega (arith, pieces ns xs) in
    put ns xs x h ∙ ap (λ (k : ℕ). grown_at k x (cut ns xs)) n

pub longer : {T : Type 0} (ns : List ℕ) (xs : List T) (x : T) → total ns ≤ length xs → total ns ≤ length (xs ++ x ∷ [])
longer ns xs x h = omega (arith, h, length-append xs (x ∷ []))

-- ---- at the end of another piece

take_here : {T : Type 0} (n : ℕ) (xs : List T) (x : T) → n ≤ length xs → take (n + 1) (insert xs n x) ≡ take n xs ++ x ∷ []
take_here zero [] x h = refl
take_here zero (y ∷ xs) x h = refl
take_here (suc n) [] x h = absurd (omega (arith, h))
take_here (suc n) (y ∷ xs) x h =
    let m : suc n + 1 ≡ suc (n + 1) = omega arith in
    ap (λ (k : ℕ). take k (y ∷ insert xs n x)) m ∙ ap (λ ys. y ∷ ys) (take_here n xs x (omega (arith, h)))

drop_here : {T : Type 0} (n : ℕ) (xs : List T) (x : T) → n ≤ length xs → drop (n + 1) (insert xs n x) ≡ drop n xs
drop_here zero [] x h = refl
drop_here zero (y ∷ xs) x h = refl
drop_here (suc n) [] x h = absurd (omega (arith, h))
drop_here (suc n) (y ∷ xs) x h =
    let m : suc n + 1 ≡ suc (n + 1) = omega arith in
    ap (λ (k : ℕ). drop k (y ∷ insert xs n x)) m ∙ drop_here n xs x (omega (arith, h))

take_later : {T : Type 0} (n k : ℕ) (xs : List T) (x : T) → n ≤ length xs → take n (insert xs (n + k) x) ≡ take n xs
take_later zero k xs x h = refl
take_later (suc n) k [] x h = absurd (omega (arith, h))
take_later (suc n) k (y ∷ xs) x h =
    let m : suc n + k ≡ suc (n + k) = omega arith in
    ap (λ (j : ℕ). take (suc n) (insert (y ∷ xs) j x)) m ∙ ap (λ ys. y ∷ ys) (take_later n k xs x (omega (arith, h)))

drop_later : {T : Type 0} (n k : ℕ) (xs : List T) (x : T) → n ≤ length xs → drop n (insert xs (n + k) x) ≡ insert (drop n xs) k x
drop_later zero k xs x h = let m : 0 + k ≡ k = omega arith in ap (λ (j : ℕ). insert xs j x) m
drop_later (suc n) k [] x h = absurd (omega (arith, h))
drop_later (suc n) k (y ∷ xs) x h =
    let m : suc n + k ≡ suc (n + k) = omega arith in
    ap (λ (j : ℕ). drop (suc n) (insert (y ∷ xs) j x)) m ∙ drop_later n k xs x (omega (arith, h))

pub put_inside : {T : Type 0} (d : ℕ) (ns : List ℕ) (xs : List T) (x : T) → d < length ns → total ns ≤ length xs → cut (raised_at d ns) (insert xs (end_of d ns) x) ≡ grown_at d x (cut ns xs)
put_inside d [] xs x k h = absurd (omega (arith, k))
put_inside zero (n ∷ ns) xs x k h =
    let l : n ≤ length xs = omega (arith, h) in
    ap (λ ps. ps ∷ cut ns (drop (n + 1) (insert xs n x))) (take_here n xs x l)
    ∙ ap (λ ys. (take n xs ++ x ∷ []) ∷ cut ns ys) (drop_here n xs x l)
put_inside (suc d) (n ∷ ns) xs x k h =
    let l : n ≤ length xs = omega (arith, h) in
    ap (λ ps. ps ∷ cut (raised_at d ns) (drop n (insert xs (n + end_of d ns) x))) (take_later n (end_of d ns) xs x l)
    ∙ ap (λ ys. take n xs ∷ cut (raised_at d ns) ys) (drop_later n (end_of d ns) xs x l)
    ∙ ap (λ ps. take n xs ∷ ps) (put_inside d ns (drop n xs) x (omega (arith, k)) (omega (arith, h, length-drop n xs)))

raised_total : (d : ℕ) (ns : List ℕ) → total (raised_at d ns) ≤ total ns + 1
raised_total d [] = omega arith
raised_total zero (n ∷ ns) = omega arith
raised_total (suc d) (n ∷ ns) = let e = raised_total d ns in omega (arith, e)

end_within : (d : ℕ) (ns : List ℕ) → end_of d ns ≤ total ns
end_within d [] = omega arith
end_within zero (n ∷ ns) = omega arith
end_within (suc d) (n ∷ ns) = let e = end_within d ns in omega (arith, e)

pub fits_longer : {T : Type 0} (d : ℕ) (ns : List ℕ) (xs : List T) (x : T) → total ns ≤ length xs → total ns ≤ length (insert xs (end_of d ns) x)
fits_longer d ns xs x h =
    let e = end_within d ns in
    let l = length-insert xs (end_of d ns) x (omega (arith, e, h)) in
    omega (arith, l, h)

pub fits_raised : {T : Type 0} (d : ℕ) (ns : List ℕ) (xs : List T) (x : T) → total ns ≤ length xs → total (raised_at d ns) ≤ length (insert xs (end_of d ns) x)
fits_raised d ns xs x h =
    let e = end_within d ns in
    let l = length-insert xs (end_of d ns) x (omega (arith, e, h)) in
    omega (arith, l, h, raised_total d ns)

pub raised : (d n : ℕ) (ns : List ℕ) → slice_get ns d ≡ Some n → slice_set ns d (n + 1) ≡ raised_at d ns
raised zero n [] h = refl
raised (suc d) n [] h = refl
raised zero n (m ∷ ns) h = let e : m ≡ n = cc h in ap (λ (k : ℕ). (k + 1) ∷ ns) (sym e)
raised (suc d) n (m ∷ ns) h = ap (λ ks. m ∷ ks) (raised d n ns h)

-- ---- one piece more, one fewer

more : {T : Type 0} (ns : List ℕ) (m : ℕ) (xs : List T) → total ns + m ≡ length xs → cut (ns ++ m ∷ []) xs ≡ cut ns xs ++ [] ∷ []
more [] m xs h =
    ap (λ ys. ys ∷ drop m xs ∷ []) (take_all m xs (omega (arith, h))) ∙ ap (λ ys. xs ∷ ys ∷ []) (drop_all m xs (omega (arith, h)))
more (n ∷ ns) m xs h = ap (λ ps. take n xs ∷ ps) (more ns m (drop n xs) (omega (arith, h, length-drop n xs)))

pub one_more : {T : Type 0} (ns : List ℕ) (xs : List T) → total ns ≤ length xs → cut (ns ++ (length xs - total ns) ∷ []) xs ≡ cut ns xs ++ [] ∷ []
one_more ns xs h = more ns (length xs - total ns) xs (omega (arith, h))

counted : (ns : List ℕ) (m : ℕ) → total (ns ++ m ∷ []) ≡ total ns + m
counted [] m = omega arith
counted (n ∷ ns) m = let e = counted ns m in omega (arith, e)

pub all_counted : {T : Type 0} (ns : List ℕ) (xs : List T) → total ns ≤ length xs → total (ns ++ (length xs - total ns) ∷ []) ≤ length xs
all_counted ns xs h = omega (arith, h, counted ns (length xs - total ns))

abbrev init : List ℕ → List ℕ
init [] = []
init (n ∷ []) = []
init (n ∷ m ∷ ns) = n ∷ init (m ∷ ns)

init_take : (ns : List ℕ) → take (length ns - 1) ns ≡ init ns
init_take [] = refl
init_take (n ∷ []) = refl
init_take (n ∷ m ∷ ns) =
    let e : length (n ∷ m ∷ ns) - 1 ≡ suc (length (m ∷ ns) - 1) = omega arith in
    ap (λ (k : ℕ). take k (n ∷ m ∷ ns)) e ∙ ap (λ ks. n ∷ ks) (init_take (m ∷ ns))

join : {T : Type 0} (ns : List ℕ) (xs : List T) → cut (init ns) xs ≡ join_last (cut ns xs)
join [] xs = refl
join (n ∷ []) xs = ap (λ ys. ys ∷ []) (sym (take-append-drop n xs))
join (n ∷ m ∷ []) xs = ap (λ ps. take n xs ∷ ps) (join (m ∷ []) (drop n xs))
join (n ∷ m ∷ k ∷ ns) xs = ap (λ ps. take n xs ∷ ps) (join (m ∷ k ∷ ns) (drop n xs))

pub joined : {T : Type 0} (ns : List ℕ) (xs : List T) → cut (take (length ns - 1) ns) xs ≡ join_last (cut ns xs)
joined ns xs = ap (λ (ks : List ℕ). cut ks xs) (init_take ns) ∙ join ns xs

init_total : (ns : List ℕ) → total (init ns) ≤ total ns
init_total [] = omega arith
init_total (n ∷ []) = omega arith
init_total (n ∷ m ∷ ns) = let e = init_total (m ∷ ns) in omega (arith, e)

pub fits_joined : (ns : List ℕ) (l : ℕ) → total ns ≤ l → total (take (length ns - 1) ns) ≤ l
fits_joined ns l h = omega (arith, h, init_total ns, ap total (init_take ns))
