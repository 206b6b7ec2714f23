-- Pieces of lines with the last one first.
use Rattle.std.specs.Prelude.{◌≡◌, ◌<◌, ◌+◌, ◌-◌, ℕ, zero, suc, List, [], ◌∷◌, ◌++◌, length, reverse, refl}
use Rattle.std.proofs.Common.{append_assoc, arith, ap, sym, length-append, ◌∙◌}
use Rattle.std.proofs.lemmas.List.{length-reverse, reverse-append, reverse-reverse}
use Rattle.scasp_search_rules.specs.declared.states.lines.Line.{Line}
use Rattle.scasp_search_trail.specs.States.{first, others}
use Rattle.scasp_told.specs.Pieces.{grown_at, join_last, last_of}

pub turned_cons : {T : Type 0} (x : T) (xs : List T) → reverse (x ∷ xs) ≡ reverse xs ++ x ∷ []
turned_cons x xs = reverse-append (x ∷ []) xs

-- a list by its last item
pub turned : {T : Type 0} (xs : List T) (y : T) (ys : List T) → reverse xs ≡ y ∷ ys → xs ≡ reverse ys ++ y ∷ []
turned xs y ys e = sym (reverse-reverse xs) ∙ ap reverse e ∙ turned_cons y ys

pub turned_none : {T : Type 0} (xs : List T) → reverse xs ≡ [] → xs ≡ []
turned_none xs e = sym (reverse-reverse xs) ∙ ap reverse e

-- ---- the last piece

last_append : (xs : List (List Line)) (q : List Line) → last_of (xs ++ q ∷ []) ≡ q
last_append [] q = refl
last_append (x ∷ []) q = refl
last_append (x ∷ y ∷ xs) q = last_append (y ∷ xs) q

pub last_first : (ps : List (List Line)) → last_of ps ≡ first (reverse ps)
last_first ps = by (reverse ps) refl
  where
    by : (rs : List (List Line)) → reverse ps ≡ rs → last_of ps ≡ first rs
    by [] e = ap last_of (turned_none ps e)
    by (q ∷ qs) e = ap last_of (turned ps q qs e) ∙ last_append (reverse qs) q

-- ---- one more line

grown_last : (xs : List (List Line)) (q : List Line) (x : Line) → grown_at (length xs) x (xs ++ q ∷ []) ≡ xs ++ (q ++ x ∷ []) ∷ []
grown_last [] q x = refl
grown_last (p ∷ xs) q x = ap (λ (ps : List (List Line)). p ∷ ps) (grown_last xs q x)

pub told_more : (ps : List (List Line)) (x : Line) → 0 < length ps → reverse (grown_at (length ps - 1) x ps) ≡ (first (reverse ps) ++ x ∷ []) ∷ others (reverse ps)
told_more ps x h = by (reverse ps) refl
  where
    by : (rs : List (List Line)) → reverse ps ≡ rs → reverse (grown_at (length ps - 1) x ps) ≡ (first rs ++ x ∷ []) ∷ others rs
    by [] e = absurd (omega (arith, h, ap length (turned_none ps e)))
    by (q ∷ qs) e =
        let d : ps ≡ reverse qs ++ q ∷ [] = turned ps q qs e in
        let n : length ps - 1 ≡ length (reverse qs) = omega (arith, ap length d, length-append (reverse qs) (q ∷ [])) in
        (λ i. reverse (grown_at (n i) x (d i))) ∙ ap reverse (grown_last (reverse qs) q x) ∙ reverse-append (reverse qs) ((q ++ x ∷ []) ∷ [])
        ∙ ap (λ (zs : List (List Line)). (q ++ x ∷ []) ∷ zs) (reverse-reverse qs)

-- one more line of another piece

grown_inside : (k : ℕ) (x : Line) (xs ys : List (List Line)) → k < length xs → grown_at k x (xs ++ ys) ≡ grown_at k x xs ++ ys
grown_inside k x [] ys h = absurd (omega (arith, h))
grown_inside zero x (p ∷ xs) ys h = refl
grown_inside (suc k) x (p ∷ xs) ys h = ap (λ (ps : List (List Line)). p ∷ ps) (grown_inside k x xs ys (omega (arith, h)))

grown_turned : (k : ℕ) (x : Line) (ps : List (List Line)) → k < length ps → reverse (grown_at k x ps) ≡ grown_at (length ps - suc k) x (reverse ps)
grown_turned k x [] h = absurd (omega (arith, h))
grown_turned zero x (p ∷ ps) h =
    let n : length (reverse ps) ≡ length (p ∷ ps) - suc zero = omega (arith, length-reverse ps) in
    turned_cons (p ++ x ∷ []) ps ∙ sym (grown_last (reverse ps) p x) ∙ (λ i. grown_at (n i) x (sym (turned_cons p ps) i))
grown_turned (suc k) x (p ∷ ps) h =
    let n : length ps - suc k ≡ length (p ∷ ps) - suc (suc k) = omega arith in
    turned_cons p (grown_at k x ps)
    ∙ ap (λ (zs : List (List Line)). zs ++ p ∷ []) (grown_turned k x ps (omega (arith, h)))
    ∙ sym (grown_inside (length ps - suc k) x (reverse ps) (p ∷ []) (omega (arith, h, length-reverse ps)))
    ∙ (λ i. grown_at (n i) x (sym (turned_cons p ps) i))

-- the last piece stays, and of the others that at this place from the end has grown
grown_behind : (k j : ℕ) (x : Line) (ps : List (List Line)) → suc (suc k) + j ≡ length ps
    → (first (reverse (grown_at k x ps)) ≡ first (reverse ps)) × (others (reverse (grown_at k x ps)) ≡ grown_at j x (others (reverse ps)))
grown_behind k j x ps h = by (reverse ps) refl
  where
    by : (rs : List (List Line)) → reverse ps ≡ rs
        → (first (reverse (grown_at k x ps)) ≡ first rs) × (others (reverse (grown_at k x ps)) ≡ grown_at j x (others rs))
    by [] e = absurd (omega (arith, h, ap length (turned_none ps e)))
    by (q ∷ qs) e =
        let n : length ps - suc k ≡ suc j = omega (arith, h) in
        let d : reverse (grown_at k x ps) ≡ q ∷ grown_at j x qs = grown_turned k x ps (omega (arith, h)) ∙ (λ i. grown_at (n i) x (e i)) in
        (ap first d, ap others d)

pub grown_first : (k : ℕ) (x : Line) (ps news : List (List Line)) → k + 1 < length ps → news ≡ grown_at k x ps → first (reverse news) ≡ first (reverse ps)
grown_first k x ps news h e =
    let n : suc (suc k) + (length ps - suc (suc k)) ≡ length ps = omega (arith, h) in
    ap (λ (zs : List (List Line)). first (reverse zs)) e ∙ (grown_behind k (length ps - suc (suc k)) x ps n).0

pub grown_others : (k j : ℕ) (x : Line) (ps : List (List Line)) → suc (suc k) + j ≡ length ps → others (reverse (grown_at k x ps)) ≡ grown_at j x (others (reverse ps))
grown_others k j x ps h = (grown_behind k j x ps h).1

-- ---- one piece more, one fewer

pub one_more : {T : Type 0} (xs : List T) (x : T) → reverse (xs ++ x ∷ []) ≡ x ∷ reverse xs
one_more xs x = reverse-append xs (x ∷ [])

join_append : (xs : List (List Line)) (p q : List Line) → join_last (xs ++ p ∷ q ∷ []) ≡ xs ++ (p ++ q) ∷ []
join_append [] p q = refl
join_append (x ∷ []) p q = refl
join_append (x ∷ y ∷ []) p q = refl
join_append (x ∷ y ∷ z ∷ xs) p q = ap (λ (ps : List (List Line)). x ∷ ps) (join_append (y ∷ z ∷ xs) p q)

pub joined : (ps : List (List Line)) → 1 < length ps → reverse (join_last ps) ≡ (first (others (reverse ps)) ++ first (reverse ps)) ∷ others (others (reverse ps))
joined ps h = by (reverse ps) refl
  where
    by : (rs : List (List Line)) → reverse ps ≡ rs → reverse (join_last ps) ≡ (first (others rs) ++ first rs) ∷ others (others rs)
    by [] e = absurd (omega (arith, h, ap length (turned_none ps e)))
    by (q ∷ []) e = absurd (omega (arith, h, ap length (turned ps q [] e)))
    by (q ∷ p ∷ qs) e =
        let d : ps ≡ reverse qs ++ p ∷ q ∷ [] = turned ps q (p ∷ qs) e ∙ ap (λ (zs : List (List Line)). zs ++ q ∷ []) (turned_cons p qs) ∙ append_assoc (reverse qs) (p ∷ []) (q ∷ []) in
        ap (λ (zs : List (List Line)). reverse (join_last zs)) d ∙ ap reverse (join_append (reverse qs) p q) ∙ reverse-append (reverse qs) ((p ++ q) ∷ [])
        ∙ ap (λ (zs : List (List Line)). (p ++ q) ∷ zs) (reverse-reverse qs)

length_others : (ps : List (List Line)) → length (others ps) ≡ length ps - 1
length_others [] = refl
length_others (p ∷ ps) = omega arith

pub others_length : (ps : List (List Line)) → length (others (reverse ps)) ≡ length ps - 1
others_length ps = omega (arith, length_others (reverse ps), length-reverse ps)

-- the last two pieces are one, after the last has changed
joined_after : (ps qs news : List (List Line)) → 1 < length ps → others (reverse qs) ≡ others (reverse ps) → news ≡ join_last qs
    → reverse news ≡ (first (others (reverse ps)) ++ last_of qs) ∷ others (others (reverse ps))
joined_after ps qs news h o e =
    let l : 1 < length qs = omega (arith, h, others_length ps, others_length qs, ap length o) in
    ap reverse e ∙ joined qs l ∙ (λ i. (first (o i) ++ sym (last_first qs) i) ∷ others (o i))

pub joined_first : (ps qs news : List (List Line)) (ls : List Line) → 1 < length ps → last_of qs ≡ ls → others (reverse qs) ≡ others (reverse ps) → news ≡ join_last qs
    → first (reverse news) ≡ first (others (reverse ps)) ++ ls
joined_first ps qs news ls h l o e = ap first (joined_after ps qs news h o e) ∙ ap (λ (xs : List Line). first (others (reverse ps)) ++ xs) l

pub joined_others : (ps qs news : List (List Line)) → 1 < length ps → others (reverse qs) ≡ others (reverse ps) → news ≡ join_last qs
    → others (reverse news) ≡ others (others (reverse ps))
joined_others ps qs news h o e = ap others (joined_after ps qs news h o e)
