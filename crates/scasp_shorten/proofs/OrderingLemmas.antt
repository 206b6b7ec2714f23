-- A list in order tells the same.
use Rattle.std.proofs.Common.{◌≡◌, ℕ, Bool, true, false, not, ◌&&◌, ◌||◌, List, [], ◌∷◌, ◌++◌, refl, sym, ap, ◌∙◌}
use Rattle.std.specs.Prelude.{if◌then◌else◌, filter}
use Rattle.std.specs.List.{list_all}
use Rattle.std.proofs.lemmas.Bool.{and_from, and_parts}
use Rattle.std.proofs.lemmas.List.Folds.{list_all-append}
use Rattle.scasp_list.specs.Each.{Each}
use Rattle.scasp_list.proofs.EachLemmas.{Each-append, Each-filter}
use Rattle.scasp_syntax.specs.Values.{Sub}
use Rattle.scasp_syntax.specs.declared.con.Con.{Con}
use Rattle.scasp_shorten.specs.Shortest.{bound_of, bounds_first, in_order, is_bound, is_lower, is_upper, put_by}
use Rattle.scasp_shorten.specs.Told.{tells, tells_all}
use Rattle.scasp_shorten.specs.declared.ordering.Bound.{Bound}
use Rattle.scasp_shorten.specs.declared.ordering.Bound.TheVariants as bound
use Rattle.scasp_shorten.proofs.ShorteningLemmas.{all-filter, same-test}

-- all pass where those that are picked and those that are not do
all-parted : (p a b : Con → Bool) (cs : List Con) → list_all p (filter a cs) ≡ true → list_all p (filter b cs) ≡ true → list_all p (filter (λ c. not (a c || b c)) cs) ≡ true → list_all p cs ≡ true
all-parted p a b [] x y z = refl
all-parted p a b (c ∷ cs) x y z = by (a c) (b c) refl refl (all-parted p a b cs)
  where
    part : (Con → Bool) → Bool → Bool
    part f k = list_all p (if k then c ∷ filter f cs else filter f cs)

    rest : Con → Bool
    rest d = not (a d || b d)

    first : (f : Con → Bool) → part f true ≡ true → (p c ≡ true) × (list_all p (filter f cs) ≡ true)
    first f e = and_parts (p c) (list_all p (filter f cs)) e

    by : (i j : Bool) → a c ≡ i → b c ≡ j
        → (list_all p (filter a cs) ≡ true → list_all p (filter b cs) ≡ true → list_all p (filter rest cs) ≡ true → list_all p cs ≡ true)
        → list_all p (c ∷ cs) ≡ true
    by true true e g more =
        let q = first a (sym (ap (part a) e) ∙ x) in
        and_from (p c) (list_all p cs) q.0 (more q.1 (first b (sym (ap (part b) g) ∙ y)).1 (sym (ap (λ i. part rest (not (i || b c))) e) ∙ z))
    by true false e g more =
        let q = first a (sym (ap (part a) e) ∙ x) in
        and_from (p c) (list_all p cs) q.0 (more q.1 (sym (ap (part b) g) ∙ y) (sym (ap (λ i. part rest (not (i || b c))) e) ∙ z))
    by false true e g more =
        let q = first b (sym (ap (part b) g) ∙ y) in
        and_from (p c) (list_all p cs) q.0 (more (sym (ap (part a) e) ∙ x) q.1 (sym (ap (λ i. part rest (not (i || b c))) e ∙ ap (λ j. part rest (not (false || j))) g) ∙ z))
    by false false e g more =
        let q = first rest (sym (ap (λ i. part rest (not (i || b c))) e ∙ ap (λ j. part rest (not (false || j))) g) ∙ z) in
        and_from (p c) (list_all p cs) q.0 (more (sym (ap (part a) e) ∙ x) (sym (ap (part b) g) ∙ y) q.1)

bounds-told : (v : Sub) (x : ℕ) (cs : List Con) → tells_all v (bounds_first x cs) ≡ tells_all v cs
bounds-told v x cs = whole ∙ same-test (list_all p (filter a cs) && (list_all p (filter b cs) && list_all p (filter rest cs))) (list_all p cs) back forth
  where
    p : Con → Bool
    p = tells v

    a : Con → Bool
    a c = is_lower x (bound_of c)

    b : Con → Bool
    b c = is_upper x (bound_of c)

    rest : Con → Bool
    rest c = not (a c || b c)

    whole : tells_all v (bounds_first x cs) ≡ (list_all p (filter a cs) && (list_all p (filter b cs) && list_all p (filter rest cs)))
    whole = list_all-append p (filter a cs) (filter b cs ++ filter rest cs) ∙ ap (λ k. list_all p (filter a cs) && k) (list_all-append p (filter b cs) (filter rest cs))

    back : (list_all p (filter a cs) && (list_all p (filter b cs) && list_all p (filter rest cs))) ≡ true → list_all p cs ≡ true
    back e =
        let q = and_parts (list_all p (filter a cs)) (list_all p (filter b cs) && list_all p (filter rest cs)) e in
        let r = and_parts (list_all p (filter b cs)) (list_all p (filter rest cs)) q.1 in
        all-parted p a b cs q.0 r.0 r.1

    forth : list_all p cs ≡ true → (list_all p (filter a cs) && (list_all p (filter b cs) && list_all p (filter rest cs))) ≡ true
    forth e = and_from (list_all p (filter a cs)) (list_all p (filter b cs) && list_all p (filter rest cs)) (all-filter p a cs e) (and_from (list_all p (filter b cs)) (list_all p (filter rest cs)) (all-filter p b cs e) (all-filter p rest cs e))

put-told : (v : Sub) (b : Bound) (cs : List Con) → tells_all v (put_by b cs) ≡ tells_all v cs
put-told v bound.None cs = refl
put-told v (bound.Lower x) cs = bounds-told v x cs
put-told v (bound.Upper x) cs = bounds-told v x cs

pub order-told : (v : Sub) (cs : List Con) → tells_all v (in_order cs) ≡ tells_all v cs
order-told v [] = refl
order-told v (c ∷ cs) = put-told v (bound_of c) (c ∷ in_order cs) ∙ ap (λ b. tells v c && b) (order-told v cs)

bounds-each : (P : Con → Type 0) (x : ℕ) (cs : List Con) → Each P cs → Each P (bounds_first x cs)
bounds-each P x cs h =
    let lows = filter (λ c. is_lower x (bound_of c)) cs in
    let highs = filter (λ c. is_upper x (bound_of c)) cs in
    let others = filter (λ c. not (is_bound x (bound_of c))) cs in
    Each-append P lows (highs ++ others) (Each-filter P (λ c. is_lower x (bound_of c)) cs h)
    (Each-append P highs others (Each-filter P (λ c. is_upper x (bound_of c)) cs h) (Each-filter P (λ c. not (is_bound x (bound_of c))) cs h))

put-each : (P : Con → Type 0) (b : Bound) (cs : List Con) → Each P cs → Each P (put_by b cs)
put-each P bound.None cs h = h
put-each P (bound.Lower x) cs h = bounds-each P x cs h
put-each P (bound.Upper x) cs h = bounds-each P x cs h

pub order-each : (P : Con → Type 0) (cs : List Con) → Each P cs → Each P (in_order cs)
order-each P [] h = tt
order-each P (c ∷ cs) h = put-each P (bound_of c) (c ∷ in_order cs) (h.0, order-each P cs h.1)
