-- Rules over numbers, read by a table of distinct atoms: their least set is read as the least model.
use Rattle.std.proofs.Common.{◌≡◌, ◌∷◌, ◌++◌, ◌∙◌, ℕ, zero, suc, ◌+◌, ◌<◌, Bool, true, false, ◌&&◌, ◌||◌, not, if◌then◌else◌, List, [], length, take, get_or, slice_get, Some, refl, sym, ap, subst, inl, inr, arith, add-one, append_assoc, append-nil}
use Rattle.std.specs.Prelude.{Result, Ok, Err, IfOk}
use Rattle.std.specs.List.{list_all}
use Rattle.std.proofs.lemmas.Bool.{true≢false, false≢true, and_parts, and_from, or_cases, or_left, or_right, not-true, cond-true, cond-false, cond_both, cases_Bool}
use Rattle.scasp_model.specs.Atoms.{among, has_all, SameAtoms, are_distinct}
use Rattle.scasp_model.specs.Least.{least_model, is_closed}
use Rattle.scasp_model.specs.declared.program.DefiniteRule.{DefiniteRule}
use Rattle.scasp_model.proofs.AtomLemmas.{among-append, among-within, same_atom-self}
use Rattle.scasp_model.proofs.LeastLemmas.{least_model-closed, rounds-within}
use Rattle.scasp_syntax.specs.Same.{same_atom}
use Rattle.scasp_syntax.specs.declared.atom.Atom.{Atom}
use Rattle.scasp_syntax.proofs.SameLemmas.{atom_decided}
use Rattle.scasp_tables.specs.Tables.{with_atom}
use Rattle.scasp_worklist.specs.Numbered.{keeps, is_closed_under, IsLeast}
use Rattle.scasp_worklist.specs.declared.numbered.NumberedRule.{NumberedRule}
use Rattle.scasp_closure.specs.Reading.{Stand, StandFor, Extends, atoms_in, atoms_onto}

-- ---- tables that grow

pub Extends-trans : (t u v : List Atom) → Extends t u → Extends u v → Extends t v
Extends-trans t u v e f n a h = f n a (e n a h)

get-pushed : (t : List Atom) (b : Atom) (n : ℕ) (a : Atom) → slice_get t n ≡ Some a → slice_get (t ++ b ∷ []) n ≡ Some a
get-pushed [] b n a h = cc
get-pushed (c ∷ t) b zero a h = h
get-pushed (c ∷ t) b (suc n) a h = get-pushed t b n a h

pub Extends-with_atom : (t u : List Atom) (a : Atom) → u ≡ with_atom t a → Extends t u
Extends-with_atom t u a e n b h =
    ap (λ z. slice_get z n) e
    ∙ cond_both (among t a) t (t ++ a ∷ []) (λ z. slice_get z n ≡ Some b) (λ i. h) (λ i. get-pushed t a n b h)

pub Stand-extended : (t u : List Atom) (ns : List ℕ) (bs : List Atom) → Extends t u → Stand t ns bs → Stand u ns bs
Stand-extended t u [] [] e s = s
Stand-extended t u [] (a ∷ bs) e s = s
Stand-extended t u (n ∷ ns) [] e s = s
Stand-extended t u (n ∷ ns) (a ∷ bs) e s = (e n a s.0, Stand-extended t u ns bs e s.1)

pub Stand-pushed : (t : List Atom) (ns : List ℕ) (bs : List Atom) (n : ℕ) (a : Atom) → Stand t ns bs → slice_get t n ≡ Some a → Stand t (ns ++ n ∷ []) (bs ++ a ∷ [])
Stand-pushed t [] [] n a s h = (h, tt)
Stand-pushed t [] (b ∷ bs) n a s h = absurd s
Stand-pushed t (m ∷ ns) [] n a s h = absurd s
Stand-pushed t (m ∷ ns) (b ∷ bs) n a s h = (s.0, Stand-pushed t ns bs n a s.1 h)

pub StandFor-extended : (t u : List Atom) (ns : List NumberedRule) (rs : List DefiniteRule) → Extends t u → StandFor t ns rs → StandFor u ns rs
StandFor-extended t u [] [] e s = s
StandFor-extended t u [] (r ∷ rs) e s = s
StandFor-extended t u (n ∷ ns) [] e s = s
StandFor-extended t u (n ∷ ns) (r ∷ rs) e s =
    (e n.head r.head s.0, Stand-extended t u n.body r.body e s.1, StandFor-extended t u ns rs e s.2)

pub StandFor-pushed : (t : List Atom) (ns : List NumberedRule) (rs : List DefiniteRule) (n : NumberedRule) (r : DefiniteRule) → StandFor t ns rs → slice_get t n.head ≡ Some r.head → Stand t n.body r.body → StandFor t (ns ++ n ∷ []) (rs ++ r ∷ [])
StandFor-pushed t [] [] n r s h b = (h, b, tt)
StandFor-pushed t [] (q ∷ rs) n r s h b = absurd s
StandFor-pushed t (m ∷ ns) [] n r s h b = absurd s
StandFor-pushed t (m ∷ ns) (q ∷ rs) n r s h b = (s.0, s.1, StandFor-pushed t ns rs n r s.2 h b)

-- ---- atoms by number

-- an atom of the set stands at a number of the set
record InSet (set : ℕ → Bool) (table : List Atom) (a : Atom) : Type 0 where
  number : ℕ
  at : slice_get table number ≡ Some a
  inside : set number ≡ true

in-set : (set : ℕ → Bool) (table : List Atom) (a : Atom) → among (atoms_in set table) a ≡ true → InSet set table a
in-set set [] a h = absurd (false≢true h)
in-set set (b ∷ table) a h =
    let rest : List Atom = atoms_in (λ n. set (suc n)) table in
    let later : among rest a ≡ true → InSet set (b ∷ table) a =
    λ k. let i = in-set (λ n. set (suc n)) table a k in record { number = suc i.number; at = i.at; inside = i.inside } in
    elim (cases_Bool (set 0)) [
      | inl t ↦
          elim (or_cases (same_atom a b) (among rest a) (ap (λ z. among z a) (sym (cond-true (set 0) (b ∷ rest) rest t)) ∙ h)) [
            | inl s ↦ record { number = 0; at = ap Some (sym ((atom_decided a b).0 s)); inside = t }
            | inr k ↦ later k
          ]
      | inr f ↦ later (ap (λ z. among z a) (sym (cond-false (set 0) (b ∷ rest) rest f)) ∙ h)
    ]

from-set : (set : ℕ → Bool) (table : List Atom) (a : Atom) (n : ℕ) → slice_get table n ≡ Some a → set n ≡ true → among (atoms_in set table) a ≡ true
from-set set [] a n e t = cc
from-set set (b ∷ table) a zero e t =
    let rest : List Atom = atoms_in (λ n. set (suc n)) table in
    let same : b ≡ a = cc in
    ap (λ z. among z a) (cond-true (set 0) (b ∷ rest) rest t)
    ∙ or_left (same_atom a b) (among rest a) ((atom_decided a b).1 (sym same))
from-set set (b ∷ table) a (suc n) e t =
    let rest : List Atom = atoms_in (λ n. set (suc n)) table in
    let k = from-set (λ n. set (suc n)) table a n e t in
    cond_both (set 0) (b ∷ rest) rest (λ z. among z a ≡ true) (λ i. or_right (same_atom a b) (among rest a) k) (λ i. k)

among-at : (table : List Atom) (a : Atom) (n : ℕ) → slice_get table n ≡ Some a → among table a ≡ true
among-at [] a n e = cc
among-at (b ∷ table) a zero e = let same : b ≡ a = cc in or_left (same_atom a b) (among table a) ((atom_decided a b).1 (sym same))
among-at (b ∷ table) a (suc n) e = or_right (same_atom a b) (among table a) (among-at table a n e)

-- an atom stands once
one-number : (table : List Atom) (a : Atom) (n m : ℕ) → are_distinct table ≡ true → slice_get table n ≡ Some a → slice_get table m ≡ Some a → n ≡ m
one-number [] a n m d e f = cc
one-number (b ∷ table) a zero zero d e f = refl
one-number (b ∷ table) a zero (suc m) d e f =
    let same : b ≡ a = cc in
    let p = and_parts (not (among table b)) (are_distinct table) d in
    absurd (true≢false (sym (among-at table a m f) ∙ ap (among table) (sym same) ∙ not-true (among table b) p.0))
one-number (b ∷ table) a (suc n) zero d e f =
    let same : b ≡ a = cc in
    let p = and_parts (not (among table b)) (are_distinct table) d in
    absurd (true≢false (sym (among-at table a n e) ∙ ap (among table) (sym same) ∙ not-true (among table b) p.0))
one-number (b ∷ table) a (suc n) (suc m) d e f =
    ap suc (one-number table a n m (and_parts (not (among table b)) (are_distinct table) d).1 e f)

-- ---- the least set

body-in : (table : List Atom) (set : ℕ → Bool) (ns : List ℕ) (bs : List Atom) → are_distinct table ≡ true → Stand table ns bs → has_all (atoms_in set table) bs ≡ true → list_all set ns ≡ true
body-in table set [] bs d s h = refl
body-in table set (n ∷ ns) [] d s h = absurd s
body-in table set (n ∷ ns) (a ∷ bs) d s h =
    let p = and_parts (among (atoms_in set table) a) (has_all (atoms_in set table) bs) h in
    let i = in-set set table a p.0 in
    and_from (set n) (list_all set ns) (ap set (one-number table a n i.number d s.0 i.at) ∙ i.inside) (body-in table set ns bs d s.1 p.1)

if-true : (b c : Bool) → (b ≡ true → c ≡ true) → (if b then c else true) ≡ true
if-true true c f = f refl
if-true false c f = refl

then-true : (b c : Bool) → (if b then c else true) ≡ true → b ≡ true → c ≡ true
then-true true c h e = h
then-true false c h e = absurd (false≢true e)

closed-read : (table : List Atom) (set : ℕ → Bool) (ns : List NumberedRule) (rs : List DefiniteRule) → are_distinct table ≡ true → StandFor table ns rs → is_closed_under ns set ≡ true → is_closed rs (atoms_in set table) ≡ true
closed-read table set [] [] d s c = refl
closed-read table set [] (r ∷ rs) d s c = absurd s
closed-read table set (n ∷ ns) [] d s c = absurd s
closed-read table set (n ∷ ns) (r ∷ rs) d s c =
    let m : List Atom = atoms_in set table in
    let p = and_parts (keeps set n.head n.body) (is_closed_under ns set) c in
    and_from (if has_all m r.body then among m r.head else true) (is_closed rs m)
    (if-true (has_all m r.body) (among m r.head)
    (λ h. from-set set table r.head n.head s.0 (then-true (list_all set n.body) (set n.head) p.0 (body-in table set n.body r.body d s.1 h))))
    (closed-read table set ns rs d s.2 p.1)

-- whether the atom of a number is in a model
abbrev test_at : List Atom → List Atom → ℕ → Bool
test_at model [] n = false
test_at model (a ∷ table) zero = among model a
test_at model (a ∷ table) (suc n) = test_at model table n

test-is : (model table : List Atom) (n : ℕ) (a : Atom) → slice_get table n ≡ Some a → test_at model table n ≡ among model a
test-is model [] n a e = cc
test-is model (b ∷ table) zero a e = let same : b ≡ a = cc in ap (among model) same
test-is model (b ∷ table) (suc n) a e = test-is model table n a e

body-tested : (model table : List Atom) (ns : List ℕ) (bs : List Atom) → Stand table ns bs → list_all (test_at model table) ns ≡ has_all model bs
body-tested model table [] [] s = refl
body-tested model table [] (a ∷ bs) s = absurd s
body-tested model table (n ∷ ns) [] s = absurd s
body-tested model table (n ∷ ns) (a ∷ bs) s = λ j. test-is model table n a s.0 j && body-tested model table ns bs s.1 j

closed-tested : (model table : List Atom) (ns : List NumberedRule) (rs : List DefiniteRule) → StandFor table ns rs → is_closed_under ns (test_at model table) ≡ is_closed rs model
closed-tested model table [] [] s = refl
closed-tested model table [] (r ∷ rs) s = absurd s
closed-tested model table (n ∷ ns) [] s = absurd s
closed-tested model table (n ∷ ns) (r ∷ rs) s =
    λ j. (if body-tested model table n.body r.body s.1 j then test-is model table n.head r.head s.0 j else true) && closed-tested model table ns rs s.2 j

pub same_truth : (x y : Bool) → (x ≡ true → y ≡ true) → (y ≡ true → x ≡ true) → x ≡ y
same_truth true y f g = sym (f refl)
same_truth false true f g = g refl
same_truth false false f g = refl

pub least-read : (table : List Atom) (ns : List NumberedRule) (rs : List DefiniteRule) (set : ℕ → Bool) → are_distinct table ≡ true → StandFor table ns rs → IsLeast ns set → SameAtoms (atoms_in set table) (least_model rs)
least-read table ns rs set d s l a =
    let m : List Atom = atoms_in set table in
    let model : List Atom = least_model rs in
    same_truth (among m a) (among model a)
    (λ h.
    let i = in-set set table a h in
    let closed = closed-tested model table ns rs s ∙ least_model-closed rs in
    sym (test-is model table i.number a i.at) ∙ l.within (test_at model table) closed i.number i.inside)
    (λ h. among-within m model a (rounds-within rs m (length rs) (closed-read table set ns rs d s l.closed)) h)

pub same-read : (table atoms : List Atom) (ns : List NumberedRule) (rs : List DefiniteRule) (set : ℕ → Bool) → are_distinct table ≡ true → StandFor table ns rs → IsLeast ns set → atoms ≡ atoms_in set table → SameAtoms atoms (least_model rs)
same-read table atoms ns rs set d s l e a = ap (λ z. among z a) e ∙ least-read table ns rs set d s l a

not-in : (set : ℕ → Bool) (table : List Atom) (a : Atom) → among table a ≡ false → among (atoms_in set table) a ≡ false
not-in set table a n =
    elim (cases_Bool (among (atoms_in set table) a)) [
      | inl t ↦
          (let i = in-set set table a t in absurd (true≢false (sym (among-at table a i.number i.at) ∙ n)))
      | inr f ↦ f
    ]

distinct-in : (set : ℕ → Bool) (table : List Atom) → are_distinct table ≡ true → are_distinct (atoms_in set table) ≡ true
distinct-in set [] d = refl
distinct-in set (b ∷ table) d =
    let rest : List Atom = atoms_in (λ n. set (suc n)) table in
    let p = and_parts (not (among table b)) (are_distinct table) d in
    let i = distinct-in (λ n. set (suc n)) table p.1 in
    cond_both (set 0) (b ∷ rest) rest (λ z. are_distinct z ≡ true)
    (λ t. and_from (not (among rest b)) (are_distinct rest) (ap not (not-in (λ n. set (suc n)) table b (not-true (among table b) p.0))) i)
    (λ f. i)

pub distinct-read : (table atoms : List Atom) (set : ℕ → Bool) → are_distinct table ≡ true → atoms ≡ atoms_in set table → are_distinct atoms ≡ true
distinct-read table atoms set d e = ap are_distinct e ∙ distinct-in set table d

-- ---- one atom after the other

pub onto-is : (set : ℕ → Bool) (n : ℕ) (made atoms : List Atom) → atoms_onto set n made atoms ≡ made ++ atoms_in (λ m. set (m + n)) atoms
onto-is set n made [] = sym (append-nil made)
onto-is set n made (a ∷ atoms) =
    let rest : List Atom = atoms_in (λ m. set (m + (n + 1))) atoms in
    let later : List Atom = atoms_in (λ m. set (suc m + n)) atoms in
    let same : rest ≡ later = ap (λ (f : ℕ → Bool). atoms_in f atoms) (λ j m. set (shift m j)) in
    onto-is set (n + 1) (if set n then made ++ a ∷ [] else made) atoms ∙ by (set n) refl same
  where
    shift : (m : ℕ) → m + (n + 1) ≡ suc m + n
    shift m = omega arith

    zero-plus : 0 + n ≡ n
    zero-plus = omega arith

    by : (b : Bool) → set n ≡ b → atoms_in (λ m. set (m + (n + 1))) atoms ≡ atoms_in (λ m. set (suc m + n)) atoms
        → (if set n then made ++ a ∷ [] else made) ++ atoms_in (λ m. set (m + (n + 1))) atoms
        ≡ made ++ (if set (0 + n) then a ∷ atoms_in (λ m. set (suc m + n)) atoms else atoms_in (λ m. set (suc m + n)) atoms)
    by true e s =
        ap (λ z. z ++ atoms_in (λ m. set (m + (n + 1))) atoms) (cond-true (set n) (made ++ a ∷ []) made e)
        ∙ append_assoc made (a ∷ []) (atoms_in (λ m. set (m + (n + 1))) atoms)
        ∙ ap (λ z. made ++ a ∷ z) s
        ∙ ap (λ z. made ++ z) (sym (cond-true (set (0 + n)) (a ∷ atoms_in (λ m. set (suc m + n)) atoms) (atoms_in (λ m. set (suc m + n)) atoms) (ap set zero-plus ∙ e)))
    by false e s =
        ap (λ z. z ++ atoms_in (λ m. set (m + (n + 1))) atoms) (cond-false (set n) (made ++ a ∷ []) made e)
        ∙ ap (λ z. made ++ z) s
        ∙ ap (λ z. made ++ z) (sym (cond-false (set (0 + n)) (a ∷ atoms_in (λ m. set (suc m + n)) atoms) (atoms_in (λ m. set (suc m + n)) atoms) (ap set zero-plus ∙ e)))

pub onto-all : (set : ℕ → Bool) (atoms : List Atom) → atoms_onto set 0 [] atoms ≡ atoms_in set atoms
onto-all set atoms = onto-is set 0 [] atoms ∙ ap (λ (f : ℕ → Bool). atoms_in f atoms) (λ j m. set (plus-zero m j))
  where
    plus-zero : (m : ℕ) → m + 0 ≡ m
    plus-zero m = omega arith

pub told : {A E : Type 0} (r : Result A E) (P Q : A → Type 0) → IfOk r P → ((x : A) → P x → Q x) → IfOk r Q
told (Ok x) P Q h f = f x h
told (Err e) P Q h f = h

pub take-pushed : {A : Type 0} (xs : List A) (i : ℕ) (x : A) → i < length xs → x ≡ get_or xs i x → take (i + 1) xs ≡ take i xs ++ x ∷ []
take-pushed {A = A} xs i x h e = ap (λ n. take n xs) (add-one i) ∙ go xs i h e
  where
    go : (ys : List A) (j : ℕ) → j < length ys → x ≡ get_or ys j x → take (suc j) ys ≡ take j ys ++ x ∷ []
    go [] j h e = absurd (omega (arith, h))
    go (y ∷ ys) zero h e = ap (λ z. z ∷ []) (sym e)
    go (y ∷ ys) (suc j) h e = ap (λ z. y ∷ z) (go ys j (omega (arith, h)) e)

pub numbered-more : (t u v : List Atom) (ns new : List ℕ) (atoms : List Atom) (i n : ℕ) (x : Atom)
    → i < length atoms → x ≡ get_or atoms i x → Extends t u → Stand u ns (take i atoms) → v ≡ with_atom u x → slice_get v n ≡ Some x → new ≡ ns ++ n ∷ []
    → (Extends t v) × Stand v new (take (i + 1) atoms)
numbered-more t u v ns new atoms i n x h e g s w at p =
    let up : Extends u v = Extends-with_atom u v x w in
    let stand : Stand v (ns ++ n ∷ []) (take i atoms ++ x ∷ []) = Stand-pushed v ns (take i atoms) n x (Stand-extended u v ns (take i atoms) up s) at in (
      Extends-trans t u v g up,
      subst (λ (z : List Atom). Stand v new z) (sym (take-pushed atoms i x h e)) (subst (λ (z : List ℕ). Stand v z (take i atoms ++ x ∷ [])) (sym p) stand),
    )

pub rules-more : (u v : List Atom) (ns new : List NumberedRule) (rules : List DefiniteRule) (i : ℕ) (n : NumberedRule) (x : DefiniteRule)
    → i < length rules → x ≡ get_or rules i x → StandFor u ns (take i rules) → Extends u v → slice_get v n.head ≡ Some x.head → Stand v n.body x.body → new ≡ ns ++ n ∷ []
    → StandFor v new (take (i + 1) rules)
rules-more u v ns new rules i n x h e s up head body p =
    let stand : StandFor v (ns ++ n ∷ []) (take i rules ++ x ∷ []) = StandFor-pushed v ns (take i rules) n x (StandFor-extended u v ns (take i rules) up s) head body in
    subst (λ (z : List DefiniteRule). StandFor v new z) (sym (take-pushed rules i x h e)) (subst (λ (z : List NumberedRule). StandFor v z (take i rules ++ x ∷ [])) (sym p) stand)
