-- Keys: equal keys are of equal terms and atoms.
use Rattle.std.proofs.Common.{◌≡◌, ℕ, zero, suc, ◌+◌, ◌*◌, ◌/◌, ◌%◌, ◌^◌, Bool, true, false, not, ◌&&◌, ◌||◌, List, [], ◌∷◌, ◌++◌, length, map, slice_get, Some, refl, sym, ap, ◌∙◌, arith, append_assoc, append-nil}
use Rattle.std.specs.Prelude.{ℤ, pos, negsuc, ◌<ℤ◌, unsigned_abs}
use Rattle.std.specs.Str.{bytes_eq}
use Rattle.std.proofs.Math.Nat.{div-add-mod}
use Rattle.std.proofs.lemmas.Bool.{true≢false, and_parts, and_from, or_parts, or_from, or_left, or_right, not-true, false_from_ne_true, cond-true, cond-false}
use Rattle.std.proofs.lemmas.Int.{ints}
use Rattle.std.proofs.lemmas.List.Folds.{list_any-append}
use Rattle.std.proofs.lemmas.Slice.Eq.{bytes_eq-Decides}
use Rattle.scasp_name.specs.Texts.{has_text}
use Rattle.scasp_num.specs.Number.{Number, number_code}
use Rattle.scasp_model.specs.Atoms.{among, are_distinct}
use Rattle.scasp_model.specs.Grounding.{is_domain}
use Rattle.scasp_model.proofs.AtomLemmas.{are_distinct-push}
use Rattle.scasp_syntax.specs.Same.{same_tm, same_atom}
use Rattle.scasp_syntax.specs.Tm.{Tm, Tms, var, num, app, nil, cons}
use Rattle.scasp_syntax.specs.declared.atom.Atom.{Atom}
use Rattle.scasp_syntax.proofs.SameLemmas.{tm_decided, atom_decided}
use Rattle.scasp_tables.specs.Inside.Keys.{words, sign, number_key, key_of, keys_of, bit, atom_key}
use Rattle.scasp_tables.specs.Tables.{is_member, with_atom}
use Rattle.scasp_syntax.specs.Values.{is_ground}

first_is : (a b : ℕ) (xs ys : List ℕ) → a ∷ xs ≡ b ∷ ys → a ≡ b
first_is a b xs ys e = cc

rest_is : (a b : ℕ) (xs ys : List ℕ) → a ∷ xs ≡ b ∷ ys → xs ≡ ys
rest_is a b xs ys e = cc

from_words : (n m : ℕ) → n / 2 ^ 64 ≡ m / 2 ^ 64 → n % 2 ^ 64 ≡ m % 2 ^ 64 → n ≡ m
from_words n m p q = sym (div-add-mod n (2 ^ 64)) ∙ (λ j. 2 ^ 64 * p j + q j) ∙ div-add-mod m (2 ^ 64)

from_sign : (z w : ℤ) → sign z ≡ sign w → unsigned_abs z ≡ unsigned_abs w → z ≡ w
from_sign (pos a) (pos b) s e = ap pos e
from_sign (pos a) (negsuc b) s e = absurd (omega (arith, s))
from_sign (negsuc a) (pos b) s e = absurd (omega (arith, s))
from_sign (negsuc a) (negsuc b) s e = ap negsuc (omega (arith, e))

from_positive : (z w : ℤ) → pos 0 <ℤ z → pos 0 <ℤ w → unsigned_abs z ≡ unsigned_abs w → z ≡ w
from_positive (pos a) (pos b) p q e = ap pos e
from_positive (pos a) (negsuc b) p q e = absurd (omega (arith, ints, q))
from_positive (negsuc a) w p q e = absurd (omega (arith, ints, p))

number_is : (q r : Number) → q.num ≡ r.num → q.den ≡ r.den → q ≡ r
number_is q r n d = number_code.inj q r (rw (n, d) refl)

-- a list of numbers that begins with the key of a number
number_apart : (q r : Number) (xs ys : List ℕ) → number_key q ++ xs ≡ number_key r ++ ys → (q ≡ r) × (xs ≡ ys)
number_apart q r xs ys e =
    let s : sign q.num ≡ sign r.num = first_is _ _ _ _ e in
    let e1 = rest_is _ _ _ _ e in
    let e2 = rest_is _ _ _ _ e1 in
    let e3 = rest_is _ _ _ _ e2 in
    let e4 = rest_is _ _ _ _ e3 in
    let n = from_words (unsigned_abs q.num) (unsigned_abs r.num) (first_is _ _ _ _ e1) (first_is _ _ _ _ e2) in
    let d = from_words (unsigned_abs q.den) (unsigned_abs r.den) (first_is _ _ _ _ e3) (first_is _ _ _ _ e4) in
    (number_is q r (from_sign q.num r.num s n) (from_positive q.den r.den q.reduced.positive r.reduced.positive d), rest_is _ _ _ _ e4)

not_end : (t : Tm) (xs ys : List ℕ) → 3 ∷ xs ≡ key_of t ++ ys → ⊥
not_end (var x) xs ys e = let n : 3 ≡ 0 = first_is _ _ _ _ e in omega (arith, n)
not_end (num q) xs ys e = let n : 3 ≡ 1 = first_is _ _ _ _ e in omega (arith, n)
not_end (app f ts) xs ys e = let n : 3 ≡ 2 = first_is _ _ _ _ e in omega (arith, n)

-- a list that begins with the key of a term begins so with no other's
mutual
  key_apart : (t u : Tm) (xs ys : List ℕ) → key_of t ++ xs ≡ key_of u ++ ys → (t ≡ u) × (xs ≡ ys)
  key_apart (var x) (var y) xs ys e =
      let p = rest_is _ _ _ _ e in (ap var (first_is _ _ _ _ p), rest_is _ _ _ _ p)
  key_apart (var x) (num r) xs ys e = let n : 0 ≡ 1 = first_is _ _ _ _ e in absurd (omega (arith, n))
  key_apart (var x) (app g us) xs ys e = let n : 0 ≡ 2 = first_is _ _ _ _ e in absurd (omega (arith, n))
  key_apart (num q) (var y) xs ys e = let n : 1 ≡ 0 = first_is _ _ _ _ e in absurd (omega (arith, n))
  key_apart (num q) (num r) xs ys e =
      let p = number_apart q r xs ys (rest_is _ _ _ _ e) in (ap num p.0, p.1)
  key_apart (num q) (app g us) xs ys e = let n : 1 ≡ 2 = first_is _ _ _ _ e in absurd (omega (arith, n))
  key_apart (app f ts) (var y) xs ys e = let n : 2 ≡ 0 = first_is _ _ _ _ e in absurd (omega (arith, n))
  key_apart (app f ts) (num r) xs ys e = let n : 2 ≡ 1 = first_is _ _ _ _ e in absurd (omega (arith, n))
  key_apart (app f ts) (app g us) xs ys e =
      let p = rest_is _ _ _ _ e in
      let n = first_is _ _ _ _ p in
      let s = keys_apart ts us xs ys (rest_is _ _ _ _ p) in
      (λ j. app (n j) (s.0 j), s.1)

  keys_apart : (ts us : Tms) (xs ys : List ℕ) → keys_of ts ++ xs ≡ keys_of us ++ ys → (ts ≡ us) × (xs ≡ ys)
  keys_apart nil nil xs ys e = (refl, rest_is _ _ _ _ e)
  keys_apart nil (cons u us) xs ys e = absurd (not_end u xs (keys_of us ++ ys) (e ∙ append_assoc (key_of u) (keys_of us) ys))
  keys_apart (cons t ts) nil xs ys e = absurd (not_end t ys (keys_of ts ++ xs) (sym e ∙ append_assoc (key_of t) (keys_of ts) xs))
  keys_apart (cons t ts) (cons u us) xs ys e =
      let p =
      key_apart t u (keys_of ts ++ xs) (keys_of us ++ ys) (sym (append_assoc (key_of t) (keys_of ts) xs) ∙ e ∙ append_assoc (key_of u) (keys_of us) ys) in
      let q = keys_apart ts us xs ys p.1 in
      (λ j. cons (p.0 j) (q.0 j), q.1)

key_is : (t u : Tm) → key_of t ≡ key_of u → t ≡ u
key_is t u e = (key_apart t u [] [] (ap (λ k. k ++ []) e)).0

bit_is : (b c : Bool) → bit b ≡ bit c → b ≡ c
bit_is true true e = refl
bit_is true false e = absurd (omega (arith, e))
bit_is false true e = absurd (omega (arith, e))
bit_is false false e = refl

atom_is : (a b : Atom) → atom_key a ≡ atom_key b → a ≡ b
atom_is a b e =
    let p = rest_is _ _ _ _ e in
    let m = bit_is a.minus b.minus (first_is _ _ _ _ e) in
    let n = first_is _ _ _ _ p in
    let s = (keys_apart a.args b.args [] [] (ap (λ k. k ++ []) (rest_is _ _ _ _ p))).0 in
    λ j. record { minus = m j; name = n j; args = s j }

pub same_truth : (x y : Bool) → (x ≡ true → y ≡ true) → (y ≡ true → x ≡ true) → x ≡ y
same_truth true y f g = sym (f refl)
same_truth false true f g = g refl
same_truth false false f g = refl

atom_test : (a b : Atom) → bytes_eq (atom_key a) (atom_key b) ≡ same_atom a b
atom_test a b =
    same_truth (bytes_eq (atom_key a) (atom_key b)) (same_atom a b)
    (λ h. (atom_decided a b).1 (atom_is a b ((bytes_eq-Decides (atom_key a) (atom_key b)).0 h)))
    (λ h. (bytes_eq-Decides (atom_key a) (atom_key b)).1 (ap atom_key ((atom_decided a b).0 h)))

term_test : (t u : Tm) → bytes_eq (key_of t) (key_of u) ≡ same_tm t u
term_test t u =
    same_truth (bytes_eq (key_of t) (key_of u)) (same_tm t u)
    (λ h. (tm_decided t u).1 (key_is t u ((bytes_eq-Decides (key_of t) (key_of u)).0 h)))
    (λ h. (bytes_eq-Decides (key_of t) (key_of u)).1 (ap key_of ((tm_decided t u).0 h)))

-- an atom stands in the list exactly where its key stands among the keys
pub among-by_key : (atoms : List Atom) (a : Atom) → has_text (map atom_key atoms) (atom_key a) ≡ among atoms a
among-by_key [] a = refl
among-by_key (b ∷ atoms) a = λ j. atom_test a b j || among-by_key atoms a j

pub member-by_key : (terms : List Tm) (t : Tm) → has_text (map key_of terms) (key_of t) ≡ is_member terms t
member-by_key [] t = refl
member-by_key (u ∷ terms) t = λ j. term_test t u j || member-by_key terms t j

some_is : (xs ys : List ℕ) → Some xs ≡ Some ys → xs ≡ ys
some_is xs ys e = cc

-- and at the same place
pub atom-at_key : (atoms : List Atom) (a : Atom) (i : ℕ) → slice_get (map atom_key atoms) i ≡ Some (atom_key a) → slice_get atoms i ≡ Some a
atom-at_key [] a i e = cc
atom-at_key (b ∷ atoms) a zero e = ap Some (atom_is b a (some_is _ _ e))
atom-at_key (b ∷ atoms) a (suc i) e = atom-at_key atoms a i e

pub term-at_key : (terms : List Tm) (t : Tm) (i : ℕ) → slice_get (map key_of terms) i ≡ Some (key_of t) → slice_get terms i ≡ Some t
term-at_key [] t i e = cc
term-at_key (u ∷ terms) t zero e = ap Some (key_is u t (some_is _ _ e))
term-at_key (u ∷ terms) t (suc i) e = term-at_key terms t i e

pub map-pushed : {A B : Type 0} (f : A → B) (xs : List A) (x : A) → map f (xs ++ x ∷ []) ≡ map f xs ++ f x ∷ []
map-pushed f [] x = refl
map-pushed f (y ∷ xs) x = ap (λ l. f y ∷ l) (map-pushed f xs x)

-- ---- tables: lists with the keys of their items

pub found_atom : (inside atoms : List Atom) (keys : List (List ℕ)) (slice key : List ℕ) (a : Atom) (i : ℕ) → inside ≡ atoms → keys ≡ map atom_key inside → slice ≡ key → key ≡ atom_key a → slice_get keys i ≡ Some slice → slice_get atoms i ≡ Some a
found_atom inside atoms keys slice key a i v k s e h =
    atom-at_key atoms a i (ap (λ z. slice_get (map atom_key z) i) (sym v) ∙ ap (λ z. slice_get z i) (sym k) ∙ h ∙ ap Some (s ∙ e))

pub tested_atom : (inside atoms : List Atom) (keys : List (List ℕ)) (slice key : List ℕ) (a : Atom) → inside ≡ atoms → keys ≡ map atom_key inside → slice ≡ key → key ≡ atom_key a → has_text keys slice ≡ among atoms a
tested_atom inside atoms keys slice key a v k s e =
    (λ j. has_text (k j) ((s ∙ e) j)) ∙ ap (λ z. has_text (map atom_key z) (atom_key a)) v ∙ among-by_key atoms a

pub grown_atoms : (inside new : List Atom) (keys new_keys : List (List ℕ)) (slice key : List ℕ) (a b : Atom)
    → (keys ≡ map atom_key inside) × (are_distinct inside ≡ true) → slice ≡ key → key ≡ atom_key a → b ≡ a → has_text keys slice ≡ false
    → new_keys ≡ keys ++ key ∷ [] → new ≡ inside ++ b ∷ [] → (new_keys ≡ map atom_key new) × (are_distinct new ≡ true)
grown_atoms inside new keys new_keys slice key a b i s e c absent k n =
    let none : among inside a ≡ false = sym (tested_atom inside inside keys slice key a refl i.0 s e) ∙ absent in
    let to : new ≡ inside ++ a ∷ [] = n ∙ ap (λ z. inside ++ z ∷ []) c in (
      k ∙ (λ j. i.0 j ++ e j ∷ []) ∙ sym (map-pushed atom_key inside a) ∙ ap (map atom_key) (sym to),
      ap are_distinct to ∙ are_distinct-push inside a i.1 none,
    )

-- the list with a new atom, and with one that is there
pub with_atom-new : (inside atoms new : List Atom) (keys : List (List ℕ)) (slice key : List ℕ) (a b : Atom) → inside ≡ atoms → keys ≡ map atom_key inside → slice ≡ key → key ≡ atom_key a → b ≡ a → has_text keys slice ≡ false → new ≡ inside ++ b ∷ [] → new ≡ with_atom atoms a
with_atom-new inside atoms new keys slice key a b v k s e c absent n =
    n ∙ (λ j. v j ++ c j ∷ [])
    ∙ sym (cond-false (among atoms a) atoms (atoms ++ a ∷ []) (sym (tested_atom inside atoms keys slice key a v k s e) ∙ absent))

among-at : (atoms : List Atom) (a : Atom) (i : ℕ) → slice_get atoms i ≡ Some a → among atoms a ≡ true
among-at [] a i e = cc
among-at (b ∷ atoms) a zero e = let same : b ≡ a = cc in or_left (same_atom a b) (among atoms a) ((atom_decided a b).1 (sym same))
among-at (b ∷ atoms) a (suc i) e = or_right (same_atom a b) (among atoms a) (among-at atoms a i e)

pub with_atom-there : (atoms : List Atom) (a : Atom) (i : ℕ) → slice_get atoms i ≡ Some a → atoms ≡ with_atom atoms a
with_atom-there atoms a i e = sym (cond-true (among atoms a) atoms (atoms ++ a ∷ []) (among-at atoms a i e))

pub last-at : {A : Type 0} (xs new : List A) (x y : A) (n : ℕ) → n ≡ length xs → x ≡ y → new ≡ xs ++ x ∷ [] → slice_get new n ≡ Some y
last-at {A = A} xs new x y n e c d = (λ j. slice_get (d j) (e j)) ∙ last xs ∙ ap Some c
  where
    last : (zs : List A) → slice_get (zs ++ x ∷ []) (length zs) ≡ Some x
    last [] = refl
    last (z ∷ zs) = last zs

pub found_term : (inside terms : List Tm) (keys : List (List ℕ)) (slice key : List ℕ) (t : Tm) (i : ℕ) → inside ≡ terms → keys ≡ map key_of inside → slice ≡ key → key ≡ key_of t → slice_get keys i ≡ Some slice → slice_get terms i ≡ Some t
found_term inside terms keys slice key t i v k s e h =
    term-at_key terms t i (ap (λ z. slice_get (map key_of z) i) (sym v) ∙ ap (λ z. slice_get z i) (sym k) ∙ h ∙ ap Some (s ∙ e))

pub tested_term : (inside terms : List Tm) (keys : List (List ℕ)) (slice key : List ℕ) (t : Tm) → inside ≡ terms → keys ≡ map key_of inside → slice ≡ key → key ≡ key_of t → has_text keys slice ≡ is_member terms t
tested_term inside terms keys slice key t v k s e =
    (λ j. has_text (k j) ((s ∙ e) j)) ∙ ap (λ z. has_text (map key_of z) (key_of t)) v ∙ member-by_key terms t

other_way : (t u : Tm) → same_tm t u ≡ false → same_tm u t ≡ false
other_way t u e = false_from_ne_true (same_tm u t) (λ h. true≢false (sym ((tm_decided t u).1 (sym ((tm_decided u t).0 h))) ∙ e))

-- a ground term that is no member may go last
is_domain-push : (ts : List Tm) (t : Tm) → is_domain ts ≡ true → is_ground t ≡ true → is_member ts t ≡ false → is_domain (ts ++ t ∷ []) ≡ true
is_domain-push [] t d g n = and_from (is_ground t && true) true (and_from (is_ground t) true g refl) refl
is_domain-push (u ∷ ts) t d g n =
    let p = and_parts (is_ground u && not (is_member ts u)) (is_domain ts) d in
    let q = and_parts (is_ground u) (not (is_member ts u)) p.0 in
    let m = or_parts (same_tm t u) (is_member ts t) n in
    let apart : is_member (ts ++ t ∷ []) u ≡ false =
    list_any-append (same_tm u) ts (t ∷ []) ∙ or_from (is_member ts u) (is_member (t ∷ []) u) (not-true (is_member ts u) q.1) (or_from (same_tm u t) false (other_way t u m.0) refl) in
    and_from (is_ground u && not (is_member (ts ++ t ∷ []) u)) (is_domain (ts ++ t ∷ []))
    (and_from (is_ground u) (not (is_member (ts ++ t ∷ []) u)) q.0 (ap not apart))
    (is_domain-push ts t p.1 g m.1)

pub grown_domain : (inside new : List Tm) (keys new_keys : List (List ℕ)) (slice key : List ℕ) (t : Tm)
    → (keys ≡ map key_of inside) × (is_domain inside ≡ true) → slice ≡ key → key ≡ key_of t → is_ground t ≡ true → has_text keys slice ≡ false
    → new_keys ≡ keys ++ key ∷ [] → new ≡ inside ++ t ∷ [] → (new_keys ≡ map key_of new) × (is_domain new ≡ true)
grown_domain inside new keys new_keys slice key t i s e g absent k n =
    let none : is_member inside t ≡ false = sym (tested_term inside inside keys slice key t refl i.0 s e) ∙ absent in (
      k ∙ (λ j. i.0 j ++ e j ∷ []) ∙ sym (map-pushed key_of inside t) ∙ ap (map key_of) (sym n),
      ap is_domain n ∙ is_domain-push inside t i.1 g none,
    )
