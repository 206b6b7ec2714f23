-- Literals of a state and of its view: the innermost one changed, and how they read.
use Rattle.std.specs.Prelude.{◌≡◌, ℕ, suc, ◌+◌, ◌<◌, nat_eq, Bool, true, false, ◌&&◌, ◌||◌, not, if◌then◌else◌, Some, List, [], ◌∷◌, ◌++◌, map, reverse, length, Contains}
use Rattle.std.specs.List.{list_any}
use Rattle.std.proofs.Common.{◌∙◌, refl, ap, sym, subst, arith, inl, inr}
use Rattle.std.proofs.lemmas.List.{reverse-append, length-append}
use Rattle.std.proofs.lemmas.List.Elements.{Contains-append_left, Contains-append_right}
use Rattle.scasp_list.proofs.MemberLemmas.{Contains-none, Contains-cases, Contains-here}
use Rattle.scasp_lines.proofs.PartLemmas.{nat-self}
use Rattle.scasp_search_rules.specs.declared.states.outcomes.Repeated.{Repeated}
use Rattle.scasp_search_rules.specs.declared.states.state.Literal.{Literal}
use Rattle.scasp_search_rules.specs.declared.states.state.State.{State}
use Rattle.scasp_search_rules.specs.Successors.Calls.{at_number, finished, is_same, looping, marked, nearest}
use Rattle.scasp_search_rules.specs.Successors.Numbering.{lit_renamed}
use Rattle.scasp_syntax.specs.Values.{Sub}
use Rattle.scasp_syntax.specs.declared.atom.Lit.{Lit}
use Rattle.scasp_law_headed.proofs.Counting.{apart-above, apart-below}
use Rattle.scasp_law_headed.proofs.Views.{Numbered, first_with, is_negative, left_by, opens}

-- ---- the innermost literal changed

number-append : (n : ℕ) (f : Literal → Literal) (xs ys : List Literal) → at_number n f (xs ++ ys) ≡ at_number n f xs ++ at_number n f ys
number-append n f [] ys = refl
number-append n f (x ∷ xs) ys = ap (λ (z : List Literal). (if nat_eq x.number n then f x else x) ∷ z) (number-append n f xs ys)

pub number-reverse : (n : ℕ) (f : Literal → Literal) (xs : List Literal) → reverse (at_number n f xs) ≡ at_number n f (reverse xs)
number-reverse n f [] = refl
number-reverse n f (x ∷ xs) =
    let y : Literal = if nat_eq x.number n then f x else x in
    reverse-append (y ∷ []) (at_number n f xs) ∙ ap (λ (z : List Literal). z ++ y ∷ []) (number-reverse n f xs)
    ∙ sym (number-append n f (reverse xs) (x ∷ [])) ∙ ap (at_number n f) (sym (reverse-append (x ∷ []) xs))

-- none of these has so high a number
number-above : (n k : ℕ) (f : Literal → Literal) (lits : List Literal) → Numbered n lits → n < suc k → at_number k f lits ≡ lits
number-above n k f [] h e = refl
number-above n k f (a ∷ lits) h e =
    let first = h.0 in
    let less : a.number < k = omega (arith, first, e) in
    let more : a.number < suc k = omega (arith, less) in
    let other : nat_eq a.number k ≡ false = apart-below a.number k less in
    λ i. (if other i then f a else a) ∷ number-above a.number k f lits h.1 more i

open-below : (n : ℕ) (lits : List Literal) (a : Literal) (rest : List Literal) → Numbered n lits → opens lits ≡ a ∷ rest → a.number < n
open-below n [] a rest h e = absurd (cc e)
open-below n (x ∷ lits) a rest h e = by x.is_done refl (λ o. open-below x.number lits a rest h.1 o)
  where
    first : n ≡ suc x.number
    first = h.0

    by : (b : Bool) → x.is_done ≡ b → (opens lits ≡ a ∷ rest → a.number < x.number) → a.number < n
    by true d k =
        let less = k (sym (ap (λ (z : Bool). if not z then x ∷ opens lits else opens lits) d) ∙ e) in omega (arith, less, first)
    by false d k =
        let all : x ∷ opens lits ≡ a ∷ rest = sym (ap (λ (z : Bool). if not z then x ∷ opens lits else opens lits) d) ∙ e in
        let same : x ≡ a = cc all in
        let number : x.number ≡ a.number = ap (λ (z : Literal). z.number) same in omega (arith, number, first)

pub number-first : (f : Literal → Literal) (n : ℕ) (lits : List Literal) (a : Literal) (rest : List Literal) → Numbered n lits → opens lits ≡ a ∷ rest
    → at_number a.number f lits ≡ first_with f lits
number-first f n [] a rest h e = absurd (cc e)
number-first f n (x ∷ lits) a rest h e = by x.is_done refl (λ o. number-first f x.number lits a rest h.1 o)
  where
    by : (b : Bool) → x.is_done ≡ b → (opens lits ≡ a ∷ rest → at_number a.number f lits ≡ first_with f lits)
        → (if nat_eq x.number a.number then f x else x) ∷ at_number a.number f lits ≡ (if b then x ∷ first_with f lits else f x ∷ lits)
    by true d k =
        let o : opens lits ≡ a ∷ rest = sym (ap (λ (z : Bool). if not z then x ∷ opens lits else opens lits) d) ∙ e in
        let other : nat_eq x.number a.number ≡ false = apart-above x.number a.number (open-below x.number lits a rest h.1 o) in
        λ i. (if other i then f x else x) ∷ k o i
    by false d k =
        let all : x ∷ opens lits ≡ a ∷ rest = sym (ap (λ (z : Bool). if not z then x ∷ opens lits else opens lits) d) ∙ e in
        let same : x ≡ a = cc all in
        let number : x.number ≡ a.number = ap (λ (z : Literal). z.number) same in
        let here : nat_eq x.number a.number ≡ true = ap (λ (z : ℕ). nat_eq z a.number) number ∙ nat-self a.number in
        let others : at_number a.number f lits ≡ lits = number-above x.number a.number f lits h.1 (omega (arith, number)) in
        λ i. (if here i then f x else x) ∷ others i

abbrev pub at_first : List Literal → (Literal → Literal) → List Literal → List Literal
at_first [] f lits = lits
at_first (a ∷ rest) f lits = at_number a.number f lits

pub marked-is : (os : List Literal) (s : State) → marked os s ≡ record s { literals = at_first os looping s.literals }
marked-is [] s = refl
marked-is (a ∷ rest) s = refl

pub none-first : (f : Literal → Literal) (lits : List Literal) → opens lits ≡ [] → first_with f lits ≡ lits
none-first f [] e = refl
none-first f (a ∷ lits) e = by a.is_done refl (λ o. none-first f lits o)
  where
    by : (b : Bool) → a.is_done ≡ b → (opens lits ≡ [] → first_with f lits ≡ lits) → (if b then a ∷ first_with f lits else f a ∷ lits) ≡ a ∷ lits
    by true d k = ap (λ (z : List Literal). a ∷ z) (k (sym (ap (λ (z : Bool). if not z then a ∷ opens lits else opens lits) d) ∙ e))
    by false d k = absurd (cc (sym (ap (λ (z : Bool). if not z then a ∷ opens lits else opens lits) d) ∙ e))

pub first-reversed : (f : Literal → Literal) (lits os : List Literal) (n : ℕ) → Numbered n (reverse lits) → opens (reverse lits) ≡ os
    → reverse (at_first os f lits) ≡ first_with f (reverse lits)
first-reversed f lits [] n h e = sym (none-first f (reverse lits) e)
first-reversed f lits (a ∷ rest) n h e = number-reverse a.number f lits ∙ number-first f n (reverse lits) a rest h e

-- ---- lists

pub contains-reverse : {A : Type 0} (xs : List A) (x : A) → Contains xs x → Contains (reverse xs) x
contains-reverse [] x h = absurd (Contains-none x h)
contains-reverse (y ∷ xs) x h =
    subst (λ z. Contains z x) (sym (reverse-append (y ∷ []) xs)) (elim (Contains-cases y xs x h) [
      | inl e ↦ Contains-append_right (reverse xs) (y ∷ []) x (subst (λ z. Contains (z ∷ []) x) (sym e) (Contains-here x []))
      | inr k ↦ Contains-append_left (reverse xs) (y ∷ []) x (contains-reverse xs x k)
    ])

pub length-reversed : {A : Type 0} (xs : List A) → length (reverse xs) ≡ length xs
length-reversed [] = refl
length-reversed (x ∷ xs) =
    let long = length-append (reverse xs) (x ∷ []) in
    let less = length-reversed xs in
    ap length (reverse-append (x ∷ []) xs) ∙ omega (arith, long, less)

pub reverse-one : {A : Type 0} (xs : List A) (x : A) → reverse (xs ++ x ∷ []) ≡ x ∷ reverse xs
reverse-one xs x = reverse-append xs (x ∷ [])

-- ---- how they read

abbrev pub literal_read : Sub → Literal → Literal
literal_read r a = record a { lit = lit_renamed r a.lit }

abbrev pub literals_read : Sub → List Literal → List Literal
literals_read r xs = map (literal_read r) xs

pub opens-read : (r : Sub) (xs : List Literal) → opens (literals_read r xs) ≡ literals_read r (opens xs)
opens-read r [] = refl
opens-read r (a ∷ xs) = by a.is_done (opens-read r xs)
  where
    by : (b : Bool) → opens (literals_read r xs) ≡ literals_read r (opens xs)
        → (if not b then literal_read r a ∷ opens (literals_read r xs) else opens (literals_read r xs)) ≡ literals_read r (if not b then a ∷ opens xs else opens xs)
    by true k = k
    by false k = ap (λ (z : List Literal). literal_read r a ∷ z) k

pub first-read : (r : Sub) (f : Literal → Literal) → ((a : Literal) → f (literal_read r a) ≡ literal_read r (f a)) → (xs : List Literal) → first_with f (literals_read r xs) ≡ literals_read r (first_with f xs)
first-read r f k [] = refl
first-read r f k (a ∷ xs) = by a.is_done (first-read r f k xs)
  where
    by : (b : Bool) → first_with f (literals_read r xs) ≡ literals_read r (first_with f xs)
        → (if b then literal_read r a ∷ first_with f (literals_read r xs) else f (literal_read r a) ∷ literals_read r xs) ≡ literals_read r (if b then a ∷ first_with f xs else f a ∷ xs)
    by true e = ap (λ (z : List Literal). literal_read r a ∷ z) e
    by false e = ap (λ (z : Literal). z ∷ literals_read r xs) (k a)

pub looping-read : (r : Sub) (a : Literal) → looping (literal_read r a) ≡ literal_read r (looping a)
looping-read r a = refl

pub finished-read : (r : Sub) (a : Literal) → finished (literal_read r a) ≡ literal_read r (finished a)
finished-read r a = refl

pub left-read : (r : Sub) (os xs : List Literal) → left_by (literals_read r os) (literals_read r xs) ≡ literals_read r (left_by os xs)
left-read r [] xs = refl
left-read r (a ∷ []) xs = first-read r finished (finished-read r) xs
left-read r (a ∷ b ∷ rest) xs = by (a.loops && a.lit.positive && b.lit.positive)
  where
    by : (c : Bool) → (if c then first_with looping (first_with finished (literals_read r xs)) else first_with finished (literals_read r xs))
        ≡ literals_read r (if c then first_with looping (first_with finished xs) else first_with finished xs)
    by true = ap (first_with looping) (first-read r finished (finished-read r) xs) ∙ first-read r looping (looping-read r) (first_with finished xs)
    by false = first-read r finished (finished-read r) xs

pub numbered-unread : (r : Sub) (n : ℕ) (xs : List Literal) → Numbered n (literals_read r xs) → Numbered n xs
numbered-unread r n [] h = h
numbered-unread r n (a ∷ xs) h = (h.0, numbered-unread r a.number xs h.1)

pub read-reverse : (r : Sub) (xs : List Literal) → literals_read r (reverse xs) ≡ reverse (literals_read r xs)
read-reverse r [] = refl
read-reverse r (x ∷ xs) =
    ap (literals_read r) (reverse-append (x ∷ []) xs) ∙ read-append (reverse xs) ∙ ap (λ (z : List Literal). z ++ literal_read r x ∷ []) (read-reverse r xs) ∙ sym (reverse-append (literal_read r x ∷ []) (literals_read r xs))
  where
    read-append : (ys : List Literal) → literals_read r (ys ++ x ∷ []) ≡ literals_read r ys ++ literal_read r x ∷ []
    read-append [] = refl
    read-append (y ∷ ys) = ap (λ (z : List Literal). literal_read r y ∷ z) (read-append ys)

pub long-read : (r : Sub) (xs : List Literal) → length (literals_read r xs) ≡ length xs
long-read r [] = refl
long-read r (x ∷ xs) = ap suc (long-read r xs)

-- ---- the nearest literal above

-- one that the literal repeats as both read
pub record IsNearest (r : Sub) (l : Lit) (passed : Bool) (lits : List Literal) (n : Repeated) : Type 0 where
  pub inner : List Literal
  pub one : Literal
  pub outer : List Literal
  pub among : literals_read r lits ≡ inner ++ one ∷ outer
  pub same : one.lit ≡ lit_renamed r l
  pub number : n.number ≡ one.number
  pub crosses : n.is_behind_negation ≡ (passed || list_any is_negative inner)

or-false : (b : Bool) → (b || false) ≡ b
or-false true = refl
or-false false = refl

or-assoc : (a b c : Bool) → ((a || b) || c) ≡ (a || (b || c))
or-assoc true b c = refl
or-assoc false b c = refl

pub nearest-is : (r : Sub) (s : State) (l : Lit) → ((a : Literal) → is_same s l a ≡ true → lit_renamed r a.lit ≡ lit_renamed r l) → (passed : Bool) (lits : List Literal) → (n : Repeated)
    → nearest s l passed lits ≡ Some n → IsNearest r l passed lits n
nearest-is r s l k passed [] n e = absurd (cc e)
nearest-is r s l k passed (a ∷ lits) n e = by (is_same s l a) refl e (λ f. nearest-is r s l k (passed || not a.lit.positive) lits n f)
  where
    by : (b : Bool) → is_same s l a ≡ b
        → (if b then Some (record { number = a.number; is_behind_negation = passed }) else nearest s l (passed || not a.lit.positive) lits) ≡ Some n
        → (nearest s l (passed || not a.lit.positive) lits ≡ Some n → IsNearest r l (passed || not a.lit.positive) lits n) → IsNearest r l passed (a ∷ lits) n
    by true q f later =
        let here : record { number = a.number; is_behind_negation = passed } ≡ n = cc f in
        record {
          inner = [];
          one = literal_read r a;
          outer = literals_read r lits;
          among = refl;
          same = k a q;
          number = ap (λ (z : Repeated). z.number) (sym here);
          crosses = ap (λ (z : Repeated). z.is_behind_negation) (sym here) ∙ sym (or-false passed);
        }
    by false q f later =
        let m = later f in
        record {
          inner = literal_read r a ∷ m.inner;
          one = m.one;
          outer = m.outer;
          among = ap (λ (z : List Literal). literal_read r a ∷ z) m.among;
          same = m.same;
          number = m.number;
          crosses = m.crosses ∙ or-assoc passed (not a.lit.positive) (list_any is_negative m.inner);
        }
