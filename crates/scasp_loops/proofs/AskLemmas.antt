-- What is asked of the literals.
use Rattle.std.proofs.Common.{◌≡◌, ◌+◌, ◌-◌, ◌<◌, ◌≤◌, ◌⊎◌, inl, inr, ℕ, zero, suc, Bool, true, false, not, ◌&&◌, ◌||◌, nat_eq, if◌then◌else◌, List, [], ◌∷◌, ◌++◌, append-nil, length, filter, map, drop, reverse, slice_get, take, Option, None, Some, arith, refl, ap, sym, subst, ◌∙◌}
use Rattle.std.proofs.lemmas.Bool.{and_parts, cases_order}
use Rattle.std.proofs.lemmas.Bool.Decides.{Decides-eqb}
use Rattle.std.proofs.lemmas.List.{at_drop_more, drop_all, reverse-append, take_all}
use Rattle.std.proofs.lemmas.Option.{get_or_from_slice_get, slice_get_within}
use Rattle.scasp_bound.specs.declared.roots.Root.{Root}
use Rattle.scasp_loops.specs.Held.{literal_of}
use Rattle.scasp_loops.specs.Inside.Asked.{is_alike, is_left_firm, is_not, is_opposed, is_repeated, is_seen, only_if, opposed, standing, starts_apart}
use Rattle.scasp_loops.specs.Inside.Hinted.{Within, is_done, is_other, is_past, key_of, lit_key}
use Rattle.scasp_loops.specs.Inside.Open.{IsLast, OpensAt, open_among, open_in}
use Rattle.scasp_loops.specs.Inside.Zipped.{literals_from}
use Rattle.scasp_loops.specs.declared.entry.Entry.{Entry}
use Rattle.scasp_loops.specs.declared.entry.Marks.{Marks}
use Rattle.scasp_loops.proofs.EndLemmas.{or-false}
use Rattle.scasp_loops.proofs.HintLemmas.{joined, one_within}
use Rattle.scasp_loops.proofs.OpenLemmas.{not_there, open_pushed, stands, taken_more, whole}
use Rattle.scasp_loops.proofs.ZipLemmas.{literal_there, literals_length, some_within}
use Rattle.scasp_readings.specs.Readings.{reading}
use Rattle.scasp_search_rules.specs.Successors.Calls.{ancestors, can_be_seen, differing, is_same, is_free, is_opposite, nearest, open_cases, opposites}
use Rattle.scasp_search_rules.specs.declared.states.outcomes.Repeated.{Repeated}
use Rattle.scasp_search_rules.specs.declared.states.state.Literal.{Literal}
use Rattle.scasp_search_rules.specs.declared.states.state.Made.{Made}
use Rattle.scasp_search_rules.specs.declared.states.state.State.{State}
use Rattle.scasp_search_state.specs.Words.{first_number}
use Rattle.scasp_search_rules.specs.Successors.Variables.{meaning}
use Rattle.scasp_syntax.specs.Programs.{pred_of}
use Rattle.scasp_syntax.specs.Same.{same_bool, same_tms}
use Rattle.scasp_syntax.specs.Values.{all_under}
use Rattle.scasp_syntax.specs.declared.con.Con.{Con}
use Rattle.scasp_syntax.specs.declared.atom.Lit.{Lit}
use Rattle.scasp_unify.specs.declared.bindings.Binding.{Binding}

-- ---- of any state that has them

nearest-reading : (s : State) (l : Lit) (passed : Bool) (xs : List Literal) → nearest (reading s.bound) l passed xs ≡ nearest s l passed xs
nearest-reading s l passed [] = refl
nearest-reading s l passed (a ∷ rest) =
    ap (λ (r : Option Repeated). if is_same s l a then Some (record { number = a.number; is_behind_negation = passed }) else r)
    (nearest-reading s l (passed || not a.lit.positive) rest)

pub nearest_of : (s : State) (bs : List Binding) (ls : List Literal) (l : Lit) → s.literals ≡ ls → s.bound ≡ bs → nearest (reading bs) l false (open_among ls) ≡ nearest s l false (ancestors s)
nearest_of s bs ls l e b = (λ i. nearest (reading (sym b i)) l false (open_among (sym e i))) ∙ nearest-reading s l false (ancestors s)

pub seen_of : (s : State) (bs : List Binding) (cases : List ℕ) (ls : List Literal) (l : Lit) → s.literals ≡ ls → s.bound ≡ bs → open_cases s ≡ cases
    → first_number (filter (is_seen bs cases l) ls) ≡ first_number (filter (can_be_seen s l) s.literals)
seen_of s bs cases ls l e b o = λ i. first_number (filter (is_seen (sym b i) (sym o i) l) (sym e i))

pub opposites_of : (s : State) (made : List Made) (bs : List Binding) (ls : List Literal) (l : Lit) → s.literals ≡ ls → s.bound ≡ bs → s.made ≡ made
    → map (differing l) (opposed (standing made bs ls) None l) ≡ map (differing l) (opposites s l)
opposites_of s made bs ls l e b m = λ i. map (differing l) (opposites (standing (sym m i) (sym b i) (sym e i)) l)

-- ---- the nearest literal above

pub nearest_whole : (bs : List Binding) (l : Lit) (es : List Entry) (ms : List Marks) (n : ℕ) → n ≡ length ms → length ms ≤ length es
    → nearest (reading bs) l false (open_in n es ms) ≡ nearest (reading bs) l false (open_among (literals_from 0 es ms))
nearest_whole bs l es ms n q h = ap (nearest (reading bs) l false) (whole es ms n q h)

nearest-first : (bs : List Binding) (l : Lit) (passed same : Bool) (es : List Entry) (ms : List Marks) (n at : ℕ) (e : Entry) (m : Marks) → OpensAt es ms n at → slice_get es at ≡ Some e → slice_get ms at ≡ Some m
    → is_same (reading bs) l (literal_of 0 e m) ≡ same
    → nearest (reading bs) l passed (open_in n es ms) ≡ (if same then Some (record { number = at; is_behind_negation = passed }) else nearest (reading bs) l (passed || not e.lit.positive) (open_in at es ms))
nearest-first bs l passed same es ms n at e m o g k h =
    ap (nearest (reading bs) l passed) (o.opens e m g k)
    ∙ ap (λ (b : Bool). if b then Some (record { number = at; is_behind_negation = passed }) else nearest (reading bs) l (passed || not e.lit.positive) (open_in at es ms)) h

nearest_here : (bs : List Binding) (l : Lit) (passed : Bool) (es : List Entry) (ms : List Marks) (n at : ℕ) (e : Entry) (m : Marks) → OpensAt es ms n at → slice_get es at ≡ Some e → slice_get ms at ≡ Some m
    → is_same (reading bs) l (literal_of 0 e m) ≡ true
    → Some (record { number = at; is_behind_negation = passed }) ≡ nearest (reading bs) l passed (open_in n es ms)
nearest_here bs l passed es ms n at e m o g k h = sym (nearest-first bs l passed true es ms n at e m o g k h)

nearest_past : (bs : List Binding) (l : Lit) (passed : Bool) (es : List Entry) (ms : List Marks) (n at : ℕ) (e : Entry) (m : Marks) → OpensAt es ms n at → slice_get es at ≡ Some e → slice_get ms at ≡ Some m
    → is_same (reading bs) l (literal_of 0 e m) ≡ false
    → nearest (reading bs) l (passed || not e.lit.positive) (open_in at es ms) ≡ nearest (reading bs) l passed (open_in n es ms)
nearest_past bs l passed es ms n at e m o g k h = sym (nearest-first bs l passed false es ms n at e m o g k h)

-- ---- a walk back over literals

drop-there : (ls : List Literal) (n : ℕ) (a : Literal) → slice_get ls n ≡ Some a → drop n ls ≡ a ∷ drop (n + 1) ls
drop-there ls n a g =
    at_drop_more (λ (xs : List Literal). xs) ls n a (slice_get_within ls n a g)
    ∙ ap (λ (b : Literal). b ∷ drop (n + 1) ls) (get_or_from_slice_get ls n a a g)

-- none of those between passes the test
skip_one : (p : Literal → Bool) (n : ℕ) (ls : List Literal) → ((a : Literal) → slice_get ls n ≡ Some a → p a ≡ false) → filter p (drop n ls) ≡ filter p (drop (n + 1) ls)
skip_one p n ls f = by (slice_get ls n) refl
  where
    by : (o : Option Literal) → slice_get ls n ≡ o → filter p (drop n ls) ≡ filter p (drop (n + 1) ls)
    by None g = ap (filter p) (drop_all n ls (not_there ls n g) ∙ sym (drop_all (n + 1) ls (omega (arith, not_there ls n g))))
    by (Some a) g =
        ap (filter p) (drop-there ls n a g)
        ∙ ap (λ (b : Bool). if b then a ∷ filter p (drop (n + 1) ls) else filter p (drop (n + 1) ls)) (f a g)

skip_by : (p : Literal → Bool) (d n : ℕ) (ls : List Literal) → ((j : ℕ) → (a : Literal) → n ≤ j → j < n + d → slice_get ls j ≡ Some a → p a ≡ false)
    → filter p (drop n ls) ≡ filter p (drop (n + d) ls)
skip_by p zero n ls f =
    let e : n + 0 ≡ n = omega arith in
    ap (λ (k : ℕ). filter p (drop k ls)) (sym e)
skip_by p (suc d) n ls f =
    let e : n + 1 + d ≡ n + suc d = omega arith in
    skip_one p n ls (λ a g. f n a (omega arith) (omega arith) g)
    ∙ skip_by p d (n + 1) ls (λ j a l h g. f j a (omega (arith, l)) (omega (arith, h)) g)
    ∙ ap (λ (k : ℕ). filter p (drop k ls)) e

refused : (b : Bool) → not b ≡ true → b ≡ false
refused true h = absurd (cc h)
refused false h = refl

skipped : (p : Literal → Bool) (lo hi : ℕ) (ls : List Literal) → lo ≤ hi → Within (is_not p) lo hi ls → filter p (drop lo ls) ≡ filter p (drop hi ls)
skipped p lo hi ls h w =
    let e : lo + (hi - lo) ≡ hi = omega (arith, h) in
    skip_by p (hi - lo) lo ls (λ j a l m g. refused (p a) (w.each j a l (omega (arith, m, h)) g))
    ∙ ap (λ (k : ℕ). filter p (drop k ls)) e

-- where none with another key passes the test
within_not : (p : Literal → Bool) (key lo hi : ℕ) (ls : List Literal) → ((a : Literal) → is_other key a ≡ true → p a ≡ false) → Within (is_other key) lo hi ls → Within (is_not p) lo hi ls
within_not p key lo hi ls f w = record { each = λ j a l m g. ap not (f a (w.each j a l m g)) }

-- one that is looked at, and those before it that are not
looked_at : (p : Literal → Bool) (to at left : ℕ) (ls : List Literal) (a : Literal) (is : Bool) → to ≤ at → left ≡ at + 1 → slice_get ls at ≡ Some a → p a ≡ is → Within (is_not p) to at ls
    → filter p (drop to ls) ≡ (if is then a ∷ filter p (drop left ls) else filter p (drop left ls))
looked_at p to at left ls a is t n g h w =
    skipped p to at ls t w ∙ ap (filter p) (drop-there ls at a g)
    ∙ ap (λ (k : ℕ). filter p (a ∷ drop k ls)) (sym n)
    ∙ ap (λ (b : Bool). if b then a ∷ filter p (drop left ls) else filter p (drop left ls)) h

none_behind : (p : Literal → Bool) (left count : ℕ) (ls : List Literal) → left ≤ count → length ls ≤ count → Within (is_not p) left count ls → filter p (drop left ls) ≡ []
none_behind p left count ls h n w = skipped p left count ls h w ∙ ap (filter p) (drop_all count ls n)

whole_left : (left : ℕ) (ls : List Literal) → left ≤ 0 → drop left ls ≡ ls
whole_left zero ls h = refl
whole_left (suc n) ls h = absurd (omega (arith, h))

-- ---- other keys

same-key : (p : Bool) (n m : ℕ) → nat_eq n m ≡ true → not (nat_eq (key_of p n) (key_of p m)) ≡ true → ⊥
same-key p n m e h =
    let q : nat_eq (key_of p n) (key_of p m) ≡ true = (Decides-eqb (key_of p n) (key_of p m)).1 (ap (key_of p) ((Decides-eqb n m).0 e)) in
    let r : false ≡ true = ap not (sym q) ∙ h in
    absurd (cc r)

-- ---- a literal that is seen

-- one of another sign or name is not
unalike : (v g p q r t : Bool) → (p && q && r) ≡ false → false ≡ (v && (g && (p && (q && r && t))))
unalike false g p q r t h = refl
unalike true false p q r t h = refl
unalike true true false q r t h = refl
unalike true true true false r t h = refl
unalike true true true true false t h = refl
unalike true true true true true t h = absurd (cc h)

pub unseen_apart : (bs : List Binding) (cases : List ℕ) (l : Lit) (e : Entry) (m : Marks) → is_alike e.lit l ≡ false → false ≡ is_seen bs cases l (literal_of 0 e m)
unseen_apart bs cases l e m h =
    unalike (is_left_firm cases (literal_of 0 e m)) (not m.is_general) (same_bool e.lit.positive l.positive) (same_bool e.lit.atom.minus l.atom.minus) (nat_eq e.lit.atom.name l.atom.name)
    (same_tms (all_under (meaning (reading bs)) e.lit.atom.args) (all_under (meaning (reading bs)) l.atom.args)) h

last_fails : (p q r : Bool) → r ≡ false → (p && q && r) ≡ false
last_fails p q r e = ap (λ (b : Bool). p && q && b) e ∙ by p q
  where
    by : (p q : Bool) → (p && q && false) ≡ false
    by true true = refl
    by true false = refl
    by false q = refl

keys-apart : (p q x : Bool) (n m : ℕ) → not (nat_eq (key_of p n) (key_of q m)) ≡ true → (same_bool p q && x && nat_eq n m) ≡ false
keys-apart true false x n m h = refl
keys-apart false true x n m h = refl
keys-apart true true x n m h = by (nat_eq n m) refl
  where
    by : (b : Bool) → nat_eq n m ≡ b → (same_bool true true && x && nat_eq n m) ≡ false
    by true e = absurd (same-key true n m e h)
    by false e = last_fails true x (nat_eq n m) e
keys-apart false false x n m h = by (nat_eq n m) refl
  where
    by : (b : Bool) → nat_eq n m ≡ b → (same_bool false false && x && nat_eq n m) ≡ false
    by true e = absurd (same-key false n m e h)
    by false e = last_fails true x (nat_eq n m) e

other_unseen : (bs : List Binding) (cases : List ℕ) (l : Lit) (a : Literal) → is_other (lit_key l) a ≡ true → is_seen bs cases l a ≡ false
other_unseen bs cases l a o =
    sym (unseen_apart bs cases l (record { lit = a.lit; cases = a.cases }) (record { is_done = a.is_done; loops = a.loops; is_general = a.is_general })
    (keys-apart a.lit.positive l.positive (same_bool a.lit.atom.minus l.atom.minus) a.lit.atom.name l.atom.name o))

pub unseen_key : (bs : List Binding) (cases : List ℕ) (l : Lit) (ls : List Literal) (key lo hi : ℕ) → key ≡ lit_key l → Within (is_other key) lo hi ls → Within (is_not (is_seen bs cases l)) lo hi ls
unseen_key bs cases l ls key lo hi k w =
    within_not (is_seen bs cases l) (lit_key l) lo hi ls (other_unseen bs cases l) (subst (λ (j : ℕ). Within (is_other j) lo hi ls) k w)

pub seen_start : (bs : List Binding) (cases : List ℕ) (l : Lit) (ls : List Literal) (key left count : ℕ) → key ≡ lit_key l → left ≤ count → length ls ≤ count → Within (is_other key) left count ls
    → None ≡ first_number (filter (is_seen bs cases l) (drop left ls))
seen_start bs cases l ls key left count k h n w =
    sym (ap first_number (none_behind (is_seen bs cases l) left count ls h n (unseen_key bs cases l ls key left count k w)))

seen_next : (bs : List Binding) (cases : List ℕ) (l : Lit) (es : List Entry) (ms : List Marks) (to left : ℕ) (e : Entry) (m : Marks) (is : Bool)
    → 0 < left → to ≤ left - 1 → slice_get es (left - 1) ≡ Some e → slice_get ms (left - 1) ≡ Some m → is_seen bs cases l (literal_of 0 e m) ≡ is
    → Within (is_not (is_seen bs cases l)) to (left - 1) (literals_from 0 es ms)
    → filter (is_seen bs cases l) (drop to (literals_from 0 es ms))
    ≡ (if is then literal_of (left - 1) e m ∷ filter (is_seen bs cases l) (drop left (literals_from 0 es ms)) else filter (is_seen bs cases l) (drop left (literals_from 0 es ms)))
seen_next bs cases l es ms to left e m is p t g h q w =
    looked_at (is_seen bs cases l) to (left - 1) left (literals_from 0 es ms) (literal_of (left - 1) e m) is t (omega (arith, p)) (literal_there es ms (left - 1) e m g h) q w

pub seen_more : (bs : List Binding) (cases : List ℕ) (l : Lit) (es : List Entry) (ms : List Marks) (to left : ℕ) (e : Entry) (m : Marks) (is : Bool) (found now : Option ℕ)
    → 0 < left → to ≤ left - 1 → slice_get es (left - 1) ≡ Some e → slice_get ms (left - 1) ≡ Some m → is ≡ is_seen bs cases l (literal_of 0 e m)
    → Within (is_not (is_seen bs cases l)) to (left - 1) (literals_from 0 es ms) → now ≡ (if is then Some (left - 1) else found) → found ≡ first_number (filter (is_seen bs cases l) (drop left (literals_from 0 es ms)))
    → now ≡ first_number (filter (is_seen bs cases l) (drop to (literals_from 0 es ms)))
seen_more bs cases l es ms to left e m is found now p t g h q w n i = n ∙ by is ∙ sym (ap first_number (seen_next bs cases l es ms to left e m is p t g h (sym q) w))
  where
    by : (b : Bool) → (if b then Some (left - 1) else found)
        ≡ first_number (if b then literal_of (left - 1) e m ∷ filter (is_seen bs cases l) (drop left (literals_from 0 es ms)) else filter (is_seen bs cases l) (drop left (literals_from 0 es ms)))
    by true = refl
    by false = i

pub seen_whole : (bs : List Binding) (cases : List ℕ) (l : Lit) (ls : List Literal) (left : ℕ) (found : Option ℕ) → left ≤ 0 → found ≡ first_number (filter (is_seen bs cases l) (drop left ls))
    → found ≡ first_number (filter (is_seen bs cases l) ls)
seen_whole bs cases l ls left found h i = i ∙ ap (λ (xs : List Literal). first_number (filter (is_seen bs cases l) xs)) (whole_left left ls h)

-- ---- a literal that is repeated

other-unsame : (bs : List Binding) (l : Lit) (a : Literal) → is_other (lit_key l) a ≡ true → is_same (reading bs) l a ≡ false
other-unsame bs l a o =
    sym (unalike true (not a.is_general) (same_bool a.lit.positive l.positive) (same_bool a.lit.atom.minus l.atom.minus) (nat_eq a.lit.atom.name l.atom.name)
    (same_tms (all_under (meaning (reading bs)) a.lit.atom.args) (all_under (meaning (reading bs)) l.atom.args))
    (keys-apart a.lit.positive l.positive (same_bool a.lit.atom.minus l.atom.minus) a.lit.atom.name l.atom.name o))

past-unrepeated : (bs : List Binding) (l : Lit) (a : Literal) → is_past (lit_key l) a ≡ true → is_repeated (reading bs) l a ≡ false
past-unrepeated bs l a h = by a.is_done refl
  where
    by : (d : Bool) → a.is_done ≡ d → (not a.is_done && is_same (reading bs) l a) ≡ false
    by true e = ap (λ (d : Bool). not d && is_same (reading bs) l a) e
    by false e =
        ap (λ (d : Bool). not d && is_same (reading bs) l a) e
        ∙ other-unsame bs l a (sym (or-false (is_other (lit_key l) a)) ∙ ap (λ (d : Bool). is_other (lit_key l) a || d) (sym e) ∙ h)

pub unrepeated_key : (bs : List Binding) (l : Lit) (ls : List Literal) (key lo hi : ℕ) → key ≡ lit_key l → Within (is_past key) lo hi ls → Within (is_not (is_repeated (reading bs) l)) lo hi ls
unrepeated_key bs l ls key lo hi k w =
    record { each = λ j a m n g. ap not (past-unrepeated bs l a (ap (λ (i : ℕ). is_past i a) (sym k) ∙ w.each j a m n g)) }

pub unrepeated_step : (bs : List Binding) (l : Lit) (es : List Entry) (ms : List Marks) (to left count : ℕ) (e : Entry) (m : Marks) → 0 < left → slice_get es (left - 1) ≡ Some e → slice_get ms (left - 1) ≡ Some m
    → is_repeated (reading bs) l (literal_of 0 e m) ≡ false → Within (is_not (is_repeated (reading bs) l)) to (left - 1) (literals_from 0 es ms)
    → Within (is_not (is_repeated (reading bs) l)) left count (literals_from 0 es ms) → Within (is_not (is_repeated (reading bs) l)) to count (literals_from 0 es ms)
unrepeated_step bs l es ms to left count e m p g h n v w =
    let q : Literal → Bool = is_not (is_repeated (reading bs) l) in
    let ls = literals_from 0 es ms in
    joined q to left count ls
    (joined q to (left - 1) left ls v (one_within q (left - 1) left (literal_of (left - 1) e m) ls (omega (arith, p)) (literal_there es ms (left - 1) e m g h) (ap not n))) w

pub last_here : (bs : List Binding) (l : Lit) (es : List Entry) (ms : List Marks) (left : ℕ) (e : Entry) (m : Marks) → 0 < left → length ms ≤ length es → slice_get es (left - 1) ≡ Some e → slice_get ms (left - 1) ≡ Some m
    → is_repeated (reading bs) l (literal_of 0 e m) ≡ true → Within (is_not (is_repeated (reading bs) l)) left (length ms) (literals_from 0 es ms) → IsLast bs l (left - 1) (literals_from 0 es ms)
last_here bs l es ms left e m p f g h n w = record {
  there = λ a t.
      let s : literal_of (left - 1) e m ≡ a = cc (literal_there es ms (left - 1) e m g h, t) in
      ap (is_repeated (reading bs) l) (sym s) ∙ n;
  behind = record { each = λ j a i k t. w.each j a (omega (arith, p, i)) (omega (arith, k, literals_length es ms f)) t };
}

filter-passes : (p : Literal → Bool) (xs : List Literal) (a : Literal) (ys : List Literal) → filter p xs ≡ a ∷ ys → p a ≡ true
filter-passes p [] a ys e = absurd (cc e)
filter-passes p (x ∷ xs) a ys e = by (p x) refl e (filter-passes p xs a ys)
  where
    by : (b : Bool) → p x ≡ b → (if b then x ∷ filter p xs else filter p xs) ≡ a ∷ ys → (filter p xs ≡ a ∷ ys → p a ≡ true) → p a ≡ true
    by true h q r = let s : x ≡ a = cc q in ap p (sym s) ∙ h
    by false h q r = r q

-- the literal that the walk has come to is open
opened : (es : List Entry) (ms : List Marks) (n at : ℕ) (e : Entry) (m : Marks) → OpensAt es ms n at → slice_get es at ≡ Some e → slice_get ms at ≡ Some m → m.is_done ≡ false
opened es ms n at e m o g h =
    refused m.is_done (filter-passes (λ a. not a.is_done) (reverse (take n (literals_from 0 es ms))) (literal_of at e m) (open_in at es ms) (o.opens e m g h))

-- what is repeated is not done
undone : (bs : List Binding) (l : Lit) (at : ℕ) (ls : List Literal) (lo hi : ℕ) → IsLast bs l at ls → at < length ls → lo ≤ at → at < hi → Within is_done lo hi ls → ⊥
undone bs l at ls lo hi k n a b w =
    let s = stands ls at n in
    let d : s.0.is_done ≡ true = w.each at s.0 a b s.1 in
    let r : false ≡ true = ap (λ (c : Bool). not c && is_same (reading bs) l s.0) (sym d) ∙ k.there s.0 s.1 in
    cc r

repeated-same : (s : State) (l : Lit) (a : Literal) → is_repeated s l a ≡ true → is_same s l a ≡ true
repeated-same s l a h = (and_parts (not a.is_done) (is_same s l a) h).1

pub nearest_last : (bs : List Binding) (l : Lit) (passed : Bool) (es : List Entry) (ms : List Marks) (left place at : ℕ) (e : Entry) (m : Marks) → length ms ≤ length es → IsLast bs l at (literals_from 0 es ms)
    → OpensAt es ms left place → Within is_done (place + 1) left (literals_from 0 es ms) → place ≤ at → at < left → at < length ms → slice_get es place ≡ Some e → slice_get ms place ≡ Some m
    → nearest (reading bs) l passed (open_in left es ms) ≡ nearest (reading bs) l false (open_among (literals_from 0 es ms))
    → Some (record { number = at; is_behind_negation = passed }) ≡ nearest (reading bs) l false (open_among (literals_from 0 es ms))
nearest_last bs l passed es ms left place at e m f k o d p b c g h i = by (cases_order place at)
  where
    ls : List Literal
    ls = literals_from 0 es ms

    by : ((place ≡ at) ⊎ ((place < at) ⊎ (at < place))) → Some (record { number = at; is_behind_negation = passed }) ≡ nearest (reading bs) l false (open_among ls)
    by (inl q) =
        let there : slice_get ls at ≡ Some (literal_of place e m) = ap (slice_get ls) (sym q) ∙ literal_there es ms place e m g h in
        let same : is_same (reading bs) l (literal_of 0 e m) ≡ true = repeated-same (reading bs) l (literal_of place e m) (k.there (literal_of place e m) there) in
        ap (λ (n : ℕ). Some (record { number = n; is_behind_negation = passed })) (sym q) ∙ nearest_here bs l passed es ms left place e m o g h same ∙ i
    by (inr (inl q)) = absurd (undone bs l at ls (place + 1) left k (omega (arith, c, literals_length es ms f)) (omega (arith, q)) b d)
    by (inr (inr q)) = absurd (omega (arith, p, q))

pub nearest_lost : (bs : List Binding) (l : Lit) (passed : Bool) (es : List Entry) (ms : List Marks) (left at : ℕ) → length ms ≤ length es → IsLast bs l at (literals_from 0 es ms)
    → Within is_done 0 left (literals_from 0 es ms) → at < left → at < length ms
    → Some (record { number = at; is_behind_negation = passed }) ≡ nearest (reading bs) l false (open_among (literals_from 0 es ms))
nearest_lost bs l passed es ms left at f k d b c = absurd (undone bs l at (literals_from 0 es ms) 0 left k (omega (arith, c, literals_length es ms f)) (omega arith) b d)

pub nearest_behind : (bs : List Binding) (l : Lit) (passed now : Bool) (es : List Entry) (ms : List Marks) (left place at : ℕ) (e : Entry) (m : Marks) → length ms ≤ length es → IsLast bs l at (literals_from 0 es ms)
    → OpensAt es ms left place → at < place → slice_get es place ≡ Some e → slice_get ms place ≡ Some m → now ≡ (passed || not e.lit.positive)
    → nearest (reading bs) l passed (open_in left es ms) ≡ nearest (reading bs) l false (open_among (literals_from 0 es ms))
    → nearest (reading bs) l now (open_in place es ms) ≡ nearest (reading bs) l false (open_among (literals_from 0 es ms))
nearest_behind bs l passed now es ms left place at e m f k o b g h n i =
    let ls = literals_from 0 es ms in
    let not_so : is_repeated (reading bs) l (literal_of place e m) ≡ false =
    refused (is_repeated (reading bs) l (literal_of place e m))
    (k.behind.each place (literal_of place e m) (omega (arith, b)) (some_within ls place (literal_of place e m) (literal_there es ms place e m g h)) (literal_there es ms place e m g h)) in
    let other : is_same (reading bs) l (literal_of 0 e m) ≡ false = ap (λ (d : Bool). not d && is_same (reading bs) l (literal_of 0 e m)) (sym (opened es ms left place e m o g h)) ∙ not_so in
    ap (λ (c : Bool). nearest (reading bs) l c (open_in place es ms)) n ∙ nearest_past bs l passed es ms left place e m o g h other ∙ i

-- where none is repeated there is none above
none-above : (bs : List Binding) (l : Lit) (ls : List Literal) (n : ℕ) → Within (is_not (is_repeated (reading bs) l)) 0 n ls → (passed : Bool) → nearest (reading bs) l passed (open_among (take n ls)) ≡ None
none-above bs l ls zero w passed = refl
none-above bs l ls (suc n) w passed = by (slice_get ls n) refl (none-above bs l ls n (record { each = λ j a z h g. w.each j a z (omega (arith, h)) g }))
  where
    Rest : Type 0
    Rest = (p : Bool) → nearest (reading bs) l p (open_among (take n ls)) ≡ None

    next : suc n ≡ n + 1
    next = omega arith

    at : (a : Literal) → slice_get ls n ≡ Some a → (d : Bool) → a.is_done ≡ d → Rest → nearest (reading bs) l passed (if d then open_among (take n ls) else a ∷ open_among (take n ls)) ≡ None
    at a g true e r = r passed
    at a g false e r =
        let other : is_same (reading bs) l a ≡ false =
        ap (λ (c : Bool). not c && is_same (reading bs) l a) (sym e) ∙ refused (is_repeated (reading bs) l a) (w.each n a (omega arith) (omega arith) g) in
        ap (λ (b : Bool). if b then Some (record { number = a.number; is_behind_negation = passed }) else nearest (reading bs) l (passed || not a.lit.positive) (open_among (take n ls))) other
        ∙ r (passed || not a.lit.positive)

    by : (o : Option Literal) → slice_get ls n ≡ o → Rest → nearest (reading bs) l passed (open_among (take (suc n) ls)) ≡ None
    by None g r =
        ap (λ (xs : List Literal). nearest (reading bs) l passed (open_among xs)) (take_all (suc n) ls (omega (arith, not_there ls n g)) ∙ sym (take_all n ls (not_there ls n g))) ∙ r passed
    by (Some a) g r =
        ap (λ (k : ℕ). nearest (reading bs) l passed (open_among (take k ls))) next
        ∙ ap (nearest (reading bs) l passed) (ap open_among (taken_more ls n a g) ∙ open_pushed (take n ls) a)
        ∙ at a g a.is_done refl r

pub nearest_nowhere : (bs : List Binding) (l : Lit) (es : List Entry) (ms : List Marks) → length ms ≤ length es → Within (is_not (is_repeated (reading bs) l)) 0 (length ms) (literals_from 0 es ms)
    → None ≡ nearest (reading bs) l false (open_among (literals_from 0 es ms))
nearest_nowhere bs l es ms f w = sym (sym (ap (nearest (reading bs) l false) (whole es ms (length ms) refl f)) ∙ none-above bs l (literals_from 0 es ms) (length ms) w false)

-- ---- literals of the other sign

unopposed : (u x y z g f : Bool) → y ≡ false → (u && (x && y && z) && g && f) ≡ false
unopposed u x y z g f e = ap (λ (b : Bool). u && (x && b && z) && g && f) e ∙ by u x
  where
    by : (u x : Bool) → (u && (x && false && z) && g && f) ≡ false
    by true true = refl
    by true false = refl
    by false x = refl

keys-unopposed : (p q x z g f : Bool) (n m : ℕ) → not (nat_eq (key_of p n) (key_of (not q) m)) ≡ true → (not (same_bool p q) && (x && nat_eq n m && z) && g && f) ≡ false
keys-unopposed p q x z g f n m h = by (nat_eq n m) refl
  where
    signs : (p q : Bool) → not (nat_eq (key_of p n) (key_of (not q) m)) ≡ true → nat_eq n m ≡ true → (not (same_bool p q) && (x && nat_eq n m && z) && g && f) ≡ false
    signs true true k e = refl
    signs false false k e = refl
    signs true false k e = absurd (same-key true n m e k)
    signs false true k e = absurd (same-key false n m e k)

    by : (b : Bool) → nat_eq n m ≡ b → (not (same_bool p q) && (x && nat_eq n m && z) && g && f) ≡ false
    by true e = signs p q h e
    by false e = unopposed (not (same_bool p q)) x (nat_eq n m) z g f e

-- the key of the literals that are opposite
abbrev pub opposite_key : Lit → ℕ
opposite_key l = key_of (not l.positive) l.atom.name

other-unopposed : (s : State) (l : Lit) (a : Literal) → is_other (opposite_key l) a ≡ true → is_opposite s l a ≡ false
other-unopposed s l a o =
    keys-unopposed a.lit.positive l.positive (same_bool a.lit.atom.minus l.atom.minus) (nat_eq (pred_of a.lit.atom).arity (pred_of l.atom).arity) (not a.is_general) (is_free s a.lit)
    a.lit.atom.name l.atom.name o

last-false : (p q : Bool) → q ≡ false → (p && q) ≡ false
last-false true q e = e
last-false false q e = refl

other_unopposed : (s : State) (f : Option Root) (l : Lit) (a : Literal) → is_other (opposite_key l) a ≡ true → is_opposed s f l a ≡ false
other_unopposed s f l a o = last-false (not (starts_apart s.bound f a.lit)) (is_opposite s l a) (other-unopposed s l a o)

unopposed_key : (s : State) (f : Option Root) (l : Lit) (ls : List Literal) (key lo hi : ℕ) → key ≡ opposite_key l → Within (is_other key) lo hi ls → Within (is_not (is_opposed s f l)) lo hi ls
unopposed_key s f l ls key lo hi k w =
    within_not (is_opposed s f l) (opposite_key l) lo hi ls (other_unopposed s f l) (subst (λ (j : ℕ). Within (is_other j) lo hi ls) k w)

pub apart_start : (s : State) (f : Option Root) (l : Lit) (ls : List Literal) (key left count : ℕ) → key ≡ opposite_key l → left ≤ count → length ls ≤ count → Within (is_other key) left count ls
    → map (differing l) (filter (is_opposed s f l) (drop left ls)) ≡ reverse []
apart_start s f l ls key left count k h n w =
    ap (map (differing l)) (none_behind (is_opposed s f l) left count ls h n (unopposed_key s f l ls key left count k w))

pub apart_next : (s : State) (f : Option Root) (l : Lit) (es : List Entry) (ms : List Marks) (key to left : ℕ) (e : Entry) (m : Marks) (is : Bool) (made now : List Con) → key ≡ opposite_key l
    → 0 < left → to ≤ left - 1 → slice_get es (left - 1) ≡ Some e → slice_get ms (left - 1) ≡ Some m → is ≡ is_opposed s f l (literal_of 0 e m)
    → Within (is_other key) to (left - 1) (literals_from 0 es ms) → now ≡ made ++ only_if is (differing l (literal_of 0 e m))
    → map (differing l) (filter (is_opposed s f l) (drop left (literals_from 0 es ms))) ≡ reverse made
    → map (differing l) (filter (is_opposed s f l) (drop to (literals_from 0 es ms))) ≡ reverse now
apart_next s f l es ms key to left e m is made now k p t g h q w n i =
    let ls = literals_from 0 es ms in
    let v : Within (is_not (is_opposed s f l)) to (left - 1) ls = unopposed_key s f l ls key to (left - 1) k w in
    ap (map (differing l)) (looked_at (is_opposed s f l) to (left - 1) left ls (literal_of (left - 1) e m) is t (omega (arith, p)) (literal_there es ms (left - 1) e m g h) (sym q) v)
    ∙ by is ∙ sym (ap reverse n)
  where
    by : (b : Bool) → map (differing l) (if b then literal_of (left - 1) e m ∷ filter (is_opposed s f l) (drop left (literals_from 0 es ms)) else filter (is_opposed s f l) (drop left (literals_from 0 es ms)))
        ≡ reverse (made ++ only_if b (differing l (literal_of 0 e m)))
    by true = ap (λ (cs : List Con). differing l (literal_of 0 e m) ∷ cs) i ∙ sym (reverse-append made (differing l (literal_of 0 e m) ∷ []))
    by false = i ∙ ap reverse (sym (append-nil made))

pub apart_whole : (s : State) (f : Option Root) (l : Lit) (ls : List Literal) (left : ℕ) (made : List Con) → left ≤ 0 → map (differing l) (filter (is_opposed s f l) (drop left ls)) ≡ reverse made
    → reverse made ≡ map (differing l) (filter (is_opposed s f l) ls)
apart_whole s f l ls left made h i = sym i ∙ ap (λ (xs : List Literal). map (differing l) (filter (is_opposed s f l) xs)) (whole_left left ls h)
