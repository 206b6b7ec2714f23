-- Terms searched and equations taken apart, by a walk.
use Rattle.std.proofs.Common.{◌≡◌, ◌≢◌, ℕ, ◌+◌, ◌<◌, ◌≤◌, Bool, true, false, ◌||◌, ◌&&◌, nat_eq, if◌then◌else◌, List, length, map, Option, None, Some, refl, ap, sym, ◌∙◌, arith, append-nil}
use Rattle.std.proofs.lemmas.Bool.{and_parts, true≢false}
use Rattle.std.proofs.lemmas.Bool.Decides.{Decides-eqb}
use Rattle.scasp_num.specs.Number.{Number}
use Rattle.scasp_syntax.specs.Tm.{Tm, Tms, var, num, app, nil, cons, items, weight, weight_s}
use Rattle.scasp_syntax.specs.View.{tm_of}
use Rattle.scasp_syntax.specs.Walks.{onto}
use Rattle.scasp_syntax.specs.declared.term.Term.{Term}
use Rattle.scasp_syntax.specs.declared.term.Term.TheVariants.{Var, Num, App}
use Rattle.scasp_syntax.proofs.RebuildLemmas.{no_terms}
use Rattle.scasp_syntax.proofs.WalkLemmas.{onto-weight}
use Rattle.scasp_unify.specs.Parts.{Part, occurs, occurs_among, both_parts, parts, parts_each}
use Rattle.scasp_unify.specs.Solving.{behind, part_of}
use Rattle.scasp_unify.specs.declared.parts.Part.{Part as FoundPart}
use Rattle.scasp_unify.proofs.LaterParts.{both-assoc, both-first, both-nil}
use Rattle.scasp_unify.proofs.TermListLemmas.{parts_each-length}

-- ---- whether a variable stands in what is left

or_or : (a b c : Bool) → (a || (b || c)) ≡ ((a || b) || c)
or_or true b c = refl
or_or false b c = refl

occurs-onto : (x : ℕ) (ts us : Tms) → occurs_among x (onto ts us) ≡ (occurs_among x ts || occurs_among x us)
occurs-onto x nil us = refl
occurs-onto x (cons t ts) us = ap (λ b. occurs x t || b) (occurs-onto x ts us) ∙ or_or (occurs x t) (occurs_among x ts) (occurs_among x us)

-- the next term is the variable
pub seen_here : (x y : ℕ) (t : Term) (all left : Tms) (z : Bool) → all ≡ cons (tm_of t) left → t ≡ Var y → x ≡ y → occurs_among x all ≡ z → true ≡ z
seen_here x y t all left z a e f h =
    sym (ap (λ b. b || occurs_among x left) ((Decides-eqb x y).1 f))
    ∙ ap (λ (u : Term). occurs x (tm_of u) || occurs_among x left) (sym e) ∙ ap (occurs_among x) (sym a) ∙ h

not-equal : (x y : ℕ) → x ≢ y → nat_eq x y ≡ false
not-equal x y n = by (nat_eq x y) refl
  where
    by : (b : Bool) → nat_eq x y ≡ b → b ≡ false
    by true e = absurd (n ((Decides-eqb x y).0 e))
    by false e = refl

-- it is another one
pub other_passed : (x y : ℕ) (t : Term) (all left : Tms) (z : Bool) → all ≡ cons (tm_of t) left → t ≡ Var y → x ≢ y → occurs_among x all ≡ z → occurs_among x left ≡ z
other_passed x y t all left z a e f h =
    sym (ap (λ b. b || occurs_among x left) (not-equal x y f))
    ∙ ap (λ (u : Term). occurs x (tm_of u) || occurs_among x left) (sym e) ∙ ap (occurs_among x) (sym a) ∙ h

-- it is a number
pub number_passed : (x : ℕ) (q : Number) (t : Term) (all left : Tms) (z : Bool) → all ≡ cons (tm_of t) left → t ≡ Num q → occurs_among x all ≡ z → occurs_among x left ≡ z
number_passed x q t all left z a e h = ap (λ (u : Term). occurs x (tm_of u) || occurs_among x left) (sym e) ∙ ap (occurs_among x) (sym a) ∙ h

-- it has arguments
pub args_next : (x f : ℕ) (ts : Tms) (t : Term) (all left more : Tms) (z : Bool) → all ≡ cons (tm_of t) left → t ≡ App f ts → more ≡ onto ts left → occurs_among x all ≡ z → occurs_among x more ≡ z
args_next x f ts t all left more z a e m h =
    ap (occurs_among x) m ∙ occurs-onto x ts left ∙ ap (λ (u : Term). occurs x (tm_of u) || occurs_among x left) (sym e) ∙ ap (occurs_among x) (sym a) ∙ h

-- it is a name alone
pub no_args : (x f : ℕ) (ts : Tms) (t : Term) (all left : Tms) (z : Bool) → all ≡ cons (tm_of t) left → t ≡ App f ts → length (items ts) ≡ 0 → occurs_among x all ≡ z → occurs_among x left ≡ z
no_args x f ts t all left z a e n h = args_next x f ts t all left left z a e (ap (λ us. onto us left) (sym (no_terms ts n))) h

-- no term is left
pub none_seen : (x : ℕ) (all : Tms) (z : Bool) → all ≡ nil → occurs_among x all ≡ z → false ≡ z
none_seen x all z a h = ap (occurs_among x) (sym a) ∙ h

heavy : (t : Tm) → 1 ≤ weight t
heavy (var x) = omega arith
heavy (num q) = omega arith
heavy (app f ts) = omega arith

pub less_left : (t : Term) (all left : Tms) → all ≡ cons (tm_of t) left → weight_s left < weight_s all
less_left t all left a = omega (arith, ap weight_s a, heavy (tm_of t))

pub less_entered : (f : ℕ) (ts : Tms) (t : Term) (all left more : Tms) → all ≡ cons (tm_of t) left → t ≡ App f ts → more ≡ onto ts left → weight_s more < weight_s all
less_entered f ts t all left more a e m = omega (arith, ap weight_s a, ap (λ (u : Term). weight (tm_of u)) e, ap weight_s m, onto-weight ts left)

-- ---- what is left of an equation

-- lists of one length, before others
each-onto : (ts us ls rs : Tms) → length (items ts) ≡ length (items us) → parts_each (onto ts ls) (onto us rs) ≡ both_parts (parts_each ts us) (parts_each ls rs)
each-onto nil nil ls rs e = sym (both-first (parts_each ls rs))
each-onto nil (cons u us) ls rs e = absurd (omega (arith, e))
each-onto (cons t ts) nil ls rs e = absurd (omega (arith, e))
each-onto (cons t ts) (cons u us) ls rs e =
    ap (both_parts (parts t u)) (each-onto ts us ls rs (omega (arith, e))) ∙ both-assoc (parts t u) (parts_each ts us) (parts_each ls rs)

-- two names with as many arguments
pub names_apart : (before : List FoundPart) (f g : ℕ) (t u : Term) (ts us ls rs lefts rights : Tms) → t ≡ App f ts → u ≡ App g us
    → true ≡ (nat_eq f g && nat_eq (length (items ts)) (length (items us))) → lefts ≡ onto ts ls → rights ≡ onto us rs
    → behind before (both_parts (parts (tm_of t) (tm_of u)) (parts_each ls rs)) ≡ behind before (parts_each lefts rights)
names_apart before f g t u ts us ls rs lefts rights d e h l r =
    let p = and_parts (nat_eq f g) (nat_eq (length (items ts)) (length (items us))) (sym h) in
    ap (behind before)
    ((λ j. both_parts (parts (tm_of (d j)) (tm_of (e j))) (parts_each ls rs))
    ∙ ap (λ b. both_parts (if b then parts_each ts us else None) (parts_each ls rs)) p.0
    ∙ sym (each-onto ts us ls rs ((Decides-eqb (length (items ts)) (length (items us))).0 p.1)) ∙ (λ j. parts_each (sym l j) (sym r j)))

-- a name alone, twice
pub constants_apart : (before : List FoundPart) (f g : ℕ) (t u : Term) (ts us ls rs : Tms) → t ≡ App f ts → u ≡ App g us
    → true ≡ (nat_eq f g && nat_eq (length (items ts)) (length (items us))) → length (items ts) ≡ 0
    → behind before (both_parts (parts (tm_of t) (tm_of u)) (parts_each ls rs)) ≡ behind before (parts_each ls rs)
constants_apart before f g t u ts us ls rs d e h n =
    let p = and_parts (nat_eq f g) (nat_eq (length (items ts)) (length (items us))) (sym h) in
    let m = sym ((Decides-eqb (length (items ts)) (length (items us))).0 p.1) ∙ n in
    names_apart before f g t u ts us ls rs ls rs d e h (ap (λ vs. onto vs ls) (sym (no_terms ts n))) (ap (λ vs. onto vs rs) (sym (no_terms us m)))

-- others
pub shapes_clash : (f g : ℕ) (t u : Term) (ts us : Tms) (r : Option (List Part)) → t ≡ App f ts → u ≡ App g us
    → false ≡ (nat_eq f g && nat_eq (length (items ts)) (length (items us))) → both_parts (parts (tm_of t) (tm_of u)) r ≡ None
shapes_clash f g t u ts us r d e h = (λ j. both_parts (parts (tm_of (d j)) (tm_of (e j))) r) ∙ by (nat_eq f g) (nat_eq (length (items ts)) (length (items us))) refl h
  where
    by : (b c : Bool) → nat_eq (length (items ts)) (length (items us)) ≡ c → false ≡ (b && c) → both_parts (if b then parts_each ts us else None) r ≡ None
    by false c m k = refl
    by true false m k = ap (λ o. both_parts o r) (parts_each-length ts us (λ n. absurd (true≢false (sym ((Decides-eqb (length (items ts)) (length (items us))).1 n) ∙ m))))
    by true true m k = cc

pub less_apart : (f : ℕ) (t : Term) (ts ls lefts : Tms) → t ≡ App f ts → lefts ≡ onto ts ls → weight_s lefts < weight (tm_of t) + weight_s ls
less_apart f t ts ls lefts e l = omega (arith, ap (λ (u : Term). weight (tm_of u)) e, ap weight_s l, onto-weight ts ls)

-- ---- a whole equation

pub whole_left : (before : List FoundPart) (t u : Term) (lefts rights : Tms) → lefts ≡ cons (tm_of t) nil → rights ≡ cons (tm_of u) nil → behind before (parts (tm_of t) (tm_of u)) ≡ behind before (parts_each lefts rights)
whole_left before t u lefts rights l r = ap (behind before) (both-nil (parts (tm_of t) (tm_of u)) ∙ (λ j. parts_each (sym l j) (sym r j)))

pub step_left : (found after : List FoundPart) (t u : Term) (lefts rights ls rs more others : Tms) (z : Option (List Part)) → lefts ≡ cons (tm_of t) ls → rights ≡ cons (tm_of u) rs
    → behind found (both_parts (parts (tm_of t) (tm_of u)) (parts_each ls rs)) ≡ behind after (parts_each more others) → z ≡ behind found (parts_each lefts rights) → z ≡ behind after (parts_each more others)
step_left found after t u lefts rights ls rs more others z l r a h = h ∙ (λ j. behind found (parts_each (l j) (r j))) ∙ a

behind-only : (found : List FoundPart) (o : Option (List Part)) → behind found o ≡ None → o ≡ None
behind-only found None e = refl
behind-only found (Some ps) e = cc

-- the first terms clash
pub step_clash : (before found : List FoundPart) (t u : Term) (lefts rights ls rs : Tms) (z : Option (List Part)) → lefts ≡ cons (tm_of t) ls → rights ≡ cons (tm_of u) rs
    → both_parts (parts (tm_of t) (tm_of u)) (parts_each ls rs) ≡ None → behind before z ≡ behind found (parts_each lefts rights) → z ≡ None
step_clash before found t u lefts rights ls rs z l r a h = behind-only before z (h ∙ (λ j. behind found (parts_each (l j) (r j))) ∙ ap (behind found) a)

-- only one side is left
pub left_alone : (before found : List FoundPart) (t : Term) (lefts rights ls : Tms) (z : Option (List Part)) → lefts ≡ cons (tm_of t) ls → rights ≡ nil → behind before z ≡ behind found (parts_each lefts rights) → z ≡ None
left_alone before found t lefts rights ls z l r h = behind-only before z (h ∙ (λ j. behind found (parts_each (l j) (r j))))

pub right_alone : (before found : List FoundPart) (u : Term) (lefts rights rs : Tms) (z : Option (List Part)) → lefts ≡ nil → rights ≡ cons (tm_of u) rs → behind before z ≡ behind found (parts_each lefts rights) → z ≡ None
right_alone before found u lefts rights rs z l r h = behind-only before z (h ∙ (λ j. behind found (parts_each (l j) (r j))))

-- all terms are taken apart
pub none_left : (before found : List FoundPart) (lefts rights : Tms) (z : Option (List Part)) → lefts ≡ nil → rights ≡ nil → behind before z ≡ behind found (parts_each lefts rights) → behind before z ≡ Some (map part_of found)
none_left before found lefts rights z l r h = h ∙ (λ j. behind found (parts_each (l j) (r j))) ∙ ap Some (append-nil (map part_of found))
