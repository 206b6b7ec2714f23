-- What a list's terms decide: a list that fails by terms has no valuation, and another has one, but for its rows.
use Rattle.std.proofs.Common.{◌≡◌, ◌⊎◌, inl, inr, ℕ, suc, ◌<◌, Bool, true, false, ◌&&◌, ◌||◌, not, nat_eq, nat_lt, if◌then◌else◌, List, [], ◌∷◌, length, Option, None, Some, refl, sym, ap, subst, ◌∙◌, arith}
use Rattle.std.specs.List.{list_any, Contains}
use Rattle.std.proofs.lemmas.Bool.{or_cases, and_parts, eqb-true, eqb-false, ltb-true, true≢false}
use Rattle.scasp_list.specs.Each.{Each}
use Rattle.scasp_list.proofs.EachLemmas.{Each-map}
use Rattle.scasp_syntax.specs.Same.{same_number}
use Rattle.scasp_syntax.specs.Tm.{Tm, Tms, var, num, app, nil, cons, items}
use Rattle.scasp_syntax.specs.Values.{Sub, under, all_under}
use Rattle.scasp_syntax.specs.View.{tm_of}
use Rattle.scasp_syntax.specs.Constraints.{is_number, has_shape}
use Rattle.scasp_unify.specs.Parts.{Part, parts, parts_each, part_if, occurs}
use Rattle.scasp_unify.specs.Unification.{then_by, Absorbs}
use Rattle.scasp_unify.specs.Resolver.{unifies, resolver, Equal}
use Rattle.scasp_unify.specs.Numbers.{counts, is_num_of, number_var, is_number_term, is_among_numbers}
use Rattle.scasp_unify.specs.TermFailures.{is_refuted, fails_by_terms, is_identity, is_compound}
use Rattle.scasp_unify.proofs.Choices.{is_named_below, are_named_below, Named, Apart, IfParts-apart, TermsHold, Choice}
use Rattle.scasp_syntax.specs.declared.con.Con.{Con}
use Rattle.scasp_syntax.specs.declared.con.Con.TheVariants as con
use Rattle.scasp_syntax.proofs.SameLemmas.{tm_decided}
use Rattle.scasp_syntax.proofs.ValueLemmas.{under-under, differ_decided}
use Rattle.scasp_unify.proofs.UnificationLemmas.{Fits, Says, IfParts, both-fair, parts-say, resolved-twice}
use Rattle.scasp_unify.proofs.ResolverLemmas.{complete-list, resolver-equal}
use Rattle.scasp_unify.proofs.Members.{or-left, or-right, not-false, Each-member}
use Rattle.scasp_list.proofs.MemberLemmas.{list_any-from, list_any-none_member, list_any-member}

-- ---- a part between terms that are not both numbers

-- the part's variable is not in its term, whose names are below k
record Plain (k : ℕ) (p : Part) : Type 0 where
  absent : occurs p.at p.term ≡ false
  named : is_named_below k p.term ≡ true

part_if-plain : (k x : ℕ) (t : Tm) (turned : Bool) → is_named_below k t ≡ true → IfParts (part_if x t turned) (Plain k)
part_if-plain k x t turned h = by (occurs x t) refl
  where
    by : (b : Bool) → occurs x t ≡ b → IfParts (if b then None else Some (record { at = x; term = t; turned = turned } ∷ [])) (Plain k)
    by true e = tt
    by false e = (record { absent = e; named = h }, tt)

mutual
  parts-plain : (k : ℕ) (t u : Tm) → is_named_below k t ≡ true → is_named_below k u ≡ true → IfParts (parts t u) (Plain k)
  parts-plain k (var x) (var y) h g = by (nat_eq x y) refl
    where
      by : (b : Bool) → nat_eq x y ≡ b → IfParts (if b then Some [] else Some (record { at = x; term = var y; turned = false } ∷ [])) (Plain k)
      by true e = tt
      by false e = (record { absent = e; named = refl }, tt)
  parts-plain k (var x) (num r) h g = part_if-plain k x (num r) false g
  parts-plain k (var x) (app f us) h g = part_if-plain k x (app f us) false g
  parts-plain k (num q) (var y) h g = part_if-plain k y (num q) true h
  parts-plain k (num q) (num r) h g = by (same_number q r)
    where
      by : (b : Bool) → IfParts (if b then Some [] else None) (Plain k)
      by true = tt
      by false = tt
  parts-plain k (num q) (app f us) h g = tt
  parts-plain k (app f ts) (var y) h g = part_if-plain k y (app f ts) true h
  parts-plain k (app f ts) (num r) h g = tt
  parts-plain k (app f ts) (app e us) h g = by (nat_eq f e) (parts_each-plain k ts us (and_parts (nat_lt f k) (are_named_below k ts) h).1 (and_parts (nat_lt e k) (are_named_below k us) g).1)
    where
      by : (b : Bool) → IfParts (parts_each ts us) (Plain k) → IfParts (if b then parts_each ts us else None) (Plain k)
      by true p = p
      by false p = tt

  parts_each-plain : (k : ℕ) (ts us : Tms) → are_named_below k ts ≡ true → are_named_below k us ≡ true → IfParts (parts_each ts us) (Plain k)
  parts_each-plain k nil nil h g = tt
  parts_each-plain k nil (cons u us) h g = tt
  parts_each-plain k (cons t ts) nil h g = tt
  parts_each-plain k (cons t ts) (cons u us) h g =
      let a = and_parts (is_named_below k t) (are_named_below k ts) h in
      let b = and_parts (is_named_below k u) (are_named_below k us) g in
      both-fair (Plain k) (parts t u) (parts_each ts us) (parts-plain k t u a.0 b.0) (parts_each-plain k ts us a.1 b.1)

mixed-apart : (cs : List Con) (k : ℕ) (w : Sub) (x : ℕ) (t : Tm) → Choice cs k w → occurs x t ≡ false → is_named_below k t ≡ true → (number_var cs x && is_number_term cs t) ≡ false → w x ≡ under w t → ⊥
mixed-apart cs k w x (var y) c absent named e same = by (number_var cs x) (number_var cs y) refl refl e
  where
    by : (a b : Bool) → number_var cs x ≡ a → number_var cs y ≡ b → (a && b) ≡ false → ⊥
    by true true f g h = cc
    by true false f g h = let p = c.numbers x f in let q : w x ≡ app (c.named y) nil = same ∙ c.names y g in let r : is_number (w x) ≡ false = ap is_number q in true≢false (sym p ∙ r)
    by false true f g h = let p = c.numbers y g in let q : w y ≡ app (c.named x) nil = sym same ∙ c.names x f in let r : is_number (w y) ≡ false = ap is_number q in true≢false (sym p ∙ r)
    by false false f g h =
        let p : ◌≡◌ {A = Tm} (app (c.named x) nil) (app (c.named y) nil) = sym (c.names x f) ∙ same ∙ c.names y g in
        let q : c.named x ≡ c.named y = cc in
        eqb-false x y absent (c.distinct x y q)
mixed-apart cs k w x (num q) c absent named e same = by (number_var cs x) refl e
  where
    by : (a : Bool) → number_var cs x ≡ a → (a && true) ≡ false → ⊥
    by true f h = cc
    by false f h = let p : ◌≡◌ {A = Tm} (app (c.named x) nil) (num q) = sym (c.names x f) ∙ same in cc
mixed-apart cs k w x (app g us) c absent named e same = by (number_var cs x) refl
  where
    by : (a : Bool) → number_var cs x ≡ a → ⊥
    by true f = let p = c.numbers x f in let r : is_number (w x) ≡ false = ap is_number same in true≢false (sym p ∙ r)
    by false f =
        let p : ◌≡◌ {A = Tm} (app (c.named x) nil) (app g (all_under w us)) = sym (c.names x f) ∙ same in
        let q : c.named x ≡ g = cc in
        let below : g < k = ltb-true g k (and_parts (nat_lt g k) (are_named_below k us) named).0 in
        omega (arith, q, below, c.fresh x)

-- parts of which one is not between numbers are not all fitted
some-apart : (cs : List Con) (k : ℕ) (w : Sub) (ps : List Part) → Choice cs k w → Each (Plain k) ps → is_among_numbers cs ps ≡ false → Each (Fits w) ps → ⊥
some-apart cs k w [] c h e f = cc
some-apart cs k w (p ∷ ps) c h e f = by (number_var cs p.at && is_number_term cs p.term) refl e (λ g. some-apart cs k w ps c h.1 g f.1)
  where
    by : (b : Bool) → (number_var cs p.at && is_number_term cs p.term) ≡ b → (b && is_among_numbers cs ps) ≡ false → (is_among_numbers cs ps ≡ false → ⊥) → ⊥
    by true g i rest = rest i
    by false g i rest = mixed-apart cs k w p.at p.term c h.0.absent h.0.named g f.0

-- ---- each constraint that is no row

under-length : (w : Sub) (us : Tms) → length (items (all_under w us)) ≡ length (items us)
under-length w nil = refl
under-length w (cons u us) = ap suc (under-length w us)

pub complete : (cs : List Con) (k : ℕ) (w : Sub) → fails_by_terms cs ≡ false → Each (Named k (resolver cs)) cs → Choice cs k w → Each (Apart cs w) cs → (c : Con) → Contains cs c → TermsHold (then_by (resolver cs) w) c
complete cs k w e names choice differ c i = by c i (Each-member (Named k (resolver cs)) cs c names i) (Each-member (Apart cs w) cs c differ i) (list_any-none_member (is_refuted cs) cs c parts-of.1 i)
  where
    parts-of : (unifies cs ≡ true) × (list_any (is_refuted cs) cs ≡ false)
    parts-of = not-false (unifies cs) (list_any (is_refuted cs) cs) e

    by : (c : Con) → Contains cs c → Named k (resolver cs) c → Apart cs w c → is_refuted cs c ≡ false → TermsHold (then_by (resolver cs) w) c
    by (con.Eq t u) i n d r =
        let equal = Each-member (Equal (resolver cs)) cs (con.Eq t u) (resolver-equal cs parts-of.0) i in
        (tm_decided (under (then_by (resolver cs) w) (tm_of t)) (under (then_by (resolver cs) w) (tm_of u))).1
        (sym (under-under w (resolver cs) (tm_of t)) ∙ ap (under w) equal ∙ under-under w (resolver cs) (tm_of u))
    by (con.Neq t u) i n d r =
        (differ_decided (under (then_by (resolver cs) w) (tm_of t)) (under (then_by (resolver cs) w) (tm_of u))).1
        (λ same. not-equal (parts (under (resolver cs) (tm_of t)) (under (resolver cs) (tm_of u))) (parts-say w (under (resolver cs) (tm_of t)) (under (resolver cs) (tm_of u))) (parts-plain k (under (resolver cs) (tm_of t)) (under (resolver cs) (tm_of u)) n.0 n.1) d
        (under-under w (resolver cs) (tm_of t) ∙ same ∙ sym (under-under w (resolver cs) (tm_of u))))
      where
        not-equal : (o : Option (List Part)) → Says w o (under w (under (resolver cs) (tm_of t)) ≡ under w (under (resolver cs) (tm_of u))) → IfParts o (Plain k) → IfParts-apart cs w o → under w (under (resolver cs) (tm_of t)) ≡ under w (under (resolver cs) (tm_of u)) → ⊥
        not-equal None says plain d same = says same
        not-equal (Some ps) says plain d same = among (is_among_numbers cs ps) refl
          where
            among : (b : Bool) → is_among_numbers cs ps ≡ b → ⊥
            among true f = d f (says.0 same)
            among false f = some-apart cs k w ps choice plain f (says.0 same)
    by (con.NotShape x f m) i n d r = shape (resolver cs x) r
      where
        unbound : (y : ℕ) (b : Bool) → number_var cs y ≡ b → has_shape f m (w y) ≡ false
        unbound y true g = is-number (w y) (choice.numbers y g)
          where
            is-number : (t : Tm) → is_number t ≡ true → has_shape f m t ≡ false
            is-number (var z) h = cc
            is-number (num q) h = refl
            is-number (app h us) k = cc
        unbound y false g = rw (choice.names y g) (other-name (nat_eq (choice.named y) f) refl)
          where
            other-name : (b : Bool) → nat_eq (choice.named y) f ≡ b → (b && nat_eq 0 m) ≡ false
            other-name true h = let p = eqb-true (choice.named y) f h in absurd (omega (arith, p, n, choice.fresh y))
            other-name false h = refl

        shape : (t : Tm) → has_shape f m t ≡ false → not (has_shape f m (under w t)) ≡ true
        shape (var y) h = rw (unbound y (number_var cs y) refl) refl
        shape (num q) h = refl
        shape (app g us) h = rw (under-length w us, h) refl
    by (con.Num t) i n d r = number (under (resolver cs) (tm_of t)) refl r
      where
        number : (z : Tm) → under (resolver cs) (tm_of t) ≡ z → is_compound z ≡ false → is_number (under (then_by (resolver cs) w) (tm_of t)) ≡ true
        number (var y) same h =
            let stands = list_any-from (is_num_of (resolver cs) (var y)) cs (con.Num t) i ((tm_decided (under (resolver cs) (tm_of t)) (var y)).1 same) in
            ap is_number (sym (under-under w (resolver cs) (tm_of t)) ∙ ap (under w) same) ∙ choice.numbers y stands
        number (num q) same h = ap is_number (sym (under-under w (resolver cs) (tm_of t)) ∙ ap (under w) same)
        number (app g us) same h = cc
    by (con.NotNum t) i n d r = number (under (resolver cs) (tm_of t)) refl r
      where
        number : (z : Tm) → under (resolver cs) (tm_of t) ≡ z → is_number_term cs z ≡ false → not (is_number (under (then_by (resolver cs) w) (tm_of t))) ≡ true
        number (var y) same h = ap (λ z. not (is_number z)) (sym (under-under w (resolver cs) (tm_of t)) ∙ ap (under w) same ∙ choice.names y h)
        number (num q) same h = cc
        number (app g us) same h = ap (λ z. not (is_number z)) (sym (under-under w (resolver cs) (tm_of t)) ∙ ap (under w) same)
    by (con.Row q) i n d r = tt

-- ---- what holds does not fail by terms

none-of : (p : Con → Bool) (cs : List Con) → ((c : Con) → Contains cs c → p c ≡ true → ⊥) → list_any p cs ≡ false
none-of p cs h = by (list_any p cs) refl
  where
    by : (b : Bool) → list_any p cs ≡ b → b ≡ false
    by true e = let k = list_any-member p cs e in absurd (h k.0 k.1 k.2)
    by false e = refl

-- a constraint that says that a term is a number
pub num-of : (s : Sub) (u : Tm) (c : Con) → is_num_of s u c ≡ true → (v : Sub) → Absorbs v s → TermsHold v c → is_number (under v u) ≡ true
num-of s u (con.Num t) e v a h =
    let same = (tm_decided (under s (tm_of t)) u).0 e in
    ap is_number (ap (under v) (sym same) ∙ resolved-twice v s (tm_of t) a) ∙ h
num-of s u (con.Eq t w) e v a h = cc
num-of s u (con.Neq t w) e v a h = cc
num-of s u (con.NotShape x f n) e v a h = cc
num-of s u (con.NotNum t) e v a h = cc
num-of s u (con.Row r) e v a h = cc

not-both : (b : Bool) → b ≡ true → not b ≡ true → ⊥
not-both true e f = cc
not-both false e f = cc

equal-by : (v : Sub) (c : Con) → TermsHold v c → Equal v c
equal-by v (con.Eq t u) k = (tm_decided (under v (tm_of t)) (under v (tm_of u))).0 k
equal-by v (con.Neq t u) k = tt
equal-by v (con.NotShape x f n) k = tt
equal-by v (con.Num t) k = tt
equal-by v (con.NotNum t) k = tt
equal-by v (con.Row r) k = tt

pub absorbed : (cs : List Con) (v : Sub) → Each (TermsHold v) cs → Absorbs v (resolver cs)
absorbed cs v h = (complete-list v cs (Each-map (TermsHold v) (Equal v) (equal-by v) cs h)).1

pub sound : (cs : List Con) (v : Sub) → Each (TermsHold v) cs → fails_by_terms cs ≡ false
sound cs v h = neither (unifies cs) (list_any (is_refuted cs) cs) solved.0 (none-of (is_refuted cs) cs refuted)
  where
    equal : (c : Con) → TermsHold v c → Equal v c
    equal (con.Eq t u) k = (tm_decided (under v (tm_of t)) (under v (tm_of u))).0 k
    equal (con.Neq t u) k = tt
    equal (con.NotShape x f n) k = tt
    equal (con.Num t) k = tt
    equal (con.NotNum t) k = tt
    equal (con.Row r) k = tt

    solved : (unifies cs ≡ true) × Absorbs v (resolver cs)
    solved = complete-list v cs (Each-map (TermsHold v) (Equal v) equal cs h)

    neither : (a b : Bool) → a ≡ true → b ≡ false → (not a || b) ≡ false
    neither true b e f = f
    neither false b e f = cc

    refuted : (c : Con) → Contains cs c → is_refuted cs c ≡ true → ⊥
    refuted (con.Eq t u) i e = cc
    refuted (con.Neq t u) i e = identity (parts (under (resolver cs) (tm_of t)) (under (resolver cs) (tm_of u))) (parts-say v (under (resolver cs) (tm_of t)) (under (resolver cs) (tm_of u))) e
      where
        identity : (o : Option (List Part)) → Says v o (under v (under (resolver cs) (tm_of t)) ≡ under v (under (resolver cs) (tm_of u))) → is_identity o ≡ true → ⊥
        identity None says f = cc
        identity (Some []) says f =
            (differ_decided (under v (tm_of t)) (under v (tm_of u))).0 (Each-member (TermsHold v) cs (con.Neq t u) h i)
            (sym (resolved-twice v (resolver cs) (tm_of t) solved.1) ∙ says.1 tt ∙ resolved-twice v (resolver cs) (tm_of u) solved.1)
        identity (Some (p ∷ ps)) says f = cc
    refuted (con.NotShape x f n) i e = shape (resolver cs x) refl e
      where
        shape : (z : Tm) → resolver cs x ≡ z → has_shape f n z ≡ true → ⊥
        shape (var y) same k = cc
        shape (num q) same k = cc
        shape (app g us) same k =
            let here = Each-member (TermsHold v) cs (con.NotShape x f n) h i in
            let value : v x ≡ app g (all_under v us) = sym (solved.1 x) ∙ ap (under v) same in
            let stays : has_shape f n (v x) ≡ true = ap (has_shape f n) value ∙ ap (λ m. nat_eq g f && nat_eq m n) (under-length v us) ∙ k in
            not-both (has_shape f n (v x)) stays here
    refuted (con.Num t) i e = number (under (resolver cs) (tm_of t)) refl e
      where
        number : (z : Tm) → under (resolver cs) (tm_of t) ≡ z → is_compound z ≡ true → ⊥
        number (var y) same k = cc
        number (num q) same k = cc
        number (app g us) same k =
            let here = Each-member (TermsHold v) cs (con.Num t) h i in
            let value = ap is_number (sym (resolved-twice v (resolver cs) (tm_of t) solved.1) ∙ ap (under v) same) in
            true≢false (sym here ∙ value)
    refuted (con.NotNum t) i e = number (under (resolver cs) (tm_of t)) refl e
      where
        number : (z : Tm) → under (resolver cs) (tm_of t) ≡ z → is_number_term cs z ≡ true → ⊥
        number (var y) same k =
            let d = list_any-member (is_num_of (resolver cs) (var y)) cs k in
            let stays = num-of (resolver cs) (var y) d.0 d.2 v solved.1 (Each-member (TermsHold v) cs d.0 h d.1) in
            let value = ap is_number (sym (resolved-twice v (resolver cs) (tm_of t) solved.1) ∙ ap (under v) same) in
            not-both (is_number (under v (tm_of t))) (value ∙ stays) (Each-member (TermsHold v) cs (con.NotNum t) h i)
        number (num q) same k =
            let value = ap is_number (sym (resolved-twice v (resolver cs) (tm_of t) solved.1) ∙ ap (under v) same) in
            not-both (is_number (under v (tm_of t))) value (Each-member (TermsHold v) cs (con.NotNum t) h i)
        number (app g us) same k = cc
    refuted (con.Row r) i e = cc

-- ---- what counts as a number in some constraints of a list counts so in the list

num-again : (s r : Sub) (u : Tm) (c : Con) → Absorbs r s → is_num_of s u c ≡ true → is_num_of r (under r u) c ≡ true
num-again s r u (con.Num t) a e =
    let same = (tm_decided (under s (tm_of t)) u).0 e in
    (tm_decided (under r (tm_of t)) (under r u)).1 (sym (resolved-twice r s (tm_of t) a) ∙ ap (under r) same)
num-again s r u (con.Eq t w) a e = cc
num-again s r u (con.Neq t w) a e = cc
num-again s r u (con.NotShape x f n) a e = cc
num-again s r u (con.NotNum t) a e = cc
num-again s r u (con.Row q) a e = cc

pub counting : (some cs : List Con) (x : ℕ) → Each (Contains cs) some → unifies cs ≡ true → counts some x ≡ true → counts cs x ≡ true
counting some cs x within e h = by (or_cases (is_number (resolver some x)) (list_any (is_num_of (resolver some) (resolver some x)) some) h)
  where
    absorbs : Absorbs (resolver cs) (resolver some)
    absorbs = (complete-list (resolver cs) some (Each-map (Contains cs) (Equal (resolver cs)) (λ c i. Each-member (Equal (resolver cs)) cs c (resolver-equal cs e) i) some within)).1

    stays : (z : Tm) → resolver some x ≡ z → is_number z ≡ true → is_number (resolver cs x) ≡ true
    stays (var y) same k = cc
    stays (num q) same k = ap is_number (sym (absorbs x) ∙ ap (under (resolver cs)) same)
    stays (app g us) same k = cc

    by : (is_number (resolver some x) ≡ true) ⊎ (list_any (is_num_of (resolver some) (resolver some x)) some ≡ true) → (is_number (resolver cs x) || list_any (is_num_of (resolver cs) (resolver cs x)) cs) ≡ true
    by (inl f) = or-left (is_number (resolver cs x)) (list_any (is_num_of (resolver cs) (resolver cs x)) cs) (stays (resolver some x) refl f)
    by (inr f) =
        let d = list_any-member (is_num_of (resolver some) (resolver some x)) some f in
        let again = num-again (resolver some) (resolver cs) (resolver some x) d.0 absorbs d.2 in
        let here : is_num_of (resolver cs) (resolver cs x) d.0 ≡ true = subst (λ (z : Tm). is_num_of (resolver cs) z d.0 ≡ true) (absorbs x) again in
        or-right (is_number (resolver cs x)) (list_any (is_num_of (resolver cs) (resolver cs x)) cs) (list_any-from (is_num_of (resolver cs) (resolver cs x)) cs d.0 (Each-member (Contains cs) some d.0 within d.1) here)
