-- Substitutions, parts and pairs keep terms within a table, and so do simple forms, negations and readings of constraints.
use Rattle.std.specs.Prelude.{◌≡◌, ℕ, zero, suc, ◌<◌, ◌≤◌, ◌^◌, nat_eq, Bool, true, false, ◌&&◌, if◌then◌else◌, Option, Some, None, List, [], ◌∷◌, map, length, ⊤}
use Rattle.std.proofs.Common.{refl, ap, sym, subst, arith}
use Rattle.scasp_list.specs.Each.{Each}
use Rattle.scasp_list.proofs.EachLemmas.{Each-append}
use Rattle.scasp_num.specs.Linear.{Linear, IsNormal, join_of}
use Rattle.scasp_num.specs.declared.linear.Coeff.{Coeff}
use Rattle.scasp_num.proofs.Exact.{bind-some}
use Rattle.scasp_num.proofs.Kept.{put_of-IsNormal, join_of-IsNormal}
use Rattle.scasp_num.proofs.NormalForms.{negation-IsNormal}
use Rattle.scasp_lines.proofs.PartLemmas.{length-parts}
use Rattle.scasp_search_rules.specs.declared.states.tasks.Pair.{Pair}
use Rattle.scasp_search_rules.specs.Successors.Pairs.{all_pairs_of, from_first, in_front, pair, pairs, pairs_of}
use Rattle.scasp_search_rules.specs.Successors.Reading.{con_under, not_shaped, row_or}
use Rattle.scasp_syntax.specs.Constraints.{has_shape}
use Rattle.scasp_syntax.specs.Same.{same_number}
use Rattle.scasp_syntax.specs.Tm.{Tm, Tms, var, num, app, nil, cons, items}
use Rattle.scasp_syntax.specs.Values.{Sub, under, all_under}
use Rattle.scasp_syntax.specs.View.{tm_of}
use Rattle.scasp_syntax.specs.declared.con.Con.{Con}
use Rattle.scasp_syntax.specs.declared.con.Con.TheVariants as con
use Rattle.scasp_unify.specs.Negations.{negated, new_parts}
use Rattle.scasp_unify.specs.Parts.{Part, both_parts, left_side, occurs, part_if, parts, parts_each, right_side}
use Rattle.scasp_unify.specs.ResolvedRows.{replaced_by, replaced_each, resolved_row}
use Rattle.scasp_unify.specs.SimpleForm.{by_parts, differ, list_term, one_part, simple, term_with}
use Rattle.scasp_unify.specs.Solving.{sub_of}
use Rattle.scasp_unify.specs.Unification.{single}
use Rattle.scasp_unify.specs.declared.bindings.Binding.{Binding}
use Rattle.scasp_unify.proofs.SimpleLemmas.{viewed}
use Rattle.scasp_law_printable.specs.Within.{Within, AllWithin, ConWithin}

-- ---- larger tables

mutual
  pub larger : (n m : ℕ) → n ≤ m → (t : Tm) → Within n t → Within m t
  larger n m l (var x) h = tt
  larger n m l (num q) h = h
  larger n m l (app f ts) h = (let k = h.0 in omega (arith, l, k), h.1, all-larger n m l ts h.2)

  pub all-larger : (n m : ℕ) → n ≤ m → (ts : Tms) → AllWithin n ts → AllWithin m ts
  all-larger n m l nil h = tt
  all-larger n m l (cons t ts) h = (larger n m l t h.0, all-larger n m l ts h.1)

-- ---- substitutions

pub same-count : (v : Sub) (ts : Tms) → length (items (all_under v ts)) ≡ length (items ts)
same-count v nil = refl
same-count v (cons t ts) = ap suc (same-count v ts)

module _ (count : ℕ) where
  abbrev pub BindingWithin : Binding → Type 0
  BindingWithin b = Within count (tm_of b.term)

  abbrev pub SubWithin : Sub → Type 0
  SubWithin v = (x : ℕ) → Within count (v x)

  abbrev pub PairWithin : Pair → Type 0
  PairWithin o = Within count (tm_of o.left) × Within count (tm_of o.right)

  pub seen : (t : Tm) → Within count t → Within count (tm_of (term_with t))
  seen t h = subst (Within count) (sym (viewed t)) h

  mutual
    pub under-within : (v : Sub) → SubWithin v → (t : Tm) → Within count t → Within count (under v t)
    under-within v k (var x) h = k x
    under-within v k (num q) h = h
    under-within v k (app f ts) h = (h.0, subst (λ (n : ℕ). n < 2 ^ 64) (sym (same-count v ts)) h.1, all-under-within v k ts h.2)

    pub all-under-within : (v : Sub) → SubWithin v → (ts : Tms) → AllWithin count ts → AllWithin count (all_under v ts)
    all-under-within v k nil h = tt
    all-under-within v k (cons t ts) h = (under-within v k t h.0, all-under-within v k ts h.1)

  single-within : (x : ℕ) (t : Tm) → Within count t → SubWithin (single x t)
  single-within x t h y = by (nat_eq y x)
    where
      by : (b : Bool) → Within count (if b then t else var y)
      by true = h
      by false = tt

  pub bindings-within : (bs : List Binding) → Each BindingWithin bs → SubWithin (sub_of bs)
  bindings-within [] h x = tt
  bindings-within (b ∷ bs) h x = under-within (sub_of bs) (bindings-within bs h.1) (single b.x (tm_of b.term) x) (single-within b.x (tm_of b.term) h.0 x)

  pub new-within : (k n : ℕ) → AllWithin count (new_parts k n)
  new-within k zero = tt
  new-within k (suc n) = (tt, new-within (suc k) n)

  pub shape-within : (f k n : ℕ) → f < count → n < 2 ^ 64 → Within count (app f (new_parts k n))
  shape-within f k n h l = (h, subst (λ (m : ℕ). m < 2 ^ 64) (sym (length-parts k n)) l, new-within k n)

  -- ---- parts

  abbrev PartWithin : Part → Type 0
  PartWithin p = Within count p.term

  abbrev PartsWithin : Option (List Part) → Type 0
  PartsWithin None = ⊤
  PartsWithin (Some ps) = Each PartWithin ps

  both-within : (o r : Option (List Part)) → PartsWithin o → PartsWithin r → PartsWithin (both_parts o r)
  both-within None r h k = tt
  both-within (Some ps) None h k = tt
  both-within (Some ps) (Some qs) h k = Each-append PartWithin ps qs h k

  part-within : (x : ℕ) (t : Tm) (turned : Bool) → Within count t → PartsWithin (part_if x t turned)
  part-within x t turned h = by (occurs x t)
    where
      by : (b : Bool) → PartsWithin (if b then None else Some (record { at = x; term = t; turned = turned } ∷ []))
      by true = tt
      by false = (h, tt)

  mutual
    parts-within : (t u : Tm) → Within count t → Within count u → PartsWithin (parts t u)
    parts-within (var x) (var y) h k = by (nat_eq x y)
      where
        by : (b : Bool) → PartsWithin (if b then Some [] else Some (record { at = x; term = var y; turned = false } ∷ []))
        by true = tt
        by false = (tt, tt)
    parts-within (var x) (num r) h k = part-within x (num r) false k
    parts-within (var x) (app g us) h k = part-within x (app g us) false k
    parts-within (num q) (var y) h k = part-within y (num q) true h
    parts-within (num q) (num r) h k = by (same_number q r)
      where
        by : (b : Bool) → PartsWithin (if b then Some [] else None)
        by true = tt
        by false = tt
    parts-within (num q) (app g us) h k = tt
    parts-within (app f ts) (var y) h k = part-within y (app f ts) true h
    parts-within (app f ts) (num r) h k = tt
    parts-within (app f ts) (app g us) h k = by (nat_eq f g) (all-parts-within ts us h.2 k.2)
      where
        by : (b : Bool) → PartsWithin (parts_each ts us) → PartsWithin (if b then parts_each ts us else None)
        by true m = m
        by false m = tt

    all-parts-within : (ts us : Tms) → AllWithin count ts → AllWithin count us → PartsWithin (parts_each ts us)
    all-parts-within nil nil h k = tt
    all-parts-within nil (cons u us) h k = tt
    all-parts-within (cons t ts) nil h k = tt
    all-parts-within (cons t ts) (cons u us) h k = both-within (parts t u) (parts_each ts us) (parts-within t u h.0 k.0) (all-parts-within ts us h.1 k.1)

  left-within : (p : Part) → PartWithin p → Within count (left_side p)
  left-within p h = by p.turned
    where
      by : (b : Bool) → Within count (if b then p.term else var p.at)
      by true = h
      by false = tt

  right-within : (p : Part) → PartWithin p → Within count (right_side p)
  right-within p h = by p.turned
    where
      by : (b : Bool) → Within count (if b then var p.at else p.term)
      by true = tt
      by false = h

  lefts-within : (ps : List Part) → Each PartWithin ps → Each (Within count) (map left_side ps)
  lefts-within [] h = tt
  lefts-within (p ∷ ps) h = (left-within p h.0, lefts-within ps h.1)

  rights-within : (ps : List Part) → Each PartWithin ps → Each (Within count) (map right_side ps)
  rights-within [] h = tt
  rights-within (p ∷ ps) h = (right-within p h.0, rights-within ps h.1)

  pub differ-within : (t u : Tm) → Within count t → Within count u → ConWithin count (differ t u)
  differ-within t u h k = (seen t h, seen u k)

  -- ---- pairs

  pub pair-within : (t u : Tm) → Within count t → Within count u → PairWithin (pair t u)
  pair-within t u h k = (seen t h, seen u k)

  pub pairs-within : (ts us : Tms) → AllWithin count ts → AllWithin count us → Each PairWithin (pairs ts us)
  pairs-within nil us h k = tt
  pairs-within (cons t ts) nil h k = tt
  pairs-within (cons t ts) (cons u us) h k = (pair-within t u h.0 k.0, pairs-within ts us h.1 k.1)

  mutual
    pub taken-within : (t u : Tm) → Within count t → Within count u → Each PairWithin (pairs_of t u)
    taken-within (var x) (var y) h k = by (nat_eq x y)
      where
        by : (b : Bool) → Each PairWithin (if b then [] else pair (var x) (var y) ∷ [])
        by true = tt
        by false = ((tt, tt), tt)
    taken-within (var x) (num q) h k = ((tt, k), tt)
    taken-within (var x) (app f ts) h k = ((tt, k), tt)
    taken-within (num q) (var y) h k = ((h, tt), tt)
    taken-within (num q) (num r) h k = by (same_number q r)
      where
        by : (b : Bool) → Each PairWithin (if b then [] else pair (num q) (num r) ∷ [])
        by true = tt
        by false = ((h, k), tt)
    taken-within (num q) (app f ts) h k = ((h, k), tt)
    taken-within (app f ts) (var y) h k = ((h, tt), tt)
    taken-within (app f ts) (num r) h k = ((h, k), tt)
    taken-within (app f ts) (app g us) h k = by (nat_eq f g && nat_eq (length (items ts)) (length (items us))) (all-taken-within ts us h.2 k.2)
      where
        by : (b : Bool) → Each PairWithin (all_pairs_of ts us) → Each PairWithin (if b then all_pairs_of ts us else pair (app f ts) (app g us) ∷ [])
        by true m = m
        by false m = ((h, k), tt)

    all-taken-within : (ts us : Tms) → AllWithin count ts → AllWithin count us → Each PairWithin (all_pairs_of ts us)
    all-taken-within nil us h k = tt
    all-taken-within (cons t ts) nil h k = tt
    all-taken-within (cons t ts) (cons u us) h k = Each-append PairWithin (pairs_of t u) (all_pairs_of ts us) (taken-within t u h.0 k.0) (all-taken-within ts us h.1 k.1)

  front-within : (qs ps later : List Pair) → Each PairWithin qs → Each PairWithin ps → Each PairWithin later → Each PairWithin (in_front qs ps later)
  front-within [] ps later h k l = l
  front-within (q ∷ qs) ps later h k l = Each-append PairWithin (q ∷ qs) ps h k

  pub first-within : (v : Sub) → SubWithin v → (ps : List Pair) → Each PairWithin ps → Each PairWithin (from_first v ps)
  first-within v k [] h = tt
  first-within v k (o ∷ ps) h =
      front-within (pairs_of (under v (tm_of o.left)) (under v (tm_of o.right))) ps (from_first v ps)
      (taken-within (under v (tm_of o.left)) (under v (tm_of o.right)) (under-within v k (tm_of o.left) h.0.0) (under-within v k (tm_of o.right) h.0.1)) h.1 (first-within v k ps h.1)

  -- ---- constraints

  pub negated-within : (k : ℕ) (c : Con) → ConWithin count c → ConWithin count (negated k c)
  negated-within k (con.Eq t u) h = h
  negated-within k (con.Neq t u) h = h
  negated-within k (con.NotShape x f n) h = (tt, shape-within f k n h.0 h.1)
  negated-within k (con.Num t) h = h
  negated-within k (con.NotNum t) h = h
  negated-within k (con.Row r) h = negation-IsNormal r h

  shaped-within : (t : Tm) (f n : ℕ) → Within count t → f < count → n < 2 ^ 64 → ConWithin count (not_shaped t f n)
  shaped-within (var x) f n h k l = (k, l)
  shaped-within (num q) f n h k l = (h, h)
  shaped-within (app g us) f n h k l = by (has_shape f n (app g us))
    where
      by : (b : Bool) → ConWithin count (if b then con.Neq (term_with (app g us)) (term_with (app g us)) else con.Eq (term_with (app g us)) (term_with (app g us)))
      by true = (h, h)
      by false = (h, h)

  one-replaced : (t : Tm) (x : ℕ) (r row : Linear) → IsNormal r → Some row ≡ replaced_by t x r → IsNormal row
  one-replaced (num q) x r row n e = put_of-IsNormal r row x q n e
  one-replaced (var y) x r row n e = by (nat_eq y x) e
    where
      by : (b : Bool) → Some row ≡ (if b then Some r else join_of r x y) → IsNormal row
      by true f = let same : r ≡ row = cc in subst IsNormal same n
      by false f = join_of-IsNormal r row x y n f
  one-replaced (app f ts) x r row n e = let same : r ≡ row = cc in subst IsNormal same n

  all-replaced : (v : Sub) (ks : List Coeff) (r row : Linear) → IsNormal r → Some row ≡ replaced_each v ks r → IsNormal row
  all-replaced v [] r row n e = let same : r ≡ row = cc in subst IsNormal same n
  all-replaced v (k ∷ ks) r row n e =
      let a = bind-some (replaced_by (v k.x) k.x r) (replaced_each v ks) row e in
      all-replaced v ks a.0 row (one-replaced (v k.x) k.x r a.0 n a.1) a.2

  row-within : (v : Sub) (r : Linear) → IsNormal r → (o : Option Linear) → o ≡ resolved_row v r → IsNormal (row_or r o)
  row-within v r n None e = n
  row-within v r n (Some row) e = all-replaced v r.coeffs r row n e

  pub read-within : (v : Sub) → SubWithin v → (c : Con) → ConWithin count c → ConWithin count (con_under v c)
  read-within v k (con.Eq t u) h = (seen (under v (tm_of t)) (under-within v k (tm_of t) h.0), seen (under v (tm_of u)) (under-within v k (tm_of u) h.1))
  read-within v k (con.Neq t u) h = (seen (under v (tm_of t)) (under-within v k (tm_of t) h.0), seen (under v (tm_of u)) (under-within v k (tm_of u) h.1))
  read-within v k (con.NotShape x f n) h = shaped-within (v x) f n (k x) h.0 h.1
  read-within v k (con.Num t) h = seen (under v (tm_of t)) (under-within v k (tm_of t) h)
  read-within v k (con.NotNum t) h = seen (under v (tm_of t)) (under-within v k (tm_of t) h)
  read-within v k (con.Row r) h = row-within v r h (resolved_row v r) refl

-- ---- lists as terms, and simple forms

module _ (count : ℕ) (two : 1 < count) where
  few : (k : ℕ) → k < 3 → k < 2 ^ 64
  few k l = omega (arith, l)

  pub list-within : (ts : List Tm) → Each (Within count) ts → Within count (list_term ts)
  list-within [] h = (omega (arith, two), few 0 (omega arith), tt)
  list-within (t ∷ ts) h = (two, few 2 (omega arith), (h.0, (list-within ts h.1, tt)))

  one-within : (p : Part) (t : Tm) → Within count p.term → Within count t → ConWithin count (one_part p t)
  one-within p (app f nil) h k = (k.0, few 0 (omega arith))
  one-within p (app f (cons t ts)) h k = differ-within count (left_side p) (right_side p) (left-within count p h) (right-within count p h)
  one-within p (num q) h k = differ-within count (left_side p) (right_side p) (left-within count p h) (right-within count p h)
  one-within p (var y) h k = differ-within count (left_side p) (right_side p) (left-within count p h) (right-within count p h)

  parted-within : (c : Con) → ConWithin count c → (o : Option (List Part)) → PartsWithin count o → ConWithin count (by_parts c o)
  parted-within c h None k = h
  parted-within c h (Some []) k = h
  parted-within c h (Some (p ∷ [])) k = one-within p p.term k.0 k.0
  parted-within c h (Some (p ∷ q ∷ ps)) k =
      differ-within count (list_term (map left_side (p ∷ q ∷ ps))) (list_term (map right_side (p ∷ q ∷ ps)))
      (list-within (map left_side (p ∷ q ∷ ps)) (lefts-within count (p ∷ q ∷ ps) k)) (list-within (map right_side (p ∷ q ∷ ps)) (rights-within count (p ∷ q ∷ ps) k))

  pub simple-within : (c : Con) → ConWithin count c → ConWithin count (simple c)
  simple-within (con.Neq t u) h = parted-within (con.Neq t u) h (parts (tm_of t) (tm_of u)) (parts-within count (tm_of t) (tm_of u) h.0 h.1)
  simple-within (con.Eq t u) h = h
  simple-within (con.NotShape x f n) h = h
  simple-within (con.Num t) h = h
  simple-within (con.NotNum t) h = h
  simple-within (con.Row r) h = h
