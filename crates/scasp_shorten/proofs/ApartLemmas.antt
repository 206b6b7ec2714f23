-- Lists without those that others contain, tell the same.
use Rattle.std.proofs.Common.{◌≡◌, Bool, true, false, not, ◌&&◌, ◌||◌, List, [], ◌∷◌, ◌++◌, append_assoc, append-nil, map, refl, sym, ap, subst, ◌∙◌}
use Rattle.std.specs.Prelude.{if◌then◌else◌, filter, flat_map, nat_lt, IfOk, Result, Ok, Err}
use Rattle.std.specs.List.{list_all, list_any}
use Rattle.std.proofs.lemmas.Bool.{and_from, and_parts, or_left, or_right, true≢false}
use Rattle.std.proofs.lemmas.List.Folds.{list_any-append}
use Rattle.scasp_list.specs.Each.{Each}
use Rattle.scasp_list.proofs.EachLemmas.{Each-append, Each-filter, Each-left, Each-right}
use Rattle.scasp_syntax.specs.Values.{Sub, Valuation}
use Rattle.scasp_syntax.specs.declared.con.Con.{Con}
use Rattle.scasp_hint.specs.AskedRows.{RowsNormal}
use Rattle.scasp_shorten.specs.Evident.{is_evident}
use Rattle.scasp_shorten.specs.Following.{follows, questions}
use Rattle.scasp_shorten.specs.Shortest.{in_order, is_closed, is_empty, is_within_one, left_open, most_questions, shortened, shortest, shortest_list, single, tells_early, thinned, thinned_behind, uncontained, without_evident, without_tests}
use Rattle.scasp_shorten.specs.Told.{tells, tells_all, tells_one}
use Rattle.scasp_shorten.specs.declared.shortening.Means.TheVariants as means
use Rattle.scasp_shorten.proofs.EvidentLemmas.{evident-told}
use Rattle.scasp_shorten.proofs.FollowingLemmas.{follows-told}
use Rattle.scasp_shorten.proofs.OrderingLemmas.{order-each, order-told}
use Rattle.scasp_shorten.proofs.RowsLemmas.{IsNormalCon, each-normal, normal-each}
use Rattle.scasp_shorten.proofs.ShorteningLemmas.{shortened-each, shortened-told, without-each, without-told}

-- ---- one list

behind-each : (P : Con → Type 0) (before cs : List Con) → Each P before → Each P cs → Each P (thinned_behind before cs)
behind-each P before [] a h = a
behind-each P before (c ∷ cs) a h = by (nat_lt most_questions (questions (c ∷ cs))) refl (behind-each P (before ++ c ∷ []) cs (Each-append P before (c ∷ []) a (h.0, tt)) h.1)
  where
    by : (b : Bool) → nat_lt most_questions (questions (c ∷ cs)) ≡ b → Each P (thinned_behind (before ++ c ∷ []) cs) → Each P (thinned_behind before (c ∷ cs))
    by true p more = subst (λ (b : Bool). Each P (if b then thinned_behind (before ++ c ∷ []) cs else shortened means.Question before (c ∷ cs))) (sym p) more
    by false p more = subst (λ (b : Bool). Each P (if b then thinned_behind (before ++ c ∷ []) cs else shortened means.Question before (c ∷ cs))) (sym p) (shortened-each P means.Question before (c ∷ cs) a h)

behind-told : (before cs : List Con) (v : Valuation) → RowsNormal (before ++ cs) → tells_all v.of (thinned_behind before cs) ≡ tells_all v.of (before ++ cs)
behind-told before [] v n = ap (tells_all v.of) (sym (append-nil before))
behind-told before (c ∷ cs) v n = by (nat_lt most_questions (questions (c ∷ cs))) refl (behind-told (before ++ c ∷ []) cs v)
  where
    step : Bool → Bool
    step b = tells_all v.of (if b then thinned_behind (before ++ c ∷ []) cs else shortened means.Question before (c ∷ cs))

    by : (b : Bool) → nat_lt most_questions (questions (c ∷ cs)) ≡ b
        → (RowsNormal ((before ++ c ∷ []) ++ cs) → tells_all v.of (thinned_behind (before ++ c ∷ []) cs) ≡ tells_all v.of ((before ++ c ∷ []) ++ cs))
        → tells_all v.of (thinned_behind before (c ∷ cs)) ≡ tells_all v.of (before ++ c ∷ cs)
    by true p more =
        ap step p
        ∙ more (subst (λ (ds : List Con). RowsNormal ds) (sym (append_assoc before (c ∷ []) cs)) n)
        ∙ ap (tells_all v.of) (append_assoc before (c ∷ []) cs)
    by false p more = ap step p ∙ shortened-told means.Question before (c ∷ cs) v n

evident-each : (P : Con → Type 0) (cs : List Con) → Each P cs → Each P (without_evident cs)
evident-each P cs a = shortened-each P means.Evidence [] cs tt a

pub list-told : (cs : List Con) (v : Valuation) → RowsNormal cs → tells_all v.of (shortest_list cs) ≡ tells_all v.of cs
list-told cs v n =
    order-told v.of (without_tests (thinned (without_evident cs)))
    ∙ without-told v.of (thinned (without_evident cs))
    ∙ behind-told [] (without_evident cs) v (normal-each (without_evident cs) (evident-each IsNormalCon cs (each-normal cs n)))
    ∙ shortened-told means.Evidence [] cs v n

list-normal : (cs : List Con) → RowsNormal cs → RowsNormal (shortest_list cs)
list-normal cs n =
    normal-each (shortest_list cs)
    (order-each IsNormalCon (without_tests (thinned (without_evident cs)))
    (without-each IsNormalCon (thinned (without_evident cs)) (behind-each IsNormalCon [] (without_evident cs) tt (evident-each IsNormalCon cs (each-normal cs n)))))

-- ---- a list within another one

-- what is open is told, and the rest is evident
open-told : (v : Sub) (cs ds : List Con) → tells_all v cs ≡ true → tells_all v (left_open cs ds) ≡ true → tells_all v ds ≡ true
open-told v cs [] m e = refl
open-told v cs (d ∷ ds) m e = by (is_evident cs d) refl (open-told v cs ds m)
  where
    step : Bool → Bool
    step b = tells_all v (if not b then d ∷ left_open cs ds else left_open cs ds)

    by : (b : Bool) → is_evident cs d ≡ b → (tells_all v (left_open cs ds) ≡ true → tells_all v ds ≡ true) → tells_all v (d ∷ ds) ≡ true
    by true p rest = and_from (tells v d) (tells_all v ds) (evident-told v cs d p m) (rest (sym (ap step p) ∙ e))
    by false p rest =
        let q = and_parts (tells v d) (tells_all v (left_open cs ds)) (sym (ap step p) ∙ e) in
        and_from (tells v d) (tells_all v ds) q.0 (rest q.1)

-- one of the others is told, of which nothing is open
empty-told : (v : Sub) (cs : List Con) (others : List (List Con)) → tells_all v cs ≡ true → list_any is_empty (map (left_open cs) others) ≡ true → tells_one v others ≡ true
empty-told v cs [] m e = absurd (true≢false (sym e))
empty-told v cs (ds ∷ others) m e = by (left_open cs ds) refl (empty-told v cs others m)
  where
    by : (os : List Con) → left_open cs ds ≡ os → (list_any is_empty (map (left_open cs) others) ≡ true → tells_one v others ≡ true) → tells_one v (ds ∷ others) ≡ true
    by [] p rest = or_left (tells_all v ds) (tells_one v others) (open-told v cs ds m (ap (tells_all v) p))
    by (o ∷ os) p rest =
        or_right (tells_all v ds) (tells_one v others)
        (rest (sym (ap (λ (xs : List Con). is_empty xs || list_any is_empty (map (left_open cs) others)) p) ∙ e))

-- one of the others is told, of which one constraint is open that follows
single-told : (v : Valuation) (cs : List Con) (others : List (List Con)) → RowsNormal cs → Each RowsNormal others → tells_all v.of cs ≡ true
    → list_any (follows cs) (flat_map single (map (left_open cs) others)) ≡ true → tells_one v.of others ≡ true
single-told v cs [] n k m e = absurd (true≢false (sym e))
single-told v cs (ds ∷ others) n k m e = by (left_open cs ds) refl (Each-filter IsNormalCon (λ d. not (is_evident cs d)) ds (each-normal ds k.0)) (single-told v cs others n k.1 m)
  where
    more : List Con
    more = flat_map single (map (left_open cs) others)

    by : (os : List Con) → left_open cs ds ≡ os → Each IsNormalCon (left_open cs ds) → (list_any (follows cs) more ≡ true → tells_one v.of others ≡ true) → tells_one v.of (ds ∷ others) ≡ true
    by [] p h rest = or_right (tells_all v.of ds) (tells_one v.of others) (rest (sym (ap (λ (xs : List Con). list_any (follows cs) (single xs ++ more)) p) ∙ e))
    by (o ∷ q ∷ os) p h rest = or_right (tells_all v.of ds) (tells_one v.of others) (rest (sym (ap (λ (xs : List Con). list_any (follows cs) (single xs ++ more)) p) ∙ e))
    by (o ∷ []) p h rest = one (follows cs o) refl
      where
        told : (follows cs o || list_any (follows cs) more) ≡ true
        told = sym (ap (λ (xs : List Con). list_any (follows cs) (single xs ++ more)) p) ∙ e

        normal : RowsNormal (o ∷ [])
        normal = (subst (λ (xs : List Con). Each IsNormalCon xs) p h).0

        one : (b : Bool) → follows cs o ≡ b → tells_one v.of (ds ∷ others) ≡ true
        one true f =
            or_left (tells_all v.of ds) (tells_one v.of others)
            (open-told v.of cs ds m (ap (tells_all v.of) p ∙ and_from (tells v.of o) true (follows-told cs o v n normal f m) refl))
        one false f = or_right (tells_all v.of ds) (tells_one v.of others) (rest (sym (ap (λ b. b || list_any (follows cs) more) f) ∙ told))

early-any : (cs ds : List Con) → tells_early cs ds ≡ true → list_any (follows cs) ds ≡ true
early-any cs [] e = e
early-any cs (c ∷ []) e = or_left (follows cs c) false e
early-any cs (c ∷ d ∷ more) e = by (follows cs c) refl
  where
    by : (b : Bool) → follows cs c ≡ b → list_any (follows cs) (c ∷ d ∷ more) ≡ true
    by true p = or_left (follows cs c) (follows cs d || list_any (follows cs) more) p
    by false p =
        or_right (follows cs c) (follows cs d || list_any (follows cs) more)
        (or_left (follows cs d) (list_any (follows cs) more) (sym (ap (λ b. b || follows cs d) p) ∙ e))

one-told : (cs : List Con) (others : List (List Con)) (v : Valuation) → RowsNormal cs → Each RowsNormal others → is_within_one cs others ≡ true → tells_all v.of cs ≡ true → tells_one v.of others ≡ true
one-told cs others v n k e m = by (list_any is_empty opens) refl
  where
    opens : List (List Con)
    opens = map (left_open cs) others

    by : (b : Bool) → list_any is_empty opens ≡ b → tells_one v.of others ≡ true
    by true p = empty-told v.of cs others m p
    by false p = single-told v cs others n k m (early-any cs (flat_map single opens) (sym (ap (λ b. b || tells_early cs (flat_map single opens)) p) ∙ e))

-- ---- all lists

inserted : (a x r : Bool) → (x ≡ true → (a || r) ≡ true) → (a || (x || r)) ≡ (a || r)
inserted true x r h = refl
inserted false true r h = sym (h refl)
inserted false false r h = refl

pub uncontained-told : (before lists : List (List Con)) (v : Valuation) → Each RowsNormal (before ++ lists) → tells_one v.of (uncontained before lists) ≡ tells_one v.of (before ++ lists)
uncontained-told before [] v n = ap (tells_one v.of) (sym (append-nil before))
uncontained-told before (cs ∷ lists) v n = by (is_within_one cs (before ++ lists)) refl (uncontained-told before lists v) (uncontained-told (before ++ cs ∷ []) lists v)
  where
    behind : Each RowsNormal (cs ∷ lists)
    behind = Each-right RowsNormal before (cs ∷ lists) n

    without : Each RowsNormal (before ++ lists)
    without = Each-append RowsNormal before lists (Each-left RowsNormal before (cs ∷ lists) n) behind.1

    step : Bool → List (List Con)
    step b = if b then uncontained before lists else uncontained (before ++ cs ∷ []) lists

    whole : tells_one v.of (before ++ lists) ≡ (tells_one v.of before || tells_one v.of lists)
    whole = list_any-append (tells_all v.of) before lists

    by : (b : Bool) → is_within_one cs (before ++ lists) ≡ b
        → (Each RowsNormal (before ++ lists) → tells_one v.of (uncontained before lists) ≡ tells_one v.of (before ++ lists))
        → (Each RowsNormal ((before ++ cs ∷ []) ++ lists) → tells_one v.of (uncontained (before ++ cs ∷ []) lists) ≡ tells_one v.of ((before ++ cs ∷ []) ++ lists))
        → tells_one v.of (uncontained before (cs ∷ lists)) ≡ tells_one v.of (before ++ cs ∷ lists)
    by true p gone kept =
        ap (λ b. tells_one v.of (step b)) p
        ∙ gone without
        ∙ whole
        ∙ sym (list_any-append (tells_all v.of) before (cs ∷ lists) ∙ inserted (tells_one v.of before) (tells_all v.of cs) (tells_one v.of lists) (λ m. sym whole ∙ one-told cs (before ++ lists) v behind.0 without p m))
    by false p gone kept =
        ap (λ b. tells_one v.of (step b)) p
        ∙ kept (subst (λ (all : List (List Con)). Each RowsNormal all) (sym (append_assoc before (cs ∷ []) lists)) n)
        ∙ ap (tells_one v.of) (append_assoc before (cs ∷ []) lists)

lists-told : (lists : List (List Con)) (v : Valuation) → Each RowsNormal lists → tells_one v.of (map shortest_list lists) ≡ tells_one v.of lists
lists-told [] v n = refl
lists-told (cs ∷ lists) v n = ap (λ b. b || tells_one v.of (map shortest_list lists)) (list-told cs v n.0) ∙ ap (λ b. tells_all v.of cs || b) (lists-told lists v n.1)

lists-normal : (lists : List (List Con)) → Each RowsNormal lists → Each RowsNormal (map shortest_list lists)
lists-normal [] n = tt
lists-normal (cs ∷ lists) n = (list-normal cs n.0, lists-normal lists n.1)

pub shortest-told : (lists : List (List Con)) (v : Valuation) → Each RowsNormal lists → tells_one v.of (shortest lists) ≡ tells_one v.of lists
shortest-told lists v n = uncontained-told [] (map shortest_list lists) v (lists-normal lists n) ∙ lists-told lists v n

-- the call's answer
pub answer-told : {E : Type 0} (r : Result (List (List Con)) E) (lists short : List (List Con)) → Each RowsNormal lists → short ≡ map shortest_list lists
    → IfOk r (λ made. made ≡ uncontained [] short) → IfOk r (λ made. (v : Valuation) → tells_one v.of made ≡ tells_one v.of lists)
answer-told (Ok made) lists short n e h = λ v. ap (tells_one v.of) (h ∙ ap (uncontained []) e) ∙ shortest-told lists v n
answer-told (Err m) lists short n e h = tt
