-- Literals that are found under keys.
use Rattle.std.proofs.Common.{◌≡◌, ◌∙◌, ℕ, Result, Ok, Err, Bool, true, false, ◌&&◌, ◌||◌, not, nat_eq, cond, if◌then◌else◌, List, [], ◌∷◌, ◌++◌, map, Option, None, Some, refl, ap, sym, subst, append_assoc}
use Rattle.std.specs.Prelude.{IfOk, filter}
use Rattle.std.specs.Bool.{beq}
use Rattle.std.specs.Borrow.{Bor}
use Rattle.std.specs.List.{list_any}
use Rattle.std.proofs.lemmas.Bool.{and_parts, cond-true, cond-false}
use Rattle.std.proofs.lemmas.Bool.Decides.{Decides-eqb}
use Rattle.std.proofs.lemmas.List.{map-append}
use Rattle.std.proofs.lemmas.List.Folds.{list_all-append, list_any-append}
use Rattle.scasp_checker_rules.specs.PairLists.{pair_list}
use Rattle.scasp_checker_rules.specs.Pairs.{is_pair}
use Rattle.scasp_checker_rules.specs.Told.{Told}
use Rattle.scasp_graph.proofs.PlaceLemmas.{eq-is}
use Rattle.scasp_graph.proofs.PredLemmas.{bool_is, pred_is, same_pred-sym}
use Rattle.scasp_hint.specs.Finding.{overflows_in}
use Rattle.scasp_hint.specs.Satisfying.{sat}
use Rattle.scasp_lines_places.specs.Places.Chains.{chained}
use Rattle.scasp_lines_places.specs.declared.places.chain.Chain.{Chain}
use Rattle.scasp_lines_walk.specs.Shown.TableView.{told_from}
use Rattle.scasp_lines_walk.specs.declared.shown.table.Saying.{Saying}
use Rattle.scasp_search_constraints.specs.Assuming.Taken.{Gives}
use Rattle.scasp_search_constraints.specs.declared.assuming.step.SearchErr.{SearchErr}
use Rattle.scasp_search_constraints.specs.declared.assuming.step.SearchErr.TheVariants as errors
use Rattle.scasp_search_ends.proofs.EndsLemmas.ClashLemmas.{marks-clash, pair-fails}
use Rattle.scasp_search_ends.proofs.EndsLemmas.PairLemmas.{pairs-first}
use Rattle.scasp_search_ends.specs.Ends.Inside.Apart.{all_fail, lists_behind, pairs_of}
use Rattle.scasp_search_ends.specs.Ends.Inside.Behind.{all_key, is_under, key_of, mark, own_key, same_key, same_sought, sought_of, told_in, told_or_none}
use Rattle.scasp_search_ends.specs.contracts.ends.behind.KeyPartialEq.TheImpl.{eq-value as key-eq}
use Rattle.scasp_search_ends.specs.contracts.ends.behind.SoughtPartialEq.TheImpl.{eq-value as sought-eq}
use Rattle.scasp_search_ends.specs.declared.ends.behind.Key.{Key}
use Rattle.scasp_search_ends.specs.declared.ends.behind.Sought.{Sought}
use Rattle.scasp_search_ends.specs.declared.ends.behind.Sought.TheVariants as sought
use Rattle.scasp_syntax.specs.Programs.{pred_of}
use Rattle.scasp_syntax.specs.Same.{same_bool, same_pred}
use Rattle.scasp_syntax.specs.declared.con.Con.{Con}
use Rattle.scasp_unify.proofs.Members.{or-left, or-right}

-- ---- keys

bool-same : (a b : Bool) → beq a b ≡ same_bool a b
bool-same true true = refl
bool-same true false = refl
bool-same false true = refl
bool-same false false = refl

sought-same : (s t : Sought) → sought-eq.it s t ≡ same_sought s t
sought-same sought.All sought.All = refl
sought-same sought.All sought.Open = refl
sought-same sought.All (sought.Marked n) = refl
sought-same sought.Open sought.All = refl
sought-same sought.Open sought.Open = refl
sought-same sought.Open (sought.Marked n) = refl
sought-same (sought.Marked m) sought.All = refl
sought-same (sought.Marked m) sought.Open = refl
sought-same (sought.Marked m) (sought.Marked n) = refl

-- the derived test of equality
key-same : (k j : Key) → key-eq.it k j ≡ same_key k j
key-same k j =
    let p = eq-is k.pred j.pred in
    let s = bool-same k.positive j.positive in
    let c = sought-same k.sought j.sought in
    λ i. p i && (s i && c i)

pub same-keys : key-eq.it ≡ same_key
same-keys = λ i. λ k j. key-same k j i

sought-is : (s t : Sought) → same_sought s t ≡ true → s ≡ t
sought-is sought.All sought.All e = refl
sought-is sought.All sought.Open e = cc
sought-is sought.All (sought.Marked n) e = cc
sought-is sought.Open sought.All e = cc
sought-is sought.Open sought.Open e = refl
sought-is sought.Open (sought.Marked n) e = cc
sought-is (sought.Marked m) sought.All e = cc
sought-is (sought.Marked m) sought.Open e = cc
sought-is (sought.Marked m) (sought.Marked n) e = ap sought.Marked ((Decides-eqb m n).0 e)

key-is : (k j : Key) → same_key k j ≡ true → k ≡ j
key-is k j e =
    let h = and_parts (same_pred k.pred j.pred) (same_bool k.positive j.positive && same_sought k.sought j.sought) e in
    let g = and_parts (same_bool k.positive j.positive) (same_sought k.sought j.sought) h.1 in
    let p = pred_is k.pred j.pred h.0 in
    let s = bool_is k.positive j.positive g.0 in
    let c = sought-is k.sought j.sought g.1 in
    λ i. record { pred = p i; positive = s i; sought = c i }

-- a list that is shared
pub shared-told : {E : Type 0} (r : Result (Chain (Bor Saying)) E) (c : Chain (Bor Saying)) (ts : List Told) → told_in c ≡ ts
    → IfOk r (λ made. chained made ≡ chained c) → IfOk r (λ made. told_in made ≡ ts)
shared-told (Ok made) c ts h e = ap (map told_from) e ∙ h
shared-told (Err x) c ts h e = tt

-- a literal that is put before those under its key
pub put-first : (f g : Key → Option (Chain (Bor Saying))) (a : Told) (key : Key) (longer : Chain (Bor Saying))
    → ((k : Key) → g k ≡ cond (same_key key k) (Some longer) (f k))
    → told_in longer ≡ a ∷ told_or_none (f key)
    → (k : Key) → told_or_none (g k) ≡ (if same_key key k then a ∷ told_or_none (f k) else told_or_none (f k))
put-first f g a key longer puts made k = by (same_key key k) refl
  where
    by : (b : Bool) → same_key key k ≡ b → told_or_none (g k) ≡ (if same_key key k then a ∷ told_or_none (f k) else told_or_none (f k))
    by true e =
        let same : key ≡ k = key-is key k e in
        ap told_or_none (puts k ∙ cond-true (same_key key k) (Some longer) (f k) e)
        ∙ made ∙ ap (λ j. a ∷ told_or_none (f j)) same
        ∙ sym (cond-true (same_key key k) (a ∷ told_or_none (f k)) (told_or_none (f k)) e)
    by false e =
        ap told_or_none (puts k ∙ cond-false (same_key key k) (Some longer) (f k) e)
        ∙ sym (cond-false (same_key key k) (a ∷ told_or_none (f k)) (told_or_none (f k)) e)

-- the two keys of a literal are not one
keys-differ : (o : Option ℕ) (s : Sought) → same_sought sought.All s ≡ true → same_sought (sought_of o) s ≡ true → ⊥
keys-differ None sought.All e f = cc
keys-differ (Some m) sought.All e f = cc
keys-differ o sought.Open e f = cc
keys-differ o (sought.Marked n) e f = cc

key-sought : (k j : Key) → same_key k j ≡ true → same_sought k.sought j.sought ≡ true
key-sought k j e =
    let h = and_parts (same_pred k.pred j.pred) (same_bool k.positive j.positive && same_sought k.sought j.sought) e in
    (and_parts (same_bool k.positive j.positive) (same_sought k.sought j.sought) h.1).1

-- a literal that is put under both of its keys
pub found-more : (t : Told) (ts : List Told) (f g h : Key → List Told)
    → ((k : Key) → g k ≡ (if same_key (all_key t) k then t ∷ f k else f k))
    → ((k : Key) → h k ≡ (if same_key (own_key t) k then t ∷ g k else g k))
    → ((k : Key) → f k ≡ filter (is_under k) ts)
    → (k : Key) → h k ≡ filter (is_under k) (t ∷ ts)
found-more t ts f g h first second found k = by (same_key (all_key t) k) (same_key (own_key t) k) refl refl
  where
    rest : List Told
    rest = filter (is_under k) ts

    by : (a b : Bool) → same_key (all_key t) k ≡ a → same_key (own_key t) k ≡ b → h k ≡ filter (is_under k) (t ∷ ts)
    by true true d e = absurd (keys-differ (mark t.atom.args) k.sought (key-sought (all_key t) k d) (key-sought (own_key t) k e))
    by true false d e =
        second k ∙ ap (λ w. if w then t ∷ g k else g k) e ∙ first k ∙ ap (λ w. if w then t ∷ f k else f k) d ∙ ap (λ xs. t ∷ xs) (found k)
        ∙ sym (ap (λ w. if w || same_key (own_key t) k then t ∷ rest else rest) d)
    by false true d e =
        second k ∙ ap (λ w. if w then t ∷ g k else g k) e ∙ ap (λ xs. t ∷ xs) (first k ∙ ap (λ w. if w then t ∷ f k else f k) d ∙ found k)
        ∙ sym (ap (λ w. if w || same_key (own_key t) k then t ∷ rest else rest) d ∙ ap (λ w. if w then t ∷ rest else rest) e)
    by false false d e =
        second k ∙ ap (λ w. if w then t ∷ g k else g k) e ∙ first k ∙ ap (λ w. if w then t ∷ f k else f k) d ∙ found k
        ∙ sym (ap (λ w. if w || same_key (own_key t) k then t ∷ rest else rest) d ∙ ap (λ w. if w then t ∷ rest else rest) e)

-- ---- the literals that make a pair with one, and are found

module _ (free : ℕ) (given : List Con) (a : Told) where
  abbrev pub list_of : Told → List Con
  list_of = pair_list free given a

  abbrev pub behind : List Told → List (List Con)
  behind = lists_behind free given a

  paired : (b : Told) (ts : List Told) → is_pair a b ≡ true → behind (b ∷ ts) ≡ list_of b ∷ behind ts
  paired b ts p = ap (λ w. map list_of (if w then b ∷ filter (is_pair a) ts else filter (is_pair a) ts)) p

  unpaired : (b : Told) (ts : List Told) → is_pair a b ≡ false → behind (b ∷ ts) ≡ behind ts
  unpaired b ts p = ap (λ w. map list_of (if w then b ∷ filter (is_pair a) ts else filter (is_pair a) ts)) p

  module _ (t : Told → Bool) where
    taken : (b : Told) (ts : List Told) → t b ≡ true → is_pair a b ≡ true → behind (filter t (b ∷ ts)) ≡ list_of b ∷ behind (filter t ts)
    taken b ts e p = ap (λ w. behind (if w then b ∷ filter t ts else filter t ts)) e ∙ paired b (filter t ts) p

    passed : (b : Told) (ts : List Told) → t b ≡ false → behind (filter t (b ∷ ts)) ≡ behind (filter t ts)
    passed b ts e = ap (λ w. behind (if w then b ∷ filter t ts else filter t ts)) e

    other : (b : Told) (ts : List Told) → is_pair a b ≡ false → behind (filter t (b ∷ ts)) ≡ behind (filter t ts)
    other b ts p = by (t b) refl
      where
        by : (w : Bool) → t b ≡ w → behind (filter t (b ∷ ts)) ≡ behind (filter t ts)
        by true e = ap (λ w. behind (if w then b ∷ filter t ts else filter t ts)) e ∙ unpaired b (filter t ts) p
        by false e = passed b ts e

    -- an overflow of those that are found is one of all
    pub overflow-found : (ts : List Told) → list_any overflows_in (behind (filter t ts)) ≡ true → list_any overflows_in (behind ts) ≡ true
    overflow-found [] e = e
    overflow-found (b ∷ ts) e = by (is_pair a b) (t b) refl refl (overflow-found ts)
      where
        more : (x y z : Bool) → (y ≡ true → z ≡ true) → (x || y) ≡ true → (x || z) ≡ true
        more true y z h k = refl
        more false y z h k = h k

        by : (w v : Bool) → is_pair a b ≡ w → t b ≡ v → (list_any overflows_in (behind (filter t ts)) ≡ true → list_any overflows_in (behind ts) ≡ true) → list_any overflows_in (behind (b ∷ ts)) ≡ true
        by true true p f rest =
            ap (list_any overflows_in) (paired b ts p)
            ∙ more (overflows_in (list_of b)) (list_any overflows_in (behind (filter t ts))) (list_any overflows_in (behind ts)) rest (sym (ap (list_any overflows_in) (taken b ts f p)) ∙ e)
        by true false p f rest =
            ap (list_any overflows_in) (paired b ts p)
            ∙ or-right (overflows_in (list_of b)) (list_any overflows_in (behind ts)) (rest (sym (ap (list_any overflows_in) (passed b ts f)) ∙ e))
        by false true p f rest = ap (list_any overflows_in) (unpaired b ts p) ∙ rest (sym (ap (list_any overflows_in) (other b ts p)) ∙ e)
        by false false p f rest = ap (list_any overflows_in) (unpaired b ts p) ∙ rest (sym (ap (list_any overflows_in) (passed b ts f)) ∙ e)

  signs : (x y : Bool) → not (same_bool x y) ≡ true → same_bool y (not x) ≡ true
  signs true true e = cc
  signs true false e = refl
  signs false true e = refl
  signs false false e = cc

  -- what a literal that makes a pair is found by
  pub under-by : (b : Told) (s : Sought) → is_pair a b ≡ true
      → is_under (key_of a (not a.positive) s) b ≡ (same_sought sought.All s || same_sought (sought_of (mark b.atom.args)) s)
  under-by b s p =
      let h = and_parts (not (same_bool a.positive b.positive)) (same_pred (pred_of a.atom) (pred_of b.atom)) p in
      let q : same_pred (pred_of b.atom) (pred_of a.atom) ≡ true = same_pred-sym (pred_of b.atom) (pred_of a.atom) ∙ h.1 in
      let g : same_bool b.positive (not a.positive) ≡ true = signs a.positive b.positive h.0 in
      λ i. (q i && (g i && same_sought sought.All s)) || (q i && (g i && same_sought (sought_of (mark b.atom.args)) s))

  -- all that make a pair are found among all of the predicate and the other sign
  pub all-found : (ts : List Told) → behind (filter (is_under (key_of a (not a.positive) sought.All)) ts) ≡ behind ts
  all-found [] = refl
  all-found (b ∷ ts) = by (is_pair a b) refl (all-found ts)
    where
      t : Told → Bool
      t = is_under (key_of a (not a.positive) sought.All)

      by : (w : Bool) → is_pair a b ≡ w → behind (filter t ts) ≡ behind ts → behind (filter t (b ∷ ts)) ≡ behind (b ∷ ts)
      by true p rest = taken t b ts (under-by b sought.All p) p ∙ ap (λ ls. list_of b ∷ ls) rest ∙ sym (paired b ts p)
      by false p rest = other t b ts p ∙ rest ∙ sym (unpaired b ts p)

  and-third : (g x y z : Bool) → (x && y) ≡ z → (x && (g && y)) ≡ (g && z)
  and-third true x y z e = e
  and-third false true y z e = refl
  and-third false false y z e = refl

  and-first : (g x y z : Bool) → (x && y) ≡ z → ((g && x) && y) ≡ (g && z)
  and-first true x y z e = e
  and-first false x y z e = refl

  -- those with another mark are apart
  module _ (m : ℕ) (marked : Some m ≡ mark a.atom.args) where
    abbrev pub mine : Told → Bool
    mine = is_under (key_of a (not a.positive) (sought.Marked m))

    abbrev pub unmarked : Told → Bool
    unmarked = is_under (key_of a (not a.positive) sought.Open)

    pub marked-found : (ts : List Told) → (all_fail (behind (filter mine ts)) && all_fail (behind (filter unmarked ts))) ≡ all_fail (behind ts)
    marked-found [] = refl
    marked-found (b ∷ ts) = by (is_pair a b) refl (marked-found ts)
      where
        Goal : Type 0
        Goal = (all_fail (behind (filter mine (b ∷ ts))) && all_fail (behind (filter unmarked (b ∷ ts)))) ≡ all_fail (behind (b ∷ ts))

        g : Bool
        g = not (sat (list_of b))

        x : Bool
        x = all_fail (behind (filter mine ts))

        y : Bool
        y = all_fail (behind (filter unmarked ts))

        z : Bool
        z = all_fail (behind ts)

        same : (n : ℕ) → is_pair a b ≡ true → mark b.atom.args ≡ Some n → (w : Bool) → nat_eq n m ≡ w → (x && y) ≡ z → Goal
        same n p k true d rest =
            let f = under-by b (sought.Marked m) p ∙ ap (λ o. same_sought (sought_of o) (sought.Marked m)) k ∙ d in
            let h = under-by b sought.Open p ∙ ap (λ o. same_sought (sought_of o) sought.Open) k in
            (λ i. all_fail (taken mine b ts f p i) && all_fail (passed unmarked b ts h i)) ∙ and-first g x y z rest ∙ sym (ap all_fail (paired b ts p))
        same n p k false d rest =
            let f = under-by b (sought.Marked m) p ∙ ap (λ o. same_sought (sought_of o) (sought.Marked m)) k ∙ d in
            let h = under-by b sought.Open p ∙ ap (λ o. same_sought (sought_of o) sought.Open) k in
            let none = pair-fails free given a b p (marks-clash a.atom.args b.atom.args m n (sym marked) k d) in
            (λ i. all_fail (passed mine b ts f i) && all_fail (passed unmarked b ts h i)) ∙ rest
            ∙ sym (ap all_fail (paired b ts p) ∙ ap (λ w. not w && z) none)

        pair : is_pair a b ≡ true → (o : Option ℕ) → mark b.atom.args ≡ o → (x && y) ≡ z → Goal
        pair p None k rest =
            let f = under-by b (sought.Marked m) p ∙ ap (λ o. same_sought (sought_of o) (sought.Marked m)) k in
            let h = under-by b sought.Open p ∙ ap (λ o. same_sought (sought_of o) sought.Open) k in
            (λ i. all_fail (passed mine b ts f i) && all_fail (taken unmarked b ts h p i)) ∙ and-third g x y z rest ∙ sym (ap all_fail (paired b ts p))
        pair p (Some n) k rest = same n p k (nat_eq n m) refl rest

        by : (w : Bool) → is_pair a b ≡ w → (x && y) ≡ z → Goal
        by true p rest = pair p (mark b.atom.args) refl rest
        by false p rest =
            (λ i. all_fail (other mine b ts p i) && all_fail (other unmarked b ts p i)) ∙ rest ∙ sym (ap all_fail (unpaired b ts p))

    -- how it is told whether the marked ones and the unmarked ones are apart
    pub marked-met : (xs ts : List Told) → xs ≡ filter mine ts → false ≡ all_fail (behind xs) → false ≡ all_fail (behind ts)
    marked-met xs ts h e =
        sym (ap (λ w. w && all_fail (behind (filter unmarked ts))) (sym (e ∙ ap (λ ys. all_fail (behind ys)) h))) ∙ marked-found ts

    pub marked-rest : (r : Result Bool SearchErr) (xs ys ts : List Told) → xs ≡ filter mine ts → ys ≡ filter unmarked ts → true ≡ all_fail (behind xs)
        → Gives r (all_fail (behind ys)) (behind ys) → Gives r (all_fail (behind ts)) (behind ts)
    marked-rest (Ok v) xs ys ts h k e g =
        g ∙ ap (λ zs. all_fail (behind zs)) k ∙ ap (λ w. w && all_fail (behind (filter unmarked ts))) (e ∙ ap (λ zs. all_fail (behind zs)) h) ∙ marked-found ts
    marked-rest (Err errors.Overflow) xs ys ts h k e g = overflow-found unmarked ts (sym (ap (λ zs. list_any overflows_in (behind zs)) k) ∙ g)
    marked-rest (Err errors.Memory) xs ys ts h k e g = tt

  pub found-fault : (t : Told → Bool) (e : SearchErr) (x y : Bool) (xs ts : List Told) → xs ≡ filter t ts → Gives (Err e) x (behind xs) → Gives (Err e) y (behind ts)
  found-fault t errors.Overflow x y xs ts h g = overflow-found t ts (sym (ap (λ zs. list_any overflows_in (behind zs)) h) ∙ g)
  found-fault t errors.Memory x y xs ts h g = tt

  pub all-given : (r : Result Bool SearchErr) (xs ts : List Told) → xs ≡ filter (is_under (key_of a (not a.positive) sought.All)) ts
      → Gives r (all_fail (behind xs)) (behind xs) → Gives r (all_fail (behind ts)) (behind ts)
  all-given r xs ts h g =
      subst (λ ls. Gives r (all_fail ls) ls) (all-found ts) (subst (λ ys. Gives r (all_fail (behind ys)) (behind ys)) h g)

-- ---- all pairs, from the last literal back

module _ (free : ℕ) (given : List Con) where
  -- the literals that are left, and those behind them, which are found and whose pairs are apart
  pub record Walked (left all ts : List Told) (at : Key → List Told) : Type 0 where
    pub whole : left ++ ts ≡ all
    pub found : (k : Key) → at k ≡ filter (is_under k) ts
    pub apart : all_fail (pairs_of free given ts) ≡ true

  and-false : (b : Bool) → (b && false) ≡ false
  and-false true = refl
  and-false false = refl

  -- of the literals behind others
  met-later : (xs ts : List Told) → all_fail (pairs_of free given ts) ≡ false → all_fail (pairs_of free given (xs ++ ts)) ≡ false
  met-later [] ts e = e
  met-later (x ∷ xs) ts e =
      ap all_fail (pairs-first free given x (xs ++ ts)) ∙ list_all-append (λ cs. not (sat cs)) (lists_behind free given x (xs ++ ts)) (pairs_of free given (xs ++ ts))
      ∙ ap (λ w. all_fail (lists_behind free given x (xs ++ ts)) && w) (met-later xs ts e) ∙ and-false (all_fail (lists_behind free given x (xs ++ ts)))

  large-later : (xs ts : List Told) → list_any overflows_in (pairs_of free given ts) ≡ true → list_any overflows_in (pairs_of free given (xs ++ ts)) ≡ true
  large-later [] ts e = e
  large-later (x ∷ xs) ts e =
      ap (list_any overflows_in) (pairs-first free given x (xs ++ ts)) ∙ list_any-append overflows_in (lists_behind free given x (xs ++ ts)) (pairs_of free given (xs ++ ts))
      ∙ or-right (list_any overflows_in (lists_behind free given x (xs ++ ts))) (list_any overflows_in (pairs_of free given (xs ++ ts))) (large-later xs ts e)

  first-apart : (t : Told) (ts : List Told) → all_fail (pairs_of free given (t ∷ ts)) ≡ (all_fail (lists_behind free given t ts) && all_fail (pairs_of free given ts))
  first-apart t ts =
      ap all_fail (pairs-first free given t ts) ∙ list_all-append (λ cs. not (sat cs)) (lists_behind free given t ts) (pairs_of free given ts)

  regrouped : (a : Bor Saying) (old left : List (Bor Saying)) (all ts : List Told) → old ≡ left ++ a ∷ [] → map told_from old ++ ts ≡ all
      → map told_from left ++ (told_from a ∷ ts) ≡ all
  regrouped a old left all ts popped whole =
      sym (append_assoc (map told_from left) (told_from a ∷ []) ts)
      ∙ ap (λ (xs : List Told). xs ++ ts) (sym (ap (map told_from) popped ∙ map-append told_from left (a ∷ []))) ∙ whole

  module _ (a : Bor Saying) (old left : List (Bor Saying)) (all ts : List Told) (at : Key → List Told) (popped : old ≡ left ++ a ∷ [])
      (w : Walked (map told_from old) all ts at) where
    pub walked-more : (after : Key → List Told) → ((k : Key) → after k ≡ filter (is_under k) (told_from a ∷ ts)) → true ≡ all_fail (lists_behind free given (told_from a) ts)
        → Walked (map told_from left) all (told_from a ∷ ts) after
    walked-more after found e =
        record {
          whole = regrouped a old left all ts popped w.whole;
          found = found;
          apart = first-apart (told_from a) ts ∙ ap (λ x. x && all_fail (pairs_of free given ts)) (sym e) ∙ w.apart;
        }

    pub walked-met : false ≡ all_fail (lists_behind free given (told_from a) ts) → false ≡ all_fail (pairs_of free given all)
    walked-met e =
        sym (ap (λ xs. all_fail (pairs_of free given xs)) (sym (regrouped a old left all ts popped w.whole))
        ∙ met-later (map told_from left) (told_from a ∷ ts) (first-apart (told_from a) ts ∙ ap (λ x. x && all_fail (pairs_of free given ts)) (sym e)))

    pub walked-fault : {A : Type 0} (e : SearchErr) (x y : A) → Gives (Err e) x (lists_behind free given (told_from a) ts) → Gives (Err e) y (pairs_of free given all)
    walked-fault errors.Memory x y g = tt
    walked-fault errors.Overflow x y g =
        ap (λ xs. list_any overflows_in (pairs_of free given xs)) (sym (regrouped a old left all ts popped w.whole))
        ∙ large-later (map told_from left) (told_from a ∷ ts)
        (ap (list_any overflows_in) (pairs-first free given (told_from a) ts) ∙ list_any-append overflows_in (lists_behind free given (told_from a) ts) (pairs_of free given ts)
        ∙ or-left (list_any overflows_in (lists_behind free given (told_from a) ts)) (list_any overflows_in (pairs_of free given ts)) g)

  pub walked-all : (left : List (Bor Saying)) (all ts : List Told) (at : Key → List Told) → left ≡ [] → Walked (map told_from left) all ts at → true ≡ all_fail (pairs_of free given all)
  walked-all left all ts at none w =
      sym (ap (λ xs. all_fail (pairs_of free given xs)) (sym w.whole ∙ ap (λ (xs : List (Bor Saying)). map told_from xs ++ ts) none) ∙ w.apart)
