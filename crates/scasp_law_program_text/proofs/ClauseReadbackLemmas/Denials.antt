-- The clauses that are written of a program with its generated denials are those in front of them.
use Rattle.std.proofs.Common.{◌≡◌, ℕ, zero, suc, ◌+◌, ◌-◌, ◌≤◌, Bool, true, false, not, ◌&&◌, ◌||◌, ◌==◌, List, [], ◌∷◌, ◌++◌, map, filter, length, take, drop, refl, sym, ap, ◌∙◌, arith, append_assoc, append-nil, length-append}
use Rattle.std.specs.Prelude.{if◌then◌else◌}
use Rattle.std.specs.List.{flat_map, list_any}
use Rattle.std.proofs.lemmas.Bool.{and_from, false≢true}
use Rattle.std.proofs.lemmas.Bool.Decides.{nat_tests}
use Rattle.std.proofs.lemmas.Grind.{flat_map-append}
use Rattle.std.proofs.lemmas.List.{length-map}
use Rattle.std.proofs.lemmas.List.Elements.{filter-append}
use Rattle.std.proofs.Math.Seq.{drop-append_seam, take-append_seam}
use Rattle.scasp_syntax.specs.Denials.{variables_from, denial_of, with_denials}
use Rattle.scasp_syntax.specs.Programs.{clause_preds, body_preds, first_occurrences}
use Rattle.scasp_syntax.specs.Same.{same_pred, same_lit}
use Rattle.scasp_syntax.specs.Tm.{items}
use Rattle.scasp_syntax.specs.declared.atom.Lit.{Lit}
use Rattle.scasp_syntax.specs.declared.atom.Pred.{Pred}
use Rattle.scasp_syntax.specs.declared.clause.Clause.{Clause}
use Rattle.scasp_syntax.specs.declared.clause.Query.{Query}
use Rattle.scasp_syntax.proofs.SameLemmas.{lit_decided}
use Rattle.scasp_graph.proofs.PredLemmas.{pred_is, pred_same, same_pred-sym}
use Rattle.scasp_print_program.specs.Programs.{is_denial_of, are_denials, negated_predicates, written}

-- ---- filters

module _ (f : Pred → Bool) (p : Pred) (ps : List Pred) where
  passed : f p ≡ true → filter f (p ∷ ps) ≡ p ∷ filter f ps
  passed e = rw e refl

  dropped : f p ≡ false → filter f (p ∷ ps) ≡ filter f ps
  dropped e = rw e refl

module _ (f g : Pred → Bool) where
  filter-swap : (ps : List Pred) → filter f (filter g ps) ≡ filter g (filter f ps)
  filter-swap [] = refl
  filter-swap (p ∷ ps) = by (f p) (g p) refl refl (filter-swap ps)
    where
      by : (a b : Bool) → f p ≡ a → g p ≡ b → filter f (filter g ps) ≡ filter g (filter f ps) → filter f (filter g (p ∷ ps)) ≡ filter g (filter f (p ∷ ps))
      by true true x y r = ap (filter f) (passed g p ps y) ∙ passed f p (filter g ps) x ∙ ap (λ qs. p ∷ qs) r ∙ sym (ap (filter g) (passed f p ps x) ∙ passed g p (filter f ps) y)
      by true false x y r = ap (filter f) (dropped g p ps y) ∙ r ∙ sym (ap (filter g) (passed f p ps x) ∙ dropped g p (filter f ps) y)
      by false true x y r = ap (filter f) (passed g p ps y) ∙ dropped f p (filter g ps) x ∙ r ∙ sym (ap (filter g) (dropped f p ps x))
      by false false x y r = ap (filter f) (dropped g p ps y) ∙ r ∙ sym (ap (filter g) (dropped f p ps x))

  -- a filter that passes all that the other passes
  filter-drop : ((q : Pred) → g q ≡ true → f q ≡ true) → (ps : List Pred) → filter f (filter g ps) ≡ filter g ps
  filter-drop h [] = refl
  filter-drop h (p ∷ ps) = by (g p) refl (filter-drop h ps)
    where
      by : (b : Bool) → g p ≡ b → filter f (filter g ps) ≡ filter g ps → filter f (filter g (p ∷ ps)) ≡ filter g (p ∷ ps)
      by true y r = rw y (rw (h p y) (ap (λ qs. p ∷ qs) r))
      by false y r = rw y r

-- ---- predicates of a list

abbrev among : List Pred → Pred → Bool
among ps q = list_any (same_pred q) ps

abbrev lacks : List Pred → Pred → Bool
lacks ps q = not (among ps q)

or-cases : (a b : Bool) → (a || b) ≡ true → a ≡ false → b ≡ true
or-cases true b e n = absurd (false≢true (sym n))
or-cases false b e n = e

among-filtered : (f : Pred → Bool) (ps : List Pred) (q : Pred) → among (filter f ps) q ≡ true → among ps q ≡ true
among-filtered f [] q h = h
among-filtered f (p ∷ ps) q h = by (f p) (same_pred q p) refl refl h (among-filtered f ps q)
  where
    by : (a b : Bool) → f p ≡ a → same_pred q p ≡ b → among (filter f (p ∷ ps)) q ≡ true → (among (filter f ps) q ≡ true → among ps q ≡ true) → (same_pred q p || among ps q) ≡ true
    by a true x y h r = rw y refl
    by true false x y h r = rw y (r (sym (rw (x, y) refl) ∙ h))
    by false false x y h r = rw y (r (sym (rw x refl) ∙ h))

-- what no predicate of the list passes
filter-none : (f : Pred → Bool) (ps : List Pred) → ((q : Pred) → among ps q ≡ true → f q ≡ false) → filter f ps ≡ []
filter-none f [] h = refl
filter-none f (p ∷ ps) h =
    let here : f p ≡ false = h p (ap (λ b. b || among ps p) (pred_same p)) in
    rw here (filter-none f ps (λ q e. h q (later (same_pred q p) (among ps q) e)))
  where
    later : (a b : Bool) → b ≡ true → (a || b) ≡ true
    later true b e = refl
    later false b e = e

-- ---- first occurrences

-- a test passes equal predicates alike
same-test : (f : Pred → Bool) (p q : Pred) → f p ≡ false → f q ≡ true → not (same_pred p q) ≡ true
same-test f p q x y = by (same_pred p q) refl
  where
    by : (b : Bool) → same_pred p q ≡ b → not (same_pred p q) ≡ true
    by true s = absurd (false≢true (sym x ∙ ap f (pred_is p q s) ∙ y))
    by false s = ap not s

filter-first : (f : Pred → Bool) (ps : List Pred) → filter f (first_occurrences ps) ≡ first_occurrences (filter f ps)
filter-first f [] = refl
filter-first f (p ∷ ps) = by (f p) refl (filter-first f ps)
  where
    others : Pred → Bool
    others q = not (same_pred p q)

    by : (b : Bool) → f p ≡ b → filter f (first_occurrences ps) ≡ first_occurrences (filter f ps) → filter f (first_occurrences (p ∷ ps)) ≡ first_occurrences (filter f (p ∷ ps))
    by true x r = rw x (ap (λ qs. p ∷ qs) (filter-swap f (λ q. not (same_pred p q)) (first_occurrences ps) ∙ ap (filter (λ q. not (same_pred p q))) r))
    by false x r =
        rw x (filter-swap f (λ q. not (same_pred p q)) (first_occurrences ps) ∙ filter-drop (λ q. not (same_pred p q)) f (λ q y. same-test f p q x y) (first_occurrences ps) ∙ r)

filter-twice : (f : Pred → Bool) (ps : List Pred) → filter f (filter f ps) ≡ filter f ps
filter-twice f = filter-drop f f (λ q e. e)

first-twice : (ps : List Pred) → first_occurrences (first_occurrences ps) ≡ first_occurrences ps
first-twice [] = refl
first-twice (p ∷ ps) =
    let others = λ (q : Pred). not (same_pred p q) in
    ap (λ qs. p ∷ filter others qs) (sym (filter-first others (first_occurrences ps)) ∙ ap (filter others) (first-twice ps))
    ∙ ap (λ qs. p ∷ qs) (filter-twice others (first_occurrences ps))

lacks-more : (p : Pred) (ps qs : List Pred) → filter (λ q. not (same_pred p q)) (filter (lacks ps) qs) ≡ filter (lacks (p ∷ ps)) qs
lacks-more p ps [] = refl
lacks-more p ps (q ∷ qs) = by (among ps q) (same_pred p q) refl refl (lacks-more p ps qs)
  where
    either : (a b : Bool) → a ≡ true → (b || a) ≡ true
    either a true e = refl
    either a false e = e

    by : (a b : Bool) → among ps q ≡ a → same_pred p q ≡ b → filter (λ q. not (same_pred p q)) (filter (lacks ps) qs) ≡ filter (lacks (p ∷ ps)) qs
        → filter (λ q. not (same_pred p q)) (filter (lacks ps) (q ∷ qs)) ≡ filter (lacks (p ∷ ps)) (q ∷ qs)
    by true b x y r =
        ap (filter (λ q. not (same_pred p q))) (dropped (lacks ps) q qs (ap not x)) ∙ r ∙ sym (dropped (lacks (p ∷ ps)) q qs (ap not (either (among ps q) (same_pred q p) x)))
    by false true x y r =
        ap (filter (λ q. not (same_pred p q))) (passed (lacks ps) q qs (ap not x))
        ∙ dropped (λ q. not (same_pred p q)) q (filter (lacks ps) qs) (ap not y)
        ∙ r
        ∙ sym (dropped (lacks (p ∷ ps)) q qs (ap (λ b. not (b || among ps q)) (same_pred-sym q p ∙ y)))
    by false false x y r =
        ap (filter (λ q. not (same_pred p q))) (passed (lacks ps) q qs (ap not x))
        ∙ passed (λ q. not (same_pred p q)) q (filter (lacks ps) qs) (ap not y)
        ∙ ap (λ l. q ∷ l) r
        ∙ sym (passed (lacks (p ∷ ps)) q qs (ap (λ b. not (b || among ps q)) (same_pred-sym q p ∙ y) ∙ ap not x))

first-append : (ps qs : List Pred) → first_occurrences (ps ++ qs) ≡ first_occurrences ps ++ filter (lacks ps) (first_occurrences qs)
first-append [] qs = sym (filter-all (first_occurrences qs))
  where
    filter-all : (zs : List Pred) → filter (lacks []) zs ≡ zs
    filter-all [] = refl
    filter-all (z ∷ zs) = ap (λ l. z ∷ l) (filter-all zs)
first-append (p ∷ ps) qs =
    let others = λ (q : Pred). not (same_pred p q) in
    ap (λ l. p ∷ filter others l) (first-append ps qs)
    ∙ ap (λ l. p ∷ l) (filter-append others (first_occurrences ps) (filter (lacks ps) (first_occurrences qs)))
    ∙ ap (λ l. p ∷ (filter others (first_occurrences ps) ++ l)) (lacks-more p ps (first_occurrences qs))

among-first : (ps : List Pred) (q : Pred) → among ps q ≡ true → among (first_occurrences ps) q ≡ true
among-first [] q h = h
among-first (p ∷ ps) q h = by (same_pred q p) refl (among-first ps q)
  where
    kept : (zs : List Pred) → same_pred q p ≡ false → among zs q ≡ true → among (filter (λ x. not (same_pred p x)) zs) q ≡ true
    kept [] n e = e
    kept (z ∷ zs) n e = step (same_pred p z) (same_pred q z) refl refl (kept zs n)
      where
        step : (a b : Bool) → same_pred p z ≡ a → same_pred q z ≡ b → (among zs q ≡ true → among (filter (λ x. not (same_pred p x)) zs) q ≡ true) → among (filter (λ x. not (same_pred p x)) (z ∷ zs)) q ≡ true
        step true true x y r =
            let same : p ≡ z = pred_is p z x in absurd (false≢true (sym n ∙ ap (same_pred q) same ∙ y))
        step true false x y r = rw x (r (sym (rw y refl) ∙ e))
        step false true x y r = rw x (rw y refl)
        step false false x y r = rw x (rw y (r (sym (rw y refl) ∙ e)))

    by : (b : Bool) → same_pred q p ≡ b → (among ps q ≡ true → among (first_occurrences ps) q ≡ true) → among (first_occurrences (p ∷ ps)) q ≡ true
    by true s r = rw s refl
    by false s r = rw s (kept (first_occurrences ps) s (r (or-cases (same_pred q p) (among ps q) h s)))

among-back : (ps : List Pred) (q : Pred) → among (first_occurrences ps) q ≡ true → among ps q ≡ true
among-back [] q h = h
among-back (p ∷ ps) q h = by (same_pred q p) refl (among-back ps q)
  where
    by : (b : Bool) → same_pred q p ≡ b → (among (first_occurrences ps) q ≡ true → among ps q ≡ true) → (same_pred q p || among ps q) ≡ true
    by true s r = rw s refl
    by false s r =
        let inner = or-cases (same_pred q p) (among (filter (λ x. not (same_pred p x)) (first_occurrences ps)) q) h s in
        rw s (r (among-filtered (λ x. not (same_pred p x)) (first_occurrences ps) q inner))

among-right : (ps qs : List Pred) (q : Pred) → among qs q ≡ true → among (ps ++ qs) q ≡ true
among-right [] qs q h = h
among-right (p ∷ ps) qs q h = by (same_pred q p) (among-right ps qs q h)
  where
    by : (b : Bool) → among (ps ++ qs) q ≡ true → (b || among (ps ++ qs) q) ≡ true
    by true e = refl
    by false e = e

-- the first occurrences of two lists, put between them, change nothing
first-between : (ps qs : List Pred) → first_occurrences (ps ++ (first_occurrences (ps ++ qs) ++ qs)) ≡ first_occurrences (ps ++ qs)
first-between ps qs =
    let all = first_occurrences (ps ++ qs) in
    let none : filter (lacks all) (first_occurrences qs) ≡ [] =
    filter-none (lacks all) (first_occurrences qs) (λ q e. ap not (among-first (ps ++ qs) q (among-right ps qs q (among-back qs q e)))) in
    let inner : first_occurrences (all ++ qs) ≡ all =
    first-append all qs ∙ ap (λ l. first_occurrences all ++ l) none ∙ append-nil (first_occurrences all) ∙ first-twice (ps ++ qs) in
    let front : filter (lacks ps) (first_occurrences ps) ≡ [] = filter-none (lacks ps) (first_occurrences ps) (λ q e. ap not (among-back ps q e)) in
    let tail : filter (lacks ps) all ≡ filter (lacks ps) (first_occurrences qs) =
    ap (filter (lacks ps)) (first-append ps qs)
    ∙ filter-append (lacks ps) (first_occurrences ps) (filter (lacks ps) (first_occurrences qs))
    ∙ ap (λ l. l ++ filter (lacks ps) (filter (lacks ps) (first_occurrences qs))) front
    ∙ filter-twice (lacks ps) (first_occurrences qs) in
    first-append ps (all ++ qs)
    ∙ ap (λ l. first_occurrences ps ++ filter (lacks ps) l) inner
    ∙ ap (λ l. first_occurrences ps ++ l) tail
    ∙ sym (first-append ps qs)

-- ---- the predicates of generated denials

length-variables : (x n : ℕ) → length (items (variables_from x n)) ≡ n
length-variables x zero = refl
length-variables x (suc n) = ap suc (length-variables (x + 1) n)

abbrev negative : Pred → Bool
negative p = p.minus

denial-preds : (p : Pred) → negative p ≡ true → filter negative (clause_preds (denial_of p)) ≡ p ∷ []
denial-preds p e =
    ap (λ n. (record { minus = true; name = p.name; arity = n }) ∷ []) (length-variables 0 p.arity)
    ∙ ap (λ m. (record { minus = m; name = p.name; arity = p.arity }) ∷ []) (sym e)

denials-preds : (ps : List Pred) → filter negative ps ≡ ps → filter negative (flat_map clause_preds (map denial_of ps)) ≡ ps
denials-preds [] h = refl
denials-preds (p ∷ ps) h = by (negative p) refl h (denials-preds ps)
  where
    by : (b : Bool) → negative p ≡ b → (if b then p ∷ filter negative ps else filter negative ps) ≡ p ∷ ps → (filter negative ps ≡ ps → filter negative (flat_map clause_preds (map denial_of ps)) ≡ ps)
        → filter negative (flat_map clause_preds (map denial_of (p ∷ ps))) ≡ p ∷ ps
    by true x h r =
        let rest : filter negative ps ≡ ps = cc in
        filter-append negative (clause_preds (denial_of p)) (flat_map clause_preds (map denial_of ps))
        ∙ ap (λ l. l ++ filter negative (flat_map clause_preds (map denial_of ps))) (denial-preds p x)
        ∙ ap (λ l. p ∷ l) (r rest)
    by false x h r = absurd (shorter ps (p ∷ ps) h refl)
      where
        filtered : (zs : List Pred) → length (filter negative zs) ≤ length zs
        filtered [] = omega arith
        filtered (z ∷ zs) = step (negative z) (filtered zs)
          where
            step : (b : Bool) → length (filter negative zs) ≤ length zs → length (if b then z ∷ filter negative zs else filter negative zs) ≤ length (z ∷ zs)
            step true r = omega arith
            step false r = omega arith

        shorter : (zs ws : List Pred) → filter negative zs ≡ ws → length ws ≡ suc (length zs) → ⊥
        shorter zs ws e n = omega (arith, filtered zs, ap length e)

-- the predicates with `-` are the same with the generated denials
same-negated : (cs : List Clause) (qs : List Query) → negated_predicates (with_denials cs qs) qs ≡ negated_predicates cs qs
same-negated cs qs =
    let xs = flat_map clause_preds cs in
    let ys = flat_map (λ (q : Query). body_preds q.body) qs in
    let ns = negated_predicates cs qs in
    let a = filter negative xs in
    let b = filter negative ys in
    let of-both : ns ≡ first_occurrences (a ++ b) = filter-first negative (xs ++ ys) ∙ ap first_occurrences (filter-append negative xs ys) in
    let denials : filter negative (flat_map clause_preds (map denial_of ns)) ≡ ns = denials-preds ns (filter-twice negative (first_occurrences (xs ++ ys))) in
    let all : filter negative (flat_map clause_preds (with_denials cs qs) ++ ys) ≡ a ++ (ns ++ b) =
    ap (λ l. filter negative (l ++ ys)) (flat_map-append clause_preds cs (map denial_of ns))
    ∙ filter-append negative (xs ++ flat_map clause_preds (map denial_of ns)) ys
    ∙ ap (λ l. l ++ b) (filter-append negative xs (flat_map clause_preds (map denial_of ns)))
    ∙ ap (λ l. (a ++ l) ++ b) denials
    ∙ append_assoc a ns b in
    filter-first negative (flat_map clause_preds (with_denials cs qs) ++ ys)
    ∙ ap first_occurrences all
    ∙ ap (λ l. first_occurrences (a ++ (l ++ b))) of-both
    ∙ first-between a b
    ∙ sym of-both

-- ---- what is written

same-self : (l : Lit) → same_lit l l ≡ true
same-self l = (lit_decided l l).1 refl

is-denial : (p : Pred) → is_denial_of p (denial_of p) ≡ true
is-denial p =
    let args = variables_from 0 p.arity in
    let plain : Lit = record { positive = true; atom = record { minus = false; name = p.name; args = args } } in
    let minus : Lit = record { positive = true; atom = record { minus = true; name = p.name; args = args } } in
    let number : (p.arity == p.arity) ≡ true = grind (arith, nat_tests) in
    and_from (p.arity == p.arity) (same_lit plain plain && (same_lit minus minus && true)) number
    (and_from (same_lit plain plain) (same_lit minus minus && true) (same-self plain) (and_from (same_lit minus minus) true (same-self minus) refl))

are-denials : (ps : List Pred) → are_denials ps (map denial_of ps) ≡ true
are-denials [] = refl
are-denials (p ∷ ps) = and_from (is_denial_of p (denial_of p)) (are_denials ps (map denial_of ps)) (is-denial p) (are-denials ps)

pub written-is : (cs : List Clause) (qs : List Query) → written (with_denials cs qs) qs ≡ cs
written-is cs qs =
    let ns = negated_predicates cs qs in
    let ds = map denial_of ns in
    let number : length (cs ++ ds) - length ns ≡ length cs = omega (arith, length-append cs ds, length-map ns denial_of) in
    let behind : drop (length cs) (cs ++ ds) ≡ ds = drop-append_seam cs ds in
    let front : take (length cs) (cs ++ ds) ≡ cs = take-append_seam cs ds in
    ap (λ ps. let n = length (cs ++ ds) - length ps in if are_denials ps (drop n (cs ++ ds)) then take n (cs ++ ds) else cs ++ ds) (same-negated cs qs)
    ∙ ap (λ n. if are_denials ns (drop n (cs ++ ds)) then take n (cs ++ ds) else cs ++ ds) number
    ∙ ap (λ l. if are_denials ns l then take (length cs) (cs ++ ds) else cs ++ ds) behind
    ∙ ap (λ b. if b then take (length cs) (cs ++ ds) else cs ++ ds) (are-denials ns)
    ∙ front
