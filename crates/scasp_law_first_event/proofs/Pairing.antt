-- Pairs that terms come to: what holds of each of their variables.
use Rattle.std.specs.Prelude.{◌≡◌, ℕ, ◌<◌, nat_eq, Bool, true, false, ◌&&◌, if◌then◌else◌, List, [], ◌∷◌, length, ⊤}
use Rattle.std.proofs.Common.{sym, subst}
use Rattle.std.proofs.lemmas.Bool.{and_parts}
use Rattle.scasp_list.specs.Each.{Each}
use Rattle.scasp_list.proofs.EachLemmas.{Each-map, Each-append, Each-from_test}
use Rattle.scasp_search_rules.specs.declared.states.tasks.Pair.{Pair}
use Rattle.scasp_search_rules.specs.Successors.Pairs.{pair, pairs_of, all_pairs_of, in_front as put_first, from_first}
use Rattle.scasp_syntax.specs.Same.{same_number}
use Rattle.scasp_syntax.specs.Tm.{Tm, Tms, var, num, app, nil, cons, items}
use Rattle.scasp_syntax.specs.Values.{under}
use Rattle.scasp_syntax.specs.View.{tm_of}
use Rattle.scasp_syntax.specs.WellFormed.{is_below}
use Rattle.scasp_unify.specs.Solving.{sub_of}
use Rattle.scasp_unify.specs.declared.bindings.Binding.{Binding}
use Rattle.scasp_unify.proofs.SimpleLemmas.{viewed}
use Rattle.scasp_law_first_event.specs.Solved.{are_pairs_below}
use Rattle.scasp_law_first_event.proofs.Bindings.{Solved, Free, read-free}
use Rattle.scasp_law_first_event.proofs.Fitting.{TermBelow, PairsBelow}
use Rattle.scasp_law_first_event.proofs.Terms.{EachVar, EachVars, each-weaker, below-each}

-- both sides of a pair
abbrev pub Sides : (ℕ → Type 0) → Pair → Type 0
Sides P p = EachVar P (tm_of p.left) × EachVar P (tm_of p.right)

one-pair : (P : ℕ → Type 0) (t u : Tm) → EachVar P t → EachVar P u → Sides P (pair t u)
one-pair P t u h k = (subst (EachVar P) (sym (viewed t)) h, subst (EachVar P) (sym (viewed u)) k)

unless : (P : Pair → Type 0) (b : Bool) (ps qs : List Pair) → Each P ps → Each P qs → Each P (if b then ps else qs)
unless P true ps qs h k = h
unless P false ps qs h k = k

mutual
  pub pairs-keep : (P : ℕ → Type 0) (t u : Tm) → EachVar P t → EachVar P u → Each (Sides P) (pairs_of t u)
  pairs-keep P (var x) (var y) h k = unless (Sides P) (nat_eq x y) [] (pair (var x) (var y) ∷ []) tt (one-pair P (var x) (var y) h k, tt)
  pairs-keep P (var x) (num q) h k = (one-pair P (var x) (num q) h k, tt)
  pairs-keep P (var x) (app f ts) h k = (one-pair P (var x) (app f ts) h k, tt)
  pairs-keep P (num q) (var y) h k = (one-pair P (num q) (var y) h k, tt)
  pairs-keep P (num q) (num r) h k = unless (Sides P) (same_number q r) [] (pair (num q) (num r) ∷ []) tt (one-pair P (num q) (num r) h k, tt)
  pairs-keep P (num q) (app f ts) h k = (one-pair P (num q) (app f ts) h k, tt)
  pairs-keep P (app f ts) (var y) h k = (one-pair P (app f ts) (var y) h k, tt)
  pairs-keep P (app f ts) (num r) h k = (one-pair P (app f ts) (num r) h k, tt)
  pairs-keep P (app f ts) (app g us) h k =
      unless (Sides P) (nat_eq f g && nat_eq (length (items ts)) (length (items us))) (all_pairs_of ts us) (pair (app f ts) (app g us) ∷ [])
      (all-pairs-keep P ts us h k) (one-pair P (app f ts) (app g us) h k, tt)

  all-pairs-keep : (P : ℕ → Type 0) (ts us : Tms) → EachVars P ts → EachVars P us → Each (Sides P) (all_pairs_of ts us)
  all-pairs-keep P nil us h k = tt
  all-pairs-keep P (cons t ts) nil h k = tt
  all-pairs-keep P (cons t ts) (cons u us) h k =
      Each-append (Sides P) (pairs_of t u) (all_pairs_of ts us) (pairs-keep P t u h.0 k.0) (all-pairs-keep P ts us h.1 k.1)

-- the first of a list of pairs
abbrev pub FirstSides : (ℕ → Type 0) → List Pair → Type 0
FirstSides P [] = ⊤
FirstSides P (p ∷ ps) = Sides P p

put-first : (P : ℕ → Type 0) (qs ps later : List Pair) → Each (Sides P) qs → FirstSides P later → FirstSides P (put_first qs ps later)
put-first P [] ps later h k = k
put-first P (q ∷ qs) ps later h k = h.0

-- what two terms come to as they read
pub read-pairs : (n : ℕ) (bs : List Binding) → Solved n bs → (o : Pair) → TermBelow n (tm_of o.left) × TermBelow n (tm_of o.right)
    → Each (Sides (Free n bs)) (pairs_of (under (sub_of bs) (tm_of o.left)) (under (sub_of bs) (tm_of o.right)))
read-pairs n bs solved o h =
    pairs-keep (Free n bs) (under (sub_of bs) (tm_of o.left)) (under (sub_of bs) (tm_of o.right)) (read-free n bs solved (tm_of o.left) h.0) (read-free n bs solved (tm_of o.right) h.1)

pub first-sides : (n : ℕ) (bs : List Binding) → Solved n bs → (ps : List Pair) → PairsBelow n ps → FirstSides (Free n bs) (from_first (sub_of bs) ps)
first-sides n bs solved [] h = tt
first-sides n bs solved (p ∷ ps) h =
    put-first (Free n bs) (pairs_of (under (sub_of bs) (tm_of p.left)) (under (sub_of bs) (tm_of p.right))) ps (from_first (sub_of bs) ps)
    (read-pairs n bs solved p h.0) (first-sides n bs solved ps h.1)

-- free sides are below n
pub sides-below : (n : ℕ) (bs : List Binding) (ps : List Pair) → Each (Sides (Free n bs)) ps → PairsBelow n ps
sides-below n bs ps h =
    Each-map (Sides (Free n bs)) (λ (o : Pair). TermBelow n (tm_of o.left) × TermBelow n (tm_of o.right))
    (λ o k. (each-weaker (Free n bs) (λ y. y < n) (λ y f. f.1) (tm_of o.left) k.0, each-weaker (Free n bs) (λ y. y < n) (λ y f. f.1) (tm_of o.right) k.1)) ps h

put-below : (n : ℕ) (qs ps later : List Pair) → PairsBelow n qs → PairsBelow n ps → PairsBelow n later → PairsBelow n (put_first qs ps later)
put-below n [] ps later h k l = l
put-below n (q ∷ qs) ps later h k l = Each-append (λ (o : Pair). TermBelow n (tm_of o.left) × TermBelow n (tm_of o.right)) (q ∷ qs) ps h k

pub first-below : (n : ℕ) (bs : List Binding) → Solved n bs → (ps : List Pair) → PairsBelow n ps → PairsBelow n (from_first (sub_of bs) ps)
first-below n bs solved [] h = tt
first-below n bs solved (p ∷ ps) h =
    put-below n (pairs_of (under (sub_of bs) (tm_of p.left)) (under (sub_of bs) (tm_of p.right))) ps (from_first (sub_of bs) ps)
    (sides-below n bs (pairs_of (under (sub_of bs) (tm_of p.left)) (under (sub_of bs) (tm_of p.right))) (read-pairs n bs solved p h.0)) h.1 (first-below n bs solved ps h.1)

pub pairs-from_test : (n : ℕ) (ps : List Pair) → are_pairs_below n ps ≡ true → PairsBelow n ps
pairs-from_test n ps e =
    Each-from_test (λ (o : Pair). is_below n (tm_of o.left) && is_below n (tm_of o.right)) (λ o. TermBelow n (tm_of o.left) × TermBelow n (tm_of o.right))
    (λ o k. let sides = and_parts (is_below n (tm_of o.left)) (is_below n (tm_of o.right)) k in (below-each n (tm_of o.left) sides.0, below-each n (tm_of o.right) sides.1)) ps e
