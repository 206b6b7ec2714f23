-- Pairs that terms come to: their sides are of two sorts, and two variables are not the same.
use Rattle.std.specs.Prelude.{◌≡◌, ◌≢◌, ℕ, ◌<◌, nat_eq, Bool, true, false, ◌&&◌, if◌then◌else◌, List, [], ◌∷◌, length, ⊤}
use Rattle.std.proofs.Common.{refl, sym, subst}
use Rattle.std.proofs.lemmas.Bool.{eqb-false}
use Rattle.scasp_list.specs.Each.{Each}
use Rattle.scasp_list.proofs.EachLemmas.{Each-map, Each-append}
use Rattle.scasp_search_rules.specs.declared.states.state.State.{State}
use Rattle.scasp_search_rules.specs.declared.states.tasks.Pair.{Pair}
use Rattle.scasp_search_rules.specs.Successors.Pairs.{pair, pairs, pairs_of, all_pairs_of, in_front as put_first, from_first}
use Rattle.scasp_search_rules.specs.Successors.Variables.{meaning}
use Rattle.scasp_syntax.specs.Same.{same_number}
use Rattle.scasp_syntax.specs.Tm.{Tm, Tms, var, num, app, nil, cons, items}
use Rattle.scasp_syntax.specs.Values.{under}
use Rattle.scasp_syntax.specs.View.{tm_of}
use Rattle.scasp_unify.proofs.SimpleLemmas.{viewed}
use Rattle.scasp_law_first_event.proofs.Bindings.{Solved, Free, read-free}
use Rattle.scasp_law_first_event.proofs.Firmness.{Kinded, TermFirm, ArgsFirm, PairFirm, PairsFirm, BindingFirm, kinded-term, read-kinded}
use Rattle.scasp_law_first_event.proofs.Fitting.{TermBelow, ArgsBelow}
use Rattle.scasp_law_first_event.proofs.Terms.{EachVar, EachVars, each-weaker}

-- the term is not this variable
abbrev pub Other : ℕ → Tm → Type 0
Other x (var y) = x ≢ y
Other x (num q) = ⊤
Other x (app f ts) = ⊤

-- the two are not one variable
abbrev pub Apart : Tm → Tm → Type 0
Apart (var x) u = Other x u
Apart (num q) u = ⊤
Apart (app f ts) u = ⊤

pub apart-left : (a b : Tm) (x : ℕ) → Apart a b → a ≡ var x → Other x b
apart-left a b x h e = subst (λ (t : Tm). Apart t b) e h

pub apart-right : (a b : Tm) (y : ℕ) → Apart a b → b ≡ var y → Other y a
apart-right a b y h e = by a (subst (λ (t : Tm). Apart a t) e h)
  where
    by : (t : Tm) → Apart t (var y) → Other y t
    by (var x) n = λ f. n (sym f)
    by (num q) n = tt
    by (app f ts) n = tt

-- a pair whose first side is of one sort, and whose second of another
abbrev pub Both : (ℕ → Type 0) → (ℕ → Type 0) → Pair → Type 0
Both P Q o = EachVar P (tm_of o.left) × EachVar Q (tm_of o.right) × Apart (tm_of o.left) (tm_of o.right)

unless : (P : Pair → Type 0) (b : Bool) (ps qs : List Pair) → (b ≡ true → Each P ps) → (b ≡ false → Each P qs) → Each P (if b then ps else qs)
unless P true ps qs h k = h refl
unless P false ps qs h k = k refl

mutual
  pub pairs-both : (P Q : ℕ → Type 0) (t u : Tm) → EachVar P t → EachVar Q u → Each (Both P Q) (pairs_of t u)
  pairs-both P Q (var x) (var y) h k =
      unless (Both P Q) (nat_eq x y) [] (pair (var x) (var y) ∷ []) (λ e. tt) (λ e. ((h, k, eqb-false x y e), tt))
  pairs-both P Q (var x) (num q) h k = ((h, tt, tt), tt)
  pairs-both P Q (var x) (app f ts) h k = ((h, k, tt), tt)
  pairs-both P Q (num q) (var y) h k = ((tt, k, tt), tt)
  pairs-both P Q (num q) (num r) h k = unless (Both P Q) (same_number q r) [] (pair (num q) (num r) ∷ []) (λ e. tt) (λ e. ((tt, tt, tt), tt))
  pairs-both P Q (num q) (app f ts) h k = ((tt, k, tt), tt)
  pairs-both P Q (app f ts) (var y) h k = ((h, k, tt), tt)
  pairs-both P Q (app f ts) (num r) h k = ((h, tt, tt), tt)
  pairs-both P Q (app f ts) (app g us) h k =
      unless (Both P Q) (nat_eq f g && nat_eq (length (items ts)) (length (items us))) (all_pairs_of ts us) (pair (app f ts) (app g us) ∷ [])
      (λ e. all-pairs-both P Q ts us h k) (λ e. ((h, k, tt), tt))

  all-pairs-both : (P Q : ℕ → Type 0) (ts us : Tms) → EachVars P ts → EachVars Q us → Each (Both P Q) (all_pairs_of ts us)
  all-pairs-both P Q nil us h k = tt
  all-pairs-both P Q (cons t ts) nil h k = tt
  all-pairs-both P Q (cons t ts) (cons u us) h k =
      Each-append (Both P Q) (pairs_of t u) (all_pairs_of ts us) (pairs-both P Q t u h.0 k.0) (all-pairs-both P Q ts us h.1 k.1)

-- ---- pairs of a state

-- the first of a list of pairs
abbrev pub First : (Pair → Type 0) → List Pair → Type 0
First P [] = ⊤
First P (o ∷ ps) = P o

module _ (s : State) (solved : Solved (length s.made) s.bound) (h : Each (BindingFirm s) s.bound) where
  -- a pair that is read: its first side is kinded, and its second free
  abbrev pub ReadPair : Pair → Type 0
  ReadPair o = Both (Kinded s) (Free (length s.made) s.bound) o

  read-pair : (o : Pair) → PairFirm s o → Each ReadPair (pairs_of (under (meaning s) (tm_of o.left)) (under (meaning s) (tm_of o.right)))
  read-pair o k =
      pairs-both (Kinded s) (Free (length s.made) s.bound) (under (meaning s) (tm_of o.left)) (under (meaning s) (tm_of o.right))
      (read-kinded s solved h (tm_of o.left) k.0) (read-free (length s.made) s.bound solved (tm_of o.right) k.1)

  read-firm : (ps : List Pair) → Each ReadPair ps → PairsFirm s ps
  read-firm ps k =
      Each-map ReadPair (PairFirm s)
      (λ o l. (kinded-term s (tm_of o.left) l.0, each-weaker (Free (length s.made) s.bound) (λ y. y < length s.made) (λ y f. f.1) (tm_of o.right) l.1)) ps k

  put-read : (qs ps later : List Pair) → Each ReadPair qs → First ReadPair later → First ReadPair (put_first qs ps later)
  put-read [] ps later k l = l
  put-read (q ∷ qs) ps later k l = k.0

  put-firm : (qs ps later : List Pair) → Each ReadPair qs → PairsFirm s ps → PairsFirm s later → PairsFirm s (put_first qs ps later)
  put-firm [] ps later k l m = m
  put-firm (q ∷ qs) ps later k l m = Each-append (PairFirm s) (q ∷ qs) ps (read-firm (q ∷ qs) k) l

  pub first-read : (ps : List Pair) → PairsFirm s ps → First ReadPair (from_first (meaning s) ps)
  first-read [] k = tt
  first-read (o ∷ ps) k =
      put-read (pairs_of (under (meaning s) (tm_of o.left)) (under (meaning s) (tm_of o.right))) ps (from_first (meaning s) ps) (read-pair o k.0) (first-read ps k.1)

  pub first-firm : (ps : List Pair) → PairsFirm s ps → PairsFirm s (from_first (meaning s) ps)
  first-firm [] k = tt
  first-firm (o ∷ ps) k =
      put-firm (pairs_of (under (meaning s) (tm_of o.left)) (under (meaning s) (tm_of o.right))) ps (from_first (meaning s) ps) (read-pair o k.0) k.1 (first-firm ps k.1)

-- ---- pairs of arguments

pub pairs-firm : (s : State) (ts us : Tms) → ArgsFirm s ts → ArgsBelow (length s.made) us → PairsFirm s (pairs ts us)
pairs-firm s nil us h k = tt
pairs-firm s (cons t ts) nil h k = tt
pairs-firm s (cons t ts) (cons u us) h k =
    ((subst (TermFirm s) (sym (viewed t)) h.0, subst (TermBelow (length s.made)) (sym (viewed u)) k.0), pairs-firm s ts us h.1 k.1)
