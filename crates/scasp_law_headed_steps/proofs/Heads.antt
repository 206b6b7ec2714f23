-- Variables of a head that is being matched: as pairs are taken apart, none of them is lost.
use Rattle.std.specs.List.{list_all, list_any}
use Rattle.std.specs.Prelude.{Bool, List, None, Option, Some, [], false, if◌then◌else◌, length, nat_eq, slice_get, true, zero, ℕ, ◌&&◌, ◌++◌, ◌+◌, ◌-◌, ◌<◌, ◌||◌, ◌∷◌, ◌≡◌, ◌≤◌, ◌⊎◌}
use Rattle.std.proofs.Common.{ap, append_assoc, arith, inl, inr, refl, subst, suc, sym, ◌∙◌, ◌≢◌}
use Rattle.std.proofs.lemmas.Bool.{and_parts, eq-eqb, eqb-false, eqb-true, or_cases, or_left, or_parts, or_right, true≢false}
use Rattle.std.proofs.lemmas.List.{length-append}
use Rattle.std.proofs.lemmas.List.Folds.{list_any-append}
use Rattle.scasp_checker_rules.proofs.NodeLemmas.{all_under-length}
use Rattle.scasp_law_first_event.proofs.Apart.{Both, First, pairs-both}
use Rattle.scasp_law_first_event.proofs.Terms.{EachVar}
use Rattle.scasp_list.specs.Each.{Each}
use Rattle.scasp_search_rules.specs.Successors.Calls.{args_in, head_args, vars_in, vars_of_clause}
use Rattle.scasp_search_rules.specs.Successors.Pairs.{all_pairs_of, from_first, in_front, pair, pairs, pairs_of}
use Rattle.scasp_search_rules.specs.Successors.Reading.{count_from}
use Rattle.scasp_search_rules.specs.declared.states.tasks.Pair.{Pair}
use Rattle.scasp_syntax.specs.Programs.{is_rule_of, numbered, pred_of, rules_from, rules_of}
use Rattle.scasp_syntax.specs.Same.{same_bool, same_pred}
use Rattle.scasp_syntax.specs.Tm.{Tm, Tms, app, cons, items, nil, num, var}
use Rattle.scasp_syntax.specs.Values.{Sub, all_under, raised, under}
use Rattle.scasp_syntax.specs.View.{tm_of}
use Rattle.scasp_syntax.specs.declared.atom.Atom.{Atom}
use Rattle.scasp_syntax.specs.declared.clause.Clause.{Clause}
use Rattle.scasp_syntax.specs.declared.program.Program.{Program}
use Rattle.scasp_unify.proofs.SimpleLemmas.{viewed}
use Rattle.scasp_unify.specs.Parts.{occurs, occurs_among}
use Rattle.scasp_unify.specs.SimpleForm.{term_with}
use Rattle.scasp_law_headed_steps.specs.Headed.{is_headed, stands_in}

-- z stands in the second side of some pair
abbrev pub in_rights : List Pair → ℕ → Bool
in_rights ps z = list_any (λ o. occurs z (tm_of o.right)) ps

pub rights-append : (ps qs : List Pair) (z : ℕ) → in_rights (ps ++ qs) z ≡ (in_rights ps z || in_rights qs z)
rights-append ps qs z = list_any-append (λ o. occurs z (tm_of o.right)) ps qs

one-right : (t u : Tm) (z : ℕ) → occurs z u ≡ true → in_rights (pair t u ∷ []) z ≡ true
one-right t u z e = or_left (occurs z (tm_of (term_with u))) false (ap (occurs z) (viewed u) ∙ e)

pub pairs-right : (ts us : Tms) (z : ℕ) → length (items ts) ≡ length (items us) → occurs_among z us ≡ true → in_rights (pairs ts us) z ≡ true
pairs-right nil nil z e f = f
pairs-right nil (cons u us) z e f = absurd (omega (arith, e))
pairs-right (cons t ts) nil z e f = absurd (omega (arith, e))
pairs-right (cons t ts) (cons u us) z e f = by (pairs-right ts us z (omega (arith, e))) (or_cases (occurs z u) (occurs_among z us) f)
  where
    by : (occurs_among z us ≡ true → in_rights (pairs ts us) z ≡ true) → (occurs z u ≡ true) ⊎ (occurs_among z us ≡ true) → (occurs z (tm_of (term_with u)) || in_rights (pairs ts us) z) ≡ true
    by rec (inl g) = or_left (occurs z (tm_of (term_with u))) (in_rights (pairs ts us) z) (ap (occurs z) (viewed u) ∙ g)
    by rec (inr g) = or_right (occurs z (tm_of (term_with u))) (in_rights (pairs ts us) z) (rec g)

names-right : (z h g : ℕ) (ts us : Tms) → occurs_among z us ≡ true → (length (items ts) ≡ length (items us) → in_rights (all_pairs_of ts us) z ≡ true)
    → (b : Bool) → (nat_eq h g && nat_eq (length (items ts)) (length (items us))) ≡ b → in_rights (if b then all_pairs_of ts us else pair (app h ts) (app g us) ∷ []) z ≡ true
names-right z h g ts us e rec true k = rec (eqb-true (length (items ts)) (length (items us)) (and_parts (nat_eq h g) (nat_eq (length (items ts)) (length (items us))) k).1)
names-right z h g ts us e rec false k = one-right (app h ts) (app g us) z e

either-right : (z : ℕ) (ps qs : List Pair) (a b : Bool) → (a ≡ true → in_rights ps z ≡ true) → (b ≡ true → in_rights qs z ≡ true) → (a || b) ≡ true → (in_rights ps z || in_rights qs z) ≡ true
either-right z ps qs true b f g e = or_left (in_rights ps z) (in_rights qs z) (f refl)
either-right z ps qs false b f g e = or_right (in_rights ps z) (in_rights qs z) (g e)

-- what the first term does not have
mutual
  kept-right : (z : ℕ) (t u : Tm) → occurs z u ≡ true → occurs z t ≡ false → in_rights (pairs_of t u) z ≡ true
  kept-right z (var x) (var y) e f = by (nat_eq x y) refl
    where
      by : (b : Bool) → nat_eq x y ≡ b → in_rights (if b then [] else pair (var x) (var y) ∷ []) z ≡ true
      by true g = absurd (true≢false (sym e ∙ ap (nat_eq z) (sym (eqb-true x y g)) ∙ f))
      by false g = one-right (var x) (var y) z e
  kept-right z (var x) (num q) e f = absurd (true≢false (sym e))
  kept-right z (var x) (app g us) e f = one-right (var x) (app g us) z e
  kept-right z (num q) (var y) e f = one-right (num q) (var y) z e
  kept-right z (num q) (num r) e f = absurd (true≢false (sym e))
  kept-right z (num q) (app g us) e f = one-right (num q) (app g us) z e
  kept-right z (app h ts) (var y) e f = one-right (app h ts) (var y) z e
  kept-right z (app h ts) (num r) e f = absurd (true≢false (sym e))
  kept-right z (app h ts) (app g us) e f = names-right z h g ts us e (λ l. kept-rights z ts us l e f) (nat_eq h g && nat_eq (length (items ts)) (length (items us))) refl

  kept-rights : (z : ℕ) (ts us : Tms) → length (items ts) ≡ length (items us) → occurs_among z us ≡ true → occurs_among z ts ≡ false → in_rights (all_pairs_of ts us) z ≡ true
  kept-rights z nil nil l e f = absurd (true≢false (sym e))
  kept-rights z nil (cons u us) l e f = absurd (omega (arith, l))
  kept-rights z (cons t ts) nil l e f = absurd (omega (arith, l))
  kept-rights z (cons t ts) (cons u us) l e f =
      let p = or_parts (occurs z t) (occurs_among z ts) f in
      rights-append (pairs_of t u) (all_pairs_of ts us) z
      ∙ either-right z (pairs_of t u) (all_pairs_of ts us) (occurs z u) (occurs_among z us) (λ g. kept-right z t u g p.0) (λ g. kept-rights z ts us (omega (arith, l)) g p.1) e

among-under : (a b c d : Bool) → (a ≡ true → c ≡ true) → (b ≡ true → d ≡ true) → (a || b) ≡ true → (c || d) ≡ true
among-under true b c d f g e = or_left c d (f refl)
among-under false b c d f g e = or_right c d (g e)

mutual
  occurs-under : (v : Sub) (z : ℕ) → v z ≡ var z → (t : Tm) → occurs z t ≡ true → occurs z (under v t) ≡ true
  occurs-under v z s (var x) e = ap (occurs z) (ap v (sym (eqb-true z x e)) ∙ s) ∙ eq-eqb z z refl
  occurs-under v z s (num q) e = absurd (true≢false (sym e))
  occurs-under v z s (app f ts) e = occurs-all-under v z s ts e

  occurs-all-under : (v : Sub) (z : ℕ) → v z ≡ var z → (ts : Tms) → occurs_among z ts ≡ true → occurs_among z (all_under v ts) ≡ true
  occurs-all-under v z s nil e = absurd (true≢false (sym e))
  occurs-all-under v z s (cons t ts) e = among-under (occurs z t) (occurs_among z ts) (occurs z (under v t)) (occurs_among z (all_under v ts)) (occurs-under v z s t) (occurs-all-under v z s ts) e

-- ---- the first pair that comes to something

front-left : (qs ps later : List Pair) (z : ℕ) → in_rights qs z ≡ true → in_rights (in_front qs ps later) z ≡ true
front-left [] ps later z e = absurd (true≢false (sym e))
front-left (q ∷ qs) ps later z e = rights-append (q ∷ qs) ps z ∙ or_left (in_rights (q ∷ qs) z) (in_rights ps z) e

front-right : (qs ps later : List Pair) (z : ℕ) → in_rights ps z ≡ true → in_rights later z ≡ true → in_rights (in_front qs ps later) z ≡ true
front-right [] ps later z e f = f
front-right (q ∷ qs) ps later z e f = rights-append (q ∷ qs) ps z ∙ or_right (in_rights (q ∷ qs) z) (in_rights ps z) e

-- z stands for itself, and no first side reads to a term with it
pub first-rights : (v : Sub) (z : ℕ) → v z ≡ var z → (ps : List Pair) → Each (λ o. occurs z (under v (tm_of o.left)) ≡ false) ps → in_rights ps z ≡ true → in_rights (from_first v ps) z ≡ true
first-rights v z s [] h e = e
first-rights v z s (o ∷ ps) h e = by (or_cases (occurs z (tm_of o.right)) (in_rights ps z) e) (first-rights v z s ps h.1)
  where
    by : (occurs z (tm_of o.right) ≡ true) ⊎ (in_rights ps z ≡ true) → (in_rights ps z ≡ true → in_rights (from_first v ps) z ≡ true)
        → in_rights (in_front (pairs_of (under v (tm_of o.left)) (under v (tm_of o.right))) ps (from_first v ps)) z ≡ true
    by (inl f) rec =
        front-left (pairs_of (under v (tm_of o.left)) (under v (tm_of o.right))) ps (from_first v ps) z
        (kept-right z (under v (tm_of o.left)) (under v (tm_of o.right)) (occurs-under v z s (tm_of o.right) f) h.0)
    by (inr f) rec = front-right (pairs_of (under v (tm_of o.left)) (under v (tm_of o.right))) ps (from_first v ps) z f (rec f)

-- what holds of the sides of the first pair, as it reads
pub first-both : (P Q : ℕ → Type 0) (v : Sub) (ps : List Pair) → Each (λ o. EachVar P (under v (tm_of o.left)) × EachVar Q (under v (tm_of o.right))) ps → First (Both P Q) (from_first v ps)
first-both P Q v [] h = tt
first-both P Q v (o ∷ ps) h = by (pairs_of (under v (tm_of o.left)) (under v (tm_of o.right))) (pairs-both P Q (under v (tm_of o.left)) (under v (tm_of o.right)) h.0.0 h.0.1) (first-both P Q v ps h.1)
  where
    by : (qs : List Pair) → Each (Both P Q) qs → First (Both P Q) (from_first v ps) → First (Both P Q) (in_front qs ps (from_first v ps))
    by [] k l = l
    by (q ∷ qs) k l = k.0

-- ---- the head of a rule

counted-all : (p : ℕ → Bool) (k n z : ℕ) → list_all p (count_from k n) ≡ true → k ≤ z → z < k + n → p z ≡ true
counted-all p k zero z e l m = absurd (omega (arith, l, m))
counted-all p k (suc n) z e l m = by (nat_eq z k) refl (λ other. counted-all p (suc k) n z q.1 other (omega (arith, m)))
  where
    q : (p k ≡ true) × (list_all p (count_from (suc k) n) ≡ true)
    q = and_parts (p k) (list_all p (count_from (suc k) n)) e

    by : (b : Bool) → nat_eq z k ≡ b → (suc k ≤ z → p z ≡ true) → p z ≡ true
    by true f rec = ap p (eqb-true z k f) ∙ q.0
    by false f rec = let d : z ≢ k = eqb-false z k f in rec (omega (arith, l, d))

-- the rule's head has as many arguments as the atom, and each variable of the rule
pub record Covers (p : Program) (a : Atom) (k : ℕ) : Type 0 where
  pub many : (first : ℕ) → length (items a.args) ≡ length (items (head_args p k first))
  pub all : (first z : ℕ) → first ≤ z → z < first + vars_of_clause p k → occurs_among z (head_args p k first) ≡ true

mutual
  occurs-raised : (by x : ℕ) (t : Tm) → occurs x t ≡ true → occurs (x + by) (under (raised by) t) ≡ true
  occurs-raised by x (var y) e = eq-eqb (x + by) (y + by) (ap (λ (z : ℕ). z + by) (eqb-true x y e))
  occurs-raised by x (num q) e = absurd (true≢false (sym e))
  occurs-raised by x (app f ts) e = occurs-all-raised by x ts e

  occurs-all-raised : (by x : ℕ) (ts : Tms) → occurs_among x ts ≡ true → occurs_among (x + by) (all_under (raised by) ts) ≡ true
  occurs-all-raised by x nil e = absurd (true≢false (sym e))
  occurs-all-raised by x (cons t ts) e = among-under (occurs x t) (occurs_among x ts) (occurs (x + by) (under (raised by) t)) (occurs_among (x + by) (all_under (raised by) ts)) (occurs-raised by x t) (occurs-all-raised by x ts) e

-- a clause with this head
covers-clause : (p : Program) (a : Atom) (k : ℕ) (c : Clause) → numbered p.clauses k ≡ Some c → is_rule_of (pred_of a) c ≡ true → is_headed c ≡ true → Covers p a k
covers-clause p a k c e f g = by c.head refl
  where
    by : (o : Option Atom) → c.head ≡ o → Covers p a k
    by None d = absurd (true≢false (sym (sym (ap (λ (o : Option Atom). is_rule_of (pred_of a) (record c { head = o })) d) ∙ f)))
    by (Some h) d = record { many = many; all = all }
      where
        same : same_pred (pred_of a) (pred_of h) ≡ true
        same = sym (ap (λ (o : Option Atom). is_rule_of (pred_of a) (record c { head = o })) d) ∙ f

        arity : length (items a.args) ≡ length (items h.args)
        arity =
            eqb-true (length (items a.args)) (length (items h.args))
            (and_parts (same_bool a.minus h.minus && nat_eq a.name h.name) (nat_eq (length (items a.args)) (length (items h.args))) same).1

        args : (first : ℕ) → head_args p k first ≡ all_under (raised first) h.args
        args first = ap (λ (o : Option Clause). all_under (raised first) (args_in o)) e ∙ ap (λ (o : Option Atom). all_under (raised first) (args_in (Some (record c { head = o })))) d

        vars : vars_of_clause p k ≡ c.vars
        vars = ap vars_in e

        many : (first : ℕ) → length (items a.args) ≡ length (items (head_args p k first))
        many first = arity ∙ sym (all_under-length (raised first) h.args) ∙ ap (λ (ts : Tms). length (items ts)) (sym (args first))

        one : (x : ℕ) → x < c.vars → occurs_among x h.args ≡ true
        one x l = ap (stands_in x) (sym d) ∙ counted-all (λ (y : ℕ). stands_in y c.head) 0 c.vars x g (omega arith) (omega (arith, l))

        all : (first z : ℕ) → first ≤ z → z < first + vars_of_clause p k → occurs_among z (head_args p k first) ≡ true
        all first z l m =
            let same : (z - first) + first ≡ z = omega (arith, l) in
            ap (occurs_among z) (args first) ∙ ap (λ (y : ℕ). occurs_among y (all_under (raised first) h.args)) (sym same)
            ∙ occurs-all-raised first (z - first) h.args (one (z - first) (omega (arith, l, m, vars)))

rules-cover : (p : Program) (a : Atom) (before cs : List Clause) → p.clauses ≡ before ++ cs → list_all is_headed cs ≡ true → Each (Covers p a) (rules_from (length before + 1) cs (pred_of a))
rules-cover p a before [] e h = tt
rules-cover p a before (c ∷ cs) e h =
    by (is_rule_of (pred_of a) c) refl
    (subst (λ (n : ℕ). Each (Covers p a) (rules_from n cs (pred_of a))) next (rules-cover p a (before ++ c ∷ []) cs (e ∙ sym (append_assoc before (c ∷ []) cs)) q.1))
  where
    q : (is_headed c ≡ true) × (list_all is_headed cs ≡ true)
    q = and_parts (is_headed c) (list_all is_headed cs) h

    next : length (before ++ c ∷ []) + 1 ≡ (length before + 1) + 1
    next = ap (λ (n : ℕ). n + 1) (length-append before (c ∷ []))

    here : numbered p.clauses (length before + 1) ≡ Some c
    here = ap (numbered p.clauses) plus ∙ ap (λ (ds : List Clause). slice_get ds (length before)) e ∙ got before
      where
        plus : length before + 1 ≡ suc (length before)
        plus = omega arith

        got : (xs : List Clause) → slice_get (xs ++ c ∷ cs) (length xs) ≡ Some c
        got [] = refl
        got (x ∷ xs) = got xs

    by : (b : Bool) → is_rule_of (pred_of a) c ≡ b → Each (Covers p a) (rules_from ((length before + 1) + 1) cs (pred_of a))
        → Each (Covers p a) (if b then (length before + 1) ∷ rules_from ((length before + 1) + 1) cs (pred_of a) else rules_from ((length before + 1) + 1) cs (pred_of a))
    by true f r = (covers-clause p a (length before + 1) c here f q.0, r)
    by false f r = r

-- of each rule of a headed program
pub headed-covers : (p : Program) (a : Atom) → list_all is_headed p.clauses ≡ true → Each (Covers p a) (rules_of p (pred_of a))
headed-covers p a h = rules-cover p a [] p.clauses refl h
