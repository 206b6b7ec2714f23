-- Plans are filled clause by clause.
use Rattle.std.proofs.Common.{◌≡◌, ◌≢◌, ◌∙◌, ◌∷◌, ◌++◌, ℕ, zero, suc, ◌+◌, ◌<◌, true, false, List, [], length, get_or, map, Option, Some, None, slice_get, refl, ap, sym, subst, inl, inr, arith, append_assoc, get_or-set_same, get_or-set_other}
use Rattle.std.specs.List.{flat_map}
use Rattle.std.proofs.lemmas.Bool.{cases_Bool, cond-true, cond-false, or_left, or_right}
use Rattle.std.proofs.lemmas.List.{append-nil, ext_get_or, get_or-map, length-map, length-set}
use Rattle.std.proofs.lemmas.List.Folds.{list_any-append}
use Rattle.scasp_syntax.specs.Programs.{pred_of, is_rule_of, body_preds, clause_preds, head_preds, predicates}
use Rattle.scasp_syntax.specs.Same.{same_pred}
use Rattle.scasp_syntax.specs.declared.atom.Atom.{Atom}
use Rattle.scasp_syntax.specs.declared.atom.Pred.{Pred}
use Rattle.scasp_syntax.specs.declared.clause.Clause.{Clause}
use Rattle.scasp_syntax.specs.declared.clause.Query.{Query}
use Rattle.scasp_syntax.specs.declared.program.Program.{Program}
use Rattle.scasp_graph.specs.Numbering.{place_in}
use Rattle.scasp_graph.proofs.GraphLemmas.{same_or_not}
use Rattle.scasp_graph.proofs.NumberingLemmas.{among, among-first, are_distinct, distinct-first, no_pred, pred_at, place-below, place-at}
use Rattle.scasp_graph.proofs.PredLemmas.{pred_is, pred_same}
use Rattle.scasp_dual.specs.Inside.Filling.{HasPlace, empty_plan, plan_at, longer, with_rule}
use Rattle.scasp_dual.specs.Plans.{rule_plan, rule_plans_from, plan_of, plans}
use Rattle.scasp_dual.specs.declared.plans.Plan.{Plan}

-- each plan has the rules of its predicate but for those among the rest of the clauses, which are numbered from n
pub record Filled (clauses : List Clause) (preds : List Pred) (made : List Plan) (n : ℕ) (rest : List Clause) : Type 0 where
  pub sized : length made ≡ length preds
  pub named : (i : ℕ) → i < length preds → (plan_at made i).pred ≡ pred_at preds i
  pub filled : (i : ℕ) → i < length preds → (plan_at made i).rules ++ rule_plans_from n rest (pred_at preds i) ≡ rule_plans_from 1 clauses (pred_at preds i)

pub filled-none : (clauses : List Clause) (preds : List Pred) (made : List Plan) → made ≡ map empty_plan preds → Filled clauses preds made 1 clauses
filled-none clauses preds made e =
    record {
      sized = ap length e ∙ length-map preds empty_plan;
      named = λ i h. ap (λ (p : Plan). p.pred) (here i h);
      filled = λ i h. ap (λ (p : Plan). p.rules ++ rule_plans_from 1 clauses (pred_at preds i)) (here i h);
    }
  where
    here : (i : ℕ) → i < length preds → plan_at made i ≡ empty_plan (pred_at preds i)
    here i h = ap (λ z. plan_at z i) e ∙ get_or-map empty_plan preds i no_pred (empty_plan no_pred) h

-- a denial is a rule of no predicate
filled-denial : (clauses : List Clause) (preds : List Pred) (made : List Plan) (n : ℕ) (c : Clause) (rest : List Clause) → Filled clauses preds made n (c ∷ rest) → c.head ≡ None → Filled clauses preds made (n + 1) rest
filled-denial clauses preds made n c rest f e =
    record {
      sized = f.sized;
      named = f.named;
      filled = λ i h. ap (λ z. (plan_at made i).rules ++ z) (sym (skipped (pred_at preds i))) ∙ f.filled i h;
    }
  where
    no-rule : (p : Pred) (o : Option Atom) → o ≡ None → is_rule_of p (record { head = o; body = c.body; vars = c.vars }) ≡ false
    no-rule p None h = refl
    no-rule p (Some a) h = cc

    skipped : (p : Pred) → rule_plans_from n (c ∷ rest) p ≡ rule_plans_from (n + 1) rest p
    skipped p = cond-false (is_rule_of p c) (rule_plan n c ∷ rule_plans_from (n + 1) rest p) (rule_plans_from (n + 1) rest p) (no-rule p c.head e)

-- a rule goes to the plan of its predicate
filled-rule : (clauses : List Clause) (preds : List Pred) (made : List Plan) (n : ℕ) (c : Clause) (a : Atom) (rest : List Clause) → are_distinct preds ≡ true → among preds (pred_of a) ≡ true → Filled clauses preds made n (c ∷ rest) → c.head ≡ Some a → Filled clauses preds (with_rule preds made n c.body (Some a)) (n + 1) rest
filled-rule clauses preds made n c a rest distinct m f e =
    record {
      sized = length-set made place longest ∙ f.sized;
      named =
          λ i h.
          elim (same_or_not i place) [
            | inl s ↦ ap (λ (p : Plan). p.pred) (here i s) ∙ ap (λ z. (plan_at made z).pred) (sym s) ∙ f.named i h
            | inr d ↦ ap (λ (p : Plan). p.pred) (other i d) ∙ f.named i h
          ];
      filled =
          λ i h.
          elim (same_or_not i place) [
            | inl s ↦
                (let p : pred_at preds i ≡ pred_of a = ap (pred_at preds) s ∙ below.1 in
                ap (λ (q : Plan). q.rules ++ rule_plans_from (n + 1) rest (pred_at preds i)) (here i s)
                ∙ append_assoc (plan_at made place).rules (rule_plan n c ∷ []) (rule_plans_from (n + 1) rest (pred_at preds i))
                ∙ ap (λ z. (plan_at made z).rules ++ (rule_plan n c ∷ rule_plans_from (n + 1) rest (pred_at preds i))) (sym s)
                ∙ ap (λ z. (plan_at made i).rules ++ z) (sym (taken (pred_at preds i) p)) ∙ f.filled i h)
            | inr d ↦
                ap (λ (q : Plan). q.rules ++ rule_plans_from (n + 1) rest (pred_at preds i)) (other i d)
                ∙ ap (λ z. (plan_at made i).rules ++ z) (sym (skipped (pred_at preds i) (unlike i h d))) ∙ f.filled i h
          ];
    }
  where
    place : ℕ
    place = place_in preds (pred_of a)

    below : (place_in preds (pred_of a) < length preds) × (pred_at preds (place_in preds (pred_of a)) ≡ pred_of a)
    below = place-below preds (pred_of a) m

    longest : Plan
    longest = longer (plan_at made (place_in preds (pred_of a))) (rule_plan n c)

    lt : place_in preds (pred_of a) < length made
    lt = let s = f.sized in let b = below.0 in omega (arith, s, b)

    here : (i : ℕ) → i ≡ place_in preds (pred_of a) → plan_at (with_rule preds made n c.body (Some a)) i ≡ longer (plan_at made (place_in preds (pred_of a))) (rule_plan n c)
    here i s =
        ap (plan_at (with_rule preds made n c.body (Some a))) s
        ∙ get_or-set_same made (place_in preds (pred_of a)) (longer (plan_at made (place_in preds (pred_of a))) (rule_plan n c)) (empty_plan no_pred) lt

    other : (i : ℕ) → i ≢ place_in preds (pred_of a) → plan_at (with_rule preds made n c.body (Some a)) i ≡ plan_at made i
    other i d = get_or-set_other made (place_in preds (pred_of a)) i (longer (plan_at made (place_in preds (pred_of a))) (rule_plan n c)) (empty_plan no_pred) d

    rule-is : (p : Pred) (o : Option Atom) → o ≡ Some a → is_rule_of p (record { head = o; body = c.body; vars = c.vars }) ≡ same_pred p (pred_of a)
    rule-is p None h = cc
    rule-is p (Some b) h = let k : b ≡ a = cc in ap (λ z. same_pred p (pred_of z)) k

    taken : (p : Pred) → p ≡ pred_of a → rule_plans_from n (c ∷ rest) p ≡ rule_plan n c ∷ rule_plans_from (n + 1) rest p
    taken p h =
        cond-true (is_rule_of p c) (rule_plan n c ∷ rule_plans_from (n + 1) rest p) (rule_plans_from (n + 1) rest p)
        (rule-is p c.head e ∙ ap (λ z. same_pred z (pred_of a)) h ∙ pred_same (pred_of a))

    skipped : (p : Pred) → same_pred p (pred_of a) ≡ false → rule_plans_from n (c ∷ rest) p ≡ rule_plans_from (n + 1) rest p
    skipped p h =
        cond-false (is_rule_of p c) (rule_plan n c ∷ rule_plans_from (n + 1) rest p) (rule_plans_from (n + 1) rest p) (rule-is p c.head e ∙ h)

    unlike : (i : ℕ) → i < length preds → i ≢ place_in preds (pred_of a) → same_pred (pred_at preds i) (pred_of a) ≡ false
    unlike i h d =
        elim (cases_Bool (same_pred (pred_at preds i) (pred_of a))) [
          | inl s ↦ absurd (d (sym (place-at preds i distinct h) ∙ ap (place_in preds) (pred_is (pred_at preds i) (pred_of a) s)))
          | inr s ↦ s
        ]

-- the predicate of a rule's head is among those of the clauses
head-among : (cs : List Clause) (i : ℕ) (c : Clause) (a : Atom) → slice_get cs i ≡ Some c → c.head ≡ Some a → among (flat_map clause_preds cs) (pred_of a) ≡ true
head-among [] i c a s e = cc
head-among (x ∷ xs) zero c a s e =
    let k : x ≡ c = cc in
    let P : Option Atom → Type 0 = λ o. among (head_preds o ++ body_preds x.body) (pred_of a) ≡ true in
    list_any-append (same_pred (pred_of a)) (clause_preds x) (flat_map clause_preds xs)
    ∙ or_left (among (clause_preds x) (pred_of a)) (among (flat_map clause_preds xs) (pred_of a))
    (subst P (sym (ap (λ (z : Clause). z.head) k ∙ e)) (or_left (same_pred (pred_of a) (pred_of a)) (among (body_preds x.body) (pred_of a)) (pred_same (pred_of a))))
head-among (x ∷ xs) (suc i) c a s e =
    list_any-append (same_pred (pred_of a)) (clause_preds x) (flat_map clause_preds xs)
    ∙ or_right (among (clause_preds x) (pred_of a)) (among (flat_map clause_preds xs) (pred_of a)) (head-among xs i c a s e)

pub head-in : (program : Program) (preds : List Pred) (i : ℕ) (c : Clause) (a : Atom) → preds ≡ predicates program → slice_get program.clauses i ≡ Some c → c.head ≡ Some a → among preds (pred_of a) ≡ true
head-in program preds i c a p s e =
    let cs : List Pred = flat_map clause_preds program.clauses in
    let qs : List Pred = flat_map (λ (r : Query). body_preds r.body) program.queries in
    ap (λ z. among z (pred_of a)) p
    ∙ among-first (cs ++ qs) (pred_of a) (list_any-append (same_pred (pred_of a)) cs qs ∙ or_left (among cs (pred_of a)) (among qs (pred_of a)) (head-among program.clauses i c a s e))

pub has-place : (program : Program) (preds : List Pred) (n i : ℕ) (c : Clause) → preds ≡ predicates program → n ≡ length preds → slice_get program.clauses i ≡ Some c → HasPlace preds n c.head
has-place program preds n i c p l s = by c.head refl
  where
    by : (o : Option Atom) → c.head ≡ o → HasPlace preds n o
    by None e = tt
    by (Some a) e = let b = (place-below preds (pred_of a) (head-in program preds i c a p s e)).0 in omega (arith, b, l)

pub filled-more : (program : Program) (preds : List Pred) (made after : List Plan) (n i : ℕ) (c : Clause) (rest : List Clause) → preds ≡ predicates program → slice_get program.clauses i ≡ Some c → Filled program.clauses preds made n (c ∷ rest) → after ≡ with_rule preds made n c.body c.head → Filled program.clauses preds after (n + 1) rest
filled-more program preds made after n i c rest p s f w = subst (λ z. Filled program.clauses preds z (n + 1) rest) (sym w) (by c.head refl)
  where
    distinct : are_distinct preds ≡ true
    distinct = ap are_distinct p ∙ distinct-first (flat_map clause_preds program.clauses ++ flat_map (λ (q : Query). body_preds q.body) program.queries)

    by : (o : Option Atom) → c.head ≡ o → Filled program.clauses preds (with_rule preds made n c.body o) (n + 1) rest
    by None e = filled-denial program.clauses preds made n c rest f e
    by (Some a) e = filled-rule program.clauses preds made n c a rest distinct (head-in program preds i c a p s e) f e

pub filled-all : (program : Program) (preds : List Pred) (made : List Plan) (n : ℕ) (rest : List Clause) → preds ≡ predicates program → rest ≡ [] → Filled program.clauses preds made n rest → made ≡ plans program
filled-all program preds made n rest p e f =
    ext_get_or (empty_plan no_pred) made (map (plan_of program) preds) (f.sized ∙ sym (length-map preds (plan_of program))) each
    ∙ ap (map (plan_of program)) p
  where
    each : (i : ℕ) → i < length made → get_or made i (empty_plan no_pred) ≡ get_or (map (plan_of program) preds) i (empty_plan no_pred)
    each i h =
        let b : i < length preds = let s = f.sized in omega (arith, h, s) in
        let rules : (plan_at made i).rules ≡ rule_plans_from 1 program.clauses (pred_at preds i) =
        sym (ap (λ z. (plan_at made i).rules ++ rule_plans_from n z (pred_at preds i)) e ∙ append-nil (plan_at made i).rules) ∙ f.filled i b in
        (λ j. record { pred = f.named i b j; rules = rules j }) ∙ sym (get_or-map (plan_of program) preds i no_pred (empty_plan no_pred) b)
