-- States over literals without arguments.
use Rattle.std.specs.Prelude.{◌≡◌, ⊤, ℕ, suc, ◌+◌, ◌<◌, nat_eq, Bool, true, false, ◌&&◌, ◌||◌, not, if◌then◌else◌, Some, List, [], ◌∷◌, ◌++◌, map, reverse, slice_get, length, Contains}
use Rattle.std.specs.List.{list_any, flat_map}
use Rattle.std.proofs.Common.{◌∙◌, refl, ap, sym, subst, arith, inl, inr}
use Rattle.std.proofs.lemmas.Bool.{and_parts}
use Rattle.std.proofs.lemmas.Bool.Decides.{Decides-eqb}
use Rattle.std.proofs.lemmas.Grind.{flat_map-append}
use Rattle.std.proofs.lemmas.List.{append-nil, reverse-append, length-append}
use Rattle.std.proofs.lemmas.List.Elements.{Contains-append_left, Contains-append_right}
use Rattle.scasp_list.specs.Each.{Each}
use Rattle.scasp_list.proofs.EachLemmas.{Each-append}
use Rattle.scasp_list.proofs.MemberLemmas.{Contains-none, Contains-cases, Contains-here}
use Rattle.scasp_checker_rules.proofs.TestLemmas.{bool_decided}
use Rattle.scasp_lines.proofs.PartLemmas.{nat-self}
use Rattle.scasp_search_rules.specs.declared.states.covers.Cover.{Cover}
use Rattle.scasp_search_rules.specs.declared.states.lines.Line.{Line}
use Rattle.scasp_search_rules.specs.declared.states.lines.Line.TheVariants as line
use Rattle.scasp_search_rules.specs.declared.states.outcomes.Repeated.{Repeated}
use Rattle.scasp_search_rules.specs.declared.states.state.Literal.{Literal}
use Rattle.scasp_search_rules.specs.declared.states.state.State.{State}
use Rattle.scasp_search_rules.specs.declared.states.tasks.Aim.TheVariants as aims
use Rattle.scasp_search_rules.specs.declared.states.tasks.Task.{Task}
use Rattle.scasp_search_rules.specs.declared.states.tasks.Task.TheVariants as task
use Rattle.scasp_search_rules.specs.Successors.Calls.{lit_under, is_same, nearest, at_number, looping, finished}
use Rattle.scasp_search_rules.specs.Successors.Cases.{kept_literal, line_under}
use Rattle.scasp_search_rules.specs.Successors.Items.{item_raised}
use Rattle.scasp_search_rules.specs.Successors.Reading.{among}
use Rattle.scasp_search_rules.specs.Successors.Regions.{regions}
use Rattle.scasp_search_rules.specs.Successors.Variables.{meaning}
use Rattle.scasp_syntax.specs.Programs.{numbered, pred_of, rules_from, is_rule_of}
use Rattle.scasp_syntax.specs.Same.{same_lit, same_bool, same_pred}
use Rattle.scasp_syntax.specs.Tm.{Tms, nil, items}
use Rattle.scasp_syntax.specs.Values.{Sub, all_under, raised}
use Rattle.scasp_syntax.specs.declared.atom.Atom.{Atom}
use Rattle.scasp_syntax.specs.declared.atom.Lit.{Lit}
use Rattle.scasp_syntax.specs.declared.atom.Pred.{Pred}
use Rattle.scasp_syntax.specs.declared.clause.Clause.{Clause}
use Rattle.scasp_syntax.specs.declared.clause.FlatItem.{FlatItem}
use Rattle.scasp_syntax.specs.declared.clause.FlatItem.TheVariants as flat
use Rattle.scasp_syntax.proofs.SameLemmas.{lit_decided}
use Rattle.scasp_unify.specs.Unification.{terms_vars}
use Rattle.scasp_law_propositional.proofs.PropositionalLemmas.Counting.{apart-above, apart-below}
use Rattle.scasp_law_propositional.proofs.PropositionalLemmas.Plains.{atom-kept, IsPlain}
use Rattle.scasp_law_propositional.proofs.PropositionalLemmas.Shapes.{IsClause}
use Rattle.scasp_law_propositional.proofs.PropositionalLemmas.Views.{opens, first_with, Numbered, is_negative}

-- ---- what is plain

abbrev pub PlainLine : Line → Type 0
PlainLine (line.Pos a k ts n) = (a.args ≡ nil) × (ts ≡ nil)
PlainLine (line.Neg a n) = a.args ≡ nil
PlainLine (line.Loop l n) = l.atom.args ≡ nil
PlainLine (line.Seen l n) = l.atom.args ≡ nil
PlainLine (line.Rule a k first) = a.args ≡ nil
PlainLine (line.Check k first) = ⊤
PlainLine (line.Leaf n) = ⊤
PlainLine (line.Head n) = ⊤
PlainLine l = ⊥

pub record PlainLiteral (a : Literal) : Type 0 where
  pub no_argument : a.lit.atom.args ≡ nil
  pub special : a.is_general ≡ false

pub record PlainCover (c : Cover) : Type 0 where
  pub region : c.region ≡ []
  pub waiting : c.waiting ≡ []
  pub universals : c.universals ≡ []
  pub before : Each PlainLine c.before

abbrev pub PlainTask : List Clause → Task → Type 0
PlainTask cs (task.Show i) = IsPlain i
PlainTask cs (task.Cover a k) = (a.args ≡ nil) × IsClause cs k
PlainTask cs (task.Differ ps (aims.Head k first)) = (ps ≡ []) × IsClause cs k
PlainTask cs (task.Begin k first h) = (h ≡ false) × IsClause cs k
PlainTask cs (task.Check k h) = IsClause cs k
PlainTask cs task.Leave = ⊤
PlainTask cs task.Close = ⊤
PlainTask cs t = ⊥

-- the covers, the literals, the lines and the work of a plain state
pub record PlainParts (cs : List Clause) (ds : List Cover) (lits : List Literal) (ls : List Line) (ts : List Task) : Type 0 where
  pub covers : Each PlainCover ds
  pub literals : Each PlainLiteral lits
  pub lines : Each PlainLine ls
  pub work : Each (PlainTask cs) ts

-- without variables, bindings and constraints
abbrev pub bare : List Cover → ℕ → List Literal → List Line → List Task → State
bare covers cases lits ls work =
    record { made = []; bound = []; given = []; covers = covers; cases = cases; literals = lits; lines = ls; work = work }

pub record Plain (cs : List Clause) (s : State) : Type 0 where
  pub is_bare : s ≡ bare s.covers s.cases s.literals s.lines s.work
  pub parts : PlainParts cs s.covers s.literals s.lines s.work

-- ---- what stays as it is

pub lit-kept : (s : State) (l : Lit) → l.atom.args ≡ nil → lit_under s l ≡ l
lit-kept s l e = ap (λ (a : Atom). record { positive = l.positive; atom = a }) (atom-kept (meaning s) l.atom e)

pub none-under : (m : Sub) (ts : Tms) → ts ≡ nil → all_under m ts ≡ ts
none-under m ts e = ap (all_under m) e ∙ sym e

pub line-kept : (s : State) (l : Line) → PlainLine l → line_under s l ≡ l
line-kept s (line.Pos a k ts n) h = λ i. line.Pos (atom-kept (meaning s) a h.0 i) k (none-under (meaning s) ts h.1 i) n
line-kept s (line.Neg a n) h = ap (λ (z : Atom). line.Neg z n) (atom-kept (meaning s) a h)
line-kept s (line.Loop l n) h = ap (λ (z : Lit). line.Loop z n) (lit-kept s l h)
line-kept s (line.Seen l n) h = ap (λ (z : Lit). line.Seen z n) (lit-kept s l h)
line-kept s (line.Rule a k first) h = ap (λ (z : Atom). line.Rule z k first) (atom-kept (meaning s) a h)
line-kept s (line.Check k first) h = refl
line-kept s (line.Leaf n) h = refl
line-kept s (line.Head n) h = refl
line-kept s l h = absurd h

pub lines-kept : (s : State) (ls : List Line) → Each PlainLine ls → map (line_under s) ls ≡ ls
lines-kept s [] h = refl
lines-kept s (l ∷ ls) h = λ i. line-kept s l h.0 i ∷ lines-kept s ls h.1 i

no-universal : (us : List ℕ) (ts : Tms) → ts ≡ nil → list_any (λ x. among x us) (terms_vars ts) ≡ false
no-universal us ts e = ap (λ (z : Tms). list_any (λ x. among x us) (terms_vars z)) e

or-false : (b : Bool) → (b || false) ≡ b
or-false true = refl
or-false false = refl

literal-kept : (s : State) (us : List ℕ) (a : Literal) → PlainLiteral a → kept_literal s us a ≡ a
literal-kept s us a h =
    let l : lit_under s a.lit ≡ a.lit = lit-kept s a.lit h.no_argument in
    let none : list_any (λ x. among x us) (terms_vars (lit_under s a.lit).atom.args) ≡ false =
    no-universal us (lit_under s a.lit).atom.args (ap (λ (z : Lit). z.atom.args) l ∙ h.no_argument) in
    let same : (a.is_general || list_any (λ x. among x us) (terms_vars (lit_under s a.lit).atom.args)) ≡ a.is_general =
    ap (λ (z : Bool). a.is_general || z) none ∙ or-false a.is_general in
    λ i. record a { lit = l i; is_general = same i }

pub literals-kept : (s : State) (us : List ℕ) (lits : List Literal) → Each PlainLiteral lits → map (kept_literal s us) lits ≡ lits
literals-kept s us [] h = refl
literals-kept s us (a ∷ lits) h = λ i. literal-kept s us a h.0 i ∷ literals-kept s us lits h.1 i

pub items-kept : (n : ℕ) (is : List FlatItem) → Each IsPlain is → map (item_raised n) is ≡ is
items-kept n [] h = refl
items-kept n (flat.Call l ∷ is) h =
    λ i. flat.Call (record { positive = l.positive; atom = atom-kept (raised n) l.atom h.0 i }) ∷ items-kept n is h.1 i
items-kept n (flat.Test c ∷ is) h = absurd h.0

-- no region says anything
pub regions-none : (covers : List Cover) → Each PlainCover covers → regions covers ≡ []
regions-none [] h = refl
regions-none (c ∷ covers) h =
    ap (flat_map (λ (d : Cover). d.region)) (reverse-append (c ∷ []) covers) ∙ flat_map-append (λ (d : Cover). d.region) (reverse covers) (c ∷ [])
    ∙ ap (λ (z : List _). z ++ (c.region ++ [])) (regions-none covers h.1) ∙ append-nil c.region ∙ h.0.region

-- ---- rules

pub same-head : (a b : Atom) → a.args ≡ nil → b.args ≡ nil → same_pred (pred_of a) (pred_of b) ≡ true → b ≡ a
same-head a b e f h =
    let p = and_parts (same_bool a.minus b.minus && nat_eq a.name b.name) (nat_eq (length (items a.args)) (length (items b.args))) h in
    let q = and_parts (same_bool a.minus b.minus) (nat_eq a.name b.name) p.0 in
    let minus : a.minus ≡ b.minus = (bool_decided a.minus b.minus).0 q.0 in
    let name : a.name ≡ b.name = (Decides-eqb a.name b.name).0 q.1 in
    let args : b.args ≡ a.args = f ∙ sym e in
    λ i. record { minus = sym minus i; name = sym name i; args = args i }

-- the clause of this number is a rule of the predicate
pub record IsRule (cs : List Clause) (p : Pred) (k : ℕ) : Type 0 where
  pub clause : Clause
  pub named : numbered cs k ≡ Some clause
  pub rule : is_rule_of p clause ≡ true

pub rules-from : (cs : List Clause) (p : Pred) (n : ℕ) (ds : List Clause) → ((k : ℕ) (c : Clause) → slice_get ds k ≡ Some c → numbered cs (n + k) ≡ Some c)
    → Each (IsRule cs p) (rules_from n ds p)
rules-from cs p n [] h = tt
rules-from cs p n (c ∷ ds) h =
    by (is_rule_of p c) refl (rules-from cs p (n + 1) ds (λ k d e. subst (λ (m : ℕ). numbered cs m ≡ Some d) (omega arith) (h (suc k) d e)))
  where
    here : numbered cs n ≡ Some c
    here = subst (λ (m : ℕ). numbered cs m ≡ Some c) (omega arith) (h 0 c refl)

    by : (b : Bool) → is_rule_of p c ≡ b → Each (IsRule cs p) (rules_from (n + 1) ds p)
        → Each (IsRule cs p) (if b then n ∷ rules_from (n + 1) ds p else rules_from (n + 1) ds p)
    by true e k = (record { clause = c; named = here; rule = e }, k)
    by false e k = k

pub all-rules : (cs : List Clause) (p : Pred) → Each (IsRule cs p) (rules_from 1 cs p)
all-rules cs p = rules-from cs p 1 cs (λ k c e. (
    let next : suc k ≡ 1 + k = omega arith in subst (λ (m : ℕ). numbered cs m ≡ Some c) next e
    ))

-- ---- the nearest literal above

pub record IsNearest (l : Lit) (passed : Bool) (lits : List Literal) (r : Repeated) : Type 0 where
  pub inner : List Literal
  pub one : Literal
  pub outer : List Literal
  pub among : lits ≡ inner ++ one ∷ outer
  pub same : one.lit ≡ l
  pub number : r.number ≡ one.number
  pub crosses : r.is_behind_negation ≡ (passed || list_any is_negative inner)

or-assoc : (a b c : Bool) → ((a || b) || c) ≡ (a || (b || c))
or-assoc true b c = refl
or-assoc false b c = refl

pub same-literal : (s : State) (l : Lit) (a : Literal) → l.atom.args ≡ nil → PlainLiteral a → is_same s l a ≡ true → a.lit ≡ l
same-literal s l a e h k =
    let p = and_parts (not a.is_general) (same_lit (lit_under s a.lit) (lit_under s l)) k in
    sym (lit-kept s a.lit h.no_argument) ∙ (lit_decided (lit_under s a.lit) (lit_under s l)).0 p.1 ∙ lit-kept s l e

pub nearest-is : (s : State) (l : Lit) → l.atom.args ≡ nil → (passed : Bool) (lits : List Literal) → Each PlainLiteral lits → (r : Repeated)
    → nearest s l passed lits ≡ Some r → IsNearest l passed lits r
nearest-is s l e passed [] h r k = absurd (cc k)
nearest-is s l e passed (a ∷ lits) h r k =
    by (is_same s l a) refl k (λ f. nearest-is s l e (passed || not a.lit.positive) lits h.1 r f)
  where
    by : (b : Bool) → is_same s l a ≡ b
        → (if b then Some (record { number = a.number; is_behind_negation = passed }) else nearest s l (passed || not a.lit.positive) lits) ≡ Some r
        → (nearest s l (passed || not a.lit.positive) lits ≡ Some r → IsNearest l (passed || not a.lit.positive) lits r) → IsNearest l passed (a ∷ lits) r
    by true q f later =
        let is : record { number = a.number; is_behind_negation = passed } ≡ r = cc f in
        record {
          inner = [];
          one = a;
          outer = lits;
          among = refl;
          same = same-literal s l a e h.0 q;
          number = ap (λ (z : Repeated). z.number) (sym is);
          crosses = ap (λ (z : Repeated). z.is_behind_negation) (sym is) ∙ sym (or-false passed);
        }
    by false q f later =
        let n = later f in
        record {
          inner = a ∷ n.inner;
          one = n.one;
          outer = n.outer;
          among = ap (λ (z : List Literal). a ∷ z) n.among;
          same = n.same;
          number = n.number;
          crosses = n.crosses ∙ or-assoc passed (not a.lit.positive) (list_any is_negative n.inner);
        }

-- ---- the innermost literal changed

number-append : (n : ℕ) (f : Literal → Literal) (xs ys : List Literal) → at_number n f (xs ++ ys) ≡ at_number n f xs ++ at_number n f ys
number-append n f [] ys = refl
number-append n f (x ∷ xs) ys = ap (λ (z : List Literal). (if nat_eq x.number n then f x else x) ∷ z) (number-append n f xs ys)

pub number-reverse : (n : ℕ) (f : Literal → Literal) (xs : List Literal) → reverse (at_number n f xs) ≡ at_number n f (reverse xs)
number-reverse n f [] = refl
number-reverse n f (x ∷ xs) =
    let y : Literal = if nat_eq x.number n then f x else x in
    reverse-append (y ∷ []) (at_number n f xs) ∙ ap (λ (z : List Literal). z ++ y ∷ []) (number-reverse n f xs)
    ∙ sym (number-append n f (reverse xs) (x ∷ [])) ∙ ap (at_number n f) (sym (reverse-append (x ∷ []) xs))

-- none of these has so high a number
number-above : (n k : ℕ) (f : Literal → Literal) (lits : List Literal) → Numbered n lits → n < suc k → at_number k f lits ≡ lits
number-above n k f [] h e = refl
number-above n k f (a ∷ lits) h e =
    let first = h.0 in
    let less : a.number < k = omega (arith, first, e) in
    let more : a.number < suc k = omega (arith, less) in
    let other : nat_eq a.number k ≡ false = apart-below a.number k less in
    λ i. (if other i then f a else a) ∷ number-above a.number k f lits h.1 more i

open-below : (n : ℕ) (lits : List Literal) (a : Literal) (rest : List Literal) → Numbered n lits → opens lits ≡ a ∷ rest → a.number < n
open-below n [] a rest h e = absurd (cc e)
open-below n (x ∷ lits) a rest h e = by x.is_done refl (λ o. open-below x.number lits a rest h.1 o)
  where
    first : n ≡ suc x.number
    first = h.0

    by : (b : Bool) → x.is_done ≡ b → (opens lits ≡ a ∷ rest → a.number < x.number) → a.number < n
    by true d k =
        let less = k (sym (ap (λ (z : Bool). if not z then x ∷ opens lits else opens lits) d) ∙ e) in omega (arith, less, first)
    by false d k =
        let all : x ∷ opens lits ≡ a ∷ rest = sym (ap (λ (z : Bool). if not z then x ∷ opens lits else opens lits) d) ∙ e in
        let same : x ≡ a = cc all in
        let number : x.number ≡ a.number = ap (λ (z : Literal). z.number) same in omega (arith, number, first)

pub number-first : (f : Literal → Literal) (n : ℕ) (lits : List Literal) (a : Literal) (rest : List Literal) → Numbered n lits → opens lits ≡ a ∷ rest
    → at_number a.number f lits ≡ first_with f lits
number-first f n [] a rest h e = absurd (cc e)
number-first f n (x ∷ lits) a rest h e = by x.is_done refl (λ o. number-first f x.number lits a rest h.1 o)
  where
    by : (b : Bool) → x.is_done ≡ b → (opens lits ≡ a ∷ rest → at_number a.number f lits ≡ first_with f lits)
        → (if nat_eq x.number a.number then f x else x) ∷ at_number a.number f lits ≡ (if b then x ∷ first_with f lits else f x ∷ lits)
    by true d k =
        let o : opens lits ≡ a ∷ rest = sym (ap (λ (z : Bool). if not z then x ∷ opens lits else opens lits) d) ∙ e in
        let other : nat_eq x.number a.number ≡ false = apart-above x.number a.number (open-below x.number lits a rest h.1 o) in
        λ i. (if other i then f x else x) ∷ k o i
    by false d k =
        let all : x ∷ opens lits ≡ a ∷ rest = sym (ap (λ (z : Bool). if not z then x ∷ opens lits else opens lits) d) ∙ e in
        let same : x ≡ a = cc all in
        let number : x.number ≡ a.number = ap (λ (z : Literal). z.number) same in
        let here : nat_eq x.number a.number ≡ true = ap (λ (z : ℕ). nat_eq z a.number) number ∙ nat-self a.number in
        let others : at_number a.number f lits ≡ lits = number-above x.number a.number f lits h.1 (omega (arith, number)) in
        λ i. (if here i then f x else x) ∷ others i

pub number-plain : (n : ℕ) (f : Literal → Literal) → ((a : Literal) → PlainLiteral a → PlainLiteral (f a)) → (lits : List Literal) → Each PlainLiteral lits
    → Each PlainLiteral (at_number n f lits)
number-plain n f k [] h = tt
number-plain n f k (a ∷ lits) h = (by (nat_eq a.number n), number-plain n f k lits h.1)
  where
    by : (b : Bool) → PlainLiteral (if b then f a else a)
    by true = k a h.0
    by false = h.0

pub looping-plain : (a : Literal) → PlainLiteral a → PlainLiteral (looping a)
looping-plain a h = record { no_argument = h.no_argument; special = h.special }

pub finished-plain : (a : Literal) → PlainLiteral a → PlainLiteral (finished a)
finished-plain a h = record { no_argument = h.no_argument; special = h.special }

-- ---- lists

pub each-reverse : {A : Type 0} (P : A → Type 0) (xs : List A) → Each P xs → Each P (reverse xs)
each-reverse P [] h = tt
each-reverse P (x ∷ xs) h =
    subst (Each P) (sym (reverse-append (x ∷ []) xs)) (Each-append P (reverse xs) (x ∷ []) (each-reverse P xs h.1) (h.0, tt))

pub contains-reverse : {A : Type 0} (xs : List A) (x : A) → Contains xs x → Contains (reverse xs) x
contains-reverse [] x h = absurd (Contains-none x h)
contains-reverse (y ∷ xs) x h =
    subst (λ z. Contains z x) (sym (reverse-append (y ∷ []) xs)) (elim (Contains-cases y xs x h) [
      | inl e ↦ Contains-append_right (reverse xs) (y ∷ []) x (subst (λ z. Contains (z ∷ []) x) (sym e) (Contains-here x []))
      | inr k ↦ Contains-append_left (reverse xs) (y ∷ []) x (contains-reverse xs x k)
    ])

pub length-reversed : {A : Type 0} (xs : List A) → length (reverse xs) ≡ length xs
length-reversed [] = refl
length-reversed (x ∷ xs) =
    let long = length-append (reverse xs) (x ∷ []) in
    let less = length-reversed xs in
    ap length (reverse-append (x ∷ []) xs) ∙ omega (arith, long, less)

pub reverse-one : {A : Type 0} (xs : List A) (x : A) → reverse (xs ++ x ∷ []) ≡ x ∷ reverse xs
reverse-one xs x = reverse-append xs (x ∷ [])
