-- Literals without arguments: what they are due for, and how a cover of a clause of such literals begins.
use Rattle.std.specs.Prelude.{◌≡◌, ℕ, zero, suc, ◌<◌, nat_eq, Bool, true, false, ◌&&◌, not, Option, Some, None, List, [], ◌∷◌, map, length}
use Rattle.std.specs.List.{list_all}
use Rattle.std.proofs.Common.{◌∙◌, refl, ap, sym, subst, arith}
use Rattle.std.proofs.lemmas.Bool.{and_parts}
use Rattle.std.proofs.lemmas.Bool.Decides.{Decides-eqb}
use Rattle.scasp_list.specs.Each.{Each}
use Rattle.scasp_lines.specs.Bodies.{Body, Inside, inside_rule, inside_check}
use Rattle.scasp_lines.specs.Covers.{value_of}
use Rattle.scasp_lines.specs.Dues.{Due, goal, fact, due_of, dues_until, head_due}
use Rattle.scasp_lines.specs.Places.{Above, Around, Place}
use Rattle.scasp_search_rules.specs.Successors.Cases.{failing_at}
use Rattle.scasp_search_rules.specs.Successors.Items.{opposite_item}
use Rattle.scasp_syntax.specs.Flat.{flat_body}
use Rattle.scasp_syntax.specs.Instances.{atom_under}
use Rattle.scasp_syntax.specs.Same.{same_bool}
use Rattle.scasp_syntax.specs.Tm.{Tms, nil, cons, var}
use Rattle.scasp_syntax.specs.Values.{Sub, all_under}
use Rattle.scasp_syntax.specs.declared.atom.Atom.{Atom}
use Rattle.scasp_syntax.specs.declared.clause.Clause.{Clause}
use Rattle.scasp_syntax.specs.declared.clause.FlatItem.{FlatItem}
use Rattle.scasp_syntax.specs.declared.clause.FlatItem.TheVariants as flat
use Rattle.scasp_syntax.specs.declared.clause.Item.{Item}
use Rattle.scasp_syntax.specs.declared.clause.Item.TheVariants.{Call, Equal, Differ, Linear}
use Rattle.scasp_law_propositional.specs.Propositional.Propositional.{has_no_argument, is_plain_item, is_plain_head, is_plain_clause}

-- ---- atoms and items

pub no-argument : (ts : Tms) → has_no_argument ts ≡ true → ts ≡ nil
no-argument nil e = refl
no-argument (cons t ts) e = cc

pub atom-kept : (m : Sub) (a : Atom) → a.args ≡ nil → atom_under m a ≡ a
atom-kept m a e =
    let same : all_under m a.args ≡ a.args = ap (all_under m) e ∙ sym e in
    λ i. record { minus = a.minus; name = a.name; args = same i }

abbrev pub IsPlain : FlatItem → Type 0
IsPlain (flat.Call l) = l.atom.args ≡ nil
IsPlain (flat.Test c) = ⊥

abbrev pub item_due : FlatItem → Due
item_due (flat.Call l) = goal l
item_due (flat.Test c) = fact None

pub body-plain : (body : List Item) → list_all is_plain_item body ≡ true → Each IsPlain (flat_body body)
body-plain [] e = tt
body-plain (Call l ∷ items) e =
    let p = and_parts (has_no_argument l.atom.args) (list_all is_plain_item items) e in (no-argument l.atom.args p.0, body-plain items p.1)
body-plain (Equal t s ∷ items) e = absurd (cc e)
body-plain (Differ t s ∷ items) e = absurd (cc e)
body-plain (Linear l ∷ items) e = absurd (cc e)

-- ---- clauses

pub record PlainClause (c : Clause) : Type 0 where
  pub head : (a : Atom) → c.head ≡ Some a → a.args ≡ nil
  pub body : Each IsPlain (flat_body c.body)
  pub vars : c.vars ≡ 0

head-plain : (o : Option Atom) → is_plain_head o ≡ true → (a : Atom) → o ≡ Some a → a.args ≡ nil
head-plain None h a e = absurd (cc e)
head-plain (Some b) h a e =
    let same : b ≡ a = cc in subst (λ (z : Atom). z.args ≡ nil) same (no-argument b.args h)

pub clause-plain : (c : Clause) → is_plain_clause c ≡ true → PlainClause c
clause-plain c e =
    let p = and_parts (is_plain_head c.head && list_all is_plain_item c.body) (nat_eq c.vars 0) e in
    let q = and_parts (is_plain_head c.head) (list_all is_plain_item c.body) p.0 in
    record { head = head-plain c.head q.0; body = body-plain c.body q.1; vars = (Decides-eqb c.vars 0).0 p.1 }

-- ---- what is due

same-true : (b : Bool) → same_bool b true ≡ b
same-true true = refl
same-true false = refl

pub due-plain : (m : Sub) (i : FlatItem) → IsPlain i → due_of m true i ≡ item_due i
due-plain m (flat.Call l) e = λ i. goal (record { positive = same-true l.positive i; atom = atom-kept m l.atom e i })
due-plain m (flat.Test c) e = absurd e

pub dues-plain : (m : Sub) (is : List FlatItem) → Each IsPlain is → map (due_of m true) is ≡ map item_due is
dues-plain m [] h = refl
dues-plain m (i ∷ is) h = λ k. due-plain m i h.0 k ∷ dues-plain m is h.1 k

pub head-due : (m : Sub) (a : Atom) → a.args ≡ nil → head_due m (Some a) ≡ map item_due (flat.Call (record { positive = true; atom = a }) ∷ [])
head-due m a e = ap (λ (b : Atom). goal (record { positive = true; atom = b }) ∷ []) (atom-kept m a e)

same-false : (b : Bool) → same_bool b false ≡ not b
same-false true = refl
same-false false = refl

false-due : (m : Sub) (i : FlatItem) → IsPlain i → due_of m false i ≡ item_due (opposite_item i)
false-due m (flat.Call l) e = λ k. goal (record { positive = same-false l.positive k; atom = atom-kept m l.atom e k })
false-due m (flat.Test c) e = absurd e

pub dues-failing : (m : Sub) (j : ℕ) (is : List FlatItem) → Each IsPlain is → dues_until m (suc j) is ≡ map item_due (failing_at j is)
dues-failing m zero [] h = refl
dues-failing m (suc j) [] h = refl
dues-failing m zero (i ∷ is) h = ap (λ (d : Due). d ∷ []) (false-due m i h.0)
dues-failing m (suc j) (i ∷ is) h = λ k. due-plain m i h.0 k ∷ dues-failing m j is h.1 k

pub length-failing : (j : ℕ) (is : List FlatItem) → j < length is → length (failing_at j is) ≡ suc j
length-failing j [] h = absurd (omega (arith, h))
length-failing zero (i ∷ is) h = refl
length-failing (suc j) (i ∷ is) h =
    let less : j < length is = omega (arith, h) in ap suc (length-failing j is less)

pub failing-plain : (j : ℕ) (is : List FlatItem) → Each IsPlain is → Each IsPlain (failing_at j is)
failing-plain j [] h = tt
failing-plain zero (flat.Call l ∷ is) h = (h.0, tt)
failing-plain zero (flat.Test c ∷ is) h = absurd h.0
failing-plain (suc j) (i ∷ is) h = (h.0, failing-plain j is h.1)

-- ---- covers

-- where nothing has opened
abbrev pub place : ℕ → List Above → List Around → Place
place hidden abv around = record { opened = []; hidden = hidden; replaced = var; above = abv; around = around }

-- a body whose cases are plain
abbrev pub body_for : Bool → Clause → Body
body_for checks c = record { items = flat_body c.body; head = c.head; is_check = checks; bare = true; vars = 0; values = value_of [] }

abbrev pub inside_plain : Bool → Clause → ℕ → Place → Inside
inside_plain checks c next here = record { here = here; next = next; body = body_for checks c }

rule-parts : (head : Option Atom) (body : List Item) (vars : ℕ) (a : Atom) (next hidden : ℕ) (abv : List Above) (around : List Around)
    → ((b : Atom) → head ≡ Some b → b.args ≡ nil) → vars ≡ 0
    → inside_rule (Some (record { head = head; body = body; vars = vars })) a next (place hidden abv around)
    ≡ inside_plain false (record { head = head; body = body; vars = vars }) next (place hidden abv around)
rule-parts None body zero a next hidden abv around h e = refl
rule-parts None body (suc n) a next hidden abv around h e = absurd (cc e)
rule-parts (Some b) body zero a next hidden abv around h e = by b.minus b.name b.args (h b refl)
  where
    by : (minus : Bool) (name : ℕ) (args : Tms) → args ≡ nil
        → inside_rule (Some (record { head = Some (record { minus = minus; name = name; args = args }); body = body; vars = 0 })) a next (place hidden abv around)
        ≡ inside_plain false (record { head = Some (record { minus = minus; name = name; args = args }); body = body; vars = 0 }) next (place hidden abv around)
    by minus name nil e = refl
    by minus name (cons t ts) e = absurd (cc e)
rule-parts (Some b) body (suc n) a next hidden abv around h e = absurd (cc e)

pub rule-inside : (c : Clause) (a : Atom) (next hidden : ℕ) (abv : List Above) (around : List Around) → PlainClause c
    → inside_rule (Some c) a next (place hidden abv around) ≡ inside_plain false c next (place hidden abv around)
rule-inside c a next hidden abv around h = rule-parts c.head c.body c.vars a next hidden abv around h.head h.vars

check-parts : (head : Option Atom) (body : List Item) (vars : ℕ) (next hidden : ℕ) (abv : List Above) (around : List Around)
    → ((b : Atom) → head ≡ Some b → b.args ≡ nil) → vars ≡ 0
    → inside_check (Some (record { head = head; body = body; vars = vars })) next (place hidden abv around)
    ≡ inside_plain true (record { head = head; body = body; vars = vars }) next (place hidden abv around)
check-parts None body zero next hidden abv around h e = refl
check-parts None body (suc n) next hidden abv around h e = absurd (cc e)
check-parts (Some b) body zero next hidden abv around h e = by b.minus b.name b.args (h b refl)
  where
    by : (minus : Bool) (name : ℕ) (args : Tms) → args ≡ nil
        → inside_check (Some (record { head = Some (record { minus = minus; name = name; args = args }); body = body; vars = 0 })) next (place hidden abv around)
        ≡ inside_plain true (record { head = Some (record { minus = minus; name = name; args = args }); body = body; vars = 0 }) next (place hidden abv around)
    by minus name nil e = refl
    by minus name (cons t ts) e = absurd (cc e)
check-parts (Some b) body (suc n) next hidden abv around h e = absurd (cc e)

pub check-inside : (c : Clause) (next hidden : ℕ) (abv : List Above) (around : List Around) → PlainClause c
    → inside_check (Some c) next (place hidden abv around) ≡ inside_plain true c next (place hidden abv around)
check-inside c next hidden abv around h = check-parts c.head c.body c.vars next hidden abv around h.head h.vars
