-- What is the same is equal.
use Rattle.std.proofs.Common.{◌≡◌, ◌∙◌, ℕ, Bool, true, false, ◌&&◌, ◌||◌, not, nat_eq, List, [], ◌∷◌, ◌++◌, length, Option, None, Some, refl, ap, sym}
use Rattle.std.specs.Cmp.Lexicographic.{pointwise, bytes_decides}
use Rattle.std.specs.List.{list_any}
use Rattle.std.specs.Option.{option_eq}
use Rattle.std.proofs.lemmas.Bool.{and_parts, or_parts, false≢true}
use Rattle.std.proofs.lemmas.Bool.Decides.{Decides-eqb}
use Rattle.std.proofs.lemmas.List.Folds.{list_any-append}
use Rattle.scasp_num.proofs.SameRows.{row-same}
use Rattle.scasp_num.specs.SameRow.{same_row}
use Rattle.scasp_syntax.specs.Programs.{numbered, rules_of}
use Rattle.scasp_syntax.specs.Same.{same_atom, same_bool}
use Rattle.scasp_syntax.specs.View.{tm_of}
use Rattle.scasp_syntax.specs.declared.atom.Atom.{Atom}
use Rattle.scasp_syntax.specs.declared.atom.Pred.{Pred}
use Rattle.scasp_syntax.specs.declared.clause.Clause.{Clause}
use Rattle.scasp_syntax.specs.declared.clause.Item.{Item}
use Rattle.scasp_syntax.specs.declared.clause.Item.TheVariants.{Call, Equal, Differ, Linear}
use Rattle.scasp_syntax.specs.declared.clause.Lin.{Lin}
use Rattle.scasp_syntax.specs.declared.clause.Query.{Query}
use Rattle.scasp_syntax.specs.declared.program.Program.{Program}
use Rattle.scasp_syntax.specs.declared.term.Term.{Term}
use Rattle.scasp_syntax.specs.declared.term.Term.TheVariants.{Var, Num, App}
use Rattle.scasp_syntax.proofs.SameLemmas.{atom_decided, lit_decided, tm_decided}
use Rattle.scasp_touched.specs.Same.{same_clause, same_item, same_query, same_term}
use Rattle.scasp_touched.specs.Touched.{clause_differs, query_differs, rules_differ}

values-are : (t u : Term) → tm_of t ≡ tm_of u → t ≡ u
values-are (Var x) (Var y) e = cc
values-are (Var x) (Num q) e = cc
values-are (Var x) (App f ts) e = cc
values-are (Num q) (Var y) e = cc
values-are (Num q) (Num r) e = cc
values-are (Num q) (App f ts) e = cc
values-are (App f ts) (Var y) e = cc
values-are (App f ts) (Num r) e = cc
values-are (App f ts) (App g us) e = cc

term-is : (t u : Term) → same_term t u ≡ true → t ≡ u
term-is t u e = values-are t u ((tm_decided (tm_of t) (tm_of u)).0 e)

linear-is : (l k : Lin) → (pointwise nat_eq l.vars k.vars && same_row l.row k.row) ≡ true → l ≡ k
linear-is l k e =
    let p = and_parts (pointwise nat_eq l.vars k.vars) (same_row l.row k.row) e in
    let v : l.vars ≡ k.vars = (bytes_decides l.vars k.vars).0 p.0 in
    let r : l.row ≡ k.row = row-same l.row k.row p.1 in
    λ i. record { vars = v i; row = r i }

item-is : (i j : Item) → same_item i j ≡ true → i ≡ j
item-is (Call l) (Call k) e = ap Call ((lit_decided l k).0 e)
item-is (Call l) (Equal u r) e = cc
item-is (Call l) (Differ u r) e = cc
item-is (Call l) (Linear k) e = cc
item-is (Equal t s) (Call k) e = cc
item-is (Equal t s) (Equal u r) e =
    let p = and_parts (same_term t u) (same_term s r) e in
    λ i. Equal (term-is t u p.0 i) (term-is s r p.1 i)
item-is (Equal t s) (Differ u r) e = cc
item-is (Equal t s) (Linear k) e = cc
item-is (Differ t s) (Call k) e = cc
item-is (Differ t s) (Equal u r) e = cc
item-is (Differ t s) (Differ u r) e =
    let p = and_parts (same_term t u) (same_term s r) e in
    λ i. Differ (term-is t u p.0 i) (term-is s r p.1 i)
item-is (Differ t s) (Linear k) e = cc
item-is (Linear l) (Call k) e = cc
item-is (Linear l) (Equal u r) e = cc
item-is (Linear l) (Differ u r) e = cc
item-is (Linear l) (Linear k) e = ap Linear (linear-is l k e)

body-is : (xs ys : List Item) → pointwise same_item xs ys ≡ true → xs ≡ ys
body-is [] [] e = refl
body-is [] (y ∷ ys) e = cc
body-is (x ∷ xs) [] e = cc
body-is (x ∷ xs) (y ∷ ys) e =
    let p = and_parts (same_item x y) (pointwise same_item xs ys) e in
    λ i. item-is x y p.0 i ∷ body-is xs ys p.1 i

head-is : (a b : Option Atom) → option_eq same_atom a b ≡ true → a ≡ b
head-is None None e = refl
head-is None (Some b) e = cc
head-is (Some a) None e = cc
head-is (Some a) (Some b) e = ap Some ((atom_decided a b).0 e)

clause-is : (c d : Clause) → same_clause c d ≡ true → c ≡ d
clause-is c d e =
    let p = and_parts (option_eq same_atom c.head d.head && pointwise same_item c.body d.body) (nat_eq c.vars d.vars) e in
    let q = and_parts (option_eq same_atom c.head d.head) (pointwise same_item c.body d.body) p.0 in
    let h = head-is c.head d.head q.0 in
    let b = body-is c.body d.body q.1 in
    let v = (Decides-eqb c.vars d.vars).0 p.1 in
    λ i. record { head = h i; body = b i; vars = v i }

at-is : (a b : Option Clause) → option_eq same_clause a b ≡ true → a ≡ b
at-is None None e = refl
at-is None (Some d) e = cc
at-is (Some c) None e = cc
at-is (Some c) (Some d) e = ap Some (clause-is c d e)

holds : (b : Bool) → not b ≡ false → b ≡ true
holds true e = refl
holds false e = absurd (false≢true (sym e))

-- the same clause has this number in both
pub clause-kept : (p q : Program) (k : ℕ) → clause_differs p q k ≡ false → numbered p.clauses k ≡ numbered q.clauses k
clause-kept p q k e =
    at-is (numbered p.clauses k) (numbered q.clauses k) (holds (option_eq same_clause (numbered p.clauses k) (numbered q.clauses k)) e)

-- the rules of the predicate have the same numbers in both
pub rules-kept : (p q : Program) (r : Pred) → rules_differ p q r ≡ false → rules_of p r ≡ rules_of q r
rules-kept p q r e = (bytes_decides (rules_of p r) (rules_of q r)).0 (holds (pointwise nat_eq (rules_of p r) (rules_of q r)) e)

-- queries with the same items and as many variables
pub record Alike (a b : Query) : Type 0 where
  pub body : a.body ≡ b.body
  pub count : length a.names ≡ length b.names

query-is : (a b : Query) → same_query a b ≡ true → Alike a b
query-is a b e =
    let p = and_parts (pointwise same_item a.body b.body) (nat_eq (length a.names) (length b.names)) e in
    record { body = body-is a.body b.body p.0; count = (Decides-eqb (length a.names) (length b.names)).0 p.1 }

-- both are missing, or they are alike
abbrev pub AreAlike : Option Query → Option Query → Type 0
AreAlike None None = Unit {0}
AreAlike None (Some b) = ⊥
AreAlike (Some a) None = ⊥
AreAlike (Some a) (Some b) = Alike a b

queries-are : (a b : Option Query) → option_eq same_query a b ≡ true → AreAlike a b
queries-are None None e = tt
queries-are None (Some b) e = false≢true e
queries-are (Some a) None e = false≢true e
queries-are (Some a) (Some b) e = query-is a b e

pub query-kept : (p q : Program) (n : ℕ) → query_differs p q n ≡ false → AreAlike (numbered p.queries n) (numbered q.queries n)
query-kept p q n e =
    queries-are (numbered p.queries n) (numbered q.queries n) (holds (option_eq same_query (numbered p.queries n) (numbered q.queries n)) e)

-- ---- no item of two lists passes a test

pub none-both : {A : Type 0} (f : A → Bool) (xs ys : List A) → list_any f (xs ++ ys) ≡ false → (list_any f xs ≡ false) × (list_any f ys ≡ false)
none-both f xs ys e = or_parts (list_any f xs) (list_any f ys) (sym (list_any-append f xs ys) ∙ e)
