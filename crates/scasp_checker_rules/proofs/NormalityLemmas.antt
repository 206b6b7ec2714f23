-- The rows of each line's context are in normal form.
use Rattle.std.proofs.Common.{◌≡◌, ℕ, zero, suc, Bool, ◌&&◌, nat_eq, List, [], ◌∷◌, ◌++◌, length, Option, Some, None, refl, ap, sym, subst}
use Rattle.std.specs.List.{Contains}
use Rattle.std.proofs.lemmas.Bool.{cond_both}
use Rattle.scasp_list.specs.Each.{Each}
use Rattle.scasp_list.proofs.EachLemmas.{Each-append}
use Rattle.scasp_num.specs.Linear.{IsNormal, Linear}
use Rattle.scasp_num.proofs.NormalForms.{negation-IsNormal}
use Rattle.scasp_syntax.specs.Programs.{numbered}
use Rattle.scasp_syntax.specs.Same.{same_number}
use Rattle.scasp_syntax.specs.Tm.{Tm, Tms, var, num, app, nil, cons, items}
use Rattle.scasp_syntax.specs.declared.atom.Atom.{Atom}
use Rattle.scasp_syntax.specs.declared.clause.Clause.{Clause}
use Rattle.scasp_syntax.specs.declared.con.Con.{Con}
use Rattle.scasp_syntax.specs.declared.con.Con.TheVariants as con
use Rattle.scasp_syntax.specs.declared.program.Program.{Program}
use Rattle.scasp_cert.specs.Certificate.{Certificate}
use Rattle.scasp_hint.specs.AskedRows.{RowsNormal, given_rows}
use Rattle.scasp_lines.specs.Bodies.{inside_rule, inside_check, open_head}
use Rattle.scasp_lines.specs.Contexts.{constraints_of, context}
use Rattle.scasp_lines.specs.Covers.{Cover, with_universal, with_universals, cover_from}
use Rattle.scasp_lines.specs.Lines.{lines, setting}
use Rattle.scasp_unify.specs.Negations.{new_parts, negated}
use Rattle.scasp_lines.specs.Opened.{Opened}
use Rattle.scasp_lines.specs.Openings.{Opening, bound_to, with_shape, with_clash, open_variable, open_term, open_terms, unopened}
use Rattle.scasp_lines.specs.Places.{Place, is_universal}
use Rattle.scasp_lines.specs.Sides.{Shape, shape_of, sides_by}
use Rattle.scasp_lines.specs.Walk.{Part, of_node, of_rule, of_check, of_case, Line, Setting}
use Rattle.scasp_lines.proofs.EverywhereLemmas.{everywhere}
use Rattle.scasp_lines.proofs.Passages.{Claim, HoldsFor, Passes}
use Rattle.scasp_checker_rules.specs.Normality.{LineNormal}

-- ---- lists

pub rows-append : (cs ds : List Con) → given_rows (cs ++ ds) ≡ given_rows cs ++ given_rows ds
rows-append [] ds = refl
rows-append (con.Row r ∷ cs) ds = ap (λ (rs : List Linear). r ∷ rs) (rows-append cs ds)
rows-append (con.Eq t u ∷ cs) ds = rows-append cs ds
rows-append (con.Neq t u ∷ cs) ds = rows-append cs ds
rows-append (con.NotShape x f n ∷ cs) ds = rows-append cs ds
rows-append (con.Num t ∷ cs) ds = rows-append cs ds
rows-append (con.NotNum t ∷ cs) ds = rows-append cs ds

pub normal-append : (cs ds : List Con) → RowsNormal cs → RowsNormal ds → RowsNormal (cs ++ ds)
normal-append cs ds h k = subst (Each IsNormal) (sym (rows-append cs ds)) (Each-append IsNormal (given_rows cs) (given_rows ds) h k)

pub negated-normal : (k : ℕ) (c : Con) → RowsNormal (c ∷ []) → RowsNormal (negated k c ∷ [])
negated-normal k (con.Eq t u) h = tt
negated-normal k (con.Neq t u) h = tt
negated-normal k (con.NotShape x f n) h = tt
negated-normal k (con.Num t) h = tt
negated-normal k (con.NotNum t) h = tt
negated-normal k (con.Row r) h = (negation-IsNormal r h.0, tt)

-- ---- what opened

abbrev pub EntryNormal : Opened → Type 0
EntryNormal o = RowsNormal (constraints_of o)

abbrev pub OpenedNormal : List Opened → Type 0
OpenedNormal os = Each EntryNormal os

pub context-normal : (given : List Con) (os : List Opened) → RowsNormal given → OpenedNormal os → RowsNormal (context given os)
context-normal given [] g h = g
context-normal given (o ∷ os) g h = normal-append (context given os) (constraints_of o) (context-normal given os g h.1) h.0

mutual
  term-normal : (h l : Tm) (o : Opening) → OpenedNormal o.opened → OpenedNormal (open_term h l o).opened
  term-normal (var x) l o n = by (bound_to o.bound x)
    where
      by : (t : Option Tm) → OpenedNormal (open_variable t x l o).opened
      by None = n
      by (Some t) = (tt, n)
  term-normal (num q) (var y) o n = (tt, (tt, n))
  term-normal (num q) (num r) o n = cond_both (same_number r q) o (with_clash o) (λ p. OpenedNormal p.opened) (λ _. n) (λ _. (tt, n))
  term-normal (num q) (app g ls) o n = (tt, n)
  term-normal (app f hs) (var y) o n = terms-normal hs (new_parts o.hidden (length (items hs))) (with_shape o y f (length (items hs))) (tt, n)
  term-normal (app f hs) (num q) o n = (tt, n)
  term-normal (app f hs) (app g ls) o n =
      cond_both (nat_eq g f && nat_eq (length (items ls)) (length (items hs))) (open_terms hs ls o) (with_clash o) (λ p. OpenedNormal p.opened)
      (λ _. terms-normal hs ls o n) (λ _. (tt, n))

  terms-normal : (hs ls : Tms) (o : Opening) → OpenedNormal o.opened → OpenedNormal (open_terms hs ls o).opened
  terms-normal nil ls o n = n
  terms-normal (cons h hs) nil o n = n
  terms-normal (cons h hs) (cons l ls) o n = terms-normal hs ls (open_term h l o) (term-normal h l o n)

universals-normal : (n x : ℕ) (c : Cover) → OpenedNormal c.opened → OpenedNormal (with_universals n x c).opened
universals-normal zero x c h = h
universals-normal (suc n) x c h = universals-normal n (suc x) (with_universal (bound_to c.bound x) x c) (by (bound_to c.bound x))
  where
    by : (o : Option Tm) → OpenedNormal (with_universal o x c).opened
    by None = (tt, h)
    by (Some t) = h

rule-normal : (c : Option Clause) (a : Atom) (next : ℕ) (here : Place) → OpenedNormal here.opened → OpenedNormal (inside_rule c a next here).here.opened
rule-normal None a next here h = h
rule-normal (Some c) a next here h = universals-normal c.vars 0 (cover_from next (open_head c.head a (unopened here.opened here.hidden))) (by c.head)
  where
    by : (o : Option Atom) → OpenedNormal (open_head o a (unopened here.opened here.hidden)).opened
    by None = h
    by (Some k) = terms-normal k.args a.args (unopened here.opened here.hidden) h

check-normal : (c : Option Clause) (next : ℕ) (here : Place) → OpenedNormal here.opened → OpenedNormal (inside_check c next here).here.opened
check-normal None next here h = h
check-normal (Some c) next here h = universals-normal c.vars 0 (cover_from next (unopened here.opened here.hidden)) h

module _ (universal : ℕ → Bool) (next : ℕ) (here : Place) (h : OpenedNormal here.opened) where
  first-normal : (o : Option Shape) (c : Con) → RowsNormal (c ∷ []) → OpenedNormal (sides_by universal next o c here).first.opened
  first-normal None c n = (n, h)
  first-normal (Some s) (con.Eq t u) n = (tt, h)
  first-normal (Some s) (con.Neq t u) n = (tt, h)
  first-normal (Some s) (con.NotShape x f k) n = h
  first-normal (Some s) (con.Num t) n = h
  first-normal (Some s) (con.NotNum t) n = h
  first-normal (Some s) (con.Row r) n = h

  second-normal : (o : Option Shape) (c : Con) → RowsNormal (c ∷ []) → OpenedNormal (sides_by universal next o c here).second.opened
  second-normal None c n = (negated-normal here.hidden c n, h)
  second-normal (Some s) (con.Eq t u) n = (tt, h)
  second-normal (Some s) (con.Neq t u) n = (tt, h)
  second-normal (Some s) (con.NotShape x f k) n = h
  second-normal (Some s) (con.Num t) n = h
  second-normal (Some s) (con.NotNum t) n = h
  second-normal (Some s) (con.Row r) n = h

-- ---- everywhere

abbrev normal-claim : Claim
normal-claim =
    record {
      nodes = λ here next. OpenedNormal here.opened;
      rules = λ a here next. OpenedNormal here.opened;
      cases = λ body here next. OpenedNormal here.opened;
    }

normal-passes : (s : Setting) → Passes s LineNormal normal-claim
normal-passes s =
    record {
      later_nodes = λ here n m l u h. h;
      later_rules = λ a here n m l u h. h;
      later_cases = λ body here n m l u h. h;
      into_positive = λ at next here due a r ts children f h. h;
      into_negative = λ at next here due a covers f h. h;
      into_rule = λ at next here r a b f room h. rule-normal (numbered s.clauses r) a next here h;
      into_check = λ at next here r b f room h. check-normal (numbered s.clauses r) next here h;
      into_first = λ at next here body c one two f room h. first-normal (is_universal s.free s.top here) next here h (shape_of next c) c f;
      into_second = λ at next here body c one two f room h. second-normal (is_universal s.free s.top here) next here h (shape_of next c) c f;
      into_leaf = λ at next here body r children f h. h;
      into_head = λ at next here body children f h. h;
    }

at-part : (here : Place) (next : ℕ) (part : Part) → HoldsFor normal-claim here next part → OpenedNormal here.opened
at-part here next (of_node due t) h = h
at-part here next (of_rule k a b) h = h
at-part here next (of_check k b) h = h
at-part here next (of_case body b) h = h

pub opened-normal : (p : Program) (c : Certificate) → ((x : Line) → Contains (lines p c) x → LineNormal x) → (l : Line) → Contains (lines p c) l → OpenedNormal l.here.opened
opened-normal p c n l h =
    at-part l.here l.next l.part (everywhere p.clauses p.queries c LineNormal normal-claim (normal-passes (setting p.clauses c)) n tt l h)
