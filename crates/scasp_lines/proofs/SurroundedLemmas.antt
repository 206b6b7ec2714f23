-- The literals above a line and the cases around it are lines of the certificate, at which no more had opened.
use Rattle.std.proofs.Common.{◌≡◌, ◌∙◌, ℕ, Bool, true, false, nat_eq, List, [], ◌∷◌, length, Option, None, Some, refl, ap, sym, subst}
use Rattle.std.specs.List.{Contains, list_all}
use Rattle.std.proofs.lemmas.Bool.{true≢false, and_parts}
use Rattle.scasp_syntax.specs.Programs.{numbered}
use Rattle.scasp_syntax.specs.Tm.{Tms, nil, cons, items}
use Rattle.scasp_syntax.specs.Values.{Sub, under}
use Rattle.scasp_syntax.specs.declared.atom.Atom.{Atom}
use Rattle.scasp_syntax.specs.declared.clause.Clause.{Clause}
use Rattle.scasp_syntax.specs.declared.con.Con.{Con}
use Rattle.scasp_syntax.specs.declared.con.Con.TheVariants as con
use Rattle.scasp_syntax.specs.declared.program.Program.{Program}
use Rattle.scasp_cert.specs.Certificate.{Certificate}
use Rattle.scasp_cert.specs.Trees.{pos_tree, neg_tree, leaf, head}
use Rattle.scasp_lines.specs.Opened.{Opened, is_met}
use Rattle.scasp_lines.specs.Surroundings.{Extends, IsReplaced, IsLiteral, IsCase, AreAbove, AreAround, OpenedAt, IfPlain, OpensInnermost, Surrounded, NodeSurrounded, CaseSurrounded, PartSurrounded}
use Rattle.scasp_lines.specs.Openings.{Opening, unopened, open_terms}
use Rattle.scasp_lines.specs.Covers.{covering}
use Rattle.scasp_lines.specs.Places.{Above, Around, Place, below_literal, within_case, start, is_universal}
use Rattle.scasp_lines.specs.Bodies.{Body, split_body, inside_rule, inside_check, open_head, is_head_bare, is_bare}
use Rattle.scasp_lines.specs.Walk.{Part, of_node, of_rule, of_check, of_case, Line, Setting, line}
use Rattle.scasp_lines.specs.Sides.{Shape, shape_of, sides_by}
use Rattle.scasp_lines.specs.Lines.{setting, lines}
use Rattle.scasp_lines.proofs.EverywhereLemmas.{everywhere}
use Rattle.scasp_lines.proofs.PartLemmas.{nat-eq}
use Rattle.scasp_lines.proofs.Passages.{Claim, HoldsFor, Passes}
use Rattle.scasp_lines.proofs.ReplacedLemmas.{first-replaced, second-replaced}
use Rattle.scasp_lines.proofs.SuffixLemmas.{extends-same, extends-then, rule-extends, check-extends, first-extends, second-extends}
use Rattle.scasp_lines.proofs.WaysLemmas.{met-before}

module _ (ls : List Line) where
  above-wider : (os ps : List Opened) (es : List Above) → Extends os ps → AreAbove ls ps es → AreAbove ls os es
  above-wider os ps [] x a = tt
  above-wider os ps (e ∷ es) x a =
      let one = a.0 in (
        record { line = one.line; listed = one.listed; number = one.number; literal = one.literal; above = one.above; opened = extends-then os ps (one.line).here.opened x one.opened },
        above-wider os ps es x a.1,
      )

  around-wider : (os ps : List Opened) (es : List Around) → Extends os ps → AreAround ls ps es → AreAround ls os es
  around-wider os ps [] x a = tt
  around-wider os ps (e ∷ es) x a =
      let one = a.0 in (
        record { line = one.line; listed = one.listed; number = one.number; case = one.case; opened = extends-then os ps (one.line).here.opened x one.opened },
        around-wider os ps es x a.1,
      )

  -- more opened, and nothing else changed
  wider : (here there : Place) → Extends there.opened here.opened → there.above ≡ here.above → there.around ≡ here.around → IsReplaced there → Surrounded ls here → Surrounded ls there
  wider here there x a r same s =
      record {
        replaced = same;
        above = subst (λ (es : List Above). AreAbove ls there.opened es) (sym a) (above-wider there.opened here.opened here.above x s.above);
        around = subst (λ (es : List Around). AreAround ls there.opened es) (sym r) (around-wider there.opened here.opened here.around x s.around);
      }

  -- a cover replaces nothing
  cover-replaced : (here there : Place) → Extends there.opened here.opened → there.replaced ≡ here.replaced → IsReplaced here → IsReplaced there
  cover-replaced here there x e r d v m y =
      r d v (met-before d v x.more here.opened (subst (λ (os : List Opened). list_all (is_met d v) os ≡ true) x.is m)) y
      ∙ ap (λ (s : Sub). under v (s y)) (sym e)

  below-surrounded : (l : Line) (positive : Bool) (a : Atom) → Contains ls l → IsLiteral l.part positive a → NodeSurrounded ls l.here → NodeSurrounded ls (below_literal l.at positive a l.here)
  below-surrounded l positive a i t n =
      let s = n.surrounded in
      record {
        surrounded = record {
          replaced = s.replaced;
          above = (record { line = l; listed = i; number = refl; literal = t; above = refl; opened = extends-same l.here.opened }, s.above);
          around = s.around;
        };
        innermost = n.innermost;
      }

  within-surrounded : (l : Line) (body : Body) → Contains ls l → IsCase l.part → CaseSurrounded ls body l.here → NodeSurrounded ls (within_case l.at body.bare l.here)
  within-surrounded l body i t n =
      let s = n.surrounded in
      record {
        surrounded = record {
          replaced = s.replaced;
          above = s.above;
          around = (record { line = l; listed = i; number = refl; case = t; opened = extends-same l.here.opened }, s.around);
        };
        innermost = by body.bare n.innermost;
      }
    where
      by : (plain : Bool) → (plain ≡ true → OpensInnermost ls l.here.opened l.here.around) → IfPlain plain (OpensInnermost ls l.here.opened l.here.around) (OpenedAt ls l.here.opened l.at)
      by true h = h refl
      by false h = record { line = l; listed = i; number = refl; case = t; same = refl }

  -- a clause that is bare opens nothing
  head-opens_none : (h : Option Atom) (a : Atom) (here : Place) → is_head_bare h ≡ true → (open_head h a (unopened here.opened here.hidden)).opened ≡ here.opened
  head-opens_none None a here e = refl
  head-opens_none (Some h) a here e = arguments h.args (nat-eq (length (items h.args)) 0 e)
    where
      arguments : (ts : Tms) → length (items ts) ≡ 0 → (open_terms ts a.args (unopened here.opened here.hidden)).opened ≡ here.opened
      arguments nil q = refl
      arguments (cons t ts) q = absurd (cc)

  none-cover : (vars next : ℕ) (o : Opening) → vars ≡ 0 → (covering vars next o).opened ≡ o.opened
  none-cover vars next o e = ap (λ n. (covering n next o).opened) e

  rule-surrounded : (c : Option Clause) (a : Atom) (next : ℕ) (here : Place) → NodeSurrounded ls here → CaseSurrounded ls (inside_rule c a next here).body (inside_rule c a next here).here
  rule-surrounded None a next here n = record { surrounded = n.surrounded; innermost = λ e. n.innermost }
  rule-surrounded (Some c) a next here n =
      let x = rule-extends (Some c) a next here in
      record {
        surrounded = wider here (inside_rule (Some c) a next here).here x refl refl (cover-replaced here (inside_rule (Some c) a next here).here x refl (n.surrounded).replaced) n.surrounded;
        innermost = λ e. subst (λ (os : List Opened). OpensInnermost ls os here.around) (sym (same e)) n.innermost;
      }
    where
      same : is_bare c ≡ true → (inside_rule (Some c) a next here).here.opened ≡ here.opened
      same e =
          let p = and_parts (nat_eq c.vars 0) (is_head_bare c.head) e in
          none-cover c.vars next (open_head c.head a (unopened here.opened here.hidden)) (nat-eq c.vars 0 p.0) ∙ head-opens_none c.head a here p.1

  check-surrounded : (c : Option Clause) (next : ℕ) (here : Place) → NodeSurrounded ls here → CaseSurrounded ls (inside_check c next here).body (inside_check c next here).here
  check-surrounded None next here n = record { surrounded = n.surrounded; innermost = λ e. n.innermost }
  check-surrounded (Some c) next here n =
      let x = check-extends (Some c) next here in
      record {
        surrounded = wider here (inside_check (Some c) next here).here x refl refl (cover-replaced here (inside_check (Some c) next here).here x refl (n.surrounded).replaced) n.surrounded;
        innermost = λ e. subst (λ (os : List Opened). OpensInnermost ls os here.around) (sym (same e)) n.innermost;
      }
    where
      same : is_bare c ≡ true → (inside_check (Some c) next here).here.opened ≡ here.opened
      same e =
          let p = and_parts (nat_eq c.vars 0) (is_head_bare c.head) e in
          none-cover c.vars next (unopened here.opened here.hidden) (nat-eq c.vars 0 p.0)

  -- a side changes nothing of what is above and around
  first-same : (universal : ℕ → Bool) (next : ℕ) (here : Place) (o : Option Shape) (c : Con) → ((sides_by universal next o c here).first.above ≡ here.above) × ((sides_by universal next o c here).first.around ≡ here.around)
  first-same universal next here None c = (refl, refl)
  first-same universal next here (Some s) (con.Eq t u) = (refl, refl)
  first-same universal next here (Some s) (con.Neq t u) = (refl, refl)
  first-same universal next here (Some s) (con.NotShape x f n) = (refl, refl)
  first-same universal next here (Some s) (con.Num t) = (refl, refl)
  first-same universal next here (Some s) (con.NotNum t) = (refl, refl)
  first-same universal next here (Some s) (con.Row r) = (refl, refl)

  second-same : (universal : ℕ → Bool) (next : ℕ) (here : Place) (o : Option Shape) (c : Con) → ((sides_by universal next o c here).second.above ≡ here.above) × ((sides_by universal next o c here).second.around ≡ here.around)
  second-same universal next here None c = (refl, refl)
  second-same universal next here (Some s) (con.Eq t u) = (refl, refl)
  second-same universal next here (Some s) (con.Neq t u) = (refl, refl)
  second-same universal next here (Some s) (con.NotShape x f n) = (refl, refl)
  second-same universal next here (Some s) (con.Num t) = (refl, refl)
  second-same universal next here (Some s) (con.NotNum t) = (refl, refl)
  second-same universal next here (Some s) (con.Row r) = (refl, refl)

  first-surrounded : (universal : ℕ → Bool) (next : ℕ) (here : Place) (body : Body) (o : Option Shape) (c : Con) → Surrounded ls here → CaseSurrounded ls (split_body body) (sides_by universal next o c here).first
  first-surrounded universal next here body o c s =
      let same = first-same universal next here o c in
      record {
        surrounded = wider here (sides_by universal next o c here).first (first-extends universal next here o c) same.0 same.1 (first-replaced universal next here s.replaced o c) s;
        innermost = λ e. absurd (true≢false (sym e));
      }

  second-surrounded : (universal : ℕ → Bool) (next : ℕ) (here : Place) (body : Body) (o : Option Shape) (c : Con) → Surrounded ls here → CaseSurrounded ls (split_body body) (sides_by universal next o c here).second
  second-surrounded universal next here body o c s =
      let same = second-same universal next here o c in
      record {
        surrounded = wider here (sides_by universal next o c here).second (second-extends universal next here o c) same.0 same.1 (second-replaced universal next here s.replaced o c) s;
        innermost = λ e. absurd (true≢false (sym e));
      }

-- ---- everywhere

abbrev surrounded-claim : List Line → Claim
surrounded-claim ls =
    record {
      nodes = λ here next. NodeSurrounded ls here;
      rules = λ a here next. NodeSurrounded ls here;
      cases = λ body here next. CaseSurrounded ls body here;
    }

surrounded-passes : (s : Setting) (ls : List Line) → Passes s (λ l. Contains ls l) (surrounded-claim ls)
surrounded-passes s ls =
    record {
      later_nodes = λ here n m l u f. f;
      later_rules = λ a here n m l u f. f;
      later_cases = λ body here n m l u f. f;
      into_positive = λ at next here due a r ts children i f. below-surrounded ls (line at next here (of_node due (pos_tree a r ts children))) true a i (refl, refl) f;
      into_negative = λ at next here due a covers i f. below-surrounded ls (line at next here (of_node due (neg_tree a covers))) false a i (refl, refl) f;
      into_rule = λ at next here r a b i room f. rule-surrounded ls (numbered s.clauses r) a next here f;
      into_check = λ at next here r b i room f. check-surrounded ls (numbered s.clauses r) next here f;
      into_first = λ at next here body c one two i room f. first-surrounded ls (is_universal s.free s.top here) next here body (shape_of next c) c f.surrounded;
      into_second = λ at next here body c one two i room f. second-surrounded ls (is_universal s.free s.top here) next here body (shape_of next c) c f.surrounded;
      into_leaf = λ at next here body r children i f. within-surrounded ls (line at next here (of_case body (leaf r children))) body i tt f;
      into_head = λ at next here body children i f. within-surrounded ls (line at next here (of_case body (head children))) body i tt f;
    }

start-surrounded : (ls : List Line) (top : ℕ) → NodeSurrounded ls (start top)
start-surrounded ls top = record { surrounded = record { replaced = λ d v m x. refl; above = tt; around = tt }; innermost = refl }

part-surrounded : (ls : List Line) (here : Place) (next : ℕ) (part : Part) → HoldsFor (surrounded-claim ls) here next part → PartSurrounded ls here part
part-surrounded ls here next (of_node due t) f = f
part-surrounded ls here next (of_rule k a b) f = f
part-surrounded ls here next (of_check k b) f = f
part-surrounded ls here next (of_case body b) f = f

pub lines-surrounded : (p : Program) (c : Certificate) (l : Line) → Contains (lines p c) l → PartSurrounded (lines p c) l.here l.part
lines-surrounded p c l h =
    let s : Setting = setting p.clauses c in
    part-surrounded (lines p c) l.here l.next l.part
    (everywhere p.clauses p.queries c (λ (x : Line). Contains (lines p c) x) (surrounded-claim (lines p c)) (surrounded-passes s (lines p c)) (λ x i. i) (start-surrounded (lines p c) s.top) l h)
