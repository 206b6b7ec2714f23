-- On the lines of an accepted certificate each variable is known.
use Rattle.std.proofs.Common.{◌≡◌, ℕ, zero, suc, Bool, true, ◌&&◌, nat_lt, nat_eq, List, [], ◌∷◌, Option, None, Some, refl}
use Rattle.std.specs.List.{list_all}
use Rattle.std.proofs.lemmas.Bool.{and_parts, and_from}
use Rattle.std.proofs.lemmas.Bool.Decides.{Decides-eqb}
use Rattle.scasp_list.specs.Each.{Each}
use Rattle.scasp_num.specs.declared.linear.Coeff.{Coeff}
use Rattle.scasp_syntax.specs.Tm.{Tm, Tms, var, num, app, nil, cons}
use Rattle.scasp_syntax.specs.View.{tm_of}
use Rattle.scasp_syntax.specs.declared.con.Con.{Con}
use Rattle.scasp_syntax.specs.declared.con.Con.TheVariants as con
use Rattle.scasp_syntax.specs.declared.program.Program.{Program}
use Rattle.scasp_cert.specs.Certificate.{Certificate}
use Rattle.scasp_cert.specs.Trees.{Tree, Branch, pos_tree, neg_tree, loop_tree, seen_tree, test_tree, split, void, leaf, head}
use Rattle.scasp_lines.specs.Bodies.{Body}
use Rattle.scasp_lines.specs.Dues.{Due}
use Rattle.scasp_lines.specs.Known.{is_known, are_known, is_con_known}
use Rattle.scasp_lines.specs.Lines.{lines}
use Rattle.scasp_lines.specs.Opened.{knows}
use Rattle.scasp_lines.specs.Places.{Place}
use Rattle.scasp_lines.specs.Said.{is_node_known}
use Rattle.scasp_lines.specs.Scopes.{excludes_no_parts, is_split_known, is_branch_known, is_part_scoped, is_line_scoped, are_lines_scoped}
use Rattle.scasp_lines.specs.Sides.{Shape, shape_of}
use Rattle.scasp_lines.specs.Walk.{Part, of_node, of_rule, of_check, of_case, Line}
use Rattle.scasp_checker_rules.specs.Accepted.{NodeHolds, Splits, CaseHolds, PartHolds, LineHolds, AcceptsWhere}
use Rattle.scasp_checker_rules.specs.Splits.{may_split}
use Rattle.scasp_checker_rules.specs.Wholes.{Whole, whole_of, scope, universal}

module _ (k j : ℕ → Bool) (more : (x : ℕ) → k x ≡ true → j x ≡ true) where
  mutual
    known-more : (t : Tm) → is_known k t ≡ true → is_known j t ≡ true
    known-more (var x) e = more x e
    known-more (num q) e = refl
    known-more (app f ts) e = all-more ts e

    all-more : (ts : Tms) → are_known k ts ≡ true → are_known j ts ≡ true
    all-more nil e = refl
    all-more (cons t ts) e =
        let p = and_parts (is_known k t) (are_known k ts) e in and_from (is_known j t) (are_known j ts) (known-more t p.0) (all-more ts p.1)

  terms-more : (ks : List Coeff) → list_all (λ (i : Coeff). k i.x) ks ≡ true → list_all (λ (i : Coeff). j i.x) ks ≡ true
  terms-more [] e = refl
  terms-more (i ∷ ks) e =
      let p = and_parts (k i.x) (list_all (λ (i : Coeff). k i.x) ks) e in
      and_from (j i.x) (list_all (λ (i : Coeff). j i.x) ks) (more i.x p.0) (terms-more ks p.1)

  both-more : (t u : Tm) → (is_known k t && is_known k u) ≡ true → (is_known j t && is_known j u) ≡ true
  both-more t u e =
      let p = and_parts (is_known k t) (is_known k u) e in and_from (is_known j t) (is_known j u) (known-more t p.0) (known-more u p.1)

  con-more : (c : Con) → is_con_known k c ≡ true → is_con_known j c ≡ true
  con-more (con.Eq t u) e = both-more (tm_of t) (tm_of u) e
  con-more (con.Neq t u) e = both-more (tm_of t) (tm_of u) e
  con-more (con.NotShape x f n) e = more x e
  con-more (con.Num t) e = known-more (tm_of t) e
  con-more (con.NotNum t) e = known-more (tm_of t) e
  con-more (con.Row r) e = terms-more r.coeffs e

module _ (w : Whole) (here : Place) where
  seen : (x : ℕ) → scope w here x ≡ true → knows w.setting.free here.opened x ≡ true
  seen x e = (and_parts (nat_lt x w.setting.top) (knows w.setting.free here.opened x) e).1

  node-scoped : (at : ℕ) (due : Due) (t : Tree) → NodeHolds w at here due t → is_node_known (knows w.setting.free here.opened) t ≡ true
  node-scoped at due (pos_tree a k ts children) h =
      and_from _ _ (all-more (scope w here) (knows w.setting.free here.opened) seen a.args h.0.known)
      (all-more (scope w here) (knows w.setting.free here.opened) seen ts h.0.terms_known)
  node-scoped at due (neg_tree a covers) h = all-more (scope w here) (knows w.setting.free here.opened) seen a.args h.0.known
  node-scoped at due (loop_tree lit to) h = refl
  node-scoped at due (seen_tree lit to) h = refl
  node-scoped at due (test_tree c hint) h = refl

  no-parts : (c : Con) → may_split (universal w here) here.replaced c ≡ true → excludes_no_parts c ≡ true
  no-parts (con.Eq t u) e = refl
  no-parts (con.Neq t u) e = refl
  no-parts (con.NotShape x f zero) e = refl
  no-parts (con.NotShape x f (suc n)) e =
      let p = and_parts (nat_eq (suc n) 0) (universal w here x) e in let z = (Decides-eqb (suc n) 0).0 p.0 in cc
  no-parts (con.Num t) e = refl
  no-parts (con.NotNum t) e = refl
  no-parts (con.Row r) e = refl

  split-scoped : (c : Con) (o : Option Shape) → Splits w here c o → is_split_known (knows w.setting.free here.opened) o c ≡ true
  split-scoped c None h = and_from _ _ (con-more (scope w here) (knows w.setting.free here.opened) seen c h.0) (no-parts c h.1)
  split-scoped c (Some s) h = seen s.of h.0

  case-scoped : (next : ℕ) (body : Body) (b : Branch) → CaseHolds w next here body b → is_branch_known (knows w.setting.free here.opened) next b ≡ true
  case-scoped next body (split c first second) h = split-scoped c (shape_of next c) h
  case-scoped next body (void hint) h = refl
  case-scoped next body (leaf k children) h = refl
  case-scoped next body (head children) h = refl

part-scoped : (w : Whole) (l : Line) (part : Part) → PartHolds w l part → is_part_scoped (knows w.setting.free l.here.opened) l.next part ≡ true
part-scoped w l (of_node due t) h = node-scoped w l.here l.at due t h
part-scoped w l (of_rule k a b) h = refl
part-scoped w l (of_check k b) h = refl
part-scoped w l (of_case body b) h = case-scoped w l.here l.next body b h

lines-scoped : (w : Whole) (ls : List Line) → Each (LineHolds w) ls → list_all (is_line_scoped w.setting.free) ls ≡ true
lines-scoped w [] h = refl
lines-scoped w (l ∷ ls) h = and_from (is_line_scoped w.setting.free l) _ (part-scoped w l l.part h.0) (lines-scoped w ls h.1)

pub scoped : (b : Bool) (p : Program) (c : Certificate) → AcceptsWhere b p c → are_lines_scoped p c ≡ true
scoped b p c h = lines-scoped (whole_of b p c) (lines p c) h.lines_hold
