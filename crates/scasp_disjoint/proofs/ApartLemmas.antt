-- Literals on lines, and what they have in common.
use Rattle.std.proofs.Common.{◌≡◌, ◌∙◌, ℕ, Bool, true, false, List, [], ◌∷◌, nat_eq, Option, None, Some, refl, ap, sym, subst}
use Rattle.std.specs.List.{Contains, list_all}
use Rattle.std.proofs.lemmas.Bool.{cond-true, cond-false}
use Rattle.std.proofs.lemmas.Option.{some_pair_parts}
use Rattle.scasp_checker_rules.proofs.ApartLemmas.{shown-apart}
use Rattle.scasp_checker_rules.proofs.HintLemmas.{context-met}
use Rattle.scasp_unify.proofs.Members.{Each-member}
use Rattle.scasp_checker_rules.proofs.NormalityLemmas.{OpenedNormal, context-normal, opened-normal}
use Rattle.scasp_checker_rules.specs.Normality.{AreRowsNormal, LineNormal}
use Rattle.scasp_checker_rules.specs.Pairs.{is_pair, told_on}
use Rattle.scasp_checker_rules.specs.Told.{Told, told, all_told, told_at, told_by_node, told_by_part}
use Rattle.scasp_cert.specs.Certificate.{Certificate}
use Rattle.scasp_cert.specs.Trees.{Tree, pos_tree, neg_tree, loop_tree, seen_tree, test_tree}
use Rattle.scasp_disjoint.specs.ByLines.{list_of_pair, pair_of, pair_on}
use Rattle.scasp_hint.specs.Showing.{fault_of}
use Rattle.scasp_lines.specs.Lines.{free_of, lines}
use Rattle.scasp_lines.specs.Opened.{IsInstance, Opened}
use Rattle.scasp_lines.specs.Walk.{Line, Part, of_node, of_rule, of_check, of_case}
use Rattle.scasp_list.proofs.MemberLemmas.{Contains-from_flat_map, Contains-here, Contains-none, Contains-single, Contains-there}
use Rattle.scasp_syntax.specs.Constraints.{Meets}
use Rattle.scasp_syntax.specs.Tm.{Tm}
use Rattle.scasp_syntax.specs.Values.{Sub, Valuation, all_under}
use Rattle.scasp_syntax.specs.declared.hint.Hint.{Hint}
use Rattle.scasp_syntax.specs.declared.program.Program.{Program}

-- the literal that is found on a line is one of them
on-line : (at : ℕ) (ts : List Told) (a : Told) → told_on at ts ≡ Some a → Contains ts a
on-line at [] a e = cc
on-line at (t ∷ ts) a e = by (nat_eq t.at at) refl (on-line at ts a)
  where
    by : (b : Bool) → nat_eq t.at at ≡ b → (told_on at ts ≡ Some a → Contains ts a) → Contains (t ∷ ts) a
    by true f rest =
        let s : Some t ≡ Some a = sym (cond-true (nat_eq t.at at) (Some t) (told_on at ts) f) ∙ e in
        let same : t ≡ a = cc in subst (λ (x : Told). Contains (t ∷ ts) x) same (Contains-here t ts)
    by false f rest = Contains-there t ts a (rest (sym (cond-false (nat_eq t.at at) (Some t) (told_on at ts) f) ∙ e))

pub record Both (x y : Option Told) (a b : Told) : Type 0 where
  pub first : x ≡ Some a
  pub second : y ≡ Some b

-- both literals of a pair are there
both-there : (x y : Option Told) (a b : Told) → pair_of x y ≡ Some (a, b) → Both x y a b
both-there None y a b e = cc
both-there (Some s) None a b e = cc
both-there (Some s) (Some t) a b e = by (is_pair s t) refl
  where
    by : (k : Bool) → is_pair s t ≡ k → Both (Some s) (Some t) a b
    by true f =
        let parts = some_pair_parts s a t b (sym (cond-true (is_pair s t) (Some (s, t)) None f) ∙ e) in
        record { first = ap Some parts.0; second = ap Some parts.1 }
    by false f = let g : None ≡ Some (a, b) = sym (cond-false (is_pair s t) (Some (s, t)) None f) ∙ e in cc

node-opened : (at : ℕ) (os : List Opened) (t : Tree) (a : Told) → Contains (told_by_node at os t) a → os ≡ a.opened
node-opened at os (pos_tree x k ts children) a h = ap (λ (y : Told). y.opened) (Contains-single (told at os true x) a h)
node-opened at os (neg_tree x covers) a h = ap (λ (y : Told). y.opened) (Contains-single (told at os false x) a h)
node-opened at os (loop_tree l to) a h = absurd (Contains-none a h)
node-opened at os (seen_tree l to) a h = absurd (Contains-none a h)
node-opened at os (test_tree k hint) a h = absurd (Contains-none a h)

part-opened : (at : ℕ) (os : List Opened) (part : Part) (a : Told) → Contains (told_by_part at os part) a → os ≡ a.opened
part-opened at os (of_node due t) a h = node-opened at os t a h
part-opened at os (of_rule k x b) a h = absurd (Contains-none a h)
part-opened at os (of_check k b) a h = absurd (Contains-none a h)
part-opened at os (of_case body b) a h = absurd (Contains-none a h)

-- what opened above a literal of the certificate has rows in normal form
told-normal : (p : Program) (c : Certificate) → AreRowsNormal p c → (a : Told) → Contains (all_told (lines p c)) a → OpenedNormal a.opened
told-normal p c n a h =
    let q = Contains-from_flat_map told_at (lines p c) a h in
    let l : Line = q.0 in
    subst OpenedNormal (part-opened l.at l.here.opened l.part a q.2)
    (opened-normal p c (λ k i. Each-member LineNormal (lines p c) k n.lines_normal i) l q.1)

pub none-in_common : (p : Program) (c : Certificate) (i j : ℕ) (a b : Told) (h : Hint) → AreRowsNormal p c → pair_on p c i j ≡ Some (a, b)
    → fault_of (list_of_pair c (a, b)) h ≡ None → (d : List Tm) (free : Sub) (v w : Valuation) → IsInstance (free_of c) d free a.opened v.of
    → IsInstance (free_of c) d free b.opened w.of → Meets v.of c.given → all_under v.of a.atom.args ≡ all_under w.of b.atom.args → ⊥
none-in_common p c i j a b h n e shown d free v w x y given same =
    let ts = all_told (lines p c) in
    let both = both-there (told_on i ts) (told_on j ts) a b e in
    let na = told-normal p c n a (on-line i ts a both.first) in
    let nb = told-normal p c n b (on-line j ts b both.second) in
    shown-apart (free_of c) c.given a b h (context-normal c.given a.opened n.given na) (context-normal [] b.opened tt nb) shown v.of w.of v.ground w.ground
    (λ z l. x.free_values z l ∙ sym (y.free_values z l)) (context-met d c.given a.opened v.of given x.met) (context-met d [] b.opened w.of refl y.met) same
