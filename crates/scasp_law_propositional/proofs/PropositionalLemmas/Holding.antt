-- The lines of good trees hold.
use Rattle.std.specs.Prelude.{◌≡◌, ℕ, suc, ◌+◌, ◌<◌, nat_lt, Bool, true, false, Option, Some, List, [], ◌∷◌, ◌++◌, map, length}
use Rattle.std.specs.List.{list_all}
use Rattle.std.proofs.Common.{◌∙◌, refl, ap, sym, subst, arith}
use Rattle.std.proofs.lemmas.List.{length-append, map-append}
use Rattle.scasp_list.specs.Each.{Each}
use Rattle.scasp_list.proofs.EachLemmas.{Each-append}
use Rattle.scasp_checker_rules.specs.Accepted.{LineHolds, Shows, ByRule, SeenAt}
use Rattle.scasp_checker_rules.specs.Told.{Told, told_at}
use Rattle.scasp_checker_rules.specs.Wholes.{Whole, scope, checked_before}
use Rattle.scasp_cert.specs.Lines.{lines_of, lines_at}
use Rattle.scasp_cert.specs.Trees.{Tree, Trees, Branch, Branches, pos_tree, neg_tree, loop_tree, seen_tree, test_tree, no_tree, tree, split, void, leaf, head, no_branch, branch}
use Rattle.scasp_lines.specs.Below.{count}
use Rattle.scasp_lines.specs.Bodies.{Inside, inside_rule, inside_check}
use Rattle.scasp_lines.specs.Dues.{Due, goal, values_here, rule_dues, leaf_dues, head_dues, head_due, first_due, other_dues}
use Rattle.scasp_lines.specs.Known.{are_known}
use Rattle.scasp_lines.specs.Places.{Above, Around, Place}
use Rattle.scasp_lines.specs.Walk.{Part, of_node, of_rule, of_check, of_case, Line, node_walk, nodes_walk, branch_walk, covers_walk, checks_walk, line}
use Rattle.scasp_search_rules.specs.declared.states.lines.Line.{Line as Written}
use Rattle.scasp_search_rules.specs.Successors.Answers.{part_lists}
use Rattle.scasp_search_rules.specs.Successors.Cases.{failing_at}
use Rattle.scasp_syntax.specs.Flat.{flat_body}
use Rattle.scasp_syntax.specs.Programs.{numbered}
use Rattle.scasp_syntax.specs.Tm.{Tms, nil, var, items}
use Rattle.scasp_syntax.specs.Values.{giving}
use Rattle.scasp_syntax.specs.declared.atom.Atom.{Atom}
use Rattle.scasp_syntax.specs.declared.atom.Lit.{Lit}
use Rattle.scasp_syntax.specs.declared.clause.Clause.{Clause}
use Rattle.scasp_syntax.specs.declared.clause.FlatItem.{FlatItem}
use Rattle.scasp_syntax.specs.declared.clause.FlatItem.TheVariants as flat
use Rattle.scasp_law_propositional.proofs.PropositionalLemmas.Plains.{atom-kept, IsPlain, item_due, PlainClause, dues-plain, head-due, dues-failing, length-failing, place, body_for, inside_plain, rule-inside, check-inside}
use Rattle.scasp_law_propositional.proofs.PropositionalLemmas.Shapes.{above, body_in, head_in, IsPositive, node_at, IsNoLiteral, SeesLine, ChecksLine, Good, GoodTrees, GoodCase, GoodCovers, GoodChecks}

pub record PlainTold (t : Told) : Type 0 where
  pub opened : t.opened ≡ []
  pub no_argument : t.atom.args ≡ nil

abbrev pub is_plain_around : Around → Bool
is_plain_around k = k.plain

module _ (w : Whole) (ls : List Written) (ats : List ℕ) where
  abbrev pub SeesWell : Type 0
  SeesWell = (at : ℕ) (here : Place) (lit : Lit) (to : ℕ) → SeesLine w.setting.clauses ls ats at lit to → SeenAt w at here lit to

  abbrev pub ChecksWell : Type 0
  ChecksWell = (at k : ℕ) → ChecksLine w.setting.clauses ls ats at k → list_all (λ j. nat_lt j k) (checked_before w at) ≡ true

  abbrev pub IsLineOf : ℕ → Part → Type 0
  IsLineOf at (of_node due t) = node_at w.setting.clauses ls ats at ≡ t
  IsLineOf at (of_rule k a b) = IsNoLiteral w.setting.clauses ls ats at
  IsLineOf at (of_check k b) = ChecksLine w.setting.clauses ls ats at k
  IsLineOf at (of_case body b) = IsNoLiteral w.setting.clauses ls ats at

  -- Nothing has opened at the line, each case around it is plain, it is as the line of the search says, and it holds where what is seen
  -- and what is checked is right.
  pub record Fine (l : Line) : Type 0 where
    pub around : list_all is_plain_around l.here.around ≡ true
    pub told : Each PlainTold (told_at l)
    pub hints : part_lists w.given l.here l.part ≡ []
    pub stands : IsLineOf l.at l.part
    pub holds : SeesWell → ChecksWell → LineHolds w l

pub count-good : (w : Whole) (ls : List Written) (ats : List ℕ) (at : ℕ) (abv : List Above) (is : List FlatItem) (ts : Trees)
    → GoodTrees w.setting.clauses ls ats at abv is ts → count ts ≡ length is
count-good w ls ats at abv [] no_tree h = refl
count-good w ls ats at abv [] (tree t ts) h = absurd h
count-good w ls ats at abv (i ∷ is) no_tree h = absurd h
count-good w ls ats at abv (i ∷ is) (tree t ts) h = ap suc (count-good w ls ats (at + lines_of t) abv is ts h.2)

known-nil : (k : ℕ → Bool) (ts : Tms) → ts ≡ nil → are_known k ts ≡ true
known-nil k ts e = ap (are_known k) e

asked : (due : Due) (l : Lit) (positive : Bool) (a : Atom) → due ≡ goal l → l.positive ≡ positive → a ≡ l.atom
    → due ≡ goal (record { positive = positive; atom = a })
asked due l positive a e s b = e ∙ (λ i. goal (record { positive = s i; atom = sym b i }))

module _ (w : Whole) (ls : List Written) (ats : List ℕ) (plain : (k : ℕ) (c : Clause) → numbered w.setting.clauses k ≡ Some c → PlainClause c) where
  abbrev cs : List Clause
  cs = w.setting.clauses

  shows-plain : (here : Place) (due : Due) (l : Lit) (positive : Bool) (a : Atom) (ts : Tms) → due ≡ goal l → l.positive ≡ positive → a ≡ l.atom
      → a.args ≡ nil → ts ≡ nil → Shows w here due positive a ts
  shows-plain here due l positive a ts e s b n m = record {
    known = known-nil (scope w here) a.args n;
    terms_known = known-nil (scope w here) ts m;
    asked = asked due l positive a e s b;
  }

  by-rule : (at : ℕ) (abv : List Above) (l : Lit) (a : Atom) (k : ℕ) (ts : Tms) (children : Trees) → IsPositive cs l a k ts
      → GoodTrees cs ls ats at abv (body_in (numbered cs k)) children → ByRule w a k ts children
  by-rule at abv l a k ts children h g = record {
    clause = h.clause;
    named = h.named;
    atom = a;
    has_head = h.head;
    each_variable = ap (λ (z : Tms). length (items z)) h.no_term ∙ sym (plain k h.clause h.named).vars;
    instance = atom-kept (giving (items ts)) a h.no_argument;
    each_item = count-good w ls ats at abv (body_in (numbered cs k)) children g ∙ ap (λ (o : Option Clause). length (body_in o)) h.named;
  }

  -- the parts of a case where the clause is known
  case-parts : (k : ℕ) (c : Clause) (n at : ℕ) (abv : List Above) (children : Trees) → numbered cs k ≡ Some c
      → (j : ℕ) × (n ≡ suc j) × (j < length (body_in (numbered cs k))) × GoodTrees cs ls ats at abv (failing_at j (body_in (numbered cs k))) children
      → (j : ℕ) × (n ≡ suc j) × (j < length (flat_body c.body)) × GoodTrees cs ls ats at abv (failing_at j (flat_body c.body)) children
  case-parts k c n at abv children e h =
      subst (λ (o : Option Clause). (j : ℕ) × (n ≡ suc j) × (j < length (body_in o)) × GoodTrees cs ls ats at abv (failing_at j (body_in o)) children) e h

  body-of : (k : ℕ) (c : Clause) → numbered cs k ≡ Some c → Each IsPlain (body_in (numbered cs k))
  body-of k c e = subst (λ (o : Option Clause). Each IsPlain (body_in o)) (sym e) (plain k c e).body

  dues-of : (k : ℕ) (c : Clause) (here : Place) (ts : Tms) → numbered cs k ≡ Some c
      → rule_dues (numbered cs k) here ts ≡ map item_due (body_in (numbered cs k))
  dues-of k c here ts e =
      ap (λ (o : Option Clause). rule_dues o here ts) e ∙ dues-plain (values_here here (giving (items ts))) (flat_body c.body) (plain k c e).body
      ∙ ap (λ (o : Option Clause). map item_due (body_in o)) (sym e)

  mutual
    node-fine : (hidden : ℕ) (abv : List Above) (around : List Around) → list_all is_plain_around around ≡ true
        → (at next : ℕ) (due : Due) (i : FlatItem) (t : Tree) → due ≡ item_due i → node_at cs ls ats at ≡ t → Good cs ls ats at abv i t
        → Each (Fine w ls ats) (node_walk w.setting (place hidden abv around) at next due t).lines
    node-fine hidden abv around ar at next due (flat.Test c) t e n h = absurd h
    node-fine hidden abv around ar at next due (flat.Call l) (pos_tree a k ts children) e n h = (
      record {
        around = ar;
        told = (record { opened = refl; no_argument = h.0.no_argument }, tt);
        hints = refl;
        stands = n;
        holds = λ sees checks. (
          shows-plain (place hidden abv around) due l true a ts e h.0.positive h.0.atom h.0.no_argument h.0.no_term,
          by-rule (suc at) (above at true a ∷ abv) l a k ts children h.0 h.1,
        );
      },
      nodes-fine hidden (above at true a ∷ abv) around ar (suc at) next (rule_dues (numbered cs k) (place hidden abv around) ts) (body_in (numbered cs k)) children
          (dues-of k h.0.clause (place hidden abv around) ts h.0.named) h.1,
    )
    node-fine hidden abv around ar at next due (flat.Call l) (neg_tree a covers) e n h = (
      record {
        around = ar;
        told = (record { opened = refl; no_argument = h.0.no_argument }, tt);
        hints = refl;
        stands = n;
        holds = λ sees checks. (shows-plain (place hidden abv around) due l false a nil e h.0.negative h.0.atom h.0.no_argument refl, h.0.rules);
      },
      covers-fine hidden (above at false a ∷ abv) around ar (suc at) next a covers h.1,
    )
    node-fine hidden abv around ar at next due (flat.Call l) (loop_tree lit to) e n h = (
      record {
        around = ar;
        told = tt;
        hints = refl;
        stands = n;
        holds = λ sees checks. (
          shows-plain (place hidden abv around) due l lit.positive lit.atom nil e (ap (λ (z : Lit). z.positive) (sym h.0)) (ap (λ (z : Lit). z.atom) h.0)
              (ap (λ (z : Lit). z.atom.args) h.0 ∙ h.1) refl,
          record {
            entry = h.2.entry;
            found = h.2.found;
            sign = h.2.sign ∙ ap (λ (z : Lit). z.positive) (sym h.0);
            same = atom-kept var h.2.entry.atom (ap (λ (z : Atom). z.args) h.2.same ∙ h.1) ∙ h.2.same ∙ ap (λ (z : Lit). z.atom) (sym h.0);
            crosses = λ p. h.2.crosses (ap (λ (z : Lit). z.positive) (sym h.0) ∙ p);
          },
        );
      },
      tt,
    )
    node-fine hidden abv around ar at next due (flat.Call l) (seen_tree lit to) e n h = (
      record {
        around = ar;
        told = tt;
        hints = refl;
        stands = n;
        holds = λ sees checks. (
          shows-plain (place hidden abv around) due l lit.positive lit.atom nil e (ap (λ (z : Lit). z.positive) (sym h.0)) (ap (λ (z : Lit). z.atom) h.0)
              (ap (λ (z : Lit). z.atom.args) h.0 ∙ h.1) refl,
          subst (λ (z : Lit). SeenAt w at (place hidden abv around) z to) (sym h.0) (sees at (place hidden abv around) l to h.2),
        );
      },
      tt,
    )
    node-fine hidden abv around ar at next due (flat.Call l) (test_tree c hint) e n h = absurd h

    pub nodes-fine : (hidden : ℕ) (abv : List Above) (around : List Around) → list_all is_plain_around around ≡ true
        → (at next : ℕ) (dues : List Due) (is : List FlatItem) (ts : Trees) → dues ≡ map item_due is → GoodTrees cs ls ats at abv is ts
        → Each (Fine w ls ats) (nodes_walk w.setting (place hidden abv around) at next dues ts).lines
    nodes-fine hidden abv around ar at next dues [] no_tree e h = tt
    nodes-fine hidden abv around ar at next dues [] (tree t ts) e h = absurd h
    nodes-fine hidden abv around ar at next dues (i ∷ is) no_tree e h = absurd h
    nodes-fine hidden abv around ar at next dues (i ∷ is) (tree t ts) e h =
        Each-append (Fine w ls ats) _ _
        (node-fine hidden abv around ar at next (first_due dues) i t (ap first_due e) h.0 h.1)
        (nodes-fine hidden abv around ar (at + lines_of t) _ (other_dues dues) is ts (ap other_dues e) h.2)

    branch-fine : (checks : Bool) (c : Clause) (hidden : ℕ) (abv : List Above) (around : List Around) → list_all is_plain_around around ≡ true
        → (at next k : ℕ) (b : Branch) → numbered cs k ≡ Some c → GoodCase cs ls ats checks at abv k b
        → Each (Fine w ls ats) (branch_walk w.setting (place hidden abv around) at next (body_for checks c) b).lines
    branch-fine checks c hidden abv around ar at next k (split d first second) e h = absurd h
    branch-fine checks c hidden abv around ar at next k (void hint) e h = absurd h
    branch-fine checks c hidden abv around ar at next k (leaf n children) e h =
        let g = case-parts k c n (suc at) abv children e (h.1, h.2, h.3, h.4) in
        let dues = ap (λ (m : ℕ). leaf_dues (place hidden abv around) (body_for checks c) m) g.1 ∙ dues-failing _ g.0 (flat_body c.body) (plain k c e).body in
        let count = count-good w ls ats (suc at) abv (failing_at g.0 (flat_body c.body)) children g.3 ∙ length-failing g.0 (flat_body c.body) g.2 ∙ sym g.1 in
        let number = g.1 in
        let within = g.2 in (
          record {
            around = ar;
            told = tt;
            hints = refl;
            stands = h.0;
            holds = λ sees checks. (count, omega (arith, number), omega (arith, number, within));
          },
          nodes-fine hidden abv (record { at = at; plain = true } ∷ around) ar (suc at) next (leaf_dues (place hidden abv around) (body_for checks c) n)
              (failing_at g.0 (flat_body c.body)) children dues g.3,
        )
    branch-fine checks c hidden abv around ar at next k (head children) e h =
        let one : FlatItem = flat.Call (record { positive = true; atom = h.1 }) in
        let o : c.head ≡ Some h.1 = ap head_in (sym e) ∙ h.3 in
        let none : h.1.args ≡ nil = (plain k c e).head h.1 o in
        let g : GoodTrees cs ls ats (suc at) abv (flat_body c.body ++ one ∷ []) children =
        subst (λ (z : Option Clause). GoodTrees cs ls ats (suc at) abv (body_in z ++ one ∷ []) children) e h.4 in
        let m = values_here (place hidden abv around) (body_for checks c).values in
        let dues : head_dues (place hidden abv around) (body_for checks c) ≡ map item_due (flat_body c.body ++ one ∷ []) =
        ap (λ (z : List Due). z ++ head_due m c.head) (dues-plain m (flat_body c.body) (plain k c e).body)
        ∙ ap (λ (z : Option Atom). map item_due (flat_body c.body) ++ head_due m z) o
        ∙ ap (λ (z : List Due). map item_due (flat_body c.body) ++ z) (head-due m h.1 none)
        ∙ sym (map-append item_due (flat_body c.body) (one ∷ [])) in
        let count : count children ≡ length (flat_body c.body) + 1 =
        count-good w ls ats (suc at) abv (flat_body c.body ++ one ∷ []) children g ∙ length-append (flat_body c.body) (one ∷ []) in (
          record {
            around = ar;
            told = tt;
            hints = refl;
            stands = h.0;
            holds = λ sees ascend. (count, h.2, h.1, o);
          },
          nodes-fine hidden abv (record { at = at; plain = true } ∷ around) ar (suc at) next (head_dues (place hidden abv around) (body_for checks c))
              (flat_body c.body ++ one ∷ []) children dues g,
        )

    covers-fine : (hidden : ℕ) (abv : List Above) (around : List Around) → list_all is_plain_around around ≡ true
        → (at next : ℕ) (a : Atom) (bs : Branches) → GoodCovers cs ls ats at abv bs
        → Each (Fine w ls ats) (covers_walk w.setting (place hidden abv around) at next a bs).lines
    covers-fine hidden abv around ar at next a no_branch h = tt
    covers-fine hidden abv around ar at next a (branch k b bs) h =
        let c : Clause = h.0.1.0 in
        let named : numbered cs k ≡ Some c = h.0.1.1 in
        let here : Place = place hidden abv around in
        let inside : inside_rule (numbered cs k) a next here ≡ inside_plain false c next here =
        ap (λ (o : Option Clause). inside_rule o a next here) named ∙ rule-inside c a next hidden abv around (plain k c named) in
        let P : Inside → Type 0 = λ i. Each (Fine w ls ats) (branch_walk w.setting i.here (suc at) i.next i.body b).lines in
        let below : P (inside_rule (numbered cs k) a next here) = subst P (sym inside) (branch-fine false c hidden abv around ar (suc at) next k b named h.0.2) in
        let first : Fine w ls ats (line at next here (of_rule k a b)) =
        record { around = ar; told = tt; hints = refl; stands = h.0.0; holds = λ sees ascend. tt } in
        Each-append (Fine w ls ats) (line at next here (of_rule k a b) ∷ _) _ (first, below) (covers-fine hidden abv around ar (at + (1 + lines_at b)) _ a bs h.1)

  pub checks-fine : (hidden : ℕ) (at next : ℕ) (checks : List (ℕ × Branch)) → GoodChecks cs ls ats at [] checks
      → Each (Fine w ls ats) (checks_walk w.setting (place hidden [] []) at next checks).lines
  checks-fine hidden at next [] h = tt
  checks-fine hidden at next (d ∷ ds) h =
      let c : Clause = h.0.1.0 in
      let named : numbered cs d.0 ≡ Some c = h.0.1.1 in
      let here : Place = place hidden [] [] in
      let inside : inside_check (numbered cs d.0) next here ≡ inside_plain true c next here =
      ap (λ (o : Option Clause). inside_check o next here) named ∙ check-inside c next hidden [] [] (plain d.0 c named) in
      let P : Inside → Type 0 = λ i. Each (Fine w ls ats) (branch_walk w.setting i.here (suc at) i.next i.body d.1).lines in
      let below : P (inside_check (numbered cs d.0) next here) = subst P (sym inside) (branch-fine true c hidden [] [] refl (suc at) next d.0 d.1 named h.0.2) in
      let first : Fine w ls ats (line at next here (of_check d.0 d.1)) =
      record { around = refl; told = tt; hints = refl; stands = h.0.0; holds = λ sees ascend. (c, named, ascend at d.0 h.0.0) } in
      Each-append (Fine w ls ats) (line at next here (of_check d.0 d.1) ∷ _) _ (first, below) (checks-fine hidden (at + (1 + lines_at d.1)) _ ds h.1)
