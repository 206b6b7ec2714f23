-- What is due on a line is carried by a line of the literal, which has the same instance.
use Rattle.std.proofs.Common.{◌≡◌, ◌∙◌, ◌⊎◌, ℕ, suc, ◌<◌, ◌≤◌, Bool, true, false, ◌||◌, not, nat_eq, List, [], ◌∷◌, ◌++◌, append-nil, Some, refl, ap, sym, subst, inl, inr, arith}
use Rattle.std.specs.List.{Contains, list_all, list_any}
use Rattle.std.proofs.lemmas.Bool.{and_parts, cases_Bool, or_cases, cond-true, cond-false}
use Rattle.std.proofs.lemmas.Bool.Decides.{Decides-eqb}
use Rattle.scasp_syntax.specs.Instances.{atom_under}
use Rattle.scasp_syntax.specs.Programs.{numbered}
use Rattle.scasp_syntax.specs.Values.{Sub, under}
use Rattle.scasp_syntax.specs.Tm.{Tms}
use Rattle.scasp_syntax.specs.declared.atom.Atom.{Atom}
use Rattle.scasp_syntax.specs.declared.atom.Lit.{Lit}
use Rattle.scasp_syntax.specs.declared.program.Program.{Program}
use Rattle.scasp_syntax.proofs.ValueLemmas.{all_under-all_under}
use Rattle.scasp_cert.specs.Certificate.{Certificate}
use Rattle.scasp_cert.specs.Trees.{Tree, pos_tree, neg_tree, loop_tree, seen_tree, test_tree}
use Rattle.scasp_lines.specs.Dues.{Due, goal, fact, nothing}
use Rattle.scasp_lines.specs.Lines.{lines}
use Rattle.scasp_lines.specs.Opened.{Opened}
use Rattle.scasp_lines.specs.Places.{Above, Around}
use Rattle.scasp_lines.specs.Surroundings.{Extends, IsNodeOf, IsLiteral, IsAbove, AreAbove, IsAround, AreAround, OpenedAt, IfPlain, OpensInnermost}
use Rattle.scasp_lines.specs.Walk.{Part, of_node, of_rule, of_check, of_case, Line}
use Rattle.scasp_lines.proofs.WalkLemmas.{line-found}
use Rattle.scasp_checker_rules.proofs.ApartLemmas.{all-alike}
use Rattle.scasp_checker_rules.specs.Accepted.{LoopsTo, SeenAt, IsTreeOf}
use Rattle.scasp_checker_rules.specs.Ancestors.{entry_at, is_negated_before}
use Rattle.scasp_checker_rules.specs.Firm.{is_firm}
use Rattle.scasp_checker_rules.specs.Targets.{is_around}
use Rattle.scasp_checker_rules.specs.Wholes.{whole_of}
use Rattle.scasp_law_promise.specs.Carriers.{negations, itself, looped, seen, Carrier}
use Rattle.scasp_law_promise.specs.Premises.{Premises, IsAt}
use Rattle.scasp_law_promise.proofs.InstanceLemmas.{part-holds, node-surrounded, replaced, at-before}
use Rattle.scasp_checker_rules.proofs.ListLemmas.{numbered-contains}

-- ---- literals above

-- The entry that is found, as a line, with what stands above that.
pub record FoundAbove (ls : List Line) (os : List Opened) (es : List Above) (to : ℕ) (e : Above) : Type 0 where
  pub rest : List Above
  pub is : IsAbove ls os e rest
  pub fewer : negations rest ≤ negations es
  pub crosses : is_negated_before to es ≡ true → negations rest < negations es

negations-more : (e : Above) (es : List Above) → negations es ≤ negations (e ∷ es)
negations-more e es = by e.positive
  where
    by : (b : Bool) → negations es ≤ negations (record { at = e.at; positive = b; atom = e.atom } ∷ es)
    by true = omega arith
    by false = omega arith

negations-negated : (e : Above) (es : List Above) → e.positive ≡ false → negations (e ∷ es) ≡ suc (negations es)
negations-negated e es f = by e.positive f
  where
    by : (b : Bool) → b ≡ false → negations (record { at = e.at; positive = b; atom = e.atom } ∷ es) ≡ suc (negations es)
    by true f = cc
    by false f = refl

found-above : (ls : List Line) (os : List Opened) (es : List Above) (to : ℕ) (e : Above) → AreAbove ls os es → entry_at to es ≡ Some e → FoundAbove ls os es to e
found-above ls os [] to e h f = cc
found-above ls os (k ∷ es) to e h f = elim (cases_Bool (nat_eq k.at to)) [
  | inl i ↦
      (let same : k ≡ e = (let q = sym (cond-true (nat_eq k.at to) (Some k) (entry_at to es) i) ∙ f in cc) in
      record {
        rest = es;
        is = subst (λ (z : Above). IsAbove ls os z es) same h.0;
        fewer = negations-more k es;
        crosses = λ g. (let q = sym (cond-true (nat_eq k.at to) false (not k.positive || is_negated_before to es) i) ∙ g in cc);
      })
  | inr i ↦
      (let below = found-above ls os es to e h.1 (sym (cond-false (nat_eq k.at to) (Some k) (entry_at to es) i) ∙ f) in
      let fewer : negations below.rest ≤ negations es = below.fewer in
      let more : negations es ≤ negations (k ∷ es) = negations-more k es in
      record {
        rest = below.rest;
        is = below.is;
        fewer = omega (arith, fewer, more);
        crosses = λ g. crossing below.rest below.fewer below.crosses (or_cases (not k.positive) (is_negated_before to es) (sym (cond-false (nat_eq k.at to) false (not k.positive || is_negated_before to es) i) ∙ g));
      })
]
  where
    not-positive : (b : Bool) → not b ≡ true → b ≡ false
    not-positive true e = cc
    not-positive false e = refl

    crossing : (rest : List Above) → negations rest ≤ negations es → (is_negated_before to es ≡ true → negations rest < negations es)
        → ((not k.positive ≡ true) ⊎ (is_negated_before to es ≡ true)) → negations rest < negations (k ∷ es)
    crossing rest fewer deeper (inl e) = let q = negations-negated k es (not-positive k.positive e) in omega (arith, fewer, q)
    crossing rest fewer deeper (inr e) = let q : negations rest < negations es = deeper e in let r = negations-more k es in omega (arith, q, r)

-- ---- cases around

found-around : (ls : List Line) (os : List Opened) (es : List Around) (at : ℕ) → AreAround ls os es → list_any (λ k. nat_eq k.at at) es ≡ true
    → (e : Around) × IsAround ls os e × (e.at ≡ at)
found-around ls os [] at h f = cc
found-around ls os (k ∷ es) at h f = elim (or_cases (nat_eq k.at at) (list_any (λ k. nat_eq k.at at) es) f) [
  | inl i ↦ (k, h.0, (Decides-eqb k.at at).0 i)
  | inr i ↦ found-around ls os es at h.1 i
]

module _ (p : Program) (c : Certificate) where
  -- two lines with one number are one
  pub one-line : (k l : Line) → Contains (lines p c) k → Contains (lines p c) l → k.at ≡ l.at → k ≡ l
  one-line k l i j e =
      let f = line-found p.clauses p.queries c k i in
      let g = line-found p.clauses p.queries c l j in
      let s : numbered (lines p c) k.at ≡ Some l = ap (numbered (lines p c)) e ∙ g in
      cc

  -- What opened at a line, where each case around that is not plain is around here, opened here too.
  opened-before : (os ps : List Opened) (around es : List Around) → AreAround (lines p c) os around → OpensInnermost (lines p c) ps es
      → list_all (is_around around) es ≡ true → Extends os ps
  opened-before os ps around [] a i h = record { more = os; is = sym (append-nil os) ∙ ap (λ qs. os ++ qs) (sym i) }
  opened-before os ps around (e ∷ es) a i h =
      let q = and_parts (is_around around e) (list_all (is_around around) es) h in
      by e.plain refl i q.0 (λ j. opened-before os ps around es a j q.1)
    where
      by : (plain : Bool) → e.plain ≡ plain → IfPlain plain (OpensInnermost (lines p c) ps es) (OpenedAt (lines p c) ps e.at)
          → (plain || list_any (λ k. nat_eq k.at e.at) around) ≡ true → (OpensInnermost (lines p c) ps es → Extends os ps) → Extends os ps
      by true f j g rest = rest j
      by false f j g rest =
          let k = found-around (lines p c) os around e.at a g in
          let there = k.1 in
          let same : there.line ≡ j.line = one-line there.line j.line there.listed j.listed (there.number ∙ k.2 ∙ sym j.number) in
          subst (λ (qs : List Opened). Extends os qs) (ap (λ (z : Line). z.here.opened) same ∙ j.same) there.opened

-- ---- carriers

pub atom-composed : (v r : Sub) (a : Atom) → ((x : ℕ) → v x ≡ under v (r x)) → atom_under v (atom_under r a) ≡ atom_under v a
atom-composed v r a h =
    ap (λ (ts : Tms). let k : Atom = record { minus = a.minus; name = a.name; args = ts } in k)
    (all_under-all_under v r a.args ∙ sym (all-alike v (λ x. under v (r x)) h a.args))

node-of : (part : Part) (positive : Bool) (a : Atom) → IsLiteral part positive a → (due : Due) × (t : Tree) × (part ≡ of_node due t) × IsNodeOf t positive a
node-of (of_node due t) positive a h = (due, t, refl, h)
node-of (of_rule k b case) positive a h = elim h [ ]
node-of (of_check k case) positive a h = elim h [ ]
node-of (of_case body case) positive a h = elim h [ ]

tree-node : (l : Lit) (t : Tree) → IsTreeOf l t → IsNodeOf t l.positive l.atom × (l.positive ≡ true → is_firm t ≡ true)
tree-node l (pos_tree a k ts children) h = ((h.0, h.1), λ e. h.2)
tree-node l (neg_tree a covers) h = ((h.0, h.1), λ e. refl)
tree-node l (loop_tree k to) h = elim h [ ]
tree-node l (seen_tree k to) h = elim h [ ]
tree-node l (test_tree k hint) h = elim h [ ]

goal-is : (l : Lit) (positive : Bool) (a : Atom) → goal l ≡ goal (record { positive = positive; atom = a }) → l ≡ record { positive = positive; atom = a }
goal-is l positive a e = ap lit e
  where
    lit : Due → Lit
    lit (goal k) = k
    lit (fact o) = l
    lit nothing = l

module _ (b : Bool) (p : Program) (c : Certificate) (m : Premises b p c) (x : Line) (v : Sub) (at : IsAt b p c m x v) where
  by-loop : (l : Lit) (to : ℕ) → x.part ≡ of_node (goal l) (loop_tree l to) → LoopsTo x.here l to → Carrier b p c m x (loop_tree l to) l v
  by-loop l to e h =
      let s = (node-surrounded b p c m x (goal l) (loop_tree l to) at.listed e).surrounded in
      let f = found-above (lines p c) x.here.opened x.here.above to h.entry s.above h.found in
      let there = f.is in
      let n = node-of there.line.part h.entry.positive h.entry.atom there.literal in
      record {
        line = there.line;
        at = at-before b p c m x v at there.line there.listed there.opened;
        due = n.0;
        tree = n.1;
        node = n.2;
        atom = h.entry.atom;
        literal = subst (λ (z : Bool). IsNodeOf n.1 z h.entry.atom) h.sign n.3;
        same = sym (atom-composed v x.here.replaced h.entry.atom (replaced b p c m x v at)) ∙ ap (atom_under v) h.same;
        how = looped (λ pos. (ap not pos, subst (λ (es : List Above). negations es < negations x.here.above) (sym there.above) (f.crosses (h.crosses pos))));
      }

  by-seen : (l : Lit) (to : ℕ) → x.part ≡ of_node (goal l) (seen_tree l to) → SeenAt (whole_of b p c) x.at x.here l to → Carrier b p c m x (seen_tree l to) l v
  by-seen l to e h =
      let i = numbered-contains (lines p c) to h.line h.found in
      let here = node-surrounded b p c m x (goal l) (seen_tree l to) at.listed e in
      let there = node-surrounded b p c m h.line h.due h.tree i h.node in
      let n = tree-node l h.tree h.literal in
      record {
        line = h.line;
        at = at-before b p c m x v at h.line i (opened-before p c x.here.opened h.line.here.opened x.here.around h.line.here.around here.surrounded.around there.innermost h.around);
        due = h.due;
        tree = h.tree;
        node = h.node;
        atom = l.atom;
        literal = n.0;
        same = refl;
        how = seen h.ended n.1;
      }

  -- what is due on a line is carried
  pub carrier : (l : Lit) (t : Tree) → x.part ≡ of_node (goal l) t → Carrier b p c m x t l v
  carrier l (pos_tree a k ts children) e =
      let h = part-holds b p c m x (of_node (goal l) (pos_tree a k ts children)) at.listed e in
      let same = goal-is l true a h.0.asked in
      record {
        line = x;
        at = at;
        due = goal l;
        tree = pos_tree a k ts children;
        node = e;
        atom = a;
        literal = (ap (λ (z : Lit). z.positive) same, refl);
        same = ap (λ (z : Lit). atom_under v z.atom) (sym same);
        how = itself refl;
      }
  carrier l (neg_tree a covers) e =
      let h = part-holds b p c m x (of_node (goal l) (neg_tree a covers)) at.listed e in
      let same = goal-is l false a h.0.asked in
      record {
        line = x;
        at = at;
        due = goal l;
        tree = neg_tree a covers;
        node = e;
        atom = a;
        literal = (ap (λ (z : Lit). z.positive) same, refl);
        same = ap (λ (z : Lit). atom_under v z.atom) (sym same);
        how = itself refl;
      }
  carrier l (loop_tree lit to) e =
      let h = part-holds b p c m x (of_node (goal l) (loop_tree lit to)) at.listed e in
      let same : lit ≡ l = sym (goal-is l lit.positive lit.atom h.0.asked) in
      subst (λ (k : Lit). x.part ≡ of_node (goal l) (loop_tree k to) → LoopsTo x.here k to → Carrier b p c m x (loop_tree k to) l v) (sym same) (by-loop l to) e h.1
  carrier l (seen_tree lit to) e =
      let h = part-holds b p c m x (of_node (goal l) (seen_tree lit to)) at.listed e in
      let same : lit ≡ l = sym (goal-is l lit.positive lit.atom h.0.asked) in
      subst (λ (k : Lit). x.part ≡ of_node (goal l) (seen_tree k to) → SeenAt (whole_of b p c) x.at x.here k to → Carrier b p c m x (seen_tree k to) l v) (sym same) (by-seen l to) e h.1
  carrier l (test_tree k hint) e =
      let h = part-holds b p c m x (of_node (goal l) (test_tree k hint)) at.listed e in
      let f = h.asked in cc
