-- No atom is said to be true and false.
use Rattle.std.proofs.Common.{◌≡◌, ◌∙◌, ℕ, Bool, true, false, ◌&&◌, not, nat_eq, nat_lt, cond, List, [], ◌∷◌, ◌++◌, map, filter, None, refl, ap, sym, subst, inl, inr, ◌⊎◌}
use Rattle.std.specs.List.{Contains, list_all}
use Rattle.std.proofs.lemmas.Bool.{and_parts, and_from, cases_Bool}
use Rattle.std.proofs.lemmas.Bool.Decides.{Decides-eqb}
use Rattle.std.proofs.lemmas.List.Elements.{Contains-append_left, Contains-append_right}
use Rattle.scasp_list.proofs.MemberLemmas.{Contains-none, Contains-here, Contains-cases, Contains-map, Contains-flat_map, Contains-filter}
use Rattle.scasp_syntax.specs.Constraints.{holds}
use Rattle.scasp_syntax.specs.Instances.{atom_under}
use Rattle.scasp_syntax.specs.Programs.{pred_of}
use Rattle.scasp_syntax.specs.Same.{same_bool, same_pred}
use Rattle.scasp_syntax.specs.Values.{Sub, is_ground, all_under}
use Rattle.scasp_syntax.specs.declared.atom.Atom.{Atom}
use Rattle.scasp_syntax.specs.declared.atom.Pred.{Pred}
use Rattle.scasp_syntax.specs.declared.hint.Hint.{Hint}
use Rattle.scasp_syntax.specs.declared.hint.Hint.TheVariants as hints
use Rattle.scasp_syntax.specs.declared.program.Program.{Program}
use Rattle.scasp_model.specs.Atoms.{among}
use Rattle.scasp_cert.specs.Certificate.{Certificate}
use Rattle.scasp_cert.specs.Trees.{Tree, pos_tree, neg_tree, loop_tree, seen_tree, test_tree}
use Rattle.scasp_hint.specs.AskedRows.{RowsNormal}
use Rattle.scasp_hint.specs.Showing.{fault_of}
use Rattle.scasp_lines.specs.Contexts.{context}
use Rattle.scasp_lines.specs.Lines.{free_of, lines}
use Rattle.scasp_lines.specs.Opened.{Opened}
use Rattle.scasp_lines.specs.Said.{true_atoms, false_atoms}
use Rattle.scasp_lines.specs.Surroundings.{IsNodeOf}
use Rattle.scasp_lines.specs.Walk.{Part, Line}
use Rattle.scasp_checker_rules.specs.Accepted.{AreApart}
use Rattle.scasp_checker_rules.specs.PairLists.{pair_list}
use Rattle.scasp_checker_rules.specs.Pairs.{is_pair, all_pairs}
use Rattle.scasp_checker_rules.specs.Told.{Told, told, told_by_node, told_by_part, told_at, all_told}
use Rattle.scasp_checker_rules.proofs.ApartLemmas.{shown-apart}
use Rattle.scasp_checker_rules.proofs.HintLemmas.{context-met}
use Rattle.scasp_unify.proofs.Members.{Each-member}
use Rattle.scasp_checker_rules.proofs.NodeLemmas.{pred-under, same-pred}
use Rattle.scasp_checker_rules.proofs.NormalityLemmas.{context-normal, opened-normal}
use Rattle.scasp_law_promise.specs.Premises.{Premises, IsAt}
use Rattle.scasp_law_promise.proofs.InstanceLemmas.{normal-at, given-holds}
use Rattle.scasp_law_promise.proofs.SayingLemmas.{said-by_line}

-- ---- pairs

pair-turned : (s t : Told) → is_pair s t ≡ true → is_pair t s ≡ true
pair-turned s t e =
    let p = and_parts (not (same_bool s.positive t.positive)) (same_pred (pred_of s.atom) (pred_of t.atom)) e in
    and_from _ _ (signs s.positive t.positive p.0) (preds (pred_of s.atom) (pred_of t.atom) p.1)
  where
    signs : (a b : Bool) → not (same_bool a b) ≡ true → not (same_bool b a) ≡ true
    signs true true e = e
    signs true false e = e
    signs false true e = e
    signs false false e = e

    bools : (a b : Bool) → same_bool a b ≡ true → same_bool b a ≡ true
    bools true true e = e
    bools true false e = e
    bools false true e = e
    bools false false e = e

    numbers : (a b : ℕ) → nat_eq a b ≡ true → nat_eq b a ≡ true
    numbers a b e = let q = (Decides-eqb a b).0 e in (Decides-eqb b a).1 (sym q)

    preds : (a b : Pred) → same_pred a b ≡ true → same_pred b a ≡ true
    preds a b e =
        let p = and_parts (same_bool a.minus b.minus && nat_eq a.name b.name) (nat_eq a.arity b.arity) e in
        let q = and_parts (same_bool a.minus b.minus) (nat_eq a.name b.name) p.0 in
        and_from _ _ (and_from _ _ (bools a.minus b.minus q.0) (numbers a.name b.name q.1)) (numbers a.arity b.arity p.1)

no-self : (s : Told) → is_pair s s ≡ true → ⊥
no-self s e = by s.positive (and_parts (not (same_bool s.positive s.positive)) (same_pred (pred_of s.atom) (pred_of s.atom)) e).0
  where
    by : (b : Bool) → not (same_bool b b) ≡ true → ⊥
    by true e = cc
    by false e = cc

-- two literals that are a pair are one of the pairs, in one order
pair-listed : (ts : List Told) (s t : Told) → Contains ts s → Contains ts t → is_pair s t ≡ true → Contains {X = Told × Told} (all_pairs ts) (s, t) ⊎ Contains {X = Told × Told} (all_pairs ts) (t, s)
pair-listed [] s t i j e = absurd (Contains-none s i)
pair-listed (k ∷ ts) s t i j e = by (Contains-cases k ts s i) (Contains-cases k ts t j) (λ x y. pair-listed ts s t x y e)
  where
    own : List (Told × Told)
    own = map (λ b. (k, b)) (filter (is_pair k) ts)

    here : (x y : Told) → k ≡ x → Contains ts y → is_pair x y ≡ true → Contains {X = Told × Told} (own ++ all_pairs ts) (x, y)
    here x y f g h =
        Contains-append_left own (all_pairs ts) (x, y)
        (subst (λ (z : Told). Contains {X = Told × Told} (map (λ b. (k, b)) (filter (is_pair k) ts)) (z, y)) f
        (Contains-map (λ b. (k, b)) (filter (is_pair k) ts) y (Contains-filter (is_pair k) ts y g (subst (λ (z : Told). is_pair z y ≡ true) (sym f) h))))

    by : ((k ≡ s) ⊎ Contains ts s) → ((k ≡ t) ⊎ Contains ts t) → (Contains ts s → Contains ts t → Contains {X = Told × Told} (all_pairs ts) (s, t) ⊎ Contains {X = Told × Told} (all_pairs ts) (t, s))
        → Contains {X = Told × Told} (own ++ all_pairs ts) (s, t) ⊎ Contains {X = Told × Told} (own ++ all_pairs ts) (t, s)
    by (inl f) (inl g) rest = absurd (no-self s (subst (λ (z : Told). is_pair s z ≡ true) (sym g ∙ f) e))
    by (inl f) (inr g) rest = inl (here s t f g e)
    by (inr f) (inl g) rest = inr (here t s g f (pair-turned s t e))
    by (inr f) (inr g) rest = elim (rest f g) [
      | inl h ↦ inl (Contains-append_right own (all_pairs ts) (s, t) h)
      | inr h ↦ inr (Contains-append_right own (all_pairs ts) (t, s) h)
    ]

told-there : (at : ℕ) (os : List Opened) (t : Tree) (positive : Bool) (a : Atom) → IsNodeOf t positive a → Contains (told_by_node at os t) (told at os positive a)
told-there at os (pos_tree x k ts children) positive a h =
    rw (h.0, sym h.1) (Contains-here (told at os true x) [])
told-there at os (neg_tree x covers) positive a h =
    rw (h.0, sym h.1) (Contains-here (told at os false x) [])
told-there at os (loop_tree l to) positive a h = elim h [ ]
told-there at os (seen_tree l to) positive a h = elim h [ ]
told-there at os (test_tree k hint) positive a h = elim h [ ]

module _ (b : Bool) (p : Program) (c : Certificate) (m : Premises b p c) where
  -- What is told, at values that are an instance of its line.
  pub record ToldAt (t : Told) (v : Sub) : Type 0 where
    pub whole_normal : RowsNormal (context c.given t.opened)
    pub own_normal : RowsNormal (context [] t.opened)
    pub whole_met : list_all (holds v) (context c.given t.opened) ≡ true
    pub own_met : list_all (holds v) (context [] t.opened) ≡ true
    pub ground : (x : ℕ) → is_ground (v x) ≡ true
    pub free : (x : ℕ) → nat_lt x (free_of c) ≡ true → v x ≡ m.free.of x

  told-is_at : (l : Line) (v : Sub) → IsAt b p c m l v → (positive : Bool) (a : Atom) → ToldAt (told l.at l.here.opened positive a) v
  told-is_at l v at positive a =
      let n = opened-normal p c (normal-at b p c m) l at.listed in
      record {
        whole_normal = context-normal c.given l.here.opened m.normal.given n;
        own_normal = context-normal [] l.here.opened tt n;
        whole_met = context-met m.domain c.given l.here.opened v (given-holds b p c m v at.instance.free_values) at.instance.met;
        own_met = context-met m.domain [] l.here.opened v refl at.instance.met;
        ground = at.ground;
        free = at.instance.free_values;
      }

  by-hint : (s t : Told) (v w : Sub) → ToldAt s v → ToldAt t w → (h : Hint) → fault_of (pair_list (free_of c) c.given s t) h ≡ None → all_under v s.atom.args ≡ all_under w t.atom.args → ⊥
  by-hint s t v w f g h shown e =
      shown-apart (free_of c) c.given s t h f.whole_normal g.own_normal shown v w f.ground g.ground (λ x l. f.free x l ∙ sym (g.free x l)) f.whole_met g.own_met e

  no-common : (s t : Told) (v w : Sub) → ToldAt s v → ToldAt t w → all_under v s.atom.args ≡ all_under w t.atom.args → AreApart c (s, t) → ⊥
  no-common s t v w f g e (inl shown) = by-hint s t v w f g hints.Terms shown e
  no-common s t v w f g e (inr k) = by (nat_eq k.clash.first s.at) k.shown
    where
      by : (x : Bool) → fault_of (cond x (pair_list (free_of c) c.given s t) (pair_list (free_of c) c.given t s)) k.clash.hint ≡ None → ⊥
      by true shown = by-hint s t v w f g k.clash.hint shown e
      by false shown = by-hint t s w v g f k.clash.hint shown (sym e)

  both-said : (a : Atom) → among (true_atoms p c m.free.of m.domain) a ≡ true → among (false_atoms p c m.free.of m.domain) a ≡ true → ⊥
  both-said a t f =
      let x = said-by_line b p c m true a t in
      let y = said-by_line b p c m false a f in
      let s = told x.line.at x.line.here.opened true x.atom in
      let u = told y.line.at y.line.here.opened false y.atom in
      let si : Contains (all_told (lines p c)) s = Contains-flat_map told_at (lines p c) x.line s x.at.listed
      (subst (λ (z : Part). Contains (told_by_part x.line.at x.line.here.opened z) s) (sym x.node) (told-there x.line.at x.line.here.opened x.tree true x.atom x.literal)) in
      let ui : Contains (all_told (lines p c)) u = Contains-flat_map told_at (lines p c) y.line u y.at.listed
      (subst (λ (z : Part). Contains (told_by_part y.line.at y.line.here.opened z) u) (sym y.node) (told-there y.line.at y.line.here.opened y.tree false y.atom y.literal)) in
      let one : atom_under x.by x.atom ≡ atom_under y.by y.atom = x.same ∙ sym y.same in
      let preds : pred_of x.atom ≡ pred_of y.atom = sym (pred-under x.by x.atom) ∙ ap pred_of one ∙ pred-under y.by y.atom in
      let pair : is_pair s u ≡ true = subst (λ (z : Pred). same_pred (pred_of x.atom) z ≡ true) preds (same-pred (pred_of x.atom)) in
      let args : all_under x.by x.atom.args ≡ all_under y.by y.atom.args = ap (λ (z : Atom). z.args) one in
      let ts = told-is_at x.line x.by x.at true x.atom in
      let tu = told-is_at y.line y.by y.at false y.atom in
      elim (pair-listed (all_told (lines p c)) s u si ui pair) [
        | inl i ↦ no-common s u x.by y.by ts tu args (Each-member (AreApart c) (all_pairs (all_told (lines p c))) (s, u) m.accepted.apart i)
        | inr i ↦ no-common u s y.by x.by tu ts (sym args) (Each-member (AreApart c) (all_pairs (all_told (lines p c))) (u, s) m.accepted.apart i)
      ]

  -- no atom is said to be true and false
  pub apart-said : (a : Atom) → among (true_atoms p c m.free.of m.domain) a ≡ true → not (among (false_atoms p c m.free.of m.domain) a) ≡ true
  apart-said a t = elim (cases_Bool (among (false_atoms p c m.free.of m.domain) a)) [
    | inl f ↦ absurd (both-said a t f)
    | inr f ↦ ap not f
  ]
