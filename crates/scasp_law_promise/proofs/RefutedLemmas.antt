-- Each rule for an atom that is said to be false has a literal that is known to be false.
use Rattle.std.proofs.Common.{◌≡◌, ◌∙◌, ℕ, zero, suc, ◌<◌, ◌≤◌, Bool, true, false, ◌&&◌, not, nat_eq, nat_lt, cond, List, [], ◌∷◌, ◌++◌, length, map, Option, Some, None, refl, ap, sym, subst, inl, inr, arith}
use Rattle.std.specs.List.{Contains, list_all, list_any}
use Rattle.std.proofs.lemmas.Bool.{and_parts, and_from, ltb-true}
use Rattle.std.proofs.lemmas.List.Elements.{Contains-append_cases}
use Rattle.scasp_num.specs.Linear.{is_normal}
use Rattle.scasp_list.specs.Each.{Each}
use Rattle.scasp_list.proofs.MemberLemmas.{Contains-none, Contains-cases, Contains-from_map, Contains-from_filter, list_all-member, list_any-from}
use Rattle.scasp_num.specs.declared.linear.Coeff.{Coeff}
use Rattle.scasp_syntax.specs.Constraints.{holds}
use Rattle.scasp_syntax.specs.Flat.{flat_after, flat_body, number_test, unseen}
use Rattle.scasp_syntax.specs.Instances.{atom_under, head_under}
use Rattle.scasp_syntax.specs.Programs.{numbered, pred_of}
use Rattle.scasp_syntax.specs.Same.{same_bool}
use Rattle.scasp_syntax.specs.Tm.{Tm, Tms, var, num, app, nil, cons}
use Rattle.scasp_syntax.specs.Values.{Sub, giving, under}
use Rattle.scasp_syntax.specs.View.{tm_of}
use Rattle.scasp_syntax.specs.WellFormed.{is_below, are_below, is_item_below, is_head_below, is_clause_well_formed, is_query_well_formed, lists_variables, ascends}
use Rattle.scasp_syntax.specs.declared.atom.Atom.{Atom}
use Rattle.scasp_syntax.specs.declared.atom.Lit.{Lit}
use Rattle.scasp_syntax.specs.declared.clause.Clause.{Clause}
use Rattle.scasp_syntax.specs.declared.clause.FlatItem.{FlatItem}
use Rattle.scasp_syntax.specs.declared.clause.FlatItem.TheVariants as flat
use Rattle.scasp_syntax.specs.declared.clause.Item.{Item}
use Rattle.scasp_syntax.specs.declared.clause.Item.TheVariants as item
use Rattle.scasp_syntax.specs.declared.con.Con.{Con}
use Rattle.scasp_syntax.specs.declared.con.Con.TheVariants as con
use Rattle.scasp_syntax.specs.declared.program.Program.{Program}
use Rattle.scasp_syntax.specs.declared.term.Term.TheVariants.{Var}
use Rattle.scasp_syntax.proofs.ValueLemmas.{under-under}
use Rattle.scasp_model.specs.Atoms.{among}
use Rattle.scasp_model.specs.Grounding.{ground_program, instance_of}
use Rattle.scasp_model.specs.Residual.{is_known_false}
use Rattle.scasp_model.specs.declared.program.GroundClause.{GroundClause}
use Rattle.scasp_cert.specs.Certificate.{Certificate}
use Rattle.scasp_cert.specs.Trees.{Tree, Trees, Branch, Branches, pos_tree, neg_tree, loop_tree, seen_tree, test_tree, split, void, leaf, head}
use Rattle.scasp_unify.specs.Negations.{negated}
use Rattle.scasp_lines.specs.Bodies.{Body}
use Rattle.scasp_lines.specs.Descent.{is_end}
use Rattle.scasp_lines.specs.Dues.{due_of, values_here}
use Rattle.scasp_lines.specs.Known.{is_known, are_known, is_con_known}
use Rattle.scasp_lines.specs.Lines.{free_of, setting}
use Rattle.scasp_lines.specs.Opened.{Opened, IsInstance}
use Rattle.scasp_lines.specs.Places.{Place}
use Rattle.scasp_lines.specs.Said.{atoms_of, false_atoms, true_atoms}
use Rattle.scasp_lines.specs.Scopes.{excludes_no_parts}
use Rattle.scasp_lines.specs.Surroundings.{IsNodeOf}
use Rattle.scasp_lines.specs.Walk.{of_node, of_case, Line}
use Rattle.scasp_lines.proofs.BelowLemmas.{has-below}
use Rattle.scasp_lines.proofs.KnownLemmas.{agree-con}
use Rattle.scasp_lines.proofs.NegationLemmas.{negated-holds}
use Rattle.scasp_lines.proofs.SubWalkLemmas.{certificate-whole}
use Rattle.scasp_checker_rules.specs.Normality.{ItemNormal}
use Rattle.scasp_checker_rules.proofs.ApartLemmas.{under-alike}
use Rattle.scasp_checker_rules.proofs.DeterminedLemmas.{is_basic}
use Rattle.scasp_checker_rules.proofs.ListLemmas.{numbered-contains}
use Rattle.scasp_unify.proofs.Members.{Each-member}
use Rattle.scasp_checker_rules.proofs.NodeLemmas.{pred-under}
use Rattle.scasp_checker_rules.proofs.NormalityLemmas.{negated-normal}
use Rattle.scasp_law_promise.specs.Premises.{Premises, IsAt}
use Rattle.scasp_law_promise.proofs.BodyLemmas.{lit_under, call-from_flat, flat-holds, literal-in}
use Rattle.scasp_law_promise.proofs.ClauseLemmas.{atom-same, coeffs-below}
use Rattle.scasp_law_promise.proofs.CoverLemmas.{grounded, Reached, reached}
use Rattle.scasp_law_promise.proofs.FoundedLemmas.{atom-under-atom}
use Rattle.scasp_law_promise.proofs.InstanceLemmas.{part-holds, replaced, void-never}
use Rattle.scasp_law_promise.proofs.SayingLemmas.{saying, due-said, said-by_line}
use Rattle.scasp_law_promise.proofs.TestedLemmas.{fact-true, flat-basic}

-- ---- the tests of a flat body have the clause's variables

mutual
  below-known : (n : ℕ) (t : Tm) → is_below n t ≡ true → is_known (λ x. nat_lt x n) t ≡ true
  below-known n (var x) h = h
  below-known n (num q) h = refl
  below-known n (app f ts) h = all-below-known n ts h

  all-below-known : (n : ℕ) (ts : Tms) → are_below n ts ≡ true → are_known (λ x. nat_lt x n) ts ≡ true
  all-below-known n nil h = refl
  all-below-known n (cons t ts) h =
      let p = and_parts (is_below n t) (are_below n ts) h in and_from _ _ (below-known n t p.0) (all-below-known n ts p.1)

both-known : (n : ℕ) (t u : Tm) → (is_below n t && is_below n u) ≡ true → (is_known (λ x. nat_lt x n) t && is_known (λ x. nat_lt x n) u) ≡ true
both-known n t u h = let p = and_parts (is_below n t) (is_below n u) h in and_from _ _ (below-known n t p.0) (below-known n u p.1)

flat-known : (n : ℕ) (seen : List ℕ) (body : List Item) → list_all (is_item_below n) body ≡ true → (c : Con) → Contains (flat_after seen body) (flat.Test c)
    → is_con_known (λ x. nat_lt x n) c ≡ true
flat-known n seen [] h c i = absurd (Contains-none (flat.Test c) i)
flat-known n seen (item.Call l ∷ body) h c i =
    let p = and_parts (is_item_below n (item.Call l)) (list_all (is_item_below n) body) h in
    elim (Contains-cases (flat.Call l) (flat_after seen body) (flat.Test c) i) [ inl e ↦ cc | inr j ↦ flat-known n seen body p.1 c j ]
flat-known n seen (item.Equal t u ∷ body) h c i =
    let p = and_parts (is_item_below n (item.Equal t u)) (list_all (is_item_below n) body) h in
    elim (Contains-cases (flat.Test (con.Eq t u)) (flat_after seen body) (flat.Test c) i) [
      | inl e ↦ (let same : con.Eq t u ≡ c = cc in subst (λ (z : Con). is_con_known (λ x. nat_lt x n) z ≡ true) same (both-known n (tm_of t) (tm_of u) p.0))
      | inr j ↦ flat-known n seen body p.1 c j
    ]
flat-known n seen (item.Differ t u ∷ body) h c i =
    let p = and_parts (is_item_below n (item.Differ t u)) (list_all (is_item_below n) body) h in
    elim (Contains-cases (flat.Test (con.Neq t u)) (flat_after seen body) (flat.Test c) i) [
      | inl e ↦ (let same : con.Neq t u ≡ c = cc in subst (λ (z : Con). is_con_known (λ x. nat_lt x n) z ≡ true) same (both-known n (tm_of t) (tm_of u) p.0))
      | inr j ↦ flat-known n seen body p.1 c j
    ]
flat-known n seen (item.Linear l ∷ body) h c i =
    let p = and_parts (is_item_below n (item.Linear l)) (list_all (is_item_below n) body) h in
    let q = and_parts (lists_variables l) (list_all (λ x. nat_lt x n) l.vars) (and_parts (lists_variables l && list_all (λ x. nat_lt x n) l.vars) (is_normal l.row) p.0).0 in
    let r = and_parts (ascends l.vars) (list_all (λ (k : Coeff). list_any (nat_eq k.x) l.vars) l.row.coeffs) q.0 in
    elim (Contains-append_cases (map number_test (unseen seen l.vars)) (flat.Test (con.Row l.row) ∷ flat_after (seen ++ l.vars) body) (flat.Test c) i) [
      | inl j ↦
          (let k = Contains-from_map number_test (unseen seen l.vars) (flat.Test c) j in
          let f = Contains-from_filter (λ y. not (list_any (nat_eq y) seen)) l.vars k.0 k.1 in
          let e = k.2 in
          let same : con.Num (Var k.0) ≡ c = cc in
          subst (λ (z : Con). is_con_known (λ x. nat_lt x n) z ≡ true) same (list_all-member (λ x. nat_lt x n) l.vars k.0 q.1 f.0))
      | inr j ↦ elim (Contains-cases (flat.Test (con.Row l.row)) (flat_after (seen ++ l.vars) body) (flat.Test c) j) [
        | inl e ↦ (let same : con.Row l.row ≡ c = cc in subst (λ (z : Con). is_con_known (λ x. nat_lt x n) z ≡ true) same (coeffs-below n l.vars l.row.coeffs q.1 r.1))
        | inr k ↦ flat-known n (seen ++ l.vars) body p.1 c k
      ]
    ]

call-below : (n : ℕ) (body : List Item) (l : Lit) → list_all (is_item_below n) body ≡ true → Contains body (item.Call l) → are_below n l.atom.args ≡ true
call-below n body l h i = list_all-member (is_item_below n) body (item.Call l) h i

-- ---- negations

basic-excludes : (k : Con) → is_basic k ≡ true → excludes_no_parts k ≡ true
basic-excludes (con.Eq t u) h = refl
basic-excludes (con.Neq t u) h = refl
basic-excludes (con.NotShape x f n) h = cc
basic-excludes (con.Num t) h = refl
basic-excludes (con.NotNum t) h = refl
basic-excludes (con.Row r) h = refl

negated-basic : (k : Con) → is_basic k ≡ true → is_basic (negated 0 k) ≡ true
negated-basic (con.Eq t u) h = refl
negated-basic (con.Neq t u) h = refl
negated-basic (con.NotShape x f n) h = cc
negated-basic (con.Num t) h = refl
negated-basic (con.NotNum t) h = refl
negated-basic (con.Row r) h = refl

item-at : {A : Type 0} → (k : ℕ) (xs : List A) → 0 < k → k ≤ length xs → (x : A) × (numbered xs k ≡ Some x)
item-at zero xs l m = absurd (omega (arith, l))
item-at (suc k) [] l m = absurd (omega (arith, m))
item-at (suc zero) (x ∷ xs) l m = (x, refl)
item-at (suc (suc k)) (x ∷ xs) l m = item-at (suc k) xs (omega arith) (omega (arith, m))

module _ (b : Bool) (p : Program) (c : Certificate) (m : Premises b p c) where
  abbrev true_said : List Atom
  true_said = true_atoms p c m.free.of m.domain

  abbrev false_said : List Atom
  false_said = false_atoms p c m.free.of m.domain

  pub well : (clause : Clause) → Contains p.clauses clause → is_clause_well_formed clause ≡ true
  well clause i =
      list_all-member is_clause_well_formed p.clauses clause
      (and_parts (list_all is_clause_well_formed p.clauses) (list_all is_query_well_formed p.queries) p.well_formed).0 i

  module _ (clause : Clause) (listed : Contains p.clauses clause) (s : Sub) (tests : (k : Con) → Contains (flat_body clause.body) (flat.Test k) → holds s k ≡ true)
      (x : Line) (v : Sub) (at : IsAt b p c m x v) (body : Body) (items : body.items ≡ flat_body clause.body)
      (values : (y : ℕ) → y < clause.vars → under v (body.values y) ≡ s y) where
    abbrev place_values : Sub
    place_values = values_here x.here body.values

    pub agree : (y : ℕ) → nat_lt y clause.vars ≡ true → under v (place_values y) ≡ s y
    agree y e =
        under-under v x.here.replaced (body.values y) ∙ sym (under-alike v (λ z. under v (x.here.replaced z)) (replaced b p c m x v at) (body.values y))
        ∙ values y (ltb-true y clause.vars e)

    below : list_all (is_item_below clause.vars) clause.body ≡ true
    below = (and_parts (is_head_below clause.vars clause.head) (list_all (is_item_below clause.vars) clause.body) (well clause listed)).1

    -- a literal that is shown false is known false
    call-false : (y : Line) → IsAt b p c m y v → (l : Lit) (t : Tree) → y.part ≡ of_node (due_of place_values false (flat.Call l)) t → Contains (flat_body clause.body) (flat.Call l)
        → is_known_false true_said false_said (lit_under s l) ≡ true
    call-false y yat l t e i =
        let said = due-said b p c m y v yat (record { positive = same_bool l.positive false; atom = atom_under place_values l.atom }) t e in
        let atom : atom_under v (atom_under place_values l.atom) ≡ atom_under s l.atom =
        atom-under-atom v place_values l.atom ∙ atom-same clause.vars (λ z. under v (place_values z)) s agree l.atom (call-below clause.vars clause.body l below (call-from_flat [] clause.body l i)) in
        by l.positive (subst (λ (z : Atom). among (atoms_of (same_bool l.positive false) (saying b p c m)) z ≡ true) atom said)
      where
        by : (w : Bool) → among (atoms_of (same_bool w false) (saying b p c m)) (atom_under s l.atom) ≡ true
            → cond w (among false_said (atom_under s l.atom)) (among true_said (atom_under s l.atom)) ≡ true
        by true h = h
        by false h = h

    -- no test that holds is shown false
    test-false : (y : Line) → IsAt b p c m y v → (k : Con) (t : Tree) → y.part ≡ of_node (due_of place_values false (flat.Test k)) t → Contains (flat_body clause.body) (flat.Test k) → ⊥
    test-false y yat k t e i =
        let basic = flat-basic [] clause.body k i in
        let normal : ItemNormal (flat.Test k) = Each-member ItemNormal (flat_body clause.body) (flat.Test k)
        (Each-member (λ (z : Clause). Each ItemNormal (flat_body z.body)) p.clauses clause m.normal.clauses listed) i in
        let shown = fact-true b p c m y v yat place_values (negated 0 k) t e (negated-basic k basic) (negated-normal 0 k normal) in
        let turned = negated-holds (λ z. under v (place_values z)) 0 k (basic-excludes k basic) in
        let same : holds (λ z. under v (place_values z)) k ≡ holds s k = agree-con (λ z. nat_lt z clause.vars) (λ z. under v (place_values z)) s agree k (flat-known clause.vars [] clause.body below k i) in
        let yes : holds s k ≡ true = tests k i in
        by (holds s k) yes (sym (turned ∙ ap not same) ∙ shown)
      where
        by : (w : Bool) → w ≡ true → not w ≡ true → ⊥
        by true f g = cc
        by false f g = cc

    pub leaf-false : (k : ℕ) (children : Trees) → x.part ≡ of_case body (leaf k children) → (l : Lit) × Contains (flat_body clause.body) (flat.Call l) × (is_known_false true_said false_said (lit_under s l) ≡ true)
    leaf-false k children e =
        let h = part-holds b p c m x (of_case body (leaf k children)) at.listed e in
        let i = item-at k body.items h.1 h.2 in
        let n = (has-below (setting p.clauses c) x).false_item body k children e h.0 i.0 i.1 in
        let instance = at.instance in
        let there : Contains (flat_body clause.body) i.0 = subst (λ (is : List FlatItem). Contains is i.0) items (numbered-contains body.items k i.0 i.1) in
        let yat : IsAt b p c m n.line v =
        record {
          listed = (certificate-whole p.clauses p.queries c).has x n.line at.listed n.listed;
          instance = subst (λ (os : List Opened). IsInstance (free_of c) m.domain m.free.of os v) (sym (ap (λ (z : Place). z.opened) n.there)) instance;
          ground = at.ground;
        } in
        by i.0 there n.line yat n.tree n.is
      where
        by : (j : FlatItem) → Contains (flat_body clause.body) j → (y : Line) → IsAt b p c m y v → (t : Tree) → y.part ≡ of_node (due_of place_values false j) t
            → (l : Lit) × Contains (flat_body clause.body) (flat.Call l) × (is_known_false true_said false_said (lit_under s l) ≡ true)
        by (flat.Call l) i y yat t e = (l, i, call-false y yat l t e i)
        by (flat.Test q) i y yat t e = absurd (test-false y yat q t e i)

  ends-false : (clause : Clause) → Contains p.clauses clause → (s : Sub) → ((k : Con) → Contains (flat_body clause.body) (flat.Test k) → holds s k ≡ true)
      → (r : Reached b p c m clause false s) → (last : Branch) → r.last ≡ last
      → (l : Lit) × Contains (flat_body clause.body) (flat.Call l) × (is_known_false true_said false_said (lit_under s l) ≡ true)
  ends-false clause i s tests r (split k first second) e = (let f = r.ends in let g = ap is_end e in cc)
  ends-false clause i s tests r (void hint) e = absurd (void-never b p c m r.line r.by r.at r.body hint (r.is ∙ ap (of_case r.body) e))
  ends-false clause i s tests r (leaf k children) e =
      leaf-false clause i s tests r.line r.by r.at r.body r.items_are r.values k children (r.is ∙ ap (of_case r.body) e)
  ends-false clause i s tests r (head children) e =
      let h = part-holds b p c m r.line (of_case r.body (head children)) r.at.listed (r.is ∙ ap (of_case r.body) e) in
      let yes = h.1 in let no = r.check_is in cc

  head-parts : (s : Sub) (o : Option Atom) (a : Atom) → head_under s o ≡ Some a → (h : Atom) × (o ≡ Some h) × (atom_under s h ≡ a)
  head-parts s None a e = cc
  head-parts s (Some h) a e = (h, refl, (let same : atom_under s h ≡ a = cc in same))

  negated-tree : (t : Tree) (a : Atom) → IsNodeOf t false a → (covers : Branches) × (t ≡ neg_tree a covers)
  negated-tree (neg_tree x covers) a h = (covers, ap (λ (z : Atom). neg_tree z covers) h.1)
  negated-tree (pos_tree x k ts children) a h = (let z = h.0 in cc)
  negated-tree (loop_tree k to) a h = elim h [ ]
  negated-tree (seen_tree k to) a h = elim h [ ]
  negated-tree (test_tree k hint) a h = elim h [ ]

  -- each rule for what is said to be false has a literal that is known false
  pub refuted : (g : GroundClause) (a : Atom) → Contains (ground_program m.domain p) g → g.head ≡ Some a → among false_said a ≡ true → list_any (is_known_false true_said false_said) g.body ≡ true
  refuted g a i e f =
      let q = grounded p m.domain g i in
      let s = giving q.terms in
      let x = said-by_line b p c m false a f in
      let h = head-parts s q.clause.head a (ap (λ (z : GroundClause). z.head) q.is ∙ e) in
      let n = negated-tree x.tree x.atom x.literal in
      let one : atom_under x.by x.atom ≡ atom_under s h.0 = x.same ∙ sym h.2 in
      let pred : pred_of x.atom ≡ pred_of h.0 = sym (pred-under x.by x.atom) ∙ ap pred_of one ∙ pred-under s h.0 in
      let chosen = q.chosen in
      let r = reached b p c m x.line x.by x.at x.due x.atom n.0 (x.node ∙ ap (of_node x.due) n.1) q.clause h.0 s q.listed h.1 pred (ap (λ (z : Atom). z.args) one) chosen.from in
      let k = ends-false q.clause q.listed s (flat-holds s [] q.clause.body q.tests) r r.last refl in
      subst (λ (z : GroundClause). list_any (is_known_false true_said false_said) z.body ≡ true) q.is
      (list_any-from (is_known_false true_said false_said) (instance_of q.clause s).body (lit_under s k.0)
      (literal-in s q.clause.body k.0 (call-from_flat [] q.clause.body k.0 k.1)) k.2)
