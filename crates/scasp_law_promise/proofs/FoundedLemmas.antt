-- What positive lines say is founded.
use Rattle.std.proofs.Common.{◌≡◌, ◌∙◌, ℕ, suc, ◌+◌, ◌<◌, ◌≤◌, Bool, true, false, not, nat_lt, cond, List, [], ◌∷◌, map, length, Some, refl, ap, sym, subst, inl, inr, ◌⊎◌, arith}
use Rattle.std.specs.List.{Contains, list_all, filter}
use Rattle.std.proofs.lemmas.Bool.{and_parts, cases_Bool, ltb-true, ltb-false, not-true}
use Rattle.scasp_list.specs.Each.{Each}
use Rattle.scasp_list.proofs.MemberLemmas.{Contains-from_map, Contains-from_filter, list_all-from, list_all-member}
use Rattle.scasp_syntax.specs.Constraints.{holds}
use Rattle.scasp_syntax.specs.Flat.{flat_body}
use Rattle.scasp_syntax.specs.Instances.{atom_under, head_under}
use Rattle.scasp_syntax.specs.Same.{same_bool}
use Rattle.scasp_syntax.specs.Tm.{Tm, Tms, items}
use Rattle.scasp_syntax.specs.Values.{Sub, under, giving}
use Rattle.scasp_syntax.specs.WellFormed.{is_clause_well_formed, is_head_below, is_item_below, is_query_well_formed}
use Rattle.scasp_syntax.specs.declared.atom.Atom.{Atom}
use Rattle.scasp_syntax.specs.declared.atom.Lit.{Lit}
use Rattle.scasp_syntax.specs.declared.clause.Clause.{Clause}
use Rattle.scasp_syntax.specs.declared.clause.FlatItem.{FlatItem}
use Rattle.scasp_syntax.specs.declared.clause.FlatItem.TheVariants as flat
use Rattle.scasp_syntax.specs.declared.program.Program.{Program}
use Rattle.scasp_syntax.proofs.ValueLemmas.{under-under, all_under-all_under}
use Rattle.scasp_model.specs.Atoms.{among}
use Rattle.scasp_model.specs.Grounding.{ground_program, instance_of, is_test_true}
use Rattle.scasp_model.specs.Programs.{positive_atoms}
use Rattle.scasp_model.specs.declared.program.GroundClause.{GroundClause}
use Rattle.scasp_sound.specs.Carried.{CarriedBelow, CarriedByRule}
use Rattle.scasp_sound.specs.Support.{Founded, LowerInPair, negated_atoms}
use Rattle.scasp_sound.proofs.CarriedLemmas.{founded-carried}
use Rattle.scasp_cert.specs.Certificate.{Certificate}
use Rattle.scasp_cert.specs.Lines.{all_lines, lines_of}
use Rattle.scasp_cert.specs.Trees.{Tree, Trees, pos_tree, neg_tree, loop_tree, seen_tree, test_tree}
use Rattle.scasp_lines.specs.Dues.{Due, due_of, values_here}
use Rattle.scasp_lines.specs.Lines.{free_of, lines, setting, walk_of}
use Rattle.scasp_lines.specs.Numbering.{lines_of_part}
use Rattle.scasp_lines.specs.Opened.{Opened, IsInstance}
use Rattle.scasp_lines.specs.Places.{Place}
use Rattle.scasp_lines.specs.Said.{atoms_of, false_atoms, true_atoms, is_closed_over}
use Rattle.scasp_lines.specs.Surroundings.{IsNodeOf}
use Rattle.scasp_lines.specs.Walk.{Part, of_node, of_rule, of_check, of_case, Line}
use Rattle.scasp_lines.proofs.SubWalkLemmas.{certificate-whole}
use Rattle.scasp_checker_rules.specs.Accepted.{ByRule}
use Rattle.scasp_checker_rules.specs.Firm.{is_firm}
use Rattle.scasp_checker_rules.proofs.ApartLemmas.{under-alike}
use Rattle.scasp_checker_rules.specs.Wholes.{whole_of}
use Rattle.scasp_checker_rules.specs.Normality.{ItemNormal}
use Rattle.scasp_checker_rules.proofs.ListLemmas.{numbered-contains}
use Rattle.scasp_unify.proofs.Members.{Each-member}
use Rattle.scasp_law_promise.specs.Carriers.{negations, How, itself, looped, seen}
use Rattle.scasp_law_promise.specs.Premises.{Premises, IsAt}
use Rattle.scasp_law_promise.proofs.BodyLemmas.{call-in_flat, literal-from, atom-of, tests-true}
use Rattle.scasp_law_promise.proofs.CarrierLemmas.{carrier, one-line}
use Rattle.scasp_law_promise.proofs.ClauseLemmas.{giving-map, instance-same, instance-listed, tests-same}
use Rattle.scasp_law_promise.proofs.FirmLemmas.{item-node}
use Rattle.scasp_law_promise.proofs.InstanceLemmas.{part-holds, replaced}
use Rattle.scasp_law_promise.proofs.NumberLemmas.{line-within, node-within, node-ended}
use Rattle.scasp_law_promise.proofs.SayingLemmas.{saying, due-said, said-by_line, terms-within}
use Rattle.scasp_law_promise.proofs.TestedLemmas.{fact-true, flat-basic}

-- ---- ranks

-- A firm line has the place where it ends; others come behind all of these, by the negated literals above them.
abbrev pub first_by : ℕ → Line → Part → ℕ
first_by z l (of_node due t) = cond (is_firm t) (l.at + lines_of t) (z + negations l.here.above)
first_by z l (of_rule k a b) = 0
first_by z l (of_check k b) = 0
first_by z l (of_case body b) = 0

abbrev pub first : ℕ → Line → ℕ
first z l = first_by z l l.part

abbrev pub second : Line → ℕ
second l = lines_of_part l.part

firm-first : (z : ℕ) (l : Line) (due : Due) (t : Tree) → l.part ≡ of_node due t → is_firm t ≡ true → first z l ≡ l.at + lines_of t
firm-first z l due t e f = ap (first_by z l) e ∙ ap (λ b. cond b (l.at + lines_of t) (z + negations l.here.above)) f

loose-first : (z : ℕ) (l : Line) (due : Due) (t : Tree) → l.part ≡ of_node due t → is_firm t ≡ false → first z l ≡ z + negations l.here.above
loose-first z l due t e f = ap (first_by z l) e ∙ ap (λ b. cond b (l.at + lines_of t) (z + negations l.here.above)) f

-- substitutions one after the other
pub atom-under-atom : (r s : Sub) (a : Atom) → atom_under r (atom_under s a) ≡ atom_under (λ x. under r (s x)) a
atom-under-atom r s a = ap (λ (ts : Tms). let k : Atom = record { minus = a.minus; name = a.name; args = ts } in k) (all_under-all_under r s a.args)

tree-is : (d e : Due) (t u : Tree) → of_node d t ≡ of_node e u → t ≡ u
tree-is d e t u s = ap tree s
  where
    tree : Part → Tree
    tree (of_node due x) = x
    tree (of_rule k a x) = t
    tree (of_check k x) = t
    tree (of_case body x) = t

less-or_same : (a b c d : ℕ) → a ≤ b → c < d → (a < b) ⊎ ((a ≡ b) × (c < d))
less-or_same a b c d l m = elim (cases_Bool (nat_lt a b)) [
  | inl e ↦ inl (ltb-true a b e)
  | inr e ↦ (let n = ltb-false a b e in inr (omega (arith, l, n), m))
]

module _ (b : Bool) (p : Program) (c : Certificate) (m : Premises b p c) (closed : is_closed_over p c m.free.of m.domain ≡ true) where
  -- A positive line that says the atom at an instance.
  pub record Holds (l : Line) (a : Atom) : Type 0 where
    pub by : Sub
    pub at : IsAt b p c m l by
    pub due : Due
    pub atom : Atom
    pub rule : ℕ
    pub terms : Tms
    pub children : Trees
    pub node : l.part ≡ of_node due (pos_tree atom rule terms children)
    pub same : atom_under by atom ≡ a

  -- the number behind all lines
  abbrev behind : ℕ
  behind = suc (suc (all_lines c))

  ended : (x : Line) (due : Due) (t : Tree) → x.part ≡ of_node due t → Contains (lines p c) x → x.at + lines_of t < behind
  ended x due t e i = let q = node-ended p c x t (ap lines_of_part e) i in omega (arith, q)

  holds-of : (l : Line) (v : Sub) → IsAt b p c m l v → (due : Due) (t : Tree) → l.part ≡ of_node due t → (x a : Atom) → IsNodeOf t true x → atom_under v x ≡ a → Holds l a
  holds-of l v at due (pos_tree y k ts children) e x a n s =
      record { by = v; at = at; due = due; atom = y; rule = k; terms = ts; children = children; node = e; same = ap (atom_under v) n.1 ∙ s }
  holds-of l v at due (neg_tree y covers) e x a n s = (let z = n.0 in cc)
  holds-of l v at due (loop_tree k to) e x a n s = elim n [ ]
  holds-of l v at due (seen_tree k to) e x a n s = elim n [ ]
  holds-of l v at due (test_tree k hint) e x a n s = elim n [ ]

  module _ (l : Line) (a : Atom) (h : Holds l a) (rule : ByRule (whole_of b p c) h.atom h.rule h.terms h.children) where
    -- the values of the clause's variables
    abbrev values : Sub
    values x = under h.by (giving (items h.terms) x)

    abbrev listed_values : List Tm
    listed_values = map (under h.by) (items h.terms)

    abbrev place_values : Sub
    place_values = values_here l.here (giving (items h.terms))

    placed : (λ x. under h.by (place_values x)) ≡ values
    placed = λ i x. by x i
      where
        by : (x : ℕ) → under h.by (under l.here.replaced (giving (items h.terms) x)) ≡ under h.by (giving (items h.terms) x)
        by x = under-under h.by l.here.replaced (giving (items h.terms) x) ∙ sym (under-alike h.by (λ y. under h.by (l.here.replaced y)) (replaced b p c m l h.by h.at) (giving (items h.terms) x))

    -- The node of an item: a line below at which no more has opened.
    pub record Child (i : FlatItem) : Type 0 where
      pub line : Line
      pub at : IsAt b p c m line h.by
      pub above : line.here.above ≡ record { at = l.at; positive = true; atom = h.atom } ∷ l.here.above
      pub tree : Tree
      pub is : line.part ≡ of_node (due_of place_values true i) tree
      pub firm : is_firm (pos_tree h.atom h.rule h.terms h.children) ≡ true → is_firm tree ≡ true
      pub within : Contains (walk_of (setting p.clauses c) l) line

    child : (i : FlatItem) → Contains (flat_body rule.clause.body) i → Child i
    child i j =
        let n = item-node (setting p.clauses c) l h.due h.atom h.rule h.terms h.children h.node rule.clause rule.named rule.each_item i j in
        let k = n.node in
        let at = h.at in
        let instance = at.instance in
        record {
          line = k.line;
          at = record {
            listed = (certificate-whole p.clauses p.queries c).has l k.line at.listed k.listed;
            instance = subst (λ (os : List Opened). IsInstance (free_of c) m.domain m.free.of os h.by) (sym (ap (λ (z : Place). z.opened) k.there)) instance;
            ground = at.ground;
          };
          above = ap (λ (z : Place). z.above) k.there;
          tree = k.tree;
          is = k.is;
          firm = n.firm;
          within = k.listed;
        }

    well : is_clause_well_formed rule.clause ≡ true
    well =
        list_all-member is_clause_well_formed p.clauses rule.clause
        (and_parts (list_all is_clause_well_formed p.clauses) (list_all is_query_well_formed p.queries) p.well_formed).0 (numbered-contains p.clauses h.rule rule.clause rule.named)

    agree : (x : ℕ) → nat_lt x rule.clause.vars ≡ true → values x ≡ giving listed_values x
    agree x e =
        let less = ltb-true x rule.clause.vars e in
        let long = rule.each_variable in
        sym (giving-map h.by (items h.terms) x (omega (arith, less, long)))

    tests : list_all (is_test_true values) rule.clause.body ≡ true
    tests =
        tests-true values [] rule.clause.body (λ x e. cc)
        (λ k i.
        (let n = child (flat.Test k) i in
        let normal : ItemNormal (flat.Test k) = Each-member ItemNormal (flat_body rule.clause.body) (flat.Test k)
        (Each-member (λ (z : Clause). Each ItemNormal (flat_body z.body)) p.clauses rule.clause m.normal.clauses (numbered-contains p.clauses h.rule rule.clause rule.named)) i in
        subst (λ (s : Sub). holds s k ≡ true) placed (fact-true b p c m n.line h.by n.at place_values k n.tree n.is (flat-basic [] rule.clause.body k i) normal)))

    abbrev ground_rule : GroundClause
    ground_rule = instance_of rule.clause values

    rule-listed : Contains (ground_program m.domain p) ground_rule
    rule-listed =
        let w = and_parts (is_head_below rule.clause.vars rule.clause.head) (list_all (is_item_below rule.clause.vars) rule.clause.body) well in
        subst (λ (z : GroundClause). Contains (ground_program m.domain p) z) (sym (instance-same rule.clause values (giving listed_values) well agree))
        (instance-listed p m.domain rule.clause listed_values (numbered-contains p.clauses h.rule rule.clause rule.named)
        (length-values (items h.terms) ∙ rule.each_variable)
        (terms-within b p c m closed l h.by h.at h.due h.atom h.rule h.terms h.children h.node)
        (sym (tests-same rule.clause.vars values (giving listed_values) agree rule.clause.body w.1) ∙ tests))
      where
        length-values : (ts : List Tm) → length (map (under h.by) ts) ≡ length ts
        length-values [] = refl
        length-values (t ∷ ts) = ap suc (length-values ts)

    rule-head : ground_rule.head ≡ Some a
    rule-head =
        ap (head_under values) rule.has_head
        ∙ ap (λ (z : Atom). Some z) (sym (atom-under-atom h.by (giving (items h.terms)) rule.atom) ∙ ap (atom_under h.by) rule.instance ∙ h.same)

    -- the atom of a literal of the body, as it is due
    due-atom : (k : Lit) → atom_under h.by (atom_under place_values k.atom) ≡ atom_under values k.atom
    due-atom k = atom-under-atom h.by place_values k.atom ∙ ap (λ (s : Sub). atom_under s k.atom) placed

    negated-said : list_all (among (false_atoms p c m.free.of m.domain)) (negated_atoms ground_rule.body) ≡ true
    negated-said =
        list_all-from (among (false_atoms p c m.free.of m.domain)) (negated_atoms ground_rule.body)
        (λ x i.
        (let q = Contains-from_map (λ (z : Lit). z.atom) (filter (λ z. not z.positive) ground_rule.body) x i in
        let f = Contains-from_filter (λ (z : Lit). not z.positive) ground_rule.body q.0 q.1 in
        let k = literal-from values rule.clause.body q.0 f.0 in
        let n = child (flat.Call k.0) (call-in_flat [] rule.clause.body k.0 k.1) in
        let sign : k.0.positive ≡ false = ap (λ (z : Lit). z.positive) k.2 ∙ not-true q.0.positive f.1 in
        let said = due-said b p c m n.line h.by n.at (record { positive = same_bool k.0.positive true; atom = atom_under place_values k.0.atom }) n.tree n.is in
        let is_false : same_bool k.0.positive true ≡ false = ap (λ z. same_bool z true) sign in
        subst (λ (z : Atom). among (false_atoms p c m.free.of m.domain) z ≡ true) (due-atom k.0 ∙ ap (λ (z : Lit). z.atom) k.2 ∙ q.2)
        (subst (λ (z : Bool). among (atoms_of z (saying b p c m)) (atom_under h.by (atom_under place_values k.0.atom)) ≡ true) is_false said)))

    -- ---- the ranks fall

    abbrev own_tree : Tree
    own_tree = pos_tree h.atom h.rule h.terms h.children

    module _ (i : FlatItem) (x : Child i) where
      deeper : (x.line ≡ l) → ⊥
      deeper e =
          let long : length x.line.here.above ≡ suc (length l.here.above) = ap length x.above in
          let short : length x.line.here.above ≡ length l.here.above = ap (λ (z : Line). length z.here.above) e in
          absurd (omega (arith, long, short))

      starts : l.at < x.line.at
      starts =
          let w = (line-within (setting p.clauses c) l x.line x.within).0 in
          elim (cases_Bool (nat_lt l.at x.line.at)) [
            | inl e ↦ ltb-true l.at x.line.at e
            | inr e ↦
                (let not_less = ltb-false l.at x.line.at e in
                let same : x.line.at ≡ l.at = omega (arith, w, not_less) in
                absurd (deeper (one-line p c x.line l x.at.listed h.at.listed same)))
          ]

      ends : x.line.at + lines_of x.tree ≤ l.at + lines_of own_tree
      ends =
          let w = node-within (setting p.clauses c) l x.line x.tree (ap lines_of_part x.is) x.within in
          let same : lines_of_part l.part ≡ lines_of own_tree = ap lines_of_part h.node in
          omega (arith, w, same)

      begins : x.line.at < l.at + lines_of own_tree
      begins =
          let w = (line-within (setting p.clauses c) l x.line x.within).1 in
          let same : lines_of_part l.part ≡ lines_of own_tree = ap lines_of_part h.node in
          omega (arith, w, same)

      same-negations : negations x.line.here.above ≡ negations l.here.above
      same-negations = ap negations x.above

      smaller : second x.line < second l
      smaller =
          let a : lines_of_part x.line.part ≡ lines_of x.tree = ap lines_of_part x.is in
          let o : lines_of_part l.part ≡ lines_of own_tree = ap lines_of_part h.node in
          let s = starts in let e = ends in omega (arith, a, o, s, e)

      -- a firm line that has ended where the certificate has is below each line that is not firm
      falls-firm : (y : Line) (due : Due) (t : Tree) → y.part ≡ of_node due t → is_firm t ≡ true → y.at + lines_of t < behind → is_firm own_tree ≡ false → first behind y < first behind l
      falls-firm y due t e f less g =
          let a = firm-first behind y due t e f in
          let o = loose-first behind l h.due own_tree h.node g in omega (arith, a, o, less)

      falls : (positive : Bool) → positive ≡ true → (y : Line) (due : Due) (t : Tree) → y.part ≡ of_node due t → Contains (lines p c) y → How positive x.line x.tree y t → LowerInPair (first behind) second y l
      falls positive s y due t e j (itself same) = by (is_firm own_tree) (is_firm t) refl refl
        where
          parts : t ≡ x.tree
          parts = tree-is due (due_of place_values true i) t x.tree (sym e ∙ ap (λ (z : Line). z.part) same ∙ x.is)

          less : second y < second l
          less = subst (λ (z : Line). second z < second l) (sym same) smaller

          by : (own other : Bool) → is_firm own_tree ≡ own → is_firm t ≡ other → LowerInPair (first behind) second y l
          by true true f g =
              let a = firm-first behind y due t e g in
              let o = firm-first behind l h.due own_tree h.node f in
              let at_same : y.at ≡ x.line.at = ap (λ (z : Line). z.at) same in
              let tree_same : lines_of t ≡ lines_of x.tree = ap lines_of parts in
              let w = ends in
              let all : first behind y ≤ first behind l = omega (arith, a, o, at_same, tree_same, w) in
              less-or_same (first behind y) (first behind l) (second y) (second l) all less
          by true false f g = (let z = ap is_firm parts in let w = x.firm f in cc)
          by false true f g = inl (falls-firm y due t e g (ended y due t e j) f)
          by false false f g =
              let a = loose-first behind y due t e g in
              let o = loose-first behind l h.due own_tree h.node f in
              let n : negations y.here.above ≡ negations l.here.above = ap (λ (z : Line). negations z.here.above) same ∙ same-negations in
              inr (a ∙ ap (λ k. behind + k) n ∙ sym o, less)
      falls positive s y due t e j (looped f) = by (is_firm own_tree) (is_firm t) refl refl
        where
          by : (own other : Bool) → is_firm own_tree ≡ own → is_firm t ≡ other → LowerInPair (first behind) second y l
          by true other g k = (let z = (f s).0 in let w = x.firm g in cc)
          by false true g k = inl (falls-firm y due t e k (ended y due t e j) g)
          by false false g k =
              let a = loose-first behind y due t e k in
              let o = loose-first behind l h.due own_tree h.node g in
              let w = (f s).1 in let n = same-negations in
              inl (omega (arith, a, o, w, n))
      falls positive s y due t e j (seen done f) = by (is_firm own_tree) refl
        where
          by : (own : Bool) → is_firm own_tree ≡ own → LowerInPair (first behind) second y l
          by true g =
              let a = firm-first behind y due t e (f s) in
              let o = firm-first behind l h.due own_tree h.node g in
              let w = begins in inl (omega (arith, a, o, w, done))
          by false g = inl (falls-firm y due t e (f s) (ended y due t e j) g)

    below : (q : Atom) → among (positive_atoms ground_rule.body) q ≡ true → CarriedBelow Holds (first behind) second l q
    below q j =
        let z = atom-of (λ (k : Lit). k.positive) ground_rule.body q j in
        let k = literal-from values rule.clause.body z.0 z.1 in
        let n = child (flat.Call k.0) (call-in_flat [] rule.clause.body k.0 k.1) in
        let sign : k.0.positive ≡ true = ap (λ (y : Lit). y.positive) k.2 ∙ z.2 in
        let due : Lit = record { positive = same_bool k.0.positive true; atom = atom_under place_values k.0.atom } in
        let is_true : same_bool k.0.positive true ≡ true = ap (λ y. same_bool y true) sign in
        let y = carrier b p c m n.line h.by n.at due n.tree n.is in
        record {
          by = y.line;
          carries = holds-of y.line h.by y.at y.due y.tree y.node y.atom q (subst (λ (w : Bool). IsNodeOf y.tree w y.atom) is_true y.literal)
              (y.same ∙ due-atom k.0 ∙ ap (λ (w : Lit). w.atom) k.2 ∙ z.3);
          lower = falls (flat.Call k.0) n due.positive is_true y.line y.due y.tree y.node y.at.listed y.how;
        }

  carried : (l : Line) (a : Atom) → Holds l a → CarriedByRule (ground_program m.domain p) (false_atoms p c m.free.of m.domain) Holds (first behind) second l a
  carried l a h =
      let rule = (part-holds b p c m l (of_node h.due (pos_tree h.atom h.rule h.terms h.children)) h.at.listed h.node).1 in
      record {
        clause = ground_rule l a h rule;
        rule = record { listed = rule-listed l a h rule; head = rule-head l a h rule; negated = negated-said l a h rule };
        below = below l a h rule;
      }

  -- what is said to be true is founded
  pub founded : (a : Atom) → among (true_atoms p c m.free.of m.domain) a ≡ true → Founded (ground_program m.domain p) (false_atoms p c m.free.of m.domain) a
  founded a t =
      let s = said-by_line b p c m true a t in
      founded-carried (ground_program m.domain p) (false_atoms p c m.free.of m.domain) Holds (first behind) second carried s.line a
      (holds-of s.line s.by s.at s.due s.tree s.node s.atom a s.literal s.same)
