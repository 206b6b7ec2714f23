-- What lines say at their instances is among the true and the false atoms, and each of these is said so.
use Rattle.std.proofs.Common.{◌≡◌, ◌∙◌, ℕ, Bool, true, false, ◌&&◌, not, List, [], ◌∷◌, map, refl, ap, sym, subst}
use Rattle.std.specs.List.{Contains, list_all, list_any}
use Rattle.std.proofs.lemmas.Bool.{and_parts}
use Rattle.scasp_syntax.specs.Instances.{atom_under}
use Rattle.scasp_syntax.specs.Same.{same_atom, same_tm}
use Rattle.scasp_syntax.specs.Tm.{Tm, Tms, items}
use Rattle.scasp_syntax.specs.Values.{Sub, is_ground, under}
use Rattle.scasp_syntax.specs.declared.atom.Atom.{Atom}
use Rattle.scasp_syntax.specs.declared.atom.Lit.{Lit}
use Rattle.scasp_syntax.specs.declared.program.Program.{Program}
use Rattle.scasp_syntax.proofs.SameLemmas.{atom_decided}
use Rattle.scasp_model.specs.Atoms.{among}
use Rattle.scasp_model.specs.Grounding.{is_domain}
use Rattle.scasp_cert.specs.Certificate.{Certificate}
use Rattle.scasp_cert.specs.Trees.{Tree, Trees, pos_tree, neg_tree, loop_tree, seen_tree, test_tree}
use Rattle.scasp_list.proofs.MemberLemmas.{Contains-none, Contains-here, Contains-single, Contains-from_flat_map, list_all-member, list_any-from, list_any-member}
use Rattle.scasp_lines.specs.Dues.{Due, goal}
use Rattle.scasp_lines.specs.Lines.{free_of, lines}
use Rattle.scasp_lines.specs.Opened.{knows, well}
use Rattle.scasp_lines.specs.Said.{Said, said, said_by_line, said_by_node, said_by_part, atoms_of, is_closed_over, is_line_known, is_part_known}
use Rattle.scasp_lines.specs.Surroundings.{IsNodeOf}
use Rattle.scasp_lines.specs.Walk.{Part, of_node, of_rule, of_check, of_case, Line}
use Rattle.scasp_lines.specs.Ways.{ways}
use Rattle.scasp_lines.proofs.SaidLemmas.{atoms-from, said-atom, closed-terms}
use Rattle.scasp_lines.proofs.WaysLemmas.{way-is_instance, ways-ground}
use Rattle.scasp_law_promise.specs.Premises.{Premises, IsAt}
use Rattle.scasp_law_promise.proofs.CarrierLemmas.{carrier}
use Rattle.scasp_law_promise.proofs.InstanceLemmas.{known}

-- the terms of a domain are ground
pub domain-ground : (d : List Tm) → is_domain d ≡ true → list_all is_ground d ≡ true
domain-ground [] h = refl
domain-ground (t ∷ ts) h =
    let a = and_parts (is_ground t && not (list_any (same_tm t) ts)) (is_domain ts) h in
    let b = and_parts (is_ground t) (not (list_any (same_tm t) ts)) a.0 in
    rw (b.0, domain-ground ts a.1) refl

-- A line of a literal with this sign says the atom at an instance.
pub record SaidAt (b : Bool) (p : Program) (c : Certificate) (m : Premises b p c) (positive : Bool) (a : Atom) : Type 0 where
  pub line : Line
  pub by : Sub
  pub at : IsAt b p c m line by
  pub due : Due
  pub tree : Tree
  pub node : line.part ≡ of_node due tree
  pub atom : Atom
  pub literal : IsNodeOf tree positive atom
  pub same : atom_under by atom ≡ a

module _ (b : Bool) (p : Program) (c : Certificate) (m : Premises b p c) where
  abbrev pub saying : List Said
  saying = said p c m.free.of m.domain

  says-node : (v : Sub) (t : Tree) (positive : Bool) (a : Atom) → IsNodeOf t positive a
      → (s : Said) × Contains (said_by_node v t) s × (s.positive ≡ positive) × (s.atom ≡ atom_under v a)
  says-node v (pos_tree a k ts children) positive x h =
      (record { positive = true; atom = atom_under v a; terms = map (under v) (items ts) }, Contains-here _ [], sym h.0, ap (atom_under v) h.1)
  says-node v (neg_tree a covers) positive x h = (record { positive = false; atom = atom_under v a; terms = [] }, Contains-here _ [], sym h.0, ap (atom_under v) h.1)
  says-node v (loop_tree l to) positive x h = elim h [ ]
  says-node v (seen_tree l to) positive x h = elim h [ ]
  says-node v (test_tree k hint) positive x h = elim h [ ]

  -- a line says its literal
  pub among-said : (l : Line) (v : Sub) → IsAt b p c m l v → (due : Due) (t : Tree) → l.part ≡ of_node due t → (positive : Bool) (a : Atom) → IsNodeOf t positive a
      → among (atoms_of positive saying) (atom_under v a) ≡ true
  among-said l v at due t e positive a h =
      let s = says-node v t positive a h in
      let i = said-atom p c (known b p c m) m.free.of m.domain positive s.0
      (record { line = l; listed = at.listed; by = v; instance = at.instance; says = subst (λ (x : Part). Contains (said_by_part v x) s.0) (sym e) s.1 }) s.2 in
      list_any-from (same_atom (atom_under v a)) (atoms_of positive saying) s.0.atom i ((atom_decided (atom_under v a) s.0.atom).1 (sym s.3))

  -- what is due is said
  pub due-said : (x : Line) (v : Sub) → IsAt b p c m x v → (l : Lit) (t : Tree) → x.part ≡ of_node (goal l) t → among (atoms_of l.positive saying) (atom_under v l.atom) ≡ true
  due-said x v at l t e =
      let k = carrier b p c m x v at l t e in
      subst (λ (a : Atom). among (atoms_of l.positive saying) a ≡ true) k.same
      (among-said k.line v k.at k.due k.tree k.node l.positive k.atom k.literal)

  part-says : (v : Sub) (part : Part) (s : Said) → Contains (said_by_part v part) s
      → (due : Due) × (t : Tree) × (part ≡ of_node due t) × (a : Atom) × IsNodeOf t s.positive a × (atom_under v a ≡ s.atom)
  part-says v (of_node due (pos_tree a k ts children)) s i =
      let e = Contains-single _ s i in (due, pos_tree a k ts children, refl, a, (sym (ap (λ (z : Said). z.positive) e), refl), ap (λ (z : Said). z.atom) e)
  part-says v (of_node due (neg_tree a covers)) s i =
      let e = Contains-single _ s i in (due, neg_tree a covers, refl, a, (sym (ap (λ (z : Said). z.positive) e), refl), ap (λ (z : Said). z.atom) e)
  part-says v (of_node due (loop_tree l to)) s i = absurd (Contains-none s i)
  part-says v (of_node due (seen_tree l to)) s i = absurd (Contains-none s i)
  part-says v (of_node due (test_tree k hint)) s i = absurd (Contains-none s i)
  part-says v (of_rule k a x) s i = absurd (Contains-none s i)
  part-says v (of_check k x) s i = absurd (Contains-none s i)
  part-says v (of_case body x) s i = absurd (Contains-none s i)

  line-well : (l : Line) → Contains (lines p c) l → well (free_of c) l.here.opened ≡ true
  line-well l i =
      (and_parts (well (free_of c) l.here.opened) (is_part_known (knows (free_of c) l.here.opened) l.part)
      (list_all-member (is_line_known (free_of c)) (lines p c) l (known b p c m) i)).0

  -- each atom is said by a line at an instance
  pub said-by_line : (positive : Bool) (a : Atom) → among (atoms_of positive saying) a ≡ true → SaidAt b p c m positive a
  said-by_line positive a h =
      let q = list_any-member (same_atom a) (atoms_of positive saying) h in
      let s = atoms-from positive saying q.0 q.1 in
      let l = Contains-from_flat_map (said_by_line m.free.of m.domain) (lines p c) s.0 s.1 in
      let w = Contains-from_flat_map (λ v. said_by_part v l.0.part) (ways m.domain l.0.here.opened m.free.of) s.0 l.2 in
      let k = part-says w.0 l.0.part s.0 w.2 in
      record {
        line = l.0;
        by = w.0;
        at = record {
          listed = l.1;
          instance = way-is_instance m.domain (free_of c) l.0.here.opened m.free.of w.0 (line-well l.0 l.1) w.1;
          ground = ways-ground m.domain l.0.here.opened m.free.of w.0 (domain-ground m.domain m.distinct) m.free.ground w.1;
        };
        due = k.0;
        tree = k.1;
        node = k.2;
        atom = k.3;
        literal = subst (λ (z : Bool). IsNodeOf k.1 z k.3) s.2 k.4;
        same = k.5 ∙ s.3 ∙ sym ((atom_decided a q.0).0 q.2);
      }

  -- the terms that a line lists have their values in a closed domain
  pub terms-within : is_closed_over p c m.free.of m.domain ≡ true → (l : Line) (v : Sub) → IsAt b p c m l v → (due : Due) (a : Atom) (k : ℕ) (ts : Tms) (children : Trees)
      → l.part ≡ of_node due (pos_tree a k ts children) → list_all (λ t. list_any (same_tm t) m.domain) (map (under v) (items ts)) ≡ true
  terms-within closed l v at due a k ts children e =
      let s : Said = record { positive = true; atom = atom_under v a; terms = map (under v) (items ts) } in
      closed-terms p c (known b p c m) m.free.of m.domain closed s
      (record { line = l; listed = at.listed; by = v; instance = at.instance; says = subst (λ (x : Part). Contains (said_by_part v x) s) (sym e) (Contains-here s []) })
