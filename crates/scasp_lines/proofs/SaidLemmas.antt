-- What a certificate says is what its lines say at their instances.
use Rattle.std.proofs.Common.{◌≡◌, Bool, true, false, not, ℕ, List, [], ◌∷◌, map, refl, ap, sym, subst}
use Rattle.std.specs.List.{Contains, list_all, list_any, filter}
use Rattle.std.proofs.lemmas.Bool.{and_parts, not-true, not_from_false}
use Rattle.scasp_syntax.specs.Instances.{atom_under}
use Rattle.scasp_syntax.specs.Same.{same_tm}
use Rattle.scasp_syntax.specs.Tm.{Tm, Tms, nil, cons, items}
use Rattle.scasp_syntax.specs.Values.{Sub, under}
use Rattle.scasp_syntax.specs.declared.atom.Atom.{Atom}
use Rattle.scasp_syntax.specs.declared.program.Program.{Program}
use Rattle.scasp_cert.specs.Certificate.{Certificate}
use Rattle.scasp_cert.specs.Trees.{Tree, pos_tree, neg_tree, loop_tree, seen_tree, test_tree}
use Rattle.scasp_lines.specs.Known.{is_known, are_known}
use Rattle.scasp_lines.specs.Said.{Said, are_in, said_by_node, said_by_part, said_by_line, said, atoms_of, is_closed_over, is_node_known, is_part_known, is_line_known, are_lines_known, SaysAt}
use Rattle.scasp_lines.specs.Opened.{knows, well}
use Rattle.scasp_lines.specs.Walk.{Part, of_node, of_rule, of_check, of_case, Line}
use Rattle.scasp_lines.specs.Lines.{free_of, lines}
use Rattle.scasp_lines.specs.Ways.{ways}
use Rattle.scasp_lines.proofs.KnownLemmas.{agree-tm, agree-tms}
use Rattle.scasp_list.proofs.MemberLemmas.{Contains-map, Contains-from_map, Contains-flat_map, Contains-from_flat_map, Contains-filter, Contains-from_filter, list_all-from, list_all-member}
use Rattle.scasp_lines.proofs.WaysLemmas.{way-is_instance, instance-has_way}

-- ---- what a part says depends on what is known alone

module _ (k : ℕ → Bool) (v w : Sub) (agree : (x : ℕ) → k x ≡ true → v x ≡ w x) where
  agree-atom : (a : Atom) → are_known k a.args ≡ true → atom_under v a ≡ atom_under w a
  agree-atom a h = ap (λ (ts : Tms). record { minus = a.minus; name = a.name; args = ts }) (agree-tms k v w agree a.args h)

  agree-items : (ts : Tms) → are_known k ts ≡ true → map (under v) (items ts) ≡ map (under w) (items ts)
  agree-items nil h = refl
  agree-items (cons t ts) h =
      let p = and_parts (is_known k t) (are_known k ts) h in
      let a = agree-tm k v w agree t p.0 in let b = agree-items ts p.1 in cc

  agree-node : (t : Tree) → is_node_known k t ≡ true → said_by_node v t ≡ said_by_node w t
  agree-node (pos_tree a rule ts children) h =
      let p = and_parts (are_known k a.args) (are_known k ts) h in
      let atom = agree-atom a p.0 in let terms = agree-items ts p.1 in
      λ i. record { positive = true; atom = atom i; terms = terms i } ∷ []
  agree-node (neg_tree a covers) h = let atom = agree-atom a h in λ i. record { positive = false; atom = atom i; terms = [] } ∷ []
  agree-node (loop_tree lit at) h = refl
  agree-node (seen_tree lit at) h = refl
  agree-node (test_tree con hint) h = refl

  agree-part : (part : Part) → is_part_known k part ≡ true → said_by_part v part ≡ said_by_part w part
  agree-part (of_node due t) h = agree-node t h
  agree-part (of_rule r a b) h = refl
  agree-part (of_check r b) h = refl
  agree-part (of_case body b) h = refl

-- ---- what is said, and the lines

module _ (p : Program) (c : Certificate) (known : are_lines_known p c ≡ true) (free : Sub) (d : List Tm) where
  line-known : (l : Line) → Contains (lines p c) l → (well (free_of c) l.here.opened ≡ true) × (is_part_known (knows (free_of c) l.here.opened) l.part ≡ true)
  line-known l h =
      and_parts (well (free_of c) l.here.opened) (is_part_known (knows (free_of c) l.here.opened) l.part)
      (list_all-member (is_line_known (free_of c)) (lines p c) l known h)

  pub said-at_line : (s : Said) → Contains (said p c free d) s → SaysAt p c free d s
  said-at_line s h =
      let q = Contains-from_flat_map (said_by_line free d) (lines p c) s h in
      let l : Line = q.0 in
      let w = Contains-from_flat_map (λ v. said_by_part v l.part) (ways d l.here.opened free) s q.2 in
      record {
        line = l;
        listed = q.1;
        by = w.0;
        instance = way-is_instance d (free_of c) l.here.opened free w.0 (line-known l q.1).0 w.1;
        says = w.2;
      }

  pub line-said : (s : Said) → SaysAt p c free d s → Contains (said p c free d) s
  line-said s a =
      let l : Line = a.line in
      let k = line-known l a.listed in
      let w = instance-has_way d (free_of c) l.here.opened free a.by k.0 a.instance in
      let same : said_by_part w.0 l.part ≡ said_by_part a.by l.part = agree-part (knows (free_of c) l.here.opened) w.0 a.by w.2 l.part k.1 in
      Contains-flat_map (said_by_line free d) (lines p c) l s a.listed
      (Contains-flat_map (λ v. said_by_part v l.part) (ways d l.here.opened free) w.0 s w.1 (subst (λ (ss : List Said). Contains ss s) (sym same) a.says))

  -- a term that a line lists at an instance has its value in a domain that is closed
  pub closed-terms : is_closed_over p c free d ≡ true → (s : Said) → SaysAt p c free d s → are_in d s.terms ≡ true
  closed-terms h s a = list_all-member (λ (s : Said). are_in d s.terms) (said p c free d) s h (line-said s a)

  pub closed-from : ((s : Said) → SaysAt p c free d s → are_in d s.terms ≡ true) → is_closed_over p c free d ≡ true
  closed-from f = list_all-from (λ (s : Said). are_in d s.terms) (said p c free d) (λ s h. f s (said-at_line s h))

-- ---- atoms

pub atoms-from : (positive : Bool) (ss : List Said) (a : Atom) → Contains (atoms_of positive ss) a → (s : Said) × Contains ss s × (s.positive ≡ positive) × (s.atom ≡ a)
atoms-from true ss a h =
    let m = Contains-from_map (λ (s : Said). s.atom) (filter (λ (s : Said). s.positive) ss) a h in
    let f = Contains-from_filter (λ (s : Said). s.positive) ss m.0 m.1 in
    (m.0, f.0, f.1, m.2)
atoms-from false ss a h =
    let m = Contains-from_map (λ (s : Said). s.atom) (filter (λ (s : Said). not s.positive) ss) a h in
    let f = Contains-from_filter (λ (s : Said). not s.positive) ss m.0 m.1 in
    (m.0, f.0, not-true (m.0).positive f.1, m.2)

pub atoms-has : (positive : Bool) (ss : List Said) (s : Said) → Contains ss s → s.positive ≡ positive → Contains (atoms_of positive ss) s.atom
atoms-has true ss s h e = Contains-map (λ (s : Said). s.atom) (filter (λ (s : Said). s.positive) ss) s (Contains-filter (λ (s : Said). s.positive) ss s h e)
atoms-has false ss s h e =
    Contains-map (λ (s : Said). s.atom) (filter (λ (s : Said). not s.positive) ss) s
    (Contains-filter (λ (s : Said). not s.positive) ss s h (not_from_false s.positive e))

pub atom-said : (p : Program) (c : Certificate) → are_lines_known p c ≡ true → (free : Sub) (d : List Tm) (positive : Bool) (a : Atom)
    → Contains (atoms_of positive (said p c free d)) a → (s : Said) × SaysAt p c free d s × (s.positive ≡ positive) × (s.atom ≡ a)
atom-said p c known free d positive a h =
    let q = atoms-from positive (said p c free d) a h in (q.0, said-at_line p c known free d q.0 q.1, q.2, q.3)

pub said-atom : (p : Program) (c : Certificate) → are_lines_known p c ≡ true → (free : Sub) (d : List Tm) (positive : Bool) (s : Said)
    → SaysAt p c free d s → s.positive ≡ positive → Contains (atoms_of positive (said p c free d)) s.atom
said-atom p c known free d positive s a e = atoms-has positive (said p c free d) s (line-said p c known free d s a) e
