-- The query holds under the answer's terms.
use Rattle.std.proofs.Common.{◌≡◌, Bool, true, false, cond, List, [], refl, ap, sym, subst}
use Rattle.std.specs.List.{Contains, list_all}
use Rattle.std.proofs.lemmas.Bool.{and_from}
use Rattle.scasp_list.specs.Each.{Each}
use Rattle.scasp_list.proofs.MemberLemmas.{list_all-from, list_all-member}
use Rattle.scasp_syntax.specs.Flat.{flat_body}
use Rattle.scasp_syntax.specs.Instances.{atom_under}
use Rattle.scasp_syntax.specs.Same.{same_bool}
use Rattle.scasp_syntax.specs.Tm.{items}
use Rattle.scasp_syntax.specs.Values.{Sub, giving}
use Rattle.scasp_syntax.specs.declared.atom.Atom.{Atom}
use Rattle.scasp_syntax.specs.declared.atom.Lit.{Lit}
use Rattle.scasp_syntax.specs.declared.clause.FlatItem.{FlatItem}
use Rattle.scasp_syntax.specs.declared.clause.FlatItem.TheVariants as flat
use Rattle.scasp_syntax.specs.declared.clause.Item.{Item}
use Rattle.scasp_syntax.specs.declared.clause.Item.TheVariants as item
use Rattle.scasp_syntax.specs.declared.clause.Query.{Query}
use Rattle.scasp_syntax.specs.declared.program.Program.{Program}
use Rattle.scasp_model.specs.Atoms.{among}
use Rattle.scasp_model.specs.Grounding.{is_test_true, literal_under}
use Rattle.scasp_model.specs.Residual.{is_known_true}
use Rattle.scasp_cert.specs.Certificate.{Certificate}
use Rattle.scasp_lines.specs.Below.{HasNode}
use Rattle.scasp_lines.specs.Dues.{due_of}
use Rattle.scasp_lines.specs.Lines.{free_of, lines, setting}
use Rattle.scasp_lines.specs.Opened.{Opened, IsInstance}
use Rattle.scasp_lines.specs.Places.{Place, start}
use Rattle.scasp_lines.specs.Said.{atoms_of, false_atoms, true_atoms}
use Rattle.scasp_lines.proofs.BelowLemmas.{has-query}
use Rattle.scasp_checker_rules.specs.Normality.{ItemNormal}
use Rattle.scasp_checker_rules.proofs.ListLemmas.{numbered-contains}
use Rattle.scasp_unify.proofs.Members.{Each-member}
use Rattle.scasp_law_promise.specs.Good.{holds_by, query_values}
use Rattle.scasp_law_promise.specs.Premises.{Premises, IsAt}
use Rattle.scasp_law_promise.proofs.BodyLemmas.{call-in_flat, tests-true}
use Rattle.scasp_law_promise.proofs.FoundedLemmas.{atom-under-atom}
use Rattle.scasp_law_promise.proofs.SayingLemmas.{saying, due-said}
use Rattle.scasp_law_promise.proofs.TestedLemmas.{fact-true, flat-basic}

module _ (b : Bool) (p : Program) (c : Certificate) (m : Premises b p c) where
  abbrev query : Query
  query = m.accepted.query

  abbrev values : Sub
  values = query_values c m.free.of

  node : (i : FlatItem) → Contains (flat_body query.body) i → HasNode (lines p c) (start (setting p.clauses c).top) (due_of (giving (items c.terms)) true i)
  node i j = has-query p c query m.accepted.named m.accepted.each_item i j

  at-start : (i : FlatItem) (j : Contains (flat_body query.body) i) → IsAt b p c m (node i j).line m.free.of
  at-start i j =
      let n = node i j in
      record {
        listed = n.listed;
        instance = subst (λ (os : List Opened). IsInstance (free_of c) m.domain m.free.of os m.free.of) (sym (ap (λ (z : Place). z.opened) n.there)) (record { free_values = λ x l. refl; met = refl });
        ground = m.free.ground;
      }

  tests : list_all (is_test_true values) query.body ≡ true
  tests =
      tests-true values [] query.body (λ x e. cc)
      (λ k i.
      (let n = node (flat.Test k) i in
      let normal : ItemNormal (flat.Test k) = Each-member ItemNormal (flat_body query.body) (flat.Test k)
      (Each-member (λ (z : Query). Each ItemNormal (flat_body z.body)) p.queries query m.normal.queries (numbered-contains p.queries c.query query m.accepted.named)) i in
      fact-true b p c m n.line m.free.of (at-start (flat.Test k) i) (giving (items c.terms)) k n.tree n.is (flat-basic [] query.body k i) normal))

  literal-true : (l : Lit) → Contains query.body (item.Call l) → is_known_true (true_atoms p c m.free.of m.domain) (false_atoms p c m.free.of m.domain) (record { positive = l.positive; atom = atom_under values l.atom }) ≡ true
  literal-true l i =
      let j = call-in_flat [] query.body l i in
      let n = node (flat.Call l) j in
      let said = due-said b p c m n.line m.free.of (at-start (flat.Call l) j) (record { positive = same_bool l.positive true; atom = atom_under (giving (items c.terms)) l.atom }) n.tree n.is in
      by l.positive (subst (λ (z : Atom). among (atoms_of (same_bool l.positive true) (saying b p c m)) z ≡ true) (atom-under-atom m.free.of (giving (items c.terms)) l.atom) said)
    where
      by : (s : Bool) → among (atoms_of (same_bool s true) (saying b p c m)) (atom_under values l.atom) ≡ true
          → cond s (among (true_atoms p c m.free.of m.domain) (atom_under values l.atom)) (among (false_atoms p c m.free.of m.domain) (atom_under values l.atom)) ≡ true
      by true h = h
      by false h = h

  -- each item of the query holds
  pub query-holds : list_all (holds_by (true_atoms p c m.free.of m.domain) (false_atoms p c m.free.of m.domain) values) query.body ≡ true
  query-holds =
      list_all-from (holds_by (true_atoms p c m.free.of m.domain) (false_atoms p c m.free.of m.domain) values) query.body
      (λ i j. and_from (is_test_true values i) _ (list_all-member (is_test_true values) query.body i tests j) (literals i j))
    where
      literals : (i : Item) → Contains query.body i → list_all (is_known_true (true_atoms p c m.free.of m.domain) (false_atoms p c m.free.of m.domain)) (literal_under values i) ≡ true
      literals (item.Call l) j = and_from _ true (literal-true l j) refl
      literals (item.Equal t u) j = refl
      literals (item.Differ t u) j = refl
      literals (item.Linear r) j = refl
