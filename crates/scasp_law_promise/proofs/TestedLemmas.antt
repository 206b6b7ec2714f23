-- Where a test is due, the clause's constraint holds.
use Rattle.std.proofs.Common.{◌≡◌, ℕ, Bool, true, List, [], ◌∷◌, ◌++◌, map, Option, Some, refl, ap, sym, subst, inl, inr}
use Rattle.std.specs.List.{Contains}
use Rattle.std.proofs.lemmas.List.Elements.{Contains-append_cases}
use Rattle.scasp_list.proofs.MemberLemmas.{Contains-none, Contains-cases, Contains-from_map}
use Rattle.scasp_syntax.specs.Constraints.{holds}
use Rattle.scasp_syntax.specs.Flat.{flat_after, number_test, unseen}
use Rattle.scasp_syntax.specs.Values.{Sub, under}
use Rattle.scasp_syntax.specs.declared.clause.FlatItem.TheVariants as flat
use Rattle.scasp_syntax.specs.declared.clause.Item.{Item}
use Rattle.scasp_syntax.specs.declared.clause.Item.TheVariants as item
use Rattle.scasp_syntax.specs.declared.con.Con.{Con}
use Rattle.scasp_syntax.specs.declared.con.Con.TheVariants as con
use Rattle.scasp_syntax.specs.declared.program.Program.{Program}
use Rattle.scasp_syntax.specs.declared.term.Term.TheVariants.{Var}
use Rattle.scasp_cert.specs.Certificate.{Certificate}
use Rattle.scasp_cert.specs.Trees.{Tree, pos_tree, neg_tree, loop_tree, seen_tree, test_tree}
use Rattle.scasp_hint.specs.AskedRows.{RowsNormal}
use Rattle.scasp_lines.specs.Determined.{determined}
use Rattle.scasp_lines.specs.Dues.{Due, goal, fact, nothing}
use Rattle.scasp_lines.specs.Walk.{of_node, Line}
use Rattle.scasp_checker_rules.proofs.DeterminedLemmas.{determined-basic, determined-truth, is_basic}
use Rattle.scasp_law_promise.specs.Premises.{Premises, IsAt}
use Rattle.scasp_law_promise.proofs.InstanceLemmas.{part-holds, test-true}

fact-is : (o u : Option Con) → fact o ≡ fact u → o ≡ u
fact-is o u e = ap con e
  where
    con : Due → Option Con
    con (goal l) = o
    con (fact k) = k
    con nothing = o

module _ (b : Bool) (p : Program) (c : Certificate) (m : Premises b p c) (x : Line) (v : Sub) (at : IsAt b p c m x v) where
  -- the constraint that is due is determined, and the clause's holds
  pub fact-true : (s : Sub) (k : Con) (t : Tree) → x.part ≡ of_node (fact (determined s k)) t → is_basic k ≡ true → RowsNormal (k ∷ []) → holds (λ y. under v (s y)) k ≡ true
  fact-true s k (pos_tree a r ts children) e basic n =
      let h = part-holds b p c m x (of_node (fact (determined s k)) (pos_tree a r ts children)) at.listed e in let f = h.0.asked in cc
  fact-true s k (neg_tree a covers) e basic n =
      let h = part-holds b p c m x (of_node (fact (determined s k)) (neg_tree a covers)) at.listed e in let f = h.0.asked in cc
  fact-true s k (loop_tree l to) e basic n =
      let h = part-holds b p c m x (of_node (fact (determined s k)) (loop_tree l to)) at.listed e in let f = h.0.asked in cc
  fact-true s k (seen_tree l to) e basic n =
      let h = part-holds b p c m x (of_node (fact (determined s k)) (seen_tree l to)) at.listed e in let f = h.0.asked in cc
  fact-true s k (test_tree q hint) e basic n =
      let h = part-holds b p c m x (of_node (fact (determined s k)) (test_tree q hint)) at.listed e in
      let is : Some q ≡ determined s k = sym (fact-is (determined s k) (Some q) h.asked) in
      (determined-truth v s k q n is).0
      (test-true b p c m x v at (fact (determined s k)) q hint e (determined-basic s k q basic is))

-- the tests of a flat body are no excluded shapes
pub flat-basic : (seen : List ℕ) (body : List Item) (c : Con) → Contains (flat_after seen body) (flat.Test c) → is_basic c ≡ true
flat-basic seen [] c i = absurd (Contains-none (flat.Test c) i)
flat-basic seen (item.Call l ∷ body) c i = elim (Contains-cases (flat.Call l) (flat_after seen body) (flat.Test c) i) [ inl e ↦ cc | inr j ↦ flat-basic seen body c j ]
flat-basic seen (item.Equal t u ∷ body) c i = elim (Contains-cases (flat.Test (con.Eq t u)) (flat_after seen body) (flat.Test c) i) [
  | inl e ↦ (let same : con.Eq t u ≡ c = cc in subst (λ (z : Con). is_basic z ≡ true) same refl)
  | inr j ↦ flat-basic seen body c j
]
flat-basic seen (item.Differ t u ∷ body) c i = elim (Contains-cases (flat.Test (con.Neq t u)) (flat_after seen body) (flat.Test c) i) [
  | inl e ↦ (let same : con.Neq t u ≡ c = cc in subst (λ (z : Con). is_basic z ≡ true) same refl)
  | inr j ↦ flat-basic seen body c j
]
flat-basic seen (item.Linear l ∷ body) c i =
    elim (Contains-append_cases (map number_test (unseen seen l.vars)) (flat.Test (con.Row l.row) ∷ flat_after (seen ++ l.vars) body) (flat.Test c) i) [
      | inl j ↦
          (let k = Contains-from_map number_test (unseen seen l.vars) (flat.Test c) j in
          let e = k.2 in let same : con.Num (Var k.0) ≡ c = cc in subst (λ (z : Con). is_basic z ≡ true) same refl)
      | inr j ↦ elim (Contains-cases (flat.Test (con.Row l.row)) (flat_after (seen ++ l.vars) body) (flat.Test c) j) [
        | inl e ↦ (let same : con.Row l.row ≡ c = cc in subst (λ (z : Con). is_basic z ≡ true) same refl)
        | inr k ↦ flat-basic (seen ++ l.vars) body c k
      ]
    ]
