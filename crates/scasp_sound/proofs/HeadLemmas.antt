-- The rules of a program whose heads pass a test.
use Rattle.std.proofs.Common.{◌≡◌, ◌∙◌, Bool, true, List, Some, ap, sym}
use Rattle.std.specs.List.{Contains}
use Rattle.scasp_syntax.specs.declared.atom.Atom.{Atom}
use Rattle.scasp_model.specs.Programs.{head_is, rules_for}
use Rattle.scasp_model.specs.declared.program.GroundClause.{GroundClause}
use Rattle.scasp_list.proofs.MemberLemmas.{Contains-filter, Contains-from_filter}

module _ (test : Atom → Bool) (g : List GroundClause) (c : GroundClause) (a : Atom) where
  pub rules_for-has : Contains g c → c.head ≡ Some a → test a ≡ true → Contains (rules_for test g) c
  rules_for-has i e h = Contains-filter (λ k. head_is test k.head) g c i (ap (head_is test) e ∙ h)

  pub rules_for-from : Contains (rules_for test g) c → c.head ≡ Some a → Contains g c × (test a ≡ true)
  rules_for-from i e =
      let q = Contains-from_filter (λ k. head_is test k.head) g c i in
      (q.0, sym (ap (head_is test) e) ∙ q.1)
