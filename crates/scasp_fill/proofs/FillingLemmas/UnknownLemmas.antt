-- Where it is not known that nothing else serves, a list overflows that the search asks, if each list of a pair fails the test.
use Rattle.std.proofs.Common.{◌≡◌, true, false, not, inl, inr, List, ◌++◌, refl, ap}
use Rattle.std.specs.List.{Contains, list_all, list_any}
use Rattle.std.proofs.lemmas.Bool.{and_cases}
use Rattle.std.proofs.lemmas.List.Elements.{Contains-append_left, Contains-append_right}
use Rattle.scasp_list.proofs.MemberLemmas.{Contains-from_flat_map, Contains-map, list_all-fails, list_all-member, list_any-from}
use Rattle.scasp_syntax.specs.declared.con.Con.{Con}
use Rattle.scasp_syntax.specs.declared.program.Program.{Program}
use Rattle.scasp_cert.specs.Certificate.{Certificate}
use Rattle.scasp_hint.specs.AskedRows.{RowsNormal}
use Rattle.scasp_hint.specs.Finding.{Found, hint, nothing, unknown_list, overflows_in}
use Rattle.scasp_hint_steps.specs.Pruned.{found_pruned}
use Rattle.scasp_hint.specs.Satisfying.{sat}
use Rattle.scasp_hint_steps.proofs.FoundLemmas.{pruned-large, pruned-passes}
use Rattle.scasp_lines.specs.Lines.{free_of, lines}
use Rattle.scasp_lines.specs.Walk.{Line}
use Rattle.scasp_checker_rules.specs.Normality.{AreRowsNormal}
use Rattle.scasp_checker_rules.specs.PairLists.{pair_list}
use Rattle.scasp_checker_rules.specs.Pairs.{all_pairs}
use Rattle.scasp_checker_rules.specs.Told.{Told, all_told}
use Rattle.scasp_search_rules.specs.Successors.Answers.{hint_lists, pair_lists, part_lists}
use Rattle.scasp_fill.specs.Filling.Filled.{is_known, is_either_known, is_pair_known, is_filling_known}
use Rattle.scasp_fill.proofs.FillingLemmas.FillLemmas.{lists-normal, pairs-normal}

unknown-large : (cs : List Con) → RowsNormal cs → is_known (found_pruned cs) ≡ false → overflows_in cs ≡ true
unknown-large cs n e = by (found_pruned cs) refl
  where
    by : (o : Found) → found_pruned cs ≡ o → overflows_in cs ≡ true
    by nothing f = let k = ap is_known f in cc
    by unknown_list f = pruned-large cs n f
    by (hint h) f = let k = ap is_known f in cc

-- of a list that fails the test a hint is found, or it overflows
unknown-either : (cs other : List Con) → RowsNormal cs → not (sat cs) ≡ true → is_either_known (found_pruned cs) (found_pruned other) ≡ false → overflows_in cs ≡ true
unknown-either cs other n s e = by (found_pruned cs) refl
  where
    by : (o : Found) → found_pruned cs ≡ o → overflows_in cs ≡ true
    by nothing f = let k : not (sat cs) ≡ false = ap not (pruned-passes cs n f) in cc
    by unknown_list f = pruned-large cs n f
    by (hint h) f = let k = ap (λ (o : Found). is_either_known o (found_pruned other)) f in cc

module _ (p : Program) (c : Certificate) (normal : AreRowsNormal p c) where
  abbrev all : List (Told × Told)
  all = all_pairs (all_told (lines p c))

  pub unknown-overflows : is_filling_known p c ≡ false → list_all (λ cs. not (sat cs)) (pair_lists p c) ≡ true → list_any overflows_in (pair_lists p c ++ hint_lists p c) ≡ true
  unknown-overflows e s =
      elim (and_cases (list_all (λ cs. is_known (found_pruned cs)) (hint_lists p c)) (list_all (is_pair_known (free_of c) c.given) all) e) [
        | inl k ↦
            (let m = list_all-fails (λ (cs : List Con). is_known (found_pruned cs)) (hint_lists p c) k in
            let l = Contains-from_flat_map (λ (l : Line). part_lists c.given l.here l.part) (lines p c) m.0 m.1 in
            list_any-from overflows_in (pair_lists p c ++ hint_lists p c) m.0 (Contains-append_right (pair_lists p c) (hint_lists p c) m.0 m.1)
            (unknown-large m.0 (lists-normal p c normal l.0 l.1 m.0 l.2) m.2))
        | inr k ↦
            (let m = list_all-fails (is_pair_known (free_of c) c.given) all k in
            let list = pair_list (free_of c) c.given m.0.0 m.0.1 in
            let there : Contains (pair_lists p c) list = Contains-map (λ (ab : Told × Told). pair_list (free_of c) c.given ab.0 ab.1) all m.0 m.1 in
            list_any-from overflows_in (pair_lists p c ++ hint_lists p c) list (Contains-append_left (pair_lists p c) (hint_lists p c) list there)
            (unknown-either list (pair_list (free_of c) c.given m.0.1 m.0.0) (pairs-normal p c normal m.0 m.1).0
            (list_all-member (λ (cs : List Con). not (sat cs)) (pair_lists p c) list s there) m.2))
      ]
