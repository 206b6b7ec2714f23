-- A certificate has no fault exactly where it is accepted.
use Rattle.std.proofs.Common.{◌≡◌, ◌∙◌, ◌↔◌, Bool, nat_eq, [], length, ap, sym}
use Rattle.std.specs.List.{list_all}
use Rattle.std.proofs.lemmas.Bool.{and_parts, and_from}
use Rattle.std.proofs.lemmas.Bool.Decides.{Decides-eqb}
use Rattle.scasp_syntax.specs.Programs.{numbered}
use Rattle.scasp_syntax.specs.Tm.{items}
use Rattle.scasp_syntax.specs.Values.{are_ground, giving}
use Rattle.scasp_syntax.specs.WellFormed.{are_below}
use Rattle.scasp_syntax.specs.declared.program.Program.{Program}
use Rattle.scasp_cert.specs.Certificate.{Certificate}
use Rattle.scasp_cert.specs.Trees.{listed}
use Rattle.scasp_lines.specs.Below.{count}
use Rattle.scasp_lines.specs.Known.{is_con_known}
use Rattle.scasp_lines.specs.Lines.{free_of, lines}
use Rattle.scasp_checker_rules.specs.Accepted.{LineHolds, AreApart, IsOfPair, AcceptsWhere}
use Rattle.scasp_checker_rules.specs.BoundedTruth.{holds_bounded}
use Rattle.scasp_checker_rules.specs.Faults.{query_items, is_free, faults_where}
use Rattle.scasp_checker_rules.specs.LineFaults.{line_faults}
use Rattle.scasp_checker_rules.specs.Pairs.{all_pairs, pair_faults, other_clash}
use Rattle.scasp_checker_rules.specs.Told.{all_told}
use Rattle.scasp_checker_rules.specs.Wholes.{whole_of}
use Rattle.scasp_checker_rules.proofs.CaseLemmas.{line-holds, line-none}
use Rattle.scasp_checker_rules.proofs.PairLemmas.{apart-holds, apart-none, of-pair, pair-of}
use Rattle.scasp_checker_rules.proofs.TestLemmas.{wants-holds, wants-none, both_none, none_both, each-none, none-each, of_some-parts, of_some-from}

accepted : (b : Bool) (p : Program) (c : Certificate) → faults_where b p c ≡ [] → AcceptsWhere b p c
accepted b p c e =
    let m = both_none _ _ e in
    let s = both_none _ _ m.0 in
    let a = both_none _ _ s.0 in
    let l = both_none _ _ a.0 in
    let t = both_none _ _ l.0 in
    let v = both_none _ _ t.0 in
    let q = of_some-parts (numbered p.queries c.query) (λ q. nat_eq (length (items c.terms)) (length q.names)) (wants-holds 0 _ _ v.0) in
    let k = and_parts (are_below (free_of c) c.terms) (list_all (is_con_known (is_free c)) c.given) (wants-holds 0 _ _ v.1) in
    let n = and_parts (are_ground c.sample) (list_all (holds_bounded (giving (items c.sample))) c.given) (wants-holds 0 _ _ s.1) in
    let pairs = both_none _ _ a.1 in
    record {
      query = q.0;
      named = q.1;
      each_variable = (Decides-eqb (length (items c.terms)) (length q.0.names)).0 q.2;
      terms_known = k.0;
      given_known = k.1;
      each_item = (Decides-eqb (count (listed c.trees)) (query_items (numbered p.queries c.query))).0 (wants-holds 0 _ _ t.1) ∙ ap query_items q.1;
      lines_hold = each-none (LineHolds (whole_of b p c)) (line_faults (whole_of b p c)) (line-holds (whole_of b p c)) (lines p c) l.1;
      apart = each-none (AreApart c) (pair_faults (free_of c) c.given c.clashes) (apart-holds c) (all_pairs (all_told (lines p c))) pairs.0;
      clashes = each-none (IsOfPair (all_told (lines p c))) (other_clash (all_told (lines p c))) (of-pair (all_told (lines p c))) c.clashes pairs.1;
      sample_ground = n.0;
      sample_meets = n.1;
      map = wants-holds 0 _ _ m.1;
    }

unfaulted : (b : Bool) (p : Program) (c : Certificate) → AcceptsWhere b p c → faults_where b p c ≡ []
unfaulted b p c h =
    none_both _ _
    (none_both _ _
    (none_both _ _
    (none_both _ _
    (none_both _ _
    (none_both _ _
    (wants-none 0 _ _ (of_some-from (numbered p.queries c.query) (λ q. nat_eq (length (items c.terms)) (length q.names)) h.query h.named ((Decides-eqb (length (items c.terms)) (length h.query.names)).1 h.each_variable)))
    (wants-none 0 _ _ (and_from _ _ h.terms_known h.given_known)))
    (wants-none 0 _ _ ((Decides-eqb (count (listed c.trees)) (query_items (numbered p.queries c.query))).1 (h.each_item ∙ sym (ap query_items h.named)))))
    (none-each (LineHolds (whole_of b p c)) (line_faults (whole_of b p c)) (line-none (whole_of b p c)) (lines p c) h.lines_hold))
    (none_both _ _
    (none-each (AreApart c) (pair_faults (free_of c) c.given c.clashes) (apart-none c) (all_pairs (all_told (lines p c))) h.apart)
    (none-each (IsOfPair (all_told (lines p c))) (other_clash (all_told (lines p c))) (pair-of (all_told (lines p c))) c.clashes h.clashes)))
    (wants-none 0 _ _ (and_from _ _ h.sample_ground h.sample_meets)))
    (wants-none 0 _ _ h.map)

pub accepted-no_fault : (b : Bool) (p : Program) (c : Certificate) → AcceptsWhere b p c ↔ (faults_where b p c ≡ [])
accepted-no_fault b p c = (unfaulted b p c, accepted b p c)
