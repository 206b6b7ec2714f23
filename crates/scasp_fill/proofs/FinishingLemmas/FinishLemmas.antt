-- What follows for a tree from what the checker says of its filled form.
use Rattle.std.proofs.Common.{◌≡◌, ◌∙◌, ℕ, Bool, true, false, if◌then◌else◌, IsTrue, List, [], map, Ok, Err, ap, sym, subst}
use Rattle.std.proofs.lemmas.Simd.{map-map}
use Rattle.scasp_checker_rules.specs.Accepted.{Accepts}
use Rattle.scasp_checker_rules.specs.Normality.{AreRowsNormal}
use Rattle.scasp_cert.specs.Certificate.{Certificate}
use Rattle.scasp_cert.specs.Flat.{is_flat}
use Rattle.scasp_cert.specs.Skeleton.{bare_entry, skeleton}
use Rattle.scasp_cert.specs.Trees.{Branch}
use Rattle.scasp_fill.proofs.FillingLemmas.FillLemmas.{filled-accepted}
use Rattle.scasp_fill.proofs.FillingLemmas.OwnLemmas.{skeleton-shown}
use Rattle.scasp_fill.proofs.FillingLemmas.UnknownLemmas.{unknown-overflows}
use Rattle.scasp_fill.specs.Filling.Filled.{clashes_found, filled, found_on, is_filling_known}
use Rattle.scasp_fill.specs.Finishing.Finishes.{Finishes, IsSearched}
use Rattle.scasp_fill.specs.Finishing.Right.{Completes, HasNoAccepted}
use Rattle.scasp_fill.specs.declared.finishing.finishing.Finished.{Finished}
use Rattle.scasp_fill.specs.declared.finishing.finishing.Finished.TheVariants as finished
use Rattle.scasp_graph.specs.Judged.{judged}
use Rattle.scasp_graph.specs.Map.{MapHolds, map_faults}
use Rattle.scasp_graph.specs.declared.map.MapFault.{MapFault}
use Rattle.scasp_sound.specs.MapLevels.{covered}
use Rattle.scasp_law_promise.proofs.OwnRowLemmas.{rows-normal}
use Rattle.scasp_law_promise.specs.Good.{GoodRight, HasClosedDomains}
use Rattle.scasp_law_promise.specs.OwnRows.{has_normal_rows}
use Rattle.scasp_syntax.specs.declared.predicate_map.PredMap.{PredMap}
use Rattle.scasp_syntax.specs.declared.program.Program.{Program}

skeleton-filled : (p : Program) (c : Certificate) → skeleton (filled p c) ≡ skeleton c
skeleton-filled p c = skeleton-shown (found_on p c) (clashes_found p c) c

-- the clauses of the checks stand in the skeleton
covered-same : (c d : Certificate) → skeleton c ≡ skeleton d → covered c ≡ covered d
covered-same c d e =
    sym (map-map (λ (k : ℕ × Branch). k.0) bare_entry c.checks)
    ∙ ap (λ (x : Certificate). map (λ (k : ℕ × Branch). k.0) x.checks) e
    ∙ map-map (λ (k : ℕ × Branch). k.0) bare_entry d.checks

-- and so does the map
map-same : (p : Program) (c d : Certificate) → skeleton c ≡ skeleton d → MapHolds p (covered c) c.map → MapHolds p (covered d) d.map
map-same p c d e h =
    ap (λ (ns : List ℕ). map_faults p ns d.map) (sym (covered-same c d e))
    ∙ ap (λ (ms : List PredMap). map_faults p (covered c) ms) (sym (ap (λ (x : Certificate). x.map) e))
    ∙ h

-- a filled form that is right
pub right-completes : (p : Program) (tree c : Certificate) → c ≡ filled p tree → Accepts p c → map_faults p (covered c) c.map ≡ [] → GoodRight p c
    → (IsTrue (is_flat c) → HasClosedDomains p c) → Completes p tree c
right-completes p tree c e accepted kept good domains = record {
  is = e;
  same = ap skeleton e ∙ skeleton-filled p tree;
  right = record { accepted = accepted; map = kept; good = good; domains = domains };
}

-- one that breaks its map, as no tree of the written search does
pub joins-none : (p : Program) (tree c : Certificate) (fault : MapFault) → c ≡ filled p tree → judged (map_faults p (covered c) c.map) ≡ Err fault
    → IsSearched p tree → HasNoAccepted p tree
joins-none p tree c fault e broken searched =
    let to : skeleton tree ≡ skeleton c = sym (ap skeleton e ∙ skeleton-filled p tree) in
    let kept : map_faults p (covered c) c.map ≡ [] = map-same p tree c to searched.map in
    let k : judged [] ≡ Err fault = ap judged (sym kept) ∙ broken in
    absurd (cc k)

-- one that is refused, where it is known that nothing else serves
refused-none : (p : Program) (tree c : Certificate) → has_normal_rows tree ≡ true → is_filling_known p tree ≡ true → c ≡ filled p tree → ¬ Accepts p c
    → HasNoAccepted p tree
refused-none p tree c rows known e not other same accepted =
    not (subst (Accepts p) (sym e) (filled-accepted true p tree other (rows-normal p tree rows) known same accepted))

-- a refused form, by whether it is known that nothing else serves
pub refused-finishes : (p : Program) (tree c : Certificate) (known : Bool) (r : Finished) → has_normal_rows tree ≡ true → c ≡ filled p tree
    → known ≡ is_filling_known p tree → ¬ Accepts p c → r ≡ (if known then finished.Passed else finished.Overflow) → Finishes p tree r
refused-finishes p tree c true r rows e known not is =
    subst (Finishes p tree) (sym is) (λ searched. refused-none p tree c rows (sym known) e not)
refused-finishes p tree c false r rows e known not is =
    subst (Finishes p tree) (sym is) (λ searched. unknown-overflows p tree (rows-normal p tree rows) (sym known) searched.apart)
