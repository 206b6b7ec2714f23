-- Faults of pairs, one behind the other.
use Rattle.std.proofs.Common.{◌≡◌, ◌∙◌, List, [], ◌∷◌, ◌++◌, Result, ap, sym, subst}
use Rattle.std.specs.List.{flat_map}
use Rattle.scasp_checker_rules.specs.Faults.{apart_faults}
use Rattle.scasp_checker_rules.specs.Pairs.{all_pairs, other_clash, pair_faults}
use Rattle.scasp_checker_rules.specs.Told.{Told, all_told}
use Rattle.scasp_checker_rules.specs.declared.refusal.Refusal.{Refusal}
use Rattle.scasp_cert.specs.Certificate.{Certificate}
use Rattle.scasp_checker_answer.proofs.Judging.{first_here}
use Rattle.scasp_checker_answer.specs.Judged.{IsFirst, Judges}
use Rattle.scasp_checker_answer.specs.declared.judged.CheckErr.{CheckErr}
use Rattle.scasp_lines.specs.Lines.{free_of}
use Rattle.scasp_lines.specs.Walk.{Line}
use Rattle.scasp_lines_walk.proofs.ShownLemmas.StandingLemmas.{standings-tell}
use Rattle.scasp_lines_walk.specs.Shown.Standings.{Standing, standings, told_by}

-- the first of a list that is gone through, by the faults of lists
module _ {A : Type 0} (faults : List A → List Refusal) (now all : List Refusal) (here rest : List A) (x : A)
    (is : here ≡ x ∷ rest) (step : faults (x ∷ rest) ≡ now ++ faults rest) (begun : faults here ≡ all) where
  pub first-passed : now ≡ [] → faults rest ≡ all
  first-passed none = ap (λ (rs : List Refusal). rs ++ faults rest) (sym none) ∙ sym step ∙ ap faults (sym is) ∙ begun

  pub first-refused : (e : CheckErr) → IsFirst e now → IsFirst e all
  first-refused e h = subst (IsFirst e) (sym step ∙ ap faults (sym is) ∙ begun) (first_here e now (faults rest) h)

-- ---- the pairs of the table, and then the clash lines

module _ (c : Certificate) (rows : List Standing) (ls : List Line) (tells : rows ≡ standings ls) where
  faults-told : flat_map (pair_faults (free_of c) c.given c.clashes) (all_pairs (flat_map told_by rows)) ≡ flat_map (pair_faults (free_of c) c.given c.clashes) (all_pairs (all_told ls))
  faults-told =
      ap (λ (ts : List Told). flat_map (pair_faults (free_of c) c.given c.clashes) (all_pairs ts)) (ap (flat_map told_by) tells ∙ standings-tell ls)

  pub pairs-refused : (e : CheckErr) → IsFirst e (flat_map (pair_faults (free_of c) c.given c.clashes) (all_pairs (flat_map told_by rows))) → IsFirst e (apart_faults c (all_told ls))
  pairs-refused e h =
      first_here e (flat_map (pair_faults (free_of c) c.given c.clashes) (all_pairs (all_told ls))) (flat_map (other_clash (all_told ls)) c.clashes) (subst (IsFirst e) faults-told h)

  pub pairs-passed : (r : Result (Unit {0}) CheckErr) → flat_map (pair_faults (free_of c) c.given c.clashes) (all_pairs (flat_map told_by rows)) ≡ []
      → Judges r (flat_map (other_clash (all_told ls)) c.clashes) → Judges r (apart_faults c (all_told ls))
  pairs-passed r none h = subst (λ (rs : List Refusal). Judges r (rs ++ flat_map (other_clash (all_told ls)) c.clashes)) (sym none ∙ faults-told) h
