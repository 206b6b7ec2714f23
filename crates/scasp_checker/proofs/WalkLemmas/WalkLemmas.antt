-- What is wrong at the lines that are left is all that is wrong.
use Rattle.std.proofs.Common.{◌≡◌, ◌∙◌, ℕ, List, [], ◌∷◌, ◌++◌, ap, sym, subst}
use Rattle.std.specs.List.{flat_map}
use Rattle.scasp_lines.specs.Numbering.{Counts}
use Rattle.scasp_lines.specs.Walk.{Line}
use Rattle.scasp_checker_rules.specs.LineFaults.{line_faults}
use Rattle.scasp_checker_rules.specs.Wholes.{Whole}
use Rattle.scasp_checker_answer.specs.Judged.{IsFirst}
use Rattle.scasp_checker_answer.specs.declared.judged.CheckErr.{CheckErr}
use Rattle.scasp_checker_answer.proofs.Judging.{first_here}
use Rattle.scasp_checker.specs.Walk.Checked.{AreBelow, last_check}
use Rattle.scasp_checker.proofs.WalkLemmas.CheckedLemmas.{Reached, below-here, reached-more, reached-none}

-- of the lines, these are left, and before them this clause was checked last
pub record Going (w : Whole) (before : ℕ) (left : List Line) : Type 0 where
  pub faults : flat_map (line_faults w) w.lines ≡ flat_map (line_faults w) left
  pub reached : Reached w before left

pub going-first : (w : Whole) (ls : List Line) → ls ≡ w.lines → Going w 0 ls
going-first w ls e = record { faults = ap (flat_map (line_faults w)) (sym e); reached = reached-none w ls (sym e) }

module _ (w : Whole) (before : ℕ) (l : Line) (ls ms : List Line) (counts : Counts 1 w.lines) (going : Going w before ms) (comes : ms ≡ l ∷ ls) where
  now : Going w before (l ∷ ls)
  now = subst (Going w before) comes going

  pub going-below : AreBelow w l.at before
  going-below = below-here w before l ls counts now.reached

  pub going-refused : (e : CheckErr) → IsFirst e (line_faults w l) → IsFirst e (flat_map (line_faults w) w.lines)
  going-refused e h = subst (IsFirst e) (sym now.faults) (first_here e (line_faults w l) (flat_map (line_faults w) ls) h)

  pub going-on : line_faults w l ≡ [] → Going w (last_check l.part before) ls
  going-on none =
      record {
        faults = now.faults ∙ ap (λ fs. fs ++ flat_map (line_faults w) ls) none;
        reached = reached-more w before l ls counts now.reached none;
      }

pub going-through : (w : Whole) (before : ℕ) (ls : List Line) → Going w before ls → ls ≡ [] → flat_map (line_faults w) w.lines ≡ []
going-through w before ls g e = g.faults ∙ ap (flat_map (line_faults w)) e
