-- The lines of blocks, one after another.
use Rattle.std.proofs.Common.{◌≡◌, ◌∙◌, ℕ, zero, suc, ◌+◌, List, [], ◌∷◌, ◌++◌, drop, Option, None, Some, refl, ap, sym, add-one}
use Rattle.std.specs.List.{concat, slice_get}
use Rattle.std.specs.Option.{option_map}
use Rattle.std.proofs.Math.Seq.{drop-nil}
use Rattle.scasp_syntax.specs.declared.program.Program.{Program}
use Rattle.scasp_cert.specs.Certificate.{Certificate}
use Rattle.scasp_recheck.specs.Checks.{checked_of}
use Rattle.scasp_recheck.specs.declared.checked.Checked.{Checked}
use Rattle.scasp_command_check.specs.Texts.{line_by}
use Rattle.scasp_command_check.specs.declared.worth.Worth.{Worth}
use Rattle.scasp_command_recheck.specs.Lines.{line_at, lines_by}
use Rattle.scasp_command_recheck.specs.Worths.{worth_in}
use Rattle.scasp_command_recheck.proofs.BlockLemmas.{worth-is}

pub lines-none : (p : Program) (ns : List ℕ) → lines_by p ns [] ≡ []
lines-none p [] = refl
lines-none p (n ∷ ns) = refl

line-none : (p : Program) (o : Option ℕ) → line_at p o None ≡ []
line-none p None = refl
line-none p (Some n) = refl

lines-from : (p : Program) (ns : List ℕ) (cs : List Certificate) (i : ℕ)
    → concat (lines_by p (drop i ns) (drop i cs)) ≡ line_at p (slice_get ns i) (slice_get cs i) ++ concat (lines_by p (drop (suc i) ns) (drop (suc i) cs))
lines-from p [] cs i = (λ j. concat (lines_by p (drop-nil {A = ℕ} i j) (drop i cs))) ∙ sym (λ j. concat (lines_by p (drop-nil {A = ℕ} (suc i) j) (drop (suc i) cs)))
lines-from p (n ∷ ns) [] i =
    let left : concat (lines_by p (drop i (n ∷ ns)) (drop i [])) ≡ [] =
    (λ j. concat (lines_by p (drop i (n ∷ ns)) (drop-nil {A = Certificate} i j))) ∙ ap concat (lines-none p (drop i (n ∷ ns))) in
    let right : concat (lines_by p (drop (suc i) (n ∷ ns)) (drop (suc i) [])) ≡ [] =
    (λ j. concat (lines_by p (drop (suc i) (n ∷ ns)) (drop-nil {A = Certificate} (suc i) j))) ∙ ap concat (lines-none p (drop (suc i) (n ∷ ns))) in
    left ∙ sym (λ j. line-none p (slice_get (n ∷ ns) i) j ++ right j)
lines-from p (n ∷ ns) (c ∷ cs) zero = refl
lines-from p (n ∷ ns) (c ∷ cs) (suc i) = lines-from p ns cs i

-- the lines from one place on, and from the next
pub lines-next : (p : Program) (ns : List ℕ) (cs : List Certificate) (i : ℕ)
    → concat (lines_by p (drop i ns) (drop i cs)) ≡ line_at p (slice_get ns i) (slice_get cs i) ++ concat (lines_by p (drop (i + 1) ns) (drop (i + 1) cs))
lines-next p ns cs i =
    lines-from p ns cs i ∙ ap (λ n. line_at p (slice_get ns i) (slice_get cs i) ++ concat (lines_by p (drop n ns) (drop n cs))) (sym (add-one i))

-- the line of a block, by what a check of it comes to
pub line-is : (p : Program) (n : ℕ) (o : Option Certificate) (c : Certificate) (k : Checked) (w : Worth) (line : List ℕ) → option_map (checked_of p) o ≡ Some k → o ≡ Some c
    → w ≡ worth_in k → line ≡ line_by w n c → line ≡ line_at p (Some n) o
line-is p n o c k w line h e f g =
    let both : Some (checked_of p c) ≡ Some k = ap (option_map (checked_of p)) (sym e) ∙ h in
    let same : checked_of p c ≡ k = cc in
    g ∙ ap (λ z. line_by z n c) (f ∙ ap worth_in (sym same) ∙ worth-is p c) ∙ ap (line_at p (Some n)) (sym e)
