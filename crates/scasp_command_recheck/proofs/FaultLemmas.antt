-- The status with which answers under one program after another end, and what is printed where no read fails.
use Rattle.std.proofs.Common.{◌≡◌, ◌⊎◌, inl, inr, ◌&&◌, ◌+◌, ℕ, Bool, true, false, List, [], ◌∷◌}
use Rattle.std.specs.List.{list_all}
use Rattle.scasp_syntax.specs.declared.program.Program.{Program}
use Rattle.scasp_answers.specs.Blocks.States.{Entry}
use Rattle.scasp_command_check.specs.Texts.{passes}
use Rattle.scasp_command_inputs.proofs.FaultLemmas.{EndsBy, IsQuiet, answers-end, answers-without, memory-quiet, program-ends, program-without, quiet, wider}
use Rattle.scasp_command_inputs.specs.Inputs.{Failed, Outside, without_faults}
use Rattle.scasp_command_inputs.specs.declared.status.Status.{Status}
use Rattle.scasp_command_inputs.specs.declared.status.Status.TheVariants.{Done, Memory, Read, Refused, Write}
use Rattle.scasp_command_recheck.specs.Courses.{AnyFailed, course_status, Course, FirstTurn, Rechecks, cut_first, cut_off, goes_first, goes_on, no_answers, no_first, no_program}

done-quiet : IsQuiet Done
done-quiet = (λ e. cc, λ e. cc)

course-quiet : (accepted : Bool) → IsQuiet (course_status accepted)
course-quiet true = done-quiet
course-quiet false = (λ (e : Refused ≡ Read). cc, λ (e : Refused ≡ Write). cc)

module _ (o : Outside) where
  course-end : (entries : List Entry) (files : List (List ℕ)) (n : ℕ) (p : Program) (names : List (List ℕ)) (accepted : Bool) (text : List ℕ) (s : Status)
      → Course o entries files n p names accepted text s → EndsBy (AnyFailed o files) s
  course-end entries [] n p names accepted text s says = quiet ⊥ s (course_status accepted) says.ending_is (course-quiet accepted)
  course-end entries (file ∷ files) n p names accepted text s (cut_off says) = quiet (AnyFailed o (file ∷ files)) s Memory says.ending_is memory-quiet
  course-end entries (file ∷ files) n p names accepted text s (no_program stop) =
      wider (Failed o file) (AnyFailed o (file ∷ files)) s inl (program-ends o names file text s stop)
  course-end entries (file ∷ files) n p names accepted text s (goes_on q table rest is e r) =
      wider (AnyFailed o files) (AnyFailed o (file ∷ files)) s inr (course-end entries files (n + 1) q table (accepted && list_all (passes q) entries) rest s r)

  first-end : (answers file : List ℕ) (files : List (List ℕ)) (text : List ℕ) (s : Status) → FirstTurn o answers file files text s
      → EndsBy (Failed o answers ⊎ AnyFailed o (file ∷ files)) s
  first-end answers file files text s (cut_first says) = quiet (Failed o answers ⊎ AnyFailed o (file ∷ files)) s Memory says.ending_is memory-quiet
  first-end answers file files text s (no_first stop) =
      wider (Failed o file) (Failed o answers ⊎ AnyFailed o (file ∷ files)) s (λ h. inr (inl h)) (program-ends o _ file text s stop)
  first-end answers file files text s (no_answers p names is stop) =
      wider (Failed o answers) (Failed o answers ⊎ AnyFailed o (file ∷ files)) s inl (answers-end o names answers text s stop)
  first-end answers file files text s (goes_first p names entries table rest is has says e r) =
      wider (AnyFailed o files) (Failed o answers ⊎ AnyFailed o (file ∷ files)) s (λ h. inr (inr h))
      (course-end entries files 1 p table (list_all (passes p) entries) rest s r)

  pub rechecks-end : (answers : List ℕ) (files : List (List ℕ)) (text : List ℕ) (s : Status) → Rechecks o answers files text s
      → EndsBy (Failed o answers ⊎ AnyFailed o files) s
  rechecks-end answers [] text s says = quiet (Failed o answers ⊎ ⊥) s Done says.ending_is done-quiet
  rechecks-end answers (file ∷ files) text s t = first-end answers file files text s t

  -- ---- where no read fails, what is printed is so too where none can fail

  course-without : (entries : List Entry) (files : List (List ℕ)) (n : ℕ) (p : Program) (names : List (List ℕ)) (accepted : Bool) (text : List ℕ) (s : Status)
      → ¬ AnyFailed o files → Course o entries files n p names accepted text s → Course (without_faults o) entries files n p names accepted text s
  course-without entries [] n p names accepted text s fine says = says
  course-without entries (file ∷ files) n p names accepted text s fine (cut_off says) = cut_off says
  course-without entries (file ∷ files) n p names accepted text s fine (no_program stop) = no_program (program-without o names file text s (λ h. fine (inl h)) stop)
  course-without entries (file ∷ files) n p names accepted text s fine (goes_on q table rest is e r) =
      goes_on q table rest is e (course-without entries files (n + 1) q table (accepted && list_all (passes q) entries) rest s (λ h. fine (inr h)) r)

  first-without : (answers file : List ℕ) (files : List (List ℕ)) (text : List ℕ) (s : Status) → ¬ (Failed o answers ⊎ AnyFailed o (file ∷ files))
      → FirstTurn o answers file files text s → FirstTurn (without_faults o) answers file files text s
  first-without answers file files text s fine (cut_first says) = cut_first says
  first-without answers file files text s fine (no_first stop) = no_first (program-without o _ file text s (λ h. fine (inr (inl h))) stop)
  first-without answers file files text s fine (no_answers p names is stop) = no_answers p names is (answers-without o names answers text s (λ h. fine (inl h)) stop)
  first-without answers file files text s fine (goes_first p names entries table rest is has says e r) =
      goes_first p names entries table rest is has says e (course-without entries files 1 p table (list_all (passes p) entries) rest s (λ h. fine (inr (inr h))) r)

  pub rechecks-without : (answers : List ℕ) (files : List (List ℕ)) (text : List ℕ) (s : Status) → ¬ (Failed o answers ⊎ AnyFailed o files)
      → Rechecks o answers files text s → Rechecks (without_faults o) answers files text s
  rechecks-without answers [] text s fine says = says
  rechecks-without answers (file ∷ files) text s fine t = first-without answers file files text s fine t
