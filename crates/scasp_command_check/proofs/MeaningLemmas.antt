-- What the texts and answers of a check mean.
use Rattle.std.proofs.Common.{◌≡◌, ◌∙◌, ◌↔◌, ℕ, Bool, true, false, List, [], ◌∷◌, ◌++◌, refl, arith, sym, ap, append_assoc}
use Rattle.std.specs.Prelude.{if◌then◌else◌, codes, decimal}
use Rattle.std.specs.List.{list_all}
use Rattle.std.proofs.lemmas.List.{append_cancel_left}
use Rattle.std.proofs.lemmas.List.Sums.{AllPass-from_list_all, list_all-from_AllPass}
use Rattle.scasp_syntax.specs.declared.program.Program.{Program}
use Rattle.scasp_cert.specs.Certificate.{Certificate}
use Rattle.scasp_graph.specs.Map.{map_faults}
use Rattle.scasp_sound.specs.MapLevels.{covered}
use Rattle.scasp_checker_rules.specs.Faults.{faults}
use Rattle.scasp_checker_rules.specs.declared.refusal.Refusal.{Refusal}
use Rattle.scasp_checker_rules.proofs.AcceptedLemmas.{accepted-no_fault}
use Rattle.scasp_answers.specs.Blocks.States.{Entry, block, ended_entry, rejected_entry}
use Rattle.scasp_command_check.specs.Meaning.{AcceptedMeans, IsAccepted, RightMeans}
use Rattle.scasp_command_check.specs.Texts.{is_accepted, line_by, passes, worth_words}
use Rattle.scasp_command_check.specs.Worths.{worth_by}
use Rattle.scasp_command_check.specs.declared.checking.Rechecked.{Rechecked}
use Rattle.scasp_command_check.specs.declared.checking.Rechecked.TheVariants.{Accepted, Refused}
use Rattle.scasp_command_check.specs.declared.worth.Worth.{Worth}
use Rattle.scasp_command_check.specs.declared.worth.Worth.TheVariants as worth

-- ---- accepted blocks

worth-accepted : (fs : List Refusal) (rs : List ℕ) → fs ≡ [] → is_accepted (worth_by fs rs) ≡ true
worth-accepted [] [] e = refl
worth-accepted [] (r ∷ rs) e = refl
worth-accepted (f ∷ fs) rs e = cc

accepted-worth : (fs : List Refusal) (rs : List ℕ) → is_accepted (worth_by fs rs) ≡ true → fs ≡ []
accepted-worth [] rs e = refl
accepted-worth (f ∷ fs) rs e = cc

passes-accepted : (p : Program) (e : Entry) → (passes p e ≡ true) ↔ IsAccepted p e
passes-accepted p (block n c) = (
  λ h. (accepted-no_fault true p c).1 (accepted-worth (faults p c) (map_faults p (covered c) c.map) h),
  λ a. worth-accepted (faults p c) (map_faults p (covered c) c.map) ((accepted-no_fault true p c).0 a),
)
passes-accepted p (ended_entry e q) = (λ h. tt, λ a. refl)
passes-accepted p (rejected_entry q n at why) = (λ h. tt, λ a. refl)

whole : Bool → Rechecked
whole b = if b then Accepted else Refused

whole-true : (b : Bool) → whole b ≡ Accepted → b ≡ true
unfolding whole
whole-true true e = refl
whole-true false e = cc

pub means_accepted : AcceptedMeans
unfolding whole
means_accepted p es = (
  λ e. λ k d below. (passes-accepted p _).0 (AllPass-from_list_all (passes p) es (whole-true (list_all (passes p) es) e) k d below),
  λ all. ap whole (list_all-from_AllPass (passes p) es (λ k d below. (passes-accepted p _).1 (all k d below))),
)

-- ---- the line of a right block

-- the second byte, by which the words differ
second : List ℕ → ℕ
second [] = 0
second (a ∷ []) = 0
second (a ∷ b ∷ bs) = b

-- what stands before the worth
before : ℕ → Certificate → List ℕ
before n c = decimal c.query ++ codes "." ++ decimal n ++ codes " "

behind-before : (w : Worth) (n : ℕ) (c : Certificate) → line_by w n c ≡ before n c ++ (worth_words w c ++ codes "\n")
unfolding line_by before
behind-before w n c = append_assoc (before n c) (worth_words w c) (codes "\n")

pub means_right : RightMeans
unfolding second
means_right w n c e =
    by w (append_cancel_left (before n c) (worth_words w c ++ codes "\n") (worth_words worth.Right c ++ codes "\n")
    (sym (behind-before w n c) ∙ e ∙ behind-before worth.Right n c))
  where
    by : (w : Worth) → worth_words w c ++ codes "\n" ≡ worth_words worth.Right c ++ codes "\n" → w ≡ worth.Right
    by worth.Right h = refl
    by (worth.Joins fault) h = let k : 111 ≡ 105 = ap second h in absurd (omega (arith, k))
    by (worth.Refused fault) h = let k : 101 ≡ 105 = ap second h in absurd (omega (arith, k))
