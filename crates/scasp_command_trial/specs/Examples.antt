-- Lines of trials, computed.
use Rattle.std.proofs.Common.{lit<}
use Rattle.std.specs.Prelude.{◌≡◌, true, false, [], ◌∷◌, codes, decimal, refl}
use Rattle.std.proofs.lemmas.Fmt.{decimal_digit}
use Rattle.scasp_command_trial.specs.Texts.{trial_line}
use Rattle.scasp_command_trial.specs.declared.first.Trial.TheVariants.{Right, Ended, Spent, Overflow}

d2 : decimal 2 ≡ 50 ∷ []
d2 = decimal_digit 2 (lit< tt)

d7 : decimal 7 ≡ 55 ∷ []
d7 = decimal_digit 7 (lit< tt)

d9 : decimal 9 ≡ 57 ∷ []
d9 = decimal_digit 9 (lit< tt)

right_any : trial_line 2 (Right 7 9 true) ≡ codes "trial 2 calls 7 lines 9 right any\n"
right_any = simp (d2, d7, d9) refl

right_closed : trial_line 2 (Right 7 9 false) ≡ codes "trial 2 calls 7 lines 9 right closed\n"
right_closed = simp (d2, d7, d9) refl

an_end : trial_line 2 Ended ≡ codes "trial 2 ended\n"
an_end = simp (d2) refl

out_of_calls : trial_line 2 Spent ≡ codes "trial 2 spent\n"
out_of_calls = simp (d2) refl

past_bits : trial_line 2 Overflow ≡ codes "trial 2 overflow\n"
past_bits = simp (d2) refl
