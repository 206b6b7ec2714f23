-- The report of what comes of a block.
use Rattle.std.proofs.Common.{◌≡◌, ℕ, List, ◌++◌, Option, None, Some, refl, sym, subst}
use Rattle.std.specs.Prelude.{Result, Ok, Err, IfOk, codes}
use Rattle.scasp_cert.specs.Certificate.{Certificate}
use Rattle.scasp_extend_parts.specs.Causes.{IsCause}
use Rattle.scasp_extend_parts.specs.declared.errors.ExtendErr.{ExtendErr}
use Rattle.scasp_extend_parts.specs.declared.errors.ExtendErr.TheVariants.{Refused, Joins, Given, TooLarge, Overflow, NotClosed, Memory}
use Rattle.scasp_list.specs.declared.memory.Memory.{Memory as Want}
use Rattle.scasp_syntax.specs.declared.atom.Atom.{Atom}
use Rattle.scasp_command_extend.specs.Ends.{obstacle_end}
use Rattle.scasp_command_extend.specs.Inside.{IsInTheWay, Reported}
use Rattle.scasp_command_extend.specs.Outcomes.{Outcome, model, outcome_by, stopped}
use Rattle.scasp_command_extend.specs.Texts.{block_head, block_text, obstacle_words}
use Rattle.scasp_command_extend.specs.declared.reports.Report.{Report}

pub model-reported : (r : Result Report Want) (names : List (List ℕ)) (n : ℕ) (c : Certificate) (o : Option ExtendErr) (set : List Atom) → o ≡ None
    → IfOk r (λ report. Reported names n c (model set) report) → IfOk r (λ report. Reported names n c (outcome_by o set) report)
model-reported r names n c o set none h =
    let P : Option ExtendErr → Type 0 = λ why. IfOk r (λ report. Reported names n c (outcome_by why set) report) in
    subst P (sym none) h

cause-some : (why : ExtendErr) (o : Option ExtendErr) → IsInTheWay why → IsCause why o → o ≡ Some why
cause-some (Refused fault) o h e = e
cause-some (Joins fault) o h e = e
cause-some Given o h e = e
cause-some TooLarge o h e = e
cause-some Overflow o h e = e
cause-some (NotClosed at) o h e = e
cause-some Memory o h e = absurd h

pub stopped-reported : (r : Result Report Want) (names : List (List ℕ)) (n : ℕ) (c : Certificate) (why : ExtendErr) (o : Option ExtendErr) (set : List Atom) → IsCause why o
    → IfOk r (λ report. report.text.items ≡ block_head n c ++ (obstacle_words why ++ codes "\n")) → IfOk r (λ report. report.end ≡ obstacle_end why)
    → IfOk r (λ report. IsInTheWay why) → IfOk r (λ report. Reported names n c (outcome_by o set) report)
unfolding block_text
stopped-reported (Ok report) names n c why o set cause text end stands =
    let P : Option ExtendErr → Type 0 = λ found. Reported names n c (outcome_by found set) report in
    subst P (sym (cause-some why o stands cause)) (record { text = text; end = end })
stopped-reported (Err e) names n c why o set cause text end stands = tt
