-- Small cases of the definitions, computed.
use Rattle.std.proofs.Common.{lit<}
use Rattle.std.specs.Prelude.{◌≡◌, [], ◌∷◌, codes, decimal, refl}
use Rattle.std.proofs.lemmas.Fmt.{decimal_digit}
use Rattle.scasp_reader_terms.specs.declared.fault.Count.TheVariants as count
use Rattle.scasp_reader_terms.specs.declared.fault.Kind.TheVariants as kind
use Rattle.scasp_answers.specs.declared.blocks.fault.AnswerKind.TheVariants as answer
use Rattle.scasp_command_inputs.specs.Codes.{code_of}
use Rattle.scasp_command_inputs.specs.Texts.{read_line, refusal_line, refusal_status, program_refusal, answers_refusal}
use Rattle.scasp_command_inputs.specs.declared.refusals.Input.TheVariants as input
use Rattle.scasp_command_inputs.specs.declared.status.Status.TheVariants.{Done, NoAnswer, Usage, Text, Read, Write, Spent, Overflow, Memory, Refused, Limit, NoModel}

d7 : decimal 7 ≡ 55 ∷ []
d7 = decimal_digit 7 (lit< tt)

text_line : refusal_line input.Program 7 (program_refusal kind.Unsupported) ≡ codes "text program 7 Unsupported\n"
text_line = simp (d7) refl

limit_line : refusal_line input.Program 7 (program_refusal (kind.Limit count.Items)) ≡ codes "limit program 7 items\n"
limit_line = simp (d7) refl

answers_line : refusal_line input.Answers 7 (answers_refusal answer.Cut) ≡ codes "text answers 7 Cut\n"
answers_line = simp (d7) refl

answers_limit_line : refusal_line input.Answers 7 (answers_refusal answer.Limit) ≡ codes "limit answers 7 bytes\n"
answers_limit_line = simp (d7) refl

unread_line : read_line input.Answers ≡ codes "read answers\n"
unread_line = refl

text_status : refusal_status (program_refusal kind.BadByte) ≡ Text
text_status = refl

limit_status : refusal_status (answers_refusal answer.Limit) ≡ Limit
limit_status = refl

-- the codes of all statuses
exit_codes :
    code_of Done ∷ code_of NoAnswer ∷ code_of Usage ∷ code_of Text ∷ code_of Read ∷ code_of Write ∷ code_of Spent ∷ code_of Overflow ∷ code_of Memory ∷ code_of Refused ∷ code_of Limit ∷ code_of NoModel ∷ []
    ≡ 0 ∷ 1 ∷ 2 ∷ 3 ∷ 4 ∷ 5 ∷ 6 ∷ 7 ∷ 8 ∷ 9 ∷ 11 ∷ 12 ∷ []
exit_codes = refl
