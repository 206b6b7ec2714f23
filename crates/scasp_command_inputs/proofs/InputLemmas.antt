-- Files that are read, and such as are longer than may be.
use Rattle.std.proofs.Common.{◌≡◌, ℕ, ◌<◌, ◌≤◌, ◌+◌, Option, None, Some, IfSome, List, length, arith, refl, sym, subst, replicate, Result, Ok, Err, IfOk, IfErr, ap, ◌∙◌}
use Rattle.std.proofs.lemmas.Bool.{lt-ltb}
use Rattle.std.proofs.lemmas.List.{length-replicate}
use Rattle.scasp_io.specs.Counts.{Rose}
use Rattle.scasp_syntax.specs.declared.program.Program.{Program}
use Rattle.scasp_reader_terms.specs.Faults.{fault_at}
use Rattle.scasp_reader_terms.specs.declared.fault.Count.TheVariants as count
use Rattle.scasp_reader_terms.specs.declared.fault.Fault.{Fault}
use Rattle.scasp_reader_terms.specs.declared.fault.Kind.TheVariants as kind
use Rattle.scasp_reader.specs.Texts.Texts.{read}
use Rattle.scasp_reader.specs.declared.texts.texts.TheConstants.{BYTE_LIMIT}
use Rattle.scasp_reader.specs.Programs.Programs.{program_in, reading_of}
use Rattle.scasp_answers.specs.Blocks.Files.{byte_limit, fault, file_in}
use Rattle.scasp_answers.specs.Blocks.States.{Entry}
use Rattle.scasp_answers.specs.Files.Texts.{with_names}
use Rattle.scasp_answers.specs.declared.blocks.fault.AnswerFault.{AnswerFault}
use Rattle.scasp_answers.specs.declared.blocks.fault.AnswerKind.TheVariants as answer
use Rattle.scasp_command_inputs.specs.Halts.{IfLine}
use Rattle.scasp_command_inputs.specs.Inputs.{answers_in, outside, AreBytes, HasAnswers, IsNoAnswers, IsNoProgramBehind, RefusesAnswers, RefusesProgramBehind, Says, refused, refused_answers, unread, unread_answers}
use Rattle.scasp_command_inputs.specs.Texts.{answers_refusal, program_refusal, refusal_line, refusal_status}
use Rattle.scasp_command_inputs.specs.declared.halt.Halt.{Halt}
use Rattle.scasp_command_inputs.specs.declared.halt.Halt.TheVariants as halt
use Rattle.scasp_command_inputs.specs.declared.refusals.Input.TheVariants as input
use Rattle.scasp_command_inputs.specs.declared.status.Status.{Status}

-- bytes that are longer than so many
pub record Longer (told : Option (List ℕ)) (most : ℕ) : Type 0 where
  pub bytes : List ℕ
  pub are : AreBytes told bytes
  pub longer : most < length bytes

pub longer-told : (told : Option (List ℕ)) (most : ℕ) → IfSome told (λ bytes. most < length bytes) → Longer told most
longer-told None most h = record { bytes = replicate (most + 1) 0; are = h; longer = omega (arith, length-replicate {A = ℕ} (most + 1) 0) }
longer-told (Some bytes) most h = record { bytes = bytes; are = refl; longer = h }

-- a program's text
pub text-too_long : (names : List (List ℕ)) (bytes : List ℕ) → BYTE_LIMIT < length bytes → program_in names bytes ≡ Err (fault_at BYTE_LIMIT (kind.Limit count.Bytes))
unfolding read
text-too_long names bytes longer = rw (lt-ltb BYTE_LIMIT (length bytes) longer) refl

-- an answer file
pub answers-too_long : (names : List (List ℕ)) (bytes : List ℕ) → byte_limit < length bytes → answers_in names bytes ≡ fault byte_limit answer.Limit
unfolding file_in
answers-too_long names bytes longer = rw (lt-ltb byte_limit (length bytes) longer) refl

-- ---- the line that tells why a file is not read

pub line-widen : (h : Halt) (may also : List ℕ → Status → Type 0) → IfLine h may → ((text : List ℕ) (status : Status) → may text status → also text status) → IfLine h also
line-widen (halt.Line text status) may also h more = more text.items status h
line-widen halt.Memory may also h more = h

pub refused-program : (told : List ℕ → Option (List ℕ)) (before after : List ℕ → ℕ) (file : List ℕ) (names : List (List ℕ)) (bytes : List ℕ) (h : Halt)
    → AreBytes (told file) bytes → IfLine h (RefusesProgramBehind names bytes) → IfLine h (IsNoProgramBehind names (outside told before after) file)
refused-program told before after file names bytes h are says =
    line-widen h (RefusesProgramBehind names bytes) (IsNoProgramBehind names (outside told before after) file) says (λ text status s. refused bytes are s)

pub line-program : (names : List (List ℕ)) (bytes : List ℕ) (f : Fault) (h : Halt) → program_in names bytes ≡ Err f
    → IfLine h (Says (refusal_line input.Program f.at (program_refusal f.kind)) (refusal_status (program_refusal f.kind))) → IfLine h (RefusesProgramBehind names bytes)
line-program names bytes f h is says =
    line-widen h (Says (refusal_line input.Program f.at (program_refusal f.kind)) (refusal_status (program_refusal f.kind))) (RefusesProgramBehind names bytes) says
    (λ text status s. record { fault = f; is = is; says = s })

pub long-program : (told : List ℕ → Option (List ℕ)) (before after : List ℕ → ℕ) (file : List ℕ) (names : List (List ℕ)) (h : Halt)
    → IfSome (told file) (λ bytes. BYTE_LIMIT < length bytes)
    → IfLine h (Says (refusal_line input.Program BYTE_LIMIT (program_refusal (kind.Limit count.Bytes))) (refusal_status (program_refusal (kind.Limit count.Bytes))))
    → IfLine h (IsNoProgramBehind names (outside told before after) file)
long-program told before after file names h longer says =
    let l = longer-told (told file) BYTE_LIMIT longer in
    refused-program told before after file names l.bytes h l.are
    (line-program names l.bytes (fault_at BYTE_LIMIT (kind.Limit count.Bytes)) h (text-too_long names l.bytes l.longer) says)

pub refused-file_answers : (told : List ℕ → Option (List ℕ)) (before after : List ℕ → ℕ) (file : List ℕ) (names : List (List ℕ)) (bytes : List ℕ) (h : Halt)
    → AreBytes (told file) bytes → IfLine h (RefusesAnswers names bytes) → IfLine h (IsNoAnswers (outside told before after) file names)
refused-file_answers told before after file names bytes h are says =
    line-widen h (RefusesAnswers names bytes) (IsNoAnswers (outside told before after) file names) says (λ text status s. refused_answers bytes are s)

pub line-answers : (names : List (List ℕ)) (bytes : List ℕ) (f : AnswerFault) (h : Halt) → answers_in names bytes ≡ Err f
    → IfLine h (Says (refusal_line input.Answers f.at (answers_refusal f.kind)) (refusal_status (answers_refusal f.kind))) → IfLine h (RefusesAnswers names bytes)
line-answers names bytes f h is says =
    line-widen h (Says (refusal_line input.Answers f.at (answers_refusal f.kind)) (refusal_status (answers_refusal f.kind))) (RefusesAnswers names bytes) says
    (λ text status s. record { fault = f; is = is; says = s })

pub long-answers : (told : List ℕ → Option (List ℕ)) (before after : List ℕ → ℕ) (file : List ℕ) (names : List (List ℕ)) (h : Halt)
    → IfSome (told file) (λ bytes. byte_limit < length bytes)
    → IfLine h (Says (refusal_line input.Answers byte_limit (answers_refusal answer.Limit)) (refusal_status (answers_refusal answer.Limit)))
    → IfLine h (IsNoAnswers (outside told before after) file names)
long-answers told before after file names h longer says =
    let l = longer-told (told file) byte_limit longer in
    refused-file_answers told before after file names l.bytes h l.are
    (line-answers names l.bytes (record { at = byte_limit; kind = answer.Limit }) h (answers-too_long names l.bytes l.longer) says)

-- bytes that were read, and are refused
pub text-refused : {X : Type 0} (told : List ℕ → Option (List ℕ)) (before after : List ℕ → ℕ) (file : List ℕ) (names : List (List ℕ)) (items bytes : List ℕ) (r : Result X Halt)
    → bytes ≡ items → AreBytes (told file) items → IfErr r (λ halt. IfLine halt (RefusesProgramBehind names bytes))
    → IfErr r (λ halt. IfLine halt (IsNoProgramBehind names (outside told before after) file))
text-refused told before after file names items bytes (Ok x) same are h = h
text-refused told before after file names items bytes (Err halt) same are h =
    refused-program told before after file names bytes halt (subst (AreBytes (told file)) (sym same) are) h

pub blocks-refused : {X : Type 0} (told : List ℕ → Option (List ℕ)) (before after : List ℕ → ℕ) (file : List ℕ) (names : List (List ℕ)) (items bytes : List ℕ) (r : Result X Halt)
    → bytes ≡ items → AreBytes (told file) items → IfErr r (λ halt. IfLine halt (RefusesAnswers names bytes))
    → IfErr r (λ halt. IfLine halt (IsNoAnswers (outside told before after) file names))
blocks-refused told before after file names items bytes (Ok x) same are h = h
blocks-refused told before after file names items bytes (Err halt) same are h =
    refused-file_answers told before after file names bytes halt (subst (AreBytes (told file)) (sym same) are) h

-- blocks that were read, and the table of names behind them
pub blocks-had : {X : Type 0} (told : Option (List ℕ)) (names : List (List ℕ)) (items bytes : List ℕ) (entries : X → List Entry) (table : X → List (List ℕ)) (r : Result X Halt)
    → bytes ≡ items → AreBytes told items → IfOk r (λ x. answers_in names bytes ≡ Ok (entries x)) → IfOk r (λ x. table x ≡ with_names names bytes)
    → IfOk r (λ x. HasAnswers told names (entries x) (table x))
blocks-had told names items bytes entries table (Ok x) same are h t = record {
  answers = record { bytes = bytes; are = subst (AreBytes told) (sym same) are; read = h };
  table_is = t;
}
blocks-had told names items bytes entries table (Err halt) same are h t = h

-- ---- a later file of a command

pub rose-earlier : (first before after : ℕ) → first ≤ before → Rose before after → Rose first after
rose-earlier first before after h rose = omega arith

-- what is so where earlier files have been read is so of the whole call
pub no_answers-since : (told told' : List ℕ → Option (List ℕ)) (first before after : List ℕ → ℕ) (file : List ℕ) (names : List (List ℕ)) (text : List ℕ) (status : Status)
    → told' file ≡ told file → first file ≤ before file → IsNoAnswers (outside told' before after) file names text status
    → IsNoAnswers (outside told first after) file names text status
no_answers-since told told' first before after file names text status stays counts (unread_answers rose says) =
    unread_answers (rose-earlier (first file) (before file) (after file) counts rose) says
no_answers-since told told' first before after file names text status stays counts (refused_answers bytes are r) =
    refused_answers bytes (subst (λ (t : Option (List ℕ)). AreBytes t bytes) stays are) r

pub no_program-since : (told told' : List ℕ → Option (List ℕ)) (first before after : List ℕ → ℕ) (file : List ℕ) (names : List (List ℕ)) (text : List ℕ) (status : Status)
    → told' file ≡ told file → first file ≤ before file → IsNoProgramBehind names (outside told' before after) file text status
    → IsNoProgramBehind names (outside told first after) file text status
no_program-since told told' first before after file names text status stays counts (unread rose says) =
    unread (rose-earlier (first file) (before file) (after file) counts rose) says
no_program-since told told' first before after file names text status stays counts (refused bytes are r) =
    refused bytes (subst (λ (t : Option (List ℕ)). AreBytes t bytes) stays are) r
