-- What a check prints, and how it ends, is settled by the bytes of both files.
use Rattle.std.proofs.Common.{◌≡◌, ◌≢◌, ◌≤◌, ◌∙◌, ◌+◌, ◌↔◌, ℕ, List, [], Option, None, Some, Result, Ok, Err, arith, ap, refl, sym, subst}
use Rattle.std.specs.Prelude.{All}
use Rattle.scasp_name.specs.Texts.{list_names}
use Rattle.scasp_syntax.specs.declared.program.Program.{Program}
use Rattle.scasp_reader_terms.specs.declared.fault.Fault.{Fault}
use Rattle.scasp_reader.specs.Programs.Programs.{program_in}
use Rattle.scasp_answers.specs.Blocks.States.{Entry}
use Rattle.scasp_answers.specs.declared.blocks.fault.AnswerFault.{AnswerFault}
use Rattle.scasp_io.specs.Counts.{Rose}
use Rattle.scasp_command_words.specs.declared.command.Command.{Command}
use Rattle.scasp_command_words.specs.declared.command.Command.TheVariants.{Run, Check, Trial, Extend, Recheck}
use Rattle.scasp_command_check.specs.Meaning.{IsAccepted}
use Rattle.scasp_command_check.specs.Texts.{recheck_text, rechecked_of}
use Rattle.scasp_command_check.specs.declared.checking.Rechecked.{Rechecked}
use Rattle.scasp_command_check.specs.declared.checking.Rechecked.TheVariants as check
use Rattle.scasp_command_check.proofs.MeaningLemmas.{means_accepted}
use Rattle.scasp_top.specs.Agreeing.{ChecksAgree, ChecksMean}
use Rattle.scasp_top.specs.Ends.{check_status, IsCheck}
use Rattle.scasp_command_inputs.proofs.ProgramLemmas.{one-program, one-table}
use Rattle.scasp_command_inputs.specs.Inputs.{answers_in, without_faults, AreBytes, Failed, IsAnswers, IsProgram, Outside, Says, unread, refused, unread_answers, refused_answers}
use Rattle.scasp_top.specs.Outputs.{program_file, Checks, Outputs, nothing, usage, no_program, runs, no_answers, checks, tries, extends, rechecks}
use Rattle.scasp_command_inputs.specs.Texts.{answers_refusal, program_refusal, refusal_line, refusal_status}
use Rattle.scasp_command_inputs.specs.declared.refusals.Input.TheVariants as input
use Rattle.scasp_command_inputs.specs.declared.status.Status.{Status}
use Rattle.scasp_command_inputs.specs.declared.status.Status.TheVariants.{Done, Memory, Refused}

-- what is printed for these bytes, and the status: the program is refused, or the answers are, or the blocks are checked
data Comes (bytes blocks text : List ℕ) (status : Status) : Type 0 where
  at_program : (f : Fault) → program_in list_names bytes ≡ Err f
      → Says (refusal_line input.Program f.at (program_refusal f.kind)) (refusal_status (program_refusal f.kind)) text status → Comes bytes blocks text status
  at_answers : (p : Program) (names : List (List ℕ)) (f : AnswerFault) → IsProgram (Some bytes) p names → answers_in names blocks ≡ Err f
      → Says (refusal_line input.Answers f.at (answers_refusal f.kind)) (refusal_status (answers_refusal f.kind)) text status → Comes bytes blocks text status
  at_end : (p : Program) (names : List (List ℕ)) (entries : List Entry) → IsProgram (Some bytes) p names → answers_in names blocks ≡ Ok entries
      → Says (recheck_text p entries) (check_status (Some (rechecked_of p entries))) text status → Comes bytes blocks text status

-- ---- one text and one status come

-- a program that is read is not refused
none-refused : (bytes : List ℕ) (f : Fault) (p : Program) (names : List (List ℕ)) → program_in list_names bytes ≡ Err f → IsProgram (Some bytes) p names → ⊥
none-refused bytes f p names h g = cc (sym h ∙ ap (program_in list_names) (sym (g.is).are) ∙ (g.is).read)

-- one line or text is said
one-said : {A : Type 0} (line : A → List ℕ) (ending : A → Status) (a b : A) (text other : List ℕ) (end last : Status) → a ≡ b
    → Says (line a) (ending a) text end → Says (line b) (ending b) other last → (text ≡ other) × (end ≡ last)
one-said line ending a b text other end last e h g =
    (h.line_is ∙ ap line e ∙ sym g.line_is, h.ending_is ∙ ap ending e ∙ sym g.ending_is)

program-line : Fault → List ℕ
program-line f = refusal_line input.Program f.at (program_refusal f.kind)

answers-line : AnswerFault → List ℕ
answers-line f = refusal_line input.Answers f.at (answers_refusal f.kind)

one-comes : (bytes blocks text other : List ℕ) (end last : Status) → Comes bytes blocks text end → Comes bytes blocks other last → (text ≡ other) × (end ≡ last)
unfolding program-line answers-line
one-comes bytes blocks text other end last (at_program f h s) (at_program g k t) =
    let e : Err f ≡ Err g = sym h ∙ k in
    let same : f ≡ g = cc in
    one-said program-line (λ (x : Fault). refusal_status (program_refusal x.kind)) f g text other end last same s t
one-comes bytes blocks text other end last (at_program f h s) (at_answers q others g k l t) = absurd (none-refused bytes f q others h k)
one-comes bytes blocks text other end last (at_program f h s) (at_end q others entries k l t) = absurd (none-refused bytes f q others h k)
one-comes bytes blocks text other end last (at_answers p names f h m s) (at_program g k t) = absurd (none-refused bytes g p names k h)
one-comes bytes blocks text other end last (at_answers p names f h m s) (at_answers q others g k l t) =
    let table : names ≡ others = one-table list_names bytes p q names others h k in
    let e : answers_in names blocks ≡ answers_in others blocks = ap (λ (ns : List (List ℕ)). answers_in ns blocks) table in
    let both : Err f ≡ Err g = sym m ∙ e ∙ l in
    let same : f ≡ g = cc in
    one-said answers-line (λ (x : AnswerFault). refusal_status (answers_refusal x.kind)) f g text other end last same s t
one-comes bytes blocks text other end last (at_answers p names f h m s) (at_end q others entries k l t) =
    let e : answers_in names blocks ≡ answers_in others blocks = ap (λ (ns : List (List ℕ)). answers_in ns blocks) (one-table list_names bytes p q names others h k) in cc
one-comes bytes blocks text other end last (at_end p names entries h m s) (at_program g k t) = absurd (none-refused bytes g p names k h)
one-comes bytes blocks text other end last (at_end p names entries h m s) (at_answers q others g k l t) =
    let e : answers_in names blocks ≡ answers_in others blocks = ap (λ (ns : List (List ℕ)). answers_in ns blocks) (one-table list_names bytes p q names others h k) in cc
one-comes bytes blocks text other end last (at_end p names entries h m s) (at_end q others blocks' k l t) =
    let e : answers_in names blocks ≡ answers_in others blocks = ap (λ (ns : List (List ℕ)). answers_in ns blocks) (one-table list_names bytes p q names others h k) in
    let both : Ok entries ≡ Ok blocks' = sym m ∙ e ∙ l in
    let entries-same : entries ≡ blocks' = cc in
    let same : p ≡ q = one-program list_names bytes p q names others h k in
    one-said {A = Program × List Entry} (λ (x : Program × List Entry). recheck_text x.0 x.1) (λ (x : Program × List Entry). check_status (Some (rechecked_of x.0 x.1)))
    (p, entries) (q, blocks') text other end last
    (ap (λ (x : Program). (x, entries)) same ∙ ap (λ (es : List Entry). (q, es)) entries-same) s t

-- ---- what is printed comes so

told-bytes : (told : Option (List ℕ)) (bytes all : List ℕ) → told ≡ Some all → AreBytes told bytes → bytes ≡ all
told-bytes None bytes all e h = cc
told-bytes (Some x) bytes all e h = let same : x ≡ all = cc in h ∙ same

calm : (o : Outside) (file : List ℕ) → Failed (without_faults o) file → ⊥
calm o file rose = absurd (omega (arith, rose))

program-file-is : (program answers : List ℕ) (command : Command) (file : List ℕ) → Some (Check program answers) ≡ Some command → program_file command ≡ Some file → file ≡ program
program-file-is program answers (Run other budget asked format) file e named = cc
program-file-is program answers (Check p a) file e named = cc
program-file-is program answers (Trial n) file e named = cc
program-file-is program answers (Extend p a d) file e named = cc
program-file-is program answers (Recheck a fs) file e named = cc

module _ (program answers : List ℕ) (o : Outside) (bytes blocks : List ℕ) (told : o.told program ≡ Some bytes) (told' : o.told answers ≡ Some blocks) where
  these : (file all named : List ℕ) → o.told file ≡ Some all → named ≡ file → (read : List ℕ) → AreBytes (o.told named) read → read ≡ all
  these file all named t is read are = told-bytes (o.told named) read all (ap o.told is ∙ t) are

  spelled : (named : List ℕ) (p : Program) (names : List (List ℕ)) → named ≡ program → IsProgram (o.told named) p names → IsProgram (Some bytes) p names
  spelled named p names is h = subst (λ (t : Option (List ℕ)). IsProgram t p names) (ap o.told is ∙ told) h

  whole-check : (p : Program) (entries : List Entry) (text : List ℕ) (status : Status) → status ≢ Memory → (end : Option Rechecked) → IsCheck p entries text end
      → status ≡ check_status end → Says (recheck_text p entries) (check_status (Some (rechecked_of p entries))) text status
  whole-check p entries text status k None is ending = absurd (k ending)
  whole-check p entries text status k (Some end) is ending = record { line_is = is.0; ending_is = ending ∙ ap (λ (e : Rechecked). check_status (Some e)) is.1 }

  comes : (text : List ℕ) (status : Status) → status ≢ Memory → Outputs (Some (Check program answers)) (without_faults o) text status → Comes bytes blocks text status
  comes text status k (nothing says) = absurd (k says.ending_is)
  comes text status k (usage is says) = cc
  comes text status k (no_program command file is named (unread rose says)) = absurd (calm o file rose)
  comes text status k (no_program command file is named (refused read are r)) =
      let same : read ≡ bytes = these program bytes file told (program-file-is program answers command file is named) read are in
      at_program r.fault (ap (program_in list_names) (sym same) ∙ r.is) r.says
  comes text status k (runs file budget asked format p names is has r) = cc
  comes text status k (tries n is t) = cc
  comes text status k (extends p a d is e) = cc
  comes text status k (rechecks a fs is r) = cc
  comes text status k (no_answers pf af p names is has (unread_answers rose says)) = absurd (calm o af rose)
  comes text status k (no_answers pf af p names is has (refused_answers read are r)) =
      let named : pf ≡ program = cc in
      let other : af ≡ answers = cc in
      let same : read ≡ blocks = these answers blocks af told' other read are in
      at_answers p names r.fault (spelled pf p names named has) (ap (answers_in names) (sym same) ∙ r.is) r.says
  comes text status k (checks pf af p names entries is has reads c) =
      let named : pf ≡ program = cc in
      let other : af ≡ answers = cc in
      let same : reads.bytes ≡ blocks = these answers blocks af told' other reads.bytes reads.are in
      at_end p names entries (spelled pf p names named has) (ap (answers_in names) (sym same) ∙ reads.read) (whole-check p entries text status k c.end c.check c.ending)

pub agree : ChecksAgree
agree program answers o bytes blocks text other end last told told' one two x y =
    one-comes bytes blocks text other end last (comes program answers o bytes blocks told told' text end x one) (comes program answers o bytes blocks told told' other last y two)

-- ---- what the status says

pub mean : ChecksMean
mean p entries text status c = by c.end c.check c.ending
  where
    by : (end : Option Rechecked) → IsCheck p entries text end → status ≡ check_status end
        → (status ≡ Done → All (IsAccepted p) entries) × (status ≡ Refused → ¬ All (IsAccepted p) entries)
    by None is e = (λ d. let k : Memory ≡ Done = sym e ∙ d in cc, λ r. let k : Memory ≡ Refused = sym e ∙ r in cc)
    by (Some check.Accepted) is e = (λ d. (means_accepted p entries).0 (sym is.1), λ r. let k : Done ≡ Refused = sym e ∙ r in cc)
    by (Some check.Refused) is e = (
      λ d. let k : Refused ≡ Done = sym e ∙ d in cc,
      λ r. λ all. let k : check.Refused ≡ check.Accepted = is.1 ∙ (means_accepted p entries).1 all in cc,
    )
