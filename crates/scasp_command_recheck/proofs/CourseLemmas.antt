-- What the sink took of answers under one program after another.
use Rattle.std.proofs.Common.{◌≡◌, ◌≤◌, ◌<◌, ◌∙◌, ◌&&◌, ◌+◌, ℕ, Bool, true, false, All, Option, None, Some, List, [], ◌∷◌, ◌++◌, drop, get_or, length, arith, append-nil, ap, refl, subst, sym}
use Rattle.std.specs.List.{list_all}
use Rattle.scasp_syntax.specs.declared.program.Program.{Program}
use Rattle.scasp_answers.specs.Blocks.States.{Entry}
use Rattle.scasp_io.specs.Bytes.{behind, TakesPrefix}
use Rattle.scasp_io.specs.Counts.{Rose}
use Rattle.scasp_io.specs.Inside.Behind.{behind-append, TakesPrefix-append}
use Rattle.scasp_command_check.specs.Outputs.{KeepsWorth}
use Rattle.scasp_command_check.specs.Texts.{passes}
use Rattle.scasp_command_inputs.proofs.InputLemmas.{no_answers-since, no_program-since}
use Rattle.scasp_command_inputs.proofs.ReportLemmas.{reports-widen, tells-widen}
use Rattle.scasp_command_inputs.specs.Halts.{IfLine, Tells}
use Rattle.scasp_command_inputs.specs.Inputs.{outside, HasAnswers, IsNoAnswers, IsNoProgram, IsNoProgramBehind, IsProgram, IsProgramBehind, Outside, Says}
use Rattle.scasp_command_inputs.specs.Reports.{Reports, whole, part}
use Rattle.scasp_command_inputs.specs.declared.halt.Halt.{Halt}
use Rattle.scasp_command_inputs.specs.declared.status.Status.{Status}
use Rattle.scasp_command_inputs.specs.declared.status.Status.TheVariants.{Done, Memory, Write}
use Rattle.scasp_command_recheck.specs.Courses.{course_status, Course, FirstTurn, Rechecks, Turn, cut_first, cut_off, goes_first, goes_on, no_answers, no_first, no_program}
use Rattle.scasp_command_recheck.specs.Texts.{first_text, next_text, program_text}

says : (status : Status) → Says [] status [] status
says status = record { line_is = refl; ending_is = refl }

rose-earlier : (first before after : ℕ) → first ≤ before → Rose before after → Rose first after
rose-earlier first before after h rose = omega arith

behind-nothing : (old : Option (List ℕ)) → old ≡ behind old []
behind-nothing None = refl
behind-nothing (Some before) = ap Some (sym (append-nil before))

-- ---- what a sink took

-- nothing was taken
takes-none : (may : List ℕ → Status → Type 0) (t t' : Option (List ℕ)) (f f' : ℕ) (status : Status) → t' ≡ t → may [] status → Reports may t t' f f' status
takes-none may t t' f f' status same none = whole (record { text = []; may = none; taken = same ∙ behind-nothing t })

-- what comes behind a piece was taken behind it
takes-behind : (may also : List ℕ → Status → Type 0) (piece : List ℕ) (t t' t'' : Option (List ℕ)) (f f' f'' : ℕ) (status : Status)
    → t' ≡ behind t piece → f ≤ f' → ((rest : List ℕ) (end : Status) → may rest end → also (piece ++ rest) end)
    → Reports may t' t'' f' f'' status → Reports also t t'' f f'' status
takes-behind may also piece t t' t'' f f' f'' status taken counts more (whole w) = whole (record {
  text = piece ++ w.text;
  may = more w.text status w.may;
  taken = w.taken ∙ ap (λ o. behind o w.text) taken ∙ sym (behind-append t piece w.text);
})
takes-behind may also piece t t' t'' f f' f'' status taken counts more (part is rose w) = part is (rose-earlier f f' f'' counts rose) (record {
  text = piece ++ w.text;
  may = (w.may.0, more w.text w.may.0 w.may.1);
  part = TakesPrefix-append t t' t'' piece w.text taken w.part;
})

-- a first part of a piece was taken, behind which nothing may come
takes-part : (also : List ℕ → Status → Type 0) (piece : List ℕ) (t t' : Option (List ℕ)) (f f' : ℕ) (end : Status)
    → TakesPrefix t t' piece → Rose f f' → also (piece ++ []) end → Reports also t t' f f' Write
takes-part also piece t t' f f' end taken rose may =
    part refl rose (record { text = piece; may = (end, subst (λ (text : List ℕ). also text end) (append-nil piece) may); part = taken })

-- ---- the text of one program

module _ (t t' : Option (List ℕ)) (text : List ℕ) (n : ℕ) (q : Program) (entries : List Entry) (visited count : ℕ) where
  text-is : text ≡ program_text n q entries visited → visited ≡ count → text ≡ program_text n q entries count
  text-is is same = is ∙ ap (program_text n q entries) same

  -- it was taken
  pub text-taken : text ≡ program_text n q entries visited → visited ≡ count → t' ≡ behind t text → t' ≡ behind t (program_text n q entries count)
  text-taken is same taken = taken ∙ ap (behind t) (text-is is same)

  -- a first part of it was taken
  pub text-broken : text ≡ program_text n q entries visited → visited ≡ count → TakesPrefix t t' text → TakesPrefix t t' (program_text n q entries count)
  text-broken is same = subst (λ (bytes : List ℕ). TakesPrefix t t' bytes) (text-is is same)

-- ---- whether each block was accepted so far, and under one program more

pub accepted-on : (before here all after : Bool) → before ≡ true → after ≡ here → here ≡ all → after ≡ (before && all)
accepted-on true here all after e is same = is ∙ same
accepted-on false here all after e is same = cc

pub accepted-off : (before all after : Bool) → before ≡ false → after ≡ before → after ≡ (before && all)
accepted-off true all after e is = cc
accepted-off false all after e is = is

-- ---- what is so behind earlier files is so of the whole call

turn-since : (told told' : List ℕ → Option (List ℕ)) (first before after : List ℕ → ℕ) (names : List (List ℕ)) (file : List ℕ) (own : Program → List ℕ)
    (Rest Also : Program → List (List ℕ) → List ℕ → Status → Type 0) (text : List ℕ) (status : Status) → told' file ≡ told file → first file ≤ before file
    → ((p : Program) (table : List (List ℕ)) (rest : List ℕ) → Rest p table rest status → Also p table rest status)
    → Turn (outside told' before after) names file own Rest text status → Turn (outside told first after) names file own Also text status
turn-since told told' first before after names file own Rest Also text status stays counts more (cut_off s) = cut_off s
turn-since told told' first before after names file own Rest Also text status stays counts more (no_program n) =
    no_program (no_program-since told told' first before after file names text status stays counts n)
turn-since told told' first before after names file own Rest Also text status stays counts more (goes_on p table rest is e r) =
    goes_on p table rest (subst (λ (t : Option (List ℕ)). IsProgramBehind names t p table) stays is) e (more p table rest r)

course-since : (told told' : List ℕ → Option (List ℕ)) (first before after : List ℕ → ℕ) → ((file : List ℕ) → told' file ≡ told file)
    → ((file : List ℕ) → first file ≤ before file) → (entries : List Entry) (files : List (List ℕ)) (n : ℕ) (p : Program) (names : List (List ℕ)) (accepted : Bool)
    (text : List ℕ) (status : Status) → Course (outside told' before after) entries files n p names accepted text status
    → Course (outside told first after) entries files n p names accepted text status
course-since told told' first before after stays counts entries [] n p names accepted text status s = s
course-since told told' first before after stays counts entries (file ∷ files) n p names accepted text status t =
    turn-since told told' first before after names file (λ q. next_text (n + 1) p q entries)
    (λ q table rest end. Course (outside told' before after) entries files (n + 1) q table (accepted && list_all (passes q) entries) rest end)
    (λ q table rest end. Course (outside told first after) entries files (n + 1) q table (accepted && list_all (passes q) entries) rest end)
    text status (stays file) (counts file)
    (λ q table rest r. course-since told told' first before after stays counts entries files (n + 1) q table (accepted && list_all (passes q) entries) rest status r) t

-- nothing may be printed, with some status
some-course : (o : Outside) (entries : List Entry) (files : List (List ℕ)) (n : ℕ) (p : Program) (names : List (List ℕ)) (accepted : Bool)
    → (status : Status) × Course o entries files n p names accepted [] status
some-course o entries [] n p names accepted = (course_status accepted, says (course_status accepted))
some-course o entries (file ∷ files) n p names accepted = (Memory, cut_off (says Memory))

-- ---- a turn

module _ (entries : List Entry) (n : ℕ) (p : Program) (names : List (List ℕ)) (accepted : Bool) (t t' : Option (List ℕ)) (f f' : ℕ) where
  -- behind the last program
  pub course-ends : (o : Outside) (files : List (List ℕ)) (status : Status) → length files < 1 → status ≡ course_status accepted → t' ≡ t
      → Reports (Course o entries files n p names accepted) t t' f f' status
  course-ends o [] status none is same = takes-none (Course o entries [] n p names accepted) t t' f f' status same (record { line_is = refl; ending_is = is })
  course-ends o (file ∷ files) status none is same = absurd (omega arith)

  -- the file has no program
  pub course-stops : (o : Outside) (file : List ℕ) (files : List (List ℕ)) (h : Halt) (status : Status) → IfLine h (IsNoProgramBehind names o file)
      → Reports (Tells h) t t' f f' status → Reports (Course o entries (file ∷ files) n p names accepted) t t' f f' status
  course-stops o file files h status line =
      reports-widen (Tells h) (Course o entries (file ∷ files) n p names accepted) t t' f f' status
      (tells-widen (IsNoProgramBehind names o file) (Course o entries (file ∷ files) n p names accepted) h line (λ text s no. no_program no) (λ text s cut. cut_off cut))

  -- its text could not be made
  pub course-cut : (o : Outside) (file : List ℕ) (files : List (List ℕ)) → t' ≡ t → Reports (Course o entries (file ∷ files) n p names accepted) t t' f f' Memory
  course-cut o file files same = takes-none (Course o entries (file ∷ files) n p names accepted) t t' f f' Memory same (cut_off (says Memory))

  -- its text could not be written whole
  pub course-broken : (o : Outside) (file : List ℕ) (files : List (List ℕ)) (q : Program) (table : List (List ℕ)) → IsProgramBehind names (o.told file) q table
      → TakesPrefix t t' (next_text (n + 1) p q entries) → Rose f f' → Reports (Course o entries (file ∷ files) n p names accepted) t t' f f' Write
  course-broken o file files q table is taken rose =
      let rest = some-course o entries files (n + 1) q table (accepted && list_all (passes q) entries) in
      takes-part (Course o entries (file ∷ files) n p names accepted) (next_text (n + 1) p q entries) t t' f f' rest.0 taken rose
      (goes_on q table [] is refl rest.1)

  -- its text was written, and what comes behind it
  pub course-goes : (told told' : List ℕ → Option (List ℕ)) (first before after : List ℕ → ℕ) (file : List ℕ) (files : List (List ℕ)) (q : Program) (table : List (List ℕ))
      (m : ℕ) (table' : List (List ℕ)) (accepted' : Bool) (t'' : Option (List ℕ)) (f'' : ℕ) (status : Status)
      → ((other : List ℕ) → told' other ≡ told other) → ((other : List ℕ) → first other ≤ before other) → IsProgramBehind names (told file) q table
      → m ≡ n + 1 → table' ≡ table → accepted' ≡ (accepted && list_all (passes q) entries)
      → t' ≡ behind t (next_text (n + 1) p q entries) → f ≤ f'
      → Reports (Course (outside told' before after) entries files m q table' accepted') t' t'' f' f'' status
      → Reports (Course (outside told first after) entries (file ∷ files) n p names accepted) t t'' f f'' status
  course-goes told told' first before after file files q table m table' accepted' t'' f'' status stays counts is number same all taken rises =
      takes-behind (Course (outside told' before after) entries files m q table' accepted') (Course (outside told first after) entries (file ∷ files) n p names accepted)
      (next_text (n + 1) p q entries) t t' t'' f f' f'' status taken rises
      (λ rest end c.
      goes_on q table rest is refl
      (course-since told told' first before after stays counts entries files (n + 1) q table (accepted && list_all (passes q) entries) rest end
      (subst (λ (k : ℕ). Course (outside told' before after) entries files k q table (accepted && list_all (passes q) entries) rest end) number
      (subst (λ (ns : List (List ℕ)). Course (outside told' before after) entries files m q ns (accepted && list_all (passes q) entries) rest end) same
      (subst (λ (b : Bool). Course (outside told' before after) entries files m q table' b rest end) all c)))))

-- ---- the first turn

module _ (answers file : List ℕ) (files : List (List ℕ)) (t t' : Option (List ℕ)) (f f' : ℕ) where
  -- the file has no program
  pub first-stops : (o : Outside) (h : Halt) (status : Status) → IfLine h (IsNoProgram o file) → Reports (Tells h) t t' f f' status
      → Reports (FirstTurn o answers file files) t t' f f' status
  first-stops o h status line =
      reports-widen (Tells h) (FirstTurn o answers file files) t t' f f' status
      (tells-widen (IsNoProgram o file) (FirstTurn o answers file files) h line (λ text s no. no_first no) (λ text s cut. cut_first cut))

  module _ (told told' : List ℕ → Option (List ℕ)) (first before after : List ℕ → ℕ) (p : Program) (names : List (List ℕ)) (stays : told' answers ≡ told answers)
      (is : IsProgram (told file) p names) where
    -- the other has no answers
    pub answers-stop : (h : Halt) (status : Status) → first answers ≤ before answers → IfLine h (IsNoAnswers (outside told' before after) answers names)
        → Reports (Tells h) t t' f f' status → Reports (FirstTurn (outside told first after) answers file files) t t' f f' status
    answers-stop h status counts line =
        reports-widen (Tells h) (FirstTurn (outside told first after) answers file files) t t' f f' status
        (tells-widen (IsNoAnswers (outside told' before after) answers names) (FirstTurn (outside told first after) answers file files) h line
        (λ text s no. no_answers p names is (no_answers-since told told' first before after answers names text s stays counts no))
        (λ text s cut. cut_first cut))

    module _ (entries : List Entry) (table : List (List ℕ)) (has : HasAnswers (told' answers) names entries table) (says-so : (q : Program) → All (KeepsWorth q) entries) where
      told-so : HasAnswers (told answers) names entries table
      told-so = subst (λ (x : Option (List ℕ)). HasAnswers x names entries table) stays has

      -- the text could not be made
      pub first-cut : t' ≡ t → Reports (FirstTurn (outside told first after) answers file files) t t' f f' Memory
      first-cut same = takes-none (FirstTurn (outside told first after) answers file files) t t' f f' Memory same (cut_first (says Memory))

      -- it could not be written whole
      pub first-broken : TakesPrefix t t' (first_text p entries) → Rose f f' → Reports (FirstTurn (outside told first after) answers file files) t t' f f' Write
      first-broken taken rose =
          let rest = some-course (outside told first after) entries files 1 p table (list_all (passes p) entries) in
          takes-part (FirstTurn (outside told first after) answers file files) (first_text p entries) t t' f f' rest.0 taken rose
          (goes_first p names entries table [] is told-so says-so refl rest.1)

      -- it was written, and what comes behind it
      pub first-goes : (told'' : List ℕ → Option (List ℕ)) (later : List ℕ → ℕ) (n : ℕ) (table' : List (List ℕ)) (accepted : Bool) (t'' : Option (List ℕ)) (f'' : ℕ) (status : Status)
          → ((other : List ℕ) → told'' other ≡ told other) → ((other : List ℕ) → first other ≤ later other)
          → n ≡ 1 → table' ≡ table → accepted ≡ list_all (passes p) entries → t' ≡ behind t (first_text p entries) → f ≤ f'
          → Reports (Course (outside told'' later after) entries files n p table' accepted) t' t'' f' f'' status
          → Reports (FirstTurn (outside told first after) answers file files) t t'' f f'' status
      first-goes told'' later n table' accepted t'' f'' status same counts number names-are all taken rises =
          takes-behind (Course (outside told'' later after) entries files n p table' accepted) (FirstTurn (outside told first after) answers file files)
          (first_text p entries) t t' t'' f f' f'' status taken rises
          (λ rest end c.
          goes_first p names entries table rest is told-so says-so refl
          (course-since told told'' first later after same counts entries files 1 p table (list_all (passes p) entries) rest end
          (subst (λ (k : ℕ). Course (outside told'' later after) entries files k p table (list_all (passes p) entries) rest end) number
          (subst (λ (ns : List (List ℕ)). Course (outside told'' later after) entries files n p ns (list_all (passes p) entries) rest end) names-are
          (subst (λ (b : Bool). Course (outside told'' later after) entries files n p table' b rest end) all c)))))

-- ---- the files

-- there is a first file, and those behind it
pub first-file : (files : List (List ℕ)) (file or : List ℕ) → 1 ≤ length files → file ≡ get_or files 0 or → file ∷ drop 1 files ≡ files
first-file [] file or some is = absurd (omega arith)
first-file (x ∷ xs) file or some is = ap (λ y. y ∷ xs) is

pub course-of : (o : Outside) (entries : List Entry) (n : ℕ) (p : Program) (names : List (List ℕ)) (accepted : Bool) (fs gs : List (List ℕ)) (t t' : Option (List ℕ)) (f f' : ℕ)
    (status : Status) → fs ≡ gs → Reports (Course o entries fs n p names accepted) t t' f f' status → Reports (Course o entries gs n p names accepted) t t' f f' status
course-of o entries n p names accepted fs gs t t' f f' status same =
    subst (λ (hs : List (List ℕ)). Reports (Course o entries hs n p names accepted) t t' f f' status) same

pub rechecks-of : (o : Outside) (answers file : List ℕ) (more files : List (List ℕ)) (t t' : Option (List ℕ)) (f f' : ℕ) (status : Status) → file ∷ more ≡ files
    → Reports (FirstTurn o answers file more) t t' f f' status → Reports (Rechecks o answers files) t t' f f' status
rechecks-of o answers file more files t t' f f' status same =
    subst (λ (hs : List (List ℕ)). Reports (Rechecks o answers hs) t t' f f' status) same

-- there is none
pub files-none : (o : Outside) (answers : List ℕ) (files : List (List ℕ)) (t : Option (List ℕ)) (f : ℕ) → length files < 1
    → Reports (Rechecks o answers files) t t f f Done
files-none o answers [] t f none = takes-none (Rechecks o answers []) t t f f Done refl (says Done)
files-none o answers (file ∷ files) t f none = absurd (omega arith)
