-- Parts of the run of a query.
use Rattle.std.proofs.Common.{◌≡◌, ◌≢◌, ◌∙◌, ◌+◌, add-one, ℕ, suc, Bool, true, false, ◌||◌, nat_lt, List, [], ◌∷◌, ◌++◌, length, Option, None, Some, Result, Ok, Err, refl, ap, sym, subst, arith, inl, inr}
use Rattle.std.proofs.lemmas.Bool.{lt-ltb}
use Rattle.std.specs.Prelude.{IfSome, IsSome, option_map}
use Rattle.std.proofs.lemmas.List.{append-nil, append_assoc}
use Rattle.scasp_cert.specs.Certificate.{Certificate}
use Rattle.scasp_fill.specs.Finishing.Right.{Completes}
use Rattle.scasp_io.specs.Bytes.{behind}
use Rattle.scasp_io.specs.Taken.{Writes}
use Rattle.scasp_io.specs.declared.errors.OutputErr.{OutputErr}
use Rattle.scasp_io.specs.declared.errors.OutputErr.TheVariants.{Memory}
use Rattle.scasp_command_run.proofs.AnswerLemmas.{or-true}
use Rattle.scasp_command_run.proofs.OutputLemmas.{behind-both, behind-nil, err-behind, ok-behind}
use Rattle.scasp_command_run.specs.Inside.Continuing.{Continues, Going, IsQueryRun, IsText, QueryText, Remains, Standing, Steps}
use Rattle.scasp_command_run.specs.Inside.Events.{EndsSo, MeetsNoAccepted, MeetsRight}
use Rattle.scasp_command_run.specs.Inside.Progresses.{IsAnswered}
use Rattle.scasp_print_samples.specs.Tables.{IsTable}
use Rattle.scasp_command_run.specs.Jobs.{Job}
use Rattle.scasp_command_run.specs.Queries.{Meets, Printed, Prints, fewer, ends, is_cut, is_spent, overflows, passes, prints, stops}
use Rattle.scasp_command_run.specs.Runs.{has_any}
use Rattle.scasp_print_samples.specs.Samples.{NamesSample}
use Rattle.scasp_command_run.specs.Texts.{answer_text, end_line, shown_from}
use Rattle.scasp_command_run.specs.declared.ends.QueryEnd.{QueryEnd}
use Rattle.scasp_command_run.specs.declared.ends.QueryEnd.TheVariants.{Ended, Stopped, Spent, Overflow}
use Rattle.scasp_command_run.specs.declared.queries.Queried.{Queried}
use Rattle.scasp_command_words.specs.declared.format.Format.{Format}
use Rattle.scasp_print_samples.specs.declared.tables.Table.{Table}
use Rattle.scasp_written.specs.Written.Rests.{Opens, Rest}
use Rattle.scasp_search_rules.specs.Successors.Machine.{answered}
use Rattle.scasp_syntax.specs.declared.clause.Query.{Query}
use Rattle.scasp_syntax.specs.declared.program.Program.{Program}

or-false : (a : Bool) → a ≡ (a || false)
or-false true = refl
or-false false = refl

pub true-false : (b : Bool) → b ≡ true → b ≡ false → ⊥
true-false b h g = let k : true ≡ false = sym h ∙ g in absurd (cc k)

-- where no more answer is asked for, the run of the query is stopped
pub stops-here : (p : Program) (names : List (List ℕ)) (asked : Option ℕ) (rest : Rest) → asked ≡ Some 0 → Prints p names asked rest [] (Some Stopped)
stops-here p names asked rest e = subst (λ (o : Option ℕ). Prints p names o rest [] (Some Stopped)) (sym e) (stops rest)

-- else it ends at the next event
pub ends-here : (p : Program) (names : List (List ℕ)) (asked : Option ℕ) (old new : Rest) (end : QueryEnd) → asked ≢ Some 0 → EndsSo old new end
    → Prints p names asked old [] (Some end)
ends-here p names asked old new Ended more h = ends asked old new more h
ends-here p names asked old new Stopped more h = absurd h
ends-here p names asked old new Spent more h = is_spent asked old new more h
ends-here p names asked old new Overflow more h = overflows asked old more h

module _ (p : Program) (names : List (List ℕ)) (query : ℕ) where
  -- ---- what one event gives

  remains-end : (s : Standing) (text : List ℕ) (end : QueryEnd) → Prints p names s.asked s.rest [] (Some end) → text ≡ end_line query end
      → Remains p names query s text (nat_lt 0 s.printed) (Some end)
  remains-end s text end h e = record { all = []; prints = h; text_is = e; has_is = or-false (nat_lt 0 s.printed) }

  remains-cut : (s : Standing) (text : List ℕ) → text ≡ [] → Remains p names query s text (nat_lt 0 s.printed) None
  remains-cut s text e = record { all = []; prints = is_cut s.asked s.rest; text_is = e; has_is = or-false (nat_lt 0 s.printed) }

  -- the line at the end
  pub end-steps : (old new : Standing) (end : QueryEnd) (text : List ℕ) (r : Option Unit) → Prints p names old.asked old.rest [] (Some end)
      → IsText (end_line query end) text r → (s : Option (Option QueryEnd)) × Steps p names query old new text s
  end-steps old new end text None h e = (None, (nat_lt 0 old.printed, remains-cut old text e))
  end-steps old new end text (Some done) h e = (Some (Some end), remains-end old text end h e)

  pub end-written : (old new : Standing) (end : QueryEnd) (before after : Option (List ℕ)) → Prints p names old.asked old.rest [] (Some end)
      → Writes (IsText (end_line query end)) before after (Ok tt) → Writes (Steps p names query old new) before after (Ok (Some end))
  end-written old new end before after h w = record { text = w.text; may = remains-end old w.text end h w.may; taken = w.taken }

  pub end-failed : (old new : Standing) (end : QueryEnd) (before after : Option (List ℕ)) (e : OutputErr) → Prints p names old.asked old.rest [] (Some end)
      → Writes (IsText (end_line query end)) before after (Err e) → Writes (Steps p names query old new) before after (Err e)
  end-failed old new end before after e h w =
      err-behind (IsText (end_line query end)) (Steps p names query old new) [] before before after e (behind-nil before)
      (λ text is. (nat_lt 0 old.printed, remains-cut old text is)) (λ text r is. end-steps old new end text r h is) w

  -- nothing was written
  pub nothing-steps : (old new : Standing) (before : Option (List ℕ)) → Writes (Steps p names query old new) before before (Err Memory)
  nothing-steps old new before = record { text = []; may = (nat_lt 0 old.printed, remains-cut old [] refl); taken = behind-nil before }

  -- the answer that is printed next
  pub answer-continues : (old new : Standing) (c : Certificate) (one : Printed) (text : List ℕ)
      → MeetsRight p old.rest c new.rest → old.asked ≢ Some 0 → one.certificate ≡ c → NamesSample names one.names c
      → new.asked ≡ fewer old.asked → new.printed ≡ suc old.printed → new.format ≡ old.format → text ≡ answer_text old.format p (suc old.printed) one
      → Continues p names query old text new
  answer-continues old new c one text comes asks is named asked printed format text_is more has end r =
      let completes : Completes p comes.tree one.certificate = subst (Completes p comes.tree) (sym is) comes.completes in
      let has_names : NamesSample names one.names one.certificate = subst (NamesSample names one.names) (sym is) named in
      let later : Prints p names (fewer old.asked) new.rest r.all end = subst (λ (o : Option ℕ). Prints p names o new.rest r.all end) asked r.prints in
      let tail : more ≡ shown_from old.format p query (suc (suc old.printed)) r.all end =
      r.text_is ∙ ap (λ n. shown_from new.format p query (suc n) r.all end) printed ∙ ap (λ (f : Format). shown_from f p query (suc (suc old.printed)) r.all end) format in
      let true_now : has ≡ true =
      r.has_is ∙ ap (λ n. nat_lt 0 n || has_any r.all) printed ∙ ap (λ b. b || has_any r.all) (lt-ltb 0 (suc old.printed) (omega arith)) in
      record {
        all = one ∷ r.all;
        prints = prints old.asked old.rest new.rest comes.tree one r.all end asks comes.meets completes has_names later;
        text_is = ap (λ (t : List ℕ). t ++ more) text_is ∙ ap (λ (t : List ℕ). answer_text old.format p (suc old.printed) one ++ t) tail;
        has_is = true_now ∙ sym (or-true (nat_lt 0 old.printed));
      }

  -- it may be cut off behind the answer
  answer-cut : (old next new : Standing) (c : Certificate) (one : Printed) (text : List ℕ) (r : Option Unit) {all : List ℕ}
      → MeetsRight p old.rest c next.rest → old.asked ≢ Some 0 → one.certificate ≡ c → NamesSample names one.names c
      → next.asked ≡ fewer old.asked → next.printed ≡ suc old.printed → next.format ≡ old.format → all ≡ answer_text old.format p (suc old.printed) one
      → IsText all text r → (s : Option (Option QueryEnd)) × Steps p names query old new text s
  answer-cut old next new c one text None comes asks is named asked printed format text_is t = (None, (nat_lt 0 old.printed, remains-cut old text t))
  answer-cut old next new c one text (Some done) comes asks is named asked printed format text_is t =
      let k : Remains p names query old (text ++ []) (nat_lt 0 next.printed) None =
      answer-continues old next c one text comes asks is named asked printed format (t ∙ text_is) [] (nat_lt 0 next.printed) None (remains-cut next [] refl) in
      (None, (nat_lt 0 next.printed, subst (λ (x : List ℕ). Remains p names query old x (nat_lt 0 next.printed) None) (append-nil text) k))

  -- the text of the answer, as the first standing has it
  text-numbered : (first now : Standing) (c : Certificate) (table : List (List ℕ)) (number : ℕ) → number ≡ suc first.printed → now.format ≡ first.format
      → answer_text now.format p number (record { names = table; certificate = c }) ≡ answer_text first.format p (suc first.printed) (record { names = table; certificate = c })
  text-numbered first now c table number n format =
      ap (λ k. answer_text now.format p k (record { names = table; certificate = c })) n
      ∙ ap (λ (f : Format). answer_text f p (suc first.printed) (record { names = table; certificate = c })) format

  pub answer-written : (first now new : Standing) (c : Certificate) (table : List (List ℕ)) (number : ℕ) (before after : Option (List ℕ)) → IsAnswered p first c now
      → NamesSample names table c → number ≡ now.printed + 1 → new.rest ≡ now.rest → new.asked ≡ fewer now.asked → new.printed ≡ number → new.format ≡ now.format
      → Writes (IsText (answer_text now.format p number (record { names = table; certificate = c }))) before after (Ok tt)
      → Writes (Steps p names query first new) before after (Ok None)
  answer-written first now new c table number before after is named number_is rest asked printed format w =
      let n : number ≡ suc first.printed = number_is ∙ add-one now.printed ∙ ap suc is.printed in
      record {
        text = w.text;
        may =
            answer-continues first new c (record { names = table; certificate = c }) w.text
            (subst (MeetsRight p first.rest c) (sym rest) is.comes) is.more refl named
            (asked ∙ ap fewer is.asked) (printed ∙ n) (format ∙ is.format)
            (w.may ∙ text-numbered first now c table number n is.format);
        taken = w.taken;
      }

  pub answer-failed : (first now new : Standing) (c : Certificate) (table : List (List ℕ)) (number : ℕ) (before after : Option (List ℕ)) (e : OutputErr) → IsAnswered p first c now
      → NamesSample names table c → number ≡ now.printed + 1
      → Writes (IsText (answer_text now.format p number (record { names = table; certificate = c }))) before after (Err e)
      → Writes (Steps p names query first new) before after (Err e)
  answer-failed first now new c table number before after e is named number_is w =
      let next : Standing = record { rest = now.rest; asked = fewer now.asked; printed = suc now.printed; format = now.format } in
      let n : number ≡ suc first.printed = number_is ∙ add-one now.printed ∙ ap suc is.printed in
      err-behind (IsText (answer_text now.format p number (record { names = table; certificate = c }))) (Steps p names query first new) [] before before after e (behind-nil before)
      (λ text t. (nat_lt 0 first.printed, remains-cut first text t))
      (λ text r t. answer-cut first next new c (record { names = table; certificate = c }) text r is.comes is.more refl named (ap fewer is.asked) (ap suc is.printed)
      is.format (text-numbered first now c table number n is.format) t) w

  -- a tree that is passed over
  pub pass-continues : (old new : Standing) → MeetsNoAccepted p old.rest new.rest → old.asked ≢ Some 0 → new.asked ≡ old.asked → new.printed ≡ old.printed → new.format ≡ old.format
      → Continues p names query old [] new
  pass-continues old new comes asks asked printed format more has end r =
      let later : Prints p names old.asked new.rest r.all end = subst (λ (o : Option ℕ). Prints p names o new.rest r.all end) asked r.prints in
      record {
        all = r.all;
        prints = passes old.asked old.rest new.rest comes.tree r.all end asks comes.meets comes.none later;
        text_is = r.text_is ∙ ap (λ n. shown_from new.format p query (suc n) r.all end) printed ∙ ap (λ (f : Format). shown_from f p query (suc old.printed) r.all end) format;
        has_is = r.has_is ∙ ap (λ n. nat_lt 0 n || has_any r.all) printed;
      }

  pub pass-written : (old new : Standing) (before : Option (List ℕ)) → MeetsNoAccepted p old.rest new.rest → old.asked ≢ Some 0 → new.asked ≡ old.asked → new.printed ≡ old.printed → new.format ≡ old.format
      → Writes (Steps p names query old new) before before (Ok None)
  pass-written old new before comes asks asked printed format = record { text = []; may = pass-continues old new comes asks asked printed format; taken = behind-nil before }

  -- ---- events one after the other

  -- whatever an event gives, the run may be cut off behind it
  cut-off : (old new : Standing) (text : List ℕ) (s : Option (Option QueryEnd)) → Steps p names query old new text s
      → (end : Option QueryEnd) × (has : Bool) × Remains p names query old text has end
  cut-off old new text None h = (None, h.0, h.1)
  cut-off old new text (Some None) h =
      let k : Remains p names query old (text ++ []) (nat_lt 0 new.printed) None = h [] (nat_lt 0 new.printed) None (remains-cut new [] refl) in
      (None, nat_lt 0 new.printed, subst (λ (t : List ℕ). Remains p names query old t (nat_lt 0 new.printed) None) (append-nil text) k)
  cut-off old new text (Some (Some end)) h = (Some end, nat_lt 0 old.printed, h)

  pub going-first : (first : Standing) (old : Option (List ℕ)) → Going p names query first first old old
  going-first first old = record { text = []; taken = behind-nil old; continues = λ more has end r. r }

  pub going-on : (first now next : Standing) (old mid new : Option (List ℕ)) → Going p names query first now old mid
      → Writes (Steps p names query now next) mid new (Ok None) → Going p names query first next old new
  going-on first now next old mid new g w = record {
    text = g.text ++ w.text;
    taken = behind-both old mid new g.text w.text g.taken w.taken;
    continues = λ more has end r.
        subst (λ (t : List ℕ). Remains p names query first t has end) (sym (append_assoc g.text w.text more))
        (g.continues (w.text ++ more) has end (w.may more has end r));
  }

-- ---- the whole run of a query

module _ (job : Job) (number : ℕ) (q : Query) (rest : Rest) (opens : Opens job.program number job.budget (length job.names) q rest) where
  abbrev beginning : Standing
  beginning = record { rest = rest; asked = job.answers; printed = 0; format = job.format }

  whole : (text : List ℕ) (has : Bool) (r : Option Queried) → Remains job.program job.names number beginning text has (option_map (λ x. x.end) r)
      → IfSome r (λ x. x.answered ≡ has) → IsQueryRun job number q text r
  whole text has r remains is = record { rest = rest; opens = opens; has = has; remains = remains; has_is = is }

  text-of : (text : List ℕ) (r : Option Queried) → IsQueryRun job number q text r → QueryText job number q text r
  text-of text None h = inl h
  text-of text (Some r) h = h

  any-end : (text : List ℕ) (has : Bool) (end : Option QueryEnd) → Remains job.program job.names number beginning text has end
      → (r : Option Queried) × QueryText job number q text r
  any-end text has None h = (None, inl (whole text has None h tt))
  any-end text has (Some end) h = let r : Queried = record { end = end; answered = has } in (Some r, whole text has (Some r) h refl)

  pub query-ended : (now next : Standing) (old mid new : Option (List ℕ)) (end : QueryEnd) (found : Bool)
      → Going job.program job.names number beginning now old mid → found ≡ nat_lt 0 now.printed
      → Writes (Steps job.program job.names number now next) mid new (Ok (Some end))
      → Writes (QueryText job number q) old new (Ok (record { end = end; answered = found }))
  query-ended now next old mid new end found g is w =
      ok-behind (Steps job.program job.names number now next) (QueryText job number q) g.text old mid new (Some end) _ g.taken
      (λ text h. whole (g.text ++ text) (nat_lt 0 now.printed) (Some (record { end = end; answered = found })) (g.continues text (nat_lt 0 now.printed) (Some end) h) is) w

  pub query-failed : (now next : Standing) (old mid new : Option (List ℕ)) (e : OutputErr)
      → Going job.program job.names number beginning now old mid
      → Writes (Steps job.program job.names number now next) mid new (Err e) → Writes (QueryText job number q) old new (Err e)
  query-failed now next old mid new e g w =
      err-behind (Steps job.program job.names number now next) (QueryText job number q) g.text old mid new e g.taken
      (λ text h. inl (whole (g.text ++ text) h.0 None (g.continues text h.0 None h.1) tt))
      (λ text r h. let k = cut-off job.program job.names number now next text r h in any-end (g.text ++ text) k.1 k.0 (g.continues text k.1 k.0 k.2)) w

  -- the run is cut off where it stands
  pub query-cut : (now : Standing) (old new : Option (List ℕ)) → Going job.program job.names number beginning now old new → Writes (QueryText job number q) old new (Err Memory)
  query-cut now old new g =
      let k : Remains job.program job.names number beginning (g.text ++ []) (nat_lt 0 now.printed) None =
      g.continues [] (nat_lt 0 now.printed) None (remains-cut job.program job.names number now [] refl) in
      record {
        text = g.text;
        may = inl (whole g.text (nat_lt 0 now.printed) None (subst (λ (t : List ℕ). Remains job.program job.names number beginning t (nat_lt 0 now.printed) None) (append-nil g.text) k) tt);
        taken = g.taken;
      }

-- the search was opened with the first name of samples behind those of the program
pub opens-names : (p : Program) (names : List (List ℕ)) (t : Table) (number budget : ℕ) (q : Query) (rest : Rest) → IsTable names t
    → Opens p number budget t.program q rest → Opens p number budget (length names) q rest
opens-names p names t number budget q rest is o = subst (λ n. Opens p number budget n q rest) is.program_is o

-- the run is cut off before the query
pub query-none : (job : Job) (number : ℕ) (q : Query) (old : Option (List ℕ)) → Writes (QueryText job number q) old old (Err Memory)
query-none job number q old = record { text = []; may = inr refl; taken = behind-nil old }

-- what follows from a fact of the value holds of it too
pub some-more : {A : Type 0} {P Q : A → Type 0} (o : Option A) → ((x : A) → P x → Q x) → IfSome o P → IfSome o Q
some-more (Some x) more h = more x h
some-more None more h = h

-- and what holds of each value
pub some-each : {A : Type 0} {P : A → Type 0} (o : Option A) → ((x : A) → P x) → IfSome o P
some-each (Some x) each = each x
some-each None each = tt

-- a fact that does not speak of the value
pub some-known : {A : Type 0} {P : Type 0} (o : Option A) → IsSome o → IfSome o (λ _. P) → P
some-known None there h = absurd (cc there)
some-known (Some x) there h = h
