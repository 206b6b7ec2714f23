-- Parts of the run of all queries.
use Rattle.std.proofs.Common.{◌≡◌, ◌∙◌, ℕ, suc, ◌+◌, ◌<◌, ◌≤◌, add-one, arith, drop, Bool, true, false, ◌||◌, List, [], ◌∷◌, ◌++◌, length, Option, None, Some, Result, Ok, Err, if◌then◌else◌, ◌⊎◌, inl, inr, refl, ap, sym, subst}
use Rattle.std.specs.Prelude.{IfSome, option_map}
use Rattle.std.proofs.lemmas.List.{append-nil, append_assoc, drop_all, drop_more}
use Rattle.std.proofs.lemmas.Option.{slice_get_cases}
use Rattle.scasp_io.specs.Bytes.{TakesPrefix, behind}
use Rattle.scasp_io.specs.Taken.{Writes}
use Rattle.scasp_io.specs.declared.errors.OutputErr.{OutputErr}
use Rattle.scasp_io.specs.declared.errors.OutputErr.TheVariants.{Memory, Write}
use Rattle.scasp_command_run.proofs.OutputLemmas.{behind-both, behind-nil, err-behind, ok-behind}
use Rattle.scasp_command_run.specs.Inside.Continuing.{IsQueryRun, QueryText}
use Rattle.scasp_command_run.specs.Inside.Whole.{IsBefore, Rests, last_end}
use Rattle.scasp_command_run.specs.Jobs.{Job}
use Rattle.scasp_command_run.specs.Queries.{RunsQuery, Shown}
use Rattle.scasp_command_run.specs.Runs.{Follows, IsRun, RunsFrom, end_from, end_with, has_any}
use Rattle.scasp_command_run.specs.Texts.{header_line, queries_text, run_text, shown_from}
use Rattle.scasp_command_run.specs.declared.ends.QueryEnd.{QueryEnd}
use Rattle.scasp_command_run.specs.declared.ends.QueryEnd.TheVariants.{Ended, Stopped, Spent, Overflow}
use Rattle.scasp_command_run.specs.declared.ends.RunEnd.{RunEnd}
use Rattle.scasp_command_run.specs.declared.ends.RunEnd.TheVariants as run
use Rattle.scasp_command_run.specs.declared.queries.Queried.{Queried}
use Rattle.scasp_syntax.specs.Programs.{numbered}
use Rattle.scasp_syntax.specs.declared.clause.Query.{Query}

module _ (job : Job) where
  -- nothing more is printed
  rests-none : (number : ℕ) (qs : List Query) (answered : Bool) → Rests job number qs answered [] (end_from answered qs [])
  rests-none number qs answered = record { all = []; runs = tt; text_is = refl; end_is = refl }

  run-text : (text : List ℕ) (end : Option RunEnd) → text ≡ header_line job.format → end ≡ end_from false job.program.queries [] → IsRun job text end
  run-text text end e is = record { all = []; runs = tt; text_is = e ∙ sym (append-nil (header_line job.format)); end_is = is }

  -- ---- the first line

  pub header-before : (old new : Option (List ℕ)) → new ≡ behind old (header_line job.format) → IsBefore job 1 job.program.queries false old new
  header-before old new taken = record {
    text = header_line job.format;
    taken = taken;
    whole = λ more end r. record { all = r.all; runs = r.runs; text_is = ap (λ (t : List ℕ). header_line job.format ++ t) r.text_is; end_is = r.end_is };
  }

  pub header-broken : (old new : Option (List ℕ)) → TakesPrefix old new (header_line job.format) → Writes (IsRun job) old new (Err Write)
  header-broken old new part = record {
    text = header_line job.format;
    may = (end_from false job.program.queries [], run-text (header_line job.format) (end_from false job.program.queries []) refl refl);
    part = part;
  }

  -- ---- one query

  module _ (number : ℕ) (q : Query) (qs : List Query) (answered : Bool) where
    shown-of : (text : List ℕ) (r : Option Queried) → IsQueryRun job number q text r → Shown
    shown-of text r h = record { answers = h.remains.all; end = option_map (λ x. x.end) r }

    runs-shown : (text : List ℕ) (r : Option Queried) (h : IsQueryRun job number q text r)
        → RunsQuery job number q (record { answers = h.remains.all; end = option_map (λ x. x.end) r })
    runs-shown text r h = record { rest = h.rest; opens = h.opens; prints = h.remains.prints }

    -- behind a query that ended or was stopped the others follow
    rests-follows : (text more : List ℕ) (x : Queried) (end : Option RunEnd) (h : IsQueryRun job number q text (Some x)) (r : Rests job (suc number) qs (answered || x.answered) more end)
        → Follows (Some x.end) r.all (RunsFrom job (suc number) qs r.all)
        → end_with (Some x.end) end ≡ end
        → Rests job number (q ∷ qs) answered (text ++ more) end
    rests-follows text more x end h r follows is =
        let has : x.answered ≡ has_any h.remains.all = h.has_is ∙ h.remains.has_is in
        record {
          all = record { answers = h.remains.all; end = Some x.end } ∷ r.all;
          runs = (runs-shown text (Some x) h, follows);
          text_is = ap (λ (t : List ℕ). t ++ more) h.remains.text_is ∙ ap (λ (t : List ℕ). shown_from job.format job.program number 1 h.remains.all (Some x.end) ++ t) r.text_is;
          end_is = sym is ∙ ap (end_with (Some x.end)) r.end_is ∙ ap (λ b. end_with (Some x.end) (end_from (answered || b) qs r.all)) has;
        }

    -- the run ends with this query, or is cut off in it
    rests-last : (text : List ℕ) (r : Option Queried) (h : IsQueryRun job number q text r) (end : Option RunEnd)
        → Follows (option_map (λ x. x.end) r) [] (RunsFrom job (suc number) qs [])
        → end ≡ end_with (option_map (λ x. x.end) r) (end_from (answered || has_any h.remains.all) qs [])
        → Rests job number (q ∷ qs) answered text end
    rests-last text r h end follows is = record {
      all = record { answers = h.remains.all; end = option_map (λ x. x.end) r } ∷ [];
      runs = (runs-shown text r h, follows);
      text_is = h.remains.text_is ∙ sym (append-nil (shown_from job.format job.program number 1 h.remains.all (option_map (λ x. x.end) r)));
      end_is = is;
    }

    -- whatever the run of the query comes to, the run may be cut off behind it
    rests-any : (text : List ℕ) (r : Option Queried) → IsQueryRun job number q text r → (end : Option RunEnd) × Rests job number (q ∷ qs) answered text end
    rests-any text None h = (None, rests-last text None h None refl refl)
    rests-any text (Some x) h = by x.end refl
      where
        by : (e : QueryEnd) → x.end ≡ e → (end : Option RunEnd) × Rests job number (q ∷ qs) answered text end
        by Ended e = let f = λ (o : QueryEnd). Follows (Some o) [] (RunsFrom job (suc number) qs []) in (_, rests-last text (Some x) h _ (subst f (sym e) tt) refl)
        by Stopped e = let f = λ (o : QueryEnd). Follows (Some o) [] (RunsFrom job (suc number) qs []) in (_, rests-last text (Some x) h _ (subst f (sym e) tt) refl)
        by Spent e = let f = λ (o : QueryEnd). Follows (Some o) [] (RunsFrom job (suc number) qs []) in (_, rests-last text (Some x) h _ (subst f (sym e) refl) refl)
        by Overflow e = let f = λ (o : QueryEnd). Follows (Some o) [] (RunsFrom job (suc number) qs []) in (_, rests-last text (Some x) h _ (subst f (sym e) refl) refl)

    rests-cut : (text : List ℕ) → IsQueryRun job number q text None ⊎ (text ≡ []) → Rests job number (q ∷ qs) answered text None
    rests-cut text (inl h) = rests-last text None h None refl refl
    rests-cut text (inr e) = record { all = []; runs = tt; text_is = e; end_is = refl }

    rests-text : (text : List ℕ) (r : Option Queried) → QueryText job number q text r → (end : Option RunEnd) × Rests job number (q ∷ qs) answered text end
    rests-text text None h = (None, rests-cut text h)
    rests-text text (Some r) h = rests-any text (Some r) h

    module _ (old mid new : Option (List ℕ)) (before : IsBefore job number (q ∷ qs) answered old mid) where
      pub query-before : (x : Queried) → (x.end ≡ Ended) ⊎ (x.end ≡ Stopped) → Writes (QueryText job number q) mid new (Ok x)
          → IsBefore job (suc number) qs (answered || x.answered) old new
      query-before x goes w = record {
        text = before.text ++ w.text;
        taken = behind-both old mid new before.text w.text before.taken w.taken;
        whole = λ more end r.
            subst (λ (t : List ℕ). IsRun job t end) (sym (append_assoc before.text w.text more))
            (before.whole (w.text ++ more) end (rests-follows w.text more x end w.may r (follows r.all r.runs) (ends end)));
      }
        where
          follows : (all : List Shown) → RunsFrom job (suc number) qs all → Follows (Some x.end) all (RunsFrom job (suc number) qs all)
          follows all h = let f = λ (o : QueryEnd). Follows (Some o) all (RunsFrom job (suc number) qs all) in
              elim goes [ inl e ↦ subst f (sym e) h | inr e ↦ subst f (sym e) h ]

          ends : (end : Option RunEnd) → end_with (Some x.end) end ≡ end
          ends end = elim goes [ inl e ↦ ap (λ (o : QueryEnd). end_with (Some o) end) e | inr e ↦ ap (λ (o : QueryEnd). end_with (Some o) end) e ]

      last-run : (text : List ℕ) (x : Queried) (e : RunEnd) → (later : Option RunEnd) → IsQueryRun job number q text (Some x)
          → Follows (Some x.end) [] (RunsFrom job (suc number) qs []) → ((o : Option RunEnd) → end_with (Some x.end) o ≡ Some e)
          → IsRun job (before.text ++ text) (Some e)
      last-run text x e later h follows is = before.whole text (Some e) (rests-last text (Some x) h (Some e) follows (sym (is _)))

      pub query-spent : (x : Queried) → x.end ≡ Spent → Writes (QueryText job number q) mid new (Ok x) → Writes (IsRun job) old new (Ok run.Spent)
      query-spent x e w =
          ok-behind (QueryText job number q) (IsRun job) before.text old mid new x run.Spent before.taken
          (λ text h. last-run text x run.Spent None h
          (let f = λ (o : QueryEnd). Follows (Some o) [] (RunsFrom job (suc number) qs []) in subst f (sym e) refl)
          (λ o. ap (λ (end : QueryEnd). end_with (Some end) o) e)) w

      pub query-overflow : (x : Queried) → x.end ≡ Overflow → Writes (QueryText job number q) mid new (Ok x) → Writes (IsRun job) old new (Ok run.Overflow)
      query-overflow x e w =
          ok-behind (QueryText job number q) (IsRun job) before.text old mid new x run.Overflow before.taken
          (λ text h. last-run text x run.Overflow None h
          (let f = λ (o : QueryEnd). Follows (Some o) [] (RunsFrom job (suc number) qs []) in subst f (sym e) refl)
          (λ o. ap (λ (end : QueryEnd). end_with (Some end) o) e)) w

      pub query-error : (e : OutputErr) → Writes (QueryText job number q) mid new (Err e) → Writes (IsRun job) old new (Err e)
      query-error e w =
          err-behind (QueryText job number q) (IsRun job) before.text old mid new e before.taken
          (λ text h. before.whole text None (rests-cut text h))
          (λ text r h. let k = rests-text text r h in (k.0, before.whole text k.0 k.1)) w

-- ---- the query of the next number

pub record NextQuery (qs : List Query) (place : ℕ) : Type 0 where
  pub query : Query
  pub found : numbered qs (place + 1) ≡ Some query
  pub rest : drop place qs ≡ query ∷ drop (place + 1) qs

pub next-query : (qs : List Query) (place : ℕ) → place < length qs → NextQuery qs place
next-query qs place below =
    elim ((slice_get_cases qs place).1) [
      | inl h ↦
          record {
            query = h.0;
            found = ap (numbered qs) (add-one place) ∙ h.2;
            rest = drop_more qs place h.0 below ∙ ap (λ (q : Query). q ∷ drop (place + 1) qs) h.3;
          }
      | inr h ↦ (let past : length qs ≤ place = h.0 in absurd (omega arith))
    ]

goes-after : (end : QueryEnd) → last_end end ≡ None → (end ≡ Ended) ⊎ (end ≡ Stopped)
goes-after Ended e = inl refl
goes-after Stopped e = inr refl
goes-after Spent e = absurd (cc e)
goes-after Overflow e = absurd (cc e)

module _ (job : Job) (place : ℕ) (answered : Bool) (old mid new : Option (List ℕ)) (below : place < length job.program.queries)
    (before : IsBefore job (place + 1) (drop place job.program.queries) answered old mid) where
  abbrev n : NextQuery job.program.queries place
  n = next-query job.program.queries place below

  before-next : IsBefore job (place + 1) ((n).query ∷ drop (place + 1) job.program.queries) answered old mid
  before-next = subst (λ (qs : List Query). IsBefore job (place + 1) qs answered old mid) (n).rest before

  of-next : (r : Result Queried OutputErr) → IfSome (numbered job.program.queries (place + 1)) (λ q. Writes (QueryText job (place + 1) q) mid new r)
      → Writes (QueryText job (place + 1) (n).query) mid new r
  of-next r w = subst (λ (o : Option Query). IfSome o (λ q. Writes (QueryText job (place + 1) q) mid new r)) (n).found w

  pub query-goes : (x : Queried) → None ≡ last_end x.end → IfSome (numbered job.program.queries (place + 1)) (λ q. Writes (QueryText job (place + 1) q) mid new (Ok x))
      → IsBefore job (place + 1 + 1) (drop (place + 1) job.program.queries) (answered || x.answered) old new
  query-goes x e w =
      subst (λ k. IsBefore job k (drop (place + 1) job.program.queries) (answered || x.answered) old new) (sym (add-one (place + 1)))
      (query-before job (place + 1) (n).query (drop (place + 1) job.program.queries) answered old mid new before-next x (goes-after x.end (sym e)) (of-next (Ok x) w))

  pub query-last : (x : Queried) (end : RunEnd) → Some end ≡ last_end x.end → IfSome (numbered job.program.queries (place + 1)) (λ q. Writes (QueryText job (place + 1) q) mid new (Ok x))
      → Writes (IsRun job) old new (Ok end)
  query-last x end e w = by x.end refl e
    where
      by : (f : QueryEnd) → x.end ≡ f → Some end ≡ last_end f → Writes (IsRun job) old new (Ok end)
      by Ended f e = absurd (cc e)
      by Stopped f e = absurd (cc e)
      by Spent f e =
          let k : run.Spent ≡ end = cc e in
          subst (λ (r : RunEnd). Writes (IsRun job) old new (Ok r)) k
          (query-spent job (place + 1) (n).query (drop (place + 1) job.program.queries) answered old mid new before-next x f (of-next (Ok x) w))
      by Overflow f e =
          let k : run.Overflow ≡ end = cc e in
          subst (λ (r : RunEnd). Writes (IsRun job) old new (Ok r)) k
          (query-overflow job (place + 1) (n).query (drop (place + 1) job.program.queries) answered old mid new before-next x f (of-next (Ok x) w))

  pub query-broken : (e : OutputErr) → IfSome (numbered job.program.queries (place + 1)) (λ q. Writes (QueryText job (place + 1) q) mid new (Err e))
      → Writes (IsRun job) old new (Err e)
  query-broken e w = query-error job (place + 1) (n).query (drop (place + 1) job.program.queries) answered old mid new before-next e (of-next (Err e) w)

-- ---- the end

pub all-run : (job : Job) (place : ℕ) (answered : Bool) (old new : Option (List ℕ)) (end : RunEnd) → length job.program.queries ≤ place
    → IsBefore job (place + 1) (drop place job.program.queries) answered old new
    → end ≡ (if answered then run.Done else run.NoAnswer) → Writes (IsRun job) old new (Ok end)
all-run job place answered old new end past before e =
    let none : drop place job.program.queries ≡ [] = drop_all place job.program.queries past in
    let left : IsBefore job (place + 1) [] answered old new = subst (λ (qs : List Query). IsBefore job (place + 1) qs answered old new) none before in
    record {
      text = left.text;
      may = subst (λ (t : List ℕ). IsRun job t (Some end)) (append-nil left.text)
          (left.whole [] (Some end) (record { all = []; runs = tt; text_is = refl; end_is = ap (λ (x : RunEnd). Some x) e }));
      taken = left.taken;
    }
