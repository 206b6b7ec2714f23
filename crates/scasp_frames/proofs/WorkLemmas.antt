-- Frames kept with the next one last.
use Rattle.std.proofs.Common.{◌≡◌, ◌+◌, ◌-◌, ◌<◌, ◌≤◌, ℕ, zero, suc, true, false, IfOk, Result, Ok, Err, Option, None, Some, List, [], ◌∷◌, ◌++◌, length, map, reverse, take, length-append, arith, refl, ap, subst, sym, ◌∙◌}
use Rattle.std.specs.List.{flat_map}
use Rattle.std.proofs.lemmas.List.{reverse-append, take-append-le, take_all}
use Rattle.scasp_frames.specs.Inside.Kept.{tasks_of, work_of}
use Rattle.scasp_frames.specs.Inside.Taken.{Takes}
use Rattle.scasp_frames.specs.declared.frame.Frame.{Frame}
use Rattle.scasp_frames.proofs.FrameLemmas.{some_task}
use Rattle.scasp_list.specs.declared.memory.Memory.{Memory}
use Rattle.scasp_search_rules.specs.Successors.Replacing.{closes}
use Rattle.scasp_search_rules.specs.Successors.Search.{pays_for}
use Rattle.scasp_search_rules.specs.declared.states.state.State.{State}
use Rattle.scasp_search_rules.specs.declared.states.tasks.Task.{Task}
use Rattle.scasp_search_state.specs.Choices.{TakesTask}
use Rattle.scasp_search_state.specs.Words.{has_work}
use Rattle.scasp_trail.specs.Past.{earlier, latest}

-- ---- the last frame is the first

pub work_with : (fs : List Frame) (f : Frame) → work_of (fs ++ f ∷ []) ≡ tasks_of f ++ work_of fs
work_with fs f = ap (flat_map tasks_of) (reverse-append fs (f ∷ []))

pub work_by_last : (fs us : List Frame) (f : Frame) → fs ≡ us ++ f ∷ [] → work_of fs ≡ tasks_of f ++ work_of us
work_by_last fs us f e = ap work_of e ∙ work_with us f

all_but_last : (fs us : List Frame) (f : Frame) → fs ≡ us ++ f ∷ [] → take (length fs - 1) fs ≡ us
all_but_last fs us f e =
    let n : length fs ≡ length us + 1 = ap length e ∙ length-append us (f ∷ []) in
    let m : length fs - 1 ≡ length us = omega (arith, n) in
    ap (λ (k : ℕ). take k fs) m ∙ ap (λ gs. take (length us) gs) e
    ∙ take-append-le (length us) us (f ∷ []) (omega arith) ∙ take_all (length us) us (omega arith)

-- ---- at the latest mark

pub work_latest : (fs : List Frame) (fss : List (List Frame)) → work_of (latest fs fss) ≡ latest (work_of fs) (map work_of fss)
work_latest fs [] = refl
work_latest fs (gs ∷ fss) = refl

pub work_earlier : (fss : List (List Frame)) → map work_of (earlier fss) ≡ earlier (map work_of fss)
work_earlier [] = refl
work_earlier (gs ∷ fss) = refl

-- ---- the first of the tasks

by_first : {T : Type 0} (h : List Task → T) → ((t : Task) (ts us : List Task) → h (t ∷ ts) ≡ h (t ∷ us)) → (f : Frame) (us : List Task)
    → h (tasks_of f ++ us) ≡ h (tasks_of f)
by_first h same f us =
    let some = some_task f in
    ap (λ ts. h (ts ++ us)) some.2 ∙ same some.0 (some.1 ++ us) some.1 ∙ ap h (sym some.2)

pub next_costs : (s : State) (fs us : List Frame) (f : Frame) → fs ≡ us ++ f ∷ [] → pays_for s (tasks_of f) ≡ pays_for s (work_of fs)
next_costs s fs us f e =
    sym (ap (pays_for s) (work_by_last fs us f e) ∙ by_first (pays_for s) (λ t ts vs. refl) f (work_of us))

pub none_costs : (s : State) (fs : List Frame) → length fs ≡ 0 → pays_for s (work_of fs) ≡ false
none_costs s [] h = refl
none_costs s (f ∷ fs) h = absurd (omega (arith, h))

pub next_closes : (fs us : List Frame) (f : Frame) → fs ≡ us ++ f ∷ [] → closes (tasks_of f) ≡ closes (work_of fs)
next_closes fs us f e = sym (ap closes (work_by_last fs us f e) ∙ by_first closes (λ t ts vs. refl) f (work_of us))

pub none_closes : (fs : List Frame) → length fs ≡ 0 → closes (work_of fs) ≡ false
none_closes [] h = refl
none_closes (f ∷ fs) h = absurd (omega (arith, h))

pub some_next : (fs us : List Frame) (f : Frame) → fs ≡ us ++ f ∷ [] → has_work (work_of fs) ≡ true
some_next fs us f e =
    let some = some_task f in
    ap has_work (work_by_last fs us f e ∙ ap (λ ts. ts ++ work_of us) some.2)

pub none_next : (fs : List Frame) → length fs ≡ 0 → has_work (work_of fs) ≡ false
none_next [] h = refl
none_next (f ∷ fs) h = absurd (omega (arith, h))

-- ---- the first of the tasks is taken

pub next_taken : (fs us gs : List Frame) (f : Frame) (t : Task) (ts vs : List Task) → fs ≡ us ++ f ∷ [] → tasks_of f ≡ t ∷ ts
    → gs ≡ take (length fs - 1) fs → vs ≡ ts ++ work_of gs → Takes (work_of fs) vs (Some t)
next_taken fs us gs f t ts vs e h g q =
    let same : gs ≡ us = g ∙ all_but_last fs us f e in
    let left : vs ≡ ts ++ work_of us = q ∙ ap (λ hs. ts ++ work_of hs) same in
    let first : work_of fs ≡ t ∷ ts ++ work_of us = work_by_last fs us f e ∙ ap (λ ws. ws ++ work_of us) h in
    subst (λ ws. Takes ws vs (Some t)) (sym first) (refl, left)

pub none_taken : (fs : List Frame) → length fs ≡ 0 → Takes (work_of fs) (work_of fs) None
none_taken [] h = refl
none_taken (f ∷ fs) h = absurd (omega (arith, h))

takes_task : (s : State) (old new : List Task) (r : Option Task) → s.work ≡ old → Takes old new r → TakesTask s old (record s { work = new }) r
takes_task s [] new None e h = ap (λ (ts : List Task). record s { work = ts }) (h ∙ sym e)
takes_task s [] new (Some u) e h = absurd h
takes_task s (t ∷ ts) new None e h = absurd h
takes_task s (t ∷ ts) new (Some u) e h = (h.0, ap (λ (us : List Task). record s { work = us }) h.1)

pub taken_in : (s : State) (old new : List Task) (r : Result (Option Task) Memory) → s.work ≡ old → IfOk r (λ t. Takes old new t)
    → IfOk r (λ t. TakesTask s s.work (record s { work = new }) t)
taken_in s old new (Ok t) e h = subst (λ (ts : List Task). TakesTask s ts (record s { work = new }) t) (sym e) (takes_task s old new t e h)
taken_in s old new (Err m) e h = h
