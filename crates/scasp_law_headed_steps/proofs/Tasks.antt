-- What tasks keep to, and what a step that opens and closes no case keeps.
use Rattle.std.specs.List.{Contains, list_all}
use Rattle.std.specs.Prelude.{Bool, List, [], false, length, map, nat_eq, true, ℕ, ⊤, ◌++◌, ◌+◌, ◌<◌, ◌||◌, ◌∷◌, ◌≡◌, ◌≤◌, ◌⊎◌}
use Rattle.std.proofs.Common.{ap, append_assoc, inl, inr, refl, subst, sym, ◌∙◌}
use Rattle.std.proofs.lemmas.Bool.{and_parts, or_left}
use Rattle.std.proofs.lemmas.List.{append-nil, map-append}
use Rattle.std.proofs.lemmas.List.Folds.{list_any-append}
use Rattle.scasp_law_first_event.proofs.Firmness.{Firm, FirmIn, Onto, as-many}
use Rattle.scasp_law_first_event.proofs.Terms.{EachVar, each-weaker}
use Rattle.scasp_law_no_circle.proofs.Tasks.{NoRow}
use Rattle.scasp_law_parts.proofs.AgreeLemmas.{join-all, split-all}
use Rattle.scasp_law_sorted.proofs.Numbers.{met-equal}
use Rattle.scasp_list.proofs.EachLemmas.{Each-left}
use Rattle.scasp_list.specs.Each.{Each}
use Rattle.scasp_search_rules.specs.Successors.Calls.{head_args, vars_of_clause}
use Rattle.scasp_search_rules.specs.Successors.Equations.{equations_of}
use Rattle.scasp_search_rules.specs.Successors.Items.{with_line}
use Rattle.scasp_search_rules.specs.Successors.Regions.{before, equation}
use Rattle.scasp_search_rules.specs.Successors.Splits.{is_bound_in}
use Rattle.scasp_search_rules.specs.declared.states.lines.Line.{Line}
use Rattle.scasp_search_rules.specs.declared.states.lines.Line.TheVariants as line
use Rattle.scasp_search_rules.specs.declared.states.state.Literal.{Literal}
use Rattle.scasp_search_rules.specs.declared.states.state.Made.{Made}
use Rattle.scasp_search_rules.specs.declared.states.state.State.{State}
use Rattle.scasp_search_rules.specs.declared.states.tasks.Aim.{Aim}
use Rattle.scasp_search_rules.specs.declared.states.tasks.Aim.TheVariants as aims
use Rattle.scasp_search_rules.specs.declared.states.tasks.Pair.{Pair}
use Rattle.scasp_search_rules.specs.declared.states.tasks.Task.{Task}
use Rattle.scasp_search_rules.specs.declared.states.tasks.Task.TheVariants as task
use Rattle.scasp_syntax.proofs.SameLemmas.{tm_decided}
use Rattle.scasp_syntax.specs.Constraints.{Meets, holds}
use Rattle.scasp_syntax.specs.Same.{same_tm}
use Rattle.scasp_syntax.specs.Tm.{app, num}
use Rattle.scasp_syntax.specs.Values.{Sub, Valuation, all_under, under}
use Rattle.scasp_syntax.specs.View.{tm_of}
use Rattle.scasp_syntax.specs.declared.atom.Atom.{Atom}
use Rattle.scasp_syntax.specs.declared.con.Con.{Con}
use Rattle.scasp_syntax.specs.declared.program.Program.{Program}
use Rattle.scasp_unify.specs.Parts.{occurs_among}
use Rattle.scasp_unify.specs.Resolver.{Equal}
use Rattle.scasp_unify.specs.declared.bindings.Binding.{Binding}
use Rattle.scasp_law_headed_steps.proofs.Assuming.{Kept, KeptAt}
use Rattle.scasp_law_headed_steps.proofs.Bodies.{ItemOf, item-of-weaker}
use Rattle.scasp_law_headed_steps.proofs.Forms.{ConAll, all-con-weaker}
use Rattle.scasp_law_headed_steps.proofs.Heads.{Covers, in_rights}
use Rattle.scasp_law_headed_steps.proofs.Joining.{PairEqual}
use Rattle.scasp_law_headed_steps.proofs.Truths.{RowReads}
use Rattle.scasp_law_headed_steps.specs.Calm.{AreBound, LineHolds, holds_of, left_by, left_of}

module _ (p : Program) where
  -- each variable of the head's clause is bound, or stands there
  abbrev pub AimFits : List Binding → Aim → (ℕ → Bool) → Type 0
  AimFits bs aims.Test there = ⊤
  AimFits bs (aims.Head k first) there = (z : ℕ) → first ≤ z → z < first + vars_of_clause p k → (is_bound_in bs z ≡ true) ⊎ (there z ≡ true)

  -- A line that was told is that of the rule, and where the bindings and E hold the rule's head reads as the line's atom.
  pub record HeadReads (bs : List Binding) (ls : List Line) (k first : ℕ) (E : Sub → Type 0) : Type 0 where
    pub atom : Atom
    pub told : Contains ls (line.Rule atom k first)
    pub reads : (v : Sub) → Each (Equal v) (map equation bs) → E v → all_under v (head_args p k first) ≡ all_under v atom.args

  abbrev pub AimReads : List Binding → List Line → Aim → (Sub → Type 0) → Type 0
  AimReads bs ls aims.Test E = ⊤
  AimReads bs ls (aims.Head k first) E = HeadReads bs ls k first E

  pub aim-reads : (bs cs : List Binding) (ls ms : List Line) (E F : Sub → Type 0) → ((v : Sub) → Each (Equal v) (map equation cs) → Each (Equal v) (map equation bs)) → ((l : Line) → Contains ls l → Contains ms l)
      → ((v : Sub) → Each (Equal v) (map equation cs) → F v → E v) → (aim : Aim) → AimReads bs ls aim E → AimReads cs ms aim F
  aim-reads bs cs ls ms E F b l f aims.Test h = tt
  aim-reads bs cs ls ms E F b l f (aims.Head k first) h = record { atom = h.atom; told = l (line.Rule h.atom k first) h.told; reads = λ v e k. h.reads v (b v e) (f v e k) }

  -- the same state, and more to hold
  pub aim-narrow : (bs : List Binding) (ls : List Line) (E F : Sub → Type 0) → ((v : Sub) → Each (Equal v) (map equation bs) → F v → E v) → (aim : Aim) → AimReads bs ls aim E → AimReads bs ls aim F
  aim-narrow bs ls E F f aim h = aim-reads bs bs ls ls E F (λ v e. e) (λ l i. i) f aim h

  abbrev pub TaskFits : List Made → List Binding → List Line → Task → Type 0
  TaskFits made bs ls (task.Show i) = ItemOf (FirmIn made bs) i
  TaskFits made bs ls (task.Equate t u) = ⊤
  TaskFits made bs ls (task.Assume c) = ConAll (FirmIn made bs) c × NoRow c
  TaskFits made bs ls (task.Differ ps aim) = AimFits bs aim (in_rights ps) × AimReads bs ls aim (λ v. Each (PairEqual v) ps)
  TaskFits made bs ls (task.Become x t ps aim) =
      FirmIn made bs x × EachVar (FirmIn made bs) (tm_of t) × AimFits bs aim (in_rights ps) × AimReads bs ls aim (λ v. (v x ≡ under v (tm_of t)) × Each (PairEqual v) ps)
  TaskFits made bs ls (task.Avoid x q ps aim) = FirmIn made bs x × AimFits bs aim (in_rights ps) × AimReads bs ls aim (λ v. (v x ≡ num q) × Each (PairEqual v) ps)
  TaskFits made bs ls (task.Shape x f us ps aim) =
      FirmIn made bs x × AimFits bs aim (λ z. occurs_among z us || in_rights ps z) × AimReads bs ls aim (λ v. (v x ≡ app f (all_under v us)) × Each (PairEqual v) ps)
  TaskFits made bs ls (task.Cover a k) = Covers p a k
  TaskFits made bs ls (task.Check k checks_head) = vars_of_clause p k ≡ 0
  TaskFits made bs ls (task.Begin k first checks_head) = AreBound p bs k first × HeadReads bs ls k first (λ v. ⊤)
  TaskFits made bs ls task.Void = ⊤
  TaskFits made bs ls task.Leave = ⊤
  TaskFits made bs ls task.Close = ⊤

  -- ---- later states

  pub aim-later : (bs cs : List Binding) → ((z : ℕ) → is_bound_in bs z ≡ true → is_bound_in cs z ≡ true) → (aim : Aim) (there : ℕ → Bool) → AimFits bs aim there → AimFits cs aim there
  aim-later bs cs f aims.Test there h = tt
  aim-later bs cs f (aims.Head k first) there h = λ z l m. by z (h z l m)
    where
      by : (z : ℕ) → (is_bound_in bs z ≡ true) ⊎ (there z ≡ true) → (is_bound_in cs z ≡ true) ⊎ (there z ≡ true)
      by z (inl e) = inl (f z e)
      by z (inr e) = inr e

  module _ (s r : State) (o : Onto s r) (more : (z : ℕ) → is_bound_in s.bound z ≡ true → is_bound_in r.bound z ≡ true) (equal : (v : Sub) → Each (Equal v) (map equation r.bound) → Each (Equal v) (map equation s.bound))
      (longer : (l : Line) → Contains s.lines l → Contains r.lines l) where
    reads-later : (E : Sub → Type 0) (aim : Aim) → AimReads s.bound s.lines aim E → AimReads r.bound r.lines aim E
    reads-later E aim h = aim-reads s.bound r.bound s.lines r.lines E E equal longer (λ v e f. f) aim h

    pub task-later : (t : Task) → TaskFits s.made s.bound s.lines t → TaskFits r.made r.bound r.lines t
    task-later (task.Show i) h = item-of-weaker (Firm s) (Firm r) o.firm i h
    task-later (task.Equate t u) h = tt
    task-later (task.Assume c) h = (all-con-weaker (Firm s) (Firm r) o.firm c h.0, h.1)
    task-later (task.Differ ps aim) h = (aim-later s.bound r.bound more aim (in_rights ps) h.0, reads-later (λ v. Each (PairEqual v) ps) aim h.1)
    task-later (task.Become x t ps aim) h = (o.firm x h.0, each-weaker (Firm s) (Firm r) o.firm (tm_of t) h.1, aim-later s.bound r.bound more aim (in_rights ps) h.2, reads-later (λ v. (v x ≡ under v (tm_of t)) × Each (PairEqual v) ps) aim h.3)
    task-later (task.Avoid x q ps aim) h = (o.firm x h.0, aim-later s.bound r.bound more aim (in_rights ps) h.1, reads-later (λ v. (v x ≡ num q) × Each (PairEqual v) ps) aim h.2)
    task-later (task.Shape x f us ps aim) h = (o.firm x h.0, aim-later s.bound r.bound more aim (λ z. occurs_among z us || in_rights ps z) h.1, reads-later (λ v. (v x ≡ app f (all_under v us)) × Each (PairEqual v) ps) aim h.2)
    task-later (task.Cover a k) h = h
    task-later (task.Check k checks_head) h = h
    task-later (task.Begin k first checks_head) h = ((λ z l m. more z (h.0 z l m)), reads-later (λ v. ⊤) (aims.Head k first) h.1)
    task-later task.Void h = tt
    task-later task.Leave h = tt
    task-later task.Close h = tt

-- ---- what was told

-- a test that was told holds, and its row reads
abbrev pub Tells : List Con → Line → Type 0
Tells cs (line.Test c) = (v : Valuation) → Meets v.of cs → (holds v.of c ≡ true) × RowReads v.of c
Tells cs (line.Split c parts) = ⊥
Tells cs (line.Pos a k ts n) = ⊤
Tells cs (line.Neg a n) = ⊤
Tells cs (line.Loop l at) = ⊤
Tells cs (line.Seen l at) = ⊤
Tells cs (line.Rule a k first) = ⊤
Tells cs (line.Check k first) = ⊤
Tells cs line.Void = ⊤
Tells cs (line.Leaf k) = ⊤
Tells cs (line.Head n) = ⊤

pub tells-more : (cs ds : List Con) → ((v : Valuation) → Meets v.of ds → Meets v.of cs) → (l : Line) → Tells cs l → Tells ds l
tells-more cs ds f (line.Test c) h = λ v m. h v (f v m)
tells-more cs ds f (line.Split c parts) h = absurd h
tells-more cs ds f (line.Pos a k ts n) h = tt
tells-more cs ds f (line.Neg a n) h = tt
tells-more cs ds f (line.Loop l at) h = tt
tells-more cs ds f (line.Seen l at) h = tt
tells-more cs ds f (line.Rule a k first) h = tt
tells-more cs ds f (line.Check k first) h = tt
tells-more cs ds f line.Void h = tt
tells-more cs ds f (line.Leaf k) h = tt
tells-more cs ds f (line.Head n) h = tt

pub tells-hold : (cs : List Con) (l : Line) → Tells cs l → LineHolds cs l
tells-hold cs (line.Test c) h = λ v m. (h v m).0
tells-hold cs (line.Split c parts) h = absurd h
tells-hold cs (line.Pos a k ts n) h = tt
tells-hold cs (line.Neg a n) h = tt
tells-hold cs (line.Loop l at) h = tt
tells-hold cs (line.Seen l at) h = tt
tells-hold cs (line.Rule a k first) h = tt
tells-hold cs (line.Check k first) h = tt
tells-hold cs line.Void h = tt
tells-hold cs (line.Leaf k) h = tt
tells-hold cs (line.Head n) h = tt

-- ---- steps that open and close no case

abbrev pub Named : Literal → Type 0
Named a = a.is_general ≡ false

-- The task is done in s, whose work is the rest, and r is what comes of it.
pub record Moves (p : Program) (s : State) (t : Task) (r : State) : Type 0 where
  pub onto : Onto s r
  pub more_bound : List Binding
  pub bound : r.bound ≡ s.bound ++ more_bound
  pub more_given : List Con
  pub given : r.given ≡ s.given ++ more_given
  pub kept : Kept r
  pub covers : r.covers ≡ s.covers
  pub named : Each Named s.literals → Each Named r.literals
  pub tasks : List Task
  pub work : r.work ≡ tasks ++ s.work
  pub fit : Each (TaskFits p r.made r.bound r.lines) tasks
  pub shows : (v : Valuation) → Meets v.of (holds_of r ++ left_of tasks) → Meets v.of (left_by t)
  pub more_lines : List Line
  pub lines : r.lines ≡ s.lines ++ more_lines
  pub told : Each (Tells (holds_of r ++ left_of tasks)) more_lines

-- where nothing more is made or bound
pub settles : (p : Program) (s : State) (t : Task) (gs : List Con) (G : List Con) → G ≡ s.given ++ gs → KeptAt s.made s.bound G s.covers → (xs : List Literal) → (Each Named s.literals → Each Named xs)
    → (ls : List Line) (L : List Line) → L ≡ s.lines ++ ls → (ts : List Task) (W : List Task) → W ≡ ts ++ s.work → Each (TaskFits p s.made s.bound L) ts
    → ((v : Valuation) → Meets v.of ((map equation s.bound ++ G) ++ left_of ts) → Meets v.of (left_by t)) → Each (Tells ((map equation s.bound ++ G) ++ left_of ts)) ls
    → Moves p s t (record s { given = G; literals = xs; lines = L; work = W })
settles p s t gs G g kept xs named ls L l ts W w fit shows told = record {
  onto = record { more = as-many (length s.made); kinded = (λ z k. k); firm = (λ z k. k) };
  more_bound = [];
  bound = sym (append-nil s.bound);
  more_given = gs;
  given = g;
  kept = kept;
  covers = refl;
  named = named;
  tasks = ts;
  work = w;
  fit = fit;
  shows = shows;
  more_lines = ls;
  lines = l;
  told = told;
}

-- these tasks in front
pub before-moves : (p : Program) (s : State) (t : Task) → left_by t ≡ [] → Kept s → (ts : List Task) → Each (TaskFits p s.made s.bound s.lines) ts → Moves p s t (before ts s)
before-moves p s t e h ts f =
    settles p s t [] s.given (sym (append-nil s.given)) h s.literals (λ k. k) [] s.lines (sym (append-nil s.lines)) ts (ts ++ s.work) refl f
    (λ v m. subst (λ (cs : List Con). Meets v.of cs) (sym e) refl) tt

-- with one more line, of which nothing is said
pub line-moves : (p : Program) (s : State) (t : Task) → left_by t ≡ [] → Kept s → (l : Line) → ((cs : List Con) → Tells cs l) → Moves p s t (with_line s l)
line-moves p s t e h l f =
    settles p s t [] s.given (sym (append-nil s.given)) h s.literals (λ k. k) (l ∷ []) (s.lines ++ l ∷ []) refl [] s.work refl tt
    (λ v m. subst (λ (cs : List Con). Meets v.of cs) (sym e) refl) (f (holds_of s ++ []), tt)

-- ---- what holds in both

-- what makes the later bindings equal makes the earlier ones so
pub equal-earlier : (s r : State) (more : List Binding) → r.bound ≡ s.bound ++ more → (v : Sub) → Each (Equal v) (map equation r.bound) → Each (Equal v) (map equation s.bound)
equal-earlier s r more b v h =
    Each-left (Equal v) (map equation s.bound) (map equation more) (subst (Each (Equal v)) (ap (map equation) b ∙ map-append equation s.bound more) h)

-- what meets the list makes the bindings equal
pub equal-met : (s : State) (v : Sub) → Meets v (holds_of s) → Each (Equal v) (map equation s.bound)
equal-met s v m = met-equal v s.bound (split-all (holds v) (map equation s.bound) s.given m).0

pub bound-more : (bs more : List Binding) (z : ℕ) → is_bound_in bs z ≡ true → is_bound_in (bs ++ more) z ≡ true
bound-more bs more z e = list_any-append (λ (b : Binding). nat_eq b.x z) bs more ∙ or_left (is_bound_in bs z) (is_bound_in more z) e

-- what meets the later list meets the earlier one
pub meets-earlier : (bs more : List Binding) (gs hs : List Con) (v : Sub) → Meets v (map equation (bs ++ more) ++ (gs ++ hs)) → Meets v (map equation bs ++ gs)
meets-earlier bs more gs hs v m =
    let p = split-all (holds v) (map equation (bs ++ more)) (gs ++ hs) m in
    let q = split-all (holds v) (map equation bs) (map equation more) (ap (list_all (holds v)) (sym (map-append equation bs more)) ∙ p.0) in
    join-all (holds v) (map equation bs) gs q.0 (split-all (holds v) gs hs p.1).0

pub meets-before : (s r : State) (more : List Binding) (given : List Con) → r.bound ≡ s.bound ++ more → r.given ≡ s.given ++ given → (v : Sub) → Meets v (holds_of r) → Meets v (holds_of s)
meets-before s r more given b g v m = meets-earlier s.bound more s.given given v (subst (λ (bs : List Binding). Meets v (map equation bs ++ (s.given ++ given))) b (subst (λ (gs : List Con). Meets v (map equation r.bound ++ gs)) g m))

pub left-append : (ts us : List Task) → left_of (ts ++ us) ≡ left_of ts ++ left_of us
left-append [] us = refl
left-append (t ∷ ts) us = ap (λ (cs : List Con). left_by t ++ cs) (left-append ts us) ∙ sym (append_assoc (left_by t) (left_of ts) (left_of us))

pub left-equal : (v : Sub) (ps : List Pair) → list_all (holds v) (left_of (equations_of ps)) ≡ true → Each (PairEqual v) ps
left-equal v [] e = tt
left-equal v (o ∷ ps) e =
    let q = and_parts (same_tm (under v (tm_of o.left)) (under v (tm_of o.right))) (list_all (holds v) (left_of (equations_of ps))) e in
    ((tm_decided (under v (tm_of o.left)) (under v (tm_of o.right))).0 q.0, left-equal v ps q.1)

pub equations-fit : (p : Program) (made : List Made) (bs : List Binding) (ls : List Line) (ps : List Pair) → Each (TaskFits p made bs ls) (equations_of ps)
equations-fit p made bs ls [] = tt
equations-fit p made bs ls (o ∷ ps) = (tt, equations-fit p made bs ls ps)
