-- Cases that begin and end: a check that was owed is told, and for each case that is open a close is owed.
use Rattle.std.specs.Prelude.{◌≡◌, ℕ, suc, Bool, true, false, if◌then◌else◌, List, [], ◌∷◌, ◌++◌, map, length}
use Rattle.std.proofs.Common.{◌∙◌, refl, ap, sym, subst, append_assoc, arith}
use Rattle.std.proofs.lemmas.Grind.{flat_map-append}
use Rattle.std.proofs.lemmas.List.{append-nil}
use Rattle.scasp_list.specs.Each.{Each}
use Rattle.scasp_list.proofs.EachLemmas.{Each-append}
use Rattle.scasp_search_rules.specs.declared.states.covers.Cover.{Cover}
use Rattle.scasp_search_rules.specs.declared.states.covers.Remainder.{Remainder}
use Rattle.scasp_search_rules.specs.declared.states.lines.Line.{Line}
use Rattle.scasp_search_rules.specs.declared.states.lines.Line.TheVariants as line
use Rattle.scasp_search_rules.specs.declared.states.state.Kind.TheVariants.{Matched}
use Rattle.scasp_search_rules.specs.declared.states.state.State.{State}
use Rattle.scasp_search_rules.specs.declared.states.tasks.Task.TheVariants as task
use Rattle.scasp_syntax.specs.Programs.{numbered}
use Rattle.scasp_syntax.specs.declared.clause.FlatItem.{FlatItem}
use Rattle.scasp_syntax.specs.declared.con.Con.{Con}
use Rattle.scasp_syntax.specs.declared.program.Program.{Program}
use Rattle.scasp_search_rules.specs.Successors.Calls.{vars_of_clause}
use Rattle.scasp_search_rules.specs.Successors.Cases.{failing_at, with_items, leaf_at, head_call, with_head, leaves, cases_where, cases_of, cover_for, with_cover, unbound_of, begin_cases, check_clause, line_under, ended_case, remaining, taken_up, after_case, close_case}
use Rattle.scasp_search_rules.specs.Successors.Items.{body_of, with_line}
use Rattle.scasp_search_rules.specs.Successors.Reading.{count_from}
use Rattle.scasp_search_rules.specs.Successors.Regions.{before, context, asked_with}
use Rattle.scasp_search_rules.specs.Successors.Variables.{with_new, next_variable}
use Rattle.scasp_law_outcomes.proofs.Standing.{check_in, checks_in, checks_before, told, told-line, Owed, owed, Stands, Keeps, idle-shows, keeps-line, each-made}

-- what the state keeps where the close of its innermost case is owed beside its work
abbrev Within : List ℕ → State → Type 0
Within all s = Keeps all (before (task.Close ∷ []) s)

-- ---- cases that begin

items-keep : (all : List ℕ) (s : State) (l : Line) (is : List FlatItem) → check_in l ≡ [] → Within all s → Keeps all (with_items s l is)
items-keep all s l is none h =
    let t : State = with_line s l in
    let P : Owed → Type 0 = λ o. Stands all (told t) o (length t.covers) in
    let same : owed ((map task.Show is ++ task.Close ∷ []) ++ s.work) ≡ owed (task.Close ∷ s.work) =
    ap owed (append_assoc (map task.Show is) (task.Close ∷ []) s.work) ∙ idle-shows is (task.Close ∷ s.work) in
    subst P (sym same) (keeps-line all (before (task.Close ∷ []) s) l none h)

head-keep : (all : List ℕ) (s : State) (body head : List FlatItem) → Within all s → Each (Keeps all) (with_head s body head)
head-keep all s body [] h = tt
head-keep all s body (i ∷ is) h = (items-keep all s (line.Head (suc (length body))) (body ++ i ∷ []) refl h, tt)

leaves-keep : (all : List ℕ) (p : Program) (s : State) (c : Cover) → Within all s → Each (Keeps all) (leaves p s c)
leaves-keep all p s c h =
    let body : List FlatItem = body_of p c.clause c.first in
    let head : List FlatItem = head_call (numbered p.clauses c.clause) c.first in
    let ks : List ℕ = count_from 0 (length body) in
    Each-append (Keeps all) (map (leaf_at s body) ks) (if c.checks_head then with_head s body head else [])
    (each-made (Keeps all) (leaf_at s body) (λ k. items-keep all s (line.Leaf (suc k)) (failing_at k body) refl h) ks)
    (by body head c.checks_head)
  where
    by : (body head : List FlatItem) (b : Bool) → Each (Keeps all) (if b then with_head s body head else [])
    by body head true = head-keep all s body head h
    by body head false = tt

where-keep : (all : List ℕ) (b : Bool) (p : Program) (s : State) (c : Cover) → Within all s → Each (Keeps all) (cases_where b p s c)
where-keep all true p s c h = leaves-keep all p s c h
where-keep all false p s c h = (keeps-line all (before (task.Close ∷ []) s) line.Void refl h, tt)

cases-keep : (all : List ℕ) (p : Program) (sat : List Con → Bool) (s : State) (c : Cover) → Within all s → Each (Keeps all) (cases_of p sat s c).states
cases-keep all p sat s c h = where-keep all (sat (asked_with s (context s))) p s c h

-- the lines so far stand before the new case, which has none yet
pub begin-keep : (all : List ℕ) (p : Program) (sat : List Con → Bool) (s : State) (k first : ℕ) (checks_head : Bool) → Keeps all s
    → Each (Keeps all) (begin_cases p sat s k first checks_head).states
begin-keep all p sat s k first checks_head h =
    let c : Cover = cover_for p s k first checks_head (unbound_of s first (vars_of_clause p k)) in
    cases-keep all p sat (with_cover s c) c (record {
      checks = ap (λ (z : List ℕ). z ++ (owed s.work).checks) (append-nil (told s)) ∙ h.checks;
      closes = ap suc h.closes;
    })

pub check-keep : (all : List ℕ) (p : Program) (sat : List Con → Bool) (s : State) (k : ℕ) (checks_head : Bool)
    → Keeps all (before (task.Check k checks_head ∷ []) s) → Each (Keeps all) (check_clause p sat s k checks_head).states
check-keep all p sat s k checks_head h =
    let first : ℕ = next_variable s in
    let t : State = with_new s Matched 0 (vars_of_clause p k) in
    let checks : List ℕ = (owed s.work).checks in
    let now : told (with_line t (line.Check k first)) ++ checks ≡ all =
    ap (λ (z : List ℕ). z ++ checks) (told-line t (line.Check k first)) ∙ append_assoc (told s) (k ∷ []) checks ∙ h.checks in
    begin-keep all p sat (with_line t (line.Check k first)) k first checks_head (record { checks = now; closes = h.closes })

-- ---- cases that end

-- a line checks the same, whatever its variables have become
pub checks_in-mapped : (f : Line → Line) → ((l : Line) → check_in (f l) ≡ check_in l) → (ls : List Line) → checks_in (map f ls) ≡ checks_in ls
checks_in-mapped f same [] = refl
checks_in-mapped f same (l ∷ ls) = ap (λ (z : List ℕ). z ++ checks_in (map f ls)) (same l) ∙ ap (λ (z : List ℕ). check_in l ++ z) (checks_in-mapped f same ls)

pub check_in-under : (s : State) (l : Line) → check_in (line_under s l) ≡ check_in l
check_in-under s (line.Check k first) = refl
check_in-under s l = refl

-- the lines of the case that ends stand behind those before it
told-ended : (s : State) (c : Cover) (cs : List Cover)
    → checks_before cs ++ checks_in (c.before ++ map (line_under s) s.lines) ≡ checks_before (c ∷ cs) ++ checks_in s.lines
told-ended s c cs =
    let lines : checks_in (c.before ++ map (line_under s) s.lines) ≡ checks_in c.before ++ checks_in s.lines =
    flat_map-append check_in c.before (map (line_under s) s.lines)
    ∙ ap (λ (z : List ℕ). checks_in c.before ++ z) (checks_in-mapped (line_under s) (check_in-under s) s.lines) in
    ap (λ (z : List ℕ). checks_before cs ++ z) lines ∙ sym (append_assoc (checks_before cs) (checks_in c.before) (checks_in s.lines))

after-keep : (all : List ℕ) (p : Program) (sat : List Con → Bool) (s : State) (c : Cover) (cs : List Cover) (rs : List Remainder)
    → Stands all (checks_before (c ∷ cs) ++ checks_in s.lines) (owed (task.Close ∷ s.work)) (suc (length cs))
    → Each (Keeps all) (after_case p sat s c cs rs).states
after-keep all p sat s c cs [] h = (
  record {
    checks = ap (λ (z : List ℕ). z ++ (owed s.work).checks) (told-ended s c cs) ∙ h.checks;
    closes = let e : suc (owed s.work).closes ≡ suc (length cs) = h.closes in omega (arith, e);
  },
  tt,
)
after-keep all p sat s c cs (r ∷ rs) h =
    let t : State = ended_case s c r.replaced in
    let d : Cover = remaining c r rs t.cases t.lines in
    cases-keep all p sat (taken_up t r d cs) d (record {
      checks = ap (λ (z : List ℕ). z ++ (owed s.work).checks) (append-nil (checks_before cs ++ checks_in t.lines) ∙ told-ended s c cs) ∙ h.checks;
      closes = h.closes;
    })

pub close-keep : (all : List ℕ) (p : Program) (sat : List Con → Bool) (s : State) (cs : List Cover)
    → Stands all (checks_before cs ++ checks_in s.lines) (owed (task.Close ∷ s.work)) (length cs)
    → Each (Keeps all) (close_case p sat s cs).states
close-keep all p sat s [] h = tt
close-keep all p sat s (c ∷ cs) h = after-keep all p sat s c cs c.waiting h
