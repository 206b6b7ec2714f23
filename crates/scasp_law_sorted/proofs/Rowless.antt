-- States without rows: what is assumed, and what a case is parted by, makes none.
use Rattle.std.specs.Prelude.{◌≡◌, ℕ, zero, suc, nat_eq, Bool, true, false, not, if◌then◌else◌, Option, Some, None, List, [], ◌∷◌, ◌++◌, map, reverse, ⊤}
use Rattle.std.specs.List.{Contains, flat_map}
use Rattle.std.proofs.Common.{refl, sym, subst, ◌∙◌, inl, inr, ◌⊎◌}
use Rattle.std.proofs.lemmas.Bool.{true≢false}
use Rattle.std.proofs.lemmas.List.{reverse-append}
use Rattle.std.proofs.lemmas.List.Elements.{Contains-append_cases}
use Rattle.scasp_list.specs.Each.{Each}
use Rattle.scasp_list.proofs.EachLemmas.{Each-append, Each-map}
use Rattle.scasp_list.proofs.MemberLemmas.{Contains-from_map, list_all-from}
use Rattle.scasp_search_rules.specs.declared.states.covers.Cover.{Cover}
use Rattle.scasp_search_rules.specs.declared.states.lines.Line.{Line}
use Rattle.scasp_search_rules.specs.declared.states.lines.Line.TheVariants as line
use Rattle.scasp_search_rules.specs.declared.states.outcomes.Parting.{Parting}
use Rattle.scasp_search_rules.specs.declared.states.outcomes.Status.{Status}
use Rattle.scasp_search_rules.specs.declared.states.outcomes.Status.TheVariants.{Entailed, Impossible, Added, Parts}
use Rattle.scasp_search_rules.specs.declared.states.state.State.{State}
use Rattle.scasp_search_rules.specs.declared.states.tasks.Task.{Task}
use Rattle.scasp_search_rules.specs.declared.states.tasks.Task.TheVariants as task
use Rattle.scasp_search_rules.specs.Successors.Assumptions.{against, along, as_read, asked_for, assume, assume_all, judges, performed, status}
use Rattle.scasp_search_rules.specs.Successors.Falls.{EachState}
use Rattle.scasp_search_rules.specs.Successors.Reading.{con_under, holds_always, not_shaped, term_under}
use Rattle.scasp_search_rules.specs.Successors.Regions.{context, equation, regions}
use Rattle.scasp_search_rules.specs.Successors.Splits.{at_depth, cover_parted, equation_parting, owner, parted, shape_line, split, split_at}
use Rattle.scasp_search_rules.specs.Successors.Variables.{is_empty, meaning, next_variable, universals_of}
use Rattle.scasp_syntax.specs.Constraints.{has_shape}
use Rattle.scasp_syntax.specs.Same.{same_tm}
use Rattle.scasp_syntax.specs.Tm.{Tm, Tms, var, num, app, nil, cons}
use Rattle.scasp_syntax.specs.Values.{Sub}
use Rattle.scasp_syntax.specs.View.{tm_of}
use Rattle.scasp_syntax.specs.declared.clause.FlatItem.{FlatItem}
use Rattle.scasp_syntax.specs.declared.clause.FlatItem.TheVariants as flat
use Rattle.scasp_syntax.specs.declared.con.Con.{Con}
use Rattle.scasp_syntax.specs.declared.con.Con.TheVariants as con
use Rattle.scasp_syntax.specs.declared.term.Term.{Term}
use Rattle.scasp_syntax.specs.declared.term.Term.TheVariants.{Var, Num, App}
use Rattle.scasp_syntax.proofs.SameLemmas.{tm_decided}
use Rattle.scasp_unify.specs.Negations.{negated, new_parts}
use Rattle.scasp_unify.specs.Parts.{Part, parts}
use Rattle.scasp_unify.specs.SimpleForm.{by_parts, one_part, simple, term_with}
use Rattle.scasp_unify.specs.Sorted.{Sorted, typed, is_typed_con}
use Rattle.scasp_unify.specs.declared.bindings.Binding.{Binding}
use Rattle.scasp_unify.proofs.Members.{Each-member}
use Rattle.scasp_law_no_circle.proofs.Tasks.{NoRow}
use Rattle.scasp_law_sorted.proofs.Assuming.{plain-negated, plain-read}
use Rattle.scasp_law_sorted.proofs.Evenness.{Asks, asks-goes, asks-followed}
use Rattle.scasp_law_sorted.proofs.Lists.{typed-plain}

-- ---- states

-- neither a row nor an equation
abbrev pub GivenPlain : Con → Type 0
GivenPlain (con.Row r) = ⊥
GivenPlain (con.Eq t u) = ⊥
GivenPlain (con.Neq t u) = ⊤
GivenPlain (con.NotShape x f n) = ⊤
GivenPlain (con.Num t) = ⊤
GivenPlain (con.NotNum t) = ⊤

pub given-no_row : (c : Con) → GivenPlain c → NoRow c
given-no_row (con.Row r) h = absurd h
given-no_row (con.Eq t u) h = tt
given-no_row (con.Neq t u) h = tt
given-no_row (con.NotShape x f n) h = tt
given-no_row (con.Num t) h = tt
given-no_row (con.NotNum t) h = tt

pub all-no_row : (gs : List Con) → Each GivenPlain gs → Each NoRow gs
all-no_row gs h = Each-map GivenPlain NoRow given-no_row gs h

abbrev pub LineRowless : Line → Type 0
LineRowless (line.Test c) = NoRow c
LineRowless (line.Split c parts) = NoRow c
LineRowless (line.Pos a k ts n) = ⊤
LineRowless (line.Neg a n) = ⊤
LineRowless (line.Loop l at) = ⊤
LineRowless (line.Seen l at) = ⊤
LineRowless (line.Rule a k first) = ⊤
LineRowless (line.Check k first) = ⊤
LineRowless line.Void = ⊤
LineRowless (line.Leaf k) = ⊤
LineRowless (line.Head n) = ⊤

abbrev pub CoverRowless : Cover → Type 0
CoverRowless c = Each NoRow c.region × Each (λ r. Each NoRow r.region) c.waiting × Each LineRowless c.before

abbrev pub ItemRowless : FlatItem → Type 0
ItemRowless (flat.Call l) = ⊤
ItemRowless (flat.Test c) = NoRow c

abbrev pub TaskRowless : Task → Type 0
TaskRowless (task.Show i) = ItemRowless i
TaskRowless (task.Assume c) = GivenPlain c
TaskRowless (task.Equate t u) = ⊤
TaskRowless (task.Differ ps aim) = ⊤
TaskRowless (task.Become x t ps aim) = ⊤
TaskRowless (task.Avoid x q ps aim) = ⊤
TaskRowless (task.Shape x f ts ps aim) = ⊤
TaskRowless (task.Cover a k) = ⊤
TaskRowless (task.Check k checks_head) = ⊤
TaskRowless (task.Begin k first checks_head) = ⊤
TaskRowless task.Void = ⊤
TaskRowless task.Leave = ⊤
TaskRowless task.Close = ⊤

pub record RowlessAt (gs : List Con) (cs : List Cover) (ws : List Task) (ls : List Line) : Type 0 where
  pub given : Each GivenPlain gs
  pub covers : Each CoverRowless cs
  pub work : Each TaskRowless ws
  pub lines : Each LineRowless ls

-- nothing that is given, that holds in a case or waits, and nothing that is to be shown, is a row; and nothing that is given is an equation
abbrev pub Rowless : State → Type 0
Rowless s = RowlessAt s.given s.covers s.work s.lines

pub front : (ts : List Task) → Each TaskRowless ts → (gs : List Con) (cs : List Cover) (ws : List Task) (ls : List Line) → RowlessAt gs cs ws ls → RowlessAt gs cs (ts ++ ws) ls
front ts h gs cs ws ls e = record { given = e.given; covers = e.covers; work = Each-append TaskRowless ts ws h e.work; lines = e.lines }

pub lined : (l : Line) → LineRowless l → (gs : List Con) (cs : List Cover) (ws : List Task) (ls : List Line) → RowlessAt gs cs ws ls → RowlessAt gs cs ws (ls ++ l ∷ [])
lined l h gs cs ws ls e = record { given = e.given; covers = e.covers; work = e.work; lines = Each-append LineRowless ls (l ∷ []) e.lines (h, tt) }

-- ---- lists

-- a list without rows is sorted
pub rowless-sorted : (bs : List Binding) (gs : List Con) → Each NoRow gs → Sorted (map equation bs ++ gs)
rowless-sorted bs gs h = typed (list_all-from (is_typed_con (map equation bs ++ gs)) (map equation bs ++ gs) (λ d i. typed-plain (map equation bs ++ gs) d (by d (Contains-append_cases (map equation bs) gs d i))))
  where
    plain-equation : (b : Binding) → NoRow (equation b)
    plain-equation b = tt

    by : (d : Con) → Contains (map equation bs) d ⊎ Contains gs d → NoRow d
    by d (inl i) = let o = Contains-from_map equation bs d i in subst NoRow o.2 (plain-equation o.0)
    by d (inr i) = Each-member NoRow gs d h i

covers-reverse : (cs : List Cover) → Each CoverRowless cs → Each CoverRowless (reverse cs)
covers-reverse [] h = tt
covers-reverse (c ∷ cs) h = subst (Each CoverRowless) (sym (reverse-append (c ∷ []) cs)) (Each-append CoverRowless (reverse cs) (c ∷ []) (covers-reverse cs h.1) (h.0, tt))

regions-of : (cs : List Cover) → Each CoverRowless cs → Each NoRow (flat_map (λ c. c.region) cs)
regions-of [] h = tt
regions-of (c ∷ cs) h = Each-append NoRow c.region (flat_map (λ c. c.region) cs) h.0.0 (regions-of cs h.1)

pub context-rowless : (s : State) → Rowless s → Each NoRow (context s)
context-rowless s e = Each-append NoRow s.given (regions s.covers) (all-no_row s.given e.given) (regions-of (reverse s.covers) (covers-reverse s.covers e.covers))

-- ---- splits

abbrev PartingRowless : Parting → Type 0
PartingRowless p = NoRow p.here × NoRow p.there × NoRow p.line

equation-parted : (t u : Term) → PartingRowless (equation_parting t u)
equation-parted (Var x) (App f ts) = (tt, tt, tt)
equation-parted (Var x) (Var y) = (tt, tt, tt)
equation-parted (Var x) (Num q) = (tt, tt, tt)
equation-parted (Num q) t = (tt, tt, tt)
equation-parted (App f ts) t = (tt, tt, tt)

shape-lined : (x f n : ℕ) (ts : Tms) → NoRow (shape_line x f n ts)
shape-lined x f zero ts = tt
shape-lined x f (suc n) ts = tt

parted-rowless : (k : ℕ) (c : Con) → NoRow c → PartingRowless (parted k c)
parted-rowless k (con.Row r) n = absurd n
parted-rowless k (con.Eq t u) n = equation-parted t u
parted-rowless k (con.NotShape x f j) n = (tt, tt, shape-lined x f j (new_parts k j))
parted-rowless k (con.Neq t u) n = (tt, tt, tt)
parted-rowless k (con.Num t) n = (tt, tt, tt)
parted-rowless k (con.NotNum t) n = (tt, tt, tt)

parted-covers : (p : Parting) → PartingRowless p → (bound : List Binding) (d : ℕ) (cs : List Cover) → Each CoverRowless cs → Each CoverRowless (at_depth d (cover_parted p bound) cs)
parted-covers p n bound d [] h = tt
parted-covers p n bound d (c ∷ cs) h = (by (nat_eq c.depth d), parted-covers p n bound d cs h.1)
  where
    by : (b : Bool) → CoverRowless (if b then cover_parted p bound c else c)
    by true = (
      Each-append NoRow c.region (p.here ∷ []) h.0.0 (n.0, tt),
      (Each-append NoRow c.region (p.there ∷ []) h.0.0 (n.1, tt), h.0.1),
      Each-append LineRowless c.before (line.Split p.line (p.parts_here ++ p.parts_there) ∷ []) h.0.2 (n.2, tt),
    )
    by false = h.0

pub split-at-rowless : (s : State) (d : ℕ) (c : Con) → NoRow c → Rowless s → Rowless (split_at s d c)
split-at-rowless s d c n e = record { given = e.given; covers = parted-covers (parted (next_variable s) c) (parted-rowless (next_variable s) c n) s.bound d s.covers e.covers; work = e.work; lines = e.lines }

split-rowless : (s : State) (c : Con) → NoRow c → Rowless s → Rowless (split s c)
split-rowless s (con.Row r) n e = absurd n
split-rowless s (con.Eq t u) n e = split-at-rowless s (owner s (con.Eq t u)) (con.Eq t u) n e
split-rowless s (con.Neq t u) n e = split-at-rowless s (owner s (con.Neq t u)) (con.Neq t u) n e
split-rowless s (con.NotShape x f k) n e = split-at-rowless s (owner s (con.NotShape x f k)) (con.NotShape x f k) n e
split-rowless s (con.Num t) n e = split-at-rowless s (owner s (con.Num t)) (con.Num t) n e
split-rowless s (con.NotNum t) n e = split-at-rowless s (owner s (con.NotNum t)) (con.NotNum t) n e

-- ---- what is given reads so

given-part : (p : Part) (t : Tm) → GivenPlain (one_part p t)
given-part p (app f nil) = tt
given-part p (app f (cons t ts)) = tt
given-part p (num q) = tt
given-part p (var y) = tt

pub given-parts : (t u : Term) (o : Option (List Part)) → GivenPlain (by_parts (con.Neq t u) o)
given-parts t u None = tt
given-parts t u (Some []) = tt
given-parts t u (Some (p ∷ [])) = given-part p p.term
given-parts t u (Some (p ∷ q ∷ ps)) = tt

-- unless it holds whatever its variables stand for
pub given-read : (v : Sub) (c : Con) → GivenPlain c → holds_always (simple (con_under v c)) ≡ false → GivenPlain (simple (con_under v c))
given-read v (con.Row r) h e = absurd h
given-read v (con.Eq t u) h e = absurd h
given-read v (con.Neq t u) h e = given-parts (term_under v t) (term_under v u) (parts (tm_of (term_under v t)) (tm_of (term_under v u)))
given-read v (con.Num t) h e = tt
given-read v (con.NotNum t) h e = tt
given-read v (con.NotShape x f n) h e = by (v x) e
  where
    itself : (t : Tm) → same_tm t t ≡ true
    itself t = (tm_decided t t).1 refl

    by : (t : Tm) → holds_always (simple (not_shaped t f n)) ≡ false → GivenPlain (simple (not_shaped t f n))
    by (var y) g = tt
    by (num q) g = absurd (true≢false (sym (itself (num q)) ∙ g))
    by (app k us) g = shaped (has_shape f n (app k us)) g
      where
        shaped : (b : Bool) → holds_always (simple (if b then con.Neq (term_with (app k us)) (term_with (app k us)) else con.Eq (term_with (app k us)) (term_with (app k us)))) ≡ false
            → GivenPlain (simple (if b then con.Neq (term_with (app k us)) (term_with (app k us)) else con.Eq (term_with (app k us)) (term_with (app k us))))
        shaped true j = given-parts (term_with (app k us)) (term_with (app k us)) (parts (tm_of (term_with (app k us))) (tm_of (term_with (app k us))))
        shaped false j = absurd (true≢false (sym (itself (app k us)) ∙ j))

added-open : (i j k l : Bool) → (if i then Entailed else (if not j then Entailed else (if not k then Impossible else (if l then Added else Parts)))) ≡ Added → i ≡ false
added-open true j k l e = absurd (cc e)
added-open false j k l e = refl

-- ---- assuming

module _ (sat : List Con → Bool) (s : State) (e : Rowless s) (c : Con) (n : GivenPlain c) where
  judges-rowless : Each NoRow (judges s c)
  judges-rowless = by (is_empty (universals_of s c))
    where
      by : (b : Bool) → Each NoRow (if b then s.given else context s)
      by true = all-no_row s.given e.given
      by false = context-rowless s e

  pub rowless-asked : Each Sorted (asked_for sat s c)
  rowless-asked = by (holds_always (as_read s c)) (sat (against s c))
    where
      one : Sorted (against s c)
      one = rowless-sorted s.bound (judges s c ++ negated (next_variable s) c ∷ []) (Each-append NoRow (judges s c) (negated (next_variable s) c ∷ []) judges-rowless (plain-negated (next_variable s) c (given-no_row c n), tt))

      two : Sorted (along s c)
      two = rowless-sorted s.bound (judges s c ++ c ∷ []) (Each-append NoRow (judges s c) (c ∷ []) judges-rowless (given-no_row c n, tt))

      by : (i j : Bool) → Each Sorted (if i then [] else (if j then against s c ∷ along s c ∷ [] else against s c ∷ []))
      by true j = tt
      by false true = (one, (two, tt))
      by false false = (one, tt)

  pub rowless-assumed : Asks Rowless (assume sat s c)
  rowless-assumed = record { asked = rowless-asked; states = by (status sat s c) refl }
    where
      read : status sat s c ≡ Added → GivenPlain (as_read s c)
      read f = given-read (meaning s) c n (added-open (holds_always (as_read s c)) (sat (against s c)) (sat (along s c)) (is_empty (universals_of s c)) f)

      by : (o : Status) → status sat s c ≡ o → EachState Rowless (performed s (as_read s c) o)
      by Entailed f = (e, tt)
      by Impossible f = tt
      by Added f = (record { given = Each-append GivenPlain s.given (as_read s c ∷ []) e.given (read f, tt); covers = e.covers; work = e.work; lines = e.lines }, tt)
      by Parts f = (split-rowless s (as_read s c) (plain-read s c (given-no_row c n)) e, tt)

pub all-rowless : (sat : List Con → Bool) (cs : List Con) → Each GivenPlain cs → (s : State) → Rowless s → Asks Rowless (assume_all sat cs s)
all-rowless sat [] n s e = asks-goes Rowless s e
all-rowless sat (c ∷ cs) n s e = asks-followed Rowless Rowless (assume sat s c) (assume_all sat cs) (rowless-assumed sat s e c n.0) (λ r k. all-rowless sat cs n.1 r k)
