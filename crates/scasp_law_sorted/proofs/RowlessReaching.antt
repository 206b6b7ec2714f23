-- Without linear items each state that comes of the start is without rows, and so is what is given in its certificate.
use Rattle.std.specs.Prelude.{◌≡◌, ℕ, ◌+◌, max, Bool, true, false, not, List, [], ◌∷◌, ◌++◌, filter, if◌then◌else◌, map}
use Rattle.std.specs.List.{flat_map, list_all}
use Rattle.std.proofs.Common.{refl}
use Rattle.std.proofs.lemmas.Bool.{and_parts}
use Rattle.scasp_cert.specs.Certificate.{Certificate}
use Rattle.scasp_cert.specs.Lines.{lines_below}
use Rattle.scasp_cert.specs.Trees.{Tree, Branch, pos_tree, neg_tree, loop_tree, seen_tree, test_tree, split, void, leaf, head, listed}
use Rattle.scasp_checker_rules.specs.PairLists.{above_all, above_cons, con_raised, equal_args, pair_list, raising}
use Rattle.scasp_checker_rules.specs.Pairs.{all_pairs, is_pair}
use Rattle.scasp_checker_rules.specs.SameConstraint.{same_con}
use Rattle.scasp_checker_rules.specs.Told.{Told, all_told, told_at, told_by_node, told_by_part}
use Rattle.scasp_lines.specs.Contexts.{context}
use Rattle.scasp_lines.specs.Dues.{query_dues}
use Rattle.scasp_lines.specs.Lines.{free_of, lines, query_walk, setting}
use Rattle.scasp_lines.specs.Opened.{Opened}
use Rattle.scasp_lines.specs.Places.{Place, start as place}
use Rattle.scasp_lines.specs.Walk.{Part, of_node, of_rule, of_check, of_case, Setting, Line as Walked}
use Rattle.scasp_lines.specs.Determined.{not_shape}
use Rattle.scasp_hint.specs.AskedRows.{RowsNormal}
use Rattle.scasp_list.specs.Each.{Each}
use Rattle.scasp_list.proofs.EachLemmas.{Each-append, Each-filter, Each-from_test, Each-map}
use Rattle.scasp_nmr.specs.declared.items.CheckItem.{CheckItem}
use Rattle.scasp_project.specs.Meaning.{IsNoEquation}
use Rattle.scasp_search_rules.specs.declared.states.lines.Line.{Line}
use Rattle.scasp_search_rules.specs.declared.states.lines.Line.TheVariants as line
use Rattle.scasp_search_rules.specs.declared.states.state.State.{State}
use Rattle.scasp_search_rules.specs.declared.states.tasks.Task.{Task}
use Rattle.scasp_search_rules.specs.declared.states.tasks.Task.TheVariants as task
use Rattle.scasp_search_rules.specs.Successors.Answers.{case_lists, certificate_at, given_lines, hint_lists, node_lists, once, pair_lists, part_lists}
use Rattle.scasp_search_rules.specs.Successors.Cases.{line_under}
use Rattle.scasp_search_rules.specs.Successors.Numbering.{con_or, con_renamed, free_variables, line_renamed, placing, universal_variables}
use Rattle.scasp_search_rules.specs.Successors.Problems.{Problem}
use Rattle.scasp_search_rules.specs.Successors.Reading.{con_under, holds_always}
use Rattle.scasp_search_rules.specs.Successors.Regions.{givens}
use Rattle.scasp_search_rules.specs.Successors.Search.{asked_by, search_for, start, step}
use Rattle.scasp_search_rules.specs.Successors.Trees.{built, literal_lines}
use Rattle.scasp_search_rules.specs.Successors.Variables.{meaning}
use Rattle.scasp_syntax.specs.Flat.{flat_body}
use Rattle.scasp_syntax.specs.Programs.{numbered}
use Rattle.scasp_syntax.specs.Tm.{Tm, Tms, var, num, app, nil, cons}
use Rattle.scasp_syntax.specs.Values.{Sub, all_under, under}
use Rattle.scasp_syntax.specs.View.{tm_of}
use Rattle.scasp_syntax.specs.declared.program.Program.{Program}
use Rattle.scasp_syntax.specs.declared.clause.Clause.{Clause}
use Rattle.scasp_syntax.specs.declared.clause.Query.{Query}
use Rattle.scasp_syntax.specs.declared.con.Con.{Con}
use Rattle.scasp_syntax.specs.declared.con.Con.TheVariants as con
use Rattle.scasp_unify.specs.Negations.{negated, new_parts}
use Rattle.scasp_unify.specs.Parts.{parts}
use Rattle.scasp_unify.specs.SimpleForm.{differ, simple, term_with}
use Rattle.scasp_unify.specs.Sorted.{Sorted}
use Rattle.scasp_law_first_event.specs.Events.{IsReachable, itself, after}
use Rattle.scasp_law_first_event.proofs.EachStates.{each-state}
use Rattle.scasp_law_sorted.specs.Asking.{CanBeProjected, is_item_rowless, is_rowless}
use Rattle.scasp_law_no_circle.proofs.Tasks.{NoRow}
use Rattle.scasp_law_sorted.proofs.Assuming.{plain-negated, plain-simple}
use Rattle.scasp_law_sorted.proofs.Evenness.{Asks}
use Rattle.scasp_law_sorted.proofs.Rowless.{GivenPlain, LineRowless, all-no_row, given-parts, given-read, TaskRowless, Rowless, rowless-sorted}
use Rattle.scasp_law_sorted.proofs.RowlessSteps.{AllRowless, flat-rowless, lines-under, shows-rowless, step-rowless}
use Rattle.scasp_law_sorted.proofs.RowlessTrees.{BranchRowless, BuiltRowless, OpensRowless, PartRowless, TreeRowless, WalkRowless, built-rowless, checks-lines, context-plain, query-lines}

module _ (p : Problem) (q : Query) (rowless : is_rowless p q ≡ true) where
  of_both : (list_all is_item_rowless q.body ≡ true) × (list_all (λ c. list_all is_item_rowless c.body) p.program.clauses ≡ true)
  of_both = and_parts (list_all is_item_rowless q.body) (list_all (λ c. list_all is_item_rowless c.body) p.program.clauses) rowless

  clauses : AllRowless p.program
  clauses = Each-from_test (λ (c : Clause). list_all is_item_rowless c.body) (λ c. list_all is_item_rowless c.body ≡ true) (λ c e. e) p.program.clauses of_both.1

  checks : (is : List CheckItem) → Each TaskRowless (map (λ i. task.Check i.clause i.head) is)
  checks [] = tt
  checks (i ∷ is) = (tt, checks is)

  begun : Rowless (start q p.checks)
  begun = record {
    given = tt;
    covers = tt;
    work = Each-append TaskRowless (map task.Show (flat_body q.body)) (map (λ i. task.Check i.clause i.head) p.checks) (shows-rowless (flat_body q.body) (flat-rowless [] q.body of_both.0)) (checks p.checks);
    lines = tt;
  }

  step-asks : (s : State) → Rowless s → Asks Rowless (step p.program p.sat s)
  step-asks s e = step-rowless p.program clauses p.sat s s.work e

  pub rowless-there : (s : State) → IsReachable p q s → Rowless s
  rowless-there _ itself = begun
  rowless-there _ (after t u f i) = each-state Rowless ((search_for p q).next t) u (step-asks t (rowless-there t f)).states i

-- ---- what is given in a certificate

plain-renamed : (v : Sub) (c : Con) → GivenPlain c → GivenPlain (con_renamed v c)
plain-renamed v (con.Row r) n = absurd n
plain-renamed v (con.Eq t u) n = absurd n
plain-renamed v (con.Neq t u) n = by (under v (tm_of t)) (under v (tm_of u))
  where
    by : (a b : Tm) → GivenPlain (simple (differ a b))
    by a b = given-parts (term_with a) (term_with b) (parts (tm_of (term_with a)) (tm_of (term_with b)))
plain-renamed v (con.Num t) n = tt
plain-renamed v (con.NotNum t) n = tt
plain-renamed v (con.NotShape x f k) n = by (v x)
  where
    by : (t : Tm) → GivenPlain (con_or (con.NotShape x f k) (not_shape t f k))
    by (var y) = tt
    by (num r) = tt
    by (app g us) = tt

plain-once : (cs : List Con) → Each GivenPlain cs → Each GivenPlain (once cs)
plain-once [] h = tt
plain-once (c ∷ cs) h = (h.0, Each-filter GivenPlain (λ d. not (same_con c d)) (once cs) (plain-once cs h.1))

all-renamed : (v : Sub) (cs : List Con) → Each GivenPlain cs → Each GivenPlain (map (con_renamed v) cs)
all-renamed v [] k = tt
all-renamed v (c ∷ cs) k = (plain-renamed v c k.0, all-renamed v cs k.1)

-- those that hold whatever their variables stand for are left out
left-plain : (v : Sub) (gs : List Con) → Each GivenPlain gs → Each GivenPlain (filter (λ c. not (holds_always c)) (map simple (map (con_under v) gs)))
left-plain v [] h = tt
left-plain v (c ∷ gs) h = by (holds_always (simple (con_under v c))) refl (left-plain v gs h.1)
  where
    by : (b : Bool) → holds_always (simple (con_under v c)) ≡ b → Each GivenPlain (filter (λ c. not (holds_always c)) (map simple (map (con_under v) gs)))
        → Each GivenPlain (if not b then simple (con_under v c) ∷ filter (λ c. not (holds_always c)) (map simple (map (con_under v) gs)) else filter (λ c. not (holds_always c)) (map simple (map (con_under v) gs)))
    by true e rest = rest
    by false e rest = (given-read v c h.0 e, rest)

lines-plain : (s : State) → Rowless s → Each GivenPlain (given_lines s)
lines-plain s e = plain-once (filter (λ c. not (holds_always c)) (map simple (givens s))) (left-plain (meaning s) s.given e.given)

certificate-plain : (p : Problem) (q : Query) (s : State) (queried : ℕ) → is_rowless p q ≡ true → IsReachable p q s → Each GivenPlain (certificate_at p s queried).given
certificate-plain p q s queried rowless f = plain-once _ (all-renamed _ (given_lines s) (lines-plain s (rowless-there p q rowless s f)))

pub no-equation : (c : Con) → GivenPlain c → IsNoEquation c
no-equation (con.Row r) h = tt
no-equation (con.Eq t u) h = absurd h
no-equation (con.Neq t u) h = tt
no-equation (con.NotShape x f n) h = tt
no-equation (con.Num t) h = tt
no-equation (con.NotNum t) h = tt

no-rows : (cs : List Con) → Each GivenPlain cs → RowsNormal cs
no-rows [] h = tt
no-rows (con.Row r ∷ cs) h = absurd h.0
no-rows (con.Eq t u ∷ cs) h = absurd h.0
no-rows (con.Neq t u ∷ cs) h = no-rows cs h.1
no-rows (con.NotShape x f n ∷ cs) h = no-rows cs h.1
no-rows (con.Num t ∷ cs) h = no-rows cs h.1
no-rows (con.NotNum t ∷ cs) h = no-rows cs h.1

pub rowless-given : (p : Problem) (q : Query) (s : State) (queried : ℕ) → is_rowless p q ≡ true → IsReachable p q s → CanBeProjected (certificate_at p s queried).given
rowless-given p q s queried rowless f =
    let plain : Each GivenPlain (certificate_at p s queried).given = certificate-plain p q s queried rowless f in
    record {
      normal = no-rows (certificate_at p s queried).given plain;
      plain = Each-map GivenPlain IsNoEquation no-equation (certificate_at p s queried).given plain;
      sorted = rowless-sorted [] (certificate_at p s queried).given (all-no_row (certificate_at p s queried).given plain);
    }

-- ---- the lists that are asked about a certificate

line-renamed-plain : (v : Sub) (c : Con) → NoRow c → NoRow (con_renamed v c)
line-renamed-plain v (con.Row r) n = absurd n
line-renamed-plain v (con.Eq t u) n = tt
line-renamed-plain v (con.Neq t u) n = plain-simple (differ (under v (tm_of t)) (under v (tm_of u))) tt
line-renamed-plain v (con.Num t) n = tt
line-renamed-plain v (con.NotNum t) n = tt
line-renamed-plain v (con.NotShape x f k) n = by (v x)
  where
    by : (t : Tm) → NoRow (con_or (con.NotShape x f k) (not_shape t f k))
    by (var y) = tt
    by (num r) = tt
    by (app g us) = tt

line-renamed : (v : Sub) (l : Line) → LineRowless l → LineRowless (line_renamed v l)
line-renamed v (line.Test c) h = line-renamed-plain v c h
line-renamed v (line.Split c parts) h = line-renamed-plain v c h
line-renamed v (line.Pos a k ts n) h = tt
line-renamed v (line.Neg a n) h = tt
line-renamed v (line.Loop l at) h = tt
line-renamed v (line.Seen l at) h = tt
line-renamed v (line.Rule a k first) h = tt
line-renamed v (line.Check k first) h = tt
line-renamed v line.Void h = tt
line-renamed v (line.Leaf k) h = tt
line-renamed v (line.Head n) h = tt

lines-renamed : (v : Sub) (ls : List Line) → Each LineRowless ls → Each LineRowless (map (line_renamed v) ls)
lines-renamed v [] h = tt
lines-renamed v (l ∷ ls) h = (line-renamed v l h.0, lines-renamed v ls h.1)

raised-plain : (free by : ℕ) (c : Con) → NoRow c → NoRow (con_raised free by c)
raised-plain free by (con.Row r) n = absurd n
raised-plain free by (con.Eq t u) n = tt
raised-plain free by (con.Neq t u) n = tt
raised-plain free by (con.NotShape x f k) n = tt
raised-plain free by (con.Num t) n = tt
raised-plain free by (con.NotNum t) n = tt

all-raised : (free by : ℕ) (cs : List Con) → Each NoRow cs → Each NoRow (map (con_raised free by) cs)
all-raised free by [] h = tt
all-raised free by (c ∷ cs) h = (raised-plain free by c h.0, all-raised free by cs h.1)

args-plain : (ts us : Tms) → Each NoRow (equal_args ts us)
args-plain nil us = tt
args-plain (cons t ts) nil = tt
args-plain (cons t ts) (cons u us) = (tt, args-plain ts us)

module _ (given : List Con) (g : Each NoRow given) where
  list-sorted : (cs : List Con) → Each NoRow cs → Sorted cs
  list-sorted cs h = rowless-sorted [] cs h

  node-sorted : (here : Place) (t : Tree) → OpensRowless here.opened → TreeRowless t → Each Sorted (node_lists given here t)
  node-sorted here (pos_tree a k ts children) h n = tt
  node-sorted here (neg_tree a covers) h n = tt
  node-sorted here (loop_tree lit to) h n = tt
  node-sorted here (seen_tree lit to) h n = tt
  node-sorted here (test_tree c hint) h n = (
    list-sorted (context given here.opened ++ negated here.hidden c ∷ [])
        (Each-append NoRow (context given here.opened) (negated here.hidden c ∷ []) (context-plain given g here.opened h) (plain-negated here.hidden c n, tt)),
    tt,
  )

  case-sorted : (here : Place) (b : Branch) → OpensRowless here.opened → Each Sorted (case_lists given here b)
  case-sorted here (split c a b) h = tt
  case-sorted here (void hint) h = (list-sorted (context given here.opened) (context-plain given g here.opened h), tt)
  case-sorted here (leaf k children) h = tt
  case-sorted here (head children) h = tt

  part-sorted : (here : Place) (part : Part) → OpensRowless here.opened → PartRowless part → Each Sorted (part_lists given here part)
  part-sorted here (of_node due t) h n = node-sorted here t h n
  part-sorted here (of_rule k a b) h n = tt
  part-sorted here (of_check k b) h n = tt
  part-sorted here (of_case body b) h n = case-sorted here b h

  hints-sorted : (ls : List Walked) → Each WalkRowless ls → Each Sorted (flat_map (λ l. part_lists given l.here l.part) ls)
  hints-sorted [] h = tt
  hints-sorted (l ∷ ls) h = Each-append Sorted (part_lists given l.here l.part) (flat_map (λ l. part_lists given l.here l.part) ls) (part-sorted l.here l.part h.0.0 h.0.1) (hints-sorted ls h.1)

  -- pairs
  abbrev ToldOpens : Told → Type 0
  ToldOpens t = OpensRowless t.opened

  told-node : (at : ℕ) (os : List Opened) (t : Tree) → OpensRowless os → Each ToldOpens (told_by_node at os t)
  told-node at os (pos_tree a k ts children) h = (h, tt)
  told-node at os (neg_tree a covers) h = (h, tt)
  told-node at os (loop_tree lit to) h = tt
  told-node at os (seen_tree lit to) h = tt
  told-node at os (test_tree c hint) h = tt

  told-part : (at : ℕ) (os : List Opened) (part : Part) → OpensRowless os → Each ToldOpens (told_by_part at os part)
  told-part at os (of_node due t) h = told-node at os t h
  told-part at os (of_rule k a b) h = tt
  told-part at os (of_check k b) h = tt
  told-part at os (of_case body b) h = tt

  told-lines : (ls : List Walked) → Each WalkRowless ls → Each ToldOpens (all_told ls)
  told-lines [] h = tt
  told-lines (l ∷ ls) h = Each-append ToldOpens (told_at l) (all_told ls) (told-part l.at l.here.opened l.part h.0.0) (told-lines ls h.1)

  abbrev BothTold : (Told × Told) → Type 0
  BothTold ab = ToldOpens ab.0 × ToldOpens ab.1

  with-one : (a : Told) → ToldOpens a → (bs : List Told) → Each ToldOpens bs → Each BothTold (map (λ b. (a, b)) bs)
  with-one a k [] h = tt
  with-one a k (b ∷ bs) h = ((k, h.0), with-one a k bs h.1)

  told-pairs : (ts : List Told) → Each ToldOpens ts → Each BothTold (all_pairs ts)
  told-pairs [] h = tt
  told-pairs (a ∷ behind) h =
      Each-append BothTold (map (λ b. (a, b)) (filter (is_pair a) behind)) (all_pairs behind) (with-one a h.0 (filter (is_pair a) behind) (Each-filter ToldOpens (is_pair a) behind h.1)) (told-pairs behind h.1)

  pairs-sorted : (free : ℕ) (abs : List (Told × Told)) → Each BothTold abs → Each Sorted (map (λ ab. pair_list free given ab.0 ab.1) abs)
  pairs-sorted free [] h = tt
  pairs-sorted free (ab ∷ abs) h = (list-sorted (pair_list free given ab.0 ab.1) (one ab h.0), pairs-sorted free abs h.1)
    where
      one : (ab : Told × Told) → BothTold ab → Each NoRow (pair_list free given ab.0 ab.1)
      one ab k =
          let first : List Con = context given ab.0.opened in
          let by : ℕ = max (above_cons first) (above_all ab.0.atom.args) in
          Each-append NoRow (first ++ map (con_raised free by) (context [] ab.1.opened)) (equal_args ab.0.atom.args (all_under (raising free by) ab.1.atom.args))
          (Each-append NoRow first (map (con_raised free by) (context [] ab.1.opened)) (context-plain given g ab.0.opened k.0)
          (all-raised free by (context [] ab.1.opened) (context-plain [] tt ab.1.opened k.1))) (args-plain ab.0.atom.args (all_under (raising free by) ab.1.atom.args))

-- the numbers of variables in the certificate
abbrev places : Program → State → ℕ → Sub
places p s queried =
    placing (free_variables s (all_under (meaning s) (new_parts 0 queried)) (given_lines s) (map (line_under s) s.lines) ++ universal_variables p (map (line_under s) s.lines))

certificate-lines : (p : Program) (c : Certificate) → Each TreeRowless c.trees → Each (λ b. BranchRowless b.1) c.checks → Each WalkRowless (lines p c)
certificate-lines p c h k =
    let s : Setting = setting p.clauses c in
    Each-append WalkRowless (query_walk p.clauses p.queries c).lines _ (query-lines s (place s.top) 1 s.free (query_dues (numbered p.queries c.query) c.terms) c.trees tt h)
    (checks-lines s (place s.top) (1 + lines_below (listed c.trees)) (query_walk p.clauses p.queries c).next c.checks tt k)

module _ (p : Problem) (q : Query) (rowless : is_rowless p q ≡ true) where
  ends-sorted : (s : State) (queried : ℕ) → IsReachable p q s → Each Sorted (asked_by p s queried [])
  ends-sorted s queried f =
      Each-append Sorted (pair_lists p.program c) (c.given ∷ hint_lists p.program c) (pairs-sorted c.given given (free_of c) (all_pairs (all_told (lines p.program c))) (told-pairs c.given given (all_told (lines p.program c)) (told-lines c.given given (lines p.program c) walk)))
      (rowless-sorted [] c.given given, hints-sorted c.given given (lines p.program c) walk)
    where
      c : Certificate
      c = certificate_at p s queried

      given : Each NoRow (certificate_at p s queried).given
      given = all-no_row (certificate_at p s queried).given (certificate-plain p q s queried rowless f)

      made : BuiltRowless (built (literal_lines 1 (map (line_under s) s.lines)) (map (line_renamed (places p.program s queried)) (map (line_under s) s.lines)))
      made =
          built-rowless (literal_lines 1 (map (line_under s) s.lines)) (map (line_renamed (places p.program s queried)) (map (line_under s) s.lines))
          (lines-renamed (places p.program s queried) (map (line_under s) s.lines) (lines-under s s.lines (rowless-there p q rowless s f).lines))

      walk : Each WalkRowless (lines p.program (certificate_at p s queried))
      walk = certificate-lines p.program (certificate_at p s queried) made.nodes made.checks

  pub rowless-asked : (s : State) (queried : ℕ) → IsReachable p q s → Each Sorted (asked_by p s queried s.work)
  rowless-asked s queried f = by s.work (ends-sorted s queried f)
    where
      by : (ws : List Task) → Each Sorted (asked_by p s queried []) → Each Sorted (asked_by p s queried ws)
      by [] h = h
      by (t ∷ ts) h = (step-asks p q rowless s (rowless-there p q rowless s f)).asked
