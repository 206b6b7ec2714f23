-- The hints and clash lines with which a tree is filled have a text of their own: no list of steps is empty, and no list of such lists.
use Rattle.std.specs.Prelude.{◌≡◌, ℕ, zero, suc, Bool, true, false, is_none, is_some as is_given, if◌then◌else◌, Option, Some, None, List, [], ◌∷◌, ◌++◌, Result, Ok, Err, ⊤}
use Rattle.std.specs.List.{Contains, flat_map, list_all, list_any}
use Rattle.std.proofs.Common.{◌≢◌, refl, sym, subst}
use Rattle.std.proofs.lemmas.Bool.{and_from, or_parts}
use Rattle.scasp_cert.specs.Certificate.{Certificate}
use Rattle.scasp_cert.specs.declared.certificate.Clash.{Clash}
use Rattle.scasp_checker_rules.specs.Normality.{AreRowsNormal}
use Rattle.scasp_checker_rules.specs.PairLists.{pair_list}
use Rattle.scasp_checker_rules.specs.Pairs.{all_pairs}
use Rattle.scasp_checker_rules.specs.Told.{Told, all_told}
use Rattle.scasp_fill.specs.Filling.Filled.{clash_by, clash_for, clash_or, clashes_found, found_on, hint_at, hint_for, hint_of, or_terms}
use Rattle.scasp_fill.proofs.FillingLemmas.FillLemmas.{lists-normal, pairs-normal}
use Rattle.scasp_hint.specs.AskedRows.{RowsNormal, asked_by, rows_seen, given_rows}
use Rattle.scasp_hint.specs.Finding.{Forced, Found, found, found_asked, found_at, found_by, found_rows, first_forced, forced, hint, nothing, possible, side_asked, sides_asked, unknown, unknown_list, with_list}
use Rattle.scasp_hint.specs.Showing.{HintInRange, fault_of}
use Rattle.scasp_hint.specs.Sides.{con_sides, differs, differs_in, less, more, parted, parts_sides, row_sides, sides_or_large, two_sides}
use Rattle.scasp_hint.specs.declared.asked.Asked.{Asked}
use Rattle.scasp_hint.specs.declared.asked.Asked.TheVariants.{ByTerms, Overflows, Asks}
use Rattle.scasp_hint.specs.declared.sides.Sides.{Sides}
use Rattle.scasp_hint.specs.declared.sides.Sides.TheVariants.{Mixed, Large, Listed}
use Rattle.scasp_hint.proofs.ShownLemmas.{no-empty-list, no-empty-steps}
use Rattle.scasp_hint_steps.specs.Pruned.{found_pruned, pruned_hint, row_count, shorter, with_shorter}
use Rattle.scasp_hint_steps.proofs.FoundLemmas.{pruned-in_range, pruned-shows}
use Rattle.scasp_law_answer_text.specs.LineReadback.Writable.{is_hint, is_some}
use Rattle.scasp_lines.specs.Lines.{free_of, lines}
use Rattle.scasp_lines.specs.Walk.{Line}
use Rattle.scasp_list.specs.Each.{Each}
use Rattle.scasp_list.proofs.EachLemmas.{Each-append, Each-at}
use Rattle.scasp_list.proofs.MemberLemmas.{Contains-here, Contains-there}
use Rattle.scasp_num.specs.Linear.{Linear}
use Rattle.scasp_num.specs.declared.hints.Step.{Step}
use Rattle.scasp_num.specs.declared.linear.Op.{Op}
use Rattle.scasp_num.specs.declared.linear.Op.TheVariants as op
use Rattle.scasp_rows.specs.Elimination.{elimination}
use Rattle.scasp_rows.specs.declared.state.Halt.{Halt}
use Rattle.scasp_rows.specs.declared.state.Halt.TheVariants as halt
use Rattle.scasp_rows.specs.declared.state.State.{State}
use Rattle.scasp_search_rules.specs.Successors.Answers.{part_lists}
use Rattle.scasp_syntax.specs.Programs.{numbered}
use Rattle.scasp_syntax.specs.Values.{under}
use Rattle.scasp_syntax.specs.View.{tm_of}
use Rattle.scasp_syntax.specs.declared.con.Con.{Con}
use Rattle.scasp_syntax.specs.declared.con.Con.TheVariants as con
use Rattle.scasp_syntax.specs.declared.hint.Hint.{Hint}
use Rattle.scasp_syntax.specs.declared.hint.Hint.TheVariants as hints
use Rattle.scasp_syntax.specs.declared.program.Program.{Program}
use Rattle.scasp_unify.specs.Numbers.{is_among_numbers}
use Rattle.scasp_unify.specs.Parts.{Part, parts}
use Rattle.scasp_unify.specs.ResolvedRows.{resolved_row}
use Rattle.scasp_unify.specs.Resolver.{resolver}
use Rattle.scasp_unify.specs.TermFailures.{fails_by_terms, is_identity, is_refuted}
use Rattle.scasp_unify.proofs.Members.{Each-from, Each-self}

-- ---- the sides of a disequation that terms do not refute

abbrev SidesSome : Sides → Type 0
SidesSome Mixed = ⊤
SidesSome Large = ⊤
SidesSome (Listed bs) = is_some bs ≡ true

two-some : (a b : Option Linear) (rest : Option (List Linear)) → SidesSome (sides_or_large (two_sides a b rest))
two-some None b rest = tt
two-some (Some a) None rest = tt
two-some (Some a) (Some b) None = tt
two-some (Some a) (Some b) (Some rs) = refl

part-some : (p : Part) (ps : List Part) → SidesSome (sides_or_large (parts_sides (p ∷ ps)))
part-some p ps = by p.turned
  where
    by : (t : Bool) → SidesSome (sides_or_large (if t then two_sides (more p.at p.term) (less p.at p.term) (parts_sides ps) else two_sides (less p.at p.term) (more p.at p.term) (parts_sides ps)))
    by true = two-some (more p.at p.term) (less p.at p.term) (parts_sides ps)
    by false = two-some (less p.at p.term) (more p.at p.term) (parts_sides ps)

parted-some : (cs : List Con) (o : Option (List Part)) → is_identity o ≡ false → Each SidesSome (parted cs o)
parted-some cs None e = tt
parted-some cs (Some []) e = absurd (cc e)
parted-some cs (Some (p ∷ ps)) e = (by (is_among_numbers cs (p ∷ ps)), tt)
  where
    by : (b : Bool) → SidesSome (if b then sides_or_large (parts_sides (p ∷ ps)) else Mixed)
    by true = part-some p ps
    by false = tt

row-some : (o : Op) (q : Option Linear) → Each SidesSome (row_sides o q)
row-some op.Eq q = tt
row-some op.Lt q = tt
row-some op.Le q = tt
row-some op.Ne None = (tt, tt)
row-some op.Ne (Some q) = (refl, tt)

con-some : (cs : List Con) (c : Con) → is_refuted cs c ≡ false → Each SidesSome (con_sides cs c)
con-some cs (con.Neq t u) e = parted-some cs (parts (under (resolver cs) (tm_of t)) (under (resolver cs) (tm_of u))) e
con-some cs (con.Row r) e = row-some r.op (resolved_row (resolver cs) r)
con-some cs (con.Eq t u) e = tt
con-some cs (con.NotShape x f n) e = tt
con-some cs (con.Num t) e = tt
con-some cs (con.NotNum t) e = tt

all-some : (cs ds : List Con) → list_any (is_refuted cs) ds ≡ false → Each SidesSome (differs_in cs ds)
all-some cs [] e = tt
all-some cs (d ∷ ds) e =
    let k = or_parts (is_refuted cs d) (list_any (is_refuted cs) ds) e in
    Each-append SidesSome (con_sides cs d) (differs_in cs ds) (con-some cs d k.0) (all-some cs ds k.1)

-- ---- what is found

abbrev ForcedSome : Forced → Type 0
ForcedSome possible = ⊤
ForcedSome unknown = ⊤
ForcedSome (forced lists) = is_some lists ≡ true

-- a hint that tells sides tells one at least
abbrev HintSome : Hint → Type 0
HintSome hints.Terms = ⊤
HintSome (hints.Rows steps) = ⊤
HintSome (hints.Same n lists) = is_some lists ≡ true

abbrev FoundSome : Found → Type 0
FoundSome nothing = ⊤
FoundSome unknown_list = ⊤
FoundSome (hint h) = HintSome h

with-some : (steps : List Step) (f : Forced) → ForcedSome (with_list steps f)
with-some steps possible = tt
with-some steps unknown = tt
with-some steps (forced lists) = refl

side-some : (o : Result State Halt) (f : Forced) → ForcedSome (side_asked o f)
side-some (Ok s) f = tt
side-some (Err (halt.Unsat steps)) f = with-some steps f
side-some (Err halt.Overflow) f = tt
side-some (Err halt.Memory) f = tt

sides-some : (all bs : List Linear) → is_some bs ≡ true → ForcedSome (sides_asked all bs)
sides-some all [] e = absurd (cc e)
sides-some all (b ∷ bs) e = side-some (elimination (all ++ b ∷ [])) (sides_asked all bs)

by-some : (n : ℕ) (f : Forced) (rest : Found) → ForcedSome f → FoundSome rest → FoundSome (found_by n f rest)
by-some n possible rest h k = k
by-some n unknown rest h k = tt
by-some n (forced lists) rest h k = h

at-some : (all : List Linear) (n : ℕ) (s : Sides) (rest : Found) → SidesSome s → FoundSome rest → FoundSome (found_at all n s rest)
at-some all n Mixed rest h k = k
at-some all n Large rest h k = tt
at-some all n (Listed bs) rest h k = by-some n (sides_asked all bs) rest (sides-some all bs h) k

first-some : (all : List Linear) (n : ℕ) (ss : List Sides) → Each SidesSome ss → FoundSome (first_forced all n ss)
first-some all n [] h = tt
first-some all n (s ∷ ss) h = at-some all n s (first_forced all (suc n) ss) h.0 (first-some all (suc n) ss h.1)

rows-some : (cs : List Con) (all : List Linear) (o : Result State Halt) → Each SidesSome (differs cs) → FoundSome (found_rows cs all o)
rows-some cs all (Ok s) h = first-some all 1 (differs cs) h
rows-some cs all (Err (halt.Unsat steps)) h = tt
rows-some cs all (Err halt.Overflow) h = tt
rows-some cs all (Err halt.Memory) h = tt

asked-some : (cs : List Con) (a : Asked) → Each SidesSome (differs cs) → FoundSome (found_asked cs a)
asked-some cs ByTerms h = tt
asked-some cs Overflows h = tt
asked-some cs (Asks all) h = rows-some cs all (elimination all) h

found-some : (cs : List Con) → FoundSome (found cs)
found-some cs = by (fails_by_terms cs) refl
  where
    by : (b : Bool) → fails_by_terms cs ≡ b → FoundSome (found_asked cs (if b then ByTerms else asked_by cs (rows_seen (resolver cs) (given_rows cs))))
    by true e = tt
    by false e = asked-some cs (asked_by cs (rows_seen (resolver cs) (given_rows cs))) (all-some cs cs (or_parts _ (list_any (is_refuted cs) cs) e).1)

pruned-some : (n : ℕ) (h : Hint) → HintSome h → HintSome (pruned_hint n h)
pruned-some n hints.Terms h = tt
pruned-some n (hints.Rows steps) h = tt
pruned-some n (hints.Same i []) h = absurd (cc h)
pruned-some n (hints.Same i (l ∷ lists)) h = refl

shorter-some : (cs : List Con) (h : Hint) → HintSome h → HintSome (shorter cs h)
shorter-some cs h k = by (is_none (fault_of cs (pruned_hint (row_count cs) h)))
  where
    by : (b : Bool) → HintSome (if b then pruned_hint (row_count cs) h else h)
    by true = pruned-some (row_count cs) h k
    by false = k

short-some : (cs : List Con) (f : Found) → FoundSome f → FoundSome (with_shorter cs f)
short-some cs nothing h = tt
short-some cs unknown_list h = tt
short-some cs (hint k) h = shorter-some cs k h

-- ---- hints

filled-list : (steps : List Step) → steps ≢ [] → is_some steps ≡ true
filled-list [] n = absurd (n refl)
filled-list (s ∷ steps) n = refl

filled-lists : (lists : List (List Step)) → Each (λ (steps : List Step). steps ≢ []) lists → list_all is_some lists ≡ true
filled-lists [] h = refl
filled-lists (l ∷ lists) h = and_from (is_some l) (list_all is_some lists) (filled-list l h.0) (filled-lists lists h.1)

shown-hint : (cs : List Con) (h : Hint) → fault_of cs h ≡ None → HintSome h → is_hint h ≡ true
shown-hint cs hints.Terms e k = refl
shown-hint cs (hints.Rows []) e k = absurd (no-empty-steps cs e)
shown-hint cs (hints.Rows (s ∷ steps)) e k = refl
shown-hint cs (hints.Same n lists) e k = and_from (is_some lists) (list_all is_some lists) k (filled-lists lists (no-empty-list cs n lists e))

-- the hint has a text of its own, and multipliers in range
abbrev pub HintTold : Hint → Type 0
HintTold h = (is_hint h ≡ true) × HintInRange h

hint-told : (cs : List Con) (h : Hint) → RowsNormal cs → found_pruned cs ≡ hint h → HintTold h
hint-told cs h n e = (shown-hint cs h (pruned-shows cs h n e) (subst FoundSome e (short-some cs (found cs) (found-some cs))), pruned-in_range cs h n e)

abbrev IfHint : Option Hint → Type 0
IfHint None = ⊤
IfHint (Some h) = HintTold h

found-told : (cs : List Con) → RowsNormal cs → IfHint (hint_of (found_pruned cs))
found-told cs n = by (found_pruned cs) refl
  where
    by : (o : Found) → found_pruned cs ≡ o → IfHint (hint_of o)
    by nothing e = tt
    by unknown_list e = tt
    by (hint h) e = hint-told cs h n e

terms-told : (o : Option Hint) → IfHint o → HintTold (or_terms o)
terms-told None h = (refl, tt)
terms-told (Some k) h = h

lists-told : (lists : List (List Con)) → Each RowsNormal lists → HintTold (hint_for lists)
lists-told [] h = (refl, tt)
lists-told (cs ∷ lists) h = terms-told (hint_of (found_pruned cs)) (found-told cs h.0)

module _ (p : Program) (c : Certificate) (normal : AreRowsNormal p c) where
  line-told : (l : Line) → Contains (lines p c) l → HintTold (hint_at c.given (Some l))
  line-told l i = lists-told (part_lists c.given l.here l.part) (Each-from RowsNormal (part_lists c.given l.here l.part) (λ cs j. lists-normal p c normal l i cs j))

  numbered-there : (ls : List Line) (n : ℕ) (l : Line) → numbered ls n ≡ Some l → Contains ls l
  numbered-there ls zero l e = absurd (cc e)
  numbered-there ls (suc n) l e = Each-at (Contains ls) ls n l (Each-self ls) (sym e)

  -- each hint that is put on a line
  pub hints-told : (n : ℕ) → HintTold (found_on p c n)
  hints-told n = by (numbered (lines p c) n) refl
    where
      by : (o : Option Line) → numbered (lines p c) n ≡ o → HintTold (hint_at c.given o)
      by None e = (refl, tt)
      by (Some l) e = line-told l (numbered-there (lines p c) n l e)

  -- ---- clash lines

  abbrev ClashTold : Clash → Type 0
  ClashTold k = HintTold k.hint

  clash-told : (first second : ℕ) (o : Option Hint) → IfHint o → Each ClashTold (clash_by first second o)
  clash-told first second None h = tt
  clash-told first second (Some k) h = (h, tt)

  either-told : (first second : ℕ) (o : Option Hint) (other : List Clash) → IfHint o → Each ClashTold other → Each ClashTold (clash_or first second o other)
  either-told first second None other h k = k
  either-told first second (Some g) other h k = (h, tt)

  pair-told : (ab : Told × Told) → Contains (all_pairs (all_told (lines p c))) ab → Each ClashTold (clash_for (free_of c) c.given ab)
  pair-told ab i = by (is_given (fault_of (pair_list (free_of c) c.given ab.0 ab.1) hints.Terms))
    where
      one : List Con
      one = pair_list (free_of c) c.given ab.0 ab.1

      other : List Con
      other = pair_list (free_of c) c.given ab.1 ab.0

      by : (b : Bool) → Each ClashTold (if b then clash_or ab.0.at ab.1.at (hint_of (found_pruned one)) (clash_by ab.1.at ab.0.at (hint_of (found_pruned other))) else [])
      by true =
          either-told ab.0.at ab.1.at (hint_of (found_pruned one)) (clash_by ab.1.at ab.0.at (hint_of (found_pruned other))) (found-told one (pairs-normal p c normal ab i).0)
          (clash-told ab.1.at ab.0.at (hint_of (found_pruned other)) (found-told other (pairs-normal p c normal ab i).1))
      by false = tt

  pub clashes-told : Each ClashTold (clashes_found p c)
  clashes-told = gathered (all_pairs (all_told (lines p c))) (λ ab i. pair-told ab i)
    where
      gathered : (abs : List (Told × Told)) → ((ab : Told × Told) → Contains abs ab → Each ClashTold (clash_for (free_of c) c.given ab)) → Each ClashTold (flat_map (clash_for (free_of c) c.given) abs)
      gathered [] h = tt
      gathered (ab ∷ abs) h =
          Each-append ClashTold (clash_for (free_of c) c.given ab) (flat_map (clash_for (free_of c) c.given) abs) (h ab (Contains-here ab abs)) (gathered abs (λ x i. h x (Contains-there ab abs x i)))
