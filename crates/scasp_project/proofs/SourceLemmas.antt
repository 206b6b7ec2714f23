-- Where an alternative comes from: a choice of the list, the rows that are left of it, and what was asked.
use Rattle.std.proofs.Common.{◌≡◌, ◌≢◌, ◌⊎◌, inl, inr, ℕ, Bool, true, false, not, Some, None, Option, Result, Ok, Err, List, [], ◌∷◌, ◌++◌, append_assoc, append-nil, refl, sym, ap, subst, ◌∙◌, cond}
use Rattle.std.specs.Prelude.{if◌then◌else◌, filter, map, option_to_list}
use Rattle.std.specs.List.{list_any, Contains}
use Rattle.std.proofs.lemmas.Bool.{or_cases, true≢false}
use Rattle.scasp_num.specs.declared.linear.Op.{Op}
use Rattle.scasp_num.specs.declared.linear.Op.TheVariants as op
use Rattle.scasp_num.specs.Arithmetic.{◌>>=◌}
use Rattle.scasp_num.specs.Linear.{Linear, IsNormal}
use Rattle.scasp_num.specs.SameRow.{same_row}
use Rattle.scasp_num.specs.Values.{Holds}
use Rattle.scasp_num.proofs.Exact.{bind-some}
use Rattle.scasp_num.proofs.SameRows.{row-same}
use Rattle.scasp_list.specs.Each.{Each}
use Rattle.scasp_list.proofs.EachLemmas.{Each-append, Each-both, Each-map}
use Rattle.scasp_rows.specs.declared.state.Halt.{Halt}
use Rattle.scasp_rows.specs.declared.state.Halt.TheVariants as halt
use Rattle.scasp_rows.specs.declared.state.State.{State}
use Rattle.scasp_rows.specs.Points.{MeetsAll, RationalPoint}
use Rattle.scasp_syntax.specs.Constraints.{holds}
use Rattle.scasp_syntax.specs.Values.{Sub}
use Rattle.scasp_syntax.specs.declared.con.Con.{Con}
use Rattle.scasp_syntax.specs.declared.con.Con.TheVariants as con
use Rattle.scasp_syntax.specs.declared.term.Term.{Term}
use Rattle.scasp_unify.specs.Parts.{Part}
use Rattle.scasp_unify.specs.Resolver.{unifies}
use Rattle.scasp_unify.specs.TermFailures.{is_refuted}
use Rattle.scasp_unify.proofs.Members.{not-false, Each-self}
use Rattle.scasp_hint.specs.AskedRows.{RowsNormal, given_rows, inequalities}
use Rattle.scasp_hint.specs.Finding.{Found, found, hint, nothing, unknown_list}
use Rattle.scasp_hint.specs.ExactRows.{row_by}
use Rattle.scasp_hint.specs.Satisfying.{HasPoint}
use Rattle.scasp_hint.specs.Sides.{above, below}
use Rattle.scasp_hint.proofs.AskedLemmas.{inequalities-each, inequalities-plain}
use Rattle.scasp_hint.proofs.FoundLemmas.{found-nothing}
use Rattle.scasp_hint.proofs.SatisfyingLemmas.{above-differs, below-differs, sat-point}
use Rattle.scasp_project.specs.Choices.{chosen, crossed, options, options_by, parts_options, row_options, speak_of_dropped}
use Rattle.scasp_project.specs.Dropped.{Reading, con_has, is_dropped, parts_in, reading_of, row_has}
use Rattle.scasp_rows.specs.LeftRows.{rows_left}
use Rattle.scasp_project.specs.LeftRows.{elimination_dropping}
use Rattle.scasp_project.specs.Projection.{all_kept, choice_kept, found_kept, is_new, kept, left_kept, projection, remaining, stays}
use Rattle.scasp_project.specs.declared.projecting.Projected.TheVariants as projected
use Rattle.scasp_project.proofs.ExtendLemmas.{LeftOf, left-extends}
use Rattle.scasp_project.proofs.ForwardLemmas.{is_met_by}
use Rattle.scasp_project.proofs.KeptLemmas.{AllNormal, chosen-normal, normal-cons, normal-rows, remaining-normal}
use Rattle.scasp_project.proofs.MetLaw.{projects}
use Rattle.scasp_project.proofs.StandingLemmas.{rows_of}
use Rattle.std.proofs.lemmas.List.Elements.{Contains-append_left, Contains-append_right, Contains-push, Contains-push_cases}
use Rattle.scasp_list.proofs.MemberLemmas.{Contains-none, Contains-here, Contains-there, Contains-single, Contains-cases, list_all-member, list_any-none_member, Contains-filter}

-- ---- rows

row-is : (r q : Linear) → con.Row r ≡ con.Row q → r ≡ q
row-is r q e = cc

-- what holds of the given rows holds of a row of the list
given-at : (P : Linear → Type 0) (r : Linear) (ds : List Con) → Contains ds (con.Row r) → Each P (given_rows ds) → P r
given-at P r [] i h = absurd (Contains-none (con.Row r) i)
given-at P r (d ∷ ds) i h = by d (Contains-cases d ds (con.Row r) i) h (λ j k. given-at P r ds j k)
  where
    by : (d : Con) → (d ≡ con.Row r) ⊎ Contains ds (con.Row r) → Each P (given_rows (d ∷ ds)) → (Contains ds (con.Row r) → Each P (given_rows ds) → P r) → P r
    by (con.Row q) (inl s) h later = subst P (row-is q r s) h.0
    by (con.Row q) (inr j) h later = later j h.1
    by (con.Eq t u) (inl s) h later = cc
    by (con.Eq t u) (inr j) h later = later j h
    by (con.Neq t u) (inl s) h later = cc
    by (con.Neq t u) (inr j) h later = later j h
    by (con.NotShape x f n) (inl s) h later = cc
    by (con.NotShape x f n) (inr j) h later = later j h
    by (con.Num t) (inl s) h later = cc
    by (con.Num t) (inr j) h later = later j h
    by (con.NotNum t) (inl s) h later = cc
    by (con.NotNum t) (inr j) h later = later j h

-- a row that equals one of those that are given stands in the list
given-in : (r : Linear) (ds : List Con) → list_any (same_row r) (given_rows ds) ≡ true → Contains ds (con.Row r)
given-in r [] e = absurd (true≢false (sym e))
given-in r (con.Row q ∷ ds) e = by (λ h. given-in r ds h) (or_cases (same_row r q) (list_any (same_row r) (given_rows ds)) e)
  where
    by : (list_any (same_row r) (given_rows ds) ≡ true → Contains ds (con.Row r)) → (same_row r q ≡ true) ⊎ (list_any (same_row r) (given_rows ds) ≡ true) → Contains (con.Row q ∷ ds) (con.Row r)
    by later (inl s) = subst (Contains (con.Row q ∷ ds)) (sym (ap con.Row (row-same r q s))) (Contains-here (con.Row q) ds)
    by later (inr h) = Contains-there (con.Row q) ds (con.Row r) (later h)
given-in r (con.Eq t u ∷ ds) e = Contains-there (con.Eq t u) ds (con.Row r) (given-in r ds e)
given-in r (con.Neq t u ∷ ds) e = Contains-there (con.Neq t u) ds (con.Row r) (given-in r ds e)
given-in r (con.NotShape x f n ∷ ds) e = Contains-there (con.NotShape x f n) ds (con.Row r) (given-in r ds e)
given-in r (con.Num t ∷ ds) e = Contains-there (con.Num t) ds (con.Row r) (given-in r ds e)
given-in r (con.NotNum t ∷ ds) e = Contains-there (con.NotNum t) ds (con.Row r) (given-in r ds e)

-- what holds of the inequalities holds of each row that is no disequation
pub inequalities-back : (P : Linear → Type 0) (rs : List Linear) → Each P (inequalities rs) → Each (λ (r : Linear). r.op ≢ op.Ne → P r) rs
inequalities-back P [] h = tt
inequalities-back P (r ∷ rs) h = by (λ k. inequalities-back P rs k) r.op refl h
  where
    by : (Each P (inequalities rs) → Each (λ (r : Linear). r.op ≢ op.Ne → P r) rs) → (o : Op) → r.op ≡ o → Each P (row_by o r ++ inequalities rs) → Each (λ (r : Linear). r.op ≢ op.Ne → P r) (r ∷ rs)
    by later op.Eq e h = ((λ _. h.0), later h.1)
    by later op.Lt e h = ((λ _. h.0), later h.1)
    by later op.Le e h = ((λ _. h.0), later h.1)
    by later op.Ne e h = ((λ n. absurd (n e)), later h)

-- ---- choices

abbrev pub IsOption : Reading → Con → Con → Type 0
IsOption s c d = (os : List Con) × (options s c ≡ Some os) × Contains os d

-- an option of each of the constraints stands in the list
abbrev pub Covers : Reading → List Con → List Con → Type 0
Covers s cs ds = (c : Con) → Contains cs c → (d : Con) × Contains ds d × IsOption s c d

-- each constraint of the list is an option of one of these
abbrev pub Within : Reading → List Con → List Con → Type 0
Within s cs ds = Each (λ d. (c : Con) × Contains cs c × IsOption s c d) ds

abbrev pub Chooses : Reading → List Con → List Con → Type 0
Chooses s cs ds = Covers s cs ds × Within s cs ds

chooses-more : (s : Reading) (cs ds : List Con) (c o : Con) → Chooses s cs ds → IsOption s c o → Chooses s (cs ++ c ∷ []) (ds ++ o ∷ [])
chooses-more s cs ds c o h k = (λ e i. by e (Contains-push_cases cs c e i), Each-append Wider ds (o ∷ []) (Each-map (λ d. (e : Con) × Contains cs e × IsOption s e d) Wider (λ d m. (m.0, Contains-append_left cs (c ∷ []) m.0 m.1, m.2)) ds h.1) ((c, Contains-push cs c, k), tt))
  where
    Wider : Con → Type 0
    Wider d = (e : Con) × Contains (cs ++ c ∷ []) e × IsOption s e d

    by : (e : Con) → Contains cs e ⊎ (c ≡ e) → (d : Con) × Contains (ds ++ o ∷ []) d × IsOption s e d
    by e (inl j) = let f = h.0 e j in (f.0, Contains-append_left ds (o ∷ []) f.0 f.1, f.2)
    by e (inr same) = (o, Contains-push ds o, subst (λ (b : Con). IsOption s b o) same k)

extended-chooses : (s : Reading) (cs ds : List Con) (c : Con) (all os : List Con) → options s c ≡ Some all → Chooses s cs ds → Each (Contains all) os → Each (Chooses s (cs ++ c ∷ [])) (map (λ o. ds ++ o ∷ []) os)
extended-chooses s cs ds c all [] e h i = tt
extended-chooses s cs ds c all (o ∷ os) e h i = (chooses-more s cs ds c o h (all, e, i.0), extended-chooses s cs ds c all os e h i.1)

crossed-chooses : (s : Reading) (cs : List Con) (lists : List (List Con)) (c : Con) (all : List Con) → options s c ≡ Some all → Each (Chooses s cs) lists → Each (Chooses s (cs ++ c ∷ [])) (crossed lists all)
crossed-chooses s cs [] c all e h = tt
crossed-chooses s cs (ds ∷ lists) c all e h = Each-append (Chooses s (cs ++ c ∷ [])) (map (λ o. ds ++ o ∷ []) all) (crossed lists all) (extended-chooses s cs ds c all all e h.0 (Each-self all)) (crossed-chooses s cs lists c all e h.1)

pub chosen-chooses : (s : Reading) (before : List Con) (lists : List (List Con)) (ds : List Con) (out : List (List Con)) → chosen s lists ds ≡ Some out → Each (Chooses s before) lists → Each (Chooses s (before ++ ds)) out
chosen-chooses s before lists [] out e h =
    let same : lists ≡ out = cc in
    subst (λ (cs : List Con). Each (Chooses s cs) out) (sym (append-nil before)) (subst (λ (ls : List (List Con)). Each (Chooses s before) ls) same h)
chosen-chooses s before lists (d ∷ ds) out e h =
    let f = bind-some (options s d) (λ os. chosen s (crossed lists os) ds) out (sym e) in
    subst (λ (cs : List Con). Each (Chooses s cs) out) (append_assoc before (d ∷ []) ds) (chosen-chooses s (before ++ d ∷ []) (crossed lists f.0) ds out (sym f.2) (crossed-chooses s before lists d f.0 (sym f.1) h))

-- ---- where an alternative comes from

pub record Source (s : Reading) (cs list : List Con) : Type 0 where
  pub choice : List Con
  pub chooses : Chooses s cs choice
  pub rows : List Linear
  pub left : LeftOf s.keep (inequalities (given_rows choice)) rows
  pub asked : HasPoint (remaining s.keep choice rows)
  pub kept_is : kept s (remaining s.keep choice rows) ≡ list

the-list : (a b : List Con) → ◌≡◌ {A = Option (Option (List Con))} (Some (Some a)) (Some (Some b)) → a ≡ b
the-list a b e = cc

no-list : (b : List Con) → ◌≡◌ {A = Option (Option (List Con))} (Some None) (Some (Some b)) → ⊥
no-list b e = cc

no-answer : (b : List Con) → ◌≡◌ {A = Option (Option (List Con))} None (Some (Some b)) → ⊥
no-answer b e = cc

the-lists : (a b : List (List Con)) → ◌≡◌ {A = Option (List (List Con))} (Some a) (Some b) → a ≡ b
the-lists a b e = cc

one-source : (s : Reading) (cs ds list : List Con) → Chooses s cs ds → AllNormal ds → choice_kept s ds ≡ Some (Some list) → Source s cs list
one-source s cs ds list chooses n e = by (elimination_dropping s.keep rows) refl e
  where
    rows : List Linear
    rows = inequalities (given_rows ds)

    asked : (t : State) → elimination_dropping s.keep rows ≡ Ok t → (f : Found) → found (remaining s.keep ds (rows_of t.standing)) ≡ f → found_kept s (remaining s.keep ds (rows_of t.standing)) f ≡ Some (Some list) → Source s cs list
    asked t i nothing j e =
        let left = left-extends s.keep rows t (inequalities-each IsNormal (given_rows ds) (normal-rows ds n)) (inequalities-plain (given_rows ds)) i in
        let all = remaining s.keep ds (rows_of t.standing) in
        record {
          choice = ds;
          chooses = chooses;
          rows = rows_of t.standing;
          left = left;
          asked = (sat-point all).0 (found-nothing all (remaining-normal s.keep ds (rows_of t.standing) n left.normal) j);
          kept_is = the-list (kept s all) list e;
        }
    asked t i (hint h) j e = absurd (no-list list e)
    asked t i unknown_list j e = absurd (no-answer list e)

    by : (o : Result State Halt) → elimination_dropping s.keep rows ≡ o → left_kept s ds (rows_left o) ≡ Some (Some list) → Source s cs list
    by (Ok t) i e = asked t i (found (remaining s.keep ds (rows_of t.standing))) refl e
    by (Err (halt.Unsat steps)) i e = absurd (no-list list e)
    by (Err halt.Overflow) i e = absurd (no-answer list e)
    by (Err halt.Memory) i e = absurd (no-answer list e)

all-sources : (s : Reading) (cs : List Con) (choices lists : List (List Con)) → Each (Chooses s cs) choices → Each AllNormal choices → all_kept s choices ≡ Some lists → Each (Source s cs) lists
all-sources s cs [] lists h n e = subst (λ (ls : List (List Con)). Each (Source s cs) ls) (the-lists [] lists e) tt
all-sources s cs (ds ∷ rest) lists h n e =
    let f = bind-some (choice_kept s ds) (λ here. all_kept s rest >>= (λ later. Some (option_to_list here ++ later))) lists (sym e) in
    let g = bind-some (all_kept s rest) (λ later. Some (option_to_list f.0 ++ later)) lists f.2 in
    subst (λ (ls : List (List Con)). Each (Source s cs) ls) (the-lists (option_to_list f.0 ++ g.0) lists (sym g.2)) (Each-append (Source s cs) (option_to_list f.0) g.0 (here f.0 (sym f.1)) (all-sources s cs rest g.0 h.1 n.1 (sym g.1)))
  where
    here : (o : Option (List Con)) → choice_kept s ds ≡ Some o → Each (Source s cs) (option_to_list o)
    here None e = tt
    here (Some list) e = (one-source s cs ds list h.0 n.0 e, tt)

-- each alternative of a projection has a source
pub sources : (cs : List Con) (keep : List ℕ) (lists : List (List Con)) → RowsNormal cs → projection cs keep ≡ Some (projected.Alternatives lists) → Each (Source (reading_of cs keep) cs) lists
sources cs keep lists n e =
    let s = reading_of cs keep in
    let p = projects cs keep lists e in
    all-sources s cs p.chosen lists (chosen-chooses s [] ([] ∷ []) cs p.chosen (sym p.chosen_is) (((λ c i. absurd (Contains-none c i)), tt), tt)) (chosen-normal s ([] ∷ []) cs p.chosen (sym p.chosen_is) (tt, tt) (normal-cons cs n)) (sym p.lists_is)

pub source-of : (s : Reading) (cs : List Con) (p : List Con → Bool) (lists : List (List Con)) → Each (Source s cs) lists → list_any p lists ≡ true → (list : List Con) × Source s cs list × (p list ≡ true)
source-of s cs p [] h e = absurd (true≢false (sym e))
source-of s cs p (list ∷ lists) h e = by (λ k. source-of s cs p lists h.1 k) (or_cases (p list) (list_any p lists) e)
  where
    by : (list_any p lists ≡ true → (list : List Con) × Source s cs list × (p list ≡ true)) → (p list ≡ true) ⊎ (list_any p lists ≡ true) → (list : List Con) × Source s cs list × (p list ≡ true)
    by later (inl k) = (list, h.0, k)
    by later (inr k) = later k

-- ---- what a source says

-- what a disequation of these parts may be replaced by
pub options-are : (s : Reading) (t u : Term) (ps : List Part) (b : Bool) → parts_in s t u ≡ Some ps → speak_of_dropped s ps ≡ b → options s (con.Neq t u) ≡ (if b then parts_options s.number ps else Some (con.Neq t u ∷ []))
options-are s t u ps b k d = ap (options_by s (con.Neq t u)) k ∙ ap (λ b. if b then parts_options s.number ps else Some (con.Neq t u ∷ [])) d

-- a point that meets the inequalities meets each row that is no disequation
pub row-met : (q : RationalPoint) (ds : List Con) → MeetsAll q (inequalities (given_rows ds)) → (r : Linear) → Contains ds (con.Row r) → r.op ≢ op.Ne → Holds q r
row-met q ds met r i = given-at (λ (r : Linear). r.op ≢ op.Ne → Holds q r) r ds i (inequalities-back (Holds q) (given_rows ds) met)

-- an option of what has no other is the constraint itself
only-option : (c d : Con) (os : List Con) → ◌≡◌ {A = Option (List Con)} (Some (c ∷ [])) (Some os) → Contains os d → d ≡ c
only-option c d os e i = let same : os ≡ c ∷ [] = cc in sym (Contains-single c d (subst (λ (cs : List Con). Contains cs d) same i))

module _ (s : Reading) (cs list : List Con) (x : Source s cs list) where
  -- what stays of the choice is asked
  pub in-asked : (c : Con) → Contains x.choice c → stays s.keep c ≡ true → Contains (remaining s.keep x.choice x.rows) c
  in-asked c i e = Contains-append_left (filter (stays s.keep) x.choice) (map con.Row (filter (is_new x.choice) x.rows)) c (Contains-filter (stays s.keep) x.choice c i e)

  -- what is asked and speaks of kept variables alone holds where the alternative does
  pub asked-holds : (v : Sub) → is_met_by v list ≡ true → (c : Con) → Contains (remaining s.keep x.choice x.rows) c → con_has s (is_dropped s.keep) c ≡ false → holds v c ≡ true
  asked-holds v m c i e = list_all-member (holds v) (kept s (remaining s.keep x.choice x.rows)) c (ap (is_met_by v) x.kept_is ∙ m) (Contains-filter (λ c. not (con_has s (is_dropped s.keep) c)) (remaining s.keep x.choice x.rows) c i (ap not e))

  rows-in : (rs : List Linear) → Each (λ (r : Linear). row_has (is_dropped s.keep) r ≡ false) rs → Each (λ (r : Linear). Contains (filter (stays s.keep) x.choice) (con.Row r) ⊎ Contains (map con.Row (filter (is_new x.choice) rs)) (con.Row r)) rs
  rows-in [] h = tt
  rows-in (r ∷ rs) h = by (list_any (same_row r) (given_rows x.choice)) refl (rows-in rs h.1)
    where
      Here : List Con → Linear → Type 0
      Here front r = Contains (filter (stays s.keep) x.choice) (con.Row r) ⊎ Contains front (con.Row r)

      wider : (qs : List Linear) (front : List Con) → Each (Here front) qs → Each (Here (con.Row r ∷ front)) qs
      wider [] front h = tt
      wider (q ∷ qs) front h = (one h.0, wider qs front h.1)
        where
          one : Here front q → Here (con.Row r ∷ front) q
          one (inl i) = inl i
          one (inr i) = inr (Contains-there (con.Row r) front (con.Row q) i)

      by : (b : Bool) → list_any (same_row r) (given_rows x.choice) ≡ b → Each (Here (map con.Row (filter (is_new x.choice) rs))) rs → Each (Here (map con.Row (cond (not b) (r ∷ filter (is_new x.choice) rs) (filter (is_new x.choice) rs)))) (r ∷ rs)
      by true e k = (inl (Contains-filter (stays s.keep) x.choice (con.Row r) (given-in r x.choice e) (ap not h.0)), k)
      by false e k = (inr (Contains-here (con.Row r) (map con.Row (filter (is_new x.choice) rs))), wider rs (map con.Row (filter (is_new x.choice) rs)) k)

  -- each row that is left is asked
  pub left-asked : Each (λ (r : Linear). Contains (remaining s.keep x.choice x.rows) (con.Row r)) x.rows
  left-asked = Each-map (λ (r : Linear). Contains (filter (stays s.keep) x.choice) (con.Row r) ⊎ Contains (map con.Row (filter (is_new x.choice) x.rows)) (con.Row r)) (λ (r : Linear). Contains (remaining s.keep x.choice x.rows) (con.Row r)) place x.rows (rows-in x.rows x.left.lack)
    where
      place : (r : Linear) → Contains (filter (stays s.keep) x.choice) (con.Row r) ⊎ Contains (map con.Row (filter (is_new x.choice) x.rows)) (con.Row r) → Contains (remaining s.keep x.choice x.rows) (con.Row r)
      place r (inl j) = Contains-append_left (filter (stays s.keep) x.choice) (map con.Row (filter (is_new x.choice) x.rows)) (con.Row r) j
      place r (inr j) = Contains-append_right (filter (stays s.keep) x.choice) (map con.Row (filter (is_new x.choice) x.rows)) (con.Row r) j

  -- each row that is left holds where the alternative does
  pub left-holds : (v : Sub) → is_met_by v list ≡ true → Each (λ (r : Linear). holds v (con.Row r) ≡ true) x.rows
  left-holds v m = Each-map (λ (r : Linear). (row_has (is_dropped s.keep) r ≡ false) × Contains (remaining s.keep x.choice x.rows) (con.Row r)) (λ (r : Linear). holds v (con.Row r) ≡ true) (λ r k. asked-holds v m (con.Row r) k.1 k.0) x.rows (Each-both (λ (r : Linear). row_has (is_dropped s.keep) r ≡ false) (λ (r : Linear). Contains (remaining s.keep x.choice x.rows) (con.Row r)) x.rows x.left.lack left-asked)

  -- what has no other option and stays is asked
  only-in : (c : Con) → Contains cs c → options s c ≡ Some (c ∷ []) → Contains x.choice c
  only-in c i e =
      let k = x.chooses.0 c i in
      subst (λ (d : Con). Contains x.choice d) (only-option c k.0 k.2.0 (sym e ∙ k.2.1) k.2.2) k.1

  pub only-asked : (c : Con) → Contains cs c → options s c ≡ Some (c ∷ []) → stays s.keep c ≡ true → Contains (remaining s.keep x.choice x.rows) c
  only-asked c i e k = in-asked c (only-in c i e) k

  pub passing : (c : Con) → Contains (remaining s.keep x.choice x.rows) c → is_refuted (remaining s.keep x.choice x.rows) c ≡ false
  passing c i = list_any-none_member (is_refuted (remaining s.keep x.choice x.rows)) (remaining s.keep x.choice x.rows) c (not-false (unifies (remaining s.keep x.choice x.rows)) (list_any (is_refuted (remaining s.keep x.choice x.rows)) (remaining s.keep x.choice x.rows)) x.asked.0).1 i

  -- a point that meets the inequalities of the choice, and what is asked of kept variables, meets the rows of the list
  pub row-meets : (q : RationalPoint) → MeetsAll q (inequalities (given_rows x.choice)) → ((r : Linear) → Contains (remaining s.keep x.choice x.rows) (con.Row r) → row_has (is_dropped s.keep) r ≡ false → Holds q r) → (r : Linear) → Contains cs (con.Row r) → Holds q r
  row-meets q met kept_met r i = by r.op refl
    where
      alone : (o : Op) → r.op ≡ o → o ≢ op.Ne → row_options s.keep o r ≡ con.Row r ∷ [] → Holds q r
      alone o e n k = row-met q x.choice met r (only-in (con.Row r) i (ap Some (ap (λ o. row_options s.keep o r) e ∙ k))) (λ h. n (sym e ∙ h))

      side : (d : Con) → r.op ≡ op.Ne → Contains (con.Row (below r) ∷ con.Row (above r) ∷ []) d → Contains x.choice d → Holds q r
      side d e k j =
          elim (Contains-cases (con.Row (below r)) (con.Row (above r) ∷ []) d k) [
            | inl first ↦ below-differs q r e (row-met q x.choice met (below r) (subst (Contains x.choice) (sym first) j) (λ h. cc))
            | inr second ↦ above-differs q r e (row-met q x.choice met (above r) (subst (Contains x.choice) (sym (Contains-single (con.Row (above r)) d second)) j) (λ h. cc))
          ]

      apart : r.op ≡ op.Ne → (b : Bool) → row_has (is_dropped s.keep) r ≡ b → Holds q r
      apart e true d =
          let c = x.chooses.0 (con.Row r) i in
          let is : row_options s.keep r.op r ≡ con.Row (below r) ∷ con.Row (above r) ∷ [] = ap (λ o. row_options s.keep o r) e ∙ ap (λ b. if b then con.Row (below r) ∷ con.Row (above r) ∷ [] else con.Row r ∷ []) d in
          let k = c.2.1 in
          let os : c.2.0 ≡ row_options s.keep r.op r = cc in
          side c.0 e (subst (λ (ds : List Con). Contains ds c.0) (os ∙ is) c.2.2) c.1
      apart e false d =
          let is : row_options s.keep r.op r ≡ con.Row r ∷ [] = ap (λ o. row_options s.keep o r) e ∙ ap (λ b. if b then con.Row (below r) ∷ con.Row (above r) ∷ [] else con.Row r ∷ []) d in
          kept_met r (only-asked (con.Row r) i (ap Some is) (ap not d)) d

      by : (o : Op) → r.op ≡ o → Holds q r
      by op.Eq e = alone op.Eq e (λ h. cc) refl
      by op.Lt e = alone op.Lt e (λ h. cc) refl
      by op.Le e = alone op.Le e (λ h. cc) refl
      by op.Ne e = apart e (row_has (is_dropped s.keep) r) refl
