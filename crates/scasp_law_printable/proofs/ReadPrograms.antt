-- A program that is read of a text, translated, is within the table that reading and translating leave.
use Rattle.std.specs.Prelude.{◌≡◌, ℕ, zero, suc, ◌+◌, ◌-◌, ◌<◌, ◌≤◌, ◌^◌, nat_le, nat_lt, Bool, true, false, ◌&&◌, ◌||◌, ◌==◌, if◌then◌else◌, Option, None, Some, List, [], ◌∷◌, ◌++◌, codes, length, map, filter, Result, Ok, Err}
use Rattle.std.specs.List.{flat_map, list_all}
use Rattle.std.proofs.Common.{ap, arith, refl, subst, sym}
use Rattle.std.proofs.lemmas.Bool.{and_parts, leb-true, ltb-true, eqb-true}
use Rattle.std.proofs.lemmas.List.{length-append}
use Rattle.std.proofs.lemmas.Slice.Eq.{bytes_eq-Decides}
use Rattle.std.proofs.lemmas.Str.{IsUtf8-from_is_utf8}
use Rattle.std.specs.Char.{encode_utf8}
use Rattle.std.specs.Str.{bytes_eq, chars, is_utf8}
use Rattle.scasp_abduce.specs.NewNames.{Named, negated, named as placed, new_name, place_of, text_of}
use Rattle.scasp_abduce.specs.Occurrences.{has, names_of}
use Rattle.scasp_abduce.specs.Translation.{Choice, IsTranslation, choice_rules, opposed, translation, unless}
use Rattle.scasp_cert.specs.Text.Terms.{is_pair}
use Rattle.scasp_law_program_text.specs.ClauseReadback.Fitting.{arguments_fit, atom_fits, body_fits, item_fits}
use Rattle.scasp_law_program_text.specs.ClauseReadback.Parts.{abducible_fits, clause_fits, count_parts, is_count, name_fits, parts_fit, query_fits, query_style, rule_style}
use Rattle.scasp_law_program_text.specs.ClauseReadback.Texts.{abducibles_fit}
use Rattle.scasp_law_program_text.specs.CompoundReadback.Fitting.{all_fit, app_fits, call_fits, fits, pair_fits, rest_fits, tail_fits, tails_fit}
use Rattle.scasp_law_program_text.specs.CompoundReadback.Styles.{IsTable, are_variables}
use Rattle.scasp_law_program_text.proofs.FittingLemmas.Texts.{read-fits}
use Rattle.scasp_list.specs.Each.{Each}
use Rattle.scasp_list.proofs.EachLemmas.{Each-append, Each-filter, Each-from_test, Each-map}
use Rattle.scasp_name.specs.Texts.{BeginWithLists, has_text, list_names, with_text}
use Rattle.scasp_num.specs.Linear.{is_normal}
use Rattle.scasp_num.proofs.NormalTests.{normal-decided}
use Rattle.scasp_print_program.specs.Terms.{Style}
use Rattle.scasp_reader.specs.declared.bodies.atoms.TheConstants.{DEPTH_LIMIT}
use Rattle.scasp_reader.specs.Programs.Programs.{completed, program_in, reading_of}
use Rattle.scasp_reader.specs.Texts.Texts.{read}
use Rattle.scasp_reader.specs.declared.texts.texts.Reading.{Reading}
use Rattle.scasp_reader_terms.specs.declared.fault.Fault.{Fault}
use Rattle.scasp_reader_terms.specs.declared.reader.TheConstants.{VARIABLE_LIMIT}
use Rattle.scasp_reader_terms.specs.declared.terms.TheConstants.{ARITY_LIMIT}
use Rattle.scasp_syntax.specs.Denials.{denial_of, generated_denials, variables_from, with_denials}
use Rattle.scasp_syntax.specs.Programs.{predicates_in}
use Rattle.scasp_syntax.specs.Tm.{Tm, Tms, var, num, app, nil, cons, items}
use Rattle.scasp_syntax.specs.View.{tm_of}
use Rattle.scasp_syntax.specs.WellFormed.{are_abducible, lists_variables}
use Rattle.scasp_syntax.specs.declared.atom.Atom.{Atom}
use Rattle.scasp_syntax.specs.declared.atom.Pred.{Pred}
use Rattle.scasp_syntax.specs.declared.clause.Clause.{Clause}
use Rattle.scasp_syntax.specs.declared.clause.Item.{Item}
use Rattle.scasp_syntax.specs.declared.clause.Item.TheVariants as item
use Rattle.scasp_syntax.specs.declared.clause.Query.{Query}
use Rattle.scasp_syntax.specs.declared.program.Program.{Program}
use Rattle.scasp_law_printable.specs.Within.{AllWithin, AtomWithin, ClauseWithin, HeadWithin, ItemWithin, ProgramWithin, QueryWithin, Within}
use Rattle.scasp_law_printable.proofs.Larger.{clause-larger, query-larger}
use Rattle.scasp_law_printable.proofs.Predicates.{PredWithin, predicates-within}

-- ---- what fits is within the table

few : (n : ℕ) → nat_le n ARITY_LIMIT ≡ true → n < 2 ^ 64
few n e = let l = leb-true n ARITY_LIMIT e in omega (arith, l)

module _ (w : Style) where
  called-few : (room : ℕ) (ts : Tms) (b : Bool) → call_fits room ts b ≡ true → (length (items ts) < 2 ^ 64) × (b ≡ true)
  called-few room ts b e =
      let h = and_parts (nat_lt 0 room && nat_le (length (items ts)) ARITY_LIMIT) b e in
      (few (length (items ts)) (and_parts (nat_lt 0 room) (nat_le (length (items ts)) ARITY_LIMIT) h.0).1, h.1)

  pair-few : (f : ℕ) (ts : Tms) → is_pair f ts ≡ true → length (items ts) < 2 ^ 64
  pair-few f ts e = let l : length (items ts) ≡ 2 = eqb-true (length (items ts)) 2 (and_parts (f == 1) (length (items ts) == 2) e).1 in omega (arith, l)

  mutual
    fits-within : (room : ℕ) (t : Tm) → fits w room t ≡ true → Within (length w.names) t
    fits-within room (var x) e = tt
    fits-within room (num q) e = e
    fits-within room (app f nil) e = (ltb-true f (length w.names) (and_parts (nat_lt f (length w.names)) true e).0, omega arith, tt)
    fits-within room (app f (cons t ts)) e =
        let h = and_parts (nat_lt f (length w.names)) (app_fits room f (cons t ts) (all_fit w (room - 1) (cons t ts)) (pair_fits w (room - 1) (cons t ts))) e in
        let k = by (is_pair f (cons t ts)) refl h.1 (all-fit-within (room - 1) (cons t ts)) (pair-fits-within (room - 1) (cons t ts)) in (ltb-true f (length w.names) h.0, k.0, k.1)
      where
        by : (b : Bool) → is_pair f (cons t ts) ≡ b → (if b then nat_lt 0 room && pair_fits w (room - 1) (cons t ts) else call_fits room (cons t ts) (all_fit w (room - 1) (cons t ts))) ≡ true
            → (all_fit w (room - 1) (cons t ts) ≡ true → AllWithin (length w.names) (cons t ts)) → (pair_fits w (room - 1) (cons t ts) ≡ true → AllWithin (length w.names) (cons t ts))
            → (length (items (cons t ts)) < 2 ^ 64) × AllWithin (length w.names) (cons t ts)
        by true p g all pair = (pair-few f (cons t ts) p, pair (and_parts (nat_lt 0 room) (pair_fits w (room - 1) (cons t ts)) g).1)
        by false p g all pair = let k = called-few room (cons t ts) (all_fit w (room - 1) (cons t ts)) g in (k.0, all k.1)

    tail-fits-within : (room : ℕ) (t : Tm) → tail_fits w room t ≡ true → Within (length w.names) t
    tail-fits-within room (var x) e = tt
    tail-fits-within room (num q) e = e
    tail-fits-within room (app f nil) e = (ltb-true f (length w.names) (and_parts (nat_lt f (length w.names)) true e).0, omega arith, tt)
    tail-fits-within room (app f (cons t ts)) e =
        let h = and_parts (nat_lt f (length w.names)) (rest_fits room f (cons t ts) (all_fit w (room - 1) (cons t ts)) (pair_fits w room (cons t ts))) e in
        let k = by (is_pair f (cons t ts)) refl h.1 (all-fit-within (room - 1) (cons t ts)) (pair-fits-within room (cons t ts)) in (ltb-true f (length w.names) h.0, k.0, k.1)
      where
        by : (b : Bool) → is_pair f (cons t ts) ≡ b → (if b then pair_fits w room (cons t ts) else call_fits room (cons t ts) (all_fit w (room - 1) (cons t ts))) ≡ true
            → (all_fit w (room - 1) (cons t ts) ≡ true → AllWithin (length w.names) (cons t ts)) → (pair_fits w room (cons t ts) ≡ true → AllWithin (length w.names) (cons t ts))
            → (length (items (cons t ts)) < 2 ^ 64) × AllWithin (length w.names) (cons t ts)
        by true p g all pair = (pair-few f (cons t ts) p, pair g)
        by false p g all pair = let k = called-few room (cons t ts) (all_fit w (room - 1) (cons t ts)) g in (k.0, all k.1)

    all-fit-within : (room : ℕ) (ts : Tms) → all_fit w room ts ≡ true → AllWithin (length w.names) ts
    all-fit-within room nil e = tt
    all-fit-within room (cons t ts) e = let h = and_parts (fits w room t) (all_fit w room ts) e in (fits-within room t h.0, all-fit-within room ts h.1)

    pair-fits-within : (room : ℕ) (ts : Tms) → pair_fits w room ts ≡ true → AllWithin (length w.names) ts
    pair-fits-within room nil e = tt
    pair-fits-within room (cons t ts) e = let h = and_parts (fits w room t) (tails_fit w room ts) e in (fits-within room t h.0, tails-fit-within room ts h.1)

    tails-fit-within : (room : ℕ) (ts : Tms) → tails_fit w room ts ≡ true → AllWithin (length w.names) ts
    tails-fit-within room nil e = tt
    tails-fit-within room (cons t ts) e = let h = and_parts (tail_fits w room t) (tails_fit w room ts) e in (tail-fits-within room t h.0, tails-fit-within room ts h.1)

  atom-fits-within : (a : Atom) → atom_fits w a ≡ true → AtomWithin (length w.names) a
  atom-fits-within a e =
      let h = and_parts _ (arguments_fit w a.args) e in
      let k = by a.args h.1 in (ltb-true a.name (length w.names) (and_parts (nat_lt a.name (length w.names)) _ h.0).0, k.0, k.1)
    where
      by : (ts : Tms) → arguments_fit w ts ≡ true → (length (items ts) < 2 ^ 64) × AllWithin (length w.names) ts
      by nil f = (omega arith, tt)
      by (cons t ts) f = let k = called-few DEPTH_LIMIT (cons t ts) (all_fit w (DEPTH_LIMIT - 1) (cons t ts)) f in (k.0, all-fit-within (DEPTH_LIMIT - 1) (cons t ts) k.1)

  item-fits-within : (i : Item) → item_fits w i ≡ true → ItemWithin (length w.names) i
  item-fits-within (item.Call l) e = atom-fits-within l.atom e
  item-fits-within (item.Equal t u) e = let h = and_parts _ (fits w _ (tm_of u)) e in (fits-within _ (tm_of t) h.0, fits-within _ (tm_of u) h.1)
  item-fits-within (item.Differ t u) e = let h = and_parts _ (fits w _ (tm_of u)) e in (fits-within _ (tm_of t) h.0, fits-within _ (tm_of u) h.1)
  item-fits-within (item.Linear l) e = (normal-decided l.row).0 (and_parts (lists_variables l && list_all (λ x. nat_lt x (length w.variables)) l.vars) (is_normal l.row) e).1

  body-fits-within : (is : List Item) → body_fits w is ≡ true → Each (ItemWithin (length w.names)) is
  body-fits-within [] e = tt
  body-fits-within (i ∷ is) e = Each-from_test (item_fits w) (ItemWithin (length w.names)) item-fits-within (i ∷ is) (and_parts (list_all (item_fits w) (i ∷ is)) _ e).0

  parts-fit-within : (o : Option Atom) (is : List Item) → parts_fit w o is ≡ true → HeadWithin (length w.names) o × Each (ItemWithin (length w.names)) is
  parts-fit-within None is e = (tt, body-fits-within is e)
  parts-fit-within (Some a) [] e = (atom-fits-within a e, tt)
  parts-fit-within (Some a) (i ∷ is) e = let h = and_parts (atom_fits w a) (body_fits w (i ∷ is)) e in (atom-fits-within a h.0, body-fits-within (i ∷ is) h.1)

module _ (names : List (List ℕ)) where
  clause-fits-within : (c : Clause) → clause_fits names c ≡ true → ClauseWithin (length names) c
  clause-fits-within c e =
      let w = rule_style names c.vars in
      let h = and_parts (nat_le c.vars VARIABLE_LIMIT && parts_fit w c.head c.body) (is_count (count_parts w c.head c.body) c.vars) e in
      parts-fit-within w c.head c.body (and_parts (nat_le c.vars VARIABLE_LIMIT) (parts_fit w c.head c.body) h.0).1

  query-fits-within : (q : Query) → query_fits names q ≡ true → QueryWithin (length names) q
  query-fits-within q e =
      let w = query_style names q.names in
      let h = and_parts (are_variables w.variables && list_all (name_fits names) q.names && body_fits w q.body) _ e in
      body-fits-within w q.body (and_parts (are_variables w.variables && list_all (name_fits names) q.names) (body_fits w q.body) h.0).1

-- ---- generated rules

variables-count : (x n : ℕ) → length (items (variables_from x n)) ≡ n
variables-count x zero = refl
variables-count x (suc n) = ap suc (variables-count (x + 1) n)

module _ (count : ℕ) where
  variables-within : (x n : ℕ) → AllWithin count (variables_from x n)
  variables-within x zero = tt
  variables-within x (suc n) = (tt, variables-within (x + 1) n)

  called-within : (f n : ℕ) → f < count → n < 2 ^ 64 → Within count (app f (variables_from 0 n))
  called-within f n l k = (l, subst (λ (m : ℕ). m < 2 ^ 64) (sym (variables-count 0 n)) k, variables-within 0 n)

  denial-within : (p : Pred) → PredWithin count p → ClauseWithin count (denial_of p)
  denial-within p h = (tt, (called-within p.name p.arity h.0 h.1, (called-within p.name p.arity h.0 h.1, tt)))

  denials-within : (ps : List Pred) → Each (PredWithin count) ps → Each (ClauseWithin count) (map denial_of ps)
  denials-within [] h = tt
  denials-within (p ∷ ps) h = (denial-within p h.0, denials-within ps h.1)

  completed-within : (cs : List Clause) (qs : List Query) → Each (ClauseWithin count) cs → Each (QueryWithin count) qs → Each (ClauseWithin count) (with_denials cs qs)
  completed-within cs qs h k =
      Each-append (ClauseWithin count) cs (generated_denials cs qs) h
      (denials-within (filter (λ p. p.minus) (predicates_in cs qs)) (Each-filter (PredWithin count) (λ p. p.minus) (predicates_in cs qs) (predicates-within count cs qs h k)))

  -- a predicate and its opposite, which has as many arguments
  abbrev ChoiceWithin : Choice → Type 0
  ChoiceWithin c = PredWithin count c.pred × PredWithin count c.opposite

  unless-within : (p q : Pred) → PredWithin count p → PredWithin count q → p.arity ≡ q.arity → ClauseWithin count (unless p q)
  unless-within p q h k e =
      (called-within p.name p.arity h.0 h.1, ((k.0, subst (λ (m : ℕ). m < 2 ^ 64) (sym (variables-count 0 p.arity)) h.1, variables-within 0 p.arity), tt))

-- ---- new names

placed-below : (table : List (List ℕ)) (text : List ℕ) → has_text table text ≡ true → place_of table text < length table
placed-below [] text e = absurd (cc e)
placed-below (t ∷ table) text e = by (bytes_eq text t) e (placed-below table text)
  where
    by : (b : Bool) → (b || has_text table text) ≡ true → (has_text table text ≡ true → place_of table text < length table) → (if b then 0 else place_of table text + 1) < suc (length table)
    by true g rest = omega arith
    by false g rest = let k = rest g in omega (arith, k)

last-below : (table : List (List ℕ)) (text : List ℕ) → place_of (table ++ text ∷ []) text < length (table ++ text ∷ [])
last-below [] text = by (bytes_eq text text) (bytes_eq-Decides text text).1
  where
    by : (b : Bool) → (text ≡ text → b ≡ true) → (if b then 0 else 1) < 1
    by true h = omega arith
    by false h = absurd (cc (h refl))
last-below (t ∷ table) text = by (bytes_eq text t) (last-below table text)
  where
    by : (b : Bool) → place_of (table ++ text ∷ []) text < length (table ++ text ∷ []) → (if b then 0 else place_of (table ++ text ∷ []) text + 1) < suc (length (table ++ text ∷ []))
    by true k = omega arith
    by false k = omega (arith, k)

-- a text that is put into a table has its place there
put-below : (names : List (List ℕ)) (text : List ℕ) → (length names ≤ length (with_text names text)) × (place_of (with_text names text) text < length (with_text names text))
put-below names text = by (has_text names text) refl
  where
    by : (b : Bool) → has_text names text ≡ b
        → (length names ≤ length (if b then names else names ++ text ∷ [])) × (place_of (if b then names else names ++ text ∷ []) text < length (if b then names else names ++ text ∷ []))
    by true e = (omega arith, placed-below names text e)
    by false e = (let k = length-append names (text ∷ []) in omega (arith, k), last-below names text)

abbrev IsPlaced : List (List ℕ) → Named → Type 0
IsPlaced names n = (length names ≤ length n.names) × (n.name < length n.names)

new-placed : (taken : List ℕ) (tries : ℕ) (names : List (List ℕ)) (text : List ℕ) → IsPlaced names (new_name taken tries names text)
new-placed taken zero names text = put-below names (negated text)
new-placed taken (suc tries) names text = by (has taken (placed names (negated text)).name) (new-placed taken tries (placed names (negated text)).names (negated text))
  where
    by : (b : Bool) → IsPlaced (placed names (negated text)).names (new_name taken tries (placed names (negated text)).names (negated text))
        → IsPlaced names (if b then new_name taken tries (placed names (negated text)).names (negated text) else placed names (negated text))
    by true k = (let one = put-below names (negated text) in omega (arith, one.0, k.0), k.1)
    by false k = put-below names (negated text)

-- ---- choices

pred-larger : (n m : ℕ) → n ≤ m → (p : Pred) → PredWithin n p → PredWithin m p
pred-larger n m l p h = (let k = h.0 in omega (arith, l, k), h.1)

abbrev Opposes : ℕ → Choice → Type 0
Opposes count c = ChoiceWithin count c × (c.pred.arity ≡ c.opposite.arity)

opposed-within : (taken : List ℕ) (names : List (List ℕ)) (ps : List Pred) → Each (PredWithin (length names)) ps
    → (length names ≤ length (opposed taken names ps).names) × Each (Opposes (length (opposed taken names ps).names)) (opposed taken names ps).choices
opposed-within taken names [] h = (omega arith, tt)
opposed-within taken names (p ∷ ps) h =
    let new : Named = new_name taken (length taken) names (text_of names p.name) in
    let is : IsPlaced names new = new-placed taken (length taken) names (text_of names p.name) in
    let rest = opposed-within (new.name ∷ taken) new.names ps (Each-map (PredWithin (length names)) (PredWithin (length new.names)) (λ q k. pred-larger (length names) (length new.names) is.0 q k) ps h.1) in
    let all : ℕ = length (opposed (new.name ∷ taken) new.names ps).names in
    let more : length names ≤ all = (let a = is.0 in let b = rest.0 in omega (arith, a, b)) in (
      more,
      (((pred-larger (length names) all more p h.0, (let a = is.1 in let b = rest.0 in omega (arith, a, b), h.0.1)), refl), rest.1),
    )

choices-within : (count : ℕ) (cs : List Choice) → Each (Opposes count) cs → Each (ClauseWithin count) (flat_map choice_rules cs)
choices-within count [] h = tt
choices-within count (c ∷ cs) h = (
  unless-within count c.pred c.opposite h.0.0.0 h.0.0.1 h.0.1,
  (unless-within count c.opposite c.pred h.0.0.1 h.0.0.0 (sym h.0.1), choices-within count cs h.1),
)

-- ---- programs

translated-within : (names : List (List ℕ)) (written p : Program) (table : List (List ℕ)) → IsTranslation names written p table → ProgramWithin (length names) written
    → Each (PredWithin (length names)) written.abducibles → (length names ≤ length table) × ProgramWithin (length table) p
translated-within names written p table is h k =
    let all = opposed-within (names_of written.clauses written.queries written.abducibles) names written.abducibles k in
    let more : length names ≤ length table = subst (λ (t : List (List ℕ)). length names ≤ length t) (sym is.names) all.0 in
    let choices : Each (Opposes (length table)) (translation names written).choices = subst (λ (t : List (List ℕ)). Each (Opposes (length t)) (translation names written).choices) (sym is.names) all.1 in
    let clauses : Each (ClauseWithin (length table)) (written.clauses ++ flat_map choice_rules (translation names written).choices) =
    Each-append (ClauseWithin (length table)) written.clauses (flat_map choice_rules (translation names written).choices)
    (Each-map (ClauseWithin (length names)) (ClauseWithin (length table)) (clause-larger (length names) (length table) more) written.clauses h.clauses)
    (choices-within (length table) (translation names written).choices choices) in
    let queries = Each-map (QueryWithin (length names)) (QueryWithin (length table)) (query-larger (length names) (length table) more) written.queries h.queries in (
      more,
      record {
        clauses = subst (Each (ClauseWithin (length table))) (sym is.clauses) clauses;
        queries = subst (Each (QueryWithin (length table))) (sym is.queries) queries;
      },
    )

abbrev ReadingWithin : Reading → Type 0
ReadingWithin r =
    Each (ClauseWithin (length r.names)) r.clauses × Each (QueryWithin (length r.names)) r.queries × Each (PredWithin (length r.names)) r.abducibles × IsTable r.names

reading-within : (names : List (List ℕ)) (bytes : List ℕ) (r : Reading) → IsTable names → read names bytes ≡ Ok r → ReadingWithin r
reading-within names bytes r table e =
    let f = read-fits names bytes r e table in
    let a = and_parts (abducibles_fit r.names r.abducibles && list_all (clause_fits r.names) r.clauses && list_all (query_fits r.names) r.queries) _ f.1 in
    let b = and_parts (abducibles_fit r.names r.abducibles && list_all (clause_fits r.names) r.clauses) (list_all (query_fits r.names) r.queries) a.0 in
    let c = and_parts (abducibles_fit r.names r.abducibles) (list_all (clause_fits r.names) r.clauses) b.0 in (
      Each-from_test (clause_fits r.names) (ClauseWithin (length r.names)) (clause-fits-within r.names) r.clauses c.1,
      Each-from_test (query_fits r.names) (QueryWithin (length r.names)) (query-fits-within r.names) r.queries b.1,
      Each-from_test (abducible_fits r.names) (PredWithin (length r.names)) one r.abducibles (and_parts (are_abducible r.abducibles) (list_all (abducible_fits r.names) r.abducibles) c.0).1,
      f.0,
    )
  where
    one : (p : Pred) → abducible_fits r.names p ≡ true → PredWithin (length r.names) p
    one p g = let h = and_parts (nat_lt p.name (length r.names)) (nat_le p.arity ARITY_LIMIT) g in (ltb-true p.name (length r.names) h.0, few p.arity h.1)

-- the names of lists are a table
pub lists-table : IsTable list_names
unfolding is_utf8 chars encode_utf8
lists-table = record {
  utf8 = (IsUtf8-from_is_utf8 (codes "[]") refl, (IsUtf8-from_is_utf8 (codes "[|]") refl, tt));
  distinct = (refl, (refl, tt));
  lists = record { nil = refl; pair = refl };
}

-- a table with the two names of lists has more than one
pub two-names : (names : List (List ℕ)) → BeginWithLists names → 1 < length names
two-names [] h = absurd (cc h.nil)
two-names (n ∷ []) h = absurd (cc h.pair)
two-names (n ∷ m ∷ names) h = omega arith

pub program-within : (bytes : List ℕ) (written p : Program) (names table : List (List ℕ)) → program_in list_names bytes ≡ Ok (reading_of (written, names)) → IsTranslation names written p table
    → (1 < length table) × ProgramWithin (length table) p
program-within bytes written p names table e is = by (read list_names bytes) refl e
  where
    by : (o : Result Reading Fault) → read list_names bytes ≡ o → completed o ≡ Ok (reading_of (written, names)) → (1 < length table) × ProgramWithin (length table) p
    by (Err f) g k = absurd (cc k)
    by (Ok r) g k =
        let w : ReadingWithin r = reading-within list_names bytes r lists-table g in
        let same : record r { clauses = with_denials r.clauses r.queries } ≡ reading_of (written, names) = cc k in
        let P : Reading → Type 0 = λ x. Each (ClauseWithin (length x.names)) x.clauses × Each (QueryWithin (length x.names)) x.queries × Each (PredWithin (length x.names)) x.abducibles × IsTable x.names in
        let h : P (reading_of (written, names)) = subst P same (completed-within (length r.names) r.clauses r.queries w.0 w.1, w.1, w.2, w.3) in
        let t = translated-within names written p table is (record { clauses = h.0; queries = h.1 }) h.2 in
        let two = two-names names h.3.lists in
        (let l = t.0 in omega (arith, l, two), t.1)
