-- A certificate whose trees the lines of a whole search make is accepted.
use Rattle.std.specs.Prelude.{◌≡◌, ℕ, zero, suc, ◌+◌, ◌<◌, ◌≤◌, nat_lt, Bool, true, false, ◌||◌, not, if◌then◌else◌, Option, Some, None, List, [], ◌∷◌, ◌++◌, map, slice_get, length}
use Rattle.std.specs.List.{list_all, list_any, flat_map}
use Rattle.std.proofs.Common.{◌∙◌, refl, ap, sym, subst, arith}
use Rattle.std.proofs.lemmas.Bool.{and_from, and_parts, or_left, or_right}
use Rattle.std.proofs.lemmas.List.Folds.{list_all-append}
use Rattle.std.proofs.lemmas.Option.{slice_get_within}
use Rattle.scasp_list.specs.Each.{Each}
use Rattle.scasp_list.proofs.EachLemmas.{Each-append, Each-at, Each-map}
use Rattle.scasp_checker_rules.specs.Accepted.{Accepts, LineHolds, AreApart}
use Rattle.scasp_checker_rules.specs.Faults.{is_map_of, are_single}
use Rattle.scasp_checker_rules.specs.Pairs.{all_pairs}
use Rattle.scasp_checker_rules.specs.Targets.{is_around}
use Rattle.scasp_checker_rules.specs.Told.{told_at, all_told}
use Rattle.scasp_checker_rules.specs.Wholes.{Whole, whole_of, check_number, number_before}
use Rattle.scasp_checker_rules.proofs.TestLemmas.{lt-from, lt-is}
use Rattle.scasp_cert.specs.Certificate.{Certificate}
use Rattle.scasp_cert.specs.Lines.{lines_below, lines_under}
use Rattle.scasp_cert.specs.Trees.{Tree, Branch, listed}
use Rattle.scasp_graph.proofs.NumberingLemmas.{are_distinct}
use Rattle.scasp_graph.proofs.PredLemmas.{pred_same}
use Rattle.scasp_graph.specs.RightMap.{pred_in}
use Rattle.scasp_lines.specs.Dues.{Due, query_dues}
use Rattle.scasp_lines.specs.Lines.{free_of, setting, lines, query_walk}
use Rattle.scasp_lines.specs.Places.{Around, start}
use Rattle.scasp_lines.specs.Walk.{Part, of_node, of_rule, of_check, of_case, Line, checks_walk}
use Rattle.scasp_lines.proofs.WalkLemmas.{certificate-runs, found-number}
use Rattle.scasp_law_outcomes.proofs.Standing.{check_in}
use Rattle.scasp_search_rules.specs.declared.states.lines.Line.{Line as Written}
use Rattle.scasp_search_rules.specs.declared.states.lines.Line.TheVariants as line
use Rattle.scasp_search_rules.specs.Successors.Answers.{part_lists, hint_lists}
use Rattle.scasp_syntax.specs.Flat.{flat_body}
use Rattle.scasp_syntax.specs.Programs.{numbered, predicates}
use Rattle.scasp_syntax.specs.Same.{same_pred}
use Rattle.scasp_syntax.specs.Tm.{Tms, nil, items}
use Rattle.scasp_syntax.specs.Values.{are_ground, giving}
use Rattle.scasp_syntax.specs.declared.atom.Pred.{Pred}
use Rattle.scasp_syntax.specs.declared.clause.Clause.{Clause}
use Rattle.scasp_syntax.specs.declared.clause.Query.{Query}
use Rattle.scasp_syntax.specs.declared.predicate_map.PredMap.{PredMap}
use Rattle.scasp_syntax.specs.declared.program.Program.{Program}
use Rattle.scasp_law_propositional.proofs.PropositionalLemmas.Backing.{ats}
use Rattle.scasp_law_propositional.proofs.PropositionalLemmas.Counting.{Rises}
use Rattle.scasp_law_propositional.proofs.PropositionalLemmas.Holding.{PlainTold, is_plain_around, SeesWell, ChecksWell, IsLineOf, Fine, count-good, nodes-fine, checks-fine}
use Rattle.scasp_law_propositional.proofs.PropositionalLemmas.Passing.{SeenRight, AreSeen}
use Rattle.scasp_law_propositional.proofs.PropositionalLemmas.Plains.{IsPlain, item_due, PlainClause, dues-plain}
use Rattle.scasp_law_propositional.proofs.PropositionalLemmas.Shapes.{is_literal_line, line_at, node_at, ChecksLine, GoodTrees, GoodChecks}

-- ---- lists

get-within : {A : Type 0} (xs : List A) (i : ℕ) → i < length xs → (x : A) × (slice_get xs i ≡ Some x)
get-within [] i h = absurd (omega (arith, h))
get-within (x ∷ xs) zero h = (x, refl)
get-within (x ∷ xs) (suc i) h = let less : i < length xs = omega (arith, h) in get-within xs i less

all-flat : {A : Type 0} (p : ℕ → Bool) (f : A → List ℕ) (xs : List A) → Each (λ (x : A). list_all p (f x) ≡ true) xs → list_all p (flat_map f xs) ≡ true
all-flat p f [] h = refl
all-flat p f (x ∷ xs) h = list_all-append p (f x) (flat_map f xs) ∙ and_from (list_all p (f x)) (list_all p (flat_map f xs)) h.0 (all-flat p f xs h.1)

pub none-flat : {A B : Type 0} (f : A → List B) (xs : List A) → Each (λ (x : A). f x ≡ []) xs → flat_map f xs ≡ []
none-flat f [] h = refl
none-flat f (x ∷ xs) h = ap (λ z. z ++ flat_map f xs) h.0 ∙ none-flat f xs h.1

pub each-flat : {A B : Type 0} (P : B → Type 0) (f : A → List B) (xs : List A) → Each (λ (x : A). Each P (f x)) xs → Each P (flat_map f xs)
each-flat P f [] h = tt
each-flat P f (x ∷ xs) h = Each-append P (f x) (flat_map f xs) h.0 (each-flat P f xs h.1)

-- ---- clauses that are checked, in their order

-- a check that comes later is of a later clause
check-from : (n : ℕ) (ls : List Written) (i k first : ℕ) → Rises n (flat_map check_in ls) → slice_get ls i ≡ Some (line.Check k first) → n ≤ k
check-from n [] i k first h e = absurd (cc e)
check-from n (line.Check j g ∷ ls) zero k first h e =
    let low = h.0 in
    let same : j ≡ k = cc e in omega (arith, low, same)
check-from n (l ∷ ls) zero k first h e = absurd (cc e)
check-from n (line.Check j g ∷ ls) (suc i) k first h e =
    let low = h.0 in
    let more = check-from (suc j) ls i k first h.1 e in omega (arith, low, more)
check-from n (l ∷ ls) (suc i) k first h e = check-from n ls i k first h e

check-order : (n : ℕ) (ls : List Written) (i later j k f g : ℕ) → Rises n (flat_map check_in ls) → i < later
    → slice_get ls i ≡ Some (line.Check j f) → slice_get ls later ≡ Some (line.Check k g) → j < k
check-order n [] i later j k f g h e a b = absurd (cc a)
check-order n (line.Check m d ∷ ls) zero zero j k f g h e a b = absurd (omega (arith, e))
check-order n (line.Check m d ∷ ls) zero (suc later) j k f g h e a b =
    let same : m ≡ j = cc a in
    let more = check-from (suc m) ls later k g h.1 b in omega (arith, same, more)
check-order n (line.Check m d ∷ ls) (suc i) zero j k f g h e a b = absurd (omega (arith, e))
check-order n (line.Check m d ∷ ls) (suc i) (suc later) j k f g h e a b =
    let less : i < later = omega (arith, e) in check-order (suc m) ls i later j k f g h.1 less a b
check-order n (l ∷ ls) zero later j k f g h e a b = absurd (cc a)
check-order n (l ∷ ls) (suc i) zero j k f g h e a b = absurd (omega (arith, e))
check-order n (l ∷ ls) (suc i) (suc later) j k f g h e a b =
    let less : i < later = omega (arith, e) in check-order n ls i later j k f g h less a b

-- ---- the map

any-pred : (x : Pred) (ms : List PredMap) → list_any (λ m. same_pred x m.pred) ms ≡ list_any (same_pred x) (map pred_in ms)
any-pred x [] = refl
any-pred x (m ∷ ms) = ap (λ (z : Bool). same_pred x m.pred || z) (any-pred x ms)

single-map : (ms : List PredMap) → are_distinct (map pred_in ms) ≡ true → are_single ms ≡ true
single-map [] h = refl
single-map (m ∷ ms) h =
    let k = and_parts (not (list_any (same_pred m.pred) (map pred_in ms))) (are_distinct (map pred_in ms)) h in
    and_from (not (list_any (λ n. same_pred m.pred n.pred) ms)) (are_single ms) (ap not (any-pred m.pred ms) ∙ k.0) (single-map ms k.1)

known-map : (known : List Pred) (ms : List PredMap) → ((x : Pred) → list_any (same_pred x) (map pred_in ms) ≡ true → list_any (same_pred x) known ≡ true)
    → list_all (λ m. list_any (same_pred m.pred) known) ms ≡ true
known-map known [] h = refl
known-map known (m ∷ ms) h =
    and_from (list_any (same_pred m.pred) known) (list_all (λ n. list_any (same_pred n.pred) known) ms)
    (h m.pred (or_left (same_pred m.pred m.pred) (list_any (same_pred m.pred) (map pred_in ms)) (pred_same m.pred)))
    (known-map known ms (λ x e. h x (or_right (same_pred x m.pred) (list_any (same_pred x) (map pred_in ms)) e)))

pub map-of : (known : List Pred) (ms : List PredMap) → map pred_in ms ≡ known → are_distinct known ≡ true → is_map_of known ms ≡ true
map-of known ms e d =
    and_from (list_all (λ m. list_any (same_pred m.pred) known) ms) (are_single ms)
    (known-map known ms (λ x h. ap (λ z. list_any (same_pred x) z) (sym e) ∙ h))
    (single-map ms (ap are_distinct e ∙ d))

-- ---- the certificate

-- The lines make these trees and checks, which are good, for the query of this number.
pub record Makes (p : Program) (ls : List Written) (number : ℕ) (trees : List Tree) (checks : List (ℕ × Branch)) : Type 0 where
  pub query : Query
  pub named : numbered p.queries number ≡ Some query
  pub no_name : length query.names ≡ 0
  pub plain : Each IsPlain (flat_body query.body)
  pub clauses : (k : ℕ) (c : Clause) → numbered p.clauses k ≡ Some c → PlainClause c
  pub trees_good : GoodTrees p.clauses ls (ats p.clauses ls) 1 [] (flat_body query.body) (listed trees)
  pub checks_good : GoodChecks p.clauses ls (ats p.clauses ls) (1 + lines_below (listed trees)) [] checks
  pub end : (1 + lines_below (listed trees)) + lines_under checks ≡ suc (length ls)
  pub seen : AreSeen p.clauses ls (length ls)
  pub rises : Rises 1 (flat_map check_in ls)

abbrev pub made : ℕ → List PredMap → List Tree → List (ℕ × Branch) → Tms → Certificate
made number ms trees checks ts =
    record { query = number; terms = nil; given = []; sample = ts; trees = trees; checks = checks; clashes = []; map = ms }

module _ (p : Program) (ls : List Written) (number : ℕ) (ms : List PredMap) (trees : List Tree) (checks : List (ℕ × Branch)) (m : Makes p ls number trees checks) where
  abbrev cs : List Clause
  cs = p.clauses

  abbrev cert : Tms → Certificate
  cert ts = made number ms trees checks ts

  abbrev whole : Tms → Whole
  whole ts = whole_of true p (cert ts)

  pub all-fine : (ts : Tms) → Each (Fine (whole ts) ls (ats cs ls)) (lines p (cert ts))
  all-fine ts =
      let top : ℕ = (setting cs (cert ts)).top in
      let dues : query_dues (numbered p.queries number) nil ≡ map item_due (flat_body m.query.body) =
      ap (λ (o : Option Query). query_dues o nil) m.named ∙ dues-plain (giving (items nil)) (flat_body m.query.body) m.plain in
      Each-append (Fine (whole ts) ls (ats cs ls)) (query_walk cs p.queries (cert ts)).lines
      (checks_walk (setting cs (cert ts)) (start top) (1 + lines_below (listed trees)) (query_walk cs p.queries (cert ts)).next checks).lines
      (nodes-fine (whole ts) ls (ats cs ls) m.clauses top [] [] refl 1 (free_of (cert ts)) (query_dues (numbered p.queries number) nil) (flat_body m.query.body) (listed trees) dues m.trees_good)
      (checks-fine (whole ts) ls (ats cs ls) m.clauses top (1 + lines_below (listed trees)) (query_walk cs p.queries (cert ts)).next checks m.checks_good)

  as-many : (ts : Tms) → length (lines p (cert ts)) ≡ length ls
  as-many ts =
      let long = (certificate-runs cs p.queries (cert ts)).long in
      let end = m.end in omega (arith, long, end)

  -- the line of a literal is the line of its node
  pub record HasNode (ts : Tms) (to : ℕ) : Type 0 where
    pub line : Line
    pub found : numbered (lines p (cert ts)) to ≡ Some line
    pub at_is : line.at ≡ to
    pub around : list_all is_plain_around line.here.around ≡ true
    pub due : Due
    pub node : line.part ≡ of_node due (node_at cs ls (ats cs ls) to)

  has-node : (ts : Tms) (to : ℕ) → is_literal_line (line_at cs ls (ats cs ls) to) ≡ true → HasNode ts to
  has-node ts zero h = absurd (cc h)
  has-node ts (suc i) h =
      let within : i < length (lines p (cert ts)) = by (slice_get ls i) refl h in
      let l = get-within (lines p (cert ts)) i within in
      let number : l.0.at ≡ suc i = found-number cs p.queries (cert ts) (suc i) l.0 l.1 in
      let fine : Fine (whole ts) ls (ats cs ls) l.0 = Each-at (Fine (whole ts) ls (ats cs ls)) (lines p (cert ts)) i l.0 (all-fine ts) (sym l.1) in
      let node = part l.0.part (subst (λ (n : ℕ). IsLineOf (whole ts) ls (ats cs ls) n l.0.part) number fine.stands) in
      record { line = l.0; found = l.1; at_is = number; around = fine.around; due = node.0; node = node.1 }
    where
      by : (o : Option Written) → slice_get ls i ≡ o → is_literal_line o ≡ true → i < length (lines p (cert ts))
      by None e k = absurd (cc k)
      by (Some l) e k =
          let less = slice_get_within ls i l e in
          let same = as-many ts in omega (arith, less, same)

      part : (x : Part) → IsLineOf (whole ts) ls (ats cs ls) (suc i) x → (due : Due) × (x ≡ of_node due (node_at cs ls (ats cs ls) (suc i)))
      part (of_node due t) k = (due, ap (of_node due) (sym k))
      part (of_rule n a b) k = absurd (cc (k, h))
      part (of_check n b) k = absurd (cc (ap is_literal_line k.1, h))
      part (of_case body b) k = absurd (cc (k, h))

  around-plain : (here arounds : List Around) → list_all is_plain_around arounds ≡ true → list_all (is_around here) arounds ≡ true
  around-plain here [] h = refl
  around-plain here (a ∷ arounds) h =
      let k = and_parts (is_plain_around a) (list_all is_plain_around arounds) h in
      and_from (is_around here a) (list_all (is_around here) arounds) (or_left a.plain _ k.0) (around-plain here arounds k.1)

  sees-well : (ts : Tms) → SeesWell (whole ts) ls (ats cs ls)
  sees-well ts zero here lit to h = absurd (cc h.1)
  sees-well ts (suc i) here lit to h =
      let less = slice_get_within ls i (line.Seen lit h.0) h.1 in
      let right : SeenRight cs ls (suc i) lit to = subst (SeenRight cs ls (suc i) lit) (sym h.2) (m.seen i lit h.0 less h.1) in
      let n = has-node ts to right.literal in
      let number = n.at_is in
      let ended = right.ended in
      record {
        allowed = λ q. refl;
        line = n.line;
        found = n.found;
        due = n.due;
        tree = node_at cs ls (ats cs ls) to;
        node = n.node;
        literal = right.node;
        ended = omega (arith, number, ended);
        around = around-plain here.around n.line.here.around n.around;
      }

  checks-well : (ts : Tms) → ChecksWell (whole ts) ls (ats cs ls)
  checks-well ts zero k h = absurd (cc h.1)
  checks-well ts (suc i) k h =
      all-flat (λ j. nat_lt j k) (number_before (suc i)) (lines p (cert ts))
      (Each-map (Fine (whole ts) ls (ats cs ls)) (λ (l : Line). list_all (λ j. nat_lt j k) (number_before (suc i) l) ≡ true) one (lines p (cert ts)) (all-fine ts))
    where
      earlier : (at j : ℕ) → ChecksLine cs ls (ats cs ls) at j → at < suc i → nat_lt j k ≡ true
      earlier zero j c less = absurd (cc c.1)
      earlier (suc n) j c less =
          let before : n < i = omega (arith, less) in
          lt-is j k (check-order 1 ls n i j k c.0 h.0 m.rises before c.1 h.1)

      part : (at : ℕ) (x : Part) → IsLineOf (whole ts) ls (ats cs ls) at x → at < suc i → list_all (λ j. nat_lt j k) (check_number x) ≡ true
      part at (of_node due t) c less = refl
      part at (of_rule n a b) c less = refl
      part at (of_check n b) c less = and_from (nat_lt n k) true (earlier at n c less) refl
      part at (of_case body b) c less = refl

      one : (l : Line) → Fine (whole ts) ls (ats cs ls) l → list_all (λ j. nat_lt j k) (number_before (suc i) l) ≡ true
      one l f = by (nat_lt l.at (suc i)) refl
        where
          by : (b : Bool) → nat_lt l.at (suc i) ≡ b → list_all (λ j. nat_lt j k) (if b then check_number l.part else []) ≡ true
          by true e = part l.at l.part f.stands (lt-from l.at (suc i) e)
          by false e = refl

  pub told-plain : (ts : Tms) → Each PlainTold (all_told (lines p (cert ts)))
  told-plain ts =
      each-flat PlainTold told_at (lines p (cert ts))
      (Each-map (Fine (whole ts) ls (ats cs ls)) (λ (l : Line). Each PlainTold (told_at l)) (λ l f. f.told) (lines p (cert ts)) (all-fine ts))

  pub no-hint : (ts : Tms) → hint_lists p (cert ts) ≡ []
  no-hint ts =
      none-flat (λ (l : Line). part_lists [] l.here l.part) (lines p (cert ts))
      (Each-map (Fine (whole ts) ls (ats cs ls)) (λ (l : Line). part_lists [] l.here l.part ≡ []) (λ l f. f.hints) (lines p (cert ts)) (all-fine ts))

  pub made-accepted : (ts : Tms) → are_ground ts ≡ true → is_map_of (predicates p) ms ≡ true → all_pairs (all_told (lines p (cert ts))) ≡ [] → Accepts p (cert ts)
  made-accepted ts ground maps none = record {
    query = m.query;
    named = m.named;
    each_variable = sym m.no_name;
    terms_known = refl;
    given_known = refl;
    each_item = count-good (whole ts) ls (ats cs ls) 1 [] (flat_body m.query.body) (listed trees) m.trees_good;
    lines_hold = Each-map (Fine (whole ts) ls (ats cs ls)) (LineHolds (whole ts)) (λ l f. f.holds (sees-well ts) (checks-well ts)) (lines p (cert ts)) (all-fine ts);
    apart = subst (Each (AreApart (cert ts))) (sym none) tt;
    clashes = tt;
    sample_ground = ground;
    sample_meets = refl;
    map = maps;
  }
