-- The same is wrong at a line where the clause and the rules that it names are the same.
use Rattle.std.proofs.Common.{◌≡◌, ◌∙◌, ℕ, ◌+◌, Bool, true, false, ◌&&◌, ◌||◌, not, nat_eq, nat_lt, List, [], ◌∷◌, ◌++◌, length, Option, None, Some, refl, ap, sym}
use Rattle.std.specs.List.{flat_map, list_all, list_any}
use Rattle.std.proofs.lemmas.Bool.{or_parts}
use Rattle.scasp_syntax.specs.Flat.{flat_body}
use Rattle.scasp_syntax.specs.Programs.{is_rule_of, numbered, pred_of, rules_from}
use Rattle.scasp_syntax.specs.Same.{same_bool, same_pred}
use Rattle.scasp_syntax.specs.Tm.{items, nil}
use Rattle.scasp_syntax.specs.Values.{giving}
use Rattle.scasp_syntax.specs.WellFormed.{are_below}
use Rattle.scasp_syntax.specs.declared.atom.Pred.{Pred}
use Rattle.scasp_syntax.specs.declared.clause.Clause.{Clause}
use Rattle.scasp_syntax.specs.declared.clause.Item.{Item}
use Rattle.scasp_syntax.specs.declared.clause.Query.{Query}
use Rattle.scasp_syntax.specs.declared.con.Con.{Con}
use Rattle.scasp_syntax.specs.declared.predicate_map.PredMap.{PredMap}
use Rattle.scasp_syntax.specs.declared.program.Program.{Program}
use Rattle.scasp_cert.specs.Certificate.{Certificate}
use Rattle.scasp_cert.specs.Trees.{Branch, Tree, pos_tree, neg_tree, loop_tree, seen_tree, test_tree, split, void, leaf, head, listed}
use Rattle.scasp_lines.specs.Below.{count, rule_numbers}
use Rattle.scasp_lines.specs.Bodies.{Body}
use Rattle.scasp_lines.specs.Dues.{Due, query_dues}
use Rattle.scasp_lines.specs.Known.{is_con_known}
use Rattle.scasp_lines.specs.Lines.{free_of}
use Rattle.scasp_lines.specs.Places.{Place}
use Rattle.scasp_lines.specs.Sides.{Shape, shape_of}
use Rattle.scasp_lines.specs.Walk.{Line, Part, of_case, of_check, of_node, of_rule}
use Rattle.scasp_checker_rules.specs.Faults.{answer_faults, are_single, is_free, map_faults, query_items}
use Rattle.scasp_checker_rules.specs.LineFaults.{case_faults, check_faults, is_instance, items_of, line_faults, literal_faults, node_faults, part_faults, same_numbers, split_faults}
use Rattle.scasp_checker_rules.specs.Refusals.{of_some, wants}
use Rattle.scasp_checker_rules.specs.Wholes.{Whole, checked_before}
use Rattle.scasp_checker_rules.specs.declared.refusal.Reason.TheVariants as reason
use Rattle.scasp_checker_rules.specs.declared.refusal.Refusal.{Refusal}
use Rattle.scasp_touched.specs.Touched.{is_in_one, occurs}
use Rattle.scasp_law_untouched.proofs.LineLemmas.{line_clause, line_pred, part_clause, part_pred}
use Rattle.scasp_law_untouched.proofs.SameLemmas.{Alike, AreAlike, none-both}
use Rattle.scasp_law_untouched.proofs.WalkLemmas.{setting_of}

-- what is the same for all lines, with these clauses
abbrev pub whole_with : ℕ → ℕ → List Con → List Line → List Clause → Whole
whole_with free top given ls cs = record { setting = setting_of free top cs; given = given; lines = ls; positives = true }

module _ (cs ds : List Clause) (differs : ℕ → Bool) (moved : Pred → Bool)
    (same : (k : ℕ) → differs k ≡ false → numbered cs k ≡ numbered ds k) (kept : (p : Pred) → moved p ≡ false → rules_from 1 cs p ≡ rules_from 1 ds p)
    (free top : ℕ) (given : List Con) (ls : List Line) where
  node-same : (at : ℕ) (here : Place) (due : Due) (t : Tree) → list_any differs (part_clause (of_node due t)) ≡ false → list_any moved (part_pred (of_node due t)) ≡ false
      → node_faults (whole_with free top given ls cs) at here due t ≡ node_faults (whole_with free top given ls ds) at here due t
  node-same at here due (pos_tree a k ts children) e f =
      ap (λ o. literal_faults (whole_with free top given ls cs) at here due (pos_tree a k ts children) true a ts
      ++ wants at reason.WrongRule (of_some o (is_rule_of (pred_of a)))
      ++ wants at reason.WrongInstance (of_some o (is_instance ts a))
      ++ wants at reason.WrongChildren (nat_eq (count children) (length (items_of o)))) (same k (or_parts (differs k) false e).0)
  node-same at here due (neg_tree a covers) e f =
      ap (λ ks. literal_faults (whole_with free top given ls cs) at here due (neg_tree a covers) false a nil
      ++ wants at reason.UncoveredCase (same_numbers (rule_numbers covers) ks)) (kept (pred_of a) (or_parts (moved (pred_of a)) false f).0)
  node-same at here due (loop_tree lit to) e f = refl
  node-same at here due (seen_tree lit to) e f = refl
  node-same at here due (test_tree c hint) e f = refl

  split-same : (at : ℕ) (here : Place) (c : Con) (o : Option Shape)
      → split_faults (whole_with free top given ls cs) at here c o ≡ split_faults (whole_with free top given ls ds) at here c o
  split-same at here c None = refl
  split-same at here c (Some s) = refl

  case-same : (at next : ℕ) (here : Place) (body : Body) (b : Branch)
      → case_faults (whole_with free top given ls cs) at next here body b ≡ case_faults (whole_with free top given ls ds) at next here body b
  case-same at next here body (split c first second) = split-same at here c (shape_of next c)
  case-same at next here body (void hint) = refl
  case-same at next here body (leaf k children) = refl
  case-same at next here body (head children) = refl

  part-same : (l : Line) (x : Part) → list_any differs (part_clause x) ≡ false → list_any moved (part_pred x) ≡ false
      → part_faults (whole_with free top given ls cs) l x ≡ part_faults (whole_with free top given ls ds) l x
  part-same l (of_node due t) e f = node-same l.at l.here due t e f
  part-same l (of_rule k a b) e f = refl
  part-same l (of_check k b) e f =
      ap (λ o. wants l.at reason.WrongCheck (of_some o (λ c. true) && list_all (λ j. nat_lt j k) (checked_before (whole_with free top given ls cs) l.at)))
      (same k (or_parts (differs k) false e).0)
  part-same l (of_case body b) e f = case-same l.at l.next l.here body b

  -- at lines that name nothing else
  pub lines-same : (ms : List Line) → list_any differs (flat_map line_clause ms) ≡ false → list_any moved (flat_map line_pred ms) ≡ false
      → flat_map (line_faults (whole_with free top given ls cs)) ms ≡ flat_map (line_faults (whole_with free top given ls ds)) ms
  lines-same [] e f = refl
  lines-same (m ∷ ms) e f =
      let h = none-both differs (line_clause m) (flat_map line_clause ms) e in
      let g = none-both moved (line_pred m) (flat_map line_pred ms) f in
      λ i. part-same m m.part h.0 g.0 i ++ lines-same ms h.1 g.1 i

-- ---- the answer

-- what is wrong with the answer to this query
abbrev pub answer_to : Certificate → Option Query → List Refusal
answer_to c query =
    wants 0 reason.WrongQuery (of_some query (λ q. nat_eq (length (items c.terms)) (length q.names)))
    ++ wants 0 reason.WrongVariable (are_below (free_of c) c.terms && list_all (is_con_known (is_free c)) c.given)
    ++ wants 0 reason.WrongChildren (nat_eq (count (listed c.trees)) (query_items query))

pub answer-same : (c : Certificate) (a b : Option Query) → AreAlike a b → answer_to c a ≡ answer_to c b
answer-same c None None h = refl
answer-same c None (Some b) h = absurd h
answer-same c (Some a) None h = absurd h
answer-same c (Some a) (Some b) h = λ i.
    wants 0 reason.WrongQuery (nat_eq (length (items c.terms)) (h.count i))
    ++ wants 0 reason.WrongVariable (are_below (free_of c) c.terms && list_all (is_con_known (is_free c)) c.given)
    ++ wants 0 reason.WrongChildren (nat_eq (count (listed c.trees)) (length (flat_body (h.body i))))

pub dues-same : (a b : Option Query) (c : Certificate) → AreAlike a b → query_dues a c.terms ≡ query_dues b c.terms
dues-same None None c h = refl
dues-same None (Some b) c h = absurd h
dues-same (Some a) None c h = absurd h
dues-same (Some a) (Some b) c h = ap (λ (items : List Item). query_dues (Some (record { body = items; names = a.names })) c.terms) h.body

-- ---- the map

bool-is : (a b : Bool) → not (same_bool a b) ≡ false → a ≡ b
bool-is true true e = refl
bool-is true false e = cc
bool-is false true e = cc
bool-is false false e = refl

known-same : (p q : Program) (ms : List PredMap) → list_any (is_in_one p q) ms ≡ false → list_all (λ m. occurs p m.pred) ms ≡ list_all (λ m. occurs q m.pred) ms
known-same p q [] e = refl
known-same p q (m ∷ ms) e =
    let h = or_parts (is_in_one p q m) (list_any (is_in_one p q) ms) e in
    λ i. bool-is (occurs p m.pred) (occurs q m.pred) h.0 i && known-same p q ms h.1 i

pub map-same : (p q : Program) (c : Certificate) → list_any (is_in_one p q) c.map ≡ false → map_faults p c ≡ map_faults q c
map-same p q c e = ap (λ b. wants 0 reason.WrongMap (b && are_single c.map)) (known-same p q c.map e)
