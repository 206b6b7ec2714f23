-- The end of a branch: the certificate of a state with nothing left to do.
use Rattle.std.specs.Prelude.{ℕ, not, if◌then◌else◌, Option, Some, None, List, [], ◌∷◌, ◌++◌, map, filter, length}
use Rattle.std.specs.List.{list_all, flat_map}
use Rattle.scasp_checker_rules.specs.PairLists.{pair_list}
use Rattle.scasp_checker_rules.specs.Pairs.{all_pairs}
use Rattle.scasp_checker_rules.specs.SameConstraint.{same_con}
use Rattle.scasp_checker_rules.specs.Told.{all_told}
use Rattle.scasp_cert.specs.Certificate.{Certificate}
use Rattle.scasp_cert.specs.Trees.{Tree, Branch, pos_tree, neg_tree, loop_tree, seen_tree, test_tree, split, void, leaf, head}
use Rattle.scasp_lines.specs.Contexts.{context}
use Rattle.scasp_lines.specs.Lines.{free_of, lines}
use Rattle.scasp_lines.specs.Places.{Place}
use Rattle.scasp_lines.specs.Walk.{Part, of_node, of_rule, of_check, of_case}
use Rattle.scasp_search_rules.specs.declared.states.lines.Line.{Line}
use Rattle.scasp_search_rules.specs.declared.states.state.State.{State}
use Rattle.scasp_syntax.specs.Tm.{Tms}
use Rattle.scasp_syntax.specs.Values.{Sub, all_under}
use Rattle.scasp_syntax.specs.declared.con.Con.{Con}
use Rattle.scasp_syntax.specs.declared.program.Program.{Program}
use Rattle.scasp_unify.specs.Negations.{negated, new_parts}
use Rattle.scasp_unify.specs.SimpleForm.{simple}
use Rattle.scasp_search_rules.specs.Successors.Cases.{line_under}
use Rattle.scasp_search_rules.specs.Successors.Numbering.{free_variables, universal_variables, placing, con_renamed, line_renamed}
use Rattle.scasp_search_rules.specs.Successors.Problems.{Problem}
use Rattle.scasp_search_rules.specs.Successors.Reading.{holds_always}
use Rattle.scasp_search_rules.specs.Successors.Regions.{givens}
use Rattle.scasp_search_rules.specs.Successors.Trees.{Built, built, literal_lines}
use Rattle.scasp_search_rules.specs.Successors.Variables.{meaning}

-- ---- the certificate

abbrev pub once : List Con → List Con
once [] = []
once (c ∷ cs) = c ∷ filter (λ d. not (same_con c d)) (once cs)

-- the given constraints in simple form, without those that hold always and without repeats
abbrev pub given_lines : State → List Con
given_lines s = once (filter (λ c. not (holds_always c)) (map simple (givens s)))

-- In place of the sample stand the free variables themselves.
abbrev pub certificate : Problem → Tms → List Con → ℕ → Built → Certificate
certificate p terms given free b = record {
  query = p.query;
  terms = terms;
  given = given;
  sample = new_parts 0 free;
  trees = b.nodes;
  checks = b.checks;
  clashes = [];
  map = p.map;
}

-- the certificate of these terms, given constraints and lines, whose variables get their numbers
abbrev pub certificate_by : Problem → State → Tms → List Con → List Line → Certificate
certificate_by p s terms given ls =
    let free : List ℕ = free_variables s terms given ls in
    let v : Sub = placing (free ++ universal_variables p.program ls) in
    certificate p (all_under v terms) (once (map (con_renamed v) given)) (length free)
    (built (literal_lines 1 ls) (map (line_renamed v) ls))

-- the certificate of a state with nothing left to do, where so many variables are those of the query
abbrev pub certificate_at : Problem → State → ℕ → Certificate
certificate_at p s queried =
    certificate_by p s (all_under (meaning s) (new_parts 0 queried)) (given_lines s) (map (line_under s) s.lines)

-- ---- the lists that are asked about it

abbrev pub node_lists : List Con → Place → Tree → List (List Con)
node_lists given here (pos_tree a k ts children) = []
node_lists given here (neg_tree a covers) = []
node_lists given here (loop_tree lit to) = []
node_lists given here (seen_tree lit to) = []
node_lists given here (test_tree c hint) = (context given here.opened ++ negated here.hidden c ∷ []) ∷ []

abbrev pub case_lists : List Con → Place → Branch → List (List Con)
case_lists given here (split c first second) = []
case_lists given here (void hint) = context given here.opened ∷ []
case_lists given here (leaf k children) = []
case_lists given here (head children) = []

-- the lists that hints are about: that the negation of a test, or a void case, has no valuation
abbrev pub part_lists : List Con → Place → Part → List (List Con)
part_lists given here (of_node due t) = node_lists given here t
part_lists given here (of_rule k a b) = []
part_lists given here (of_check k b) = []
part_lists given here (of_case body b) = case_lists given here b

abbrev pub hint_lists : Program → Certificate → List (List Con)
hint_lists p c = flat_map (λ l. part_lists c.given l.here l.part) (lines p c)

-- a list for each positive and each negated literal of one predicate, which has a valuation where the two can be one
abbrev pub pair_lists : Program → Certificate → List (List Con)
pair_lists p c = map (λ ab. pair_list (free_of c) c.given ab.0 ab.1) (all_pairs (all_told (lines p c)))

-- ---- the answer

abbrev pub sampled : Certificate → Option Tms → Option Certificate
sampled c None = None
sampled c (Some ts) = Some (record c { sample = ts })

-- the certificate, where no positive literal can be one with a negated one; none in it where the arithmetic of the sample overflows
abbrev pub answer_of : Problem → Certificate → Option (Option Certificate)
answer_of p c =
    if list_all (λ cs. not (p.sat cs)) (pair_lists p.program c) then Some (sampled c (p.sample c.given (free_of c))) else None
