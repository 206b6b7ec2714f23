-- What is wrong with a certificate, in the order in which it is tested.
use Rattle.std.specs.Prelude.{ℕ, Bool, true, ◌&&◌, not, nat_eq, nat_lt, Option, None, Some, List, [], ◌∷◌, ◌++◌, length}
use Rattle.std.specs.List.{list_all, list_any, flat_map}
use Rattle.scasp_syntax.specs.Flat.{flat_body}
use Rattle.scasp_syntax.specs.Programs.{numbered, predicates}
use Rattle.scasp_syntax.specs.Same.{same_pred}
use Rattle.scasp_syntax.specs.Tm.{items}
use Rattle.scasp_syntax.specs.Values.{are_ground, giving}
use Rattle.scasp_syntax.specs.WellFormed.{are_below}
use Rattle.scasp_syntax.specs.declared.atom.Pred.{Pred}
use Rattle.scasp_syntax.specs.declared.clause.Query.{Query}
use Rattle.scasp_syntax.specs.declared.predicate_map.PredMap.{PredMap}
use Rattle.scasp_syntax.specs.declared.program.Program.{Program}
use Rattle.scasp_cert.specs.Certificate.{Certificate}
use Rattle.scasp_cert.specs.Trees.{listed}
use Rattle.scasp_lines.specs.Below.{count}
use Rattle.scasp_lines.specs.Known.{is_con_known}
use Rattle.scasp_lines.specs.Lines.{free_of}
use Rattle.scasp_checker_rules.specs.BoundedTruth.{holds_bounded}
use Rattle.scasp_checker_rules.specs.LineFaults.{line_faults}
use Rattle.scasp_checker_rules.specs.Pairs.{all_pairs, pair_faults, other_clash}
use Rattle.scasp_checker_rules.specs.Refusals.{wants, of_some}
use Rattle.scasp_checker_rules.specs.Told.{Told, all_told}
use Rattle.scasp_checker_rules.specs.Wholes.{whole_of}
use Rattle.scasp_checker_rules.specs.declared.refusal.Refusal.{Refusal}
use Rattle.scasp_checker_rules.specs.declared.refusal.Reason.TheVariants as reason

abbrev pub query_items : Option Query → ℕ
query_items None = 0
query_items (Some q) = length (flat_body q.body)

-- the constraint has free variables alone
abbrev pub is_free : Certificate → ℕ → Bool
is_free c x = nat_lt x (free_of c)

-- the answer and what is given, and that each item of the query has a tree
abbrev pub answer_faults : Program → Certificate → List Refusal
answer_faults p c =
    let query = numbered p.queries c.query in
    wants 0 reason.WrongQuery (of_some query (λ q. nat_eq (length (items c.terms)) (length q.names)))
    ++ wants 0 reason.WrongVariable (are_below (free_of c) c.terms && list_all (is_con_known (is_free c)) c.given)
    ++ wants 0 reason.WrongChildren (nat_eq (count (listed c.trees)) (query_items query))

-- the pairs of literals, and the clash lines of other lines
abbrev pub apart_faults : Certificate → List Told → List Refusal
apart_faults c ts = flat_map (pair_faults (free_of c) c.given c.clashes) (all_pairs ts) ++ flat_map (other_clash ts) c.clashes

abbrev pub sample_faults : Certificate → List Refusal
sample_faults c = wants 0 reason.Sample (are_ground c.sample && list_all (holds_bounded (giving (items c.sample))) c.given)

-- no predicate stands there twice
abbrev pub are_single : List PredMap → Bool
are_single [] = true
are_single (m ∷ ms) = not (list_any (λ n. same_pred m.pred n.pred) ms) && are_single ms

-- each is one of these predicates, and none stands there twice
abbrev pub is_map_of : List Pred → List PredMap → Bool
is_map_of known ms = list_all (λ m. list_any (same_pred m.pred) known) ms && are_single ms

abbrev pub map_faults : Program → Certificate → List Refusal
map_faults p c = wants 0 reason.WrongMap (is_map_of (predicates p) c.map)

-- all that is wrong with a certificate; whether a positive literal may be shown by an earlier line of it is a parameter
abbrev pub faults_where : Bool → Program → Certificate → List Refusal
faults_where positives p c =
    let w = whole_of positives p c in
    answer_faults p c ++ flat_map (line_faults w) w.lines ++ apart_faults c (all_told w.lines) ++ sample_faults c ++ map_faults p c

-- all that is wrong with a certificate
abbrev pub faults : Program → Certificate → List Refusal
faults p c = faults_where true p c
