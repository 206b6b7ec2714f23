-- Small cases of the definitions, computed.
use Rattle.std.specs.Prelude.{◌≡◌, ℕ, Bool, true, false, List, [], ◌∷◌, Some, None}
use Rattle.std.proofs.Common.{lit<, refl}
use Rattle.scasp_syntax.specs.Programs.{pred_of, predicates}
use Rattle.scasp_syntax.specs.Tm.{nil}
use Rattle.scasp_syntax.specs.declared.atom.Atom.{Atom}
use Rattle.scasp_syntax.specs.declared.clause.Clause.{Clause}
use Rattle.scasp_syntax.specs.declared.clause.Item.{Item}
use Rattle.scasp_syntax.specs.declared.clause.Item.TheVariants.{Call}
use Rattle.scasp_syntax.specs.declared.predicate_map.PredMap.{PredMap}
use Rattle.scasp_syntax.specs.declared.program.Program.{Program}
use Rattle.scasp_graph.specs.Analyses.{checked}
use Rattle.scasp_graph.specs.Map.{map_faults}
use Rattle.scasp_graph.specs.OddRules.{IsOddRule}
use Rattle.scasp_graph.specs.RightMap.{comes_before}
use Rattle.scasp_graph.specs.Walks.{stays, goes, dependencies}

abbrev p : Atom
p = record { minus = false; name = 2; args = nil }

abbrev q : Atom
q = record { minus = false; name = 3; args = nil }

abbrev literal : Bool → Atom → Item
literal positive a = Call (record { positive = positive; atom = a })

abbrev rule : Atom → List Item → Clause
rule a body = record { head = Some a; body = body; vars = 0 }

abbrev entry : Atom → ℕ → Bool → PredMap
entry a level plus = record { pred = pred_of a; level = level; plus = plus }

-- p :- not q. q :- not p.
abbrev even : Program
even = record { clauses = rule p (literal false q ∷ []) ∷ rule q (literal false p ∷ []) ∷ []; queries = []; abducibles = []; well_formed = refl; choices = refl }

signed : map_faults even [] (entry p 0 true ∷ entry q 0 false ∷ []) ≡ []
signed = refl

without_map : map_faults even [] [] ≡ 1 ∷ 2 ∷ []
without_map = refl

levels_alone : map_faults even [] (entry q 0 true ∷ []) ≡ 1 ∷ 2 ∷ []
levels_alone = refl

one_level_apart : map_faults even [] (entry p 1 true ∷ entry q 0 true ∷ []) ≡ 2 ∷ []
one_level_apart = refl

-- the first entry counts
first_entry : map_faults even [] (entry p 1 true ∷ entry p 0 false ∷ []) ≡ 2 ∷ []
first_entry = refl

covered : map_faults even (2 ∷ []) (entry p 1 true ∷ []) ≡ []
covered = refl

-- p :- p, q. :- p. where q is higher
abbrev denied : Program
denied = record { clauses = rule p (literal true p ∷ literal true q ∷ []) ∷ record { head = None; body = literal true p ∷ []; vars = 0 } ∷ []; queries = []; abducibles = []; well_formed = refl; choices = refl }

denial_not_covered : map_faults denied [] [] ≡ 2 ∷ []
denial_not_covered = refl

higher_in_body : map_faults denied (2 ∷ []) (entry q 1 true ∷ []) ≡ 1 ∷ []
higher_in_body = refl

holds : map_faults denied (2 ∷ []) (entry p 1 true ∷ []) ≡ []
holds = refl

-- the edges of p :- not q. q :- not p.
edges : dependencies even ≡ record { from = pred_of p; to = pred_of q; negated = true } ∷ record { from = pred_of q; to = pred_of p; negated = true } ∷ []
edges = refl

-- a denial makes no edge
no_edge_of_a_denial : dependencies denied ≡ record { from = pred_of p; to = pred_of p; negated = false } ∷ record { from = pred_of p; to = pred_of q; negated = false } ∷ []
no_edge_of_a_denial = refl

checked_clauses : checked denied (1 ∷ []) ≡ 1 ∷ 2 ∷ []
checked_clauses = refl

earlier : comes_before (predicates even) (pred_of p) (pred_of q) ≡ true
earlier = refl

not_earlier : comes_before (predicates even) (pred_of q) (pred_of p) ≡ false
not_earlier = refl

-- p :- not p.
abbrev odd : Program
odd = record { clauses = rule p (literal false p ∷ []) ∷ []; queries = []; abducibles = []; well_formed = refl; choices = refl }

odd_by_itself : IsOddRule odd 1
odd_by_itself =
    record {
      rule = rule p (literal false p ∷ []);
      stands = refl;
      head = p;
      head_is = refl;
      below = pred_of p;
      in_body = refl;
      back = (false, stays (pred_of p));
      odd = goes (pred_of p) (pred_of p) (pred_of p) true false (0, lit< tt, refl) (stays (pred_of p));
    }

abbrev r : Atom
r = record { minus = false; name = 4; args = nil }

abbrev s : Atom
s = record { minus = false; name = 5; args = nil }

-- p :- q. q :- r, s. r :- not q. s :- p. The walk p, q, r, q, s, p has one negated edge.
abbrev long : Program
long = record { clauses = rule p (literal true q ∷ []) ∷ rule q (literal true r ∷ literal true s ∷ []) ∷ rule r (literal false q ∷ []) ∷ rule s (literal true p ∷ []) ∷ []; queries = []; abducibles = []; well_formed = refl; choices = refl }

odd_by_a_long_walk : IsOddRule long 1
odd_by_a_long_walk =
    record {
      rule = rule p (literal true q ∷ []);
      stands = refl;
      head = p;
      head_is = refl;
      below = pred_of q;
      in_body = refl;
      back = (false, goes (pred_of q) (pred_of s) (pred_of p) false false (2, lit< tt, refl) (goes (pred_of s) (pred_of p) (pred_of p) false false (4, lit< tt, refl) (stays (pred_of p))));
      odd =
          goes (pred_of p) (pred_of q) (pred_of p) false true (0, lit< tt, refl)
          (goes (pred_of q) (pred_of r) (pred_of p) false true (1, lit< tt, refl)
          (goes (pred_of r) (pred_of q) (pred_of p) true false (3, lit< tt, refl)
          (goes (pred_of q) (pred_of s) (pred_of p) false false (2, lit< tt, refl)
          (goes (pred_of s) (pred_of p) (pred_of p) false false (4, lit< tt, refl) (stays (pred_of p))))));
    }
