-- The instances of a program over a list of terms.
use Rattle.std.specs.Prelude.{ℕ, zero, suc, Bool, true, ◌&&◌, not, List, [], ◌∷◌, map, filter}
use Rattle.std.specs.List.{list_all, list_any, flat_map}
use Rattle.scasp_syntax.specs.Constraints.{is_number}
use Rattle.scasp_syntax.specs.Instances.{atom_under, head_under}
use Rattle.scasp_syntax.specs.RowTruth.{row_holds}
use Rattle.scasp_syntax.specs.Same.{same_tm}
use Rattle.scasp_syntax.specs.Tm.{Tm}
use Rattle.scasp_syntax.specs.Values.{Sub, under, giving, is_ground}
use Rattle.scasp_syntax.specs.View.{tm_of}
use Rattle.scasp_syntax.specs.declared.atom.Lit.{Lit}
use Rattle.scasp_syntax.specs.declared.clause.Clause.{Clause}
use Rattle.scasp_syntax.specs.declared.clause.Item.{Item}
use Rattle.scasp_syntax.specs.declared.clause.Item.TheVariants.{Call, Equal, Differ, Linear}
use Rattle.scasp_syntax.specs.declared.program.Program.{Program}
use Rattle.scasp_model.specs.declared.program.GroundClause.{GroundClause}

-- distinct ground terms
abbrev pub is_domain : List Tm → Bool
is_domain [] = true
is_domain (t ∷ ts) = is_ground t && not (list_any (same_tm t) ts) && is_domain ts

-- each way of giving n variables members of d; the last variable goes fastest
abbrev pub choices : List Tm → ℕ → List (List Tm)
choices d zero = [] ∷ []
choices d (suc n) = flat_map (λ t. map (λ ts. t ∷ ts) (choices d n)) d

-- whether the item, where it is a test, is true; a linear comparison is one of numbers
abbrev pub is_test_true : Sub → Item → Bool
is_test_true v (Call l) = true
is_test_true v (Equal t s) = same_tm (under v (tm_of t)) (under v (tm_of s))
is_test_true v (Differ t s) = not (same_tm (under v (tm_of t)) (under v (tm_of s)))
is_test_true v (Linear l) = list_all (λ x. is_number (v x)) l.vars && row_holds v l.row

-- the literal that the item is, or none
abbrev pub literal_under : Sub → Item → List Lit
literal_under v (Call l) = record { positive = l.positive; atom = atom_under v l.atom } ∷ []
literal_under v (Equal t s) = []
literal_under v (Differ t s) = []
literal_under v (Linear l) = []

-- the ground rule or denial that is made of the clause's literals
abbrev pub instance_of : Clause → Sub → GroundClause
instance_of c v = record { head = head_under v c.head; body = flat_map (literal_under v) c.body }

-- those whose tests are true
abbrev pub instances : List Tm → Clause → List GroundClause
instances d c =
    map (λ ts. instance_of c (giving ts))
    (filter (λ ts. list_all (is_test_true (giving ts)) c.body) (choices d c.vars))

-- the clauses in order
abbrev pub ground_program : List Tm → Program → List GroundClause
ground_program d p = flat_map (instances d) p.clauses
