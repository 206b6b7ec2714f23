-- Parts of small lists, computed.
use Rattle.std.specs.Prelude.{◌≡◌, ℕ, Bool, true, false, nat_eq, List, [], ◌∷◌, ◌++◌}
use Rattle.std.proofs.Common.{refl, true≢false}
use Rattle.scasp_hint.specs.Satisfying.{sat}
use Rattle.scasp_hint.proofs.SatisfyingLemmas.{sat-sorted}
use Rattle.scasp_rows.specs.PlainRows.{is_met}
use Rattle.scasp_syntax.specs.Tm.{nil}
use Rattle.scasp_syntax.specs.declared.con.Con.{Con}
use Rattle.scasp_syntax.specs.declared.con.Con.TheVariants as con
use Rattle.scasp_syntax.specs.declared.term.Term.{Term}
use Rattle.scasp_syntax.specs.declared.term.Term.TheVariants.{App, Var}
use Rattle.scasp_unify.specs.Solving.{sub_of}
use Rattle.scasp_unify.specs.Sorted.{typed}
use Rattle.scasp_unify.specs.Unification.{unifier}
use Rattle.scasp_unify.specs.declared.bindings.Binding.{Binding}
use Rattle.scasp_law_parts.specs.Bound.{Triangular, equations}
use Rattle.scasp_law_parts.specs.Parts.{SatUnder, are_parted, inside, outside}
use Rattle.scasp_law_parts.specs.Questions.{IsEnough, StandsForAll, part_read}

-- names 5 and 6, without arguments
abbrev a : Term
a = App 5 nil

abbrev b : Term
b = App 6 nil

-- V0 stands for V1
abbrev bound : List Binding
bound = record { x = 0; term = Var 1 } ∷ []

triangular : Triangular bound
triangular = (refl, tt, tt)

abbrev is_one : ℕ → Bool
is_one x = nat_eq x 1

abbrev each : Con → Bool
each c = true

-- ---- a part by itself: V0 is not a, V2 = b, asked V1 = a

abbrev apart : List Con
apart = con.NotShape 0 5 0 ∷ con.Eq (Var 2) b ∷ []

abbrev asked : List Con
asked = con.Eq (Var 1) a ∷ []

parted : are_parted (sub_of bound) is_one apart ≡ true
parted = refl

first : inside (sub_of bound) is_one apart ≡ con.NotShape 0 5 0 ∷ []
first = refl

second : outside (sub_of bound) is_one apart ≡ con.Eq (Var 2) b ∷ []
second = refl

-- what is outside has a valuation
rest : SatUnder (sub_of bound) (outside (sub_of bound) is_one apart)
unfolding unifier is_met
rest = let k = (sat-sorted (con.Eq (Var 2) b ∷ []) (typed refl)).0 refl in record { by = k.by; meets = k.meets }

enough : IsEnough (sub_of bound) each is_one apart asked
enough = record {
  left_out = ((λ e. absurd (true≢false e)), ((λ e. absurd (true≢false e)), tt));
  parted = refl;
  within = refl;
  met = rest;
}

stands : StandsForAll bound each is_one apart asked
stands = record {
  solved = (refl, tt);
  enough = enough;
  readable = (tt, (tt, tt));
  sorted = typed refl;
  part_sorted = typed refl;
}

-- V1 is read in place of V0, and the equation of V2 is not asked
read : part_read bound each is_one apart asked ≡ con.NotShape 1 5 0 ∷ con.Eq (Var 1) a ∷ []
read = refl

refused : sat (part_read bound each is_one apart asked) ≡ false
unfolding unifier
refused = refl

so_is_all : sat (equations bound ++ (apart ++ asked)) ≡ false
unfolding unifier
so_is_all = refl

-- ---- no part: V0 = V2 has a variable that the binding reads as V1, and another

abbrev joined : List Con
joined = con.Eq (Var 0) (Var 2) ∷ con.Eq (Var 2) b ∷ []

mixed : are_parted (sub_of bound) is_one joined ≡ false
mixed = refl

-- it would be left out, and the answer would be another one
left : part_read bound each is_one joined asked ≡ con.Eq (Var 1) a ∷ []
left = refl

passes : sat (part_read bound each is_one joined asked) ≡ true
unfolding unifier is_met
passes = refl

fails : sat (equations bound ++ (joined ++ asked)) ≡ false
unfolding unifier
fails = refl
