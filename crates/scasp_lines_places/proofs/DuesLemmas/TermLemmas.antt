-- Terms by their values.
use Rattle.std.proofs.Common.{◌≡◌, ◌∙◌, ◌≤◌, Option, Some, List, [], ◌∷◌, map, length, get_or, refl, sym, ap, arith}
use Rattle.scasp_syntax.specs.Tm.{Tm, Tms, var, num, app, nil, cons}
use Rattle.scasp_syntax.specs.Values.{under, all_under}
use Rattle.scasp_syntax.specs.View.{tm_of}
use Rattle.scasp_syntax.specs.declared.term.Term.{Term}
use Rattle.scasp_syntax.specs.declared.term.Term.TheVariants.{Var, Num, App}
use Rattle.scasp_syntax.specs.declared.con.Con.{Con}
use Rattle.scasp_syntax.specs.declared.con.Con.TheVariants as con
use Rattle.scasp_unify.specs.Parts.{Part, left_side, parts, right_side}
use Rattle.scasp_unify.specs.SimpleForm.{by_parts, differ, list_term, one_part, simple, term_with}
use Rattle.scasp_unify.specs.Solving.{part_of}
use Rattle.scasp_unify.specs.declared.parts.Part.{Part as FoundPart}

pub term_is : (t : Term) → term_with (tm_of t) ≡ t
term_is (Var x) = refl
term_is (Num q) = refl
term_is (App f ts) = refl

-- each variable for itself
mutual
  pub under_var : (t : Tm) → under var t ≡ t
  under_var (var x) = refl
  under_var (num q) = refl
  under_var (app f ts) = ap (app f) (all_under_var ts)

  pub all_under_var : (ts : Tms) → all_under var ts ≡ ts
  all_under_var nil = refl
  all_under_var (cons t ts) = let p = under_var t in let q = all_under_var ts in cc

-- the simple form of a disequation, by its parts
pub simple_is : (left right : Term) (o : Option (List Part)) → o ≡ parts (under var (tm_of left)) (under var (tm_of right)) → by_parts (con.Neq left right) o ≡ simple (differ (tm_of left) (tm_of right))
simple_is left right o e =
    let form = λ (a b : Term). by_parts (con.Neq a b) (parts (tm_of a) (tm_of b)) in
    ap (by_parts (con.Neq left right)) (e ∙ (λ i. parts (under_var (tm_of left) i) (under_var (tm_of right) i)))
    ∙ (λ i. form (sym (term_is left) i) (sym (term_is right) i))

pub parts_many : (c : Con) (ps : List Part) → 2 ≤ length ps → by_parts c (Some ps) ≡ differ (list_term (map left_side ps)) (list_term (map right_side ps))
parts_many c [] h = absurd (omega arith)
parts_many c (p ∷ []) h = absurd (omega arith)
parts_many c (p ∷ q ∷ ps) h = refl

pub parts_one : (c : Con) (ps : List FoundPart) (d : FoundPart) → length ps ≡ 1 → by_parts c (Some (map part_of ps)) ≡ one_part (part_of (get_or ps 0 d)) (tm_of (get_or ps 0 d).term)
parts_one c [] d h = absurd (omega arith)
parts_one c (p ∷ []) d h = refl
parts_one c (p ∷ q ∷ ps) d h = absurd (omega arith)

pub parts_none : (c : Con) (ps : List FoundPart) → length ps ≡ 0 → by_parts c (Some (map part_of ps)) ≡ c
parts_none c [] h = refl
parts_none c (p ∷ ps) h = absurd (omega arith)

-- two terms by their values
pub differ_is : (left right : Term) (t u : Tm) → tm_of left ≡ t → tm_of right ≡ u → con.Neq left right ≡ differ t u
differ_is left right t u e f = (λ i. con.Neq (sym (term_is left) i) (sym (term_is right) i)) ∙ (λ i. differ (e i) (f i))
