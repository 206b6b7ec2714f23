-- What opens where a rule is taken at a literal: the arguments of its head against those of the literal, from the left.
use Rattle.std.specs.Prelude.{◌≡◌, ℕ, true, ◌&&◌, nat_eq, List, [], ◌∷◌, ◌+◌, Option, None, Some, if◌then◌else◌, length, pos}
use Rattle.std.proofs.Common.{refl}
use Rattle.scasp_num.specs.Arithmetic.{is_reduced, IsReduced-from_test}
use Rattle.scasp_num.specs.Gcd.{gcd, gcd_within}
use Rattle.scasp_num.specs.Number.{Number}
use Rattle.scasp_syntax.specs.Same.{same_number}
use Rattle.scasp_syntax.specs.Tm.{Tm, Tms, var, app, nil, cons, num, items}
use Rattle.scasp_syntax.specs.declared.con.Con.{Con}
use Rattle.scasp_syntax.specs.declared.term.Term.TheVariants.{Var, Num}
use Rattle.scasp_unify.specs.Negations.{new_parts}
use Rattle.scasp_lines.specs.Opened.{Opened, shaped, assumed}
use Rattle.scasp_unify.specs.SimpleForm.{term_with}
use Rattle.scasp_syntax.specs.declared.con.Con.TheVariants as con

-- What the head's variables stand for so far, what opened, and the number of the next part that appears on no line.
pub record Opening : Type 0 where
  pub bound : List (ℕ × Tm)
  pub opened : List Opened
  pub hidden : ℕ

-- what the variable stands for
abbrev pub bound_to : List (ℕ × Tm) → ℕ → Option Tm
bound_to [] x = None
bound_to (b ∷ bs) x = if nat_eq x b.0 then Some b.1 else bound_to bs x

abbrev pub with_bound : Opening → ℕ → Tm → Opening
with_bound o x t = record { bound = (x, t) ∷ o.bound; opened = o.opened; hidden = o.hidden }

abbrev pub with_assumed : Opening → Con → Opening
with_assumed o c = record { bound = o.bound; opened = assumed c ∷ o.opened; hidden = o.hidden }

abbrev pub with_shape : Opening → ℕ → ℕ → ℕ → Opening
with_shape o y f n = record { bound = o.bound; opened = shaped y f o.hidden n ∷ o.opened; hidden = o.hidden + n }

abbrev pub equal : Tm → Tm → Con
equal t u = con.Eq (term_with t) (term_with u)

pub zero-reduced : is_reduced (pos 0) (pos 1) ≡ true
unfolding gcd gcd_within
zero-reduced = refl

pub one-reduced : is_reduced (pos 1) (pos 1) ≡ true
unfolding gcd gcd_within
one-reduced = refl

abbrev pub number_zero : Number
number_zero = record { num = pos 0; den = pos 1; reduced = IsReduced-from_test (pos 0) (pos 1) zero-reduced }

abbrev pub number_one : Number
number_one = record { num = pos 1; den = pos 1; reduced = IsReduced-from_test (pos 1) (pos 1) one-reduced }

-- no valuation meets it
abbrev pub with_clash : Opening → Opening
with_clash o = with_assumed o (con.Eq (Num number_zero) (Num number_one))

-- a head variable that stands for something, or for nothing yet
abbrev pub open_variable : Option Tm → ℕ → Tm → Opening → Opening
open_variable None x l o = with_bound o x l
open_variable (Some t) x l o = with_assumed o (equal t l)

-- a number of the head
abbrev pub open_number : Number → Tm → Opening → Opening
open_number q (var y) o = with_assumed (with_assumed o (con.Num (Var y))) (equal (var y) (num q))
open_number q (num r) o = if same_number r q then o else with_clash o
open_number q (app g ls) o = with_clash o

-- a part of the head against a part of the literal
abbrev mutual
  pub open_term : Tm → Tm → Opening → Opening
  open_term (var x) l o = open_variable (bound_to o.bound x) x l o
  open_term (num q) l o = open_number q l o
  open_term (app f hs) (var y) o = open_terms hs (new_parts o.hidden (length (items hs))) (with_shape o y f (length (items hs)))
  open_term (app f hs) (num q) o = with_clash o
  open_term (app f hs) (app g ls) o = if nat_eq g f && nat_eq (length (items ls)) (length (items hs)) then open_terms hs ls o else with_clash o

  pub open_terms : Tms → Tms → Opening → Opening
  open_terms nil ls o = o
  open_terms (cons h hs) nil o = o
  open_terms (cons h hs) (cons l ls) o = open_terms hs ls (open_term h l o)

-- nothing is bound, and nothing more opened
abbrev pub unopened : List Opened → ℕ → Opening
unopened os hidden = record { bound = []; opened = os; hidden = hidden }
