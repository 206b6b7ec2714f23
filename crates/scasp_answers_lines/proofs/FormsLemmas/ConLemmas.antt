-- Terms as values and back, disequations, and reasons.
use Rattle.std.proofs.Common.{◌≡◌, ◌∙◌, List, ◌∷◌, Option, None, Some, ℕ, codes, refl, sym, ap}
use Rattle.std.specs.Option.{option_map}
use Rattle.scasp_syntax.specs.Tm.{Tm, var, num, app, nil, cons}
use Rattle.scasp_syntax.specs.View.{tm_of}
use Rattle.scasp_syntax.specs.declared.con.Con.{Con}
use Rattle.scasp_syntax.specs.declared.con.Con.TheVariants as con
use Rattle.scasp_syntax.specs.declared.term.Term.{Term}
use Rattle.scasp_syntax.specs.declared.term.Term.TheVariants.{Var, Num, App}
use Rattle.scasp_answers_terms.specs.Tokens.Constraints.{term_of, unequal, related_to, typed_at}
use Rattle.scasp_answers_terms.specs.Tokens.Readers.{Parsed, past_text, made, keyed, until, alone, any_of}
use Rattle.scasp_answers_terms.specs.Tokens.Terms.{term_at}
use Rattle.scasp_num.specs.Arithmetic.{◌>>=◌}
use Rattle.scasp_answers_terms.specs.Tokens.Tokens.{Token}
use Rattle.scasp_answers_lines.specs.Forms.Shapes.{constant_shape}

pub term_back : (t : Term) → term_of (tm_of t) ≡ t
term_back (Var x) = refl
term_back (Num q) = refl
term_back (App f ts) = refl

abbrev by_shape : Tm → Tm → Option Con → Con
by_shape t s o = elim o [ None ↦ con.Neq (term_of t) (term_of s) | Some c ↦ c ]

unequal-shape : (t s : Tm) → unequal t s ≡ by_shape t s (constant_shape t s)
unequal-shape (var x) (var y) = refl
unequal-shape (var x) (num q) = refl
unequal-shape (var x) (app f nil) = refl
unequal-shape (var x) (app f (cons t ts)) = refl
unequal-shape (num q) s = refl
unequal-shape (app f ts) s = refl

pub unequal_by : (t s : Term) (o : Option Con) → o ≡ constant_shape (tm_of t) (tm_of s) → unequal (tm_of t) (tm_of s) ≡ elim o [ None ↦ con.Neq t s | Some c ↦ c ]
unequal_by t s o e =
    unequal-shape (tm_of t) (tm_of s) ∙ ap (by_shape (tm_of t) (tm_of s)) (sym e) ∙ back o
  where
    back : (o : Option Con) → by_shape (tm_of t) (tm_of s) o ≡ elim o [ None ↦ con.Neq t s | Some c ↦ c ]
    back None = λ i. con.Neq (term_back t i) (term_back s i)
    back (Some c) = refl

-- ---- readings put together

pub keyed-read :
    {A B : Type 0} (text : List ℕ) (reads : List Token → Parsed A) (make : A → B) (ts rest after : List Token) (x : A) → past_text text ts ≡ Some rest → reads rest ≡ Some (x, after)
    → keyed text reads make ts ≡ Some (make x, after)
keyed-read text reads make ts rest after x e f = ap (λ o. o >>= (λ r. made make (reads r))) e ∙ ap (made make) f

pub typed-num : (place : List ℕ → ℕ) (ts rest : List Token) → past_text (codes "num(") ts ≡ Some rest → typed_at place ts ≡ made (λ t. con.Num (term_of t)) (until (codes ")") (term_at place) rest)
typed-num place ts rest e =
    ap (λ o. elim o [
      | None ↦ keyed (codes "not num(") (until (codes ")") (term_at place)) (λ t. con.NotNum (term_of t)) ts
      | Some r ↦ made (λ t. con.Num (term_of t)) (until (codes ")") (term_at place) r)
    ]) e

pub related-equal : (place : List ℕ → ℕ) (t : Tm) (ts rest : List Token) → past_text (codes " = ") ts ≡ Some rest → related_to place t ts ≡ made (λ s. con.Eq (term_of t) (term_of s)) (term_at place rest)
related-equal place t ts rest e =
    ap (λ o. elim o [
      | None ↦ keyed (codes " \\= ") (term_at place) (unequal t) ts
      | Some r ↦ made (λ s. con.Eq (term_of t) (term_of s)) (term_at place r)
    ]) e

pub any-none : (r : List Token → Parsed Con) (rs : List (List Token → Parsed Con)) (ts : List Token) → r ts ≡ None → any_of (r ∷ rs) ts ≡ any_of rs ts
any-none r rs ts e = ap (λ o. elim o [ None ↦ any_of rs ts | Some found ↦ Some found ]) e

-- a reason that is not there is passed over
pub skip-one : (r : List ℕ) (rs : List (List Token → Parsed (List ℕ))) (ts us : List Token) → past_text r ts ≡ None → us ≡ ts → any_of (alone r r ∷ rs) ts ≡ any_of rs us
skip-one r rs ts us e k =
    ap (λ o. elim (option_map (λ rest. (r, rest)) o) [ None ↦ any_of rs ts | Some found ↦ Some found ]) e ∙ ap (any_of rs) (sym k)
