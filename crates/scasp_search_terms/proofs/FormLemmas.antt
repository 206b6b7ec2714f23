-- New parts one by one, and terms as no bindings make them.
use Rattle.std.specs.Prelude.{◌≡◌, ℕ, zero, suc, ◌+◌, Bool, true, false, if◌then◌else◌, List, Option, Result, Ok, Err, IfOk, refl}
use Rattle.std.proofs.Common.{arith, ap, ◌∙◌}
use Rattle.scasp_syntax.specs.Tm.{Tm, var, num, app, nil, cons, pushed}
use Rattle.scasp_list.specs.declared.memory.Memory.{Memory}
use Rattle.scasp_syntax.specs.Constraints.{has_shape}
use Rattle.scasp_syntax.specs.Values.{under}
use Rattle.scasp_syntax.specs.declared.con.Con.{Con}
use Rattle.scasp_syntax.specs.declared.con.Con.TheVariants as con
use Rattle.scasp_syntax.specs.declared.term.Term.{Term}
use Rattle.scasp_syntax.specs.View.{tm_of}
use Rattle.scasp_unify.proofs.LaterParts.{parts-same}
use Rattle.scasp_unify.proofs.SimpleLemmas.{viewed}
use Rattle.scasp_unify.proofs.SolvingLemmas.{under-var}
use Rattle.scasp_unify.specs.Negations.{new_parts}
use Rattle.scasp_unify.specs.Parts.{Part, parts}
use Rattle.scasp_unify.specs.SimpleForm.{by_parts, simple, term_with}
use Rattle.scasp_search_rules.specs.Successors.Reading.{not_shaped}

pub pushed_part : (k i x : ℕ) → x ≡ k + i → pushed (new_parts k i) (var x) ≡ new_parts k (i + 1)
pushed_part k zero x h = let e : x ≡ k = omega (arith, h) in ap (λ y. cons (var y) nil) e
pushed_part k (suc i) x h =
    let f : suc i + 1 ≡ suc (i + 1) = omega arith in
    rw f (ap (cons (var k)) (pushed_part (suc k) i x (omega (arith, h))))

pub read_parts : (t u : Tm) → parts (under var t) (under var u) ≡ parts t u
read_parts t u = rw (under-var t, under-var u) refl

-- the disequation by the parts of its sides is its simple form
pub apart_simple : (t u : Term) (a b : Tm) (o : Option (List Part)) → t ≡ term_with a → u ≡ term_with b → o ≡ parts a b
    → by_parts (con.Neq t u) o ≡ simple (con.Neq (term_with a) (term_with b))
apart_simple t u a b o f g h =
    let n : con.Neq t u ≡ con.Neq (term_with a) (term_with b) = cc (f, g) in
    let p : o ≡ parts (tm_of (term_with a)) (tm_of (term_with b)) = rw (viewed a, viewed b) h in
    ap (λ c. by_parts c o) n ∙ ap (by_parts (con.Neq (term_with a) (term_with b))) p

pub if_ok : (r : Result Con Memory) (x y : Con) → x ≡ y → IfOk r (λ m. m ≡ x) → IfOk r (λ m. m ≡ y)
if_ok (Ok m) x y e h = h ∙ e
if_ok (Err z) x y e h = h

-- an excluded shape, read, is in simple form
pub shape_simple : (t : Tm) (f n : ℕ) → simple (not_shaped t f n) ≡ not_shaped t f n
shape_simple (var x) f n = refl
shape_simple (num q) f n = refl
shape_simple (app g us) f n = by (has_shape f n (app g us))
  where
    t : Term
    t = term_with (app g us)

    by : (b : Bool) → simple (if b then con.Neq t t else con.Eq t t) ≡ (if b then con.Neq t t else con.Eq t t)
    by true = ap (by_parts (con.Neq t t)) (parts-same (app g us))
    by false = refl
