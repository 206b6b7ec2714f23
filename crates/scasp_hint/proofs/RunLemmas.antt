-- Steps that reach a false row from rows none of which is false run without a fault.
use Rattle.std.proofs.Common.{◌≡◌, ◌⊎◌, inl, inr, Bool, true, false, ◌||◌, List, [], ◌∷◌, ◌++◌, Option, Some, None, Result, Ok, Err, refl, sym, ap, subst, ◌∙◌}
use Rattle.std.specs.Prelude.{if◌then◌else◌}
use Rattle.std.specs.List.{list_any}
use Rattle.std.proofs.lemmas.Bool.{or_cases}
use Rattle.scasp_num.specs.declared.hints.Step.{Step}
use Rattle.scasp_num.specs.Arithmetic.{◌>>=◌}
use Rattle.scasp_num.specs.Linear.{Linear}
use Rattle.scasp_num.proofs.Exact.{bind-some}
use Rattle.scasp_rows.specs.Points.{is_false}
use Rattle.scasp_rows.specs.Steps.{row_sum, may_step, row_numbered, row_made, with_steps}
use Rattle.scasp_hint.specs.Showing.{row_or_large, row_from, row_added, after, run}
use Rattle.scasp_hint.specs.declared.fault.HintFault.{HintFault}
use Rattle.scasp_hint.specs.declared.fault.HintFault.TheVariants as fault

step-added : (all : List Linear) (s : Step) (row : Linear) → Some row ≡ row_made all s → row_added all s ≡ Ok row
step-added all s row e = by (row_numbered all s.p) (row_numbered all s.q) e
  where
    sum : (o : Option Linear) → Some row ≡ o → row_or_large o ≡ Ok row
    sum None e = cc
    sum (Some made) e = let same : made ≡ row = cc in ap (λ (r : Linear). Ok r) same

    test : (p q : Linear) (b : Bool) → Some row ≡ (if b then row_sum s.a p s.b q else None) → (if b then row_or_large (row_sum s.a p s.b q) else Err fault.Step) ≡ Ok row
    test p q true e = sum (row_sum s.a p s.b q) e
    test p q false e = cc

    by : (o u : Option Linear) → Some row ≡ (o >>= (λ p. u >>= (λ q. if may_step s.a p s.b q then row_sum s.a p s.b q else None))) → row_from s o u ≡ Ok row
    by None u e = cc
    by (Some p) None e = cc
    by (Some p) (Some q) e = test p q (may_step s.a p s.b q) e

any-last : (rows : List Linear) (row : Linear) → list_any is_false (rows ++ row ∷ []) ≡ true → (list_any is_false rows ≡ true) ⊎ (is_false row ≡ true)
any-last [] row e = by (or_cases (is_false row) false e)
  where
    by : (is_false row ≡ true) ⊎ (false ≡ true) → (false ≡ true) ⊎ (is_false row ≡ true)
    by (inl f) = inr f
    by (inr f) = inl f
any-last (r ∷ rs) row e = by (is_false r) e (any-last rs row)
  where
    by : (b : Bool) → (b || list_any is_false (rs ++ row ∷ [])) ≡ true → (list_any is_false (rs ++ row ∷ []) ≡ true → (list_any is_false rs ≡ true) ⊎ (is_false row ≡ true)) → ((b || list_any is_false rs) ≡ true) ⊎ (is_false row ≡ true)
    by true e rest = inl refl
    by false e rest = rest e

pub any-front : (rows : List Linear) (row : Linear) → list_any is_false rows ≡ false → is_false row ≡ false → list_any is_false (rows ++ row ∷ []) ≡ false
any-front rows row e f = by (list_any is_false (rows ++ row ∷ [])) refl
  where
    wrong : (list_any is_false rows ≡ true) ⊎ (is_false row ≡ true) → ⊥
    wrong (inl g) = let no : true ≡ false = sym g ∙ e in cc
    wrong (inr g) = let no : true ≡ false = sym g ∙ f in cc

    by : (b : Bool) → list_any is_false (rows ++ row ∷ []) ≡ b → b ≡ false
    by true g = absurd (wrong (any-last rows row g))
    by false g = refl

run-by : (all : List Linear) (steps : List Step) (last : List Linear) (reached : Bool) → Some last ≡ with_steps all steps → list_any is_false last ≡ true → (list_any is_false all ≡ true → reached ≡ true) → run all steps reached ≡ None
run-by all [] last reached e f h =
    let same : last ≡ all = cc in
    ap (λ b. if b then None else Some fault.NotReached) (h (subst (λ (rs : List Linear). list_any is_false rs ≡ true) same f))
run-by all (s ∷ ss) last reached e f h =
    let g = bind-some (row_made all s) (λ row. with_steps (all ++ row ∷ []) ss) last e in
    ap (λ (o : Result Linear HintFault). after o (λ row. run (all ++ row ∷ []) ss (reached || is_false row))) (step-added all s g.0 g.1)
    ∙ run-by (all ++ g.0 ∷ []) ss last (reached || is_false g.0) g.2 f (λ k. later g.0 (any-last all g.0 k))
  where
    later : (row : Linear) → (list_any is_false all ≡ true) ⊎ (is_false row ≡ true) → (reached || is_false row) ≡ true
    later row (inl k) = ap (λ b. b || is_false row) (h k)
    later row (inr k) = by reached
      where
        by : (b : Bool) → (b || is_false row) ≡ true
        by true = refl
        by false = k

pub run-reaches : (all : List Linear) (steps : List Step) (last : List Linear) → with_steps all steps ≡ Some last → list_any is_false last ≡ true → list_any is_false all ≡ false → run all steps false ≡ None
run-reaches all steps last e f g = run-by all steps last false (sym e) f (λ k. sym g ∙ k)
