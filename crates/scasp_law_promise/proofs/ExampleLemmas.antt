-- What small certificates promise, by the definition alone.
use Rattle.std.proofs.Common.{◌≡◌, ◌∙◌, Bool, true, false, ◌||◌, not, cond, List, [], ◌∷◌, ◌++◌, Some, refl, ap, sym, subst, inl, inr, arith}
use Rattle.std.specs.List.{Contains}
use Rattle.std.proofs.lemmas.Bool.{true≢false, false≢true, or_cases}
use Rattle.scasp_syntax.specs.Same.{same_atom}
use Rattle.scasp_syntax.specs.Tm.{Tm, app, nil}
use Rattle.scasp_syntax.specs.Values.{Valuation}
use Rattle.scasp_syntax.specs.declared.atom.Atom.{Atom}
use Rattle.scasp_syntax.proofs.SameLemmas.{atom_decided}
use Rattle.scasp_model.specs.Atoms.{among}
use Rattle.scasp_model.specs.Examples.{rule as ground_rule}
use Rattle.scasp_model.specs.Grounding.{ground_program}
use Rattle.scasp_model.specs.Least.{least_model}
use Rattle.scasp_model.specs.Stable.{Stable}
use Rattle.scasp_model.specs.declared.program.GroundClause.{GroundClause}
use Rattle.scasp_sound.specs.Support.{Founded, by_rule, Joins}
use Rattle.scasp_sound.proofs.JoinLemmas.{joined}
use Rattle.scasp_sound.proofs.SupportLemmas.{Supports-founded}
use Rattle.scasp_law_promise.specs.Examples.{p, q, r, circle, alone, looped, fact, doubted, denied, even, aside, loop, odd, unchecked, odd_loop}
use Rattle.scasp_law_promise.specs.Good.{Good, GoodRight}

-- each variable stands for one constant
constants : Valuation
constants = record { of = λ x. app 0 nil; ground = λ x. refl }

nothing : Stable [] []
nothing = record { least_of_reduct = λ a. refl; no_violation = refl }

-- p alone is no stable model of `p :- p.`, though the empty model is one of what it leaves
pub alone-bad : Good circle alone → ⊥
alone-bad good = true≢false (((good constants refl [] refl refl).joins [] nothing).least_of_reduct p)

pub looped-bad : Good circle looped → ⊥
looped-bad good = true≢false (((good constants refl [] refl refl).joins [] nothing).least_of_reduct p)

-- a stable model of nothing has no atom, so p alone is one of `p.`
fact-joins : (d : List Tm) → Joins (ground_program d fact) (p ∷ []) []
fact-joins d m s =
    record { least_of_reduct = λ a. ap (λ (b : Bool). same_atom a p || b) (s.least_of_reduct a); no_violation = refl }

pub fact-right : GoodRight fact alone
fact-right = (
  λ v meets d is closed. record { apart = λ a t. refl; query = _; asked = refl; holds = refl; joins = fact-joins d },
  λ v meets d is closed. ([], nothing),
)

-- that p is false leaves nothing of `p.`, in whose stable model it is
pub denied-bad : Good doubted denied → ⊥
denied-bad good = false≢true (((good constants refl [] refl refl).joins [] nothing).least_of_reduct p)

-- an atom holds by a rule without a body
fact-founded : (g : List GroundClause) (x : Atom) → Contains g (ground_rule (Some x) []) → (a : Atom) → among (x ∷ []) a ≡ true → Founded g [] a
fact-founded g x i a h =
    elim (or_cases (same_atom a x) false h) [
      | inl e ↦
          subst (λ (y : Atom). Founded g [] y) (sym ((atom_decided a x).0 e))
          (by_rule x (ground_rule (Some x) []) (record { listed = i; head = refl; negated = refl }) (λ b j. absurd (false≢true j)))
      | inr k ↦ absurd (false≢true k)
    ]

fact-supports : (g : List GroundClause) (x : Atom) → Contains g (ground_rule (Some x) []) → Joins g (x ∷ []) []
fact-supports g x i = joined g (x ∷ []) [] (Supports-founded g (x ∷ []) (fact-founded g x i))

pub loop-stable : Stable loop (q ∷ [])
loop-stable = record { least_of_reduct = λ a. refl; no_violation = refl }

pub even-right : GoodRight even aside
even-right = (
  λ v meets d is closed.
      record {
        apart = λ a t. refl;
        query = _;
        asked = refl;
        holds = refl;
        joins = fact-supports (ground_program d even) r (2, omega arith, refl);
      },
  λ v meets d is closed. (q ∷ [], loop-stable),
)

-- ---- an odd loop

pub odd-good : Good odd unchecked
odd-good = λ v meets d is closed.
    record { apart = λ a t. refl; query = _; asked = refl; holds = refl; joins = fact-supports (ground_program d odd) q (1, omega arith, refl) }

-- p is in the least model of the reduct exactly where it is not in the model
turned : (b : Bool) → among (least_model (cond (b || false) [] (record { head = p; body = [] } ∷ []) ++ [])) p ≡ not b
turned true = refl
turned false = refl

never-its_negation : (b : Bool) → b ≡ not b → ⊥
never-its_negation true e = true≢false e
never-its_negation false e = false≢true e

odd-none : (m : List Atom) → Stable odd_loop m → ⊥
odd-none m s = never-its_negation (among m p) (s.least_of_reduct p ∙ turned (among m p))

pub odd-not_right : GoodRight odd unchecked → ⊥
odd-not_right right = let left = right.1 constants refl [] refl refl in odd-none left.0 left.1
