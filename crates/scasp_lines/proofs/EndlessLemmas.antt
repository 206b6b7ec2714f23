-- No domain that has a is closed where it must have f(t) with each t.
use Rattle.std.proofs.Common.{◌≡◌, ◌∙◌, ◌∷◌, ℕ, zero, suc, ◌+◌, ◌<◌, ◌≤◌, true, false, List, [], refl, ap, sym, inl, inr, arith}
use Rattle.std.specs.List.{Contains, list_all, list_any}
use Rattle.std.proofs.lemmas.Bool.{and_parts, and_from, false≢true, or_cases, ltb-true}
use Rattle.scasp_syntax.specs.Instances.{atom_under}
use Rattle.scasp_syntax.specs.Same.{same_tm}
use Rattle.scasp_syntax.specs.Tm.{Tm, var, app, cons, nil, weight}
use Rattle.scasp_syntax.specs.Values.{Sub, under}
use Rattle.scasp_syntax.proofs.SameLemmas.{tm_decided}
use Rattle.scasp_cert.specs.Trees.{pos_tree, listed}
use Rattle.scasp_lines.specs.ClosedDomainOnly.{a, f, r, s, p, free, program, certificate}
use Rattle.scasp_lines.specs.Dues.{goal}
use Rattle.scasp_lines.specs.Lines.{lines}
use Rattle.scasp_lines.specs.Opened.{IsInstance, is_met, ranges}
use Rattle.scasp_lines.specs.Places.{start, below_literal, within_case, with_opened}
use Rattle.scasp_lines.specs.Said.{SaysAt, is_closed_over}
use Rattle.scasp_lines.specs.Samples.{is_true, one}
use Rattle.scasp_lines.specs.Walk.{Line, line, of_node}
use Rattle.scasp_lines.specs.Ways.{set_to}
use Rattle.scasp_lines.proofs.SaidLemmas.{closed-terms}

-- the line of s(f(X))
last : Line
last =
    line 5 1 (below_literal 4 true (r (var 0)) (within_case 3 false (with_opened (ranges 0 ∷ []) 1 (below_literal 1 false p (start 1)))))
    (of_node (goal (is_true (s (f (var 0))))) (pos_tree (s (f (var 0))) 3 (one (f (var 0))) (listed [])))

-- its instance at t says that f(t) is listed
says-next : (d : List Tm) (t : Tm) → list_any (same_tm t) d ≡ true
    → SaysAt program certificate free d (record { positive = true; atom = s (f t); terms = f t ∷ [] })
unfolding last
says-next d t h =
    record {
      line = last;
      listed = (4, (let l : 4 < 5 = omega arith in l), refl);
      by = set_to free 0 t;
      instance = record { free_values = λ x l. (let less = ltb-true x 0 l in absurd (omega (arith, less))); met = and_from (list_any (same_tm t) d) true h refl };
      says = (0, (let l : 0 < 1 = omega arith in l), refl);
    }

module _ (d : List Tm) (closed : is_closed_over program certificate free d ≡ true) where
  next-member : (t : Tm) → list_any (same_tm t) d ≡ true → list_any (same_tm (f t)) d ≡ true
  next-member t h =
      (and_parts (list_any (same_tm (f t)) d) true
      (closed-terms program certificate refl free d closed (record { positive = true; atom = s (f t); terms = f t ∷ [] }) (says-next d t h))).0

  -- f so many times
  nested : ℕ → Tm
  nested zero = a
  nested (suc n) = f (nested n)

  nested-member : (n : ℕ) → list_any (same_tm a) d ≡ true → list_any (same_tm (nested n)) d ≡ true
  unfolding nested
  nested-member zero h = h
  nested-member (suc n) h = next-member (nested n) (nested-member n h)

  nested-weight : (n : ℕ) → n < weight (nested n)
  unfolding nested
  nested-weight zero = omega arith
  nested-weight (suc n) = let less = nested-weight n in omega (arith, less)

-- all members together weigh no less than each
total : List Tm → ℕ
total [] = 0
total (t ∷ ts) = weight t + total ts

member-weight : (t : Tm) (d : List Tm) → list_any (same_tm t) d ≡ true → weight t ≤ total d
unfolding total
member-weight t [] h = absurd (false≢true h)
member-weight t (u ∷ d) h =
    elim (or_cases (same_tm t u) (list_any (same_tm t) d) h) [
      | inl e ↦ (let same : weight t ≡ weight u = ap weight ((tm_decided t u).0 e) in omega (arith, same))
      | inr k ↦ (let less = member-weight t d k in omega (arith, less))
    ]

pub never-closed : (d : List Tm) → list_any (same_tm a) d ≡ true → is_closed_over program certificate free d ≡ true → ⊥
never-closed d h closed =
    let heavy = nested-weight d closed (total d) in
    let light = member-weight (nested d closed (total d)) d (nested-member d closed (total d) h) in
    omega (arith, heavy, light)
