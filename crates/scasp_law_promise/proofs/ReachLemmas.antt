-- Over a domain that has the values of the free variables and the arguments of its members, an instance gives each variable that may stand
-- on a line a value of the domain.
use Rattle.std.proofs.Common.{◌≡◌, ◌≤◌, ◌<◌, ℕ, zero, suc, true, nat_eq, nat_lt, nat_le, List, [], ◌∷◌, sym, subst, inl, inr, arith}
use Rattle.std.specs.List.{Contains, list_all}
use Rattle.std.proofs.lemmas.Bool.{false≢true, and_parts, or_cases, ltb-true}
use Rattle.std.proofs.lemmas.Bool.Decides.{nat_tests}
use Rattle.scasp_list.proofs.MemberLemmas.{Contains-here, Contains-there}
use Rattle.scasp_syntax.specs.Tm.{Tm, Tms, app, items}
use Rattle.scasp_syntax.specs.Values.{Sub, all_under}
use Rattle.scasp_syntax.proofs.SameLemmas.{tm_decided}
use Rattle.scasp_sound.proofs.DomainLemmas.{within}
use Rattle.scasp_unify.specs.Negations.{new_parts}
use Rattle.scasp_lines.specs.Opened.{Opened, ranges, shaped, assumed, is_met, is_part, sets, knows, none_known, fits, well}
use Rattle.scasp_lines.proofs.PartLemmas.{nat-eq, part-above}
use Rattle.scasp_law_promise.proofs.VisibleLemmas.{is_visible, are_visible}

-- the value of each part is one of those of the parts
part-value : (v : Sub) (k n x : ℕ) → is_part k n x ≡ true → Contains (items (all_under v (new_parts k n))) (v x)
part-value v k zero x e = absurd (false≢true e)
part-value v k (suc n) x e =
    elim (or_cases (nat_eq x k) (is_part (suc k) n x) e) [
      | inl same ↦
          subst (λ (y : ℕ). Contains (v k ∷ items (all_under v (new_parts (suc k) n))) (v y)) (sym (nat-eq x k same))
          (Contains-here (v k) (items (all_under v (new_parts (suc k) n))))
      | inr j ↦ Contains-there (v k) (items (all_under v (new_parts (suc k) n))) (v x) (part-value v (suc k) n x j)
    ]

module _ (n top : ℕ) (d : List Tm) (v : Sub)
    (closed : (f : ℕ) (ts : Tms) (u : Tm) → within d (app f ts) ≡ true → Contains (items ts) u → within d u ≡ true)
    (free : (x : ℕ) → nat_lt x n ≡ true → within d (v x) ≡ true) where
  entry-reached : (os : List Opened) (o : Opened) → ((y : ℕ) → nat_lt y top ≡ true → knows n os y ≡ true → within d (v y) ≡ true)
      → fits n os o ≡ true → is_visible top o ≡ true → is_met d v o ≡ true → (x : ℕ) → nat_lt x top ≡ true → sets o x ≡ true → within d (v x) ≡ true
  entry-reached os (ranges y) rest f s m x l e = subst (λ (z : ℕ). within d (v z) ≡ true) (sym (nat-eq x y e)) m
  entry-reached os (shaped y g k j) rest f s m x l e =
      elim (or_cases (nat_le top k) (nat_lt y top) s) [
        | inl t ↦
            (let above : k ≤ x = part-above k j x e in
            let below : x < top = ltb-true x top l in
            let out : top ≤ k = grind (arith, nat_tests, t) in
            absurd (omega (arith, above, below, out)))
        | inr t ↦
            (let q = and_parts (knows n os y) (none_known (knows n os) k j) f in
            let same = (tm_decided (v y) (app g (all_under v (new_parts k j)))).0 m in
            closed g (all_under v (new_parts k j)) (v x) (subst (λ (z : Tm). within d z ≡ true) same (rest y t q.0)) (part-value v k j x e))
      ]
  entry-reached os (assumed c) rest f s m x l e = absurd (false≢true e)

  pub reached : (os : List Opened) → well n os ≡ true → are_visible top os ≡ true → list_all (is_met d v) os ≡ true
      → (x : ℕ) → nat_lt x top ≡ true → knows n os x ≡ true → within d (v x) ≡ true
  reached [] w s m x l k = free x k
  reached (o ∷ os) w s m x l k =
      let p = and_parts (well n os) (fits n os o) w in
      let q = and_parts (is_visible top o) (are_visible top os) s in
      let r = and_parts (is_met d v o) (list_all (is_met d v) os) m in
      elim (or_cases (sets o x) (knows n os x) k) [
        | inl e ↦ entry-reached os o (λ y i j. reached os p.0 q.1 r.1 y i j) p.1 q.0 r.0 x l e
        | inr j ↦ reached os p.0 q.1 r.1 x l j
      ]
