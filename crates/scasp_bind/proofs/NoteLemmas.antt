-- Notes of bound variables, made on the way to what they lead to.
use Rattle.std.proofs.Common.{◌≡◌, ℕ, Bool, true, false, cond, nat_eq, Option, None, Some, is_some, eqb-true, ◌⊎◌, inl, inr, refl, sym, ap, ◌∙◌}
use Rattle.std.specs.Borrow.{Bor}
use Rattle.scasp_syntax.specs.Tm.{Tm, var, num, app}
use Rattle.scasp_syntax.specs.Values.{Sub, under}
use Rattle.scasp_syntax.specs.View.{tm_of}
use Rattle.scasp_syntax.specs.declared.term.Term.{Term}
use Rattle.scasp_unify.specs.Parts.{occurs}
use Rattle.scasp_bind.specs.Kept.{Kept}
use Rattle.scasp_bind.specs.Inside.Notes.{Adds, Approaches, AreEnds, AreWithout, Notes, Puts, noted_of}
use Rattle.scasp_bind.specs.Inside.Soundness.{LeadsTo, resolver}

-- ---- one note

pub puts : (x : ℕ) (e : Bor Term) (n m : Notes) → ((y : ℕ) → m y ≡ cond (nat_eq x y) (Some e) (n y)) → Puts (var x) e.now n m
puts x e n m h = λ y u g. by y u (nat_eq x y) refl (sym (h y) ∙ g)
  where
    by : (y : ℕ) (u : Bor Term) (q : Bool) → nat_eq x y ≡ q → cond q (Some e) (n y) ≡ Some u → (n y ≡ Some u) ⊎ ((u.now ≡ e.now) × (var y ≡ var x))
    by y u true p g = let same : e ≡ u = cc in inr (ap (λ b. b.now) (sym same), ap var (sym (eqb-true x y p)))
    by y u false p g = inl g

pub adds_none : (s : Kept) (t : Tm) (e : Term) (n : Notes) → Adds s t e n n
adds_none s t e n = λ y u g. inl g

pub adds_then : (s : Kept) (t a : Tm) (e : Term) (n m k : Notes) → Adds s t e n m → Puts a e m k → under (resolver s) a ≡ under (resolver s) t → Adds s t e n k
adds_then s t a e n m k f g same = λ y u h. by y u (g y u h)
  where
    by : (y : ℕ) (u : Bor Term) → (m y ≡ Some u) ⊎ ((u.now ≡ e) × (var y ≡ a)) → (n y ≡ Some u) ⊎ ((u.now ≡ e) × (resolver s y ≡ under (resolver s) t))
    by y u (inl p) = f y u p
    by y u (inr p) = inr (p.0, ap (under (resolver s)) p.1 ∙ same)

-- ---- ends

pub ends_none : (s : Kept) (n : Notes) → ((y : ℕ) → n y ≡ None) → AreEnds s n
ends_none s n h = λ y u g. absurd (none-some u (sym (h y) ∙ g))
  where
    none-some : (u : Bor Term) → None ≡ Some u → ⊥
    none-some u p = cc

pub ends_more : (s : Kept) (t : Tm) (e : Term) (n m : Notes) → AreEnds s n → LeadsTo s t (tm_of e) → Adds s t e n m → AreEnds s m
ends_more s t e n m ends leads adds = λ y u g. by y u (adds y u g)
  where
    by : (y : ℕ) (u : Bor Term) → (n y ≡ Some u) ⊎ ((u.now ≡ e) × (resolver s y ≡ under (resolver s) t)) → LeadsTo s (var y) (tm_of u.now)
    by y u (inl p) = ends y u p
    by y u (inr p) = rw p.0 (record { below = leads.below; same = leads.same ∙ sym p.1; unbound = leads.unbound })

noted-leads : (s : Kept) (n : Notes) (t : Tm) (u : Bor Term) → AreEnds s n → noted_of n t ≡ Some u → LeadsTo s t (tm_of u.now)
noted-leads s n (var y) u ends e = ends y u e
noted-leads s n (num q) u ends e = cc
noted-leads s n (app f ts) u ends e = cc

pub leads_on : (s : Kept) (n : Notes) (t r : Tm) (u : Bor Term) → AreEnds s n → Approaches s n t r → noted_of n r ≡ Some u → LeadsTo s t (tm_of u.now)
leads_on s n t r u ends a e =
    let l = noted-leads s n r u ends e in
    record { below = l.below; same = l.same ∙ a.same; unbound = l.unbound }

pub leads_here : (s : Kept) (n : Notes) (t r : Tm) → Approaches s n t r → noted_of n r ≡ None → LeadsTo s t r
leads_here s n t r a e = record { below = a.below; same = a.same; unbound = a.unbound e }

-- ---- variables that have not this one

pub without_none : (x : ℕ) (s : Sub) (n : Notes) → ((y : ℕ) → n y ≡ None) → AreWithout x s n
without_none x s n h = λ y u g. absurd (none-some u (sym (h y) ∙ g))
  where
    none-some : (u : Bor Term) → None ≡ Some u → ⊥
    none-some u p = cc

pub without_more : (x : ℕ) (s : Kept) (t : Tm) (e : Term) (n m : Notes) → AreWithout x (resolver s) n → occurs x (under (resolver s) t) ≡ false → Adds s t e n m → AreWithout x (resolver s) m
without_more x s t e n m without not adds = λ y u g. by y u (adds y u g)
  where
    by : (y : ℕ) (u : Bor Term) → (n y ≡ Some u) ⊎ ((u.now ≡ e) × (resolver s y ≡ under (resolver s) t)) → occurs x (resolver s y) ≡ false
    by y u (inl p) = without y u p
    by y u (inr p) = ap (occurs x) p.1 ∙ not

-- what is noted of the term, if anything, says that it has not the variable
pub noted_without : (x : ℕ) (s : Sub) (n : Notes) (t : Tm) → AreWithout x s n → is_some (noted_of n t) ≡ true → occurs x (under s t) ≡ false
noted_without x s n (var y) without e = by (n y) refl e
  where
    by : (o : Option (Bor Term)) → n y ≡ o → is_some o ≡ true → occurs x (s y) ≡ false
    by None p e = cc
    by (Some u) p e = without y u p
noted_without x s n (num q) without e = cc
noted_without x s n (app f ts) without e = cc

pub not_noted : (o : Option (Bor Term)) → is_some o ≡ false → o ≡ None
not_noted None e = refl
not_noted (Some u) e = cc
