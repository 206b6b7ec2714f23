-- What changes keep: the contents of each time, and that bindings have no cycle.
use Rattle.std.proofs.Common.{◌≡◌, ◌≢◌, ℕ, zero, suc, ◌<◌, ◌≤◌, Bool, true, false, nat_eq, List, [], ◌∷◌, ◌++◌, length, take, drop, set, slice_get, Option, None, Some, option_map, ◌⊎◌, inl, inr, eqb-true, subst, refl, sym, ap, ◌∙◌, arith}
use Rattle.std.proofs.Math.Nat.{eq-or-lt_of_le}
use Rattle.std.proofs.Math.Seq.{take-append_seam, take-length}
use Rattle.std.proofs.lemmas.Bool.{and_parts, lt-ltb, ltb-true}
use Rattle.std.proofs.lemmas.List.{drop_all, drop-append-le, length-append, length-take, length-take-le, take-append-drop, take-take}
use Rattle.scasp_syntax.specs.Tm.{Tm, Tms, var, num, app, nil, cons}
use Rattle.scasp_syntax.specs.Values.{under}
use Rattle.scasp_syntax.specs.View.{tm_of}
use Rattle.scasp_syntax.specs.WellFormed.{is_below, are_below}
use Rattle.scasp_unify.specs.Parts.{occurs}
use Rattle.scasp_bind.specs.Kept.{Kept, Continues, all_taken_back, updated, put_at, variables_at}
use Rattle.scasp_bind.specs.Resolving.{Resolves, applied, binding, is_free}
use Rattle.scasp_bind.specs.Inside.Soundness.{IsSound, IsSoundAt, most}
use Rattle.scasp_bind.specs.Inside.Undoing.{TakesBack}
use Rattle.scasp_bind.specs.declared.variable.Change.{Change}
use Rattle.scasp_bind.specs.declared.variable.Variable.{Variable}
use Rattle.scasp_bind.proofs.ResolvingLemmas.{Binds, all_free, bound_resolves, ends_longer, fewer, stable_more}
use Rattle.scasp_bind.proofs.StepLemmas.{all_taken_back-append, slice_get-set}

-- ---- times

pub continues_same : (s : Kept) → Continues s s
continues_same s = record { changes = take-length s.changes; past = λ k h. refl }

pub continues_step : (s r : Kept) → TakesBack r s → Continues s r
continues_step s r b = record {
  changes = ap (take (length s.changes)) b.changes ∙ take-append_seam s.changes (b.latest ∷ []);
  past = λ k h.
      ap (λ cs. all_taken_back (drop k cs) r.variables) b.changes
      ∙ ap (λ cs. all_taken_back cs r.variables) (drop-append-le k s.changes (b.latest ∷ []) h)
      ∙ all_taken_back-append (drop k s.changes) (b.latest ∷ []) r.variables
      ∙ ap (all_taken_back (drop k s.changes)) (sym b.variables);
}

shorter : (cs ds : List Change) → take (length cs) ds ≡ cs → length cs ≤ length ds
shorter cs ds e = omega (arith, ap length e, length-take (length cs) ds)

pub continues_then : (a b c : Kept) → Continues a b → Continues b c → Continues a c
continues_then a b c f g =
    let less = shorter a.changes b.changes f.changes in
    record {
      changes = sym (take-take (length a.changes) (length b.changes) c.changes less) ∙ ap (take (length a.changes)) g.changes ∙ f.changes;
      past = λ k h. g.past k (omega (arith, h, less)) ∙ f.past k h;
    }

pub undo_continues : (old new : Kept) (count : ℕ) → count ≤ length old.changes → new.changes ≡ take count old.changes → new.variables ≡ all_taken_back (drop count old.changes) old.variables
    → Continues new old
undo_continues old new count h e f =
    let size : length new.changes ≡ count = ap length e ∙ length-take-le count old.changes h in
    record {
      changes = ap (λ n. take n old.changes) size ∙ sym e;
      past = λ k g.
          let before : k ≤ length (take count old.changes) = omega (arith, g, ap length e) in
          ap (λ cs. all_taken_back (drop k cs) old.variables) (sym (take-append-drop count old.changes))
          ∙ ap (λ cs. all_taken_back cs old.variables) (drop-append-le k (take count old.changes) (drop count old.changes) before)
          ∙ all_taken_back-append (drop k (take count old.changes)) (drop count old.changes) old.variables
          ∙ ap (all_taken_back (drop k (take count old.changes))) (sym f)
          ∙ ap (λ cs. all_taken_back (drop k cs) new.variables) (sym e);
    }

-- ---- soundness at each time

pub sound_earlier : (a b : Kept) → Continues a b → IsSound b → IsSound a
sound_earlier a b f g = λ k h. subst (IsSoundAt k) (f.past k h) (g k (omega (arith, h, shorter a.changes b.changes f.changes)))

now : (s : Kept) → variables_at (length s.changes) s ≡ s.variables
now s = ap (λ cs. all_taken_back cs s.variables) (drop_all (length s.changes) s.changes (omega arith))

pub sound_now : (s : Kept) → IsSound s → IsSoundAt (length s.changes) s.variables
sound_now s h = subst (IsSoundAt (length s.changes)) (now s) (h (length s.changes) (omega arith))

pub sound_step : (s r : Kept) → TakesBack r s → IsSoundAt (suc (length s.changes)) r.variables → IsSound s → IsSound r
sound_step s r b f g = λ k h. by k (eq-or-lt_of_le h)
  where
    one : length r.changes ≡ suc (length s.changes)
    one = ap length b.changes ∙ length-append s.changes (b.latest ∷ []) ∙ (omega arith)

    by : (k : ℕ) → (k ≡ length r.changes) ⊎ (k < length r.changes) → IsSoundAt k (variables_at k r)
    by k (inl e) = subst (λ n. IsSoundAt n (variables_at n r)) (sym e) (subst (IsSoundAt (length r.changes)) (sym (now r)) (subst (λ n. IsSoundAt n r.variables) (sym one) f))
    by k (inr l) =
        let before : k ≤ length s.changes = omega (arith, l, one) in
        subst (IsSoundAt k) (sym ((continues_step s r b).past k before)) (g k before)

-- ---- one more change

mutual
  more-below : (n m : ℕ) → n ≤ m → (t : Tm) → is_below n t ≡ true → is_below m t ≡ true
  more-below n m h (var x) e = lt-ltb x m (omega (arith, ltb-true x n e, h))
  more-below n m h (num q) e = refl
  more-below n m h (app f ts) e = more-each-below n m h ts e

  more-each-below : (n m : ℕ) → n ≤ m → (ts : Tms) → are_below n ts ≡ true → are_below m ts ≡ true
  more-each-below n m h nil e = refl
  more-each-below n m h (cons t ts) e =
      let p = and_parts (is_below n t) (are_below n ts) e in
      rw (more-below n m h t p.0, more-each-below n m h ts p.1) refl

-- no variable is bound to anything else than before
pub fewer_sound : (k : ℕ) (vs ws : List Variable) → length vs ≤ length ws → ((x : ℕ) → (binding ws x ≡ None) ⊎ (binding ws x ≡ binding vs x)) → IsSoundAt k vs → IsSoundAt (suc k) ws
fewer_sound k vs ws l h s = record {
  below = λ x t e. below x t e (h x);
  ends = λ x.
      let free = fewer (binding vs) (binding ws) h (most k) x (s.ends x) in
      ap (is_free (binding ws)) (stable_more (suc (most k)) (most k) (binding ws) x free) ∙ free;
}
  where
    below : (x : ℕ) (t : Tm) → binding ws x ≡ Some t → (binding ws x ≡ None) ⊎ (binding ws x ≡ binding vs x) → is_below (length ws) t ≡ true
    below x t e (inl p) = absurd (none-some t (sym p ∙ e))
      where
        none-some : (t : Tm) → None ≡ Some t → ⊥
        none-some t p = cc
    below x t e (inr p) = more-below (length vs) (length ws) l t (s.below x t (sym p ∙ e))

-- one variable more is bound, to a term in which it does not stand
pub bound_sound : (k : ℕ) (vs ws : List Variable) (x : ℕ) (t : Tm) → length ws ≡ length vs → Binds (binding vs) (binding ws) x t → is_below (length vs) t ≡ true
    → ((u : Tm) → Resolves (binding vs) t u → occurs x u ≡ false) → IsSoundAt k vs → IsSoundAt (suc k) ws
bound_sound k vs ws x t l b below apart s = record {
  below = λ y u e. known y u e (nat_eq x y) refl;
  ends = λ y. ends_longer (binding vs) (binding ws) x t b (most k) free_then (most k) y (s.ends y);
}
  where
    free : is_free (binding vs) (under (applied (most k) (binding vs)) t) ≡ true
    free = all_free (binding vs) (applied (most k) (binding vs)) s.ends t

    free_then : is_free (binding ws) (under (applied (most k) (binding ws)) t) ≡ true
    free_then = bound_resolves (binding vs) (binding ws) x t b (most k) free (apart _ (record { times = most k; value = refl; free = free }))

    known : (y : ℕ) (u : Tm) → binding ws y ≡ Some u → (q : Bool) → nat_eq x y ≡ q → is_below (length ws) u ≡ true
    known y u e true p =
        let same : x ≡ y = eqb-true x y p in
        let both : Some t ≡ Some u = sym b.bound ∙ ap (binding ws) same ∙ e in
        let it : t ≡ u = cc in
        ap (λ n. is_below n u) l ∙ ap (is_below (length vs)) (sym it) ∙ below
    known y u e false p = ap (λ n. is_below n u) l ∙ s.below y u (sym (b.others y p) ∙ e)

-- ---- what a change does to the bindings

pub fresh_bindings : (vs : List Variable) (v : Variable) → v.term ≡ None → (x : ℕ) → (binding (vs ++ v ∷ []) x ≡ None) ⊎ (binding (vs ++ v ∷ []) x ≡ binding vs x)
fresh_bindings [] v e zero = inl (ap (option_map tm_of) e)
fresh_bindings [] v e (suc x) = inl refl
fresh_bindings (u ∷ us) v e zero = inr refl
fresh_bindings (u ∷ us) v e (suc x) = fresh_bindings us v e x

pub set-other : (vs : List Variable) (x y : ℕ) (v : Variable) → y ≢ x → slice_get (set vs x v) y ≡ slice_get vs y
set-other [] x y v n = refl
set-other (u ∷ us) zero zero v n = absurd (n refl)
set-other (u ∷ us) zero (suc y) v n = refl
set-other (u ∷ us) (suc x) zero v n = refl
set-other (u ∷ us) (suc x) (suc y) v n = set-other us x y v (λ e. n (ap suc e))

pub updated_other : (vs : List Variable) (x y : ℕ) (f : Variable → Variable) → y ≢ x → slice_get (updated x f vs) y ≡ slice_get vs y
updated_other vs x y f n = by (slice_get vs x)
  where
    by : (o : Option Variable) → slice_get (put_at vs x f o) y ≡ slice_get vs y
    by None = refl
    by (Some v) = set-other vs x y (f v) n

pub updated_same : (vs : List Variable) (x : ℕ) (f : Variable → Variable) → slice_get (updated x f vs) x ≡ option_map f (slice_get vs x)
updated_same vs x f = by (slice_get vs x) refl
  where
    by : (o : Option Variable) → slice_get vs x ≡ o → slice_get (put_at vs x f o) x ≡ option_map f o
    by None e = e
    by (Some v) e = slice_get-set vs x v (f v) e
