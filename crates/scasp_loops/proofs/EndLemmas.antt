-- Literals at the end of a case.
use Rattle.std.proofs.Common.{◌≡◌, ◌+◌, ◌-◌, ◌<◌, ◌≤◌, ℕ, zero, suc, Bool, true, false, ◌||◌, List, [], ◌∷◌, length, map, slice_get, slice_set, Some, arith, refl, ap, sym, ◌∙◌}
use Rattle.std.specs.List.{list_any}
use Rattle.std.proofs.lemmas.Bool.{and_parts}
use Rattle.scasp_loops.specs.Held.{literal_of}
use Rattle.scasp_readings.specs.Readings.{reading}
use Rattle.scasp_loops.specs.Inside.Changed.{changed, general_if}
use Rattle.scasp_loops.specs.Inside.Hinted.{Within, has_no_variable}
use Rattle.scasp_loops.specs.Inside.Kept.{changed_behind}
use Rattle.scasp_loops.specs.Inside.Zipped.{literals_from}
use Rattle.scasp_loops.specs.declared.entry.Entry.{Entry}
use Rattle.scasp_loops.specs.declared.entry.Marks.{Marks}
use Rattle.scasp_search_rules.specs.Successors.Calls.{lit_under}
use Rattle.scasp_search_rules.specs.Successors.Cases.{kept_literal}
use Rattle.scasp_search_rules.specs.Successors.Reading.{among}
use Rattle.scasp_search_rules.specs.Successors.Variables.{meaning}
use Rattle.scasp_search_rules.specs.declared.states.state.Literal.{Literal}
use Rattle.scasp_search_rules.specs.declared.states.state.State.{State}
use Rattle.scasp_syntax.specs.Tm.{Tm, Tms, var, num, app, nil, cons}
use Rattle.scasp_syntax.specs.Values.{Sub, under, all_under, is_ground, are_ground}
use Rattle.scasp_syntax.specs.declared.atom.Lit.{Lit}
use Rattle.scasp_unify.specs.Unification.{term_vars, terms_vars}
use Rattle.scasp_unify.specs.declared.bindings.Binding.{Binding}

-- ---- the literals from a place on

pub kept_start : {T : Type 0} (n : ℕ) (f : T → T) (xs : List T) → length xs ≤ n → xs ≡ changed_behind n f xs
kept_start zero f [] h = refl
kept_start (suc n) f [] h = refl
kept_start zero f (x ∷ xs) h = absurd (omega (arith, h))
kept_start (suc n) f (x ∷ xs) h = ap (λ ys. x ∷ ys) (kept_start n f xs (omega (arith, h)))

kept_more : {T : Type 0} (n m : ℕ) (f : T → T) (xs : List T) → n + 1 ≡ m → changed n f (changed_behind m f xs) ≡ changed_behind n f xs
kept_more n zero f xs q = absurd (omega (arith, q))
kept_more zero (suc m) f [] q = refl
kept_more (suc n) (suc m) f [] q = refl
kept_more zero (suc zero) f (x ∷ xs) q = refl
kept_more zero (suc (suc m)) f (x ∷ xs) q = absurd (omega (arith, q))
kept_more (suc n) (suc m) f (x ∷ xs) q = ap (λ ys. x ∷ ys) (kept_more n m f xs (omega (arith, q)))

kept_skip : {T : Type 0} (lo hi : ℕ) (f : T → T) (xs : List T) → lo ≤ hi → ((j : ℕ) → (a : T) → lo ≤ j → j < hi → slice_get (changed_behind hi f xs) j ≡ Some a → f a ≡ a)
    → changed_behind hi f xs ≡ changed_behind lo f xs
kept_skip zero zero f [] h g = refl
kept_skip zero (suc hi) f [] h g = refl
kept_skip (suc lo) zero f [] h g = refl
kept_skip (suc lo) (suc hi) f [] h g = refl
kept_skip zero zero f (x ∷ xs) h g = refl
kept_skip (suc lo) zero f (x ∷ xs) h g = absurd (omega (arith, h))
kept_skip zero (suc hi) f (x ∷ xs) h g =
    let e : f x ≡ x = g 0 x (omega arith) (omega arith) refl in
    λ i. sym e i ∷ kept_skip zero hi f xs (omega arith) (λ j a l m t. g (suc j) a (omega arith) (omega (arith, m)) t) i
kept_skip (suc lo) (suc hi) f (x ∷ xs) h g =
    ap (λ ys. x ∷ ys) (kept_skip lo hi f xs (omega (arith, h)) (λ j a l m t. g (suc j) a (omega (arith, l)) (omega (arith, m)) t))

behind_none : {T : Type 0} (f : T → T) (xs : List T) → changed_behind 0 f xs ≡ map f xs
behind_none f [] = refl
behind_none f (x ∷ xs) = ap (λ ys. f x ∷ ys) (behind_none f xs)

pub all_kept : {T : Type 0} (n : ℕ) (f : T → T) (xs ys : List T) → n ≤ 0 → ys ≡ changed_behind n f xs → ys ≡ map f xs
all_kept n f xs ys h e =
    let z : n ≡ 0 = omega (arith, h) in
    e ∙ ap (λ (k : ℕ). changed_behind k f xs) z ∙ behind_none f xs

-- ---- marks

pub or-false : (b : Bool) → (b || false) ≡ b
or-false true = refl
or-false false = refl

pub not_general : (n : ℕ) (ms : List Marks) → ms ≡ changed n (general_if false) ms
not_general n [] = refl
not_general zero (m ∷ ms) = ap (λ (b : Bool). (record m { is_general = b }) ∷ ms) (sym (or-false m.is_general))
not_general (suc n) (m ∷ ms) = ap (λ ls. m ∷ ls) (not_general n ms)

-- ---- a literal without variables

mutual
  stays : (v : Sub) (t : Tm) → is_ground t ≡ true → under v t ≡ t
  stays v (var x) h = absurd (cc h)
  stays v (num q) h = refl
  stays v (app f ts) h = ap (app f) (all-stay v ts h)

  all-stay : (v : Sub) (ts : Tms) → are_ground ts ≡ true → all_under v ts ≡ ts
  all-stay v nil h = refl
  all-stay v (cons t ts) h =
      let p = and_parts (is_ground t) (are_ground ts) h in
      λ i. cons (stays v t p.0 i) (all-stay v ts p.1 i)

mutual
  no-vars : (t : Tm) → is_ground t ≡ true → term_vars t ≡ []
  no-vars (var x) h = absurd (cc h)
  no-vars (num q) h = refl
  no-vars (app f ts) h = none-at-all ts h

  none-at-all : (ts : Tms) → are_ground ts ≡ true → terms_vars ts ≡ []
  none-at-all nil h = refl
  none-at-all (cons t ts) h =
      let p = and_parts (is_ground t) (are_ground ts) h in
      rw (no-vars t p.0, none-at-all ts p.1) refl

literal-stays : (s : State) (us : List ℕ) (a : Literal) → are_ground a.lit.atom.args ≡ true → kept_literal s us a ≡ a
literal-stays s us a h =
    rw (all-stay (meaning s) a.lit.atom.args h) (rw (none-at-all a.lit.atom.args h) (rw (or-false a.is_general) refl))

-- the last one that was not read yet is read, and those before it have no variable
pub kept_next : (bs : List Binding) (us : List ℕ) (to left : ℕ) (ls now new : List Literal) → 0 < left → to ≤ left - 1 → now ≡ changed_behind left (kept_literal (reading bs) us) ls
    → new ≡ changed (left - 1) (kept_literal (reading bs) us) now → Within has_no_variable to (left - 1) new → new ≡ changed_behind to (kept_literal (reading bs) us) ls
kept_next bs us to left ls now new p t n e w =
    let f : Literal → Literal = kept_literal (reading bs) us in
    let here : new ≡ changed_behind (left - 1) f ls = e ∙ ap (changed (left - 1) f) n ∙ kept_more (left - 1) left f ls (omega (arith, p)) in
    here ∙ kept_skip to (left - 1) f ls t (λ j a l m g. literal-stays (reading bs) us a (w.each j a l m (ap (λ (xs : List Literal). slice_get xs j) here ∙ g)))

stay_from : (k n : ℕ) (f : Literal → Literal) (es : List Entry) (ms : List Marks) (e : Entry) → slice_get es n ≡ Some e → ((j : ℕ) → (m : Marks) → f (literal_of j e m) ≡ literal_of j e m)
    → literals_from k es ms ≡ changed n f (literals_from k es ms)
stay_from k n f [] ms e g h = absurd (cc g)
stay_from k n f (d ∷ es) [] e g h = refl
stay_from k zero f (d ∷ es) (m ∷ ms) e g h =
    let r : d ≡ e = cc g in
    ap (λ a. a ∷ literals_from (suc k) es ms) (ap (λ (c : Entry). literal_of k c m) r ∙ sym (h k m) ∙ ap (λ (c : Entry). f (literal_of k c m)) (sym r))
stay_from k (suc n) f (d ∷ es) (m ∷ ms) e g h = ap (λ ls. literal_of k d m ∷ ls) (stay_from (suc k) n f es ms e g h)

pub ground_kept : (bs : List Binding) (us : List ℕ) (es : List Entry) (ms : List Marks) (n : ℕ) (e : Entry) → slice_get es n ≡ Some e → are_ground e.lit.atom.args ≡ true
    → literals_from 0 es ms ≡ changed n (kept_literal (reading bs) us) (literals_from 0 es ms)
ground_kept bs us es ms n e g h = stay_from 0 n (kept_literal (reading bs) us) es ms e g (λ j m. literal-stays (reading bs) us (literal_of j e m) h)

-- ---- a literal with variables

kept_from : (k n : ℕ) (f : Literal → Literal) (g : Marks → Marks) (es : List Entry) (ms : List Marks) (e d : Entry) → slice_get es n ≡ Some e
    → ((j : ℕ) → (m : Marks) → f (literal_of j e m) ≡ literal_of j d (g m)) → literals_from k (slice_set es n d) (changed n g ms) ≡ changed n f (literals_from k es ms)
kept_from k n f g [] ms e d q h = absurd (cc q)
kept_from k zero f g (c ∷ es) [] e d q h = refl
kept_from k (suc n) f g (c ∷ es) [] e d q h = refl
kept_from k zero f g (c ∷ es) (m ∷ ms) e d q h =
    let r : c ≡ e = cc q in
    ap (λ a. a ∷ literals_from (suc k) es ms) (sym (h k m) ∙ ap (λ (b : Entry). f (literal_of k b m)) (sym r))
kept_from k (suc n) f g (c ∷ es) (m ∷ ms) e d q h = ap (λ ls. literal_of k c m ∷ ls) (kept_from (suc k) n f g es ms e d q h)

pub one_kept : (bs : List Binding) (us : List ℕ) (es : List Entry) (ms : List Marks) (n : ℕ) (e d : Entry) (is_general : Bool) → slice_get es n ≡ Some e
    → d.lit ≡ lit_under (reading bs) e.lit → d.cases ≡ e.cases → is_general ≡ list_any (λ x. among x us) (terms_vars d.lit.atom.args)
    → literals_from 0 (slice_set es n d) (changed n (general_if is_general) ms) ≡ changed n (kept_literal (reading bs) us) (literals_from 0 es ms)
one_kept bs us es ms n e d is_general g l c q =
    kept_from 0 n (kept_literal (reading bs) us) (general_if is_general) es ms e d g
    (λ j m. λ i. record {
      number = j;
      lit = sym l i;
      cases = sym c i;
      is_done = m.is_done;
      loops = m.loops;
      is_general = m.is_general || (ap (λ (b : Lit). list_any (λ x. among x us) (terms_vars b.atom.args)) (sym l) ∙ sym q) i;
    })
