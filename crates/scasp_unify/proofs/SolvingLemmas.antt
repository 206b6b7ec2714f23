-- Parts solved one by one make what all of them make at once.
use Rattle.std.proofs.Common.{◌≡◌, ◌≢◌, ◌<◌, get_or, remove, drop, take, ℕ, zero, suc, ◌+◌, ◌≤◌, zero-add, Bool, true, false, nat_eq, if◌then◌else◌, List, [], ◌∷◌, ◌++◌, map, length, Option, None, Some, is_some, refl, sym, ap, subst, ◌∙◌, arith, add_assoc, add-zero, append-nil, append_assoc, reverse}
use Rattle.std.proofs.lemmas.Bool.{true≢false}
use Rattle.std.proofs.lemmas.Bool.Decides.{Decides-eqb}
use Rattle.std.proofs.lemmas.List.{length-append, length-take, map-append, nil_from_length, reverse-append, reverse-reverse, take-take, take_at}
use Rattle.scasp_list.specs.Each.{Each}
use Rattle.scasp_num.specs.Arithmetic.{◌>>=◌}
use Rattle.scasp_syntax.specs.Same.{same_number}
use Rattle.scasp_syntax.specs.Tm.{Tm, Tms, var, num, app, nil, cons}
use Rattle.scasp_syntax.specs.Values.{Sub, under, all_under}
use Rattle.scasp_syntax.specs.View.{tm_of}
use Rattle.scasp_syntax.proofs.ValueLemmas.{under-under}
use Rattle.scasp_unify.specs.Parts.{Part, occurs, part_if, both_parts, parts, parts_each, left_side, right_side}
use Rattle.scasp_unify.specs.Unification.{single, then_by, parts_under, solved, unifier, term_vars, Absorbs}
use Rattle.scasp_unify.specs.Resolver.{extended}
use Rattle.scasp_unify.specs.Solving.{sub_of, part_of, behind, AddsParts, Solves, resolved_parts, made_by, LeadsTo, Clashes}
use Rattle.scasp_unify.specs.declared.bindings.Binding.{Binding}
use Rattle.scasp_unify.specs.declared.parts.Part.{Part as FoundPart}
use Rattle.scasp_unify.proofs.LaterParts.{both-none, parts-later, under-append}
use Rattle.scasp_unify.proofs.UnificationLemmas.{Fits, Fair, IfParts, both-fair, equation-fair, single-absent, absorbs-one, solved-general, solved-solves, General, SolvesEach, resolved-twice}

-- ---- substitutions

mutual
  pub under-var : (t : Tm) → under var t ≡ t
  under-var (var x) = refl
  under-var (num q) = refl
  under-var (app f ts) = ap (app f) (all_under-var ts)

  all_under-var : (ts : Tms) → all_under var ts ≡ ts
  all_under-var nil = refl
  all_under-var (cons t ts) = λ i. cons (under-var t i) (all_under-var ts i)

pub then-var : (s : Sub) → then_by s var ≡ s
then-var s = λ i x. under-var (s x) i

pub then-assoc : (a b c : Sub) → then_by (then_by a b) c ≡ then_by a (then_by b c)
then-assoc a b c = λ i x. under-under c b (a x) i

pub sub-push : (bs : List Binding) (b : Binding) → sub_of (bs ++ b ∷ []) ≡ then_by (sub_of bs) (single b.x (tm_of b.term))
sub-push [] b = then-var (single b.x (tm_of b.term))
sub-push (c ∷ bs) b = ap (then_by (single c.x (tm_of c.term))) (sub-push bs b) ∙ sym (then-assoc (single c.x (tm_of c.term)) (sub_of bs) (single b.x (tm_of b.term)))

-- ---- parts whose variables are unbound

-- no variable of the part is bound
pub record Free (s : Sub) (p : Part) : Type 0 where
  pub at_free : s p.at ≡ var p.at
  pub term_free : under s p.term ≡ p.term
  pub absent : occurs p.at p.term ≡ false

part_if-free : (s : Sub) (x : ℕ) (t : Tm) (turned : Bool) → s x ≡ var x → under s t ≡ t → IfParts (part_if x t turned) (Free s)
part_if-free s x t turned h k = by (occurs x t) refl
  where
    by : (b : Bool) → occurs x t ≡ b → IfParts (if b then None else Some (record { at = x; term = t; turned = turned } ∷ [])) (Free s)
    by true e = tt
    by false e = (record { at_free = h; term_free = k; absent = e }, tt)

args-free : (s : Sub) (f : ℕ) (ts : Tms) → under s (app f ts) ≡ app f ts → all_under s ts ≡ ts
args-free s f ts e = cc

mutual
  pub parts-free : (s : Sub) (t u : Tm) → under s t ≡ t → under s u ≡ u → IfParts (parts t u) (Free s)
  parts-free s (var x) (var y) h k = by (nat_eq x y) refl
    where
      by : (b : Bool) → nat_eq x y ≡ b → IfParts (if b then Some [] else Some (record { at = x; term = var y; turned = false } ∷ [])) (Free s)
      by true e = tt
      by false e = (record { at_free = h; term_free = k; absent = e }, tt)
  parts-free s (var x) (num r) h k = part_if-free s x (num r) false h k
  parts-free s (var x) (app g us) h k = part_if-free s x (app g us) false h k
  parts-free s (num q) (var y) h k = part_if-free s y (num q) true k h
  parts-free s (num q) (num r) h k = by (same_number q r)
    where
      by : (b : Bool) → IfParts (if b then Some [] else None) (Free s)
      by true = tt
      by false = tt
  parts-free s (num q) (app g us) h k = tt
  parts-free s (app f ts) (var y) h k = part_if-free s y (app f ts) true k h
  parts-free s (app f ts) (num r) h k = tt
  parts-free s (app f ts) (app g us) h k = by (nat_eq f g) (each-free s ts us (args-free s f ts h) (args-free s g us k))
    where
      by : (b : Bool) → IfParts (parts_each ts us) (Free s) → IfParts (if b then parts_each ts us else None) (Free s)
      by true p = p
      by false p = tt

  each-free : (s : Sub) (ts us : Tms) → all_under s ts ≡ ts → all_under s us ≡ us → IfParts (parts_each ts us) (Free s)
  each-free s nil nil h k = tt
  each-free s nil (cons u us) h k = tt
  each-free s (cons t ts) nil h k = tt
  each-free s (cons t ts) (cons u us) h k =
      both-fair (Free s) (parts t u) (parts_each ts us)
      (parts-free s t u (let e : under s t ≡ t = cc in e) (let e : under s u ≡ u = cc in e))
      (each-free s ts us (let e : all_under s ts ≡ ts = cc in e) (let e : all_under s us ≡ us = cc in e))

side-free : (s : Sub) (p : Part) → Free s p → (under s (left_side p) ≡ left_side p) × (under s (right_side p) ≡ right_side p)
side-free s p f = by p.turned
  where
    by : (b : Bool) → (under s (if b then p.term else var p.at) ≡ (if b then p.term else var p.at)) × (under s (if b then var p.at else p.term) ≡ (if b then var p.at else p.term))
    by true = (f.term_free, f.at_free)
    by false = (f.at_free, f.term_free)

-- free parts are resolved already
under-free : (s g : Sub) (ps : List Part) → Each (Free s) ps → parts_under (then_by s g) ps ≡ parts_under g ps
under-free s g [] h = refl
under-free s g (p ∷ ps) h =
    let f = side-free s p h.0 in
    let l = sym (under-under g s (left_side p)) ∙ ap (under g) f.0 in
    let r = sym (under-under g s (right_side p)) ∙ ap (under g) f.1 in
    λ i. both_parts (parts (l i) (r i)) (under-free s g ps h.1 i)

-- ---- resolved substitutions stay resolved with a free part bound

abbrev Bound : Part → Sub
Bound p = single p.at p.term

mutual
  stays-free : (s : Sub) (p : Part) → Free s p → (w : Tm) → under s w ≡ w → under s (under (Bound p) w) ≡ under (Bound p) w
  stays-free s p f (var z) e = by (nat_eq z p.at)
    where
      by : (b : Bool) → under s (if b then p.term else var z) ≡ (if b then p.term else var z)
      by true = f.term_free
      by false = e
  stays-free s p f (num q) e = refl
  stays-free s p f (app h ws) e = ap (app h) (all-stay-free s p f ws (args-free s h ws e))

  all-stay-free : (s : Sub) (p : Part) → Free s p → (ws : Tms) → all_under s ws ≡ ws → all_under s (all_under (Bound p) ws) ≡ all_under (Bound p) ws
  all-stay-free s p f nil e = refl
  all-stay-free s p f (cons w ws) e =
      let a = stays-free s p f w (let k : under s w ≡ w = cc in k) in
      let b = all-stay-free s p f ws (let k : all_under s ws ≡ ws = cc in k) in
      λ i. cons (a i) (b i)

bound-once : (p : Part) → occurs p.at p.term ≡ false → Bound p p.at ≡ under (Bound p) p.term
bound-once p absent = by (nat_eq p.at p.at) ((Decides-eqb p.at p.at).1 refl)
  where
    by : (b : Bool) → b ≡ true → (if b then p.term else var p.at) ≡ under (Bound p) p.term
    by true e = sym (single-absent p.at p.term p.term absent)
    by false e = absurd (true≢false (sym e))

pub bound-resolved : (s : Sub) (p : Part) → Absorbs s s → Free s p → Absorbs (then_by s (Bound p)) (then_by s (Bound p))
bound-resolved s p a f y =
    sym (under-under (Bound p) s (under (Bound p) (s y)))
    ∙ ap (under (Bound p)) (stays-free s p f (s y) (a y))
    ∙ absorbs-one (Bound p) p.at p.term (s y) (bound-once p f.absent)

-- ---- one part

later-each : (s g : Sub) (ps : List Part) → parts_under (then_by s g) ps ≡ (parts_under s ps >>= parts_under g)
later-each s g [] = refl
later-each s g (p ∷ ps) =
    let l = sym (under-under g s (left_side p)) in
    let r = sym (under-under g s (right_side p)) in
    (λ i. both_parts (parts (l i) (r i)) (later-each s g ps i))
    ∙ ap (λ o. both_parts o (parts_under s ps >>= parts_under g)) (parts-later g (under s (left_side p)) (under s (right_side p)))
    ∙ joined (parts (under s (left_side p)) (under s (right_side p))) (parts_under s ps)
  where
    joined : (a b : Option (List Part)) → both_parts (a >>= parts_under g) (b >>= parts_under g) ≡ (both_parts a b >>= parts_under g)
    joined None b = refl
    joined (Some ps) None = both-none (parts_under g ps)
    joined (Some ps) (Some qs) = under-append g ps qs

abbrev then_solved : ℕ → Sub → Option (List Part) → Option Sub
then_solved n s o = o >>= (λ qs. solved n qs >>= (λ r. Some (then_by s r)))

pub part-clashes : (s : Sub) (p : Part) → resolved_parts s p ≡ None → Clashes s (p ∷ [])
part-clashes s p e = λ n more. ap (λ o. then_solved n s (both_parts o (parts_under s more))) e

pub part-dropped : (s : Sub) (p : Part) → resolved_parts s p ≡ Some [] → LeadsTo s (p ∷ []) s []
part-dropped s p e = record { bound = 0; same = λ n more. (λ i. made_by (zero-add n i) s (p ∷ more)) ∙ ap (λ o. then_solved n s (both_parts o (parts_under s more))) e ∙ ap (then_solved n s) (first (parts_under s more)) }
  where
    first : (o : Option (List Part)) → both_parts (Some []) o ≡ o
    first None = refl
    first (Some qs) = refl

found-free : (s : Sub) (p q : Part) (qs : List Part) → Absorbs s s → resolved_parts s p ≡ Some (q ∷ qs) → Each (Free s) (q ∷ qs)
found-free s p q qs a e = whole (resolved_parts s p) e (parts-free s (under s (left_side p)) (under s (right_side p)) (resolved-twice s s (left_side p) a) (resolved-twice s s (right_side p) a))
  where
    whole : (o : Option (List Part)) → o ≡ Some (q ∷ qs) → IfParts o (Free s) → Each (Free s) (q ∷ qs)
    whole o f h = subst (λ (o : Option (List Part)). IfParts o (Free s)) f h

-- the first of resolved parts binds its variable in the others, and in those behind them
first-binds : (s : Sub) (q : Part) (qs : List Part) → Each (Free s) qs → (n : ℕ) (more : List Part) → then_solved (suc n) s (both_parts (Some (q ∷ qs)) (parts_under s more)) ≡ made_by n (then_by s (Bound q)) (qs ++ more)
first-binds s q qs free n more = by (parts_under s more) (later-each s (Bound q) more)
  where
    solve : (o : Option (List Part)) → (o >>= (λ rs. solved n rs >>= (λ r. Some (then_by (Bound q) r))) >>= (λ r. Some (then_by s r))) ≡ then_solved n (then_by s (Bound q)) o
    solve None = refl
    solve (Some rs) = last (solved n rs)
      where
        last : (o : Option Sub) → (o >>= (λ r. Some (then_by (Bound q) r)) >>= (λ r. Some (then_by s r))) ≡ (o >>= (λ r. Some (then_by (then_by s (Bound q)) r)))
        last None = refl
        last (Some r) = ap Some (sym (then-assoc s (Bound q) r))

    by : (o : Option (List Part)) → parts_under (then_by s (Bound q)) more ≡ (o >>= parts_under (Bound q)) → then_solved (suc n) s (both_parts (Some (q ∷ qs)) o) ≡ made_by n (then_by s (Bound q)) (qs ++ more)
    by None f =
        sym (ap (then_solved n (then_by s (Bound q))) (sym (under-append (then_by s (Bound q)) qs more) ∙ ap (both_parts (parts_under (then_by s (Bound q)) qs)) f ∙ both-none (parts_under (then_by s (Bound q)) qs)))
    by (Some ms) f =
        solve (parts_under (Bound q) (qs ++ ms))
        ∙ ap (then_solved n (then_by s (Bound q))) (sym (under-append (Bound q) qs ms) ∙ (λ i. both_parts (sym (under-free s (Bound q) qs free) i) (sym f i)) ∙ under-append (then_by s (Bound q)) qs more)

one-more : (n : ℕ) → 1 + n ≡ suc n
one-more n = omega arith

pub part-bound : (s : Sub) (p q : Part) (qs : List Part) → Absorbs s s → resolved_parts s p ≡ Some (q ∷ qs) → LeadsTo s (p ∷ []) (then_by s (Bound q)) qs
part-bound s p q qs a e = record {
  bound = 1;
  same = λ n more. ap (λ m. made_by m s (p ∷ more)) (one-more n) ∙ ap (λ o. then_solved (suc n) s (both_parts o (parts_under s more))) e ∙ first-binds s q qs (found-free s p q qs a e).1 n more;
}

-- what was bound by parts of resolved terms stays resolved
pub part-resolved : (s : Sub) (p q : Part) (qs : List Part) → Absorbs s s → resolved_parts s p ≡ Some (q ∷ qs) → Absorbs (then_by s (Bound q)) (then_by s (Bound q))
part-resolved s p q qs a e = bound-resolved s q a (found-free s p q qs a e).0

-- ---- one part of the code

pub none-left : (s : Sub) (p : Part) (found : List FoundPart) → length found ≡ 0 → Some (map part_of found) ≡ resolved_parts s p → LeadsTo s (p ∷ []) s (map part_of found)
none-left s p [] n e = part-dropped s p (sym e)
none-left s p (f ∷ fs) n e = absurd (omega (arith, n))

-- the first part that is found is bound, and the others are left
pub record FirstBound (bs : List Binding) (p : Part) (after : List Binding) (rest : List FoundPart) : Type 0 where
  pub leads : LeadsTo (sub_of bs) (p ∷ []) (sub_of after) (map part_of rest)
  pub resolved : Absorbs (sub_of after) (sub_of after)

pub first-bound : (bs : List Binding) (p : Part) (found rest : List FoundPart) (f : FoundPart) (after : List Binding) → Absorbs (sub_of bs) (sub_of bs) → Some (map part_of found) ≡ resolved_parts (sub_of bs) p → found ≡ f ∷ rest → after ≡ bs ++ record { x = f.at; term = f.term } ∷ [] → FirstBound bs p after rest
first-bound bs p found rest f after a e is new =
    let whole : resolved_parts (sub_of bs) p ≡ Some (part_of f ∷ map part_of rest) = sym e ∙ ap (λ (fs : List FoundPart). Some (map part_of fs)) is in
    let s : then_by (sub_of bs) (Bound (part_of f)) ≡ sub_of after = sym (ap sub_of new ∙ sub-push bs (record { x = f.at; term = f.term })) in
    record {
      leads = subst (λ (s : Sub). LeadsTo (sub_of bs) (p ∷ []) s (map part_of rest)) s (part-bound (sub_of bs) p (part_of f) (map part_of rest) a whole);
      resolved = subst (λ (s : Sub). Absorbs s s) s (part-resolved (sub_of bs) p (part_of f) (map part_of rest) a whole);
    }

pub first-and-rest : (fs : List FoundPart) (f : FoundPart) → length fs ≢ 0 → f ≡ get_or fs 0 f → fs ≡ f ∷ remove fs 0
first-and-rest [] f n e = absurd (n refl)
first-and-rest (g ∷ fs) f n e = ap (λ (h : FoundPart). h ∷ fs) (sym e)

-- ---- several parts

pub leads-on : (s r t : Sub) (ps qs : List Part) → LeadsTo s ps r qs → LeadsTo r qs t [] → LeadsTo s ps t []
leads-on s r t ps qs h k = record { bound = h.bound + k.bound; same = λ n more. ap (λ m. made_by m s (ps ++ more)) (add_assoc h.bound k.bound n) ∙ h.same (k.bound + n) more ∙ k.same n more }

-- the first of the parts that are left leads to others
leads-through : (s r t : Sub) (ps ds qs : List Part) (p : Part) → LeadsTo s ps r (p ∷ ds) → LeadsTo r (p ∷ []) t qs → LeadsTo s ps t (qs ++ ds)
leads-through s r t ps ds qs p h k = record {
  bound = h.bound + k.bound;
  same = λ n more. ap (λ m. made_by m s (ps ++ more)) (add_assoc h.bound k.bound n) ∙ h.same (k.bound + n) more ∙ k.same n (ds ++ more) ∙ ap (made_by n t) (sym (append_assoc qs ds more));
}

pub leads-self : (s : Sub) (ps : List Part) → LeadsTo s ps s ps
leads-self s ps = record { bound = 0; same = λ n more. ap (λ m. made_by m s (ps ++ more)) (zero-add n) }

-- no part is left to bind
pub none-found : (s : Sub) (found : List FoundPart) → length found ≡ 0 → LeadsTo s (map part_of found) s []
none-found s [] n = leads-self s []
none-found s (f ∷ fs) n = absurd (omega (arith, n))

-- ---- more fuel

solved-more : (n m : ℕ) (ps : List Part) (s : Sub) → n ≤ m → solved n ps ≡ Some s → solved m ps ≡ Some s
solved-more n m [] s h e = e
solved-more zero m (p ∷ ps) s h e = cc
solved-more (suc n) zero (p ∷ ps) s h e = absurd (omega (arith, h))
solved-more (suc n) (suc m) (p ∷ ps) s h e = by (parts_under (Bound p) ps) e (λ qs r f. solved-more n m qs r (omega (arith, h)) f)
  where
    last : (o u : Option Sub) → (o >>= (λ r. Some (then_by (Bound p) r))) ≡ Some s → ((r : Sub) → o ≡ Some r → u ≡ Some r) → (u >>= (λ r. Some (then_by (Bound p) r))) ≡ Some s
    last None u f rest = cc
    last (Some r) u f rest = ap (λ (o : Option Sub). o >>= (λ r. Some (then_by (Bound p) r))) (rest r refl) ∙ f

    by : (o : Option (List Part)) → (o >>= (λ qs. solved n qs >>= (λ r. Some (then_by (Bound p) r)))) ≡ Some s → ((qs : List Part) (r : Sub) → solved n qs ≡ Some r → solved m qs ≡ Some r) → (o >>= (λ qs. solved m qs >>= (λ r. Some (then_by (Bound p) r)))) ≡ Some s
    by None f rest = cc
    by (Some qs) f rest = last (solved n qs) (solved m qs) f (rest qs)

made-more : (n m : ℕ) (s : Sub) (ps : List Part) (t : Sub) → n ≤ m → made_by n s ps ≡ Some t → made_by m s ps ≡ Some t
made-more n m s ps t h e = by (parts_under s ps) e
  where
    last : (qs : List Part) (o : Option Sub) → solved n qs ≡ o → (o >>= (λ r. Some (then_by s r))) ≡ Some t → (solved m qs >>= (λ r. Some (then_by s r))) ≡ Some t
    last qs None g f = cc
    last qs (Some r) g f = ap (λ (o : Option Sub). o >>= (λ r. Some (then_by s r))) (solved-more n m qs r h g) ∙ f

    by : (o : Option (List Part)) → then_solved n s o ≡ Some t → then_solved m s o ≡ Some t
    by None f = cc
    by (Some qs) f = last qs (solved n qs) refl f

pub leads-clash : (s r : Sub) (ps ds : List Part) (p : Part) → LeadsTo s ps r (p ∷ ds) → Clashes r (p ∷ []) → Clashes s ps
leads-clash s r ps ds p h k = λ n more. by n more (made_by n s (ps ++ more)) refl
  where
    by : (n : ℕ) (more : List Part) (o : Option Sub) → made_by n s (ps ++ more) ≡ o → o ≡ None
    by n more None e = refl
    by n more (Some t) e =
        let later : made_by (h.bound + n) s (ps ++ more) ≡ Some t = made-more n (h.bound + n) s (ps ++ more) t (omega arith) e in
        let none : made_by (h.bound + n) s (ps ++ more) ≡ None = h.same n more ∙ k n (ds ++ more) in
        cc

-- what is left of some parts clashes, and so do they
rest-clashes : (s r : Sub) (ps qs : List Part) → LeadsTo s ps r qs → Clashes r qs → Clashes s ps
rest-clashes s r ps qs h k = λ n more. by n more (made_by n s (ps ++ more)) refl
  where
    by : (n : ℕ) (more : List Part) (o : Option Sub) → made_by n s (ps ++ more) ≡ o → o ≡ None
    by n more None e = refl
    by n more (Some t) e =
        let later : made_by (h.bound + n) s (ps ++ more) ≡ Some t = made-more n (h.bound + n) s (ps ++ more) t (omega arith) e in
        let none : made_by (h.bound + n) s (ps ++ more) ≡ None = h.same n more ∙ k n more in
        cc

pub rest-solved : (b : Bool) (s r t : Sub) (ps qs : List Part) → LeadsTo s ps r qs → Solves b r qs t → Solves b s ps t
rest-solved true s r t ps qs h k = leads-on s r t ps qs h k
rest-solved false s r t ps qs h k = rest-clashes s r ps qs h k

pub next-part : (ps : List FoundPart) (i : ℕ) (p : FoundPart) → i < length ps → p ≡ get_or ps i p → map part_of (drop i ps) ≡ part_of p ∷ map part_of (drop (i + 1) ps)
next-part [] i p h e = absurd (omega arith)
next-part (q ∷ qs) zero p h e = ap (λ (r : FoundPart). part_of r ∷ map part_of qs) (sym e)
next-part (q ∷ qs) (suc i) p h e =
    let n : suc i + 1 ≡ suc (i + 1) = omega arith in
    next-part qs i p (omega arith) e ∙ ap (λ (m : ℕ). part_of p ∷ map part_of (drop m (q ∷ qs))) (sym n)

-- ---- parts that wait, the last one first

abbrev pub waiting : List FoundPart → List Part
waiting fs = map part_of (reverse fs)

pub all-waiting : (s : Sub) (parts left : List FoundPart) → left ≡ reverse parts → LeadsTo s (map part_of parts) s (waiting left)
all-waiting s parts left e = subst (LeadsTo s (map part_of parts) s) (ap (map part_of) (sym (ap reverse e ∙ reverse-reverse parts))) (leads-self s (map part_of parts))

next-waits : (left fewer : List FoundPart) (f : FoundPart) → left ≡ fewer ++ f ∷ [] → waiting left ≡ part_of f ∷ waiting fewer
next-waits left fewer f e = ap waiting e ∙ ap (map part_of) (reverse-append fewer (f ∷ []))

pub next-solved : (s r t : Sub) (ps : List Part) (left fewer more rest : List FoundPart) (f : FoundPart) → left ≡ fewer ++ f ∷ [] → more ≡ fewer ++ reverse rest
    → LeadsTo s ps r (waiting left) → LeadsTo r (part_of f ∷ []) t (map part_of rest) → LeadsTo s ps t (waiting more)
next-solved s r t ps left fewer more rest f e m h k =
    let all : waiting more ≡ map part_of rest ++ waiting fewer =
    ap waiting m ∙ ap (map part_of) (reverse-append fewer (reverse rest) ∙ ap (λ (fs : List FoundPart). fs ++ reverse fewer) (reverse-reverse rest)) ∙ map-append part_of rest (reverse fewer) in
    subst (LeadsTo s ps t) (sym all) (leads-through s r t ps (waiting fewer) (map part_of rest) (part_of f) (subst (LeadsTo s ps r) (next-waits left fewer f e) h) k)

pub next-clashes : (s r : Sub) (ps : List Part) (left fewer : List FoundPart) (f : FoundPart) → left ≡ fewer ++ f ∷ [] → LeadsTo s ps r (waiting left) → Clashes r (part_of f ∷ []) → Clashes s ps
next-clashes s r ps left fewer f e h k = leads-clash s r ps (waiting fewer) (part_of f) (subst (LeadsTo s ps r) (next-waits left fewer f e) h) k

pub none-waits : (s r : Sub) (ps : List Part) (left : List FoundPart) → length left ≡ 0 → LeadsTo s ps r (waiting left) → LeadsTo s ps r []
none-waits s r ps left n h = subst (LeadsTo s ps r) (ap waiting (nil_from_length left n)) h

-- ---- a whole equation

-- its parts, taken from resolved terms, are resolved already
parts-again : (s : Sub) (t u : Tm) (ps : List Part) → Absorbs s s → parts (under s t) (under s u) ≡ Some ps → parts_under s ps ≡ Some ps
parts-again s t u ps a e =
    let l = resolved-twice s s t a in
    let r = resolved-twice s s u a in
    ap (λ (o : Option (List Part)). o >>= parts_under s) (sym e) ∙ sym (parts-later s (under s t) (under s u)) ∙ (λ i. parts (l i) (r i)) ∙ e

-- the first of them is bound as it stands
pub record WholeBound (bs : List Binding) (found : List FoundPart) (after : List Binding) (rest : List FoundPart) : Type 0 where
  pub leads : LeadsTo (sub_of bs) (map part_of found) (sub_of after) (map part_of rest)
  pub resolved : Absorbs (sub_of after) (sub_of after)

parts-bound : (s : Sub) (q : Part) (qs : List Part) → Each (Free s) (q ∷ qs) → parts_under s (q ∷ qs) ≡ Some (q ∷ qs) → LeadsTo s (q ∷ qs) (then_by s (Bound q)) qs
parts-bound s q qs free e = record {
  bound = 1;
  same = λ n more. ap (λ m. made_by m s (q ∷ qs ++ more)) (one-more n) ∙ ap (then_solved (suc n) s) (sym (under-append s (q ∷ qs) more)) ∙ ap (λ o. then_solved (suc n) s (both_parts o (parts_under s more))) e ∙ first-binds s q qs free.1 n more;
}

pub whole-bound : (bs : List Binding) (t u : Tm) (found rest : List FoundPart) (f : FoundPart) (after : List Binding) → Absorbs (sub_of bs) (sub_of bs) → parts (under (sub_of bs) t) (under (sub_of bs) u) ≡ Some (map part_of found) → found ≡ f ∷ rest → after ≡ bs ++ record { x = f.at; term = f.term } ∷ [] → WholeBound bs found after rest
whole-bound bs t u found rest f after a e is new =
    let s = sub_of bs in
    let q = part_of f in
    let qs = map part_of rest in
    let listed : map part_of found ≡ q ∷ qs = ap (λ (fs : List FoundPart). map part_of fs) is in
    let whole : parts (under s t) (under s u) ≡ Some (q ∷ qs) = e ∙ ap Some listed in
    let free : Each (Free s) (q ∷ qs) = subst (λ (o : Option (List Part)). IfParts o (Free s)) whole (parts-free s (under s t) (under s u) (resolved-twice s s t a) (resolved-twice s s u a)) in
    let bound : then_by s (Bound q) ≡ sub_of after = sym (ap sub_of new ∙ sub-push bs (record { x = f.at; term = f.term })) in
    record {
      leads = subst (λ (ps : List Part). LeadsTo s ps (sub_of after) qs) (sym listed) (subst (λ (r : Sub). LeadsTo s (q ∷ qs) r qs) bound (parts-bound s q qs free (parts-again s t u (q ∷ qs) a whole)));
      resolved = subst (λ (r : Sub). Absorbs r r) bound (bound-resolved s q a free.0);
    }

pub equation-clashes : (s : Sub) (t u : Tm) → parts (under s t) (under s u) ≡ None → unifier (under s t) (under s u) ≡ None
unfolding unifier
equation-clashes s t u e = ap (λ (o : Option (List Part)). o >>= solved (length (term_vars (under s t) ++ term_vars (under s u)))) e

pub parts-clash : (s : Sub) (t u : Tm) (ps : List Part) → Absorbs s s → parts (under s t) (under s u) ≡ Some ps → Clashes s ps → unifier (under s t) (under s u) ≡ None
unfolding unifier
parts-clash s t u ps a e k = ap (λ (o : Option (List Part)). o >>= solved n) e ∙ by (solved n ps) refl
  where
    n : ℕ
    n = length (term_vars (under s t) ++ term_vars (under s u))

    by : (o : Option Sub) → solved n ps ≡ o → o ≡ None
    by None f = refl
    by (Some r) f =
        let made : made_by n s ps ≡ Some (then_by s r) = ap (then_solved n s) (parts-again s t u ps a e) ∙ ap (λ (o : Option Sub). o >>= (λ r. Some (then_by s r))) f in
        let none : made_by n s ps ≡ None = ap (made_by n s) (sym (append-nil ps)) ∙ k n [] in
        cc

pub parts-solved : (s r : Sub) (t u : Tm) (ps : List Part) → Absorbs s s → parts (under s t) (under s u) ≡ Some ps → LeadsTo s ps r [] → (unifier (under s t) (under s u) >>= (λ q. Some (then_by s q))) ≡ Some r
unfolding unifier
parts-solved s r t u ps a e h = ap (λ (o : Option (List Part)). o >>= solved n >>= (λ q. Some (then_by s q))) e ∙ by (solved h.bound ps) refl
  where
    vs : List ℕ
    vs = term_vars (under s t) ++ term_vars (under s u)

    n : ℕ
    n = length vs

    fair : Each (Fair vs) ps
    fair = subst (λ (o : Option (List Part)). IfParts o (Fair vs)) e (equation-fair (under s t) (under s u))

    made : made_by h.bound s ps ≡ Some r
    made = let whole : made_by (h.bound + 0) s (ps ++ []) ≡ made_by h.bound s ps = λ i. made_by (add-zero h.bound i) s (append-nil ps i) in sym whole ∙ h.same 0 [] ∙ ap Some (then-var r)

    alike : (q : Sub) → solved h.bound ps ≡ Some q → (o : Option Sub) → solved n ps ≡ o → General q o → (o >>= (λ q. Some (then_by s q))) ≡ Some (then_by s q)
    alike q f None g k = absurd k
    alike q f (Some w) g k =
        let one = solved-more h.bound (h.bound + n) ps q (omega arith) f in
        let two = solved-more n (h.bound + n) ps w (omega arith) g in
        let same : w ≡ q = cc in
        ap (λ (q : Sub). Some (then_by s q)) same

    fits : (o : Option Sub) (q : Sub) → o ≡ Some q → SolvesEach ps o → Each (Fits q) ps
    fits o q f k = subst (SolvesEach ps) f k

    by : (o : Option Sub) → solved h.bound ps ≡ o → (solved n ps >>= (λ q. Some (then_by s q))) ≡ Some r
    by None f =
        let none : made_by h.bound s ps ≡ None = ap (then_solved h.bound s) (parts-again s t u ps a e) ∙ ap (λ (o : Option Sub). o >>= (λ q. Some (then_by s q))) f in
        let wrong : Some r ≡ None = sym made ∙ none in
        cc
    by (Some q) f =
        let whole : made_by h.bound s ps ≡ Some (then_by s q) = ap (then_solved h.bound s) (parts-again s t u ps a e) ∙ ap (λ (o : Option Sub). o >>= (λ q. Some (then_by s q))) f in
        alike q f (solved n ps) refl (solved-general n vs ps q (omega arith) fair (fits (solved h.bound ps) q f (solved-solves h.bound vs ps fair))) ∙ sym whole ∙ made

-- so the equation unifies, and binds what was bound
pub unified-by : (s r : Sub) (o : Option Sub) → (o >>= (λ q. Some (then_by s q))) ≡ Some r → (true ≡ is_some o) × (r ≡ extended s o)
unified-by s r None e = cc
unified-by s r (Some q) e = (refl, let same : r ≡ then_by s q = cc in same)

pub not-unified : (s : Sub) (o : Option Sub) → o ≡ None → (false ≡ is_some o) × (s ≡ extended s o)
not-unified s None e = (refl, refl)
not-unified s (Some q) e = cc

pub behind-none : (o : Option (List Part)) (ps : List Part) → behind [] o ≡ Some ps → o ≡ Some ps
behind-none None ps e = cc
behind-none (Some qs) ps e = e

-- what is kept of more bindings is kept of the first ones
pub kept-first : (bs ds cs : List Binding) (b : Binding) → ds ≡ bs ++ b ∷ [] → take (length ds) cs ≡ ds → take (length bs) cs ≡ bs
kept-first bs ds cs b e k =
    let less : length bs ≤ length ds = omega (arith, ap (λ (xs : List Binding). length xs) e, length-append bs (b ∷ [])) in
    sym (take-take (length bs) (length ds) cs less) ∙ ap (take (length bs)) k ∙ ap (take (length bs)) e ∙ take_at bs (b ∷ []) (length bs) refl

pub kept_on : (bs cs ds : List Binding) → take (length bs) cs ≡ bs → length bs ≤ length cs → take (length cs) ds ≡ cs → take (length bs) ds ≡ bs
kept_on bs cs ds h l k = sym (take-take (length bs) (length cs) ds l) ∙ ap (take (length bs)) k ∙ h

pub kept-longer : (bs cs : List Binding) → take (length bs) cs ≡ bs → length bs ≤ length cs
kept-longer bs cs e = omega (arith, ap length e, length-take (length bs) cs)

-- ---- an equation in the code

-- the parts that were found are those of the resolved sides
pub found-apart : (bs xs ys : List Binding) (l r first second : Tm) (b : Bool) (before after : List FoundPart) → xs ≡ bs → ys ≡ bs → first ≡ under (sub_of xs) l → second ≡ under (sub_of ys) r → AddsParts before after b (parts first second) → b ≡ false → parts (under (sub_of bs) l) (under (sub_of bs) r) ≡ None
found-apart bs xs ys l r first second b before after x y f g adds e =
    let one = f ∙ (λ i. under (sub_of (x i)) l) in
    let two = g ∙ (λ i. under (sub_of (y i)) r) in
    (λ i. parts (sym one i) (sym two i)) ∙ subst (λ (b : Bool). AddsParts before after b (parts first second)) e adds

pub found-parts : (bs xs ys : List Binding) (l r first second : Tm) (b : Bool) (before after : List FoundPart) → xs ≡ bs → ys ≡ bs → first ≡ under (sub_of xs) l → second ≡ under (sub_of ys) r → AddsParts before after b (parts first second) → b ≡ true → before ≡ [] → parts (under (sub_of bs) l) (under (sub_of bs) r) ≡ Some (map part_of after)
found-parts bs xs ys l r first second b before after x y f g adds e none =
    let one = f ∙ (λ i. under (sub_of (x i)) l) in
    let two = g ∙ (λ i. under (sub_of (y i)) r) in
    let whole : behind before (parts first second) ≡ Some (map part_of after) = subst (λ (b : Bool). AddsParts before after b (parts first second)) e adds in
    (λ i. parts (sym one i) (sym two i)) ∙ behind-none (parts first second) (map part_of after) (ap (λ (fs : List FoundPart). behind fs (parts first second)) (sym none) ∙ whole)

-- what a call that unifies two terms ends with
pub record Unified (b : Bool) (s r : Sub) (o : Option Sub) : Type 0 where
  pub unified : b ≡ is_some o
  pub bound : r ≡ extended s o

pub sides-apart : (s : Sub) (t u : Tm) → parts (under s t) (under s u) ≡ None → Unified false s s (unifier (under s t) (under s u))
sides-apart s t u e = let k = not-unified s (unifier (under s t) (under s u)) (equation-clashes s t u e) in record { unified = k.0; bound = k.1 }

pub sides-clash : (s r : Sub) (t u : Tm) (ps : List Part) → Absorbs s s → parts (under s t) (under s u) ≡ Some ps → (b : Bool) → Solves b s ps r → b ≡ false → Unified false s s (unifier (under s t) (under s u))
sides-clash s r t u ps a e b k f = let k = not-unified s (unifier (under s t) (under s u)) (parts-clash s t u ps a e (subst (λ (b : Bool). Solves b s ps r) f k)) in record { unified = k.0; bound = k.1 }

pub sides-unify : (s r : Sub) (t u : Tm) (ps : List Part) → Absorbs s s → parts (under s t) (under s u) ≡ Some ps → (b : Bool) → Solves b s ps r → b ≡ true → Unified true s r (unifier (under s t) (under s u))
sides-unify s r t u ps a e b k f = let k = unified-by s r (unifier (under s t) (under s u)) (parts-solved s r t u ps a e (subst (λ (b : Bool). Solves b s ps r) f k)) in record { unified = k.0; bound = k.1 }
