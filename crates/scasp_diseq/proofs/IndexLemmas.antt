-- Mentions that tell in which constraints each variable stands.
use Rattle.std.proofs.Common.{◌≡◌, ℕ, ◌<◌, ◌≤◌, Bool, true, false, if◌then◌else◌, List, [], ◌∷◌, ◌++◌, length, take, Some, slice_get, ◌⊎◌, inl, inr, refl, sym, ap, ◌∙◌, subst, arith}
use Rattle.std.proofs.Math.Seq.{take-append_seam}
use Rattle.std.proofs.lemmas.List.{append-nil, length-map, length-take, map-append, take-append-le}
use Rattle.scasp_syntax.specs.declared.con.Con.{Con}
use Rattle.scasp_diseq.specs.Inside.Indexed.{Began, IsIndexed, Tells, cons_of, places_where, stands_in}
use Rattle.scasp_diseq.specs.Inside.Noting.{Notes, ends_with, with_place}
use Rattle.scasp_diseq.specs.declared.mentions.Mention.{Mention}
use Rattle.scasp_diseq.specs.declared.posted.Posted.{Posted}
use Rattle.scasp_diseq.proofs.ListLemmas.{front_or_end, slice_get-take, take-take}
use Rattle.scasp_diseq.proofs.NotingLemmas.{with_place-new}
use Rattle.scasp_diseq.proofs.PlaceLemmas.{below-where, ends-below, places_where-more}

cons-more : (ps : List Posted) (p : Posted) → cons_of (ps ++ p ∷ []) ≡ cons_of ps ++ p.con ∷ []
cons-more ps p = map-append (λ (p : Posted). p.con) ps (p ∷ [])

pub cons-length : (ps : List Posted) → length (cons_of ps) ≡ length ps
cons-length ps = length-map ps (λ (p : Posted). p.con)

-- ---- mentions that go on from others

pub prefix-length : (ms ls : List Mention) → take (length ms) ls ≡ ms → length ms ≤ length ls
prefix-length ms ls e = omega (arith, ap length e, length-take (length ms) ls)

pub prefix-further : (ms ls ns : List Mention) → take (length ms) ls ≡ ms → take (length ls) ns ≡ ls → take (length ms) ns ≡ ms
prefix-further ms ls ns e f = sym (take-take ns (length ms) (length ls) (prefix-length ms ls e)) ∙ ap (take (length ms)) f ∙ e

-- ---- one constraint more

with_place-fresh : (p : ℕ) (b : Bool) (ps : List ℕ) → ends_with p ps ≡ false → with_place p b ps ≡ ps ++ (if b then p ∷ [] else [])
with_place-fresh p true ps e = with_place-new p ps e
with_place-fresh p false ps e = sym (append-nil ps)

tells-more : (ms ls : List Mention) (cs : List Con) (c : Con) → Tells ms cs → Notes (length cs) (λ y. stands_in y c) ms ls → Tells ls (cs ++ c ∷ [])
tells-more ms ls cs c h e x =
    e x ∙ ap (with_place (length cs) (stands_in x c)) (h x)
    ∙ with_place-fresh (length cs) (stands_in x c) (places_where (stands_in x) cs) (ends-below (length cs) (places_where (stands_in x) cs) (below-where (stands_in x) cs))
    ∙ sym (places_where-more (stands_in x) cs c)

module _ (ps : List Posted) (ms ls : List Mention) (p : Posted) (h : IsIndexed ps ms) (begins : take (length ms) ls ≡ ms) (start : p.before ≡ length ms) where
  longer : length ms ≤ length ls
  longer = prefix-length ms ls begins

  began-more : (n : ℕ) (r : Posted) → ((n < length ps) × (slice_get ps n ≡ Some r)) ⊎ ((n ≡ length ps) × (r ≡ p)) → Began (ps ++ p ∷ []) ls n r
  began-more n r (inl g) =
      let b = h.past n r g.1 in
      let mentions : take r.before ms ≡ take r.before ls = ap (take r.before) (sym begins) ∙ take-take ls r.before (length ms) b.within in
      let front : cons_of (take n ps) ≡ cons_of (take n (ps ++ p ∷ [])) = ap cons_of (sym (take-append-le n ps (p ∷ []) (omega (arith, g.0)))) in
      record {
        within = omega (arith, b.within, longer);
        tells = subst (λ l. Tells l (cons_of (take n (ps ++ p ∷ [])))) mentions (subst (Tells (take r.before ms)) front b.tells);
      }
  began-more n r (inr g) =
      let same : r.before ≡ length ms = ap (λ (q : Posted). q.before) g.1 ∙ start in
      let mentions : ms ≡ take r.before ls = sym begins ∙ ap (λ k. take k ls) (sym same) in
      let front : cons_of ps ≡ cons_of (take n (ps ++ p ∷ [])) = ap cons_of (sym (take-append_seam ps (p ∷ [])) ∙ ap (λ k. take k (ps ++ p ∷ [])) (sym g.0)) in
      record {
        within = omega (arith, same, longer);
        tells = subst (λ l. Tells l (cons_of (take n (ps ++ p ∷ [])))) mentions (subst (Tells ms) front h.now);
      }

  ordered-more : (m n : ℕ) (q r : Posted) → m ≤ n → ((m < length ps) × (slice_get ps m ≡ Some q)) ⊎ ((m ≡ length ps) × (q ≡ p)) → ((n < length ps) × (slice_get ps n ≡ Some r)) ⊎ ((n ≡ length ps) × (r ≡ p)) → q.before ≤ r.before
  ordered-more m n q r k (inl f) (inl g) = h.ordered m n q r k f.1 g.1
  ordered-more m n q r k (inl f) (inr g) = omega (arith, (h.past m q f.1).within, ap (λ (s : Posted). s.before) g.1, start)
  ordered-more m n q r k (inr f) (inl g) = absurd (omega (arith, k, f.0, g.0))
  ordered-more m n q r k (inr f) (inr g) = omega (arith, ap (λ (s : Posted). s.before) f.1, ap (λ (s : Posted). s.before) g.1)

  pub indexed-more : Notes (length ps) (λ y. stands_in y p.con) ms ls → IsIndexed (ps ++ p ∷ []) ls
  indexed-more e = record {
    now = subst (Tells ls) (sym (cons-more ps p)) (tells-more ms ls (cons_of ps) p.con h.now (subst (λ k. Notes k (λ y. stands_in y p.con) ms ls) (sym (cons-length ps)) e));
    past = λ n r g. began-more n r (front_or_end ps p r n g);
    ordered = λ m n q r k f g. ordered-more m n q r k (front_or_end ps p q m f) (front_or_end ps p r n g);
  }

-- ---- nothing, and what was there before

pub indexed-none : IsIndexed [] []
indexed-none = record { now = λ x. refl; past = λ n p e. cc; ordered = λ m n p q k e f. cc }

pub indexed-back : (ps : List Posted) (ms : List Mention) (n : ℕ) (p : Posted) → IsIndexed ps ms → slice_get ps n ≡ Some p → IsIndexed (take n ps) (take p.before ms)
indexed-back ps ms n p h e = record { now = (h.past n p e).tells; past = past; ordered = ordered }
  where
    past : (m : ℕ) (r : Posted) → slice_get (take n ps) m ≡ Some r → Began (take n ps) (take p.before ms) m r
    past m r g =
        let f = slice_get-take ps n m r g in
        let b = h.past m r f.1 in
        let k : r.before ≤ p.before = h.ordered m n r p (omega (arith, f.0)) f.1 e in
        record {
          within = omega (arith, k, b.within, length-take p.before ms);
          tells =
              subst (λ l. Tells l (cons_of (take m (take n ps)))) (sym (take-take ms r.before p.before k))
              (subst (λ l. Tells (take r.before ms) (cons_of l)) (sym (take-take ps m n (omega (arith, f.0)))) b.tells);
        }

    ordered : (i j : ℕ) (q r : Posted) → i ≤ j → slice_get (take n ps) i ≡ Some q → slice_get (take n ps) j ≡ Some r → q.before ≤ r.before
    ordered i j q r k f g = h.ordered i j q r k (slice_get-take ps n i q f).1 (slice_get-take ps n j r g).1
