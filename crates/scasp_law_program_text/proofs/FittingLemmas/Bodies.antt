-- A body that is read is within the limits, and its variables are numbered as they are read.
use Rattle.std.proofs.Common.{◌≡◌, ℕ, ◌<◌, ◌≤◌, true, false, nat_lt, List, [], ◌∷◌, ◌++◌, length, Option, None, Some, refl, ap, ◌∙◌, arith}
use Rattle.std.specs.Prelude.{nat_le}
use Rattle.std.specs.List.{list_all}
use Rattle.std.proofs.lemmas.Bool.{and_parts, and_from}
use Rattle.std.proofs.lemmas.Bool.Decides.{nat_tests}
use Rattle.scasp_num.specs.Arithmetic.{◌>>=◌}
use Rattle.scasp_syntax.specs.Flat.{flat_body}
use Rattle.scasp_syntax.specs.declared.clause.Item.{Item}
use Rattle.scasp_reader_terms.specs.Steps.{State}
use Rattle.scasp_reader.specs.declared.bodies.bodies.TheConstants.{ITEM_LIMIT}
use Rattle.scasp_reader.specs.Bodies.Bodies.{counted_item, body}
use Rattle.scasp_print_program.specs.Terms.{Style}
use Rattle.scasp_law_program_text.specs.ClauseReadback.Fitting.{item_fits, body_fits}
use Rattle.scasp_law_program_text.specs.ClauseReadback.Counting.{count_item, count_body}
use Rattle.scasp_law_program_text.specs.TermFitting.Readers.{known, IsReader, Covers}
use Rattle.scasp_law_program_text.proofs.TermFittingLemmas.Steps.{Follows_trans, covers_before, Post, Post_give, Post_map, Post_then, Post_note, IsFull, series_holds}
use Rattle.scasp_law_program_text.proofs.FittingLemmas.Items.{IsItem, item_holds}

-- each item fits, their variables are numbered as they are read, and they have not too many flat items
record AreItems (n : ℕ) (items : List Item) (k : Style) : Type 0 where
  fit : (w : Style) → Covers w k → list_all (item_fits w) items ≡ true
  counted : (w : Style) → Covers w k → count_body w n items ≡ Some (length k.variables)
  few : length (flat_body items) ≤ ITEM_LIMIT

-- the body fits in every style for what is then known, and its variables are numbered behind the n that the clause had
pub record IsBody (n : ℕ) (items : List Item) (k : Style) : Type 0 where
  pub fit : (w : Style) → Covers w k → body_fits w items ≡ true
  pub counted : (w : Style) → Covers w k → count_body w n items ≡ Some (length k.variables)
  pub some : 0 < length items

module _ (w : Style) where
  fit-push : (items : List Item) (i : Item) → list_all (item_fits w) items ≡ true → item_fits w i ≡ true → list_all (item_fits w) (items ++ i ∷ []) ≡ true
  fit-push [] i h k = and_from (item_fits w i) true k refl
  fit-push (x ∷ items) i h k =
      let p = and_parts (item_fits w x) (list_all (item_fits w) items) h in
      and_from (item_fits w x) (list_all (item_fits w) (items ++ i ∷ [])) p.0 (fit-push items i p.1 k)

  counted-push : (n m j : ℕ) (items : List Item) (i : Item) → count_body w n items ≡ Some m → count_item w m i ≡ Some j → count_body w n (items ++ i ∷ []) ≡ Some j
  counted-push n m j [] i h k = let same : n ≡ m = cc in rw (same, k) refl
  counted-push n m j (x ∷ items) i h k = by (count_item w n x) h (λ l e. counted-push l m j items i e k)
    where
      by : (o : Option ℕ) → (o >>= (λ l. count_body w l items)) ≡ Some m → ((l : ℕ) → count_body w l items ≡ Some m → count_body w l (items ++ i ∷ []) ≡ Some j)
          → (o >>= (λ l. count_body w l (items ++ i ∷ []))) ≡ Some j
      by None e rest = cc
      by (Some l) e rest = rest l e

within : (n : ℕ) → nat_lt ITEM_LIMIT n ≡ false → n ≤ ITEM_LIMIT
within n e = grind (arith, nat_tests, e)

counted_item_holds : (n : ℕ) (before : List Item) (s : State) → IsReader s → (s.fault ≡ None → AreItems n before (known s))
    → Post (λ i k. AreItems n (before ++ i ∷ []) k) s (counted_item before s)
counted_item_holds n before s r all =
    Post_then (IsItem (length s.variables)) (λ i k. AreItems n (before ++ i ∷ []) k) s _ _ (item_holds s r)
    (λ i t f h. Post_note (λ i k. AreItems n (before ++ i ∷ []) k) t f.reader (nat_lt ITEM_LIMIT (length (flat_body (before ++ i ∷ [])))) _ _ _
    (λ u g same few. Post_give (λ i k. AreItems n (before ++ i ∷ []) k) u i g.reader
    (λ fine.
    let a = all (f.fault (g.fault fine)) in
    let b = h (g.fault fine) in
    let old = λ (w : Style) (c : Covers w (known u)). covers_before w s u (Follows_trans s t u f g) c in
    let number : length t.variables ≡ length u.variables = ap (λ (k : Style). length k.variables) same in
    record {
      fit = λ w c. fit-push w before i (a.fit w (old w c)) (b.fit w (covers_before w t u g c));
      counted = λ w c. counted-push w n (length s.variables) (length u.variables) before i (a.counted w (old w c)) (b.counted w (covers_before w t u g c) ∙ ap Some number);
      few = within (length (flat_body (before ++ i ∷ []))) (few fine);
    })))

whole-body : (n : ℕ) (items : List Item) (k : Style) → IsFull (AreItems n) items k → IsBody n items k
whole-body n items k h = record { fit = by items h.0.fit h.0.few h.1; counted = h.0.counted; some = h.1 }
  where
    small : (n : ℕ) → n ≤ ITEM_LIMIT → nat_le n ITEM_LIMIT ≡ true
    small n le = grind (arith, nat_tests, le)

    by : (items : List Item) → ((w : Style) → Covers w k → list_all (item_fits w) items ≡ true) → length (flat_body items) ≤ ITEM_LIMIT → 0 < length items
        → (w : Style) → Covers w k → body_fits w items ≡ true
    by [] fit few some w c = absurd (omega (arith, some))
    by (i ∷ items) fit few some w c =
        and_from (list_all (item_fits w) (i ∷ items)) (nat_le (length (flat_body (i ∷ items))) ITEM_LIMIT) (fit w c) (small (length (flat_body (i ∷ items))) few)

pub body_holds : (s : State) → IsReader s → Post (IsBody (length s.variables)) s (body s)
unfolding body
body_holds s r =
    Post_map (IsFull (AreItems (length s.variables))) (IsBody (length s.variables)) s _
    (series_holds (AreItems (length s.variables)) counted_item (counted_item_holds (length s.variables)) (length s.tokens) [] s r
    (λ fine. record { fit = λ w c. refl; counted = λ w c. refl; few = omega arith }))
    (λ items t f fine h. whole-body (length s.variables) items (known t) h)
