-- One segment of a filled row is opened: what lies before and behind it, and what becomes of the row when it changes.
use Rattle.std.proofs.Common.{◌≡◌, ℕ, zero, suc, ◌+◌, ◌-◌, ◌*◌, ◌^◌, ◌<◌, ◌≤◌, ◌⊎◌, inl, inr, min, List, [], ◌∷◌, ◌++◌, length, get_or, set, refl, sym, ap, subst, ◌∙◌, arith, append_assoc, append-nil, length-append, length-set, lt_of_not-le}
use Rattle.std.proofs.lemmas.List.{nil_from_length, set-append_left, set-append_right}
use Rattle.std.proofs.lemmas.Option.{slice_get_read}
use Rattle.std.proofs.Math.Nat.{pow-suc, mul-le-mul_left}
use Rattle.std.proofs.Math.Pow.{pow_mono}
use Rattle.std.specs.Prelude.{slice_get, Some, None}
use Rattle.scasp_cells.specs.declared.segment.Segment.{Segment}
use Rattle.scasp_cells.specs.Stack.{Stack}
use Rattle.scasp_cells.specs.Filled.{joined, FillsFrom, IsFilled, stack_of}

pub slice_get-append_left : {X : Type 0} (xs ys : List X) (i : ℕ) (x : X) → slice_get xs i ≡ Some x → slice_get (xs ++ ys) i ≡ Some x
slice_get-append_left [] ys i x e = cc
slice_get-append_left (y ∷ xs) ys zero x e = e
slice_get-append_left (y ∷ xs) ys (suc i) x e = slice_get-append_left xs ys i x e

pub slice_get-append_right : {X : Type 0} (xs ys : List X) (n i : ℕ) → length xs + i ≡ n → slice_get (xs ++ ys) n ≡ slice_get ys i
slice_get-append_right [] ys n i e = let same : n ≡ i = omega arith in rw same refl
slice_get-append_right (x ∷ xs) ys zero i e = absurd (omega arith)
slice_get-append_right (x ∷ xs) ys (suc n) i e = slice_get-append_right xs ys n i (omega arith)

-- an item put behind the middle one of three lists, where the last one is empty
pushed : {X : Type 0} (a b c : List X) (x : X) → c ≡ [] → a ++ (b ++ x ∷ [] ++ c) ≡ a ++ (b ++ c) ++ x ∷ []
pushed a b c x e = rw e (simp (append-nil, append_assoc))

module _ {X Z : Type 0} where
  -- with no items, all segments are empty
  joined_none : (size : ℕ) (ss : List (Segment X Z)) → FillsFrom size 0 ss → joined ss ≡ []
  joined_none size [] f = refl
  joined_none size (s ∷ ss) f =
      let no_items : s.items ≡ [] = nil_from_length s.items (omega (arith, s.ok.0, f.1)) in
      let none : 0 - size ≡ 0 = omega arith in
      let rest : FillsFrom (size + size) 0 ss = rw none at f.2 in
      rw (no_items, joined_none (size + size) ss rest) refl

  pub length-joined : (size len : ℕ) (ss : List (Segment X Z)) → FillsFrom size len ss → length (joined ss) ≡ len
  length-joined size len [] f = sym f
  length-joined size len (s ∷ ss) f = let rest = length-joined (size + size) (len - size) ss f.2 in omega (arith, length-append s.items (joined ss), s.ok.0, f.1, rest)

  -- the segment s, of number k, where the first segment has room for `size` items
  pub record IsOpened (size len k : ℕ) (ss : List (Segment X Z)) (s : Segment X Z) : Type 0 where
    pub front : List X
    pub back : List X
    pub start : length front + size ≡ size * 2 ^ k
    pub room : s.cap ≡ size * 2 ^ k
    pub filled : s.len ≡ min (len - length front) s.cap
    pub before : joined ss ≡ front ++ (s.items ++ back)
    pub after : (t : Segment X Z) → joined (set ss k t) ≡ front ++ (t.items ++ back)
    pub last : len ≤ length front + s.cap → back ≡ []
    pub fills : (t : Segment X Z) (m : ℕ) → t.cap ≡ s.cap → length front ≤ m → t.len ≡ min (m - length front) s.cap → (m ≡ len) ⊎ ((len ≤ length front + s.cap) × (m ≤ length front + s.cap)) → FillsFrom size m (set ss k t)

  none_some : {s : Segment X Z} → None ≡ Some s → ⊥
  none_some e = cc

  fills_again : (size cap len m : ℕ) (ss : List (Segment X Z)) → (m ≡ len) ⊎ ((len ≤ cap) × (m ≤ cap)) → FillsFrom size (len - cap) ss → FillsFrom size (m - cap) ss
  fills_again size cap len m ss (inl e) f = rw e f
  fills_again size cap len m ss (inr h) f = let e : m - cap ≡ len - cap = omega arith in rw e f

  opened_first : (size len : ℕ) (ss : List (Segment X Z)) (s : Segment X Z) → FillsFrom size len (s ∷ ss) → IsOpened size len 0 (s ∷ ss) s
  opened_first size len ss s f = record {
    front = [];
    back = joined ss;
    start = omega arith;
    room = omega (arith, f.0);
    filled = omega (arith, f.0, f.1);
    before = refl;
    after = λ t. refl;
    last = λ h. let none : len - size ≡ 0 = omega (arith, f.0) in joined_none (size + size) ss (rw none at f.2);
    fills = λ t m cap le len_is how. (omega (arith, f.0, cap), omega (arith, f.0, len_is), fills_again (size + size) size len m ss (elim how [ inl e ↦ inl e | inr h ↦ inr (omega (arith, f.0, h.0), omega (arith, f.0, h.1)) ]) f.2);
  }

  opened_later : (size len k : ℕ) (r : Segment X Z) (ss : List (Segment X Z)) (s : Segment X Z) → FillsFrom size len (r ∷ ss) → size ≤ len → IsOpened (size + size) (len - size) k ss s → IsOpened size len (suc k) (r ∷ ss) s
  opened_later size len k r ss s f le o =
      let twice : size * 2 ^ suc k ≡ (size + size) * 2 ^ k = rw pow-suc (omega arith) in
      let full : length r.items ≡ size = omega (arith, r.ok.0, f.1) in
      let both : length (r.items ++ o.front) ≡ size + length o.front = omega (arith, length-append r.items o.front) in
      record {
        front = r.items ++ o.front;
        back = o.back;
        start = omega (arith, o.start);
        room = omega (arith, o.room);
        filled = omega (arith, o.filled);
        before = rw o.before (sym (append_assoc r.items o.front (s.items ++ o.back)));
        after = λ t. rw (o.after t) (sym (append_assoc r.items o.front (t.items ++ o.back)));
        last = λ h. o.last (omega arith);
        fills = λ t m cap le_m len_is how. (f.0, omega (arith, f.1), o.fills t (m - size) cap (omega arith) (omega arith) (elim how [ inl e ↦ inl (ap (λ (n : ℕ). n - size) e) | inr h ↦ inr (omega (arith, h.0), omega (arith, h.1)) ]));
      }

  pub opened : (size len k : ℕ) (ss : List (Segment X Z)) (s : Segment X Z) → FillsFrom size len ss → slice_get ss k ≡ Some s → size * 2 ^ k ≤ len + size → IsOpened size len k ss s
  opened size len k [] s f e le = absurd (none_some e)
  opened size len zero (r ∷ ss) s f e le = let same : r ≡ s = cc in subst (λ (t : Segment X Z). IsOpened size len 0 (r ∷ ss) t) same (opened_first size len ss r f)
  opened size len (suc k) (r ∷ ss) s f e le =
      let least : 0 ≤ k = omega arith in
      let one : 2 ^ 0 ≤ 2 ^ k = pow_mono least in
      let more : size * 1 ≤ size * 2 ^ k = mul-le-mul_left size one in
      let twice : size * 2 ^ suc k ≡ (size + size) * 2 ^ k = rw pow-suc (omega arith) in
      opened_later size len k r ss s f (omega arith) (opened (size + size) (len - size) k ss s f.2 e (omega arith))

-- place `at` lies in the k-th segment, s
module _ {X Z : Type 0} (len at k off : ℕ) (ss : List (Segment X Z)) (s : Segment X Z) (filled : IsFilled len ss) (there : k < length ss) (read : s ≡ get_or ss k s) (place : at + 1 ≡ 2 ^ k + off) (low : off < 2 ^ k) (le : at ≤ len) where
  found : slice_get ss k ≡ Some s
  found = slice_get_read ss (length ss) k s refl there read

  row : IsOpened 1 len k ss s
  row = opened 1 len k ss s filled.in_order found (omega arith)

  starts : length row.front + off ≡ at
  starts = omega (arith, row.start)

  cap : s.cap ≡ 2 ^ k
  cap = omega (arith, row.room)

  pub item_within : at < len → off < s.len
  item_within lt = omega (arith, row.filled, starts, cap)

  pub room_left : at ≡ len → s.len < s.cap
  room_left end = omega (arith, row.filled, starts, cap)

  pub slice_get-joined : (x : X) → slice_get s.items off ≡ Some x → slice_get (joined ss) at ≡ Some x
  slice_get-joined x e = rw row.before (slice_get-append_right row.front (s.items ++ row.back) at off starts ∙ slice_get-append_left s.items row.back off x e)

  module _ (t : Segment X Z) (same_cap : t.cap ≡ s.cap) where
    few : length (set ss k t) < 64
    few = omega (arith, length-set ss k t, filled.few)

    pub set-joined : (x : X) → at < len → t.items ≡ set s.items off x → joined (set ss k t) ≡ set (joined ss) at x
    set-joined x lt e =
        let inside : off < length s.items = omega (arith, s.ok.0, item_within lt) in
        let here : at - length row.front ≡ off = omega (arith, starts) in
        rw (row.after t, row.before, e) (sym (set-append_right row.front (s.items ++ row.back) (length row.front) at x refl (omega (arith, starts)) ∙ ap (λ (i : ℕ). row.front ++ set (s.items ++ row.back) i x) here ∙ ap (λ (l : List X). row.front ++ l) (set-append_left s.items row.back off x inside)))

    pub set-filled : at < len → t.len ≡ s.len → IsFilled len (set ss k t)
    set-filled lt same = record {
      in_order = row.fills t len same_cap (omega (arith, starts)) (omega (arith, row.filled)) (inl refl);
      within = rw length-set filled.within;
      few = few;
    }

    pub push-joined : (x : X) → at ≡ len → t.items ≡ s.items ++ x ∷ [] → joined (set ss k t) ≡ joined ss ++ x ∷ []
    push-joined x end e =
        let back : row.back ≡ [] = row.last (omega (arith, starts, cap)) in
        rw (row.after t, row.before, e) (pushed row.front s.items row.back x back)

    pub push-filled : at ≡ len → t.len ≡ s.len + 1 → IsFilled (len + 1) (set ss k t)
    push-filled end more =
        let next : 2 ^ suc k ≤ 2 ^ length ss = pow_mono there in
        let twice : 2 ^ suc k ≡ 2 ^ k * 2 = pow-suc 2 k in
        let more_within : len + 1 < 2 ^ length ss = omega arith in
        record {
          in_order = row.fills t (len + 1) same_cap (omega (arith, starts)) (omega (arith, row.filled, starts, cap)) (inr (omega (arith, starts, cap), omega (arith, starts, cap)));
          within = rw length-set more_within;
          few = few;
        }

    pub pop-joined : (x : X) → at + 1 ≡ len → s.items ≡ t.items ++ x ∷ [] → joined ss ≡ joined (set ss k t) ++ x ∷ []
    pop-joined x end e =
        let back : row.back ≡ [] = row.last (omega (arith, starts, cap)) in
        rw (row.after t) (row.before ∙ ap (λ (l : List X). row.front ++ (l ++ row.back)) e ∙ pushed row.front t.items row.back x back)

    pub pop-filled : at + 1 ≡ len → t.len + 1 ≡ s.len → IsFilled at (set ss k t)
    pop-filled end less =
        let still_within : at < 2 ^ length ss = omega (arith, filled.within) in
        record {
          in_order = row.fills t at same_cap (omega (arith, starts)) (omega (arith, row.filled, starts, cap)) (inr (omega (arith, starts, cap), omega (arith, starts, cap)));
          within = rw length-set still_within;
          few = few;
        }

-- a row gets an empty segment more
module _ {X Z : Type 0} where
  pub joined-more : (ss : List (Segment X Z)) (s : Segment X Z) → s.items ≡ [] → joined (ss ++ s ∷ []) ≡ joined ss
  joined-more [] s e = rw e refl
  joined-more (r ∷ ss) s e = ap (λ (l : List X). r.items ++ l) (joined-more ss s e)

  fills_more : (size len : ℕ) (ss : List (Segment X Z)) (s : Segment X Z) → FillsFrom size len ss → len + size ≤ size * 2 ^ length ss → s.cap ≡ size * 2 ^ length ss → s.len ≡ 0 → FillsFrom size len (ss ++ s ∷ [])
  fills_more size len [] s f le cap none = (omega arith, omega arith, omega arith)
  fills_more size len (r ∷ ss) s f le cap none =
      let least : 0 ≤ length ss = omega arith in
      let one : 2 ^ 0 ≤ 2 ^ length ss = pow_mono least in
      let more : size * 1 ≤ size * 2 ^ length ss = mul-le-mul_left size one in
      let twice : size * 2 ^ suc (length ss) ≡ (size + size) * 2 ^ length ss = rw pow-suc (omega arith) in
      (f.0, f.1, fills_more (size + size) (len - size) ss s f.2 (omega arith) (omega arith) none)

  pub filled-more : (len : ℕ) (ss : List (Segment X Z)) (s : Segment X Z) → length ss < 63 → s.len ≡ 0 → s.cap ≡ 2 ^ length ss → IsFilled len ss → IsFilled len (ss ++ s ∷ [])
  filled-more len ss s few none cap filled =
      let least : length ss ≤ length ss + 1 = omega arith in
      let more : 2 ^ length ss ≤ 2 ^ (length ss + 1) = pow_mono least in
      let longer : length (ss ++ s ∷ []) ≡ length ss + 1 = length-append ss (s ∷ []) in
      let still_within : len < 2 ^ (length ss + 1) = omega (arith, filled.within) in
      record {
        in_order = fills_more 1 len ss s filled.in_order (omega (arith, filled.within)) (omega arith) none;
        within = rw longer still_within;
        few = omega arith;
      }

-- and an empty one less
module _ {X Z : Type 0} where
  fills_less : (size len : ℕ) (ss : List (Segment X Z)) (s : Segment X Z) → FillsFrom size len (ss ++ s ∷ []) → len + size ≤ size * 2 ^ length ss → FillsFrom size len ss × (s.len ≡ 0)
  fills_less size len [] s f le = (omega arith, omega (arith, f.1))
  fills_less size len (r ∷ ss) s f le =
      let least : 0 ≤ length ss = omega arith in
      let one : 2 ^ 0 ≤ 2 ^ length ss = pow_mono least in
      let more : size * 1 ≤ size * 2 ^ length ss = mul-le-mul_left size one in
      let twice : size * 2 ^ suc (length ss) ≡ (size + size) * 2 ^ length ss = rw pow-suc (omega arith) in
      let rest = fills_less (size + size) (len - size) ss s f.2 (omega arith) in
      ((f.0, f.1, rest.0), rest.1)

module _ {X Z : Type 0} (len : ℕ) (ss : List (Segment X Z)) (filled : IsFilled len ss) where
  pub len_small : len < 2 ^ 63
  len_small = let few : length ss ≤ 63 = omega (arith, filled.few) in let small : 2 ^ length ss ≤ 2 ^ 63 = pow_mono few in omega (arith, filled.within)

  pub seen_len : (v : Stack X) → stack_of len ss ≡ v → length v.items ≡ len
  seen_len v e = rw (← e) (length-joined 1 len ss filled.in_order)

pub seen_spare : {X Z : Type 0} (len : ℕ) (ss : List (Segment X Z)) (v : Stack X) → stack_of len ss ≡ v → (2 ^ length ss - 1) - len ≡ v.spare
seen_spare {X} len ss v e = ap (λ (w : Stack X). w.spare) e

-- what is left when the last segment is freed, where more is spare than there are items
module _ {X Z : Type 0} (len : ℕ) (v : Stack X) where
  pub record IsFreed (ss : List (Segment X Z)) (s : Segment X Z) : Type 0 where
    pub empty : s.len ≡ 0
    pub filled : IsFilled len ss
    pub items : joined ss ≡ v.items
    pub spare : length v.items + ((2 ^ length ss - 1) - len) + ((2 ^ length ss - 1) - len) + 1 ≡ v.spare

  pub freed : (all ss : List (Segment X Z)) (s : Segment X Z) → IsFilled len all → stack_of len all ≡ v → length v.items < v.spare → all ≡ ss ++ s ∷ [] → IsFreed ss s
  freed all ss s filled seen more split =
      let len_is = seen_len len all filled v seen in
      let spare_is = seen_spare len all v seen in
      let longer : length all ≡ suc (length ss) = omega (arith, ap length split, length-append ss (s ∷ [])) in
      let twice : 2 ^ length all ≡ 2 ^ length ss * 2 = rw longer (pow-suc 2 (length ss)) in
      let room : len < 2 ^ length ss = omega arith in
      let less = fills_less 1 len ss s (rw split at filled.in_order) (omega arith) in
      let none : s.items ≡ [] = nil_from_length s.items (omega (arith, s.ok.0, less.1)) in
      record {
        empty = less.1;
        filled = record { in_order = less.0; within = room; few = omega (arith, filled.few) };
        items = sym (joined-more ss s none) ∙ ap joined (sym split) ∙ ap (λ (w : Stack X). w.items) seen;
        spare = omega arith;
      }

  pub none_spare : (all : List (Segment X Z)) → IsFilled len all → stack_of len all ≡ v → length v.items < v.spare → length all ≡ 0 → ⊥
  none_spare all filled seen more none =
      let spare_is = seen_spare len all v seen in
      let one : 2 ^ length all ≡ 2 ^ 0 = ap (λ (n : ℕ). 2 ^ n) none in
      omega arith

-- the segment of a place that is filled is there
pub segment_within : (n len at k off : ℕ) → at + 1 ≡ 2 ^ k + off → at < len → len < 2 ^ n → k < n
segment_within n len at k off place lt within = lt_of_not-le (λ (le : n ≤ k). let below : 2 ^ n ≤ 2 ^ k = pow_mono le in omega arith)

-- that of the next place is there, or is the next one
pub segment_near : (n len k off : ℕ) → len + 1 ≡ 2 ^ k + off → len < 2 ^ n → k ≤ n
segment_near n len k off place within =
    let near : k < suc n = lt_of_not-le (λ (le : suc n ≤ k). let below : 2 ^ suc n ≤ 2 ^ k = pow_mono le in let twice : 2 ^ suc n ≡ 2 ^ n * 2 = pow-suc 2 n in omega arith) in
    omega arith
