-- The worklist: what holds of known numbers and of rules that wait, as long as it runs and when it ends.
use Rattle.std.proofs.Common.{◌≡◌, ◌≢◌, ◌∷◌, ◌++◌, ◌∙◌, ◌⊎◌, ℕ, zero, suc, ◌+◌, ◌<◌, ◌≤◌, Bool, true, false, ◌&&◌, ◌||◌, not, nat_eq, nat_lt, cond, List, [], length, map, refl, ap, sym, inl, inr, arith, length-append, if◌then◌else◌, subst}
use Rattle.std.specs.Prelude.{slice_index_or, slice_set, slice_get, replicate, max, Some}
use Rattle.std.specs.List.{list_all, list_any}
use Rattle.std.proofs.lemmas.Bool.{true≢false, false≢true, and_parts, and_from, or_cases, or_left, or_right, not-true, not-false, cond-true, cond-false, cond_both, cases_Bool}
use Rattle.std.proofs.lemmas.Bool.Decides.{Decides-eqb, Decides-ltb}
use Rattle.std.proofs.lemmas.List.{length-set, length-map, get_or-set_same, get_or-set_other}
use Rattle.std.proofs.lemmas.List.Folds.{list_all-append, list_any-append}
use Rattle.scasp_worklist.specs.Numbered.{has, keeps, is_closed_under, IsLeast}
use Rattle.scasp_worklist.specs.Inside.Closing.{Entry, State, entry_of, state_of, rule_entry, begun, waiting_at, unknown_from, reached, awaited, settled, placed, all_placed, emptied, woken, is_below, keeps_by, keeps_all, unknown, highest_from, highest_in}
use Rattle.scasp_worklist.specs.declared.numbered.NumberedRule.{NumberedRule}
use Rattle.scasp_worklist.specs.declared.worklist.Closing.{Closing}
use Rattle.scasp_worklist.specs.declared.worklist.Waiting.{Waiting}

-- ---- lists by number

abbrev Includes : (ℕ → Bool) → List Bool → Type 0
Includes set marks = (n : ℕ) → has marks n ≡ true → set n ≡ true

-- a gate, and what is asked behind it
gate-from : (g b : Bool) → (g ≡ true → b ≡ true) → (if g then b else true) ≡ true
gate-from true b f = f refl
gate-from false b f = refl

gate-to : (g b : Bool) → (if g then b else true) ≡ true → g ≡ true → b ≡ true
gate-to true b h e = h
gate-to false b h e = absurd (false≢true e)

keeps_by-set : (gate set : ℕ → Bool) (ws : List (List Entry)) (n : ℕ) (es : List Entry) → keeps_by gate set ws ≡ true → (gate n ≡ true → keeps_all set es ≡ true) → keeps_by gate set (slice_set ws n es) ≡ true
keeps_by-set gate set [] n es k f = refl
keeps_by-set gate set (w ∷ ws) zero es k f =
    and_from (if gate 0 then keeps_all set es else true) _ (gate-from (gate 0) (keeps_all set es) f) (and_parts (if gate 0 then keeps_all set w else true) _ k).1
keeps_by-set gate set (w ∷ ws) (suc n) es k f =
    let p = and_parts (if gate 0 then keeps_all set w else true) (keeps_by (λ m. gate (suc m)) set ws) k in
    and_from (if gate 0 then keeps_all set w else true) _ p.0 (keeps_by-set (λ m. gate (suc m)) set ws n es p.1 f)

keeps_by-unset : (gate set : ℕ → Bool) (ws : List (List Entry)) (n : ℕ) (es : List Entry) → keeps_by gate set (slice_set ws n es) ≡ true → (gate n ≡ true → keeps_all set (waiting_at ws n) ≡ true) → keeps_by gate set ws ≡ true
keeps_by-unset gate set [] n es k f = refl
keeps_by-unset gate set (w ∷ ws) zero es k f =
    and_from (if gate 0 then keeps_all set w else true) _ (gate-from (gate 0) (keeps_all set w) f) (and_parts (if gate 0 then keeps_all set es else true) _ k).1
keeps_by-unset gate set (w ∷ ws) (suc n) es k f =
    let p = and_parts (if gate 0 then keeps_all set w else true) (keeps_by (λ m. gate (suc m)) set (slice_set ws n es)) k in
    and_from (if gate 0 then keeps_all set w else true) _ p.0 (keeps_by-unset (λ m. gate (suc m)) set ws n es p.1 f)

keeps_by-at : (gate set : ℕ → Bool) (ws : List (List Entry)) (n : ℕ) → keeps_by gate set ws ≡ true → gate n ≡ true → keeps_all set (waiting_at ws n) ≡ true
keeps_by-at gate set [] n k g = refl
keeps_by-at gate set (w ∷ ws) zero k g =
    gate-to (gate 0) (keeps_all set w) (and_parts (if gate 0 then keeps_all set w else true) _ k).0 g
keeps_by-at gate set (w ∷ ws) (suc n) k g =
    keeps_by-at (λ m. gate (suc m)) set ws n (and_parts (if gate 0 then keeps_all set w else true) (keeps_by (λ m. gate (suc m)) set ws) k).1 g

-- where no rule waits for a number of the gate
keeps_by-none : (gate set : ℕ → Bool) (ws : List (List Entry)) → ((n : ℕ) → gate n ≡ true → waiting_at ws n ≡ []) → keeps_by gate set ws ≡ true
keeps_by-none gate set [] f = refl
keeps_by-none gate set (w ∷ ws) f =
    and_from (if gate 0 then keeps_all set w else true) _ (gate-from (gate 0) (keeps_all set w) (λ g. ap (keeps_all set) (f 0 g)))
    (keeps_by-none (λ m. gate (suc m)) set ws (λ n g. f (suc n) g))

all_below-set : (bound : ℕ) (ws : List (List Entry)) (n : ℕ) (es : List Entry) → list_all (list_all (is_below bound)) ws ≡ true → list_all (is_below bound) es ≡ true → list_all (list_all (is_below bound)) (slice_set ws n es) ≡ true
all_below-set bound [] n es a b = refl
all_below-set bound (w ∷ ws) zero es a b =
    and_from (list_all (is_below bound) es) _ b (and_parts (list_all (is_below bound) w) _ a).1
all_below-set bound (w ∷ ws) (suc n) es a b =
    let p = and_parts (list_all (is_below bound) w) (list_all (list_all (is_below bound)) ws) a in
    and_from (list_all (is_below bound) w) _ p.0 (all_below-set bound ws n es p.1 b)

all_below-at : (bound : ℕ) (ws : List (List Entry)) (n : ℕ) → list_all (list_all (is_below bound)) ws ≡ true → list_all (is_below bound) (waiting_at ws n) ≡ true
all_below-at bound [] n a = refl
all_below-at bound (w ∷ ws) zero a = (and_parts (list_all (is_below bound) w) _ a).0
all_below-at bound (w ∷ ws) (suc n) a =
    all_below-at bound ws n (and_parts (list_all (is_below bound) w) (list_all (list_all (is_below bound)) ws) a).1

emptied-at : (ws : List (List Entry)) (n : ℕ) → waiting_at (slice_set ws n []) n ≡ []
emptied-at [] n = refl
emptied-at (w ∷ ws) zero = refl
emptied-at (w ∷ ws) (suc n) = emptied-at ws n

pub past : (ws : List (List Entry)) (n : ℕ) → length ws ≤ n → (slice_set ws n [] ≡ ws) × (waiting_at ws n ≡ [])
past [] n h = (refl, refl)
past (w ∷ ws) zero h = absurd (omega (arith, h))
past (w ∷ ws) (suc n) h = let p = past ws n (omega (arith, h)) in (ap (λ z. w ∷ z) p.0, p.1)

-- ---- bodies

body-from : (set : ℕ → Bool) (known : List Bool) (body : List ℕ) → Includes set known → list_all set body ≡ list_all set (unknown_from known body)
body-from set known [] i = refl
body-from set known (n ∷ body) i =
    elim (cases_Bool (has known n)) [
      | inl t ↦
          (λ j. i n t j && body-from set known body i j)
          ∙ ap (list_all set) (sym (cond-true (has known n) (unknown_from known body) (n ∷ body) t))
      | inr f ↦ ap (list_all set) (sym (cond-false (has known n) (unknown_from known body) (n ∷ body) f))
    ]

below-from : (p : ℕ → Bool) (known : List Bool) (body : List ℕ) → list_all p body ≡ true → list_all p (unknown_from known body) ≡ true
below-from p known [] h = refl
below-from p known (n ∷ body) h =
    cond_both (has known n) (unknown_from known body) (n ∷ body) (λ z. list_all p z ≡ true)
    (λ t. below-from p known body (and_parts (p n) (list_all p body) h).1) (λ f. h)

first-unknown : (known : List Bool) (body : List ℕ) (n : ℕ) (rest : List ℕ) → unknown_from known body ≡ n ∷ rest → has known n ≡ false
first-unknown known [] n rest e = cc
first-unknown known (m ∷ body) n rest e =
    elim (cases_Bool (has known m)) [
      | inl t ↦ first-unknown known body n rest (sym (cond-true (has known m) (unknown_from known body) (m ∷ body) t) ∙ e)
      | inr f ↦
          (let here : m ∷ body ≡ n ∷ rest = sym (cond-false (has known m) (unknown_from known body) (m ∷ body) f) ∙ e in
          let same : m ≡ n = cc in
          ap (has known) (sym same) ∙ f)
    ]

-- ---- what holds as long as the worklist runs: the rules in hand are still to be placed

pub record Good (bound : ℕ) (rules : List NumberedRule) (hand : List Entry) (s : State) : Type 0 where
  pub sound : (set : ℕ → Bool) → is_closed_under rules set ≡ true → Includes set s.known × (keeps_by set set s.waiting ≡ true) × (keeps_all set hand ≡ true)
  pub complete : (set : ℕ → Bool) → Includes set s.known → keeps_by set set s.waiting ≡ true → keeps_all set hand ≡ true → is_closed_under rules set ≡ true
  pub served : (n : ℕ) → has s.known n ≡ true → (waiting_at s.waiting n ≡ []) ⊎ (list_any (nat_eq n) s.queue ≡ true)
  pub queued : (n : ℕ) → list_any (nat_eq n) s.queue ≡ true → has s.known n ≡ true
  pub known_length : length s.known ≡ bound
  pub waiting_length : length s.waiting ≡ bound
  pub waiting_below : list_all (list_all (is_below bound)) s.waiting ≡ true
  pub hand_below : list_all (is_below bound) hand ≡ true

-- ---- sets of numbers that grow

has-set : (marks : List Bool) (h n : ℕ) → h < length marks → has (slice_set marks h true) n ≡ true → (n ≡ h) ⊎ (has marks n ≡ true)
has-set marks h n b e =
    elim (cases_Bool (nat_eq n h)) [
      | inl t ↦ inl ((Decides-eqb n h).0 t)
      | inr f ↦ inr (sym (get_or-set_other marks h n true false (λ s. true≢false (sym ((Decides-eqb n h).1 s) ∙ f))) ∙ e)
    ]

has-kept : (marks : List Bool) (h n : ℕ) → h < length marks → has marks n ≡ true → has (slice_set marks h true) n ≡ true
has-kept marks h n b e =
    elim (cases_Bool (nat_eq n h)) [
      | inl t ↦ ap (has (slice_set marks h true)) ((Decides-eqb n h).0 t) ∙ get_or-set_same marks h true false b
      | inr f ↦ get_or-set_other marks h n true false (λ s. true≢false (sym ((Decides-eqb n h).1 s) ∙ f)) ∙ e
    ]

in-pushed : (queue : List ℕ) (h n : ℕ) → list_any (nat_eq n) queue ≡ true → list_any (nat_eq n) (queue ++ h ∷ []) ≡ true
in-pushed queue h n e = list_any-append (nat_eq n) queue (h ∷ []) ∙ or_left (list_any (nat_eq n) queue) _ e

last-pushed : (queue : List ℕ) (h : ℕ) → list_any (nat_eq h) (queue ++ h ∷ []) ≡ true
last-pushed queue h =
    list_any-append (nat_eq h) queue (h ∷ []) ∙ or_right (list_any (nat_eq h) queue) _ (or_left (nat_eq h h) false ((Decides-eqb h h).1 refl))

from-pushed : (queue : List ℕ) (h n : ℕ) → list_any (nat_eq n) (queue ++ h ∷ []) ≡ true → (list_any (nat_eq n) queue ≡ true) ⊎ (n ≡ h)
from-pushed queue h n e =
    elim (or_cases (list_any (nat_eq n) queue) (list_any (nat_eq n) (h ∷ [])) (sym (list_any-append (nat_eq n) queue (h ∷ [])) ∙ e)) [
      | inl a ↦ inl a
      | inr b ↦
          elim (or_cases (nat_eq n h) false b) [
            | inl c ↦ inr ((Decides-eqb n h).0 c)
            | inr d ↦ absurd (false≢true d)
          ]
    ]

-- ---- a rule is placed

-- nothing is left of its body, and its head was known
known_before : (bound : ℕ) (rules : List NumberedRule) (h : ℕ) (hand : List Entry) (s : State) → has s.known h ≡ true → Good bound rules ((h, []) ∷ hand) s → Good bound rules hand s
known_before bound rules h hand s k g = record {
  sound = λ set c. let a = g.sound set c in (a.0, a.1, (and_parts (set h) (keeps_all set hand) a.2).1);
  complete = λ set i w d. g.complete set i w (and_from (set h) (keeps_all set hand) (i h k) d);
  served = g.served;
  queued = g.queued;
  known_length = g.known_length;
  waiting_length = g.waiting_length;
  waiting_below = g.waiting_below;
  hand_below = (and_parts (is_below bound (h, [])) (list_all (is_below bound) hand) g.hand_below).1;
}

-- nothing is left of its body, and its head becomes known
known_now : (bound : ℕ) (rules : List NumberedRule) (h : ℕ) (hand : List Entry) (s : State) → h < length s.known → Good bound rules ((h, []) ∷ hand) s
    → Good bound rules hand (record { known = slice_set s.known h true; queue = s.queue ++ h ∷ []; waiting = s.waiting })
known_now bound rules h hand s b g = record {
  sound = λ set c.
      let a = g.sound set c in
      let p = and_parts (set h) (keeps_all set hand) a.2 in (
        λ n e. elim (has-set s.known h n b e) [
          | inl same ↦ ap set same ∙ p.0
          | inr old ↦ a.0 n old
        ],
        a.1,
        p.1,
      );
  complete = λ set i w d.
      g.complete set (λ n e. i n (has-kept s.known h n b e)) w
      (and_from (set h) (keeps_all set hand) (i h (get_or-set_same s.known h true false b)) d);
  served = λ n e. elim (has-set s.known h n b e) [
    | inl same ↦ inr (ap (λ m. list_any (nat_eq m) (s.queue ++ h ∷ [])) same ∙ last-pushed s.queue h)
    | inr old ↦ elim (g.served n old) [
      | inl none ↦ inl none
      | inr queued ↦ inr (in-pushed s.queue h n queued)
    ]
  ];
  queued = λ n e. elim (from-pushed s.queue h n e) [
    | inl old ↦ has-kept s.known h n b (g.queued n old)
    | inr same ↦ ap (has (slice_set s.known h true)) same ∙ get_or-set_same s.known h true false b
  ];
  known_length = length-set s.known h true ∙ g.known_length;
  waiting_length = g.waiting_length;
  waiting_below = g.waiting_below;
  hand_below = (and_parts (is_below bound (h, [])) (list_all (is_below bound) hand) g.hand_below).1;
}

head_below : (bound : ℕ) (rules : List NumberedRule) (h : ℕ) (body : List ℕ) (hand : List Entry) (s : State) → Good bound rules ((h, body) ∷ hand) s → nat_lt h bound ≡ true
head_below bound rules h body hand s g =
    (and_parts (nat_lt h bound) (list_all (λ x. nat_lt x bound) body) (and_parts (is_below bound (h, body)) (list_all (is_below bound) hand) g.hand_below).0).0

good-reached : (bound : ℕ) (rules : List NumberedRule) (h : ℕ) (hand : List Entry) (s : State) → Good bound rules ((h, []) ∷ hand) s → Good bound rules hand (reached s h)
good-reached bound rules h hand s g =
    let inside : nat_lt h (length s.known) ≡ true = ap (nat_lt h) g.known_length ∙ head_below bound rules h [] hand s g in
    cond_both (nat_lt h (length s.known) && not (has s.known h)) _ s (λ z. Good bound rules hand z)
    (λ t. known_now bound rules h hand s ((Decides-ltb h (length s.known)).0 inside) g)
    (λ f.
    elim (cases_Bool (has s.known h)) [
      | inl k ↦ known_before bound rules h hand s k g
      | inr n ↦ absurd (true≢false (sym (and_from (nat_lt h (length s.known)) (not (has s.known h)) inside (ap not n)) ∙ f))
    ])

-- it waits for the first number that is left of its body
good-awaited : (bound : ℕ) (rules : List NumberedRule) (h n : ℕ) (rest : List ℕ) (hand : List Entry) (s : State) → has s.known n ≡ false → Good bound rules ((h, n ∷ rest) ∷ hand) s → Good bound rules hand (awaited s n (h, rest))
good-awaited bound rules h n rest hand s u g =
    let e : Entry = (h, rest) in
    let bs = and_parts (is_below bound (h, n ∷ rest)) (list_all (is_below bound) hand) g.hand_below in
    let hb = and_parts (nat_lt h bound) (nat_lt n bound && list_all (λ x. nat_lt x bound) rest) bs.0 in
    let nb = and_parts (nat_lt n bound) (list_all (λ x. nat_lt x bound) rest) hb.1 in
    let inside : nat_lt n (length s.waiting) ≡ true = ap (nat_lt n) g.waiting_length ∙ nb.0 in
    let at : n < length s.waiting = (Decides-ltb n (length s.waiting)).0 inside in
    let more : List Entry = waiting_at s.waiting n ++ e ∷ [] in
    let there : waiting_at (slice_set s.waiting n more) n ≡ more = get_or-set_same s.waiting n more [] at in
    let after : State = record { known = s.known; queue = s.queue; waiting = slice_set s.waiting n more } in
    let good : Good bound rules hand after =
    record {
      sound = λ set c.
          let a = g.sound set c in
          let p = and_parts (keeps set h (n ∷ rest)) (keeps_all set hand) a.2 in (
            a.0,
            keeps_by-set set set s.waiting n more a.1
                (λ t. list_all-append (λ (x : Entry). keeps set x.0 x.1) (waiting_at s.waiting n) (e ∷ [])
                ∙ and_from (keeps_all set (waiting_at s.waiting n)) _ (keeps_by-at set set s.waiting n a.1 t)
                (and_from (keeps set h rest) true (shorter set h n rest t p.0) refl)),
            p.1,
          );
      complete = λ set i w d.
          let now : set n ≡ true → (keeps_all set (waiting_at s.waiting n) ≡ true) × (keeps set h rest ≡ true) =
          λ t.
          let k : keeps_all set more ≡ true = ap (keeps_all set) (sym there) ∙ keeps_by-at set set (slice_set s.waiting n more) n w t in
          let q = and_parts (keeps_all set (waiting_at s.waiting n)) (keeps set h rest && true) (sym (list_all-append (λ (x : Entry). keeps set x.0 x.1) (waiting_at s.waiting n) (e ∷ [])) ∙ k) in
          (q.0, (and_parts (keeps set h rest) true q.1).0) in
          g.complete set i (keeps_by-unset set set s.waiting n more w (λ t. (now t).0))
          (and_from (keeps set h (n ∷ rest)) (keeps_all set hand) (longer set h n rest (λ t. (now t).1)) d);
      served = λ m k.
          elim (g.served m k) [
            | inl none ↦
                inl (get_or-set_other s.waiting n m more [] (λ same. true≢false (sym k ∙ ap (has s.known) same ∙ u)) ∙ none)
            | inr queued ↦ inr queued
          ];
      queued = g.queued;
      known_length = g.known_length;
      waiting_length = length-set s.waiting n more ∙ g.waiting_length;
      waiting_below =
          all_below-set bound s.waiting n more g.waiting_below
          (list_all-append (is_below bound) (waiting_at s.waiting n) (e ∷ [])
          ∙ and_from (list_all (is_below bound) (waiting_at s.waiting n)) _ (all_below-at bound s.waiting n g.waiting_below)
          (and_from (is_below bound e) true (and_from (nat_lt h bound) _ hb.0 nb.1) refl));
      hand_below = bs.1;
    } in
    cond_both (nat_lt n (length s.waiting)) after s (λ z. Good bound rules hand z) (λ t. good) (λ f. absurd (true≢false (sym inside ∙ f)))
  where
    shorter : (set : ℕ → Bool) (h n : ℕ) (rest : List ℕ) → set n ≡ true → keeps set h (n ∷ rest) ≡ true → keeps set h rest ≡ true
    shorter set h n rest t k = ap (λ b. if b && list_all set rest then set h else true) (sym t) ∙ k

    longer : (set : ℕ → Bool) (h n : ℕ) (rest : List ℕ) → (set n ≡ true → keeps set h rest ≡ true) → keeps set h (n ∷ rest) ≡ true
    longer set h n rest f =
        elim (cases_Bool (set n)) [
          | inl t ↦ ap (λ b. if b && list_all set rest then set h else true) t ∙ f t
          | inr e ↦ ap (λ b. if b && list_all set rest then set h else true) e
        ]

-- what is known of its body is left out
good-from : (bound : ℕ) (rules : List NumberedRule) (e : Entry) (hand : List Entry) (s : State) → Good bound rules (e ∷ hand) s → Good bound rules ((e.0, unknown_from s.known e.1) ∷ hand) s
good-from bound rules e hand s g =
    let rest : List ℕ = unknown_from s.known e.1 in
    let same : (set : ℕ → Bool) → Includes set s.known → keeps set e.0 e.1 ≡ keeps set e.0 rest =
    λ set i. ap (λ b. if b then set e.0 else true) (body-from set s.known e.1 i) in
    let b = and_parts (is_below bound e) (list_all (is_below bound) hand) g.hand_below in
    let p = and_parts (nat_lt e.0 bound) (list_all (λ x. nat_lt x bound) e.1) b.0 in
    record {
      sound = λ set c. let a = g.sound set c in (a.0, a.1, ap (λ k. k && keeps_all set hand) (sym (same set a.0)) ∙ a.2);
      complete = λ set i w d. g.complete set i w (ap (λ k. k && keeps_all set hand) (same set i) ∙ d);
      served = g.served;
      queued = g.queued;
      known_length = g.known_length;
      waiting_length = g.waiting_length;
      waiting_below = g.waiting_below;
      hand_below =
          and_from (is_below bound (e.0, rest)) (list_all (is_below bound) hand)
          (and_from (nat_lt e.0 bound) (list_all (λ x. nat_lt x bound) rest) p.0 (below-from (λ x. nat_lt x bound) s.known e.1 p.1)) b.1;
    }

good-placed : (bound : ℕ) (rules : List NumberedRule) (e : Entry) (hand : List Entry) (s : State) → Good bound rules (e ∷ hand) s → Good bound rules hand (placed s e)
good-placed bound rules e hand s g = by (unknown_from s.known e.1) refl (good-from bound rules e hand s g)
  where
    by : (rest : List ℕ) → unknown_from s.known e.1 ≡ rest → Good bound rules ((e.0, rest) ∷ hand) s → Good bound rules hand (settled s e.0 rest)
    by [] q k = good-reached bound rules e.0 hand s k
    by (n ∷ rest) q k = good-awaited bound rules e.0 n rest hand s (first-unknown s.known e.1 n rest q) k

good-all_placed : (bound : ℕ) (rules : List NumberedRule) (es : List Entry) (s : State) → Good bound rules es s → Good bound rules [] (all_placed s es)
good-all_placed bound rules [] s g = g
good-all_placed bound rules (e ∷ es) s g = good-all_placed bound rules es (placed s e) (good-placed bound rules e es s g)

-- ---- a known number is taken out of the queue

good-emptied : (bound : ℕ) (rules : List NumberedRule) (n : ℕ) (known : List Bool) (queue : List ℕ) (waiting : List (List Entry))
    → Good bound rules [] (record { known = known; queue = queue ++ n ∷ []; waiting = waiting })
    → Good bound rules (waiting_at waiting n) (emptied (record { known = known; queue = queue; waiting = waiting }) n)
good-emptied bound rules n known queue waiting g =
    let k : has known n ≡ true = g.queued n (last-pushed queue n) in
    record {
      sound = λ set c.
          let a = g.sound set c in
          (a.0, keeps_by-set set set waiting n [] a.1 (λ t. refl), keeps_by-at set set waiting n a.1 (a.0 n k));
      complete = λ set i w d. g.complete set i (keeps_by-unset set set waiting n [] w (λ t. d)) refl;
      served = λ m h.
          elim (cases_Bool (nat_eq m n)) [
            | inl t ↦ inl (ap (waiting_at (slice_set waiting n [])) ((Decides-eqb m n).0 t) ∙ emptied-at waiting n)
            | inr f ↦
                (let other : m ≢ n = λ s. true≢false (sym ((Decides-eqb m n).1 s) ∙ f) in
                elim (g.served m h) [
                  | inl none ↦ inl (get_or-set_other waiting n m [] [] other ∙ none)
                  | inr queued ↦
                      elim (from-pushed queue n m queued) [
                        | inl old ↦ inr old
                        | inr same ↦ absurd (other same)
                      ]
                ])
          ];
      queued = λ m h. g.queued m (in-pushed queue n m h);
      known_length = g.known_length;
      waiting_length = length-set waiting n [] ∙ g.waiting_length;
      waiting_below = all_below-set bound waiting n [] g.waiting_below refl;
      hand_below = all_below-at bound waiting n g.waiting_below;
    }

pub good-woken : (bound : ℕ) (rules : List NumberedRule) (n : ℕ) (known : List Bool) (queue : List ℕ) (waiting : List (List Entry))
    → Good bound rules [] (record { known = known; queue = queue ++ n ∷ []; waiting = waiting })
    → Good bound rules [] (woken (record { known = known; queue = queue; waiting = waiting }) n)
good-woken bound rules n known queue waiting g =
    good-all_placed bound rules (waiting_at waiting n) (emptied (record { known = known; queue = queue; waiting = waiting }) n)
    (good-emptied bound rules n known queue waiting g)

-- ---- the beginning and the end

none-known : (n m : ℕ) → has (replicate n false) m ≡ false
none-known zero m = refl
none-known (suc n) zero = refl
none-known (suc n) (suc m) = none-known n m

none-wait : (n m : ℕ) → waiting_at (replicate n []) m ≡ []
none-wait zero m = refl
none-wait (suc n) zero = refl
none-wait (suc n) (suc m) = none-wait n m

all_below-none : (bound n : ℕ) → list_all (list_all (is_below bound)) (replicate n []) ≡ true
all_below-none bound zero = refl
all_below-none bound (suc n) = all_below-none bound n

length-false : (n : ℕ) → length (replicate n false) ≡ n
length-false zero = refl
length-false (suc n) = ap suc (length-false n)

abbrev no_entries : List Entry
no_entries = []

length-nil : (n : ℕ) → length (replicate n no_entries) ≡ n
length-nil zero = refl
length-nil (suc n) = ap suc (length-nil n)

keeps_rules : (set : ℕ → Bool) (rules : List NumberedRule) → keeps_all set (map rule_entry rules) ≡ is_closed_under rules set
keeps_rules set [] = refl
keeps_rules set (r ∷ rules) = ap (λ b. keeps set r.head r.body && b) (keeps_rules set rules)

good-begun : (bound : ℕ) (rules : List NumberedRule) → list_all (is_below bound) (map rule_entry rules) ≡ true → Good bound rules (map rule_entry rules) (begun bound)
good-begun bound rules b = record {
  sound = λ set c. (
    λ n e. absurd (true≢false (sym e ∙ none-known bound n)),
    keeps_by-none set set (replicate bound []) (λ n e. none-wait bound n),
    keeps_rules set rules ∙ c,
  );
  complete = λ set i w d. sym (keeps_rules set rules) ∙ d;
  served = λ n e. absurd (true≢false (sym e ∙ none-known bound n));
  queued = λ n e. absurd (false≢true e);
  known_length = length-false bound;
  waiting_length = length-nil bound;
  waiting_below = all_below-none bound bound;
  hand_below = b;
}

pub good-started : (bound : ℕ) (rules : List NumberedRule) (s : State) → list_all (is_below bound) (map rule_entry rules) ≡ true → s ≡ all_placed (begun bound) (map rule_entry rules) → Good bound rules [] s
good-started bound rules s b e =
    subst (λ z. Good bound rules [] z) (sym e) (good-all_placed bound rules (map rule_entry rules) (begun bound) (good-begun bound rules b))

pub least-at_end : (bound : ℕ) (rules : List NumberedRule) (s : State) → Good bound rules [] s → s.queue ≡ [] → IsLeast rules (has s.known)
least-at_end bound rules s g q = record {
  closed =
      g.complete (has s.known) (λ n e. e)
      (keeps_by-none (has s.known) (has s.known) s.waiting
      (λ n e.
      elim (g.served n e) [
        | inl none ↦ none
        | inr queued ↦ absurd (true≢false (sym queued ∙ ap (list_any (nat_eq n)) q))
      ]))
      refl;
  within = λ other c n e. (g.sound other c).0 n e;
}

-- ---- each number is taken out of the queue once

abbrev pub left : State → ℕ
left s = unknown s.known + length s.queue

unknown-set : (marks : List Bool) (h : ℕ) → h < length marks → has marks h ≡ false → unknown (slice_set marks h true) + 1 ≡ unknown marks
unknown-set [] h b e = absurd (omega (arith, b))
unknown-set (true ∷ marks) zero b e = absurd (true≢false e)
unknown-set (false ∷ marks) zero b e = omega arith
unknown-set (m ∷ marks) (suc h) b e =
    let i = unknown-set marks h (omega (arith, b)) e in omega (arith, i)

left-reached : (s : State) (h : ℕ) → left (reached s h) ≡ left s
left-reached s h =
    cond_both (nat_lt h (length s.known) && not (has s.known h)) _ s (λ z. left z ≡ left s)
    (λ t.
    let p = and_parts (nat_lt h (length s.known)) (not (has s.known h)) t in
    let u = unknown-set s.known h ((Decides-ltb h (length s.known)).0 p.0) (not-true (has s.known h) p.1) in
    omega (arith, u, length-append s.queue (h ∷ [])))
    (λ f. refl)

left-awaited : (s : State) (n : ℕ) (e : Entry) → left (awaited s n e) ≡ left s
left-awaited s n e = cond_both (nat_lt n (length s.waiting)) _ s (λ z. left z ≡ left s) (λ t. refl) (λ f. refl)

left-settled : (s : State) (h : ℕ) (rest : List ℕ) → left (settled s h rest) ≡ left s
left-settled s h [] = left-reached s h
left-settled s h (n ∷ rest) = left-awaited s n (h, rest)

left-all_placed : (s : State) (es : List Entry) → left (all_placed s es) ≡ left s
left-all_placed s [] = refl
left-all_placed s (e ∷ es) = left-all_placed (placed s e) es ∙ left-settled s e.0 (unknown_from s.known e.1)

pub left-woken : (s : State) (n : ℕ) → left (woken s n) ≡ left s
left-woken s n = left-all_placed (emptied s n) (waiting_at s.waiting n)

-- ---- the highest number

highest-above : (m : ℕ) (ns : List ℕ) → m ≤ highest_from m ns
highest-above m [] = omega arith
highest-above m (n ∷ ns) = let h = highest-above (max m n) ns in omega (arith, h)

highest-within : (m b : ℕ) (ns : List ℕ) → highest_from m ns ≤ b → list_all (λ x. nat_lt x (b + 1)) ns ≡ true
highest-within m b [] h = refl
highest-within m b (n ∷ ns) h =
    let a = highest-above (max m n) ns in
    and_from (nat_lt n (b + 1)) (list_all (λ x. nat_lt x (b + 1)) ns) ((Decides-ltb n (b + 1)).1 (omega (arith, a, h))) (highest-within (max m n) b ns h)

highest_in-above : (m : ℕ) (rules : List NumberedRule) → m ≤ highest_in m rules
highest_in-above m [] = omega arith
highest_in-above m (r ∷ rules) =
    let a = highest-above (max m r.head) r.body in
    let h = highest_in-above (highest_from (max m r.head) r.body) rules in
    omega (arith, a, h)

highest_in-within : (m b : ℕ) (rules : List NumberedRule) → highest_in m rules ≤ b → list_all (is_below (b + 1)) (map rule_entry rules) ≡ true
highest_in-within m b [] h = refl
highest_in-within m b (r ∷ rules) h =
    let k = highest_from (max m r.head) r.body in
    let a = highest-above (max m r.head) r.body in
    let i = highest_in-above k rules in
    and_from (is_below (b + 1) (rule_entry r)) (list_all (is_below (b + 1)) (map rule_entry rules))
    (and_from (nat_lt r.head (b + 1)) (list_all (λ x. nat_lt x (b + 1)) r.body)
    ((Decides-ltb r.head (b + 1)).1 (omega (arith, a, i, h)))
    (highest-within (max m r.head) b r.body (omega (arith, i, h))))
    (highest_in-within k b rules h)

pub all-below_highest : (rules : List NumberedRule) (b n : ℕ) → b ≡ highest_in 0 rules → n ≡ b + 1 → list_all (is_below n) (map rule_entry rules) ≡ true
all-below_highest rules b n e f =
    ap (λ z. list_all (is_below z) (map rule_entry rules)) f ∙ highest_in-within 0 b rules (omega (arith, e))

-- ---- lists that are read item by item

pub map-set : {A B : Type 0} (f : A → B) (xs : List A) (n : ℕ) (x : A) → map f (slice_set xs n x) ≡ slice_set (map f xs) n (f x)
map-set f [] n x = refl
map-set f (y ∷ xs) zero x = refl
map-set f (y ∷ xs) (suc n) x = ap (λ z. f y ∷ z) (map-set f xs n x)

pub map-pushed : {A B : Type 0} (f : A → B) (xs : List A) (x : A) → map f (xs ++ x ∷ []) ≡ map f xs ++ f x ∷ []
map-pushed f [] x = refl
map-pushed f (y ∷ xs) x = ap (λ l. f y ∷ l) (map-pushed f xs x)

pub map-at : {A B : Type 0} (f : A → B) (xs : List A) (n : ℕ) (x : A) (d : B) → slice_get xs n ≡ Some x → slice_index_or (map f xs) n d ≡ f x
map-at f [] n x d e = cc
map-at f (y ∷ xs) zero x d e = let same : y ≡ x = cc in ap f same
map-at f (y ∷ xs) (suc n) x d e = map-at f xs n x d e

pub set-set : {A : Type 0} (xs : List A) (n : ℕ) (x y : A) → slice_set (slice_set xs n x) n y ≡ slice_set xs n y
set-set [] n x y = refl
set-set (z ∷ xs) zero x y = refl
set-set (z ∷ xs) (suc n) x y = ap (λ l. z ∷ l) (set-set xs n x y)

pub replicate-pushed : {A : Type 0} (n : ℕ) (x : A) → replicate n x ++ x ∷ [] ≡ replicate (suc n) x
replicate-pushed zero x = refl
replicate-pushed (suc n) x = ap (λ l. x ∷ l) (replicate-pushed n x)

-- ---- the state of the code

pub woken-begins : (s : Closing) (after : List (List Waiting)) (n : ℕ) (rules items new : List Waiting)
    → slice_get s.waiting.items n ≡ Some rules → new ≡ [] → after ≡ slice_set s.waiting.items n new → items ≡ rules
    → all_placed (record { known = s.known.items; queue = s.queue.items; waiting = map (map entry_of) after }) (map entry_of items) ≡ woken (state_of s) n
woken-begins s after n rules items new g e a i =
    let w : List (List Entry) = map (map entry_of) s.waiting.items in
    let p : map (map entry_of) after ≡ slice_set w n [] =
    ap (map (map entry_of)) a ∙ map-set (map entry_of) s.waiting.items n new ∙ ap (λ z. slice_set w n (map entry_of z)) e in
    let q : map entry_of items ≡ waiting_at w n = ap (map entry_of) i ∙ sym (map-at (map entry_of) s.waiting.items n rules [] g) in
    λ j. all_placed (record { known = s.known.items; queue = s.queue.items; waiting = p j }) (q j)

pub waits : (s : Closing) (first second : List (List Waiting)) (n : ℕ) (rules more new : List Waiting) (r : Waiting)
    → n < length s.waiting.items → slice_get s.waiting.items n ≡ Some rules → first ≡ slice_set s.waiting.items n new → more ≡ rules ++ r ∷ []
    → second ≡ slice_set first n more
    → record { known = s.known.items; queue = s.queue.items; waiting = map (map entry_of) second } ≡ awaited (state_of s) n (entry_of r)
waits s first second n rules more new r b g f m e =
    let w : List (List Entry) = map (map entry_of) s.waiting.items in
    let inside : nat_lt n (length w) ≡ true =
    ap (nat_lt n) (length-map s.waiting.items (map entry_of)) ∙ (Decides-ltb n (length s.waiting.items)).1 b in
    let to : second ≡ slice_set s.waiting.items n more = e ∙ ap (λ z. slice_set z n more) f ∙ set-set s.waiting.items n new more in
    let old : map entry_of rules ≡ waiting_at w n = sym (map-at (map entry_of) s.waiting.items n rules [] g) in
    let grown : map entry_of more ≡ waiting_at w n ++ entry_of r ∷ [] =
    ap (map entry_of) m ∙ map-pushed entry_of rules r ∙ ap (λ z. z ++ entry_of r ∷ []) old in
    let p : map (map entry_of) second ≡ slice_set w n (waiting_at w n ++ entry_of r ∷ []) =
    ap (map (map entry_of)) to ∙ map-set (map entry_of) s.waiting.items n more ∙ ap (slice_set w n) grown in
    let after : State = record { known = s.known.items; queue = s.queue.items; waiting = slice_set w n (waiting_at w n ++ entry_of r ∷ []) } in
    (λ j. record { known = s.known.items; queue = s.queue.items; waiting = p j })
    ∙ sym (cond-true (nat_lt n (length w)) after (state_of s) inside)

pub good-next : (bound : ℕ) (rules : List NumberedRule) (s : Closing) (queue : List ℕ) (n : ℕ) (next : State)
    → s.queue.items ≡ queue ++ n ∷ [] → next ≡ woken (record { known = s.known.items; queue = queue; waiting = map (map entry_of) s.waiting.items }) n
    → Good bound rules [] (state_of s) → Good bound rules [] next
good-next bound rules s queue n next q e g =
    let w : List (List Entry) = map (map entry_of) s.waiting.items in
    let popped : Good bound rules [] (record { known = s.known.items; queue = queue ++ n ∷ []; waiting = w }) =
    subst (λ (z : List ℕ). Good bound rules [] (record { known = s.known.items; queue = z; waiting = w })) q g in
    subst (λ (z : State). Good bound rules [] z) (sym e) (good-woken bound rules n s.known.items queue w popped)

pub left-next : (s : Closing) (queue : List ℕ) (n : ℕ) (next : State)
    → s.queue.items ≡ queue ++ n ∷ [] → next ≡ woken (record { known = s.known.items; queue = queue; waiting = map (map entry_of) s.waiting.items }) n
    → left next < left (state_of s)
left-next s queue n next q e =
    let a : left next ≡ unknown s.known.items + length queue = ap left e ∙ left-woken (record { known = s.known.items; queue = queue; waiting = map (map entry_of) s.waiting.items }) n in
    let b : length s.queue.items ≡ length (queue ++ n ∷ []) = ap length q in
    omega (arith, a, b, length-append queue (n ∷ []))
