-- The leaves that a choice leaves.
use Rattle.std.specs.Prelude.{◌≡◌, ℕ, zero, suc, ◌+◌, ◌-◌, ◌<◌, ◌≤◌, ltb, Bool, true, false, if◌then◌else◌, ◌⊎◌, Option, None, Some, List, [], ◌∷◌, ◌++◌, drop, length, map, refl}
use Rattle.std.proofs.Common.{add-one, ap, append_assoc, arith, inl, inr, sym, ◌∙◌}
use Rattle.std.proofs.lemmas.Bool.{ltb-false, ltb-true}
use Rattle.std.proofs.lemmas.List.{map-append}
use Rattle.scasp_search_rules.specs.declared.states.covers.Cover.{Cover}
use Rattle.scasp_search_rules.specs.declared.states.state.State.{State}
use Rattle.scasp_search_rules.specs.declared.states.tasks.Task.{Task}
use Rattle.scasp_search_rules.specs.declared.states.tasks.Task.TheVariants as task
use Rattle.scasp_search_rules.specs.Successors.Cases.{head_call, leaf_at, with_head}
use Rattle.scasp_search_rules.specs.Successors.Items.{body_of}
use Rattle.scasp_search_rules.specs.Successors.Reading.{count_from}
use Rattle.scasp_search_rules.specs.Successors.Regions.{before}
use Rattle.scasp_search_state.specs.Choices.{Point, leaves_of, left, waiting}
use Rattle.scasp_search_state.specs.Words.{innermost}
use Rattle.scasp_search_state.specs.declared.choice.Begun.{Begun}
use Rattle.scasp_search_state.specs.declared.choice.Choice.TheVariants as choice
use Rattle.scasp_search_steps.specs.Leaves.{call_of, head_leaf, leaf, leaf_count}
use Rattle.scasp_syntax.specs.Instances.{atom_under}
use Rattle.scasp_syntax.specs.Programs.{numbered}
use Rattle.scasp_syntax.specs.Values.{raised}
use Rattle.scasp_syntax.specs.declared.atom.Atom.{Atom}
use Rattle.scasp_syntax.specs.declared.clause.Clause.{Clause}
use Rattle.scasp_syntax.specs.declared.clause.FlatItem.{FlatItem}
use Rattle.scasp_syntax.specs.declared.clause.FlatItem.TheVariants as flat
use Rattle.scasp_syntax.specs.declared.program.Program.{Program}

-- ---- tasks of a leaf

pub head_put : (ts us : List FlatItem) (s : State)
    → before (map task.Show ts) (before (map task.Show us ++ task.Close ∷ []) s) ≡ before (map task.Show (ts ++ us) ++ task.Close ∷ []) s
head_put ts us s =
    ap (λ (w : List Task). record s { work = w })
    (sym (append_assoc (map task.Show ts) (map task.Show us ++ task.Close ∷ []) s.work)
    ∙ ap (λ (w : List Task). w ++ s.work) (sym (append_assoc (map task.Show ts) (map task.Show us) (task.Close ∷ []))
    ∙ ap (λ (w : List Task). w ++ task.Close ∷ []) (sym (map-append task.Show ts us))))

-- ---- what comes of each of so many numbers, and then these states

abbrev listed : (ℕ → State) → ℕ → ℕ → List State → List State
listed f from n rest = map f (count_from from n) ++ rest

at_place : (f : ℕ → State) (from n k : ℕ) (rest : List State) → k < n
    → drop k (listed f from n rest) ≡ f (from + k) ∷ drop (suc k) (listed f from n rest)
at_place f from zero k rest h = absurd (omega (arith, h))
at_place f from (suc n) zero rest h =
    let e : from ≡ from + 0 = omega arith in ap (λ (j : ℕ). f j ∷ listed f (suc from) n rest) e
at_place f from (suc n) (suc k) rest h =
    let e : suc from + k ≡ from + suc k = omega arith in
    let more : k < n = omega (arith, h) in
    at_place f (suc from) n k rest more ∙ ap (λ (j : ℕ). f j ∷ drop (suc k) (listed f (suc from) n rest)) e

behind : (f : ℕ → State) (from n k j : ℕ) (rest : List State) → j ≡ n + k → drop j (listed f from n rest) ≡ drop k rest
behind f from zero k j rest h = let e : j ≡ k = omega (arith, h) in ap (λ (i : ℕ). drop i rest) e
behind f from (suc n) k zero rest h = absurd (omega (arith, h))
behind f from (suc n) k (suc j) rest h = let e : j ≡ n + k = omega (arith, h) in behind f (suc from) n k j rest e

past : (xs : List State) (k : ℕ) → length xs ≤ k → drop k xs ≡ []
past [] zero h = refl
past [] (suc k) h = refl
past (x ∷ xs) zero h = absurd (omega (arith, h))
past (x ∷ xs) (suc k) h = past xs k (omega (arith, h))

-- ---- the call of the head

one_call : (o : Option Clause) (first : ℕ) → (head_call o first ≡ []) ⊎ ((i : FlatItem) × (head_call o first ≡ i ∷ []))
one_call None first = inl refl
one_call (Some c) first = by c.head refl
  where
    by : (h : Option Atom) → c.head ≡ h → (head_call (Some c) first ≡ []) ⊎ ((i : FlatItem) × (head_call (Some c) first ≡ i ∷ []))
    by None e = inl (rw e refl)
    by (Some a) e =
        let call : FlatItem = flat.Call (record { positive = true; atom = atom_under (raised first) a }) in
        inr (call, rw e refl)

-- ---- the leaves of a clause

abbrev head_leaves : Program → State → Begun → List State
head_leaves p s b = if b.checks_head then with_head s (body_of p b.clause b.first) (call_of p b) else []

abbrev leaves_in : Program → State → Begun → List State
leaves_in p s b = listed (leaf_at s (body_of p b.clause b.first)) 0 (length (body_of p b.clause b.first)) (head_leaves p s b)

-- ---- behind the items

-- that the head is called, or is not
abbrev CallsHead : Program → State → Begun → Bool → List FlatItem → Type 0
CallsHead p s b checks call =
    (((if checks then length call else 0) ≡ 0) × ((if checks then with_head s (body_of p b.clause b.first) call else []) ≡ []))
    ⊎ (((if checks then length call else 0) ≡ 1) × ((if checks then with_head s (body_of p b.clause b.first) call else []) ≡ head_leaf p s b ∷ []))

head_cases : (p : Program) (s : State) (b : Begun) → CallsHead p s b b.checks_head (call_of p b)
head_cases p s b = by b.checks_head refl (one_call (numbered p.clauses b.clause) b.first)
  where
    by : (checks : Bool) → b.checks_head ≡ checks
        → (call_of p b ≡ []) ⊎ ((i : FlatItem) × (call_of p b ≡ i ∷ [])) → CallsHead p s b b.checks_head (call_of p b)
    by false e o = rw e (inl (refl, refl))
    by true e (inl n) = rw (e, n) (inl (refl, refl))
    by true e (inr (i, n)) = rw (e, n) (inr (refl, refl))

leaf_in : (p : Program) (s : State) (b : Begun) (k : ℕ) → k < leaf_count p b → drop k (leaves_in p s b) ≡ leaf p s b k ∷ drop (suc k) (leaves_in p s b)
leaf_in p s b k h = by (ltb k (length (body_of p b.clause b.first))) refl (head_cases p s b)
  where
    by : (is_item : Bool) → ltb k (length (body_of p b.clause b.first)) ≡ is_item
        → CallsHead p s b b.checks_head (call_of p b) → drop k (leaves_in p s b) ≡ leaf p s b k ∷ drop (suc k) (leaves_in p s b)
    by true e o =
        let body : List FlatItem = body_of p b.clause b.first in
        let z : 0 + k ≡ k = omega arith in
        let now : leaf_at s body k ≡ leaf p s b k = rw e refl in
        at_place (leaf_at s body) 0 (length body) k (head_leaves p s b) (ltb-true k (length body) e)
        ∙ ap (λ (t : State). t ∷ drop (suc k) (leaves_in p s b)) (ap (λ (j : ℕ). leaf_at s body j) z ∙ now)
    by false e (inl (z, m)) =
        let from : length (body_of p b.clause b.first) ≤ k = ltb-false k (length (body_of p b.clause b.first)) e in
        absurd (omega (arith, h, z, from))
    by false e (inr (z, m)) =
        let body : List FlatItem = body_of p b.clause b.first in
        let from : length body ≤ k = ltb-false k (length body) e in
        let last : k ≡ length body + 0 = omega (arith, h, z, from) in
        let over : suc k ≡ length body + 1 = omega (arith, last) in
        let now : head_leaf p s b ≡ leaf p s b k = rw e refl in
        let all : drop k (leaves_in p s b) ≡ head_leaf p s b ∷ [] = behind (leaf_at s body) 0 (length body) 0 k (head_leaves p s b) last ∙ m in
        let rest : drop (suc k) (leaves_in p s b) ≡ [] =
        behind (leaf_at s body) 0 (length body) 1 (suc k) (head_leaves p s b) over ∙ ap (λ (ts : List State). drop 1 ts) m in
        all ∙ ap (λ (t : State). t ∷ []) now ∙ ap (λ (ts : List State). leaf p s b k ∷ ts) (sym rest)

none_in : (p : Program) (s : State) (b : Begun) (k : ℕ) → leaf_count p b ≤ k → drop k (leaves_in p s b) ≡ []
none_in p s b k h = by (head_cases p s b)
  where
    by : CallsHead p s b b.checks_head (call_of p b) → drop k (leaves_in p s b) ≡ []
    by (inl (z, m)) =
        let body : List FlatItem = body_of p b.clause b.first in
        let e : k ≡ length body + (k - length body) = omega (arith, h, z) in
        behind (leaf_at s body) 0 (length body) (k - length body) k (head_leaves p s b) e
        ∙ ap (λ (ts : List State). drop (k - length body) ts) m ∙ past [] (k - length body) (omega arith)
    by (inr (z, m)) =
        let body : List FlatItem = body_of p b.clause b.first in
        let e : k ≡ length body + (k - length body) = omega (arith, h, z) in
        let one : 1 ≤ k - length body = omega (arith, h, z) in
        behind (leaf_at s body) 0 (length body) (k - length body) k (head_leaves p s b) e
        ∙ ap (λ (ts : List State). drop (k - length body) ts) m ∙ past (head_leaf p s b ∷ []) (k - length body) one

-- ---- the leaves of the innermost cover

cover_leaves : (p : Program) (s : State) (cs : List Cover) (b : Begun) → innermost cs ≡ Some b → leaves_of p s cs ≡ leaves_in p s b
cover_leaves p s [] b e = cc
cover_leaves p s (c ∷ cs) b e =
    let this : Begun = record { clause = c.clause; first = c.first; checks_head = c.checks_head } in
    let same : this ≡ b = cc in
    ap (λ (a : Begun). leaves_in p s a) same

pub no_cover : (p : Program) (s : State) (k : ℕ) → innermost s.covers ≡ None → left p (choice.Cases k) s ≡ []
no_cover p s k e = by s.covers e
  where
    by : (cs : List Cover) → innermost cs ≡ None → drop k (leaves_of p s cs) ≡ []
    by [] h = past [] k (omega arith)
    by (c ∷ cs) h = cc

pub no_leaf : (p : Program) (s : State) (b : Begun) (k : ℕ) → innermost s.covers ≡ Some b → leaf_count p b ≤ k → left p (choice.Cases k) s ≡ []
no_leaf p s b k e h = ap (λ (ts : List State). drop k ts) (cover_leaves p s s.covers b e) ∙ none_in p s b k h

-- the first, and those that the choice behind it leaves
one_leaf : (p : Program) (s : State) (b : Begun) (k : ℕ) → innermost s.covers ≡ Some b → k < leaf_count p b
    → left p (choice.Cases k) s ≡ leaf p s b k ∷ left p (choice.Cases (k + 1)) s
one_leaf p s b k e h =
    let same : leaves_of p s s.covers ≡ leaves_in p s b = cover_leaves p s s.covers b e in
    ap (λ (ts : List State). drop k ts) same ∙ leaf_in p s b k h
    ∙ ap (λ (ts : List State). leaf p s b k ∷ drop (suc k) ts) (sym same)
    ∙ ap (λ (j : ℕ). leaf p s b k ∷ drop j (leaves_of p s s.covers)) (sym (add-one k))

pub first_leaf : (p : Program) (s : State) (b : Begun) (k : ℕ) (points : List Point) → innermost s.covers ≡ Some b → k < leaf_count p b
    → leaf p s b k ∷ waiting p (record { choice = choice.Cases (k + 1); state = s } ∷ points) ≡ left p (choice.Cases k) s ++ waiting p points
first_leaf p s b k points e h = ap (λ (ts : List State). ts ++ waiting p points) (sym (one_leaf p s b k e h))

pub last_leaf : (p : Program) (s : State) (b : Begun) (k : ℕ) (points : List Point) → innermost s.covers ≡ Some b → k < leaf_count p b → leaf_count p b ≤ k + 1
    → leaf p s b k ∷ waiting p points ≡ left p (choice.Cases k) s ++ waiting p points
last_leaf p s b k points e h l =
    let rest : left p (choice.Cases (k + 1)) s ≡ [] = no_leaf p s b (k + 1) e l in
    ap (λ (ts : List State). ts ++ waiting p points) (sym (one_leaf p s b k e h ∙ ap (λ (ts : List State). leaf p s b k ∷ ts) rest))
