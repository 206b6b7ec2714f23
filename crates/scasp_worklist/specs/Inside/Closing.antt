-- The worklist: which numbers are known, whose waiting rules are still to be gone through, and which rules wait for which number.
use Rattle.std.specs.Prelude.{ℕ, suc, ◌+◌, Bool, true, false, ◌&&◌, not, nat_lt, if◌then◌else◌, List, [], ◌∷◌, ◌++◌, length, map, slice_index_or, slice_set, replicate, max}
use Rattle.std.specs.List.{list_all}
use Rattle.scasp_worklist.specs.Numbered.{has, keeps}
use Rattle.scasp_worklist.specs.declared.numbered.NumberedRule.{NumberedRule}
use Rattle.scasp_worklist.specs.declared.worklist.Closing.{Closing}
use Rattle.scasp_worklist.specs.declared.worklist.Waiting.{Waiting}

-- a head, and what is still to be looked at of a body
abbrev pub Entry : Type 0
Entry = ℕ × List ℕ

pub record State : Type 0 where
  pub known : List Bool
  pub queue : List ℕ
  pub waiting : List (List Entry)

abbrev pub entry_of : Waiting → Entry
entry_of w = (w.head, w.rest.now)

abbrev pub rule_entry : NumberedRule → Entry
rule_entry r = (r.head, r.body)

abbrev pub state_of : Closing → State
state_of c = record { known = c.known.items; queue = c.queue.items; waiting = map (map entry_of) c.waiting.items }

-- nothing is known, of so many numbers
abbrev pub begun : ℕ → State
begun n = record { known = replicate n false; queue = []; waiting = replicate n [] }

-- the rules that wait for the number
abbrev pub waiting_at : List (List Entry) → ℕ → List Entry
waiting_at waiting n = slice_index_or waiting n []

-- the body from its first unknown number on
abbrev pub unknown_from : List Bool → List ℕ → List ℕ
unknown_from known [] = []
unknown_from known (n ∷ body) = if has known n then unknown_from known body else n ∷ body

-- the head is known
abbrev pub reached : State → ℕ → State
reached s head =
    if nat_lt head (length s.known) && not (has s.known head)
    then record { known = slice_set s.known head true; queue = s.queue ++ head ∷ []; waiting = s.waiting }
    else s

-- the rule waits for the number
abbrev pub awaited : State → ℕ → Entry → State
awaited s n e =
    if nat_lt n (length s.waiting)
    then record { known = s.known; queue = s.queue; waiting = slice_set s.waiting n (waiting_at s.waiting n ++ e ∷ []) }
    else s

-- the head is known where nothing is left of the body, else the rule waits for the first number that is left
abbrev pub settled : State → ℕ → List ℕ → State
settled s head [] = reached s head
settled s head (n ∷ rest) = awaited s n (head, rest)

abbrev pub placed : State → Entry → State
placed s e = settled s e.0 (unknown_from s.known e.1)

abbrev pub all_placed : State → List Entry → State
all_placed s [] = s
all_placed s (e ∷ es) = all_placed (placed s e) es

-- no rule waits for the number any more
abbrev pub emptied : State → ℕ → State
emptied s n = record { known = s.known; queue = s.queue; waiting = slice_set s.waiting n [] }

-- the rules that waited for the number are gone through
abbrev pub woken : State → ℕ → State
woken s n = all_placed (emptied s n) (waiting_at s.waiting n)

-- all numbers of the rule are below n
abbrev pub is_below : ℕ → Entry → Bool
is_below n e = nat_lt e.0 n && list_all (λ x. nat_lt x n) e.1

-- the set keeps each rule
abbrev pub keeps_all : (ℕ → Bool) → List Entry → Bool
keeps_all set es = list_all (λ (e : Entry). keeps set e.0 e.1) es

-- the set keeps the rules that wait for numbers, which are numbered as the gate tells: it has no number of a list that is not asked
abbrev pub keeps_by : (ℕ → Bool) → (ℕ → Bool) → List (List Entry) → Bool
keeps_by gate set [] = true
keeps_by gate set (es ∷ waiting) = (if gate 0 then keeps_all set es else true) && keeps_by (λ n. gate (suc n)) set waiting

-- how many numbers are not known
abbrev pub unknown : List Bool → ℕ
unknown [] = 0
unknown (b ∷ marks) = (if b then 0 else 1) + unknown marks

-- the highest of the numbers and m
abbrev pub highest_from : ℕ → List ℕ → ℕ
highest_from m [] = m
highest_from m (n ∷ ns) = highest_from (max m n) ns

-- the highest number of the rules and m
abbrev pub highest_in : ℕ → List NumberedRule → ℕ
highest_in m [] = m
highest_in m (r ∷ rules) = highest_in (highest_from (max m r.head) r.body) rules
