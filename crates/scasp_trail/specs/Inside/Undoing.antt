-- How changes are taken back.
use Rattle.std.specs.Prelude.{◌≡◌, ◌<◌, ◌≤◌, ◌+◌, ◌-◌, ℕ, List, [], ◌∷◌, ◌++◌, Option, None, Some, reverse, slice_set, take, ⊤}
use Rattle.std.specs.List.{remove}
use Rattle.scasp_trail.specs.Past.{Past}
use Rattle.scasp_trail.specs.declared.change.Change.{Change}
use Rattle.scasp_trail.specs.declared.change.Change.TheVariants as change

-- the list without the change; without a mark, those of its first items that the mark before has
abbrev pub taken_back : {T : Type 0} → Change T → List T → List T
taken_back (change.Mark kept) xs = take kept xs
taken_back (change.Popped x) xs = xs ++ x ∷ []
taken_back (change.Replaced k x) xs = slice_set xs k x
taken_back (change.Inserted k) xs = remove xs k

-- the list that a mark has
abbrev pub here : {T : Type 0} → Change T → List T → List (List T)
here (change.Mark kept) xs = xs ∷ []
here (change.Popped x) xs = []
here (change.Replaced k x) xs = []
here (change.Inserted k) xs = []

-- what the list was at each mark, where these changes, the latest first, led to it
abbrev pub marked : {T : Type 0} → List (Change T) → List T → List (List T)
marked [] xs = []
marked (c ∷ cs) xs = here c xs ++ marked cs (taken_back c xs)

-- where so many of the first items are those of the latest mark but for the changes, the latest last
abbrev pub past_of : {T : Type 0} → ℕ → List T → List (Change T) → Past T
past_of kept xs cs = record { now = xs; before = marked (reverse cs) (take kept xs) }

-- how many items there are without the change
abbrev pub left_of : {T : Type 0} → Change T → ℕ → ℕ
left_of (change.Mark kept) n = kept
left_of (change.Popped x) n = n + 1
left_of (change.Replaced k x) n = n
left_of (change.Inserted k) n = n - 1

-- the change speaks of n items, for which there is so much room
abbrev pub Speaks : {T : Type 0} → ℕ → Change T → ℕ → Type 0
Speaks room (change.Mark kept) n = kept ≤ n
Speaks room (change.Popped x) n = n < room
Speaks room (change.Replaced k x) n = k < n
Speaks room (change.Inserted k) n = k + 1 < n

-- the changes, the latest first, can be taken back from n items in so much room; the first of all is a mark
abbrev pub CanUndo : {T : Type 0} → ℕ → List (Change T) → ℕ → Type 0
CanUndo room [] n = n ≡ 0
CanUndo room (c ∷ cs) n = Speaks room c n × CanUndo room cs (left_of c n)

pub record IsUndoable {T : Type 0} (room len kept : ℕ) (cs : List (Change T)) : Type 0 where
  pub within : kept ≤ len
  pub can : CanUndo room (reverse cs) kept

-- how many items the mark before has, if it is a mark
abbrev pub mark_of : {T : Type 0} → Change T → Option ℕ
mark_of (change.Mark kept) = Some kept
mark_of (change.Popped x) = None
mark_of (change.Replaced k x) = None
mark_of (change.Inserted k) = None

-- the list is again what it was at the latest mark, where there was one
abbrev pub GoesBack : {T : Type 0} → List (List T) → List T → List (List T) → Type 0
GoesBack [] now before = ⊤
GoesBack (xs ∷ xss) now before = (now ≡ xs) × (before ≡ xss)
