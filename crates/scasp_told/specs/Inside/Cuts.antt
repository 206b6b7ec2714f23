-- One list, cut into pieces by counts.
use Rattle.std.specs.Prelude.{◌≤◌, ◌+◌, ℕ, zero, suc, List, [], ◌∷◌, length, take, drop, ⊤}
use Rattle.scasp_trail.specs.Past.{Past}

-- so many in the first piece, and so on; the last piece is what is left
abbrev pub cut : {T : Type 0} → List ℕ → List T → List (List T)
cut [] xs = xs ∷ []
cut (n ∷ ns) xs = take n xs ∷ cut ns (drop n xs)

abbrev pub total : List ℕ → ℕ
total [] = 0
total (n ∷ ns) = n + total ns

-- the counts come to no more than each list has
abbrev pub FitEach : {T : Type 0} → List (List ℕ) → List (List T) → Type 0
FitEach [] [] = ⊤
FitEach [] (xs ∷ xss) = ⊥
FitEach (ns ∷ nss) [] = ⊥
FitEach (ns ∷ nss) (xs ∷ xss) = (total ns ≤ length xs) × FitEach nss xss

-- so it is now and at each mark
pub record IsCut {T : Type 0} (counts : Past ℕ) (items : Past T) : Type 0 where
  pub now : total counts.now ≤ length items.now
  pub before : FitEach counts.before items.before

-- the pieces at each mark
abbrev pub cut_each : {T : Type 0} → List (List ℕ) → List (List T) → List (List (List T))
cut_each [] xss = []
cut_each (ns ∷ nss) [] = []
cut_each (ns ∷ nss) (xs ∷ xss) = cut ns xs ∷ cut_each nss xss

abbrev pub past_cut : {T : Type 0} → Past ℕ → Past T → Past (List T)
past_cut counts items = record { now = cut counts.now items.now; before = cut_each counts.before items.before }

-- where the piece of this number ends
abbrev pub end_of : ℕ → List ℕ → ℕ
end_of k [] = 0
end_of zero (n ∷ ns) = n
end_of (suc k) (n ∷ ns) = n + end_of k ns

-- the count of this number is one more
abbrev pub raised_at : ℕ → List ℕ → List ℕ
raised_at k [] = []
raised_at zero (n ∷ ns) = (n + 1) ∷ ns
raised_at (suc k) (n ∷ ns) = n ∷ raised_at k ns
