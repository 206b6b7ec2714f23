-- Rows that are multiples of one another.
use Rattle.std.specs.Prelude.{◌≡◌, ◌≢◌, ℕ, false, ℤ, pos, ◌<ℤ◌, ◌+ℤ◌, ◌*ℤ◌}
use Rattle.scasp_num.specs.Linear.{Linear, IsNormal, is_symmetric, weighted}

-- the sum of the row times d, where each variable x stands for m x / d
abbrev pub sum_at : Linear → (ℕ → ℤ) → ℤ → ℤ
sum_at r m d = weighted m r.coeffs +ℤ r.constant *ℤ d

-- The rows compare in the same way, and a multiple of the one's sum is a multiple of the other's, whatever the variables stand for: by factors
-- above 0, but for rows that compare as their negations do.
pub record IsMultiple (p q : Linear) : Type 0 where
  pub op : p.op ≡ q.op
  pub left : ℤ
  pub right : ℤ
  pub left_above : pos 0 <ℤ left
  pub right_some : right ≢ pos 0
  pub right_above : is_symmetric p.op ≡ false → pos 0 <ℤ right
  pub same : (m : ℕ → ℤ) (d : ℤ) → left *ℤ sum_at p m d ≡ right *ℤ sum_at q m d

-- In normal form they are the same.
abbrev pub MultiplesAreOne : Type 0
MultiplesAreOne = (p q : Linear) → IsNormal p → IsNormal q → IsMultiple p q → p ≡ q
