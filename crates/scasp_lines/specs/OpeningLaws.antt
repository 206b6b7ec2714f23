-- What is promised of a rule taken at a literal.
use Rattle.std.specs.Prelude.{◌≡◌, ℕ, IsTrue, List, Some, ◌<◌, ◌≤◌, IsFalse}
use Rattle.std.specs.List.{list_all}
use Rattle.scasp_syntax.specs.Tm.{Tm}
use Rattle.scasp_syntax.specs.Values.{Sub, under, is_ground}
use Rattle.scasp_lines.specs.Covers.{Cover, value_of}
use Rattle.scasp_lines.specs.Known.{is_known}
use Rattle.scasp_lines.specs.Opened.{Opened, knows, well, AllMet, AreUnknown}
use Rattle.scasp_lines.specs.Openings.{Opening, bound_to}

-- What opened is well, the next parts are new, and what the head's variables stand for is known.
pub record OpeningFits (n : ℕ) (o : Opening) : Type 0 where
  pub well : IsTrue (well n o.opened)
  pub unseen : (y : ℕ) → o.hidden ≤ y → IsFalse (knows n o.opened y)
  pub known : (x : ℕ) (t : Tm) → bound_to o.bound x ≡ Some t → IsTrue (is_known (knows n o.opened) t)

-- The values meet what opened, and give the head's variables the terms of s.
pub record OpeningSays (d : List Tm) (s : Sub) (o : Opening) (v : Sub) : Type 0 where
  pub met : AllMet d v o.opened
  pub says : (x : ℕ) (t : Tm) → bound_to o.bound x ≡ Some t → under v t ≡ s x

-- From o to q more opened: that fits, the parts are numbered upwards, what was known is, and of what was not known only new parts are.
pub record OpeningGrows (n : ℕ) (o q : Opening) : Type 0 where
  pub fits : OpeningFits n q
  pub rises : o.hidden ≤ q.hidden
  pub more : (x : ℕ) → IsTrue (knows n o.opened x) → IsTrue (knows n q.opened x)
  pub only : (y : ℕ) → y < o.hidden → IsFalse (knows n o.opened y) → IsFalse (knows n q.opened y)

-- Some values that agree with v on what was known meet what opened and give the head's variables the terms of s.
pub record OpeningIsMet (n : ℕ) (d : List Tm) (s : Sub) (o q : Opening) (v : Sub) : Type 0 where
  pub by : Sub
  pub holds : OpeningSays d s q by
  pub same : (x : ℕ) → IsTrue (knows n o.opened x) → by x ≡ v x
  pub ground : ((x : ℕ) → IsTrue (is_ground (v x))) → (x : ℕ) → IsTrue (is_ground (by x))

-- The same of a cover, where no universal from the next one on is known below a number that none of them reaches.
pub record CoverFits (n top : ℕ) (c : Cover) : Type 0 where
  pub well : IsTrue (well n c.opened)
  pub unseen : AreUnknown n c.opened c.next top
  pub known : (x : ℕ) (t : Tm) → bound_to c.bound x ≡ Some t → IsTrue (is_known (knows n c.opened) t)

-- From c to e more universals opened: that fits, they are numbered upwards, what was known is, and from the next one on no more is.
pub record CoverGrows (n top : ℕ) (c e : Cover) : Type 0 where
  pub fits : CoverFits n top e
  pub rises : c.next ≤ e.next
  pub more : (x : ℕ) → IsTrue (knows n c.opened x) → IsTrue (knows n e.opened x)
  pub only : (y : ℕ) → e.next ≤ y → IsFalse (knows n c.opened y) → IsFalse (knows n e.opened y)

pub record CoverSays (d : List Tm) (s : Sub) (c : Cover) (v : Sub) : Type 0 where
  pub met : AllMet d v c.opened
  pub says : (x : ℕ) (t : Tm) → bound_to c.bound x ≡ Some t → under v t ≡ s x

-- Some values that agree with v on what was known meet all that opened at the cover, and give each of the clause's variables the term of s.
pub record CoverIsMet (n : ℕ) (d : List Tm) (s : Sub) (vars : ℕ) (before : List Opened) (c : Cover) (v : Sub) : Type 0 where
  pub by : Sub
  pub met : AllMet d by c.opened
  pub same : (x : ℕ) → IsTrue (knows n before x) → by x ≡ v x
  pub values : (x : ℕ) → x < vars → under by (value_of c.bound x) ≡ s x
  pub ground : IsTrue (list_all is_ground d) → ((x : ℕ) → IsTrue (is_ground (v x))) → (x : ℕ) → IsTrue (is_ground (by x))
