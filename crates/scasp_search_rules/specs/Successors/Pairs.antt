-- Pairs of terms: what two terms come to when names and arguments are taken apart.
use Rattle.std.specs.Prelude.{◌&&◌, nat_eq, if◌then◌else◌, List, [], ◌∷◌, ◌++◌, length}
use Rattle.scasp_syntax.specs.Same.{same_number}
use Rattle.scasp_syntax.specs.Tm.{Tm, Tms, var, num, app, nil, cons, items}
use Rattle.scasp_syntax.specs.Values.{Sub, under}
use Rattle.scasp_syntax.specs.View.{tm_of}
use Rattle.scasp_search_rules.specs.declared.states.tasks.Pair.{Pair}
use Rattle.scasp_unify.specs.SimpleForm.{term_with}

abbrev pub pair : Tm → Tm → Pair
pair t u = record { left = term_with t; right = term_with u }

-- the pairs of two lists of arguments
abbrev pub pairs : Tms → Tms → List Pair
pairs nil us = []
pairs (cons t ts) nil = []
pairs (cons t ts) (cons u us) = pair t u ∷ pairs ts us

-- The pairs that two terms come to, from the left: identical sides are dropped, and under one name the arguments are taken. In each
-- pair a side is a variable, or the sides clash.
abbrev mutual
  pub pairs_of : Tm → Tm → List Pair
  pairs_of (var x) (var y) = if nat_eq x y then [] else pair (var x) (var y) ∷ []
  pairs_of (var x) (num q) = pair (var x) (num q) ∷ []
  pairs_of (var x) (app f ts) = pair (var x) (app f ts) ∷ []
  pairs_of (num q) (var y) = pair (num q) (var y) ∷ []
  pairs_of (num q) (num r) = if same_number q r then [] else pair (num q) (num r) ∷ []
  pairs_of (num q) (app f ts) = pair (num q) (app f ts) ∷ []
  pairs_of (app f ts) (var y) = pair (app f ts) (var y) ∷ []
  pairs_of (app f ts) (num r) = pair (app f ts) (num r) ∷ []
  pairs_of (app f ts) (app g us) =
      if nat_eq f g && nat_eq (length (items ts)) (length (items us)) then all_pairs_of ts us else pair (app f ts) (app g us) ∷ []

  pub all_pairs_of : Tms → Tms → List Pair
  all_pairs_of nil us = []
  all_pairs_of (cons t ts) nil = []
  all_pairs_of (cons t ts) (cons u us) = pairs_of t u ++ all_pairs_of ts us

-- the first of two lists with more behind it, where it is not empty, and else the second
abbrev pub in_front : List Pair → List Pair → List Pair → List Pair
in_front [] ps later = later
in_front (q ∷ qs) ps later = (q ∷ qs) ++ ps

-- the pairs from the first on that comes to something under the substitution, and this as what it comes to
abbrev pub from_first : Sub → List Pair → List Pair
from_first v [] = []
from_first v (p ∷ ps) = in_front (pairs_of (under v (tm_of p.left)) (under v (tm_of p.right))) ps (from_first v ps)
