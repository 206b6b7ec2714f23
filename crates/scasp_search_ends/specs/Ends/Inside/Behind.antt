-- Literals behind a place, by what they are looked for.
use Rattle.std.specs.Borrow.{Bor}
use Rattle.std.specs.HashMap.{HashMap, get}
use Rattle.std.specs.Prelude.{◌≡◌, ℕ, Bool, true, false, ◌&&◌, ◌||◌, nat_eq, unsigned_abs, Option, None, Some, List, [], map, filter}
use Rattle.scasp_checker_rules.specs.Told.{Told}
use Rattle.scasp_lines_places.specs.Places.Chains.{chained}
use Rattle.scasp_lines_places.specs.declared.places.chain.Chain.{Chain}
use Rattle.scasp_lines_walk.specs.Shown.TableView.{told_from}
use Rattle.scasp_lines_walk.specs.declared.shown.table.Saying.{Saying}
use Rattle.scasp_syntax.specs.Programs.{pred_of}
use Rattle.scasp_syntax.specs.Same.{same_bool, same_pred}
use Rattle.scasp_syntax.specs.Tm.{Tm, Tms, var, num, app, nil, cons}
use Rattle.scasp_search_ends.specs.declared.ends.behind.Key.{Key}
use Rattle.scasp_search_ends.specs.declared.ends.behind.Sought.{Sought}
use Rattle.scasp_search_ends.specs.declared.ends.behind.Sought.TheVariants as sought

-- Terms with different marks differ by a name or a number: the place of a name, or the size of a numerator. A variable has none.
abbrev pub term_mark : Tm → Option ℕ
term_mark (var x) = None
term_mark (num q) = Some (unsigned_abs q.num)
term_mark (app f ts) = Some f

-- the mark of the first argument; where there is none, the same for all
abbrev pub mark : Tms → Option ℕ
mark nil = Some 0
mark (cons t ts) = term_mark t

abbrev pub same_sought : Sought → Sought → Bool
same_sought sought.All sought.All = true
same_sought sought.All sought.Open = false
same_sought sought.All (sought.Marked n) = false
same_sought sought.Open sought.All = false
same_sought sought.Open sought.Open = true
same_sought sought.Open (sought.Marked n) = false
same_sought (sought.Marked m) sought.All = false
same_sought (sought.Marked m) sought.Open = false
same_sought (sought.Marked m) (sought.Marked n) = nat_eq m n

abbrev pub same_key : Key → Key → Bool
same_key k j = same_pred k.pred j.pred && (same_bool k.positive j.positive && same_sought k.sought j.sought)

abbrev pub key_of : Told → Bool → Sought → Key
key_of t positive s = record { pred = pred_of t.atom; positive = positive; sought = s }

-- what a literal with this mark is looked for by
abbrev pub sought_of : Option ℕ → Sought
sought_of None = sought.Open
sought_of (Some m) = sought.Marked m

abbrev pub all_key : Told → Key
all_key t = key_of t t.positive sought.All

abbrev pub own_key : Told → Key
own_key t = key_of t t.positive (sought_of (mark t.atom.args))

-- the literal is found under the key
abbrev pub is_under : Key → Told → Bool
is_under k t = same_key (all_key t) k || same_key (own_key t) k

abbrev pub told_in : Chain (Bor Saying) → List Told
told_in c = map told_from (chained c)

abbrev pub told_or_none : Option (Chain (Bor Saying)) → List Told
told_or_none None = []
told_or_none (Some c) = told_in c

module _ {S : Type 0} where
  abbrev pub told_under : HashMap Key (Chain (Bor Saying)) S → Key → List Told
  told_under m k = told_or_none (get same_key m k)

  -- these literals are found under their keys, in order, and no others
  abbrev pub Finds : HashMap Key (Chain (Bor Saying)) S → List Told → Type 0
  Finds m ts = (k : Key) → told_under m k ≡ filter (is_under k) ts
