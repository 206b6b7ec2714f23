-- Each positive and each negated literal of one predicate are shown apart, by their terms or by their clash line.
use Rattle.std.specs.Prelude.{ℕ, Bool, ◌&&◌, ◌||◌, not, nat_eq, min, if◌then◌else◌, Option, None, Some, is_some, List, [], ◌∷◌, ◌++◌, map, filter}
use Rattle.scasp_syntax.specs.Programs.{pred_of}
use Rattle.scasp_syntax.specs.Same.{same_bool, same_pred}
use Rattle.scasp_syntax.specs.declared.con.Con.{Con}
use Rattle.scasp_syntax.specs.declared.hint.Hint.TheVariants as hint
use Rattle.scasp_cert.specs.declared.certificate.Clash.{Clash}
use Rattle.scasp_hint.specs.Showing.{fault_of}
use Rattle.scasp_checker_rules.specs.PairLists.{pair_list}
use Rattle.scasp_checker_rules.specs.Refusals.{refused, wants, of_some, fault_at}
use Rattle.scasp_checker_rules.specs.Told.{Told}
use Rattle.scasp_checker_rules.specs.declared.refusal.Refusal.{Refusal}
use Rattle.scasp_checker_rules.specs.declared.refusal.Reason.TheVariants as reason

-- they have other signs and one predicate
abbrev pub is_pair : Told → Told → Bool
is_pair a b = not (same_bool a.positive b.positive) && same_pred (pred_of a.atom) (pred_of b.atom)

-- the pairs, by the first and then the second
abbrev pub all_pairs : List Told → List (Told × Told)
all_pairs [] = []
all_pairs (a ∷ behind) = map (λ b. (a, b)) (filter (is_pair a) behind) ++ all_pairs behind

-- the clash line names these two lines, in either order
abbrev pub is_clash_at : ℕ → ℕ → Clash → Bool
is_clash_at i j k = (nat_eq k.first i && nat_eq k.second j) || (nat_eq k.first j && nat_eq k.second i)

-- the first clash line of two lines
abbrev pub clash_of : ℕ → ℕ → List Clash → Option Clash
clash_of i j [] = None
clash_of i j (k ∷ ks) = if is_clash_at i j k then Some k else clash_of i j ks

-- the list of the pair as its clash line names the two
abbrev pub clash_list : ℕ → List Con → Told → Told → Clash → List Con
clash_list free given a b k = if nat_eq k.first a.at then pair_list free given a b else pair_list free given b a

abbrev pub clash_faults : ℕ → List Con → Told → Told → Option Clash → List Refusal
clash_faults free given a b None = refused a.at reason.Clash
clash_faults free given a b (Some k) = fault_at a.at (fault_of (clash_list free given a b k) k.hint)

-- the clash line is looked at where the terms do not show it
abbrev pub pair_faults : ℕ → List Con → List Clash → Told × Told → List Refusal
pair_faults free given clashes ab =
    if is_some (fault_of (pair_list free given ab.0 ab.1) hint.Terms)
    then clash_faults free given ab.0 ab.1 (clash_of ab.0.at ab.1.at clashes) else []

-- the literal on this line
abbrev pub told_on : ℕ → List Told → Option Told
told_on at [] = None
told_on at (t ∷ ts) = if nat_eq t.at at then Some t else told_on at ts

-- the clash line is of a pair
abbrev pub is_of_pair : List Told → Clash → Bool
is_of_pair ts k = of_some (told_on k.first ts) (λ a. of_some (told_on k.second ts) (is_pair a))

abbrev pub other_clash : List Told → Clash → List Refusal
other_clash ts k = wants (min k.first k.second) reason.Clash (is_of_pair ts k)
