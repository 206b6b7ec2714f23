-- Bodies up to an item that is false.
use Rattle.std.proofs.Common.{◌≡◌, ◌<◌, ◌≤◌, ℕ, zero, suc, List, [], ◌∷◌, ◌++◌, length, map, take, get_or, arith, refl, ap, sym, ◌∙◌}
use Rattle.scasp_search_rules.specs.Successors.Cases.{failing_at}
use Rattle.scasp_search_rules.specs.Successors.Items.{item_raised, opposite_item}
use Rattle.scasp_search_rules.specs.declared.states.tasks.Task.{Task}
use Rattle.scasp_search_rules.specs.declared.states.tasks.Task.TheVariants as task
use Rattle.scasp_syntax.specs.declared.clause.FlatItem.{FlatItem}

failing_past : (by k : ℕ) (is : List FlatItem) → length is ≤ k → failing_at k (map (item_raised by) is) ≡ map (item_raised by) is
failing_past by k [] h = refl
failing_past by zero (i ∷ is) h = absurd (omega (arith, h))
failing_past by (suc k) (i ∷ is) h = ap (λ (js : List FlatItem). item_raised by i ∷ js) (failing_past by k is (omega (arith, h)))

failing_there : (by k : ℕ) (is : List FlatItem) (i : FlatItem) (ts : List Task) → k < length is → i ≡ get_or is k i
    → map task.Show (map (item_raised by) (take k is)) ++ task.Show (opposite_item (item_raised by i)) ∷ ts
    ≡ map task.Show (failing_at k (map (item_raised by) is)) ++ ts
failing_there by k [] i ts h e = absurd (omega (arith, h))
failing_there by zero (j ∷ js) i ts h e = ap (λ x. task.Show (opposite_item (item_raised by x)) ∷ ts) e
failing_there by (suc k) (j ∷ js) i ts h e =
    ap (λ us. task.Show (item_raised by j) ∷ us) (failing_there by k js i ts (omega (arith, h)) e)

-- ---- what is put

pub put_past : (by k : ℕ) (is js : List FlatItem) (new old : List Task) → length is ≤ k → js ≡ map (item_raised by) is
    → new ≡ map task.Show js ++ old → new ≡ map task.Show (failing_at k (map (item_raised by) is)) ++ old
put_past by k is js new old h e n = n ∙ ap (λ (ks : List FlatItem). map task.Show ks ++ old) (e ∙ sym (failing_past by k is h))

pub put_there : (by k : ℕ) (is js ks : List FlatItem) (i : FlatItem) (us mid new old : List Task) → k < length is → i ≡ get_or is k i
    → us ≡ task.Show (opposite_item (item_raised by i)) ∷ [] → mid ≡ us ++ old → ks ≡ take k is → js ≡ map (item_raised by) ks
    → new ≡ map task.Show js ++ mid → new ≡ map task.Show (failing_at k (map (item_raised by) is)) ++ old
put_there by k is js ks i us mid new old h e o m t r n =
    let left : js ≡ map (item_raised by) (take k is) = r ∙ ap (map (item_raised by)) t in
    let false_one : mid ≡ task.Show (opposite_item (item_raised by i)) ∷ old = m ∙ ap (λ (vs : List Task). vs ++ old) o in
    n ∙ ap (λ (ls : List FlatItem). map task.Show ls ++ mid) left
    ∙ ap (λ (vs : List Task). map task.Show (map (item_raised by) (take k is)) ++ vs) false_one
    ∙ failing_there by k is i old h e
