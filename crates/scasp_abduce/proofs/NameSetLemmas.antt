-- Sets of names that grow.
use Rattle.std.proofs.Common.{◌≡◌, ℕ, Bool, true, false, ◌||◌, List, [], ◌∷◌, ◌++◌, Bor, map, refl, ap, sym, ◌∙◌}
use Rattle.std.specs.Prelude.{nat_eq}
use Rattle.std.specs.List.{list_any, flat_map}
use Rattle.std.proofs.lemmas.List.Folds.{list_any-append}
use Rattle.std.proofs.Math.Bool.{or-false}
use Rattle.scasp_syntax.specs.View.{tms_of}
use Rattle.scasp_syntax.specs.declared.atom.Pred.{Pred}
use Rattle.scasp_syntax.specs.declared.term.Term.{Term}
use Rattle.scasp_abduce.specs.Inside.{HasBoth}
use Rattle.scasp_abduce.specs.Occurrences.{has, terms_names}

or-assoc : (a b c : Bool) → ((a || b) || c) ≡ (a || (b || c))
or-assoc true b c = refl
or-assoc false b c = refl

has-append : (xs ys : List ℕ) (n : ℕ) → has (xs ++ ys) n ≡ (has xs n || has ys n)
has-append xs ys n = list_any-append (nat_eq n) xs ys

-- two steps
pub both-then : (a b c xs ys : List ℕ) → HasBoth b a xs → HasBoth c b ys → HasBoth c a (xs ++ ys)
both-then a b c xs ys f g n =
    g n ∙ ap (λ z. z || has ys n) (f n) ∙ or-assoc (has a n) (has xs n) (has ys n) ∙ ap (λ z. has a n || z) (sym (has-append xs ys n))

-- nothing is put in
pub both-none : (a : List ℕ) → HasBoth a a []
both-none a n = sym (or-false (has a n))

-- a first part was put in, and a rest is still to be
pub put-part : (before after xs rest : List ℕ) (z : ℕ → Bool) → HasBoth after before xs → ((n : ℕ) → (has before n || has (xs ++ rest) n) ≡ z n) → (n : ℕ) → (has after n || has rest n) ≡ z n
put-part before after xs rest z f h n =
    ap (λ b. b || has rest n) (f n) ∙ or-assoc (has before n) (has xs n) (has rest n)
    ∙ ap (λ b. has before n || b) (sym (has-append xs rest n)) ∙ h n

-- the name of each predicate
pub pred-names : (ps : List Pred) → flat_map (λ p. p.name ∷ []) ps ≡ map (λ p. p.name) ps
pred-names [] = refl
pred-names (p ∷ ps) = ap (λ ns. p.name ∷ ns) (pred-names ps)

-- ---- lists of terms that are still to be seen

abbrev pub list_has : ℕ → Bor (List Term) → Bool
list_has n l = has (terms_names (tms_of l.now)) n

abbrev pub unseen_has : List (Bor (List Term)) → ℕ → Bool
unseen_has lists n = list_any (list_has n) lists

pub unseen-pushed : (lists : List (Bor (List Term))) (l : Bor (List Term)) (n : ℕ) → unseen_has (lists ++ l ∷ []) n ≡ (unseen_has lists n || list_has n l)
unseen-pushed lists l n = list_any-append (list_has n) lists (l ∷ []) ∙ ap (λ b. unseen_has lists n || b) (or-false (list_has n l))

shuffle : (t e u a r : Bool) → ((t || (e || false)) || ((u || a) || r)) ≡ (t || (u || (e || (a || r))))
shuffle true e u a r = refl
shuffle false true true a r = refl
shuffle false true false a r = refl
shuffle false false true a r = refl
shuffle false false false a r = refl

-- a name with arguments was seen: the name was put in, and the arguments to the lists
pub node-seen : (before after args rest : List ℕ) (f n : ℕ) (u v z : Bool) → HasBoth after before (f ∷ []) → v ≡ (u || has args n)
    → (has before n || (u || has (f ∷ args ++ rest) n)) ≡ z → (has after n || (v || has rest n)) ≡ z
node-seen before after args rest f n u v z p q h =
    ap (λ b. b || (v || has rest n)) (p n) ∙ ap (λ b. (has before n || has (f ∷ []) n) || (b || has rest n)) q
    ∙ shuffle (has before n) (nat_eq n f) u (has args n) (has rest n)
    ∙ ap (λ b. has before n || (u || (nat_eq n f || b))) (sym (has-append args rest n)) ∙ h
