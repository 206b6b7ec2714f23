-- Pairs by their first literal.
use Rattle.std.proofs.Common.{◌≡◌, ◌∙◌, Bool, true, false, not, ◌&&◌, cond, if◌then◌else◌, List, [], ◌∷◌, ◌++◌, map, reverse, Option, Some, refl, ap, sym, append_assoc}
use Rattle.std.specs.Bool.{beq}
use Rattle.std.specs.Borrow.{Bor}
use Rattle.std.specs.List.{flat_map, filter}
use Rattle.std.proofs.lemmas.Bool.{and_parts, cond-true, cond-false}
use Rattle.std.proofs.lemmas.List.{map-append, reverse-append}
use Rattle.scasp_checker_rules.specs.Pairs.{all_pairs, is_pair}
use Rattle.scasp_checker_rules.specs.Told.{Told}
use Rattle.scasp_graph.proofs.PlaceLemmas.{eq-is}
use Rattle.scasp_graph.proofs.PredLemmas.{bool_is, pred_is, same_pred-sym}
use Rattle.scasp_lines_places.specs.declared.places.chain.Chain.{Chain}
use Rattle.scasp_lines_walk.specs.Shown.TableView.{told_from}
use Rattle.scasp_lines_walk.specs.declared.shown.table.Saying.{Saying}
use Rattle.scasp_syntax.specs.Programs.{pred_of}
use Rattle.scasp_syntax.specs.Same.{same_bool, same_pred}
use Rattle.scasp_syntax.specs.declared.atom.Pred.{Pred}
use Rattle.scasp_checker.specs.Partners.Partners.{group_of, grouped, has_first, is_like, pairs_of, same_key, told_in, told_or_none}
use Rattle.scasp_checker.specs.declared.partners.partners.Partners.{Partners}

bool-same : (a b : Bool) → beq a b ≡ same_bool a b
bool-same true true = refl
bool-same true false = refl
bool-same false true = refl
bool-same false false = refl

-- the key of a literal is that of its predicate and sign
pub key-like : (t : Told) (p : Pred) (s : Bool) → same_key (pred_of t.atom, t.positive) (p, s) ≡ is_like p s t
key-like t p s = let a = eq-is (pred_of t.atom) p in let b = bool-same t.positive s in λ i. a i && b i

turned : (x y p : Bool) → (p && same_bool y (not x)) ≡ (not (same_bool x y) && p)
turned true true true = refl
turned true true false = refl
turned true false true = refl
turned true false false = refl
turned false true true = refl
turned false true false = refl
turned false false true = refl
turned false false false = refl

-- a literal makes a pair with those of its predicate and the other sign
pub like-pair : (a b : Told) → is_like (pred_of a.atom) (not a.positive) b ≡ is_pair a b
like-pair a b =
    ap (λ (p : Bool). p && same_bool b.positive (not a.positive)) (same_pred-sym (pred_of b.atom) (pred_of a.atom))
    ∙ turned a.positive b.positive (same_pred (pred_of a.atom) (pred_of b.atom))

pub filter-same : (t u : Told → Bool) → ((b : Told) → t b ≡ u b) → (ts : List Told) → filter t ts ≡ filter u ts
filter-same t u same [] = refl
filter-same t u same (b ∷ ts) = let e = same b in let r = filter-same t u same ts in λ i. if e i then b ∷ r i else r i

-- the pairs by their first literal are all pairs
pub pairs-grouped : (ts : List Told) → flat_map pairs_of (grouped ts) ≡ all_pairs ts
pairs-grouped [] = refl
pairs-grouped (a ∷ behind) = ap (λ (ps : List (Told × Told)). map (λ b. (a, b)) (filter (is_pair a) behind) ++ ps) (pairs-grouped behind)

-- ---- one literal more

module _ {A B : Type 0} where
  -- one more at the end is the first of the reversed list
  pub last-first : (f : A → B) (xs : List A) (x : A) → map f (reverse (xs ++ x ∷ [])) ≡ f x ∷ map f (reverse xs)
  last-first f xs x = ap (map f) (reverse-append xs (x ∷ []))

-- the literal that is put in front, where it stood behind those of its predicate and sign
pub put-first : (f g : Pred → Bool → Option (Chain (Bor Saying))) (a : Told) (pred : Pred) (longer : Chain (Bor Saying)) → pred ≡ pred_of a.atom
    → ((p : Pred) (s : Bool) → g p s ≡ cond (same_key (pred, a.positive) (p, s)) (Some longer) (f p s))
    → told_in longer ≡ a ∷ told_or_none (f pred a.positive)
    → (p : Pred) (s : Bool) → told_or_none (g p s) ≡ has_first a p s (told_or_none (f p s))
put-first f g a pred longer is puts made p s = by (is_like p s a) refl
  where
    key : same_key (pred, a.positive) (p, s) ≡ is_like p s a
    key = ap (λ (q : Pred). same_key (q, a.positive) (p, s)) is ∙ key-like a p s

    by : (b : Bool) → is_like p s a ≡ b → told_or_none (g p s) ≡ has_first a p s (told_or_none (f p s))
    by true e =
        let k = and_parts (same_pred (pred_of a.atom) p) (same_bool a.positive s) e in
        let same : pred ≡ p = is ∙ pred_is (pred_of a.atom) p k.0 in
        let sign : a.positive ≡ s = bool_is a.positive s k.1 in
        ap told_or_none (puts p s ∙ cond-true (same_key (pred, a.positive) (p, s)) (Some longer) (f p s) (key ∙ e))
        ∙ made ∙ (λ i. a ∷ told_or_none (f (same i) (sign i)))
        ∙ sym (cond-true (is_like p s a) (a ∷ told_or_none (f p s)) (told_or_none (f p s)) e)
    by false e =
        ap told_or_none (puts p s ∙ cond-false (same_key (pred, a.positive) (p, s)) (Some longer) (f p s) (key ∙ e))
        ∙ sym (cond-false (is_like p s a) (a ∷ told_or_none (f p s)) (told_or_none (f p s)) e)

-- where the literals behind a place are known by predicate and sign, and each has its partners
pub record Grouped (left all behind : List Told) (at : Pred → Bool → List Told) (groups : List (Told × List Told)) : Type 0 where
  pub whole : left ++ behind ≡ all
  pub known : (p : Pred) (s : Bool) → at p s ≡ filter (is_like p s) behind
  pub made : groups ≡ grouped behind

pub grouped-more : (a : Bor Saying) (pred : Pred) (made : Partners) (old left : List (Bor Saying)) (all ts : List Told) (groups after : List Partners) (f g : Pred → Bool → List Told)
    → old ≡ left ++ a ∷ [] → pred ≡ pred_of a.now.atom
    → told_from made.first ≡ told_from a → after ≡ groups ++ made ∷ []
    → told_in made.behind ≡ f pred (not a.now.positive)
    → ((p : Pred) (s : Bool) → g p s ≡ has_first (told_from a) p s (f p s))
    → Grouped (map told_from old) all ts f (map group_of (reverse groups))
    → Grouped (map told_from left) all (told_from a ∷ ts) g (map group_of (reverse after))
grouped-more a pred made old left all ts groups after f g popped is first pushed partners puts h =
    let t = told_from a in
    let here : told_in made.behind ≡ filter (is_pair t) ts =
    partners ∙ ap (λ (p : Pred). f p (not t.positive)) is ∙ h.known (pred_of t.atom) (not t.positive) ∙ filter-same (is_like (pred_of t.atom) (not t.positive)) (is_pair t) (like-pair t) ts in
    let split : map told_from old ≡ map told_from left ++ t ∷ [] = ap (map told_from) popped ∙ map-append told_from left (a ∷ []) in
    let rest = h.made in
    record {
      whole = sym (append_assoc (map told_from left) (t ∷ []) ts) ∙ ap (λ (xs : List Told). xs ++ ts) (sym split) ∙ h.whole;
      known = λ p s. puts p s ∙ ap (has_first t p s) (h.known p s);
      made = ap (λ (gs : List Partners). map group_of (reverse gs)) pushed ∙ last-first group_of groups made ∙ (λ i. (first i, here i) ∷ rest i);
    }

pub grouped-all : (left : List (Bor Saying)) (all ts : List Told) (f : Pred → Bool → List Told) (groups : List (Told × List Told))
    → left ≡ [] → Grouped (map told_from left) all ts f groups → groups ≡ grouped all
grouped-all left all ts f groups none h = h.made ∙ ap grouped (ap (λ (xs : List (Bor Saying)). map told_from xs ++ ts) (sym none) ∙ h.whole)
