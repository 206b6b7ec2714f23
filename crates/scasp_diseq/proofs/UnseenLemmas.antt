-- Walks over terms with lists of terms still to be seen.
use Rattle.std.proofs.Common.{◌≡◌, ℕ, ◌+◌, ◌<◌, Bool, true, false, ◌||◌, nat_eq, List, [], ◌∷◌, ◌++◌, length, drop, get_or, add-one, Bor, Result, Ok, Err, refl, sym, ap, ◌∙◌, subst, arith}
use Rattle.std.proofs.Math.Seq.{drop-cons}
use Rattle.std.specs.Prelude.{OnOk, is_err}
use Rattle.std.proofs.lemmas.Bool.{false≢true}
use Rattle.std.proofs.lemmas.List.Folds.{list_any-append}
use Rattle.std.proofs.lemmas.List.Sums.{sum_by-append}
use Rattle.scasp_num.specs.Number.{Number}
use Rattle.scasp_syntax.specs.Tm.{Tms, weight_s}
use Rattle.scasp_syntax.specs.View.{tms_of}
use Rattle.scasp_syntax.specs.declared.term.Term.{Term}
use Rattle.scasp_syntax.specs.declared.term.Term.TheVariants.{App, Num, Var}
use Rattle.scasp_unify.specs.Parts.{occurs_among}
use Rattle.scasp_diseq.specs.Inside.Chains.{places_of}
use Rattle.scasp_diseq.specs.Inside.Noting.{Notes, Seen, with_place}
use Rattle.scasp_diseq.specs.Inside.Unseen.{any_unseen, work}
use Rattle.scasp_diseq.specs.declared.mentions.Mention.{Mention}
use Rattle.scasp_diseq.proofs.NotingLemmas.{with_place-twice}

-- ---- tests

or-false : (b : Bool) → (b || false) ≡ b
or-false true = refl
or-false false = refl

-- the first of the rest comes to the front
or-turned : (a b c : Bool) → (b || (a || c)) ≡ (a || (b || c))
or-turned true true c = refl
or-turned true false c = refl
or-turned false true c = refl
or-turned false false c = refl

or-joined : (a b c : Bool) → ((a || b) || c) ≡ (a || (b || c))
or-joined true b c = refl
or-joined false b c = refl

-- ---- lists

-- the items from a place on, where this item stands there
pub drop-at : {A : Type 0} (xs : List A) (i : ℕ) (x d : A) → i < length xs → d ≡ get_or xs i d → d ≡ x → drop i xs ≡ x ∷ drop (i + 1) xs
drop-at xs i x d h e f = drop-cons xs i d h ∙ (λ j. (sym e ∙ f) j ∷ drop (sym (add-one i) j) xs)

pub any-pushed : (y : ℕ) (ls : List (Bor (List Term))) (l : Bor (List Term)) → any_unseen y (ls ++ l ∷ []) ≡ (any_unseen y ls || occurs_among y (tms_of l.now))
any-pushed y ls l = list_any-append (λ (l : Bor (List Term)). occurs_among y (tms_of l.now)) ls (l ∷ []) ∙ ap (λ b. any_unseen y ls || b) (or-false (occurs_among y (tms_of l.now)))

pub work-pushed : (ls : List (Bor (List Term))) (l : Bor (List Term)) → work (ls ++ l ∷ []) ≡ work ls + (weight_s (tms_of l.now) + 1)
work-pushed ls l = sum_by-append (λ (l : Bor (List Term)). weight_s (tms_of l.now) + 1) ls (l ∷ []) ∙ (omega arith)

-- ---- what is to be noted still

-- it is nothing more
pub all_seen : (p : ℕ) (first : ℕ → Bool) (ms ls : List Mention) → Seen p first (λ _. false) ms ls → Notes p first ms ls
all_seen p first ms ls h y = h y

-- the first of it was noted
pub seen-noted : (p : ℕ) (first still now rest : ℕ → Bool) (ms ls ns : List Mention) → Seen p first still ms ls → ((y : ℕ) → still y ≡ (now y || rest y)) → Notes p now ls ns → Seen p first rest ms ns
seen-noted p first still now rest ms ls ns h e f y =
    ap (with_place p (rest y)) (f y)
    ∙ with_place-twice p (rest y) (now y) (places_of y ls)
    ∙ ap (λ b. with_place p b (places_of y ls)) (sym (e y))
    ∙ h y

-- it is the same
pub seen-same : (p : ℕ) (first still rest : ℕ → Bool) (ms ls : List Mention) → Seen p first still ms ls → ((y : ℕ) → still y ≡ rest y) → Seen p first rest ms ls
seen-same p first still rest ms ls h e y = ap (λ b. with_place p b (places_of y ls)) (sym (e y)) ∙ h y

-- what is noted in two steps
pub noted-twice : (p : ℕ) (a b : ℕ → Bool) (ms ls ns : List Mention) → Notes p a ms ls → Notes p b ls ns → Notes p (λ y. a y || b y) ms ns
noted-twice p a b ms ls ns e f y = f y ∙ ap (with_place p (b y)) (e y) ∙ with_place-twice p (b y) (a y) (places_of y ms)

-- ---- one term of a list

pub seen-var : (p x : ℕ) (first : ℕ → Bool) (ms ls ns : List Mention) (us vs : List (Bor (List Term))) (ts rs : List Term)
    → Seen p first (λ y. any_unseen y us || occurs_among y (tms_of ts)) ms ls → ts ≡ Var x ∷ rs → vs ≡ us → Notes p (λ y. nat_eq y x) ls ns
    → Seen p first (λ y. any_unseen y vs || occurs_among y (tms_of rs)) ms ns
seen-var p x first ms ls ns us vs ts rs h e f n =
    seen-noted p first (λ y. any_unseen y us || occurs_among y (tms_of ts)) (λ y. nat_eq y x) (λ y. any_unseen y vs || occurs_among y (tms_of rs)) ms ls ns h
    (λ y.
    ap (λ l. any_unseen y us || occurs_among y (tms_of l)) e ∙ or-turned (nat_eq y x) (any_unseen y us) (occurs_among y (tms_of rs))
    ∙ ap (λ l. nat_eq y x || (any_unseen y l || occurs_among y (tms_of rs))) (sym f))
    n

pub seen-num : (p : ℕ) (q : Number) (first : ℕ → Bool) (ms ls ns : List Mention) (us vs : List (Bor (List Term))) (ts rs : List Term)
    → Seen p first (λ y. any_unseen y us || occurs_among y (tms_of ts)) ms ls → ts ≡ Num q ∷ rs → vs ≡ us → ns ≡ ls
    → Seen p first (λ y. any_unseen y vs || occurs_among y (tms_of rs)) ms ns
seen-num p q first ms ls ns us vs ts rs h e f n =
    subst (Seen p first (λ y. any_unseen y vs || occurs_among y (tms_of rs)) ms) (sym n)
    (seen-same p first (λ y. any_unseen y us || occurs_among y (tms_of ts)) (λ y. any_unseen y vs || occurs_among y (tms_of rs)) ms ls h
    (λ y. ap (λ l. any_unseen y us || occurs_among y (tms_of l)) e ∙ ap (λ l. any_unseen y l || occurs_among y (tms_of rs)) (sym f)))

pub seen-app : (p g : ℕ) (args : Tms) (l : Bor (List Term)) (first : ℕ → Bool) (ms ls ns : List Mention) (us vs : List (Bor (List Term))) (ts rs : List Term)
    → Seen p first (λ y. any_unseen y us || occurs_among y (tms_of ts)) ms ls → ts ≡ App g args ∷ rs → vs ≡ us ++ l ∷ [] → tms_of l.now ≡ args → ns ≡ ls
    → Seen p first (λ y. any_unseen y vs || occurs_among y (tms_of rs)) ms ns
seen-app p g args l first ms ls ns us vs ts rs h e f a n =
    subst (Seen p first (λ y. any_unseen y vs || occurs_among y (tms_of rs)) ms) (sym n)
    (seen-same p first (λ y. any_unseen y us || occurs_among y (tms_of ts)) (λ y. any_unseen y vs || occurs_among y (tms_of rs)) ms ls h
    (λ y.
    ap (λ l. any_unseen y us || occurs_among y (tms_of l)) e
    ∙ sym (or-joined (any_unseen y us) (occurs_among y args) (occurs_among y (tms_of rs)))
    ∙ ap (λ b. b || occurs_among y (tms_of rs)) (ap (λ s. any_unseen y us || occurs_among y s) (sym a) ∙ sym (any-pushed y us l) ∙ ap (any_unseen y) (sym f))))

-- ---- results

pub on_ok : {A E P Q : Type 0} (r : Result A E) → OnOk r P → (P → Q) → OnOk r Q
on_ok (Ok x) h f = f h
on_ok (Err e) h f = h

pub if_not_err : {A E P : Type 0} (r : Result A E) → is_err r ≡ false → OnOk r P → P
if_not_err (Ok x) e h = h
if_not_err (Err x) e h = absurd (false≢true (sym e))
