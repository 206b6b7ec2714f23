-- Terms written down head by head, and built again.
use Rattle.std.proofs.Common.{◌≡◌, ℕ, suc, ◌+◌, ◌<◌, ◌≤◌, true, ◌&&◌, None, List, [], ◌∷◌, ◌++◌, length, map, take, drop, get_or, reverse, refl, sym, ap, ◌∙◌, arith}
use Rattle.std.specs.Borrow.{Bor}
use Rattle.std.specs.List.{list_all, sum_by}
use Rattle.std.proofs.lemmas.Bool.{and_parts}
use Rattle.std.proofs.lemmas.List.{append-nil, append_assoc, drop_all, drop_more, length-drop, take_all, take_more, map-append, reverse-append}
use Rattle.std.proofs.lemmas.List.Folds.{list_all-append}
use Rattle.std.proofs.lemmas.List.Sums.{sum_by-append}
use Rattle.std.proofs.Math.Seq.{take-append_seam, drop-append_seam}
use Rattle.scasp_syntax.specs.Tm.{Tm, Tms, var, num, app, nil, cons, args_of, items, listed, weight, weight_s}
use Rattle.scasp_syntax.specs.Values.{Sub, under, all_under}
use Rattle.scasp_syntax.specs.View.{tm_of}
use Rattle.scasp_syntax.specs.WellFormed.{is_below}
use Rattle.scasp_syntax.specs.declared.term.Term.{Term}
use Rattle.scasp_syntax.proofs.TermLemmas.{listed-items}
use Rattle.scasp_bind.specs.declared.resolving.Head.{Head}
use Rattle.scasp_bind.specs.declared.resolving.Head.TheVariants as head
use Rattle.scasp_bind.specs.Inside.Heads.{assembled, head_of, heads_of, heads_of_each, terms_of, tops}
use Rattle.scasp_bind.specs.Resolving.{Binding, applied}
use Rattle.scasp_bind.specs.Inside.Soundness.{bound_to}
use Rattle.scasp_bind.proofs.ResolvingLemmas.{stays}
use Rattle.scasp_bind.proofs.WalkLemmas.{below-items, work-items}

-- ---- lists

pub reverse-last : {A : Type 0} (xs : List A) (x : A) → reverse (xs ++ x ∷ []) ≡ x ∷ reverse xs
reverse-last xs x = reverse-append xs (x ∷ [])

reverse-first : {A : Type 0} (x : A) (xs : List A) → reverse (x ∷ xs) ≡ reverse xs ++ x ∷ []
reverse-first x xs = reverse-append (x ∷ []) xs

pub tops-last : (ts : List Term) (t : Term) → tops (ts ++ t ∷ []) ≡ tm_of t ∷ tops ts
tops-last ts t = ap (map tm_of) (reverse-last ts t)

-- ---- what is still to be written down, the next term first

abbrev pub heads_under : Sub → List Tm → List Head
heads_under s [] = []
heads_under s (t ∷ ts) = heads_of (under s t) ++ heads_under s ts

-- the terms on the list, the next one first
abbrev pub left : List (Bor Term) → List Tm
left ts = reverse (terms_of ts)

pub left-last : (ts : List (Bor Term)) (t : Bor Term) → left (ts ++ t ∷ []) ≡ tm_of t.now ∷ left ts
left-last ts t = ap reverse (map-append (λ t. tm_of t.now) ts (t ∷ [])) ∙ reverse-last (terms_of ts) (tm_of t.now)

heads-each : (s : Sub) (ts : Tms) (rest : List Tm) → heads_under s (items ts ++ rest) ≡ heads_of_each (all_under s ts) ++ heads_under s rest
heads-each s nil rest = refl
heads-each s (cons t ts) rest = ap (λ hs. heads_of (under s t) ++ hs) (heads-each s ts rest) ∙ sym (append_assoc (heads_of (under s t)) (heads_of_each (all_under s ts)) (heads_under s rest))

count-under : (s : Sub) (ts : Tms) → length (items (all_under s ts)) ≡ length (items ts)
count-under s nil = refl
count-under s (cons t ts) = ap suc (count-under s ts)

-- a variable or a number was written down
pub leaf_written : (s : Sub) (hs : List Head) (h : Head) (t : Tm) (rest last : List Tm) (z : List Head) → last ≡ t ∷ rest → heads_of (under s t) ≡ h ∷ []
    → hs ++ heads_under s last ≡ z → (hs ++ h ∷ []) ++ heads_under s rest ≡ z
leaf_written s hs h t rest last z e g k =
    append_assoc hs (h ∷ []) (heads_under s rest) ∙ ap (λ l. hs ++ (l ++ heads_under s rest)) (sym g) ∙ ap (λ l. hs ++ heads_under s l) (sym e) ∙ k

-- a name was written down, and its arguments are next
pub name_written : (s : Sub) (hs : List Head) (f : ℕ) (ts : Tms) (t u : Tm) (rest last next : List Tm) (z : List Head) → last ≡ t ∷ rest → next ≡ items ts ++ rest → u ≡ app f ts → under s u ≡ under s t
    → hs ++ heads_under s last ≡ z → (hs ++ head.Name f (length (items ts)) ∷ []) ++ heads_under s next ≡ z
name_written s hs f ts t u rest last next z e g a h k =
    let top = head.Name f (length (items ts)) in
    let written : top ∷ heads_of_each (all_under s ts) ≡ heads_of (under s t) = ap (λ n. head.Name f n ∷ heads_of_each (all_under s ts)) (sym (count-under s ts)) ∙ ap (λ v. heads_of (under s v)) (sym a) ∙ ap heads_of h in
    append_assoc hs (top ∷ []) (heads_under s next)
    ∙ ap (λ l. hs ++ top ∷ l) (ap (heads_under s) g ∙ heads-each s ts rest)
    ∙ ap (λ l. hs ++ (l ++ heads_under s rest)) written
    ∙ ap (λ l. hs ++ heads_under s l) (sym e) ∙ k

pub leaf_below : (n : ℕ) (t : Tm) (rest last : List Tm) → last ≡ t ∷ rest → list_all (λ t. is_below n t) last ≡ true → (is_below n t ≡ true) × (list_all (λ t. is_below n t) rest ≡ true)
leaf_below n t rest last e k = and_parts (is_below n t) (list_all (λ t. is_below n t) rest) (ap (list_all (λ t. is_below n t)) (sym e) ∙ k)

-- the head of what a term leads to was written down, and its arguments are next
pub written : (n : ℕ) (b : Binding) (hs : List Head) (t u : Tm) (rest last next : List Tm) (z : List Head) → last ≡ t ∷ rest → next ≡ items (args_of u) ++ rest → under (applied n b) u ≡ under (applied n b) t
    → bound_to b u ≡ None → hs ++ heads_under (applied n b) last ≡ z → (hs ++ head_of u ∷ []) ++ heads_under (applied n b) next ≡ z
written n b hs t (var x) rest last next z e g h none k =
    ap (λ l. (hs ++ head.Var x ∷ []) ++ heads_under (applied n b) l) g
    ∙ leaf_written (applied n b) hs (head.Var x) t rest last z e (ap heads_of (sym h ∙ stays n b x none)) k
written n b hs t (num q) rest last next z e g h none k =
    ap (λ l. (hs ++ head.Num q ∷ []) ++ heads_under (applied n b) l) g ∙ leaf_written (applied n b) hs (head.Num q) t rest last z e (ap heads_of (sym h)) k
written n b hs t (app f ts) rest last next z e g h none k = name_written (applied n b) hs f ts t (app f ts) rest last next z e g refl h k

args-below : (n : ℕ) (t : Tm) → is_below n t ≡ true → list_all (λ u. is_below n u) (items (args_of t)) ≡ true
args-below n (var x) h = refl
args-below n (num q) h = refl
args-below n (app f ts) h = below-items n ts ∙ h

pub written_below : (n : ℕ) (t u : Tm) (rest last next : List Tm) → last ≡ t ∷ rest → next ≡ items (args_of u) ++ rest → is_below n u ≡ true → list_all (λ t. is_below n t) last ≡ true → list_all (λ t. is_below n t) next ≡ true
written_below n t u rest last next e g h k =
    ap (list_all (λ t. is_below n t)) g ∙ list_all-append (λ t. is_below n t) (items (args_of u)) rest
    ∙ ap (λ b. b && list_all (λ t. is_below n t) rest) (args-below n u h) ∙ (leaf_below n t rest last e k).1

abbrev pub heft : Sub → List Tm → ℕ
heft s ts = sum_by (λ t. weight (under s t)) ts

positive : (t : Tm) → 0 < weight t
positive (var x) = omega arith
positive (num q) = omega arith
positive (app f ts) = omega arith

pub leaf_lighter : (s : Sub) (t : Tm) (rest last : List Tm) → last ≡ t ∷ rest → heft s rest < heft s last
leaf_lighter s t rest last e = omega (arith, ap (heft s) e, sum_by-append (λ t. weight (under s t)) (t ∷ []) rest, positive (under s t))

pub name_lighter : (s : Sub) (f : ℕ) (ts : Tms) (t u : Tm) (rest last next : List Tm) → last ≡ t ∷ rest → next ≡ items ts ++ rest → u ≡ app f ts → under s u ≡ under s t → heft s next < heft s last
name_lighter s f ts t u rest last next e g a h =
    let heavy : weight (under s t) ≡ 1 + weight_s (all_under s ts) = ap weight (sym h) ∙ ap (λ v. weight (under s v)) a in
    omega (arith, ap (heft s) e, sum_by-append (λ t. weight (under s t)) (t ∷ []) rest, ap (heft s) g, sum_by-append (λ t. weight (under s t)) (items ts) rest, work-items s ts, heavy)

pub written_lighter : (s : Sub) (t u : Tm) (rest last next : List Tm) → last ≡ t ∷ rest → next ≡ items (args_of u) ++ rest → under s u ≡ under s t → heft s next < heft s last
written_lighter s t (var x) rest last next e g h = omega (arith, ap (heft s) g, leaf_lighter s t rest last e)
written_lighter s t (num q) rest last next e g h = omega (arith, ap (heft s) g, leaf_lighter s t rest last e)
written_lighter s t (app f ts) rest last next e g h = name_lighter s f ts t (app f ts) rest last next e g refl h

-- ---- the terms are built again

mutual
  pub again : (u : Tm) (rest : List Head) (ds : List Tm) → assembled (reverse (heads_of u) ++ rest) ds ≡ assembled rest (u ∷ ds)
  again (var x) rest ds = refl
  again (num q) rest ds = refl
  again (app f ts) rest ds =
      let top = head.Name f (length (items ts)) in
      ap (λ hs. assembled (hs ++ rest) ds) (reverse-first top (heads_of_each ts))
      ∙ ap (λ hs. assembled hs ds) (append_assoc (reverse (heads_of_each ts)) (top ∷ []) rest)
      ∙ each-again ts (top ∷ rest) ds
      ∙ ap (λ l. assembled rest (app f (listed l) ∷ drop (length (items ts)) (items ts ++ ds))) (take-append_seam (items ts) ds)
      ∙ ap (λ l. assembled rest (app f (listed (items ts)) ∷ l)) (drop-append_seam (items ts) ds)
      ∙ ap (λ l. assembled rest (app f l ∷ ds)) (listed-items ts)

  each-again : (us : Tms) (rest : List Head) (ds : List Tm) → assembled (reverse (heads_of_each us) ++ rest) ds ≡ assembled rest (items us ++ ds)
  each-again nil rest ds = refl
  each-again (cons u us) rest ds =
      ap (λ hs. assembled (hs ++ rest) ds) (reverse-append (heads_of u) (heads_of_each us))
      ∙ ap (λ hs. assembled hs ds) (append_assoc (reverse (heads_of_each us)) (reverse (heads_of u)) rest)
      ∙ each-again us (reverse (heads_of u) ++ rest) ds
      ∙ again u rest (items us ++ ds)

pub whole_again : (u : Tm) (hs : List Head) → hs ≡ heads_of u → assembled (reverse hs) [] ≡ u ∷ []
whole_again u hs e = ap (λ l. assembled (reverse l) []) e ∙ ap (λ l. assembled l []) (sym (append-nil (reverse (heads_of u)))) ∙ again u [] []

-- ---- the topmost terms become arguments

-- i of the topmost terms were taken, and one more is
pub one_taken : (i : ℕ) (all made ds : List Tm) (t : Tm) → made ≡ take i all → t ∷ ds ≡ drop i all → (made ++ t ∷ [] ≡ take (i + 1) all) × (ds ≡ drop (i + 1) all)
one_taken i all made ds t e f =
    let within : i < length all = omega (arith, ap length f, length-drop i all) in
    let both : t ∷ ds ≡ get_or all i t ∷ drop (i + 1) all = f ∙ drop_more all i t within in
    let first : t ≡ get_or all i t = cc in
    let rest : ds ≡ drop (i + 1) all = cc in
    (ap (λ l. l ++ t ∷ []) e ∙ ap (λ u. take i all ++ u ∷ []) first ∙ sym (take_more all i t within), rest)

-- none is left
pub none_taken : (i : ℕ) (all made : List Tm) → made ≡ take i all → [] ≡ drop i all → (made ≡ take (i + 1) all) × ([] ≡ drop (i + 1) all)
none_taken i all made e f =
    let past : length all ≤ i = omega (arith, ap length f, length-drop i all) in
    (e ∙ take_all i all past ∙ sym (take_all (i + 1) all (omega (arith, past))), sym (drop_all (i + 1) all (omega (arith, past))))
