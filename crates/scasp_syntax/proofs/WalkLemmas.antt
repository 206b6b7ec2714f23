-- Lists of terms, one behind the other, and what is left of a walk.
use Rattle.std.specs.Borrow.{Bor}
use Rattle.std.proofs.Common.{◌≡◌, ◌+◌, List, [], ◌∷◌, ◌++◌, length, refl, ap, sym, ◌∙◌, arith}
use Rattle.std.proofs.lemmas.List.{nil_from_length}
use Rattle.scasp_syntax.specs.Tm.{Tm, Tms, nil, cons, pushed, weight_s}
use Rattle.scasp_syntax.specs.View.{tm_of, tms_of}
use Rattle.scasp_syntax.specs.Walks.{onto, waiting}
use Rattle.scasp_syntax.specs.declared.term.Term.{Term}

pub onto-nil : (ts : Tms) → onto ts nil ≡ ts
onto-nil nil = refl
onto-nil (cons t ts) = ap (cons t) (onto-nil ts)

pub onto-pushed : (ts : Tms) (t : Tm) (us : Tms) → onto (pushed ts t) us ≡ onto ts (cons t us)
onto-pushed nil t us = refl
onto-pushed (cons u ts) t us = ap (cons u) (onto-pushed ts t us)

onto-onto : (ts us vs : Tms) → onto (onto ts us) vs ≡ onto ts (onto us vs)
onto-onto nil us vs = refl
onto-onto (cons t ts) us vs = ap (cons t) (onto-onto ts us vs)

pub onto-weight : (ts us : Tms) → weight_s (onto ts us) ≡ weight_s ts + weight_s us
onto-weight nil us = omega arith
onto-weight (cons t ts) us = omega (arith, onto-weight ts us)

waiting-pushed : (ls : List (Bor (List Term))) (l : Bor (List Term)) → waiting (ls ++ l ∷ []) ≡ onto (tms_of l.now) (waiting ls)
waiting-pushed [] l = sym (onto-nil (tms_of l.now))
waiting-pushed (k ∷ ls) l = ap (λ ts. onto ts (tms_of k.now)) (waiting-pushed ls l) ∙ onto-onto (tms_of l.now) (waiting ls) (tms_of k.now)

-- a list is over, and the last one that waits comes next
pub next_list : (list : List Term) (ls fewer : List (Bor (List Term))) (l : Bor (List Term)) (z : Tms) → length list ≡ 0 → ls ≡ fewer ++ l ∷ []
    → onto (tms_of list) (waiting ls) ≡ z → onto (tms_of l.now) (waiting fewer) ≡ z
next_list list ls fewer l z n e i =
    sym (waiting-pushed fewer l) ∙ ap waiting (sym e) ∙ ap (λ ts. onto (tms_of ts) (waiting ls)) (sym (nil_from_length list n)) ∙ i

-- a list has a first term
pub first_there : (list left : List Term) (t : Term) (ls : List (Bor (List Term))) (z : Tms) → list ≡ t ∷ left
    → onto (tms_of list) (waiting ls) ≡ z → z ≡ cons (tm_of t) (onto (tms_of left) (waiting ls))
first_there list left t ls z e i = sym i ∙ ap (λ ts. onto (tms_of ts) (waiting ls)) e

-- all lists are over
pub none_there : (list : List Term) (ls : List (Bor (List Term))) (z : Tms) → length list ≡ 0 → length ls ≡ 0
    → onto (tms_of list) (waiting ls) ≡ z → z ≡ nil
none_there list ls z n m i = sym i ∙ (λ j. onto (tms_of (nil_from_length list n j)) (waiting (nil_from_length ls m j)))

-- terms come next, and a list waits
pub one_waits : (ts us : Tms) (here : Bor (List Term)) (ls more : List (Bor (List Term))) → us ≡ ts → more ≡ ls ++ here ∷ []
    → onto us (waiting more) ≡ onto ts (onto (tms_of here.now) (waiting ls))
one_waits ts us here ls more u m = (λ j. onto (u j) (waiting (m j))) ∙ ap (onto ts) (waiting-pushed ls here)

-- terms come next, and nothing was left
pub none_waits : (ts us : Tms) (here : List Term) (ls more : List (Bor (List Term))) → us ≡ ts → length here ≡ 0 → more ≡ ls
    → onto us (waiting more) ≡ onto ts (onto (tms_of here) (waiting ls))
none_waits ts us here ls more u n m = (λ j. onto (u j) (waiting (m j))) ∙ ap (λ hs. onto ts (onto (tms_of hs) (waiting ls))) (sym (nil_from_length here n))
