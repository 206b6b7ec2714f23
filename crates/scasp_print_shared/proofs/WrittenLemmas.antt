-- The lines with their copies, written out, are the lines.
use Rattle.std.proofs.Common.{◌≡◌, ◌∙◌, ℕ, zero, suc, ◌+◌, ◌-◌, ◌*◌, ◌/◌, ◌%◌, ◌^◌, ◌<◌, ◌≤◌, Bool, true, false, not, List, [], ◌∷◌, ◌++◌, length, take, drop, Option, None, Some, refl, sym, ap, arith, append_assoc, append-nil, decimal}
use Rattle.std.specs.Prelude.{nat_lt, nat_le, codes}
use Rattle.std.specs.List.{list_all}
use Rattle.std.specs.Option.{option_map}
use Rattle.std.proofs.lemmas.Bool.{true≢false, and_parts, cond-true, cond-false, not-true}
use Rattle.std.proofs.lemmas.Fmt.{decimal_by_steps}
use Rattle.std.proofs.lemmas.List.{length-append, length-drop, take-append-drop}
use Rattle.std.proofs.lemmas.List.Folds.{length-prefix_len}
use Rattle.scasp_copies.specs.Copies.{copy_of, deeper_than, last_number, subtree}
use Rattle.scasp_copies.specs.Pieces.{Piece}
use Rattle.scasp_copies.specs.Writing.{copy_line, is_copy_line, stands_for, written_behind, written_out}
use Rattle.scasp_print_shared.specs.Shared.{are_lines, count_below, is_copy, least, least_copy, printed_line, shared_below}
use Rattle.scasp_reader_tokens.specs.Numbers.{digits_value}
use Rattle.scasp_reader_tokens.proofs.NumberLemmas.{digits_value-append}
use Rattle.scasp_print_shared.proofs.CopyLemmas.{same-are}
use Rattle.scasp_print_shared.proofs.RootLemmas.{subtree-within}
use Rattle.scasp_print_shared.proofs.WordLemmas.{decimal-digits, last-behind}

-- ---- the number of a copy

abbrev Spells : ℕ → List ℕ → Type 0
Spells n ds = digits_value 0 ds ≡ n

one-digit : (n : ℕ) → n < 10 → Spells n ((48 + n) ∷ [])
one-digit n h = omega arith

more-digits : (n : ℕ) (ds : List ℕ) → 10 ≤ n → Spells (n / 10) ds → Spells n (ds ++ (48 + n % 10) ∷ [])
more-digits n ds h s =
    let value : 10 * (n / 10) + (48 + n % 10 - 48) ≡ n = omega arith in
    digits_value-append 0 ds ((48 + n % 10) ∷ []) ∙ ap (λ v. 10 * v + (48 + n % 10 - 48)) s ∙ value

copy-number : (depth n : ℕ) → n < 2 ^ 64 → last_number (copy_line depth n).words ≡ n
copy-number depth n h =
    ap (digits_value 0) (last-behind (codes "copy ") (decimal n) refl (decimal-digits n h)) ∙ decimal_by_steps Spells one-digit more-digits n h

-- ---- the least

least-holds : (holds : ℕ → Bool) (n left k : ℕ) → least holds n left ≡ Some k → (holds k ≡ true) × (k < n + left)
least-holds holds n zero k e = cc
least-holds holds n (suc left) k e = by (holds n) refl (λ g. least-holds holds (n + 1) left k g)
  where
    by : (t : Bool) → holds n ≡ t → (least holds (n + 1) left ≡ Some k → (holds k ≡ true) × (k < n + 1 + left)) → (holds k ≡ true) × (k < n + suc left)
    by true p ih =
        let s : Some n ≡ Some k = sym (cond-true (holds n) (Some n) (least holds (n + 1) left) p) ∙ e in
        let same : n ≡ k = cc in
        (ap holds (sym same) ∙ p, omega (arith, same))
    by false p ih =
        let r = ih (sym (cond-false (holds n) (Some n) (least holds (n + 1) left) p) ∙ e) in
        let b = r.1 in
        (r.0, omega (arith, b))

given : (o : Option (List Piece)) (ps : List Piece) → are_lines o ps ≡ true → o ≡ Some ps
given None ps e = absurd (true≢false (sym e))
given (Some qs) ps e = ap Some (same-are qs ps e)

-- what the least copy stands for
least-is : (told : List Piece) (p : Piece) (ps : List Piece) (n : ℕ) → least_copy told (p ∷ ps) ≡ Some n → (copy_of n p.depth told ≡ Some (subtree (p ∷ ps))) × (n ≤ length told)
least-is told p ps n e = by (nat_le 3 (length (subtree (p ∷ ps)))) refl
  where
    by : (t : Bool) → nat_le 3 (length (subtree (p ∷ ps))) ≡ t → (copy_of n p.depth told ≡ Some (subtree (p ∷ ps))) × (n ≤ length told)
    by true q =
        let r = least-holds (is_copy told (p ∷ ps)) 1 (length told) n (sym (cond-true (nat_le 3 (length (subtree (p ∷ ps)))) (least (is_copy told (p ∷ ps)) 1 (length told)) None q) ∙ e) in
        (given (copy_of n p.depth told) (subtree (p ∷ ps)) r.0, omega (arith, r.1))
    by false q =
        let s : None ≡ Some n = sym (cond-false (nat_le 3 (length (subtree (p ∷ ps)))) (least (is_copy told (p ∷ ps)) 1 (length told)) None q) ∙ e in
        cc

-- ---- lines that are left out

behind-left-out : (k : ℕ) (told ps : List Piece) → shared_below k told ps ≡ shared_below 0 (told ++ take k ps) (drop k ps)
behind-left-out zero told ps = ap (λ z. shared_below 0 z ps) (sym (append-nil told))
behind-left-out (suc k) told [] = refl
behind-left-out (suc k) told (p ∷ ps) =
    behind-left-out k (told ++ p ∷ []) ps ∙ ap (λ z. shared_below 0 z (drop k ps)) (append_assoc told (p ∷ []) (take k ps))

deeper-front : (d : ℕ) (ps : List Piece) → take (length (deeper_than d ps)) ps ≡ deeper_than d ps
deeper-front d ps = let f : Piece → Bool = λ x. nat_lt d x.depth in ap (λ n. take n ps) (length-prefix_len f ps)

-- ---- the lines written out

abbrev pub HasNoCopy : List Piece → Type 0
HasNoCopy ps = list_all (λ p. not (is_copy_line p)) ps ≡ true

no-copy-drop : (k : ℕ) (ps : List Piece) → HasNoCopy ps → HasNoCopy (drop k ps)
no-copy-drop zero ps h = h
no-copy-drop (suc k) [] h = refl
no-copy-drop (suc k) (p ∷ ps) h = no-copy-drop k ps (and_parts (not (is_copy_line p)) (list_all (λ x. not (is_copy_line x)) ps) h).1

-- what is written out of a printed line, and of those behind it
line-out : (told : List Piece) (q : Piece) (qs sub ps : List Piece) → stands_for told q ≡ Some sub → written_out (told ++ sub) qs ≡ Some ps → written_out told (q ∷ qs) ≡ Some (sub ++ ps)
line-out told q qs sub ps e h =
    ap (λ o. written_behind o (λ zs. written_out (told ++ zs) qs)) e ∙ ap (option_map (λ zs. sub ++ zs)) h

plain-stands : (told : List Piece) (p : Piece) → not (is_copy_line p) ≡ true → stands_for told p ≡ Some (p ∷ [])
plain-stands told p h = cond-false (is_copy_line p) (copy_of (last_number p.words) p.depth told) (Some (p ∷ [])) (not-true (is_copy_line p) h)

copy-stands : (told : List Piece) (depth n : ℕ) (sub : List Piece) → n < 2 ^ 64 → copy_of n depth told ≡ Some sub → stands_for told (copy_line depth n) ≡ Some sub
copy-stands told depth n sub small e =
    ap (λ k. copy_of k depth told) (copy-number depth n small) ∙ e

abbrev printed : List Piece → Piece → List Piece → Option ℕ → List Piece
printed told p ps o = printed_line p o ∷ shared_below (count_below p ps o) (told ++ p ∷ []) ps

written-upto : (size : ℕ) (told ps : List Piece) → length ps ≤ size → length told + length ps < 2 ^ 64 → HasNoCopy ps → written_out told (shared_below 0 told ps) ≡ Some ps
written-upto size told [] h small plain = refl
written-upto zero told (p ∷ ps) h small plain = absurd (omega (arith, h))
written-upto (suc size) told (p ∷ ps) h small plain =
    by (least_copy told (p ∷ ps)) refl
    (written-upto size (told ++ p ∷ []) ps (omega (arith, h)) (omega (arith, small, length-append told (p ∷ []))) plains.1)
    (written-upto size (told ++ p ∷ deeper_than p.depth ps) (drop (length (deeper_than p.depth ps)) ps)
    (omega (arith, h, length-drop (length (deeper_than p.depth ps)) ps))
    (omega (arith, small, length-append told (p ∷ deeper_than p.depth ps), length-drop (length (deeper_than p.depth ps)) ps, subtree-within (p ∷ ps)))
    (no-copy-drop (length (deeper_than p.depth ps)) ps plains.1))
  where
    plains : (not (is_copy_line p) ≡ true) × (list_all (λ x. not (is_copy_line x)) ps ≡ true)
    plains = and_parts (not (is_copy_line p)) (list_all (λ x. not (is_copy_line x)) ps) plain

    by : (o : Option ℕ) → least_copy told (p ∷ ps) ≡ o
        → written_out (told ++ p ∷ []) (shared_below 0 (told ++ p ∷ []) ps) ≡ Some ps
        → written_out (told ++ p ∷ deeper_than p.depth ps) (shared_below 0 (told ++ p ∷ deeper_than p.depth ps) (drop (length (deeper_than p.depth ps)) ps)) ≡ Some (drop (length (deeper_than p.depth ps)) ps)
        → written_out told (shared_below 0 told (p ∷ ps)) ≡ Some (p ∷ ps)
    by None e plainly copied =
        ap (λ o. written_out told (printed told p ps o)) e
        ∙ line-out told p (shared_below 0 (told ++ p ∷ []) ps) (p ∷ []) ps (plain-stands told p plains.0) plainly
    by (Some n) e plainly copied =
        let inner = deeper_than p.depth ps in
        let rest = drop (length inner) ps in
        let least = least-is told p ps n e in
        let number : n < 2 ^ 64 = omega (arith, least.1, small) in
        let told-now : (told ++ p ∷ []) ++ take (length inner) ps ≡ told ++ p ∷ inner =
        append_assoc told (p ∷ []) (take (length inner) ps) ∙ ap (λ z. told ++ p ∷ z) (deeper-front p.depth ps) in
        let behind : shared_below (length inner) (told ++ p ∷ []) ps ≡ shared_below 0 (told ++ p ∷ inner) rest =
        behind-left-out (length inner) (told ++ p ∷ []) ps ∙ ap (λ z. shared_below 0 z rest) told-now in
        let all : inner ++ rest ≡ ps = ap (λ z. z ++ rest) (sym (deeper-front p.depth ps)) ∙ take-append-drop (length inner) ps in
        ap (λ o. written_out told (printed told p ps o)) e
        ∙ line-out told (copy_line p.depth n) (shared_below (length inner) (told ++ p ∷ []) ps) (subtree (p ∷ ps)) rest
        (copy-stands told p.depth n (subtree (p ∷ ps)) number least.0)
        (ap (written_out (told ++ p ∷ inner)) behind ∙ copied)
        ∙ ap (λ z. Some (p ∷ z)) all

-- the printed lines, written out, are the lines
pub written : (told ps : List Piece) → length told + length ps < 2 ^ 64 → HasNoCopy ps → written_out told (shared_below 0 told ps) ≡ Some ps
written told ps small plain = written-upto (length ps) told ps (omega arith) small plain
