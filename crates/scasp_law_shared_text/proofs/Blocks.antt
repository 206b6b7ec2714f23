-- A block with its copies: its lines, and what they stand for.
use Rattle.std.proofs.Common.{◌≡◌, ◌∙◌, ℕ, zero, suc, ◌+◌, ◌^◌, ◌<◌, ◌≤◌, Bool, true, false, not, ◌&&◌, List, [], ◌∷◌, ◌++◌, length, take, drop, codes, Option, None, Some, refl, sym, ap, subst, arith, append_assoc, append-nil, length-append}
use Rattle.std.specs.Prelude.{◌==◌, if◌then◌else◌, nat_le}
use Rattle.std.specs.List.{list_all, prefix_len, take_while}
use Rattle.std.specs.Option.{option_map}
use Rattle.std.specs.Str.{bytes_eq}
use Rattle.std.proofs.lemmas.Bool.{and_parts, not-true}
use Rattle.std.proofs.lemmas.List.{take-append-drop, length-drop}
use Rattle.std.proofs.lemmas.List.Folds.{length-prefix_len, list_all-append}
use Rattle.scasp_list.specs.Each.{Each}
use Rattle.scasp_copies.specs.Pieces.{Piece}
use Rattle.scasp_copies.specs.Copies.{copy_of, deeper_than, last_number, subtree}
use Rattle.scasp_copies.specs.Writing.{copy_line, is_copy_line, stands_for, written_behind, written_out}
use Rattle.scasp_print_shared.specs.Shared.{count_below, is_behind, is_copy, is_tree, least, least_copy, numbered, printed_line, shared_below, shared_block, shared_lines}
use Rattle.scasp_answers.specs.Blocks.Files.{told_behind}
use Rattle.scasp_law_copies.specs.Written.{told_past, written_lines}
use Rattle.scasp_law_copies.proofs.Copies.{front}
use Rattle.scasp_law_shared_text.proofs.Items.{each-append, each-front, each-behind}

-- ---- the parts of a block

pub numbered-parts : (ps : List Piece) → numbered ps ++ drop (length (numbered ps)) ps ≡ ps
numbered-parts ps =
    let f : Piece → Bool = λ p. not (is_behind p) in
    ap (λ m. take (prefix_len f ps) ps ++ drop m ps) (length-prefix_len f ps) ∙ take-append-drop (prefix_len f ps) ps

-- ---- the numbers of copies

least-within : (holds : ℕ → Bool) (n left k : ℕ) → least holds n left ≡ Some k → k < n + left
least-within holds n zero k e = cc
least-within holds n (suc left) k e = by (holds n) e (λ g. least-within holds (n + 1) left k g)
  where
    by : (t : Bool) → (if t then Some n else least holds (n + 1) left) ≡ Some k → (least holds (n + 1) left ≡ Some k → k < n + 1 + left) → k < n + suc left
    by true g ih = let same : n ≡ k = cc in omega (arith, same)
    by false g ih = omega (arith, ih g)

pub number-within : (told ps : List Piece) (n : ℕ) → least_copy told ps ≡ Some n → n ≤ length told
number-within told ps n e = by (nat_le 3 (length (subtree ps))) e
  where
    by : (t : Bool) → (if t then least (is_copy told ps) 1 (length told) else None) ≡ Some n → n ≤ length told
    by true g = omega (arith, least-within (is_copy told ps) 1 (length told) n g)
    by false g = cc

-- ---- what holds of each line, and of each copy

module _ (P : Piece → Type 0) (top : ℕ) (copies : (d n : ℕ) → n ≤ top → P (copy_line d n)) where
  below-each : (k : ℕ) (told ps : List Piece) → Each P ps → length told + length ps ≤ top → Each P (shared_below k told ps)
  below-each k told [] e h = tt
  below-each (suc k) told (p ∷ ps) e h = below-each k (told ++ p ∷ []) ps e.1 (omega (arith, h, length-append told (p ∷ [])))
  below-each zero told (p ∷ ps) e h = by (least_copy told (p ∷ ps)) refl (λ k. below-each k (told ++ p ∷ []) ps e.1 (omega (arith, h, length-append told (p ∷ []))))
    where
      Lines : Option ℕ → Type 0
      Lines o = Each P (printed_line p o ∷ shared_below (count_below p ps o) (told ++ p ∷ []) ps)

      by : (o : Option ℕ) → least_copy told (p ∷ ps) ≡ o → ((k : ℕ) → Each P (shared_below k (told ++ p ∷ []) ps)) → Each P (shared_below zero told (p ∷ ps))
      by None q rest = subst Lines (sym q) (e.0, rest 0)
      by (Some n) q rest = subst Lines (sym q) (copies p.depth n (omega (arith, h, number-within told (p ∷ ps) n q)), rest (length (deeper_than p.depth ps)))

  pub block-each : (ps : List Piece) → Each P ps → length ps ≤ top → Each P (shared_block ps)
  block-each [] e h = tt
  block-each (p ∷ ps) e h = (e.0, by (is_tree p) (block-each ps e.1 (omega (arith, h))))
    where
      parts : Each P (numbered ps ++ drop (length (numbered ps)) ps)
      parts = subst (Each P) (sym (numbered-parts ps)) e.1

      fits : length (numbered ps) ≤ top
      fits = omega (arith, h, ap length (numbered-parts ps), length-append (numbered ps) (drop (length (numbered ps)) ps))

      by : (t : Bool) → Each P (shared_block ps) → Each P (if t then shared_lines [] (numbered ps) ++ drop (length (numbered ps)) ps else shared_block ps)
      by true rest =
          each-append P (shared_lines [] (numbered ps)) (drop (length (numbered ps)) ps)
          (below-each 0 [] (numbered ps) (each-front P (numbered ps) (drop (length (numbered ps)) ps) parts) (omega (arith, fits)))
          (each-behind P (numbered ps) (drop (length (numbered ps)) ps) parts)
      by false rest = rest

abbrev pub HasNoCopy : List Piece → Type 0
HasNoCopy ps = list_all (λ p. not (is_copy_line p)) ps ≡ true

abbrev pub is_no_tree : Piece → Bool
is_no_tree p = not (bytes_eq p.words (codes "tree"))

abbrev pub HasNoTree : List Piece → Type 0
HasNoTree ps = list_all is_no_tree ps ≡ true

-- no second line `tree`
abbrev pub once : List Piece → Bool
once [] = true
once (p ∷ ps) = if is_tree p then list_all is_no_tree ps else once ps

all-parts : (f : Piece → Bool) (xs ys : List Piece) → list_all f (xs ++ ys) ≡ true → (list_all f xs ≡ true) × (list_all f ys ≡ true)
all-parts f xs ys e = and_parts (list_all f xs) (list_all f ys) (sym (list_all-append f xs ys) ∙ e)

-- ---- lines that are written out

pub line-out : (told : List Piece) (p : Piece) (ps qs : List Piece) → is_copy_line p ≡ false → written_lines (told_past told (p ∷ [])) ps ≡ Some qs → written_lines told (p ∷ ps) ≡ Some (p ∷ qs)
line-out told p ps qs plain e =
    let stands : stands_for told p ≡ Some (p ∷ []) = ap (λ (b : Bool). if b then copy_of (last_number p.words) p.depth told else Some (p ∷ [])) plain in
    ap (λ o. written_behind o (λ cs. written_lines (told_past told cs) ps)) stands ∙ ap (option_map (λ more. (p ∷ []) ++ more)) e

pub plain-written : (told ps : List Piece) → HasNoCopy ps → written_lines told ps ≡ Some ps
plain-written told [] h = refl
plain-written told (p ∷ ps) h =
    let k = and_parts (not (is_copy_line p)) (list_all (λ q. not (is_copy_line q)) ps) h in
    line-out told p ps ps (not-true (is_copy_line p) k.0) (plain-written (told_past told (p ∷ [])) ps k.1)

pub written-append : (told xs ys us vs : List Piece) → written_lines told xs ≡ Some us → ((t : List Piece) → written_lines t ys ≡ Some vs) → written_lines told (xs ++ ys) ≡ Some (us ++ vs)
written-append told [] ys us vs e f = let none : [] ≡ us = cc in f told ∙ ap (λ r. Some (r ++ vs)) none
written-append told (x ∷ xs) ys us vs e f =
    by (front (stands_for told x) (λ cs. written_lines (told_past told cs) xs) us e) (λ t more g. written-append t xs ys more vs g f)
  where
    by : ((cs : List Piece) × (more : List Piece) × (stands_for told x ≡ Some cs) × (written_lines (told_past told cs) xs ≡ Some more) × (cs ++ more ≡ us))
        → ((t more : List Piece) → written_lines t xs ≡ Some more → written_lines t (xs ++ ys) ≡ Some (more ++ vs))
        → written_lines told (x ∷ (xs ++ ys)) ≡ Some (us ++ vs)
    by (cs, more, stands, rest, all) onward =
        ap (λ o. written_behind o (λ ds. written_lines (told_past told ds) (xs ++ ys))) stands
        ∙ ap (option_map (λ ds. cs ++ ds)) (onward (told_past told cs) more rest)
        ∙ ap Some (sym (append_assoc cs more vs) ∙ ap (λ r. r ++ vs) all)

past-plain : (told cs : List Piece) → HasNoTree cs → told_past told cs ≡ told ++ cs
past-plain told [] h = sym (append-nil told)
past-plain told (c ∷ cs) h =
    let k = and_parts (is_no_tree c) (list_all is_no_tree cs) h in
    ap (λ t. told_past t cs) (ap (λ (b : Bool). if b then [] else told ++ c ∷ []) (not-true (bytes_eq c.words (codes "tree")) k.0))
    ∙ past-plain (told ++ c ∷ []) cs k.1
    ∙ append_assoc told (c ∷ []) cs

same-written : (told xs all : List Piece) → HasNoTree all → written_out told xs ≡ Some all → written_lines told xs ≡ Some all
same-written told [] all h e = e
same-written told (x ∷ xs) all h e =
    by (front (stands_for told x) (λ cs. written_out (told ++ cs) xs) all e) (λ t more g k. same-written t xs more g k)
  where
    by : ((cs : List Piece) × (more : List Piece) × (stands_for told x ≡ Some cs) × (written_out (told ++ cs) xs ≡ Some more) × (cs ++ more ≡ all))
        → ((t more : List Piece) → HasNoTree more → written_out t xs ≡ Some more → written_lines t xs ≡ Some more)
        → written_lines told (x ∷ xs) ≡ Some all
    by (cs, more, stands, rest, joined) onward =
        let trees = all-parts is_no_tree cs more (ap (list_all is_no_tree) joined ∙ h) in
        ap (λ o. written_behind o (λ ds. written_lines (told_past told ds) xs)) stands
        ∙ ap (option_map (λ ds. cs ++ ds)) (ap (λ t. written_lines t xs) (past-plain told cs trees.0) ∙ onward (told ++ cs) more trees.1 rest)
        ∙ ap Some joined

-- `law` is that the lines with their copies, written out, are the lines
module _ (law : (told ps : List Piece) → length told + length ps < 2 ^ 64 → HasNoCopy ps → written_out told (shared_lines told ps) ≡ Some ps) where
  pub block-written : (told ps : List Piece) → HasNoCopy ps → once ps ≡ true → length ps < 2 ^ 64 → written_lines told (shared_block ps) ≡ Some ps
  block-written told [] h o small = refl
  block-written told (p ∷ ps) h o small =
      by (is_tree p) refl o (λ t g. block-written t ps k.1 g (omega (arith, small)))
    where
      k : (not (is_copy_line p) ≡ true) × HasNoCopy ps
      k = and_parts (not (is_copy_line p)) (list_all (λ q. not (is_copy_line q)) ps) h

      plain : is_copy_line p ≡ false
      plain = not-true (is_copy_line p) k.0

      ns : List Piece
      ns = numbered ps

      others : List Piece
      others = drop (length (numbered ps)) ps

      behind : HasNoTree ps → written_lines [] (shared_lines [] ns ++ others) ≡ Some ps
      behind g =
          let parts = numbered-parts ps in
          let plains = all-parts (λ q. not (is_copy_line q)) ns others (ap (list_all (λ q. not (is_copy_line q))) parts ∙ k.1) in
          let trees = all-parts is_no_tree ns others (ap (list_all is_no_tree) parts ∙ g) in
          let few : 0 + length ns < 2 ^ 64 = omega (arith, small, ap length parts, length-append ns others) in
          written-append [] (shared_lines [] ns) others ns others (same-written [] (shared_lines [] ns) ns trees.0 (law [] ns few plains.0)) (λ t. plain-written t others plains.1)
          ∙ ap Some parts

      Block : Bool → List Piece
      Block t = p ∷ (if t then shared_lines [] ns ++ others else shared_block ps)

      by : (t : Bool) → is_tree p ≡ t → (if t then list_all is_no_tree ps else once ps) ≡ true → ((t : List Piece) → once ps ≡ true → written_lines t (shared_block ps) ≡ Some ps)
          → written_lines told (shared_block (p ∷ ps)) ≡ Some (p ∷ ps)
      by true q g onward =
          let begins : told_past told (p ∷ []) ≡ [] =
          ap (λ (b : Bool). if b then [] else told ++ p ∷ []) (and_parts (p.depth == 0) (bytes_eq p.words (codes "tree")) q).1 in
          ap (λ t. written_lines told (Block t)) q ∙ line-out told p (shared_lines [] ns ++ others) ps plain (ap (λ t. written_lines t (shared_lines [] ns ++ others)) begins ∙ behind g)
      by false q g onward = ap (λ t. written_lines told (Block t)) q ∙ line-out told p (shared_block ps) ps plain (onward (told_past told (p ∷ [])) g)
