-- A block with its copies is no longer than the block.
use Rattle.std.proofs.Common.{◌≡◌, ◌∙◌, ℕ, zero, suc, ◌+◌, ◌^◌, ◌<◌, ◌≤◌, Bool, true, false, cond, not, List, [], ◌∷◌, ◌++◌, length, take, drop, map, flat_map, replicate, codes, decimal, Option, None, Some, refl, sym, ap, subst, arith, lit<, length-append}
use Rattle.std.specs.Prelude.{if◌then◌else◌, nat_le, nat_lt}
use Rattle.std.specs.List.{prefix_len, take_while}
use Rattle.std.proofs.lemmas.Bool.{leb-true, ltb-true}
use Rattle.std.proofs.lemmas.Fmt.{length-decimal-le}
use Rattle.std.proofs.lemmas.List.{length-replicate, take-append-drop}
use Rattle.std.proofs.lemmas.List.Folds.{length-prefix_len}
use Rattle.std.proofs.lemmas.List.Sums.{take_while-cons}
use Rattle.std.proofs.lemmas.Grind.{flat_map-append}
use Rattle.scasp_list.specs.Each.{Each}
use Rattle.scasp_answers_terms.specs.Tokens.Lines.{ended, stopped, spent, overflow, Line, header_line, ending_line, rejected_line, answer_line, given_line, sample_line, tree_line, check_line, clash_line, map_line, end_line, pos_line, neg_line, loop_line, seen_line, test_line, rule_line, split_line, void_line, leaf_line, head_line, words_of}
use Rattle.scasp_answers.specs.Blocks.Files.{byte_limit}
use Rattle.scasp_copies.specs.Pieces.{Piece, piece_text}
use Rattle.scasp_copies.specs.Copies.{deeper_than, subtree}
use Rattle.scasp_copies.specs.Writing.{copy_line}
use Rattle.scasp_print_shared.specs.Shared.{count_below, is_copy, is_tree, least, least_copy, numbered, printed_line, shared_below, shared_block, shared_lines}
use Rattle.scasp_law_shared_text.proofs.Items.{each-front}
use Rattle.scasp_law_shared_text.proofs.Blocks.{numbered-parts, number-within}

-- ---- at least three bytes of words

abbrev pub is_long : List ℕ → Bool
is_long (a ∷ b ∷ c ∷ rest) = true
is_long _ = false

abbrev pub IsLong : Piece → Type 0
IsLong p = is_long p.words ≡ true

pub words-long : (names : List (List ℕ)) (l : Line) → is_long (words_of names l) ≡ true
unfolding words_of
words-long names (header_line v) = refl
words-long names (ending_line ended q) = refl
words-long names (ending_line stopped q) = refl
words-long names (ending_line spent q) = refl
words-long names (ending_line overflow q) = refl
words-long names (rejected_line q n at reason) = refl
words-long names (answer_line q n ts) = refl
words-long names (given_line c) = refl
words-long names (sample_line ts) = refl
words-long names tree_line = refl
words-long names (check_line k) = refl
words-long names (clash_line c) = refl
words-long names (map_line m) = refl
words-long names end_line = refl
words-long names (pos_line a rule ts) = refl
words-long names (neg_line a) = refl
words-long names (loop_line l n) = refl
words-long names (seen_line l n) = refl
words-long names (test_line c h) = refl
words-long names (rule_line k) = refl
words-long names (split_line c) = refl
words-long names (void_line h) = refl
words-long names (leaf_line k) = refl
words-long names head_line = refl

long-length : (w : List ℕ) → is_long w ≡ true → 3 ≤ length w
long-length [] e = cc
long-length (a ∷ []) e = cc
long-length (a ∷ b ∷ []) e = cc
long-length (a ∷ b ∷ c ∷ rest) e = omega arith

-- ---- the bytes of lines

abbrev pub size : List Piece → ℕ
size ps = length (flat_map piece_text ps)

size-cons : (p : Piece) (ps : List Piece) → size (p ∷ ps) ≡ length (piece_text p) + size ps
size-cons p ps = length-append (piece_text p) (flat_map piece_text ps)

size-append : (ps qs : List Piece) → size (ps ++ qs) ≡ size ps + size qs
size-append ps qs = ap length (flat_map-append piece_text ps qs) ∙ length-append (flat_map piece_text ps) (flat_map piece_text qs)

piece-size : (p : Piece) → length (piece_text p) ≡ p.depth + length p.words + 1
piece-size p =
    let blanks : List ℕ = replicate p.depth 32 in
    let feed : List ℕ = codes "\n" in
    omega (arith, length-append (blanks ++ p.words) feed, length-append blanks p.words, length-replicate {A = ℕ} p.depth 32)

copy-size : (d n : ℕ) → n ≤ byte_limit → length (piece_text (copy_line d n)) ≤ d + 14
copy-size d n h =
    let cap : byte_limit < 10 ^ 8 = lit< tt in
    let wide : byte_limit < 2 ^ 64 = lit< tt in
    let copy : List ℕ = codes "copy " in
    omega (arith, piece-size (copy_line d n), length-append copy (decimal n), length-decimal-le 8 n (omega arith) (omega (arith, h, cap)) (omega (arith, h, wide)))

-- two lines that are deeper
two-deep : (d : ℕ) (ps : List Piece) → Each IsLong ps → 2 ≤ length (deeper_than d ps) → d + d + 10 ≤ size (deeper_than d ps)
two-deep d [] e h = absurd (omega (arith, h))
two-deep d (a ∷ ps) e h = by (f a) refl (subst Enough (take_while-cons f a ps) h)
  where
    f : Piece → Bool
    f p = nat_lt d p.depth

    Enough : List Piece → Type 0
    Enough xs = 2 ≤ length xs

    Deep : List Piece → Type 0
    Deep xs = d + d + 10 ≤ size xs

    second : (qs : List Piece) → Each IsLong qs → d < a.depth → 1 ≤ length (take_while f qs) → d + d + 10 ≤ size (a ∷ take_while f qs)
    second [] k deep g = absurd (omega (arith, g))
    second (b ∷ qs) k deep g = more (f b) refl (subst (λ (xs : List Piece). 1 ≤ length xs) (take_while-cons f b qs) g)
      where
        more : (t : Bool) → f b ≡ t → 1 ≤ length (cond t (b ∷ take_while f qs) []) → d + d + 10 ≤ size (a ∷ take_while f (b ∷ qs))
        more true q r =
            let lines : take_while f (b ∷ qs) ≡ b ∷ take_while f qs = take_while-cons f b qs ∙ ap (λ t. cond t (b ∷ take_while f qs) []) q in
            let deep' : d < b.depth = ltb-true d b.depth q in
            subst (λ (xs : List Piece). d + d + 10 ≤ size (a ∷ xs)) (sym lines)
            (omega (arith, deep, deep', size-cons a (b ∷ take_while f qs), size-cons b (take_while f qs), piece-size a, piece-size b, long-length a.words e.0, long-length b.words k.0))
        more false q r = absurd (omega (arith, r))

    by : (t : Bool) → f a ≡ t → Enough (cond t (a ∷ take_while f ps) []) → Deep (deeper_than d (a ∷ ps))
    by true q g =
        let lines : take_while f (a ∷ ps) ≡ a ∷ take_while f ps = take_while-cons f a ps ∙ ap (λ t. cond t (a ∷ take_while f ps) []) q in
        subst Deep (sym lines) (second ps e.1 (ltb-true d a.depth q) (omega (arith, g)))
    by false q g = absurd (omega (arith, g))

deeper-parts : (d : ℕ) (ps : List Piece) → deeper_than d ps ++ drop (length (deeper_than d ps)) ps ≡ ps
deeper-parts d ps =
    let f : Piece → Bool = λ p. nat_lt d p.depth in
    ap (λ m. take (prefix_len f ps) ps ++ drop m ps) (length-prefix_len f ps) ∙ take-append-drop (prefix_len f ps) ps

-- a copy stands for three lines at least
three-lines : (told : List Piece) (p : Piece) (ps : List Piece) (n : ℕ) → least_copy told (p ∷ ps) ≡ Some n → 2 ≤ length (deeper_than p.depth ps)
three-lines told p ps n e = by (nat_le 3 (length (subtree (p ∷ ps)))) refl e
  where
    by : (t : Bool) → nat_le 3 (length (subtree (p ∷ ps))) ≡ t → (if t then least (is_copy told (p ∷ ps)) 1 (length told) else None) ≡ Some n → 2 ≤ length (deeper_than p.depth ps)
    by true q g = let three : 3 ≤ length (subtree (p ∷ ps)) = leb-true 3 (length (subtree (p ∷ ps))) q in omega (arith, three)
    by false q g = cc

-- ---- blocks

below-shorter : (k : ℕ) (told ps : List Piece) → Each IsLong ps → length told + length ps ≤ byte_limit → size (shared_below k told ps) ≤ size (drop k ps)
below-shorter k told [] e h = omega arith
below-shorter (suc k) told (p ∷ ps) e h = below-shorter k (told ++ p ∷ []) ps e.1 (omega (arith, h, length-append told (p ∷ [])))
below-shorter zero told (p ∷ ps) e h =
    by (least_copy told (p ∷ ps)) refl (λ k. below-shorter k (told ++ p ∷ []) ps e.1 (omega (arith, h, length-append told (p ∷ []))))
  where
    Shorter : Option ℕ → Type 0
    Shorter o = size (printed_line p o ∷ shared_below (count_below p ps o) (told ++ p ∷ []) ps) ≤ size (p ∷ ps)

    by : (o : Option ℕ) → least_copy told (p ∷ ps) ≡ o → ((k : ℕ) → size (shared_below k (told ++ p ∷ []) ps) ≤ size (drop k ps)) → size (shared_below zero told (p ∷ ps)) ≤ size (p ∷ ps)
    by None q rest = subst Shorter (sym q) (omega (arith, rest 0, size-cons p (shared_below 0 (told ++ p ∷ []) ps), size-cons p ps))
    by (Some n) q rest =
        let inner = deeper_than p.depth ps in
        let behind = shared_below (length inner) (told ++ p ∷ []) ps in
        let others = drop (length inner) ps in
        let number : n ≤ byte_limit = omega (arith, h, number-within told (p ∷ ps) n q) in
        let whole : size inner + size others ≡ size ps = sym (size-append inner others) ∙ ap size (deeper-parts p.depth ps) in
        subst Shorter (sym q)
        (omega (
          arith,
          rest (length inner),
          size-cons (copy_line p.depth n) behind,
          size-cons p ps,
          whole,
          copy-size p.depth n number,
          two-deep p.depth ps e.1 (three-lines told p ps n q),
          piece-size p,
          long-length p.words e.0,
        ))

pub block-shorter : (ps : List Piece) → Each IsLong ps → length ps ≤ byte_limit → size (shared_block ps) ≤ size ps
block-shorter [] e h = omega arith
block-shorter (p ∷ ps) e h = by (is_tree p) (block-shorter ps e.1 (omega (arith, h)))
  where
    ns : List Piece
    ns = numbered ps

    others : List Piece
    others = drop (length (numbered ps)) ps

    by : (t : Bool) → size (shared_block ps) ≤ size ps → size (p ∷ (if t then shared_lines [] ns ++ others else shared_block ps)) ≤ size (p ∷ ps)
    by true rest =
        let parts = numbered-parts ps in
        let long : Each IsLong ns = each-front IsLong ns others (subst (Each IsLong) (sym parts) e.1) in
        let few : 0 + length ns ≤ byte_limit = omega (arith, h, ap length parts, length-append ns others) in
        let whole : size ns + size others ≡ size ps = sym (size-append ns others) ∙ ap size parts in
        omega (arith, below-shorter 0 [] ns long few, size-cons p (shared_lines [] ns ++ others), size-append (shared_lines [] ns) others, size-cons p ps, whole)
    by false rest = omega (arith, rest, size-cons p (shared_block ps), size-cons p ps)
