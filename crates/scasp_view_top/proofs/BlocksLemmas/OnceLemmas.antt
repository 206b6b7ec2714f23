-- Which blocks are shown once, and which are left out.
use Rattle.std.proofs.Common.{◌≡◌, ℕ, ◌+◌, Bool, true, false, ◌||◌, List, [], ◌∷◌, ◌++◌, length, map, flat_map, refl, sym, ap, subst, ◌∙◌, arith, append_assoc}
use Rattle.std.specs.List.{list_any}
use Rattle.std.specs.Str.{bytes_eq}
use Rattle.std.proofs.lemmas.List.Folds.{list_any-append}
use Rattle.std.proofs.lemmas.Slice.Eq.{bytes_eq-Decides}
use Rattle.scasp_list.specs.Each.{Each}
use Rattle.scasp_view_top.specs.Blocks.Blocks.{block_text, is_seen, repeated, shown_text}
use Rattle.scasp_view_top.specs.Blocks.Judgements.{Judgement, key_of}
use Rattle.scasp_view_top.specs.Blocks.Meaning.{HasKey, fresh}
use Rattle.scasp_view_top.specs.Trees.Settings.{Setting}

shown-first : (s : Setting) (checks : Bool) (seen : List (List ℕ)) (js : List Judgement)
    → shown_text s checks seen js ≡ flat_map (block_text s checks) (fresh s.names seen js)
shown-first s checks seen [] = refl
shown-first s checks seen (j ∷ js) =
    by (is_seen s.names seen j) refl (shown-first s checks seen js) (shown-first s checks (seen ++ key_of s.names j ∷ []) js)
  where
    by : (b : Bool) → is_seen s.names seen j ≡ b → shown_text s checks seen js ≡ flat_map (block_text s checks) (fresh s.names seen js)
        → shown_text s checks (seen ++ key_of s.names j ∷ []) js ≡ flat_map (block_text s checks) (fresh s.names (seen ++ key_of s.names j ∷ []) js)
        → shown_text s checks seen (j ∷ js) ≡ flat_map (block_text s checks) (fresh s.names seen (j ∷ js))
    by true e same more = rw e same
    by false e same more = rw e (ap (λ (text : List ℕ). block_text s checks j ++ text) more)

pub shows-the-first : (s : Setting) (checks : Bool) (js : List Judgement) → shown_text s checks [] js ≡ flat_map (block_text s checks) (fresh s.names [] js)
shows-the-first s checks js = shown-first s checks [] js

counted : (names seen : List (List ℕ)) (js : List Judgement) → length (fresh names seen js) + repeated names seen js ≡ length js
counted names seen [] = refl
counted names seen (j ∷ js) = by (is_seen names seen j) refl (counted names seen js) (counted names (seen ++ key_of names j ∷ []) js)
  where
    by : (b : Bool) → is_seen names seen j ≡ b → length (fresh names seen js) + repeated names seen js ≡ length js
        → length (fresh names (seen ++ key_of names j ∷ []) js) + repeated names (seen ++ key_of names j ∷ []) js ≡ length js
        → length (fresh names seen (j ∷ js)) + repeated names seen (j ∷ js) ≡ length (j ∷ js)
    by true e same more = rw e (omega (arith, same))
    by false e same more = rw e (omega (arith, more))

pub counts-the-others : (names : List (List ℕ)) (js : List Judgement) → length (fresh names [] js) + repeated names [] js ≡ length js
counts-the-others names js = counted names [] js

or-true : (a : Bool) → (a || true) ≡ true
or-true true = refl
or-true false = refl

-- a key among those seen, and one behind them
before-has : (seen more : List (List ℕ)) (k : List ℕ) → list_any (bytes_eq k) seen ≡ true → list_any (bytes_eq k) (seen ++ more) ≡ true
before-has seen more k h = list_any-append (bytes_eq k) seen more ∙ ap (λ (b : Bool). b || list_any (bytes_eq k) more) h

here-has : (seen more : List (List ℕ)) (k : List ℕ) → list_any (bytes_eq k) (seen ++ k ∷ more) ≡ true
here-has seen more k =
    list_any-append (bytes_eq k) seen (k ∷ more)
    ∙ ap (λ (b : Bool). list_any (bytes_eq k) seen || (b || list_any (bytes_eq k) more)) ((bytes_eq-Decides k k).1 refl)
    ∙ or-true (list_any (bytes_eq k) seen)

fresh-seen : (names seen : List (List ℕ)) (j : Judgement) (js : List Judgement) → is_seen names seen j ≡ true → fresh names seen (j ∷ js) ≡ fresh names seen js
fresh-seen names seen j js e = rw e refl

fresh-unseen : (names seen : List (List ℕ)) (j : Judgement) (js : List Judgement) → is_seen names seen j ≡ false
    → fresh names seen (j ∷ js) ≡ j ∷ fresh names (seen ++ key_of names j ∷ []) js
fresh-unseen names seen j js e = rw e refl

-- each block has a key that was seen, or is that of one that is shown
covered : (names seen : List (List ℕ)) (js : List Judgement) → Each (HasKey names (seen ++ map (key_of names) (fresh names seen js))) js
covered names seen [] = tt
covered names seen (j ∷ js) = by (is_seen names seen j) refl (covered names seen js) (covered names (seen ++ key_of names j ∷ []) js)
  where
    by : (b : Bool) → is_seen names seen j ≡ b
        → Each (HasKey names (seen ++ map (key_of names) (fresh names seen js))) js
        → Each (HasKey names ((seen ++ key_of names j ∷ []) ++ map (key_of names) (fresh names (seen ++ key_of names j ∷ []) js))) js
        → Each (HasKey names (seen ++ map (key_of names) (fresh names seen (j ∷ js)))) (j ∷ js)
    by true e same more =
        subst (λ (shown : List Judgement). Each (HasKey names (seen ++ map (key_of names) shown)) (j ∷ js)) (sym (fresh-seen names seen j js e))
        (before-has seen (map (key_of names) (fresh names seen js)) (key_of names j) e, same)
    by false e same more =
        let others : List (List ℕ) = map (key_of names) (fresh names (seen ++ key_of names j ∷ []) js) in
        subst (λ (shown : List Judgement). Each (HasKey names (seen ++ map (key_of names) shown)) (j ∷ js)) (sym (fresh-unseen names seen j js e)) (
          here-has seen others (key_of names j),
          subst (λ (keys : List (List ℕ)). Each (HasKey names keys) js) (append_assoc seen (key_of names j ∷ []) others) more,
        )

pub left-out-is-shown : (names : List (List ℕ)) (js : List Judgement) → Each (HasKey names (map (key_of names) (fresh names [] js))) js
left-out-is-shown names js = covered names [] js
