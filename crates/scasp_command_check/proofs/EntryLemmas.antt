-- The lines of the first entries, and of one more.
use Rattle.std.proofs.Common.{◌≡◌, ◌∙◌, ℕ, ◌+◌, ◌<◌, Bool, true, false, Option, Err, List, [], ◌∷◌, ◌++◌, length, map, take, drop, get_or, refl, sym, ap, subst, append-nil, append_assoc, length-append}
use Rattle.std.specs.Prelude.{if◌then◌else◌, ◌&&◌}
use Rattle.std.specs.List.{concat, list_all}
use Rattle.std.proofs.lemmas.List.{drop_more, map-append, map_more, take-append-drop}
use Rattle.std.proofs.lemmas.List.Concat.{flat_map-append}
use Rattle.std.proofs.lemmas.List.Folds.{list_all-append}
use Rattle.scasp_syntax.specs.declared.program.Program.{Program}
use Rattle.scasp_answers.specs.Blocks.States as states
use Rattle.scasp_io.specs.Bytes.{behind, TakesPrefix}
use Rattle.scasp_io.specs.Inside.Behind.{TakesPrefix-append}
use Rattle.scasp_io.specs.declared.errors.OutputErr.{OutputErr}
use Rattle.scasp_io.specs.declared.errors.OutputErr.TheVariants as error
use Rattle.scasp_command_check.specs.Inside.{tally_of, with_entry, Took, TookBytes}
use Rattle.scasp_command_check.specs.Texts.{block_lines, checked_line, entry_lines, passes, recheck_text, rechecked_of}
use Rattle.scasp_command_check.specs.declared.checking.Tally.{Tally}
use Rattle.scasp_command_check.specs.declared.checking.Rechecked.{Rechecked}
use Rattle.scasp_command_check.specs.declared.checking.Rechecked.TheVariants.{Accepted, Refused}
use Rattle.scasp_command_check.proofs.TookLemmas.{both-taken, stops-behind}

lines-append : (p : Program) (es fs : List states.Entry) → block_lines p (es ++ fs) ≡ block_lines p es ++ block_lines p fs
lines-append p es fs = flat_map-append (entry_lines p) es fs

-- one entry more
pub lines-more : (p : Program) (es : List states.Entry) (e : states.Entry) → block_lines p (es ++ e ∷ []) ≡ block_lines p es ++ entry_lines p e
lines-more p es e = lines-append p es (e ∷ []) ∙ ap (λ ls. block_lines p es ++ ls) (append-nil (entry_lines p e))

-- those before an entry, its own, and those behind
pub lines-around : (p : Program) (es : List states.Entry) (e : states.Entry) (fs : List states.Entry)
    → block_lines p (es ++ e ∷ fs) ≡ (block_lines p es ++ entry_lines p e) ++ block_lines p fs
lines-around p es e fs = lines-append p es (e ∷ fs) ∙ sym (append_assoc (block_lines p es) (entry_lines p e) (block_lines p fs))

passes-more : (p : Program) (es : List states.Entry) (e : states.Entry) → rechecked_of p (es ++ e ∷ []) ≡ (if passes p e then rechecked_of p es else Refused)
passes-more p es e = ap whole (list_all-append (passes p) es (e ∷ [])) ∙ by (list_all (passes p) es) (passes p e)
  where
    whole : Bool → Rechecked
    whole b = if b then Accepted else Refused

    by : (a b : Bool) → whole (a && (b && true)) ≡ (if b then whole a else Refused)
    by true true = refl
    by true false = refl
    by false true = refl
    by false false = refl

tally : ℕ → Rechecked → Tally
tally n r = record { blocks = n; rechecked = r }

pub tally-more : (p : Program) (es : List states.Entry) (e : states.Entry) → tally_of p (es ++ e ∷ []) ≡ with_entry p (tally_of p es) e
unfolding tally
tally-more p es e =
    let n : length (block_lines p (es ++ e ∷ [])) ≡ length (block_lines p es) + length (entry_lines p e) =
    ap length (lines-more p es e) ∙ length-append (block_lines p es) (entry_lines p e) in
    ap (λ m. tally m (rechecked_of p (es ++ e ∷ []))) n ∙ ap (tally (length (block_lines p es) + length (entry_lines p e))) (passes-more p es e)

-- ---- at an entry of the list, which is seen through f

module _ (X : Type 0) (p : Program) (f : X → states.Entry) (xs : List X) (i : ℕ) (x : X) (below : i < length xs) (is : x ≡ get_or xs i x) where
  -- the first entries and this one
  first-more : map f (take (i + 1) xs) ≡ map f (take i xs) ++ f x ∷ []
  first-more = map_more f xs i x below ∙ ap (λ y. map f (take i xs) ++ f y ∷ []) (sym is)

  -- the first entries, this one, and those behind
  all-around : map f xs ≡ map f (take i xs) ++ f x ∷ map f (drop (i + 1) xs)
  all-around =
      ap (map f) (sym (take-append-drop i xs) ∙ ap (λ ys. take i xs ++ ys) (drop_more xs i x below ∙ ap (λ y. y ∷ drop (i + 1) xs) (sym is)))
      ∙ map-append f (take i xs) (x ∷ drop (i + 1) xs)

  pub tally-next : (t u : Tally) → t ≡ tally_of p (map f (take i xs)) → u ≡ with_entry p t (f x) → u ≡ tally_of p (map f (take (i + 1) xs))
  tally-next t u e h =
      h ∙ ap (λ v. with_entry p v (f x)) e ∙ sym (tally-more p (map f (take i xs)) (f x)) ∙ ap (tally_of p) (sym first-more)

  pub taken-next : (old mid new : Option (List ℕ)) → mid ≡ behind old (concat (block_lines p (map f (take i xs)))) → new ≡ behind mid (concat (entry_lines p (f x)))
      → new ≡ behind old (concat (block_lines p (map f (take (i + 1) xs))))
  taken-next old mid new e h =
      both-taken old mid new (block_lines p (map f (take i xs))) (entry_lines p (f x)) e h
      ∙ ap (λ ls. behind old (concat ls)) (sym (ap (block_lines p) first-more ∙ lines-more p (map f (take i xs)) (f x)))

  -- writing stops within the line of this entry
  pub stops-here : (all : List X) (old mid new : Option (List ℕ)) (e : OutputErr) → xs ≡ all → mid ≡ behind old (concat (block_lines p (map f (take i xs))))
      → Took {A = Tally} (Err e) mid new (entry_lines p (f x)) → Took {A = Tally} (Err e) old new (block_lines p (map f all))
  stops-here all old mid new e same taken h =
      let lines : (block_lines p (map f (take i xs)) ++ entry_lines p (f x)) ++ block_lines p (map f (drop (i + 1) xs)) ≡ block_lines p (map f all) =
      sym (lines-around p (map f (take i xs)) (f x) (map f (drop (i + 1) xs))) ∙ ap (block_lines p) (sym all-around ∙ ap (map f) same) in
      let P : List (List ℕ) → Type 0 = λ ls. Took {A = Tally} (Err e) old new ls in
      subst P lines (stops-behind Tally Tally old mid new (block_lines p (map f (take i xs))) (entry_lines p (f x)) (block_lines p (map f (drop (i + 1) xs))) e taken h)

-- ---- the last line

-- writing stops within the last line
pub last-broken : (p : Program) (es : List states.Entry) (t : Tally) (old mid new : Option (List ℕ)) (e : OutputErr) → e ≡ error.Write → t ≡ tally_of p es
    → mid ≡ behind old (concat (block_lines p es)) → TookBytes {A = Unit {0}} (Err e) mid new (checked_line t.blocks) → TakesPrefix old new (recheck_text p es)
last-broken p es t old mid new error.Write is same taken part =
    let counted : t.blocks ≡ length (block_lines p es) = ap (λ (u : Tally). u.blocks) same in
    let last : TakesPrefix mid new (checked_line (length (block_lines p es))) = rw counted at part in
    TakesPrefix-append old mid new (concat (block_lines p es)) (checked_line (length (block_lines p es))) taken last
last-broken p es t old mid new error.Memory is same taken part = cc
