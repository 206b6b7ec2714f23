-- What entries give one after another, at an entry of the list.
use Rattle.std.proofs.Common.{◌≡◌, ◌∙◌, ℕ, ◌+◌, ◌<◌, Option, Err, List, [], ◌∷◌, ◌++◌, length, map, take, drop, get_or, sym, ap, subst, append-nil, append_assoc}
use Rattle.std.specs.List.{concat, flat_map}
use Rattle.std.proofs.lemmas.List.{drop_more, map-append, map_more, take-append-drop}
use Rattle.std.proofs.lemmas.List.Concat.{flat_map-append}
use Rattle.scasp_answers.specs.Blocks.States.{Entry}
use Rattle.scasp_command_check.specs.Inside.{Took, TookBytes}
use Rattle.scasp_command_check.specs.Outputs.{TakesLines}
use Rattle.scasp_command_check.proofs.TookLemmas.{all-lines, both-taken, lines-more, stops-behind}
use Rattle.scasp_io.specs.Bytes.{behind, TakesPrefix}
use Rattle.scasp_io.specs.Inside.Behind.{TakesPrefix-append}
use Rattle.scasp_io.specs.declared.errors.OutputErr.{OutputErr}
use Rattle.scasp_io.specs.declared.errors.OutputErr.TheVariants as error
use Rattle.scasp_command_extend.specs.Inside.{ends_in, tally_of, with_ends}
use Rattle.scasp_command_extend.specs.declared.ends.Extended.{Extended}
use Rattle.scasp_command_extend.specs.declared.ends.Tally.{Tally}
use Rattle.scasp_command_extend.proofs.EndLemmas.{ends-more}

-- An entry x of the list, which is seen through f, and of which this comes.
module _ (X Y : Type 0) (f : X → Entry) (part : Entry → List Y) (xs : List X) (i : ℕ) (x : X) (below : i < length xs) (is : x ≡ get_or xs i x) where
  -- what comes of the first entries and of this one
  first-more : flat_map part (map f (take (i + 1) xs)) ≡ flat_map part (map f (take i xs)) ++ part (f x)
  first-more =
      ap (flat_map part) (map_more f xs i x below ∙ ap (λ y. map f (take i xs) ++ f y ∷ []) (sym is))
      ∙ flat_map-append part (map f (take i xs)) (f x ∷ [])
      ∙ ap (λ ys. flat_map part (map f (take i xs)) ++ ys) (append-nil (part (f x)))

  -- the first entries, this one, and those behind
  all-around : map f xs ≡ map f (take i xs) ++ f x ∷ map f (drop (i + 1) xs)
  all-around =
      ap (map f) (sym (take-append-drop i xs) ∙ ap (λ ys. take i xs ++ ys) (drop_more xs i x below ∙ ap (λ y. y ∷ drop (i + 1) xs) (sym is)))
      ∙ map-append f (take i xs) (x ∷ drop (i + 1) xs)

  around : flat_map part (map f xs) ≡ (flat_map part (map f (take i xs)) ++ part (f x)) ++ flat_map part (map f (drop (i + 1) xs))
  around =
      ap (flat_map part) all-around ∙ flat_map-append part (map f (take i xs)) (f x ∷ map f (drop (i + 1) xs))
      ∙ sym (append_assoc (flat_map part (map f (take i xs))) (part (f x)) (flat_map part (map f (drop (i + 1) xs))))

-- how the entries end
pub tally-next : (X : Type 0) (f : X → Entry) (part : Entry → List Extended) (xs : List X) (i : ℕ) (x : X) → i < length xs → x ≡ get_or xs i x
    → (t u : Tally) (o : Option Extended) → t ≡ tally_of (flat_map part (map f (take i xs))) → ends_in o ≡ part (f x) → u ≡ with_ends t o
    → u ≡ tally_of (flat_map part (map f (take (i + 1) xs)))
tally-next X f part xs i x below is t u o e part_is h =
    h ∙ ap (λ v. with_ends v o) e ∙ ends-more (flat_map part (map f (take i xs))) o
    ∙ ap (λ es. tally_of (flat_map part (map f (take i xs)) ++ es)) part_is ∙ ap tally_of (sym (first-more X Extended f part xs i x below is))

-- what is written of them
module _ (X : Type 0) (f : X → Entry) (part : Entry → List (List ℕ)) (xs : List X) (i : ℕ) (x : X) (below : i < length xs) (is : x ≡ get_or xs i x) where
  firsts : List (List ℕ)
  firsts = flat_map part (map f (take i xs))

  pub taken-next : (old mid new : Option (List ℕ)) → mid ≡ behind old (concat (flat_map part (map f (take i xs)))) → new ≡ behind mid (concat (part (f x)))
      → new ≡ behind old (concat (flat_map part (map f (take (i + 1) xs))))
  unfolding firsts
  taken-next old mid new e h =
      both-taken old mid new firsts (part (f x)) e h ∙ ap (λ ls. behind old (concat ls)) (sym (first-more X (List ℕ) f part xs i x below is))

  -- writing stops within the text of this entry
  pub stops-here : (A B : Type 0) (all : List X) (old mid new : Option (List ℕ)) (e : OutputErr) → xs ≡ all
      → mid ≡ behind old (concat (flat_map part (map f (take i xs))))
      → Took {A = A} (Err e) mid new (part (f x)) → Took {A = B} (Err e) old new (flat_map part (map f all))
  unfolding firsts
  stops-here A B all old mid new e same taken h =
      let lines : (firsts ++ part (f x)) ++ flat_map part (map f (drop (i + 1) xs)) ≡ flat_map part (map f all) =
      sym (around X (List ℕ) f part xs i x below is) ∙ ap (λ ys. flat_map part (map f ys)) same in
      let P : List (List ℕ) → Type 0 = λ ls. Took {A = B} (Err e) old new ls in
      subst P lines (stops-behind A B old mid new firsts (part (f x)) (flat_map part (map f (drop (i + 1) xs))) e taken h)

  -- writing stops behind it
  pub stops-next : (all : List X) (old mid new : Option (List ℕ)) → xs ≡ all
      → mid ≡ behind old (concat (flat_map part (map f (take i xs)))) → new ≡ behind mid (concat (part (f x)))
      → TakesLines old new (flat_map part (map f all))
  unfolding firsts
  stops-next all old mid new same taken h =
      let lines : (firsts ++ part (f x)) ++ flat_map part (map f (drop (i + 1) xs)) ≡ flat_map part (map f all) =
      sym (around X (List ℕ) f part xs i x below is) ∙ ap (λ ys. flat_map part (map f ys)) same in
      let P : List (List ℕ) → Type 0 = λ ls. TakesLines old new ls in
      subst P lines
      (lines-more old new (firsts ++ part (f x)) (flat_map part (map f (drop (i + 1) xs)))
      (all-lines old new (firsts ++ part (f x)) (both-taken old mid new firsts (part (f x)) taken h)))

-- writing stops within the last line
pub last-broken : (lines : List (List ℕ)) (last shown : List ℕ) (old mid new : Option (List ℕ)) (e : OutputErr) → e ≡ error.Write → last ≡ shown
    → mid ≡ behind old (concat lines) → TookBytes {A = Unit {0}} (Err e) mid new last → TakesPrefix old new (concat lines ++ shown)
last-broken lines last shown old mid new error.Write is same taken part =
    TakesPrefix-append old mid new (concat lines) shown taken (subst (TakesPrefix mid new) same part)
last-broken lines last shown old mid new error.Memory is same taken part = cc
