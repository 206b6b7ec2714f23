-- Lines that a sink takes one after another.
use Rattle.std.proofs.Common.{◌≡◌, ◌∙◌, ℕ, ◌+◌, List, [], ◌∷◌, ◌++◌, length, take, Option, None, Some, Result, Ok, Err, refl, sym, ap, arith, append-nil, length-append}
use Rattle.std.specs.Prelude.{IsErrOf}
use Rattle.std.specs.List.{concat}
use Rattle.std.proofs.Math.Seq.{take-append-add, take-length}
use Rattle.std.proofs.lemmas.List.{take-append-le}
use Rattle.std.proofs.lemmas.List.Folds.{concat-append}
use Rattle.scasp_io.specs.Bytes.{behind, TakesPrefix}
use Rattle.scasp_io.specs.Inside.Behind.{behind-append, TakesPrefix-append}
use Rattle.scasp_io.specs.declared.errors.OutputErr.{OutputErr}
use Rattle.scasp_io.specs.declared.errors.OutputErr.TheVariants as error
use Rattle.scasp_command_check.specs.Outputs.{TakesLines}
use Rattle.scasp_command_check.specs.Inside.{Took, TookBytes}

-- a first part of bytes is one of more
pub prefix-more : (old new : Option (List ℕ)) (bytes more : List ℕ) → TakesPrefix old new bytes → TakesPrefix old new (bytes ++ more)
prefix-more old new bytes more h = record {
  count = h.count;
  within = omega (arith, h.within, length-append bytes more);
  taken = h.taken ∙ ap (behind old) (sym (take-append-le h.count bytes more h.within));
}

pub lines-more : (old new : Option (List ℕ)) (lines more : List (List ℕ)) → TakesLines old new lines → TakesLines old new (lines ++ more)
lines-more old new lines more h = record {
  count = h.count;
  within = omega (arith, h.within, length-append lines more);
  taken = h.taken ∙ ap (λ ls. behind old (concat ls)) (sym (take-append-le h.count lines more h.within));
}

behind-nothing : (old : Option (List ℕ)) → old ≡ behind old []
behind-nothing None = refl
behind-nothing (Some before) = ap Some (sym (append-nil before))

-- no line is taken
pub took_none : {A : Type 0} (old : Option (List ℕ)) (x : A) → Took (Ok x) old old []
took_none old x = behind-nothing old

-- one line is taken, or a part of it
pub took_line : {A : Type 0} (r : Result A OutputErr) (old new : Option (List ℕ)) (line : List ℕ) → TookBytes r old new line → Took r old new (line ∷ [])
took_line (Ok x) old new line h = h ∙ ap (behind old) (sym (append-nil line))
took_line (Err error.Memory) old new line h = record { count = 0; within = omega arith; taken = h ∙ behind-nothing old }
took_line (Err error.Write) old new line h = prefix-more old new line [] h

-- all lines are taken
pub all-lines : (old new : Option (List ℕ)) (lines : List (List ℕ)) → new ≡ behind old (concat lines) → TakesLines old new lines
all-lines old new lines h = record { count = length lines; within = omega arith; taken = h ∙ ap (λ ls. behind old (concat ls)) (sym (take-length lines)) }

-- the first of the lines behind others
lines-behind : (old mid new : Option (List ℕ)) (first lines : List (List ℕ)) → mid ≡ behind old (concat first) → TakesLines mid new lines
    → TakesLines old new (first ++ lines)
lines-behind old mid new first lines e h = record {
  count = length first + h.count;
  within = omega (arith, h.within, length-append first lines);
  taken = rw (take-append-add first lines h.count, concat-append first (take h.count lines), behind-append old (concat first) (concat (take h.count lines)), ← e) h.taken;
}

-- writing stops within the lines behind these
pub stops-behind : (A B : Type 0) (old mid new : Option (List ℕ)) (first lines more : List (List ℕ)) (e : OutputErr) → mid ≡ behind old (concat first)
    → Took {A = A} (Err e) mid new lines → Took {A = B} (Err e) old new ((first ++ lines) ++ more)
stops-behind A B old mid new first lines more error.Memory e h = lines-more old new (first ++ lines) more (lines-behind old mid new first lines e h)
stops-behind A B old mid new first lines more error.Write e h =
    rw (concat-append (first ++ lines) more, concat-append first lines) (prefix-more old new (concat first ++ concat lines) (concat more)
    (TakesPrefix-append old mid new (concat first) (concat lines) e h))

-- lines that are taken behind others
pub both-taken : (old mid new : Option (List ℕ)) (first lines : List (List ℕ)) → mid ≡ behind old (concat first) → new ≡ behind mid (concat lines)
    → new ≡ behind old (concat (first ++ lines))
both-taken old mid new first lines e h =
    h ∙ ap (λ o. behind o (concat lines)) e ∙ sym (behind-append old (concat first) (concat lines)) ∙ ap (behind old) (sym (concat-append first lines))

-- ---- what an answer says

pub memory-of : {A : Type 0} (r : Result A OutputErr) (old new : Option (List ℕ)) (lines : List (List ℕ)) → Took r old new lines → IsErrOf r error.Memory → TakesLines old new lines
memory-of (Ok x) old new lines h e = cc
memory-of (Err error.Memory) old new lines h e = h
memory-of (Err error.Write) old new lines h e = cc

pub write-of : {A : Type 0} (r : Result A OutputErr) (old new : Option (List ℕ)) (lines : List (List ℕ)) → Took r old new lines → IsErrOf r error.Write → TakesPrefix old new (concat lines)
write-of (Ok x) old new lines h e = cc
write-of (Err error.Memory) old new lines h e = cc
write-of (Err error.Write) old new lines h e = h
