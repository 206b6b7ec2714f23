-- How blocks end, with one more.
use Rattle.std.proofs.Common.{◌≡◌, ◌∙◌, ◌+◌, ◌&&◌, ◌||◌, ℕ, Bool, true, false, cond, List, [], ◌∷◌, ◌++◌, Option, None, Some, refl, ap, sym, append-nil}
use Rattle.std.specs.List.{list_all, list_any}
use Rattle.std.proofs.lemmas.List.Folds.{list_all-append, list_any-append}
use Rattle.std.proofs.lemmas.List.Sums.{sum_by_push}
use Rattle.scasp_command_extend.specs.Ends.{is_model, is_refused, model_count, models_in, whole_end}
use Rattle.scasp_command_extend.specs.Inside.{ends_in, tally_of, with_end, with_ends, worst}
use Rattle.scasp_command_extend.specs.declared.ends.Extended.{Extended}
use Rattle.scasp_command_extend.specs.declared.ends.Extended.TheVariants.{Models, NoModel, Refused}
use Rattle.scasp_command_extend.specs.declared.ends.Tally.{Tally}

-- by whether one is refused, and whether each has a model
end_where : Bool → Bool → Extended
end_where refused models = cond refused Refused (cond models Models NoModel)

by-tests : (e : Extended) (r m : Bool) → worst e (end_where r m) ≡ end_where (r || (is_refused e || false)) (m && (is_model e && true))
unfolding end_where
by-tests Models true true = refl
by-tests Models true false = refl
by-tests Models false true = refl
by-tests Models false false = refl
by-tests NoModel true true = refl
by-tests NoModel true false = refl
by-tests NoModel false true = refl
by-tests NoModel false false = refl
by-tests Refused true true = refl
by-tests Refused true false = refl
by-tests Refused false true = refl
by-tests Refused false false = refl

whole-more : (ends : List Extended) (e : Extended) → worst e (whole_end ends) ≡ whole_end (ends ++ e ∷ [])
unfolding end_where
whole-more ends e =
    by-tests e (list_any is_refused ends) (list_all is_model ends)
    ∙ ap (λ r. end_where r (list_all is_model ends && (is_model e && true))) (sym (list_any-append is_refused ends (e ∷ [])))
    ∙ ap (λ m. end_where (list_any is_refused (ends ++ e ∷ [])) m) (sym (list_all-append is_model ends (e ∷ [])))

tally : ℕ → Extended → Tally
tally n e = record { models = n; extended = e }

tally-more : (ends : List Extended) (e : Extended) → with_end (tally_of ends) e ≡ tally_of (ends ++ e ∷ [])
unfolding tally
tally-more ends e =
    ap (λ n. tally n (worst e (whole_end ends))) (sym (sum_by_push models_in ends e)) ∙ ap (tally (model_count (ends ++ e ∷ []))) (whole-more ends e)

pub ends-more : (ends : List Extended) (o : Option Extended) → with_ends (tally_of ends) o ≡ tally_of (ends ++ ends_in o)
ends-more ends None = ap tally_of (sym (append-nil ends))
ends-more ends (Some e) = tally-more ends e
