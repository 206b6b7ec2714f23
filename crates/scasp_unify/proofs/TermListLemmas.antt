-- Lists of terms, taken apart and resolved.
use Rattle.std.proofs.Common.{◌≡◌, ◌≢◌, suc, length, None, refl, ap, ◌∙◌}
use Rattle.scasp_syntax.specs.Tm.{Tms, nil, cons, items}
use Rattle.scasp_unify.specs.Parts.{both_parts, parts, parts_each}
use Rattle.scasp_unify.proofs.LaterParts.{both-none}

-- lists of other lengths clash
pub parts_each-length : (ts us : Tms) → length (items ts) ≢ length (items us) → parts_each ts us ≡ None
parts_each-length nil nil h = absurd (h refl)
parts_each-length nil (cons u us) h = refl
parts_each-length (cons t ts) nil h = refl
parts_each-length (cons t ts) (cons u us) h =
    ap (both_parts (parts t u)) (parts_each-length ts us (λ e. h (ap suc e))) ∙ both-none (parts t u)
