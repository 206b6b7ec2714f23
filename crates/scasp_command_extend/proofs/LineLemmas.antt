-- Pieces that are put one behind another.
use Rattle.std.proofs.Common.{◌≡◌, ◌∙◌, ℕ, List, ◌++◌, ap, append_assoc, refl}

pub four_put : (t t1 t2 t3 t4 a b c d : List ℕ) → t1 ≡ t ++ a → t2 ≡ t1 ++ b → t3 ≡ t2 ++ c → t4 ≡ t3 ++ d → t4 ≡ t ++ (((a ++ b) ++ c) ++ d)
four_put t t1 t2 t3 t4 a b c d e f g h =
    h ∙ ap (λ x. x ++ d) (g ∙ ap (λ x. x ++ c) (f ∙ ap (λ x. x ++ b) e)) ∙ simp append_assoc
