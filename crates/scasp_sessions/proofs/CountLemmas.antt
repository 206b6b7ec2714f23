-- Numbers are given in order.
use Rattle.std.specs.Prelude.{◌≡◌, ℕ, ◌+◌, List, [], ◌∷◌, length, Ok, Err, refl}
use Rattle.std.specs.List.{range_with_len}
use Rattle.std.proofs.Common.{ap, subst}
use Rattle.scasp_sessions.specs.Alone.{Exchange, RepliesAll, advancing, closing, opening}
use Rattle.scasp_sessions.specs.Numbers.{numbers_in}
use Rattle.scasp_sessions.specs.Tables.{Table, no_sessions}
use Rattle.scasp_sessions.specs.declared.errors.OpenErr.TheVariants as refusal

abbrev Counted : ℕ → List ℕ → Type 0
Counted n ns = ns ≡ range_with_len n (length ns)

one-more : (number n : ℕ) (ns : List ℕ) → number ≡ n → Counted (number + 1) ns → Counted n (number ∷ ns)
one-more number n ns is h = subst (λ k. Counted k (number ∷ ns)) is (ap (λ l. number ∷ l) h)

counted : (es : List Exchange) (old end : Table) → RepliesAll old es end → Counted old.next (numbers_in es)
counted [] old end r = refl
counted (opening program query budget fresh (Ok number) ∷ es) old end r =
    one-more number old.next (numbers_in es) r.1.1 (subst (λ t. Counted t.next (numbers_in es)) r.1.2.2 (counted es r.0 end r.2))
counted (opening program query budget fresh (Err refusal.NoQuery) ∷ es) old end r = subst (λ t. Counted t.next (numbers_in es)) r.1.1 (counted es r.0 end r.2)
counted (opening program query budget fresh (Err refusal.Full) ∷ es) old end r = subst (λ t. Counted t.next (numbers_in es)) r.1.2 (counted es r.0 end r.2)
counted (opening program query budget fresh (Err refusal.Memory) ∷ es) old end r = subst (λ t. Counted t.next (numbers_in es)) r.1.2 (counted es r.0 end r.2)
counted (advancing id calls (Ok comes) ∷ es) old end r = subst (λ t. Counted t.next (numbers_in es)) r.1.4 (counted es r.0 end r.2)
counted (advancing id calls (Err refused) ∷ es) old end r = subst (λ t. Counted t.next (numbers_in es)) r.1.1 (counted es r.0 end r.2)
counted (closing id (Ok done) ∷ es) old end r = subst (λ t. Counted t.next (numbers_in es)) r.1.1 (counted es r.0 end r.2)
counted (closing id (Err refused) ∷ es) old end r = subst (λ t. Counted t.next (numbers_in es)) r.1.1 (counted es r.0 end r.2)

pub numbers-counted : (es : List Exchange) (end : Table) → RepliesAll no_sessions es end → numbers_in es ≡ range_with_len 1 (length (numbers_in es))
numbers-counted es end r = counted es no_sessions end r
