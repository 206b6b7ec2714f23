-- Members of numbered lists.
use Rattle.std.proofs.Common.{◌≡◌, ℕ, zero, suc, List, Some}
use Rattle.std.specs.List.{Contains}
use Rattle.std.proofs.lemmas.Option.{get_or_from_slice_get, slice_get_within}
use Rattle.scasp_syntax.specs.Programs.{numbered}

pub numbered-contains : {A : Type 0} → (xs : List A) (n : ℕ) (x : A) → numbered xs n ≡ Some x → Contains xs x
numbered-contains xs zero x e = cc
numbered-contains xs (suc n) x e = (n, slice_get_within xs n x e, get_or_from_slice_get xs n x x e)
