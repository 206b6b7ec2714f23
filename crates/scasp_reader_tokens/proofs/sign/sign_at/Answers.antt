use Rattle.std.proofs.Common.{◌≡◌, ℕ, ◌<◌, take, drop, Option, Some, refl, sym, ◌∙◌, subst}
use Rattle.std.specs.Option.{IfSome}
use Rattle.scasp_reader_tokens.specs.declared.sign.Sign.{Sign}
use Rattle.scasp_reader_tokens.specs.Signs.{entry_at, signs}
use Rattle.scasp_reader_tokens.proofs.SignLemmas.{told, first_part, some_of, sign-some}
use Rattle.scasp_reader_tokens.proofs.sign.sign_at.Goals as goal

abbrev IsSome : Option (Sign × ℕ) → Type 0
IsSome o = IfSome o (λ x. 0 < x.1)

pub returns-in-Some-clause-sign : goal.returns-in-Some-clause-sign
returns-in-Some-clause-sign c = sym (first_part (take 22 signs) (drop 22 signs) c.args.bytes.now c.in-Some.found (sym c.sign_in.ensures.sign ∙ c.in-Some.is))

pub returns-in-Some-clause-some : goal.returns-in-Some-clause-some
returns-in-Some-clause-some c =
    subst IsSome (first_part (take 22 signs) (drop 22 signs) c.args.bytes.now c.in-Some.found (sym c.sign_in.ensures.sign ∙ c.in-Some.is)) (sign-some c.args.bytes.now)

pub returns-in-None-clause-some : goal.returns-in-None-clause-some
returns-in-None-clause-some c = subst IsSome (sym c.sign_in-in-None.ensures.sign) (some_of (drop 22 signs) c.args.bytes.now refl)
