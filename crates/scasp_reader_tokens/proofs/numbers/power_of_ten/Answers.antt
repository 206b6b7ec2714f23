use Rattle.std.proofs.Common.{◌-◌, ◌^◌, ◌<◌, ℕ, sym, subst, lit<}
use Rattle.scasp_reader_tokens.proofs.NumberLemmas.{power-above}
use Rattle.scasp_reader_tokens.proofs.numbers.power_of_ten.Goals as goal

pub returns-clause-above : goal.returns-clause-above
returns-clause-above c =
    let P : ℕ → Type 0 = λ n. 0 < n in
    subst P (sym c.loop-place.invariant) (power-above (2 ^ 128 - 1) c.loop-place._place (lit< tt))
