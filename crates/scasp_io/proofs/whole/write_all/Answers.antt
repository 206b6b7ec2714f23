use Rattle.std.proofs.Common.{◌≡◌, ℕ, ◌+◌, ◌-◌, List, length, take, drop, Option, arith}
use Rattle.std.proofs.Math.Seq.{take-add}
use Rattle.std.proofs.lemmas.List.{take_rest}
use Rattle.scasp_io.specs.Bytes.{behind}
use Rattle.scasp_io.specs.Inside.Behind.{behind-append}
use Rattle.scasp_io.proofs.whole.write_all.Goals as goal

-- what was taken of the rest of the bytes stands behind what was taken of them before
further : (old mid new : Option (List ℕ)) (bytes : List ℕ) (at count : ℕ)
    → mid ≡ behind old (take at bytes)
    → new ≡ behind mid (take count (take (length bytes - at) (drop at bytes)))
    → new ≡ behind old (take (at + count) bytes)
further old mid new bytes at count before after =
    rw (
      take-add at count bytes,
      behind-append old (take at bytes) (take count (drop at bytes)),
      ← before,
      ← take_rest bytes at,
    ) after

pub loop-at-preserved : goal.loop-at-preserved
loop-at-preserved g c = (
  further _ _ _ c.args.bytes.now c.loop-at.at c.in_ok-at.field-0
      c.loop-at.invariant.0 c.in_ok-at.ensures.ok,
  omega (arith, c.in_ok-at.ensures.bound),
  omega (arith, c.in_ok-at.ensures.counts),
)
