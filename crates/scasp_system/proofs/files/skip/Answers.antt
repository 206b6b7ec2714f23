use Rattle.std.proofs.Common.{ℕ, ◌≡◌, ◌<◌, ◌-◌, arith, drop, length, length-append, length-drop, subst, take}
use Rattle.std.proofs.lemmas.List.{length-take-le}
use Rattle.scasp_system.specs.Standing.{StandsAt}
use Rattle.scasp_system.proofs.Reading.{StandsAt-consumed, StandsAt-end}
use Rattle.scasp_system.proofs.files.skip.Goals as goal

pub loop-left-preserved : goal.loop-left-preserved
loop-left-preserved g c = let size : length (take c.min-wanted.result c.loop-left.bytes) ≡ c.min-wanted.result =
    length-take-le c.min-wanted.result c.loop-left.bytes (omega (arith, c.loop-left.invariant.room)) in
    record {
      room = omega (arith, size, c.loop-left.invariant.room, length-append c.read_retrying.new.buffer (drop c.min-wanted.result c.loop-left.bytes), length-drop c.min-wanted.result c.loop-left.bytes);
      within = omega (arith, size);
      stands =
          let moved = StandsAt-consumed _ _ _ (c.args.count - c.loop-left.left) c.in_ok-given.given c.read_retrying.new.buffer
          c.loop-left.invariant.stands c.in_ok-given.ensures.bound.0 c.in_ok-given.ensures.bytes.0 in
          subst (λ (n : ℕ). StandsAt (g.R.Read.remaining c.args.file.now) n (g.R.Read.remaining c.read_retrying.new.reader)) (omega (arith, size, c.in_ok-given.ensures.bound.0)) moved;
    }

pub returns-then-given-eq0 : goal.returns-then-given-eq0
returns-then-given-eq0 g c =
    let moved = StandsAt-consumed _ _ _ (c.args.count - c.loop-left.left) c.in_ok-given.given c.read_retrying.new.buffer
    c.loop-left.invariant.stands c.in_ok-given.ensures.bound.0 c.in_ok-given.ensures.bytes.0 in
    let size : length (take c.min-wanted.result c.loop-left.bytes) ≡ c.min-wanted.result =
    length-take-le c.min-wanted.result c.loop-left.bytes (omega (arith, c.loop-left.invariant.room)) in
    let room : 0 < length c.read_retrying.new.buffer = omega (arith, size) in
    StandsAt-end _ _ _ c.args.count moved (c.in_ok-given.ensures.bytes.1 c.if-given-eq0.true room) (omega arith)
