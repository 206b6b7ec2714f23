use Rattle.std.proofs.Common.{◌≡◌, map, drop}
use Rattle.scasp_reader.specs.Bodies.Atoms.{is_reserved, reserved_of}
use Rattle.scasp_reader.proofs.bodies.atoms.is_among.Given as goal

abbrev pub invariant-loop-known : goal.invariant-loop-known
invariant-loop-known l =
    is_reserved (map (λ e. reserved_of e.0.now e.1) (drop l.known-index l.table)) l.text l.arity ≡ is_reserved (map (λ e. reserved_of e.0.now e.1) l.table) l.text l.arity
