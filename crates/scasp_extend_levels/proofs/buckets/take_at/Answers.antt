use Rattle.std.proofs.Common.{◌∙◌, None, sym}
use Rattle.scasp_extend_levels.proofs.BucketLemmas.{in-none, in-some, is_eq-nat, new-stands}
use Rattle.scasp_extend_levels.proofs.buckets.take_at.Goals as goal

pub returns-in-Some-clause-others : goal.returns-in-Some-clause-others
returns-in-Some-clause-others c = λ k other. c.in-Some.ensures.updates.2 k (is_eq-nat c.args.level k ∙ other)

pub returns-in-Some-clause-taken : goal.returns-in-Some-clause-taken
returns-in-Some-clause-taken c = λ cs s. in-some _ c.in-Some.rules cs (sym c.in-Some.ensures.value) s

pub returns-in-None-clause-taken : goal.returns-in-None-clause-taken
returns-in-None-clause-taken c = λ cs s. new-stands c.new.result cs c.new.ensures (in-none _ cs (sym c.in-None.ensures.value) s)
