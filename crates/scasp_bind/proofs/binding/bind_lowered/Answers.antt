use Rattle.std.proofs.Common.{Some, ap, ◌∙◌}
use Rattle.scasp_bind.specs.Kept.{updated, with_term}
use Rattle.scasp_syntax.specs.View.{tm_of}
use Rattle.scasp_bind.proofs.SoundLemmas.{continues_then, sound_now}
use Rattle.scasp_bind.proofs.DepthLemmas.{absent, bind_done, kept_by, on_ok, sound_or}
use Rattle.scasp_bind.proofs.binding.bind_lowered.Goals as goal

pub returns-clause-bound : goal.returns-clause-bound
returns-clause-bound c =
    let a = c.args.store.now in
    let b = c.lower_term.new.store in
    let x = c.args.x in
    let t = c.args.term.now in
    on_ok c.set_term.result c.set_term.ensures.variables
    (λ e. bind_done a b c.set_term.new.self x t c.get.result.now (absent a x (tm_of t) (sound_now a c.requires.2) c.requires.0) c.get.ensures
    c.in_ok-lower_term.ensures.lowered (e ∙ ap (λ u. updated x (with_term (Some u)) b.variables) c.requires.1))

pub returns-clause-continues : goal.returns-clause-continues
returns-clause-continues c =
    continues_then c.args.store.now c.lower_term.new.store c.set_term.new.self c.lower_term.ensures.goes_on.continues
    (kept_by c.set_term.result c.lower_term.new.store c.set_term.new.self c.set_term.ensures.changed c.set_term.ensures.unchanged)

pub returns-clause-sound : goal.returns-clause-sound
returns-clause-sound c =
    let a = c.args.store.now in
    let b = c.lower_term.new.store in
    sound_or c.set_term.result a b c.set_term.new.self c.args.x c.args.term.now c.args.copied c.requires.1 c.requires.0 c.lower_term.ensures.goes_on
    c.set_term.ensures.changed c.set_term.ensures.variables c.set_term.ensures.unchanged c.requires.2
