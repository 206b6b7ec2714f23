use Rattle.std.proofs.Common.{◌≡◌, ◌++◌, ◌∷◌, [], length, nat_eq, sym, ap, ◌∙◌, subst}
use Rattle.scasp_syntax.specs.declared.con.Con.TheVariants.{NotShape}
use Rattle.scasp_diseq.specs.Inside.Indexed.{IsIndexed}
use Rattle.scasp_diseq.specs.Inside.Noting.{Notes}
use Rattle.scasp_diseq.specs.declared.posted.Posted.{Posted}
use Rattle.scasp_diseq.proofs.IndexLemmas.{indexed-more}
use Rattle.scasp_diseq.proofs.diseqs.Diseqs.exclude.Goals as goal

pub invariant_of-self-2 : goal.invariant_of-self-2
invariant_of-self-2 c =
    let ps = c.self.inside.posted.items in
    let ms = c.self.inside.mentions in
    let ls = c.note.new.self in
    let p : Posted = record { con = NotShape c.args.x c.args.name c.args.arity; before = c.len-before.result } in
    let place : c.len-place.result ≡ length ps = c.len-place.ensures.len ∙ ap length c.make_room.ensures.items in
    let items : c.push_reserved.new.self.items ≡ ps ++ p ∷ [] = c.push_reserved.ensures.items ∙ ap (λ l. l ++ p ∷ []) c.make_room.ensures.items in
    subst (λ l. IsIndexed l ls) (sym items)
    (indexed-more ps ms ls p c.self.invariant c.in_ok-note.ensures.begins c.len-before.ensures
    (subst (λ k. Notes k (λ y. nat_eq y c.args.x) ms ls) place c.in_ok-note.ensures.noted))
