use Rattle.std.proofs.Common.{◌≡◌, ◌++◌, ◌∷◌, [], ◌||◌, length, sym, ap, ◌∙◌, subst}
use Rattle.scasp_syntax.specs.View.{tm_of}
use Rattle.scasp_syntax.specs.declared.con.Con.TheVariants.{Neq}
use Rattle.scasp_unify.specs.Parts.{occurs}
use Rattle.scasp_diseq.specs.Inside.Indexed.{IsIndexed}
use Rattle.scasp_diseq.specs.Inside.Noting.{Notes}
use Rattle.scasp_diseq.specs.declared.posted.Posted.{Posted}
use Rattle.scasp_diseq.proofs.IndexLemmas.{indexed-more}
use Rattle.scasp_diseq.proofs.UnseenLemmas.{if_not_err}
use Rattle.scasp_diseq.proofs.diseqs.Diseqs.post.Goals as goal

pub invariant_of-self-2 : goal.invariant_of-self-2
invariant_of-self-2 c =
    let ps = c.self.inside.posted.items in
    let ms = c.self.inside.mentions in
    let ls = c.note_sides.new.mentions in
    let p : Posted = record { con = Neq c.in_ok-first.first c.in_ok-second.second; before = c.len-before.result } in
    let place : c.len-place.result ≡ length ps = c.len-place.ensures.len ∙ ap length c.make_room.ensures.items in
    let items : c.push_reserved.new.self.items ≡ ps ++ p ∷ [] = c.push_reserved.ensures.items ∙ ap (λ l. l ++ p ∷ []) c.make_room.ensures.items in
    let noted = if_not_err c.note_sides.result (sym c.is_err.ensures.value ∙ c.if-is_err.false) c.note_sides.ensures.noted in
    subst (λ l. IsIndexed l ls) (sym items)
    (indexed-more ps ms ls p c.self.invariant c.note_sides.ensures.begins c.len-before.ensures
    (subst (λ k. Notes k (λ y. occurs y (tm_of c.in_ok-first.first) || occurs y (tm_of c.in_ok-second.second)) ms ls) place
    (subst (λ t. Notes c.len-place.result (λ y. occurs y (tm_of c.in_ok-first.first) || occurs y (tm_of t)) ms ls) (sym c.in_ok-second.ensures)
    (subst (λ t. Notes c.len-place.result (λ y. occurs y (tm_of t) || occurs y (tm_of c.args.right.now)) ms ls) (sym c.in_ok-first.ensures) noted))))
