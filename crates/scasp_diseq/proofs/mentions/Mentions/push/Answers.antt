use Rattle.std.proofs.Common.{◌≡◌, ◌++◌, ◌∷◌, [], Some, nat_eq, if◌then◌else◌, length, sym, ap, ◌∙◌, subst}
use Rattle.std.specs.HashMap.{get}
use Rattle.scasp_diseq.specs.Inside.Chains.{IsChained, Leads, latest_of}
use Rattle.scasp_diseq.proofs.ChainLemmas.{chained-more, leads-more}
use Rattle.scasp_diseq.proofs.mentions.Mentions.push.Goals as goal

pub invariant_of-self-2 : goal.invariant_of-self-2
invariant_of-self-2 c =
    let ms = c.self.inside.trail.items in
    let m = c.args.mention in
    let before = get nat_eq c.self.inside.latest in
    let now = get nat_eq c.insert.new.self in
    let same : c.push_reserved.new.self.items ≡ ms ++ m ∷ [] = c.push_reserved.ensures.items ∙ ap (λ l. l ++ m ∷ []) c.make_room.ensures.items in
    let at : c.len-at.result ≡ length ms = c.len-at.ensures.len ∙ ap length c.make_room.ensures.items in (
      subst IsChained (sym same) (chained-more ms m c.self.invariant.0 (c.requires ∙ ap (latest_of m.variable) (sym c.self.view_is))),
      subst (Leads now) (sym same) (leads-more before now ms m c.self.invariant.1 (λ x. c.in_ok-insert.ensures.updates.0 x ∙ ap (λ k. if nat_eq m.variable x then Some k else before x) at)),
    )
