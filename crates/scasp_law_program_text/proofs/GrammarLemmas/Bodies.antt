-- Bodies that are read.
use Rattle.std.proofs.Common.{◌≡◌, ℕ, zero, suc, false, nat_lt, List, [], ◌∷◌, ◌++◌, drop, length, Some, refl, sym, ap, subst, ◌∙◌, append_assoc}
use Rattle.scasp_syntax.specs.Flat.{flat_body}
use Rattle.scasp_syntax.specs.declared.clause.Item.{Item as MeantItem}
use Rattle.scasp_reader_tokens.specs.declared.sign.Sign.TheVariants as sign
use Rattle.scasp_reader_tokens.specs.declared.token.Token.TheVariants as token
use Rattle.scasp_reader_terms.specs.declared.fault.Count.TheVariants as count
use Rattle.scasp_reader_terms.specs.declared.fault.Kind.TheVariants as kind
use Rattle.scasp_reader_terms.specs.Steps.{State, behind, place_of, series}
use Rattle.scasp_reader.specs.declared.bodies.bodies.TheConstants.{ITEM_LIMIT}
use Rattle.scasp_reader.specs.Bodies.Bodies.{counted_item, body}
use Rattle.scasp_law_program_text.specs.Grammar.Known.{Known}
use Rattle.scasp_law_program_text.specs.Grammar.Trees.{Body, one_item, more_items}
use Rattle.scasp_law_program_text.specs.Grammar.Spelling.{bare, item_tokens, body_tokens}
use Rattle.scasp_law_program_text.specs.Grammar.Bodies.{item_meaning, items_meaning, limited_items, body_meaning}
use Rattle.scasp_law_program_text.proofs.GrammarLemmas.Steps.{known, then-some, Post, Post_give, Post_err, Post_map, Post_then, Post_taken, Post_note, Spelled}
use Rattle.scasp_law_program_text.proofs.GrammarLemmas.Terms.{with-next}
use Rattle.scasp_law_program_text.proofs.GrammarLemmas.Items.{item_holds}

record IsOne (before : List MeantItem) (s : State) (i : MeantItem) (t : State) : Type 0 where
  spelled : Spelled item_tokens item_meaning s i t
  few : nat_lt ITEM_LIMIT (length (flat_body (before ++ i ∷ []))) ≡ false

-- items behind these
record AreItems (before : List MeantItem) (s : State) (all : List MeantItem) (t : State) : Type 0 where
  tree : Body
  more : List MeantItem
  is : all ≡ before ++ more
  tokens : bare s.tokens ≡ body_tokens tree ++ bare t.tokens
  value : items_meaning tree (known s) ≡ Some (more, known t)
  few : nat_lt ITEM_LIMIT (length (flat_body all)) ≡ false

counted_item_holds : (before : List MeantItem) (s : State) → Post (IsOne before s) s (counted_item before s)
counted_item_holds before s =
    Post_then (Spelled item_tokens item_meaning s) (IsOne before s) s _ _ (item_holds s)
    (λ i t f h. Post_note (IsOne before s) t (nat_lt ITEM_LIMIT (length (flat_body (before ++ i ∷ [])))) (place_of s.tokens) (kind.Limit count.Items) _
    (λ u g same. Post_give (IsOne before s) u i
    (λ fine.
    let (is, few) = same fine in
    record { spelled = subst (λ u. Spelled item_tokens item_meaning s i u) is (h (g fine)); few = few })))

series_holds : (n : ℕ) (before : List MeantItem) (s : State) → Post (AreItems before s) s (series counted_item n before s)
series_holds zero before s = Post_err (AreItems before s) s _
series_holds (suc n) before s =
    Post_then (IsOne before s) (AreItems before s) s _ _ (counted_item_holds before s)
    (λ x t f i. Post_taken (AreItems before s) t sign.Comma _
    (λ comma. Post_map (AreItems (before ++ x ∷ []) (behind t)) (AreItems before s) (behind t) _ (series_holds n (before ++ x ∷ []) (behind t))
    (λ all u g fine a. next x t all u (i (g fine)) comma a))
    (Post_give (AreItems before s) t (before ++ x ∷ []) (λ fine. last x t (i fine))))
  where
    next : (x : MeantItem) (t : State) (all : List MeantItem) (u : State) → IsOne before s x t → bare t.tokens ≡ token.Sign sign.Comma ∷ bare (drop 1 t.tokens)
        → AreItems (before ++ x ∷ []) (behind t) all u → AreItems before s all u
    next x t all u i comma a = record {
      tree = more_items i.spelled.tree a.tree;
      more = x ∷ a.more;
      is = a.is ∙ append_assoc before (x ∷ []) a.more;
      tokens = with-next _ (item_tokens i.spelled.tree) _ _ (body_tokens a.tree) _ _ i.spelled.tokens comma a.tokens;
      value = then-some _ _ _ _ _ i.spelled.value (then-some _ _ _ _ _ a.value refl);
      few = a.few;
    }

    last : (x : MeantItem) (t : State) → IsOne before s x t → AreItems before s (before ++ x ∷ []) t
    last x t i = record {
      tree = one_item i.spelled.tree;
      more = x ∷ [];
      is = refl;
      tokens = i.spelled.tokens;
      value = then-some _ _ _ _ _ i.spelled.value refl;
      few = i.few;
    }

limited : (xs : List MeantItem) (k : Known) → nat_lt ITEM_LIMIT (length (flat_body xs)) ≡ false → limited_items xs k ≡ Some (xs, k)
limited xs k few = rw few refl

pub body_holds : (s : State) → Post (Spelled body_tokens body_meaning s) s (body s)
unfolding body
body_holds s =
    Post_map (AreItems [] s) (Spelled body_tokens body_meaning s) s _ (series_holds (length s.tokens) [] s)
    (λ xs t f fine a. record {
      tree = a.tree;
      tokens = a.tokens;
      value = then-some _ _ _ _ _ (a.value ∙ ap (λ xs. Some (xs, known t)) (sym a.is)) (limited xs (known t) a.few);
    })
