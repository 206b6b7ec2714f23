-- The replies to all commands, one after the other.
use Rattle.std.proofs.Common.{◌≡◌, ◌∙◌, ℕ, ◌+◌, ◌≤◌, List, [], ◌∷◌, ◌++◌, drop, length, Option, None, Some, Result, Ok, Err, refl, ap, sym, subst, arith, append_assoc, length-append}
use Rattle.std.proofs.lemmas.List.{append-nil}
use Rattle.std.proofs.lemmas.Grind.{flat_map-append}
use Rattle.scasp_command_inputs.specs.Reports.{Reports, whole, part}
use Rattle.scasp_command_inputs.specs.declared.status.Status.{Status}
use Rattle.scasp_command_inputs.specs.declared.status.Status.TheVariants as status
use Rattle.scasp_io.specs.Bytes.{TakesPrefix, behind}
use Rattle.scasp_io.specs.Counts.{Rose}
use Rattle.scasp_io.specs.Inside.Behind.{TakesPrefix-append, behind-append}
use Rattle.scasp_io.specs.Taken.{TakesFirst, TakesWhole, Writes}
use Rattle.scasp_io.specs.declared.errors.OutputErr.TheVariants.{Memory, Write}
use Rattle.scasp_serve_replies.specs.Replies.{Replies, RepliesAll, Reply, Standing, at_start}
use Rattle.scasp_serve_replies.specs.Texts.{replies_text, reply_text}
use Rattle.scasp_serve_top.specs.Inside.{Going}
use Rattle.scasp_serve_top.specs.Served.{IsServed, Serves, end_status}
use Rattle.scasp_serve_words.specs.declared.command.Command.{Command}
use Rattle.scasp_syntax.specs.declared.program.Program.{Program}

behind-nil : (old : Option (List ℕ)) → old ≡ behind old []
behind-nil None = refl
behind-nil (Some text) = ap (λ (t : List ℕ). Some t) (sym (append-nil text))

text-more : (told : List Reply) (r : Reply) → replies_text (told ++ r ∷ []) ≡ replies_text told ++ reply_text r
text-more told r =
    flat_map-append reply_text told (r ∷ [])
    ∙ ap (λ (t : List ℕ). replies_text told ++ t) (append-nil (reply_text r))

module _ (p : Program) (names : List (List ℕ)) (commands : List Command) where
  pub going-first : (old : Option (List ℕ)) → Going p names commands 0 at_start old old
  going-first old = record { told = []; counted = refl; taken = behind-nil old; continues = λ more h. h }

  module _ (count : ℕ) (c : Command) (s t : Standing) (r : Reply) (text : List ℕ) (old mid : Option (List ℕ)) (there : drop count commands ≡ c ∷ drop (count + 1) commands)
      (g : Going p names commands count s old mid) (replies : Replies p names s c r t) (is : text ≡ reply_text r) where
    replies-more : (more : List Reply) → RepliesAll p names t (drop (count + 1) commands) more → RepliesAll p names at_start commands ((g.told ++ r ∷ []) ++ more)
    replies-more more h =
        let all : RepliesAll p names s (c ∷ drop (count + 1) commands) (r ∷ more) = (t, replies, h) in
        let here : RepliesAll p names s (drop count commands) (r ∷ more) = subst (λ (cs : List Command). RepliesAll p names s cs (r ∷ more)) (sym there) all in
        let told : RepliesAll p names at_start commands (g.told ++ r ∷ more) = g.continues (r ∷ more) here in
        subst (λ (rs : List Reply). RepliesAll p names at_start commands rs) (sym (append_assoc g.told (r ∷ []) more)) told

    text-all : replies_text g.told ++ text ≡ replies_text (g.told ++ r ∷ [])
    text-all = ap (λ (x : List ℕ). replies_text g.told ++ x) is ∙ sym (text-more g.told r)

    -- the reply was taken
    pub going-on : (new : Option (List ℕ)) → new ≡ behind mid text → Going p names commands (count + 1) t old new
    going-on new taken = record {
      told = g.told ++ r ∷ [];
      counted = length-append g.told (r ∷ []) ∙ ap (λ n. n + 1) g.counted;
      taken =
          taken ∙ ap (λ (o : Option (List ℕ)). behind o text) g.taken ∙ sym (behind-append old (replies_text g.told) text)
          ∙ ap (behind old) text-all;
      continues = replies-more;
    }

    -- a first part of it was
    pub served-part : (new : Option (List ℕ)) → TakesPrefix mid new text → Writes (IsServed p names commands) old new (Err Write)
    served-part new prefix = record {
      text = replies_text g.told ++ text;
      may = (
        None,
        record {
          told = g.told ++ r ∷ [];
          replies = subst (λ (rs : List Reply). RepliesAll p names at_start commands rs) (append-nil (g.told ++ r ∷ [])) (replies-more [] tt);
          text_is = text-all;
          whole = tt;
        },
      );
      part = TakesPrefix-append old mid new (replies_text g.told) text g.taken prefix;
    }

  -- nothing follows
  told-alone : (count : ℕ) (s : Standing) (old new : Option (List ℕ)) (g : Going p names commands count s old new) → RepliesAll p names at_start commands g.told
  told-alone count s old new g = subst (λ (rs : List Reply). RepliesAll p names at_start commands rs) (append-nil g.told) (g.continues [] tt)

  pub served-cut : (count : ℕ) (s : Standing) (old new : Option (List ℕ)) → Going p names commands count s old new → Writes (IsServed p names commands) old new (Err Memory)
  served-cut count s old new g = record {
    text = replies_text g.told;
    may = record { told = g.told; replies = told-alone count s old new g; text_is = refl; whole = tt };
    taken = g.taken;
  }

  -- there are no more replies than commands
  replies-few : (s : Standing) (cs : List Command) (rs : List Reply) → RepliesAll p names s cs rs → length rs ≤ length cs
  replies-few s cs [] h = omega arith
  replies-few s [] (r ∷ rs) h = absurd h
  replies-few s (c ∷ cs) (r ∷ rs) h =
      let k = replies-few h.0 cs rs h.2 in
      omega (arith, k)

  pub served-all : (count : ℕ) (s : Standing) (old new : Option (List ℕ)) → length commands ≤ count → Going p names commands count s old new
      → Writes (IsServed p names commands) old new (Ok tt)
  served-all count s old new all g =
      let few = replies-few at_start commands g.told (told-alone count s old new g) in
      let counted = g.counted in
      let as_many : length g.told ≡ length commands = omega (arith, few, counted, all) in
      record {
        text = replies_text g.told;
        may = record { told = g.told; replies = told-alone count s old new g; text_is = refl; whole = as_many };
        taken = g.taken;
      }

  -- ---- the status

  pub reports-whole : (end : Option Unit) (s : Status) (before after : Option (List ℕ)) (faults faults' : ℕ) → TakesWhole (λ text. IsServed p names commands text end) before after
      → s ≡ end_status end → Reports (Serves p names commands) before after faults faults' s
  reports-whole end s before after faults faults' w is =
      whole (record { text = w.text; may = record { end = end; served = w.may; ending = is }; taken = w.taken })

  pub reports-part : (before after : Option (List ℕ)) (faults faults' : ℕ) → TakesFirst (λ text. (end : Option Unit) × IsServed p names commands text end) before after
      → Rose faults faults' → Reports (Serves p names commands) before after faults faults' status.Write
  reports-part before after faults faults' w rose =
      part refl rose (record { text = w.text; may = (end_status w.may.0, record { end = w.may.0; served = w.may.1; ending = refl }); part = w.part })
