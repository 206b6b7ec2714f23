-- What bytes begin with.
use Rattle.std.proofs.Common.{◌≡◌, ℕ, ◌<◌, Bool, true, false, ◌||◌, List, length, drop, codes, Option, None, Some, refl, ap, option_map, arith, length-drop}
use Rattle.std.specs.List.{take_while}
use Rattle.std.specs.Str.{bytes_eq}
use Rattle.std.proofs.lemmas.Slice.Eq.{bytes_eq-Decides}
use Rattle.std.proofs.lemmas.List.Folds.{length-prefix_len}
use Rattle.std.proofs.lemmas.List.Sums.{prefix_len-le-length}
use Rattle.scasp_reader_tokens.specs.declared.sign.Sign.{Sign}
use Rattle.scasp_reader_tokens.specs.declared.token.Token.TheVariants as token
use Rattle.scasp_reader_tokens.specs.declared.token.Front.{Front}
use Rattle.scasp_reader_tokens.specs.declared.token.Front.TheVariants.{Found}
use Rattle.scasp_reader_tokens.specs.Signs.{Entry, signs, entry_at}
use Rattle.scasp_reader_tokens.specs.Directives.{is_skipped_name}
use Rattle.scasp_reader_tokens.specs.Tokens.{sign_or_directive}

at_entry : (other : Front) (o : Option Entry) (s : Sign) (n : ℕ) → option_map {U = Sign × ℕ} (λ e. (e.sign, length e.text)) o ≡ Some (s, n) → Found (token.Sign s) n ≡ elim o [ None ↦ other | Some e ↦ Found (token.Sign e.sign) (length e.text) ]
at_entry other None s n h = cc
at_entry other (Some e) s n h =
    let pair : ◌≡◌ {A = Sign × ℕ} (s, n) (e.sign, length e.text) = cc in
    ap (λ (x : Sign × ℕ). Found (token.Sign x.0) x.1) pair

pub sign-found : (bytes : List ℕ) (s : Sign) (n : ℕ) → option_map {U = Sign × ℕ} (λ e. (e.sign, length e.text)) (entry_at signs bytes) ≡ Some (s, n) → Found (token.Sign s) n ≡ sign_or_directive bytes
sign-found bytes s n h = at_entry _ (entry_at signs bytes) s n h

named_so : (text name : List ℕ) → bytes_eq text name ≡ true → length text ≡ length name
named_so text name e = ap length ((bytes_eq-Decides text name).0 e)

pub skipped_name-length : (text : List ℕ) → is_skipped_name text ≡ true → length text ≡ 4
skipped_name-length text e = by (bytes_eq text (codes "show")) (bytes_eq text (codes "pred")) (named_so text (codes "show")) (named_so text (codes "pred")) e
  where
    by : (s t : Bool) → (s ≡ true → length text ≡ 4) → (t ≡ true → length text ≡ 4) → (s || t) ≡ true → length text ≡ 4
    by true t f g h = f refl
    by false t f g h = g h

-- a name of that length stands behind a byte
pub name-within : (bytes rest name : List ℕ) (p : ℕ → Bool) → rest ≡ drop 1 bytes → name ≡ take_while p rest → length name ≡ 4 → 0 < length bytes → 4 < length bytes
name-within bytes rest name p r n l h = omega (arith, ap length r, ap length n, length-drop 1 bytes, length-prefix_len p rest, prefix_len-le-length p rest)
