-- What is told of a place in a file.
use Rattle.std.proofs.Common.{◌≡◌, ◌≤◌, ◌<◌, ℕ, Option, IfSome, List, length, take, drop, subst, codes}
use Rattle.scasp_command_inputs.proofs.InputLemmas.{line-widen, longer-told}
use Rattle.scasp_command_inputs.specs.Halts.{IfLine}
use Rattle.scasp_command_inputs.specs.Inputs.{AreBytes, Failed, Says, outside}
use Rattle.scasp_command_inputs.specs.declared.halt.Halt.{Halt}
use Rattle.scasp_command_inputs.specs.declared.status.Status.TheVariants.{Done, Limit, Read, Text}
use Rattle.scasp_view_top.specs.Place.Places.{place_text}
use Rattle.scasp_view_top.specs.Top.Places.{TellsPlace, TellsPlaceIn, cut_line, limit_line, past, place, read, too_long, unread}
use Rattle.scasp_view_top.specs.declared.top.places.TheConstants.{BYTE_LIMIT}

pub past-line : (bytes : List ℕ) (byte : ℕ) (h : Halt) → length bytes < byte → IfLine h (Says (cut_line (length bytes)) Text) → IfLine h (TellsPlaceIn bytes byte)
past-line bytes byte h beyond says =
    line-widen h (Says (cut_line (length bytes)) Text) (TellsPlaceIn bytes byte) says (λ text status s. past beyond s)

pub place-line : (bytes : List ℕ) (byte : ℕ) (h : Halt) → byte ≤ length bytes → IfLine h (Says (place_text (take byte bytes) (drop byte bytes)) Done)
    → IfLine h (TellsPlaceIn bytes byte)
place-line bytes byte h within says =
    line-widen h (Says (place_text (take byte bytes) (drop byte bytes)) Done) (TellsPlaceIn bytes byte) says (λ text status s. place within s)

module _ (told : List ℕ → Option (List ℕ)) (before after : List ℕ → ℕ) (file : List ℕ) (byte : ℕ) (h : Halt) where
  pub read-place : (items bytes : List ℕ) → bytes ≡ items → AreBytes (told file) items → length items ≤ BYTE_LIMIT → IfLine h (TellsPlaceIn bytes byte)
      → IfLine h (TellsPlace (outside told before after) file byte)
  read-place items bytes same are within line =
      line-widen h (TellsPlaceIn bytes byte) (TellsPlace (outside told before after) file byte) line
      (λ text status s. read items are within (subst (λ (b : List ℕ). TellsPlaceIn b byte text status) same s))

  pub unread-place : Failed (outside told before after) file → IfLine h (Says (codes "read file\n") Read) → IfLine h (TellsPlace (outside told before after) file byte)
  unread-place rose says =
      line-widen h (Says (codes "read file\n") Read) (TellsPlace (outside told before after) file byte) says (λ text status s. unread rose s)

  pub long-place : IfSome (told file) (λ bytes. BYTE_LIMIT < length bytes) → IfLine h (Says limit_line Limit) → IfLine h (TellsPlace (outside told before after) file byte)
  long-place longer says =
      let l = longer-told (told file) BYTE_LIMIT longer in
      line-widen h (Says limit_line Limit) (TellsPlace (outside told before after) file byte) says (λ text status s. too_long l.bytes l.are l.longer s)
