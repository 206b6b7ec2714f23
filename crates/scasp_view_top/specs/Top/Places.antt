-- The place of a byte of a file: what is told, and what is printed where nothing is.
use Rattle.std.specs.Prelude.{◌≤◌, ◌<◌, ℕ, List, ◌++◌, length, take, drop, codes, decimal}
use Rattle.scasp_command_inputs.specs.Inputs.{AreBytes, Failed, Outside, Says}
use Rattle.scasp_command_inputs.specs.declared.status.Status.{Status}
use Rattle.scasp_command_inputs.specs.declared.status.Status.TheVariants.{Done, Limit, Read, Text}
use Rattle.scasp_view_top.specs.Place.Places.{place_text}
use Rattle.scasp_view_top.specs.declared.top.places.TheConstants.{BYTE_LIMIT}

-- the file has so many bytes, and the one that is asked for lies past them
abbrev pub cut_line : ℕ → List ℕ
cut_line length = codes "text file " ++ decimal length ++ codes " Cut\n"

-- the file has more bytes than a file may have
abbrev pub limit_line : List ℕ
limit_line = codes "limit file " ++ decimal BYTE_LIMIT ++ codes " bytes\n"

-- The place of the byte in these bytes, the first being 0, is told; that behind the last byte is a place too.
pub data TellsPlaceIn (bytes : List ℕ) (byte : ℕ) (text : List ℕ) (status : Status) : Type 0 where
  past : length bytes < byte → Says (cut_line (length bytes)) Text text status → TellsPlaceIn bytes byte text status
  place : byte ≤ length bytes → Says (place_text (take byte bytes) (drop byte bytes)) Done text status → TellsPlaceIn bytes byte text status

-- the same of the bytes of a file, unless that could not be read, or is too long
pub data TellsPlace (o : Outside) (file : List ℕ) (byte : ℕ) (text : List ℕ) (status : Status) : Type 0 where
  unread : Failed o file → Says (codes "read file\n") Read text status → TellsPlace o file byte text status
  too_long : (bytes : List ℕ) → AreBytes (o.told file) bytes → BYTE_LIMIT < length bytes → Says limit_line Limit text status
      → TellsPlace o file byte text status
  read : (bytes : List ℕ) → AreBytes (o.told file) bytes → length bytes ≤ BYTE_LIMIT → TellsPlaceIn bytes byte text status
      → TellsPlace o file byte text status
