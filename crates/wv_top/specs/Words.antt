-- The command line (our own).
use Rattle.std.specs.Prelude.{ℕ, Bool, true, List, [], ◌∷◌, map, codes, Option, Some, None, String, string_bytes, bytes_eq, not, ◌==◌, ◌&&◌, if◌then◌else◌}
use Rattle.std.specs.Option.{option_map}
use Rattle.std.specs.declared.alloc.Global.{Global}
use Rattle.wv_base.specs.declared.side.Side.{Side}
use Rattle.wv_base.specs.declared.side.Side.TheVariants.{Client, Server}

-- a folder that is woven, the folder that the classes are put into, and the side for which they are woven
pub record Command : Type 0 where
  pub folder : List ℕ
  pub out : List ℕ
  pub side : Side

-- the bytes of each word
abbrev pub texts : List (String Global) → List (List ℕ)
texts words = map string_bytes words

-- an operand doesn't begin with `-`
abbrev pub is_operand : List ℕ → Bool
is_operand [] = true
is_operand (byte ∷ bytes) = not (byte == 45)

-- these words are `weave FOLDER --out DIR`
abbrev pub is_weave : (weave folder option out : List ℕ) → Bool
is_weave weave folder option out =
    bytes_eq weave (codes "weave") && is_operand folder && bytes_eq option (codes "--out") && is_operand out

-- the side that a word names
abbrev pub side_named : List ℕ → Option Side
side_named word =
    if bytes_eq word (codes "client") then Some Client else
    if bytes_eq word (codes "server") then Some Server else None

-- the side that the words behind DIR give: `--side S` gives that side, and no words that of the client
abbrev pub side_of : List (List ℕ) → Option Side
side_of [] = Some Client
side_of (option ∷ side ∷ []) = if bytes_eq option (codes "--side") then side_named side else None
side_of words = None

-- the command for a side
abbrev pub weave_of : (folder out : List ℕ) → Side → Command
weave_of folder out side = record { folder = folder; out = out; side = side }

-- behind the program's name, `weave FOLDER --out DIR` with the words of a side behind it is a command, and nothing else is
unfoldable pub command_of : List (List ℕ) → Option Command
command_of (program ∷ weave ∷ folder ∷ option ∷ out ∷ more) =
    if is_weave weave folder option out then option_map (weave_of folder out) (side_of more) else None
command_of words = None
