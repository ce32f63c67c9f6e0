-- The description of the game, `game/game.json` (our own).
use Rattle.std.specs.Prelude.{◌≡◌, IsTrue, ℕ, List, [], codes}
use Rattle.serde_json.specs.Data.{Data}
use Rattle.serde_json.specs.Find.{get}
use Rattle.wv_base.specs.Names.{is_class_name}
use Rattle.wv_json.specs.Kind.{IsText, IsObjectOf}
use Rattle.wv_json.specs.Object.{IsObjectText}
use Rattle.wv_mod.specs.declared.game_info.GameInfo.{GameInfo}
use Rattle.wv_mod.specs.Field.{IsRequired, IsOptional}
use Rattle.wv_mod.specs.Manifest.{HasId, HasVersion}
use Rattle.wv_mod.specs.Slashes.{with_slashes}

-- `main` is a text that names a class, with dots or slashes; it is kept with slashes
abbrev pub HasMain : Data → List ℕ → Type 0
HasMain value main = (text : List ℕ) × IsRequired IsText (get (codes "main") value) text
    × (main ≡ with_slashes text) × IsTrue (is_class_name main)

-- `builtin` is an object from ids to versions, by default empty
abbrev pub HasBuiltin : Data → List (List ℕ × List ℕ) → Type 0
HasBuiltin value entries = IsOptional (IsObjectOf IsText) [] (get (codes "builtin") value) entries

-- the object describes this game: each key is as it has to be, and says this
pub record IsGameOf (value : Data) (info : GameInfo) : Type 0 where
  pub id : HasId value info.id
  pub version : HasVersion value info.version
  pub main : HasMain value info.main
  pub builtin : HasBuiltin value info.builtin

-- the bytes are the text of an object that describes this game
abbrev pub IsGame : List ℕ → GameInfo → Type 0
IsGame bytes info = (value : Data) × IsObjectText bytes value × IsGameOf value info
