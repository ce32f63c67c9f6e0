use Rattle.std.specs.Prelude.{◌≡◌, ◌↔◌, ℕ, List, None, IsTrue}
use Rattle.serde_json.specs.Data.{Data}
use Rattle.wv_base.specs.declared.side.Side.{Side}
use Rattle.wv_json.specs.Object.{IsObjectText}
use Rattle.wv_mod.specs.declared.manifest.Manifest.{Manifest}
use Rattle.wv_mod.specs.declared.mod_info.ModInfo.{ModInfo}
use Rattle.wv_mod.specs.Environment.{IsFor}
use Rattle.wv_mod.specs.Manifest.{IsManifest}
use Rattle.wv_mod.specs.Id.{first_bad_id}
use Rattle.wv_mod.specs.Dependency.{AreDependencies}
use Rattle.wv_mod.specs.Flaw.{HasNoJars}

-- the mod says what the keys say, with its predicates read
pub record SaysAs (path : List ℕ) (side : Side) (manifest : Manifest) (info : ModInfo) : Type 0 where
  pub at : info.path ≡ path
  pub id : info.id ≡ manifest.id
  pub version : info.version ≡ manifest.version
  pub provides : info.provides ≡ manifest.provides
  pub mixins : info.mixins ≡ manifest.mixins
  pub depends : AreDependencies manifest.depends info.depends
  pub breaks : AreDependencies manifest.breaks info.breaks
  pub loaded : IsTrue info.loaded ↔ IsFor side manifest.environment

-- the object describes this mod, and has no flaw (fabric.mod.json, schema version 1)
pub record IsModOf (path : List ℕ) (value : Data) (side : Side) (info : ModInfo) : Type 0 where
  pub manifest : Manifest
  pub keys : IsManifest value manifest
  pub ids : first_bad_id manifest ≡ None
  pub jars : HasNoJars value
  pub says : SaysAs path side manifest info

-- the bytes are the text of an object that describes this mod
abbrev pub IsMod : List ℕ → List ℕ → Side → ModInfo → Type 0
IsMod path bytes side info = (value : Data) × IsObjectText bytes value × IsModOf path value side info
