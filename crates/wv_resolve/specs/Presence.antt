-- What is present: ids with their versions (fabric.mod.json, schema version 1).
use Rattle.std.specs.Prelude.{◌≡◌, ◌≢◌, ℕ, List, ◌∷◌, ◌++◌, map, flat_map, All, Any, AllPairs, codes}
use Rattle.wv_mod.specs.declared.mod_info.ModInfo.{ModInfo}

-- an id that is present, its version as a text, and the file that names it
pub record Presence : Type 0 where
  pub path : List ℕ
  pub id : List ℕ
  pub version : List ℕ

-- the description of the game, which names what is built in (our own)
abbrev pub game_path : List ℕ
game_path = codes "game/game.json"

-- the game or something built in, an id with its version
abbrev pub builtin_presence : List ℕ × List ℕ → Presence
builtin_presence entry = record { path = game_path; id = entry.0; version = entry.1 }

-- the ids of a mod: its own, then those that it provides (fabric.mod.json, `provides`)
abbrev pub ids_of : ModInfo → List (List ℕ)
ids_of info = info.id ∷ info.provides

-- each id of a mod is present with the mod's version
abbrev pub mod_presences : ModInfo → List Presence
mod_presences info = map (λ id. record { path = info.path; id = id; version = info.version }) (ids_of info)

-- all that is present: the game with what is built in, then the mods
abbrev pub present_ids : List (List ℕ × List ℕ) → List ModInfo → List Presence
present_ids builtin mods = map builtin_presence builtin ++ flat_map mod_presences mods

-- nothing is present under the id
abbrev pub IsAbsent : List Presence → List ℕ → Type 0
IsAbsent present id = All (λ p. p.id ≢ id) present

-- something is present under the id
abbrev pub IsPresent : List Presence → List ℕ → Type 0
IsPresent present id = Any (λ p. p.id ≡ id) present

-- something with this version is present under the id
abbrev pub IsPresentAs : List Presence → List ℕ → List ℕ → Type 0
IsPresentAs present id version = Any (λ p. (p.id ≡ id) × (p.version ≡ version)) present

-- no id is present twice
abbrev pub AreDistinct : List Presence → Type 0
AreDistinct present = AllPairs (λ p q. p.id ≢ q.id) present
