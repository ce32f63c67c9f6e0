use Rattle.std.specs.Prelude.{ℕ, List, [], ◌∷◌, codes}
use Rattle.serde_json.specs.Data.{Data}
use Rattle.wv_mod.specs.declared.environment.Environment.{Environment}
use Rattle.wv_mod.specs.declared.mixin.MixinConfig.{MixinConfig}
use Rattle.wv_mod.specs.declared.key.Key.{Key}
use Rattle.wv_mod.specs.declared.key.Key.TheVariants as key
use Rattle.wv_mod.specs.Manifest.{HasSchema, HasId, HasVersion, HasProvides, HasEnvironment, HasMixins, HasDepends, HasBreaks}

-- the key as the file has it (fabric.mod.json)
abbrev pub key_name : Key → List ℕ
key_name key.SchemaVersion = codes "schemaVersion"
key_name key.Id = codes "id"
key_name key.Version = codes "version"
key_name key.Provides = codes "provides"
key_name key.Environment = codes "environment"
key_name key.Mixins = codes "mixins"
key_name key.Depends = codes "depends"
key_name key.Breaks = codes "breaks"

-- the order in which keys are looked at (our own)
abbrev pub key_order : List Key
key_order = key.SchemaVersion ∷ key.Id ∷ key.Version ∷ key.Provides ∷ key.Environment ∷ key.Mixins ∷ key.Depends ∷ key.Breaks ∷ []

-- the key is as the schema says
abbrev pub IsRight : Data → Key → Type 0
IsRight value key.SchemaVersion = HasSchema value
IsRight value key.Id = (id : List ℕ) × HasId value id
IsRight value key.Version = (version : List ℕ) × HasVersion value version
IsRight value key.Provides = (ids : List (List ℕ)) × HasProvides value ids
IsRight value key.Environment = (environment : Environment) × HasEnvironment value environment
IsRight value key.Mixins = (mixins : List MixinConfig) × HasMixins value mixins
IsRight value key.Depends = (entries : List (List ℕ × List (List ℕ))) × HasDepends value entries
IsRight value key.Breaks = (entries : List (List ℕ × List (List ℕ))) × HasBreaks value entries
