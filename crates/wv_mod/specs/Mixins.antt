use Rattle.std.specs.Prelude.{◌≡◌, ◌⊎◌, List, [], ◌∷◌, codes}
use Rattle.serde_json.specs.Data.{Data, array, Items, no_items, item}
use Rattle.serde_json.specs.Find.{get}
use Rattle.wv_json.specs.Kind.{IsText}
use Rattle.wv_mod.specs.declared.environment.Environment.TheVariants.{Both}
use Rattle.wv_mod.specs.declared.mixin.MixinConfig.{MixinConfig}
use Rattle.wv_mod.specs.Field.{IsRequired, IsOptional}
use Rattle.wv_mod.specs.Environment.{IsEnvironment}

-- an object with `config` and an optional `environment` (fabric.mod.json, `mixins`)
pub record IsMixinObject (value : Data) (mixin : MixinConfig) : Type 0 where
  pub config : IsRequired IsText (get (codes "config") value) mixin.config
  pub environment : IsOptional IsEnvironment Both (get (codes "environment") value) mixin.environment

-- the name of a configuration, or such an object
abbrev pub IsMixinEntry : Data → MixinConfig → Type 0
IsMixinEntry value mixin = (IsText value mixin.config × (mixin.environment ≡ Both)) ⊎ IsMixinObject value mixin

-- there are as many items as entries, and each is its entry
abbrev pub AreMixins : Items → List MixinConfig → Type 0
AreMixins no_items [] = Unit {0}
AreMixins no_items (mixin ∷ mixins) = ⊥
AreMixins (item value rest) [] = ⊥
AreMixins (item value rest) (mixin ∷ mixins) = IsMixinEntry value mixin × AreMixins rest mixins

-- the value is the list of these entries
abbrev pub IsMixinList : Data → List MixinConfig → Type 0
IsMixinList value mixins = (items : Items) × (value ≡ array items) × AreMixins items mixins
