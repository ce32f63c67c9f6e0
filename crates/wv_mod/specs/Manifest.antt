use Rattle.std.specs.Prelude.{ℕ, pos, List, [], codes}
use Rattle.serde_json.specs.Data.{Data}
use Rattle.serde_json.specs.Find.{get}
use Rattle.wv_json.specs.Kind.{IsText, IsNumber, IsTexts, IsTextOrTexts, IsObjectOf}
use Rattle.wv_mod.specs.declared.environment.Environment.{Environment}
use Rattle.wv_mod.specs.declared.environment.Environment.TheVariants.{Both}
use Rattle.wv_mod.specs.declared.mixin.MixinConfig.{MixinConfig}
use Rattle.wv_mod.specs.declared.manifest.Manifest.{Manifest}
use Rattle.wv_mod.specs.Field.{IsRequired, IsOptional}
use Rattle.wv_mod.specs.Environment.{IsEnvironment}
use Rattle.wv_mod.specs.Mixins.{IsMixinList}

-- the keys of fabric.mod.json, schema version 1: `schemaVersion` is 1
abbrev pub HasSchema : Data → Type 0
HasSchema value = IsRequired IsNumber (get (codes "schemaVersion") value) (pos 1)

-- `id` is a text
abbrev pub HasId : Data → List ℕ → Type 0
HasId value id = IsRequired IsText (get (codes "id") value) id

-- `version` is a text
abbrev pub HasVersion : Data → List ℕ → Type 0
HasVersion value version = IsRequired IsText (get (codes "version") value) version

-- `provides` is a list of texts, by default none
abbrev pub HasProvides : Data → List (List ℕ) → Type 0
HasProvides value ids = IsOptional IsTexts [] (get (codes "provides") value) ids

-- `environment` is one of three texts, by default `*`
abbrev pub HasEnvironment : Data → Environment → Type 0
HasEnvironment value environment = IsOptional IsEnvironment Both (get (codes "environment") value) environment

-- `mixins` is a list of configurations, by default none
abbrev pub HasMixins : Data → List MixinConfig → Type 0
HasMixins value mixins = IsOptional IsMixinList [] (get (codes "mixins") value) mixins

-- `depends` is an object from ids to one or more texts, by default empty
abbrev pub HasDepends : Data → List (List ℕ × List (List ℕ)) → Type 0
HasDepends value entries = IsOptional (IsObjectOf IsTextOrTexts) [] (get (codes "depends") value) entries

-- `breaks` likewise
abbrev pub HasBreaks : Data → List (List ℕ × List (List ℕ)) → Type 0
HasBreaks value entries = IsOptional (IsObjectOf IsTextOrTexts) [] (get (codes "breaks") value) entries

-- each key is as the schema says, and says this
pub record IsManifest (value : Data) (manifest : Manifest) : Type 0 where
  pub schema : HasSchema value
  pub id : HasId value manifest.id
  pub version : HasVersion value manifest.version
  pub provides : HasProvides value manifest.provides
  pub environment : HasEnvironment value manifest.environment
  pub mixins : HasMixins value manifest.mixins
  pub depends : HasDepends value manifest.depends
  pub breaks : HasBreaks value manifest.breaks
