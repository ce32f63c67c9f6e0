-- Mixin configurations (Mixin 0.8.5; the defaults and what is refused are our own).
use Rattle.std.specs.Prelude.{◌≡◌, ℕ, ℤ, pos, Bool, false, List, [], ◌∷◌, ◌++◌, Option, None, IsSome, codes}
use Rattle.std.specs.List.{AllByRecursion}
use Rattle.serde_json.specs.Data.{Data}
use Rattle.serde_json.specs.Find.{get}
use Rattle.wv_json.specs.Kind.{IsText, IsTexts, IsNumber, IsBoolean}
use Rattle.wv_json.specs.Object.{IsObjectText}
use Rattle.wv_base.specs.declared.broken.Broken.{Broken}
use Rattle.wv_base.specs.declared.rule.Rule.TheVariants.{ConfigBad, PluginNamed}
use Rattle.wv_config.specs.declared.config.Config.{Config}
use Rattle.wv_config.specs.declared.key.Key.{Key}
use Rattle.wv_config.specs.declared.key.Key.TheVariants.{Package, Mixins, Client, Server, Refmap, Priority, MixinPriority, DefaultRequire, RequireAnnotations}
use Rattle.wv_config.specs.declared.key.KeyFault.{KeyFault}
use Rattle.wv_config.specs.declared.key.KeyFault.TheVariants.{Wrong, Memory}
use Rattle.wv_config.specs.Key.{name_of}
use Rattle.wv_config.specs.Stands.{IsThere, IsOrElse, IsThereOrNone, IsWithin}
use Rattle.wv_config.specs.Slashes.{IsInSlashes, AreInSlashes}
use Rattle.wv_config.specs.Fault.{broken_at}

-- the value at each key, by the key's kind and with its default

abbrev pub IsPackage : Data → List ℕ → Type 0
IsPackage value = IsThere IsText (get (name_of Package) value)

abbrev pub IsClasses : Key → Data → List (List ℕ) → Type 0
IsClasses key value = IsOrElse IsTexts [] (get (name_of key) value)

abbrev pub IsRefmapPath : Data → Option (List ℕ) → Type 0
IsRefmapPath value = IsThereOrNone IsText (get (name_of Refmap) value)

abbrev pub IsPriority : Key → Data → ℤ → Type 0
IsPriority key value = IsOrElse IsNumber (pos 1000) (get (name_of key) value)

abbrev pub IsDefaultRequire : Data → ℤ → Type 0
IsDefaultRequire value = IsWithin (IsOrElse IsNumber (pos 0)) (codes "defaultRequire") (get (codes "injectors") value)

abbrev pub IsRequireAnnotations : Data → Bool → Type 0
IsRequireAnnotations value =
    IsWithin (IsOrElse IsBoolean false) (codes "requireAnnotations") (get (codes "overwrites") value)

-- the configuration has the value of each key of the object
pub record IsConfigOf (value : Data) (config : Config) : Type 0 where
  pub in_package : IsInSlashes (IsPackage value) config.«package»
  pub mixins : AreInSlashes (IsClasses Mixins value) config.mixins
  pub client : AreInSlashes (IsClasses Client value) config.client
  pub server : AreInSlashes (IsClasses Server value) config.server
  pub refmap : IsRefmapPath value config.refmap
  pub priority : IsPriority Priority value config.priority
  pub mixin_priority : IsPriority MixinPriority value config.mixin_priority
  pub default_require : IsDefaultRequire value config.default_require
  pub require_annotations : IsRequireAnnotations value config.require_annotations

-- something is read at the key
abbrev pub IsRight : Data → Key → Type 0
IsRight value Package = (x : List ℕ) × IsPackage value x
IsRight value Mixins = (x : List (List ℕ)) × IsClasses Mixins value x
IsRight value Client = (x : List (List ℕ)) × IsClasses Client value x
IsRight value Server = (x : List (List ℕ)) × IsClasses Server value x
IsRight value Refmap = (x : Option (List ℕ)) × IsRefmapPath value x
IsRight value Priority = (x : ℤ) × IsPriority Priority value x
IsRight value MixinPriority = (x : ℤ) × IsPriority MixinPriority value x
IsRight value DefaultRequire = (x : ℤ) × IsDefaultRequire value x
IsRight value RequireAnnotations = (x : Bool) × IsRequireAnnotations value x

-- the keys in their order
abbrev pub keys : List Key
keys = Package ∷ Mixins ∷ Client ∷ Server ∷ Refmap ∷ Priority ∷ MixinPriority ∷ DefaultRequire ∷ RequireAnnotations ∷ []

-- of the keys in their order, this is the first at which nothing is read
pub record IsFirstWrong (value : Data) (key : Key) : Type 0 where
  pub before : List Key
  pub after : List Key
  pub order : keys ≡ before ++ key ∷ after
  pub right : AllByRecursion (IsRight value) before
  pub wrong : IsRight value key → ⊥

-- a wrong key is the first that is wrong
abbrev pub IsKeyFault : Data → KeyFault → Type 0
IsKeyFault value (Wrong key) = IsFirstWrong value key
IsKeyFault value Memory = Unit {0}

-- the bytes are an object without the key `plugin`, and the configuration is that object's
pub record IsConfig (bytes : List ℕ) (config : Config) : Type 0 where
  pub value : Data
  pub text : IsObjectText bytes value
  pub values : IsConfigOf value config
  pub no_plugin : get (codes "plugin") value ≡ None

-- the bytes are no JSON object
abbrev pub IsNoObject : List ℕ → Type 0
IsNoObject bytes = (value : Data) → IsObjectText bytes value → ⊥

-- the first rule that the file breaks: it is no object, a key is wrong, or the key `plugin` is there
pub data IsConfigBroken (path bytes : List ℕ) (broken : Broken) : Type 0 where
  no_object : IsNoObject bytes → broken ≡ broken_at ConfigBad path (codes "json") → IsConfigBroken path bytes broken
  wrong_key : (value : Data) (key : Key) → IsObjectText bytes value → IsFirstWrong value key
      → broken ≡ broken_at ConfigBad path (name_of key) → IsConfigBroken path bytes broken
  plugin : (value : Data) (config : Config) → IsObjectText bytes value → IsConfigOf value config
      → IsSome (get (codes "plugin") value) → broken ≡ broken_at PluginNamed path (codes "-")
      → IsConfigBroken path bytes broken
