-- The keys of a mixin configuration (Mixin 0.8.5).
use Rattle.std.specs.Prelude.{◌≡◌, List, ℕ, codes}
use Rattle.wv_config.specs.declared.key.Key.{Key}
use Rattle.wv_config.specs.declared.key.Key.TheVariants.{Package, Mixins, Client, Server, Refmap, Priority, MixinPriority, DefaultRequire, RequireAnnotations}
use Rattle.wv_config.specs.declared.key.KeyFault.{KeyFault}
use Rattle.wv_config.specs.declared.key.KeyFault.TheVariants.{Wrong, Memory}

-- the key as it is written, with a dot before a key within an object
unfoldable pub name_of : Key → List ℕ
name_of Package = codes "package"
name_of Mixins = codes "mixins"
name_of Client = codes "client"
name_of Server = codes "server"
name_of Refmap = codes "refmap"
name_of Priority = codes "priority"
name_of MixinPriority = codes "mixinPriority"
name_of DefaultRequire = codes "injectors.defaultRequire"
name_of RequireAnnotations = codes "overwrites.requireAnnotations"

-- a wrong key is this one, and nothing is read there
abbrev pub IsWrongAt : {A : Type 0} → Key → (A → Type 0) → KeyFault → Type 0
IsWrongAt {A} key IsRead (Wrong other) = (other ≡ key) × ((x : A) → IsRead x → ⊥)
IsWrongAt key IsRead Memory = Unit {0}
