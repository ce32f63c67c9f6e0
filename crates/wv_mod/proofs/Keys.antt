-- The first key that isn't as the schema says.
use Rattle.std.proofs.Common.{◌≡◌, ℕ, Bool, false, List, [], ◌∷◌, IsTrue, ◌↔◌, refl}
use Rattle.serde_json.specs.Data.{Data}
use Rattle.wv_mod.specs.declared.environment.Environment.{Environment}
use Rattle.wv_mod.specs.declared.mixin.MixinConfig.{MixinConfig}
use Rattle.wv_mod.specs.declared.key.Key.TheVariants as key
use Rattle.wv_mod.specs.Manifest.{HasSchema, HasId, HasVersion, HasProvides, HasEnvironment, HasMixins, HasDepends, HasBreaks}
use Rattle.wv_mod.specs.Key.{key_order, IsRight}
use Rattle.wv_mod.specs.Flaw.{IsFirstWithout}

pub schema-right : (value : Data) (b : Bool) → (IsTrue b ↔ HasSchema value) → IsTrue b → HasSchema value
schema-right value b h t = h.0 t

pub wrong-schema : (value : Data) (b : Bool) → (IsTrue b ↔ HasSchema value) → b ≡ false → IsFirstWithout (IsRight value) key_order key.SchemaVersion
wrong-schema value b h e = record {
  front = [];
  after = key.Id ∷ key.Version ∷ key.Provides ∷ key.Environment ∷ key.Mixins ∷ key.Depends ∷ key.Breaks ∷ [];
  split = refl;
  before = tt;
  lacks = λ s. (let t : IsTrue b = h.1 s in cc);
}

pub wrong-id : (value : Data) → HasSchema value → ((other : List ℕ) → HasId value other → ⊥) → IsFirstWithout (IsRight value) key_order key.Id
wrong-id value schema none = record {
  front = key.SchemaVersion ∷ [];
  after = key.Version ∷ key.Provides ∷ key.Environment ∷ key.Mixins ∷ key.Depends ∷ key.Breaks ∷ [];
  split = refl;
  before = (schema, tt);
  lacks = λ s. none s.0 s.1;
}

pub wrong-version : (value : Data) (id : List ℕ) → HasSchema value → HasId value id → ((other : List ℕ) → HasVersion value other → ⊥) → IsFirstWithout (IsRight value) key_order key.Version
wrong-version value id schema h-id none = record {
  front = key.SchemaVersion ∷ key.Id ∷ [];
  after = key.Provides ∷ key.Environment ∷ key.Mixins ∷ key.Depends ∷ key.Breaks ∷ [];
  split = refl;
  before = (schema, ((id, h-id), tt));
  lacks = λ s. none s.0 s.1;
}

pub wrong-provides : (value : Data) (id : List ℕ) (version : List ℕ) → HasSchema value → HasId value id → HasVersion value version → ((other : List (List ℕ)) → HasProvides value other → ⊥) → IsFirstWithout (IsRight value) key_order key.Provides
wrong-provides value id version schema h-id h-version none = record {
  front = key.SchemaVersion ∷ key.Id ∷ key.Version ∷ [];
  after = key.Environment ∷ key.Mixins ∷ key.Depends ∷ key.Breaks ∷ [];
  split = refl;
  before = (schema, ((id, h-id), ((version, h-version), tt)));
  lacks = λ s. none s.0 s.1;
}

pub wrong-environment : (value : Data) (id : List ℕ) (version : List ℕ) (provides : List (List ℕ)) → HasSchema value → HasId value id → HasVersion value version → HasProvides value provides → ((other : Environment) → HasEnvironment value other → ⊥) → IsFirstWithout (IsRight value) key_order key.Environment
wrong-environment value id version provides schema h-id h-version h-provides none = record {
  front = key.SchemaVersion ∷ key.Id ∷ key.Version ∷ key.Provides ∷ [];
  after = key.Mixins ∷ key.Depends ∷ key.Breaks ∷ [];
  split = refl;
  before = (schema, ((id, h-id), ((version, h-version), ((provides, h-provides), tt))));
  lacks = λ s. none s.0 s.1;
}

pub wrong-mixins : (value : Data) (id : List ℕ) (version : List ℕ) (provides : List (List ℕ)) (environment : Environment) → HasSchema value → HasId value id → HasVersion value version → HasProvides value provides → HasEnvironment value environment → ((other : List MixinConfig) → HasMixins value other → ⊥) → IsFirstWithout (IsRight value) key_order key.Mixins
wrong-mixins value id version provides environment schema h-id h-version h-provides h-environment none = record {
  front = key.SchemaVersion ∷ key.Id ∷ key.Version ∷ key.Provides ∷ key.Environment ∷ [];
  after = key.Depends ∷ key.Breaks ∷ [];
  split = refl;
  before = (schema, ((id, h-id), ((version, h-version), ((provides, h-provides), ((environment, h-environment), tt)))));
  lacks = λ s. none s.0 s.1;
}

pub wrong-depends : (value : Data) (id : List ℕ) (version : List ℕ) (provides : List (List ℕ)) (environment : Environment) (mixins : List MixinConfig) → HasSchema value → HasId value id → HasVersion value version → HasProvides value provides → HasEnvironment value environment → HasMixins value mixins → ((other : List (List ℕ × List (List ℕ))) → HasDepends value other → ⊥) → IsFirstWithout (IsRight value) key_order key.Depends
wrong-depends value id version provides environment mixins schema h-id h-version h-provides h-environment h-mixins none = record {
  front = key.SchemaVersion ∷ key.Id ∷ key.Version ∷ key.Provides ∷ key.Environment ∷ key.Mixins ∷ [];
  after = key.Breaks ∷ [];
  split = refl;
  before = (schema, ((id, h-id), ((version, h-version), ((provides, h-provides), ((environment, h-environment), ((mixins, h-mixins), tt))))));
  lacks = λ s. none s.0 s.1;
}

pub wrong-breaks : (value : Data) (id : List ℕ) (version : List ℕ) (provides : List (List ℕ)) (environment : Environment) (mixins : List MixinConfig) (depends : List (List ℕ × List (List ℕ))) → HasSchema value → HasId value id → HasVersion value version → HasProvides value provides → HasEnvironment value environment → HasMixins value mixins → HasDepends value depends → ((other : List (List ℕ × List (List ℕ))) → HasBreaks value other → ⊥) → IsFirstWithout (IsRight value) key_order key.Breaks
wrong-breaks value id version provides environment mixins depends schema h-id h-version h-provides h-environment h-mixins h-depends none = record {
  front = key.SchemaVersion ∷ key.Id ∷ key.Version ∷ key.Provides ∷ key.Environment ∷ key.Mixins ∷ key.Depends ∷ [];
  after = [];
  split = refl;
  before = (schema, ((id, h-id), ((version, h-version), ((provides, h-provides), ((environment, h-environment), ((mixins, h-mixins), ((depends, h-depends), tt)))))));
  lacks = λ s. none s.0 s.1;
}
