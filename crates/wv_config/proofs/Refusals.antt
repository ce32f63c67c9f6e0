-- A file is a configuration or is refused in one way.
use Rattle.std.proofs.Common.{◌≡◌, ℕ, List, [], ◌∷◌, ◌++◌, Option, Some, None, sym, ◌∙◌, ap, subst, true≢false}
use Rattle.std.specs.Prelude.{IsSome, codes}
use Rattle.std.specs.List.{AllByRecursion}
use Rattle.serde_json.specs.Data.{Data}
use Rattle.serde_json.specs.Find.{get}
use Rattle.serde_json.specs.Read.{read}
use Rattle.wv_json.specs.Object.{IsObjectText}
use Rattle.wv_base.specs.declared.broken.Broken.{Broken}
use Rattle.wv_base.specs.declared.rule.Rule.TheVariants.{ConfigBad}
use Rattle.wv_config.specs.declared.config.Config.{Config}
use Rattle.wv_config.specs.declared.key.Key.{Key}
use Rattle.wv_config.specs.declared.key.Key.TheVariants.{Package, Mixins, Client, Server, Refmap, Priority, MixinPriority, DefaultRequire, RequireAnnotations}
use Rattle.wv_config.specs.Key.{name_of}
use Rattle.wv_config.specs.Fault.{broken_at}
use Rattle.wv_config.specs.Config.{IsConfigOf, IsRight, IsFirstWrong, IsConfig, IsConfigBroken, no_object, wrong_key, plugin}

same_some : {A : Type 0} (o : Option A) (x y : A) → o ≡ Some x → o ≡ Some y → x ≡ y
same_some o x y a b = cc

pub same_object : (bytes : List ℕ) (value other : Data) → IsObjectText bytes value → IsObjectText bytes other → value ≡ other
same_object bytes value other text text' = same_some (read bytes) value other text.whole text'.whole

-- a configuration has each key right
each_right : (value : Data) (config : Config) → IsConfigOf value config → (key : Key) → IsRight value key
each_right value config of Package = (of.in_package.0, of.in_package.1)
each_right value config of Mixins = (of.mixins.0, of.mixins.1)
each_right value config of Client = (of.client.0, of.client.1)
each_right value config of Server = (of.server.0, of.server.1)
each_right value config of Refmap = (config.refmap, of.refmap)
each_right value config of Priority = (config.priority, of.priority)
each_right value config of MixinPriority = (config.mixin_priority, of.mixin_priority)
each_right value config of DefaultRequire = (config.default_require, of.default_require)
each_right value config of RequireAnnotations = (config.require_annotations, of.require_annotations)

-- an object that is a configuration has no wrong key
not_wrong : (bytes : List ℕ) (value other : Data) (config : Config) (key : Key) → IsObjectText bytes value → IsConfigOf value config → IsObjectText bytes other → IsFirstWrong other key → ⊥
not_wrong bytes value other config key text of text' first =
    first.wrong (subst (λ v. IsRight v key) (same_object bytes value other text text') (each_right value config of key))

pub config-not_broken : (path bytes : List ℕ) (config : Config) (broken : Broken) → IsConfig bytes config → IsConfigBroken path bytes broken → ⊥
config-not_broken path bytes config broken is (no_object none told) = none is.value is.text
config-not_broken path bytes config broken is (wrong_key value key text first told) = not_wrong bytes is.value value config key is.text is.values text first
config-not_broken path bytes config broken is (plugin value other text of there told) =
    let same = same_object bytes value is.value text is.text in
    let none : get (codes "plugin") value ≡ None = ap (get (codes "plugin")) same ∙ is.no_plugin in
    true≢false (sym (subst IsSome none there))

-- of one list of keys one is the first that is wrong
one_first : (value : Data) (keys before after before' after' : List Key) (key key' : Key) → keys ≡ before ++ key ∷ after → keys ≡ before' ++ key' ∷ after' → AllByRecursion (IsRight value) before → AllByRecursion (IsRight value) before' → (IsRight value key → ⊥) → (IsRight value key' → ⊥) → key ≡ key'
one_first value keys [] after [] after' key key' e e' right right' wrong wrong' = cc
one_first value keys [] after (k ∷ before') after' key key' e e' right right' wrong wrong' =
    let same : k ≡ key = cc in absurd (wrong (subst (IsRight value) same right'.0))
one_first value keys (k ∷ before) after [] after' key key' e e' right right' wrong wrong' =
    let same : k ≡ key' = cc in absurd (wrong' (subst (IsRight value) same right.0))
one_first value [] (k ∷ before) after (k' ∷ before') after' key key' e e' right right' wrong wrong' = cc
one_first value (x ∷ keys) (k ∷ before) after (k' ∷ before') after' key key' e e' right right' wrong wrong' =
    let rest : keys ≡ before ++ key ∷ after = cc in
    let rest' : keys ≡ before' ++ key' ∷ after' = cc in
    one_first value keys before after before' after' key key' rest rest' right.1 right'.1 wrong wrong'

same_first : (value : Data) (key key' : Key) → IsFirstWrong value key → IsFirstWrong value key' → key ≡ key'
same_first value key key' first first' =
    one_first value _ first.before first.after first'.before first'.after key key' first.order first'.order first.right first'.right first.wrong first'.wrong

pub same_refusal : (path bytes : List ℕ) (broken other : Broken) → IsConfigBroken path bytes broken → IsConfigBroken path bytes other → broken ≡ other
same_refusal path bytes broken other (no_object none told) (no_object none' told') = told ∙ sym told'
same_refusal path bytes broken other (no_object none told) (wrong_key value' key' text' first' told') = absurd (none value' text')
same_refusal path bytes broken other (no_object none told) (plugin value' config' text' of' there' told') = absurd (none value' text')
same_refusal path bytes broken other (wrong_key value key text first told) (no_object none' told') = absurd (none' value text)
same_refusal path bytes broken other (wrong_key value key text first told) (wrong_key value' key' text' first' told') =
    let same = same_first value' key key' (subst (λ v. IsFirstWrong v key) (same_object bytes value value' text text') first) first' in
    told ∙ ap (λ k. broken_at ConfigBad path (name_of k)) same ∙ sym told'
same_refusal path bytes broken other (wrong_key value key text first told) (plugin value' config' text' of' there' told') = absurd (not_wrong bytes value' value config' key text' of' text first)
same_refusal path bytes broken other (plugin value config text of there told) (no_object none' told') = absurd (none' value text)
same_refusal path bytes broken other (plugin value config text of there told) (wrong_key value' key' text' first' told') = absurd (not_wrong bytes value value' config key' text of text' first')
same_refusal path bytes broken other (plugin value config text of there told) (plugin value' config' text' of' there' told') = told ∙ sym told'
