-- A description says one thing of its mod.
use Rattle.std.proofs.Common.{◌≡◌, ◌↔◌, ℕ, List, [], ◌∷◌, Bool, true, false, IsTrue, Some, None, map, codes, refl, ap, sym, ◌∙◌, subst, inl, inr, arith}
use Rattle.std.specs.List.{AllZip}
use Rattle.serde_json.specs.Data.{Data, string, array, object, Items, no_items, item, Members, no_members, member}
use Rattle.serde_json.specs.Find.{get}
use Rattle.serde_json.specs.View.{items_of}
use Rattle.wv_base.specs.declared.side.Side.{Side}
use Rattle.wv_version.specs.declared.predicate.Predicate.{Predicate}
use Rattle.wv_json.specs.Kind.{IsText, IsTexts, IsTextOrTexts, AreMembers, IsObjectOf}
use Rattle.wv_json.specs.Object.{IsObjectText}
use Rattle.wv_mod.specs.declared.dependency.Requirement.{Requirement}
use Rattle.wv_mod.specs.declared.dependency.Dependency.{Dependency}
use Rattle.wv_mod.specs.declared.environment.Environment.{Environment}
use Rattle.wv_mod.specs.declared.environment.Environment.TheVariants.{Both, Client, Server}
use Rattle.wv_mod.specs.declared.mixin.MixinConfig.{MixinConfig}
use Rattle.wv_mod.specs.declared.manifest.Manifest.{Manifest}
use Rattle.wv_mod.specs.declared.mod_info.ModInfo.{ModInfo}
use Rattle.wv_mod.specs.Dependency.{IsRequirement, IsDependency}
use Rattle.wv_mod.specs.Field.{IsRequired, IsOptional}
use Rattle.wv_mod.specs.Environment.{IsEnvironment, environment_name, IsFor}
use Rattle.wv_mod.specs.Mixins.{IsMixinObject, IsMixinEntry, AreMixins, IsMixinList}
use Rattle.wv_mod.specs.Manifest.{IsManifest}
use Rattle.wv_mod.specs.ModInfo.{SaysAs, IsMod}
use Rattle.wv_mod.proofs.OnePredicate.{one-predicate}

-- a value says one thing, as long as it is of the kind
abbrev pub IsOne : {A B : Type 0} → (A → B → Type 0) → Type 0
IsOne {A} {B} Says = (x : A) (y z : B) → Says x y → Says x z → y ≡ z

pub zip-one : {A B : Type 0} (Says : A → B → Type 0) → IsOne Says → IsOne (AllZip Says)
zip-one Says one [] [] [] g h = refl
zip-one Says one [] (y ∷ ys) zs g h = absurd g
zip-one Says one [] [] (z ∷ zs) g h = absurd h
zip-one Says one (x ∷ xs) [] zs g h = absurd g
zip-one Says one (x ∷ xs) (y ∷ ys) [] g h = absurd h
zip-one Says one (x ∷ xs) (y ∷ ys) (z ∷ zs) g h =
    ap (λ w. w ∷ ys) (one x y z g.0 h.0) ∙ ap (λ ws. z ∷ ws) (zip-one Says one xs ys zs g.1 h.1)

required-one : {A : Type 0} (OfKind : Data → A → Type 0) → IsOne OfKind → IsOne (IsRequired OfKind)
required-one OfKind one None y z g h = absurd g
required-one OfKind one (Some value) y z g h = one value y z g h

optional-one : {A : Type 0} (OfKind : Data → A → Type 0) (default : A) → IsOne OfKind → IsOne (IsOptional OfKind default)
optional-one OfKind default one None y z g h = g ∙ sym h
optional-one OfKind default one (Some value) y z g h = one value y z g h

-- ---- Kinds

text-one : IsOne IsText
text-one value y z g h = let both : string y ≡ string z = sym g ∙ h in cc

same_items : (xs ys : Items) → array xs ≡ array ys → xs ≡ ys
same_items xs ys e = cc

items-one : (xs ys : List (List ℕ)) → items_of (map string xs) ≡ items_of (map string ys) → xs ≡ ys
items-one [] [] e = refl
items-one [] (y ∷ ys) e = cc
items-one (x ∷ xs) [] e = cc
items-one (x ∷ xs) (y ∷ ys) e =
    let head : x ≡ y = cc in
    let tail : items_of (map string xs) ≡ items_of (map string ys) = cc in
    ap (λ w. w ∷ xs) head ∙ ap (λ ws. y ∷ ws) (items-one xs ys tail)

texts-one : IsOne IsTexts
texts-one value ys zs g h = items-one ys zs (same_items (items_of (map string ys)) (items_of (map string zs)) (sym g ∙ h))

no-array : (text : List ℕ) (items : Items) → string text ≡ array items → ⊥
no-array text items e = cc

text_or_texts-one : IsOne IsTextOrTexts
text_or_texts-one value ys zs (inl g) (inl h) = texts-one value ys zs g h
text_or_texts-one value ys zs (inl g) (inr h) = absurd (no-array h.0 (items_of (map string ys)) (sym h.1 ∙ g))
text_or_texts-one value ys zs (inr g) (inl h) = absurd (no-array g.0 (items_of (map string zs)) (sym g.1 ∙ h))
text_or_texts-one value ys zs (inr g) (inr h) = g.2 ∙ ap (λ t. t ∷ []) (text-one value g.0 h.0 g.1 h.1) ∙ sym h.2

members-one : {A : Type 0} (OfKind : Data → A → Type 0) → IsOne OfKind → IsOne (AreMembers OfKind)
members-one OfKind one no_members [] [] g h = refl
members-one OfKind one no_members (y ∷ ys) zs g h = absurd g
members-one OfKind one no_members [] (z ∷ zs) g h = absurd h
members-one OfKind one (member key value rest) [] zs g h = absurd g
members-one OfKind one (member key value rest) (y ∷ ys) [] g h = absurd h
members-one OfKind one (member key value rest) (y ∷ ys) (z ∷ zs) g h =
    let keys : y.0 ≡ z.0 = g.0 ∙ sym h.0 in
    let values : y.1 ≡ z.1 = one value y.1 z.1 g.1 h.1 in
    let same : y ≡ z = ap (λ k. (k, y.1)) keys ∙ ap (λ v. (z.0, v)) values in
    ap (λ w. w ∷ ys) same ∙ ap (λ ws. z ∷ ws) (members-one OfKind one rest ys zs g.2 h.2)

same_members : (xs ys : Members) → object xs ≡ object ys → xs ≡ ys
same_members xs ys e = cc

object_of-one : {A : Type 0} (OfKind : Data → A → Type 0) → IsOne OfKind → IsOne (IsObjectOf OfKind)
object_of-one {A} OfKind one value ys zs g h =
    members-one OfKind one g.0 ys zs g.2 (subst (λ (ms : Members). AreMembers OfKind ms zs) (sym (same_members g.0 h.0 (sym g.1 ∙ h.1))) h.2)

-- ---- Environments and configurations

heads_same : (x y : ℕ) (xs ys : List ℕ) → x ∷ xs ≡ y ∷ ys → x ≡ y
heads_same x y xs ys e = cc

names-one : (x y : Environment) → environment_name x ≡ environment_name y → x ≡ y
names-one Both Both e = refl
names-one Client Client e = refl
names-one Server Server e = refl
names-one x y e = absurd (omega (arith, heads_same _ _ _ _ e))

environment-one : IsOne IsEnvironment
environment-one value y z g h = names-one y z (text-one value (environment_name y) (environment_name z) g h)

no-object : (text : List ℕ) (value : Data) (mixin : MixinConfig) → value ≡ string text → IsMixinObject value mixin → ⊥
no-object text value mixin e h = subst (λ (v : Data). IsRequired IsText (get (codes "config") v) mixin.config) e h.config

same-mixin : (a b : List ℕ) (c d : Environment) → a ≡ b → c ≡ d → (let m : MixinConfig = record { config = a; environment = c } in m) ≡ record { config = b; environment = d }
same-mixin a b c d e f = cc

mixin-one : IsOne IsMixinEntry
mixin-one value y z (inl g) (inl h) = same-mixin y.config z.config y.environment z.environment (text-one value y.config z.config g.0 h.0) (g.1 ∙ sym h.1)
mixin-one value y z (inl g) (inr h) = absurd (no-object y.config value z g.0 h)
mixin-one value y z (inr g) (inl h) = absurd (no-object z.config value y h.0 g)
mixin-one value y z (inr g) (inr h) =
    let names : y.config ≡ z.config = required-one IsText text-one (get (codes "config") value) y.config z.config g.config h.config in
    let environments : y.environment ≡ z.environment = optional-one IsEnvironment Both environment-one (get (codes "environment") value) y.environment z.environment g.environment h.environment in
    same-mixin y.config z.config y.environment z.environment names environments

mixins-one : IsOne AreMixins
mixins-one no_items [] [] g h = refl
mixins-one no_items (y ∷ ys) zs g h = absurd g
mixins-one no_items [] (z ∷ zs) g h = absurd h
mixins-one (item value rest) [] zs g h = absurd g
mixins-one (item value rest) (y ∷ ys) [] g h = absurd h
mixins-one (item value rest) (y ∷ ys) (z ∷ zs) g h =
    ap (λ w. w ∷ ys) (mixin-one value y z g.0 h.0) ∙ ap (λ ws. z ∷ ws) (mixins-one rest ys zs g.1 h.1)

mixin_list-one : IsOne IsMixinList
mixin_list-one value ys zs g h =
    mixins-one g.0 ys zs g.2 (subst (λ (is : Items). AreMixins is zs) (sym (same_items g.0 h.0 (sym g.1 ∙ h.1))) h.2)

-- ---- The keys

entries-one : IsOne (IsOptional (IsObjectOf IsTextOrTexts) [])
entries-one = optional-one (IsObjectOf IsTextOrTexts) [] (object_of-one IsTextOrTexts text_or_texts-one)

same-manifest : (id id' version version' : List ℕ) (provides provides' : List (List ℕ)) (environment environment' : Environment) (mixins mixins' : List MixinConfig) (depends depends' breaks breaks' : List (List ℕ × List (List ℕ)))
    → id ≡ id' → version ≡ version' → provides ≡ provides' → environment ≡ environment' → mixins ≡ mixins' → depends ≡ depends' → breaks ≡ breaks'
    → (let m : Manifest = record { id = id; version = version; provides = provides; environment = environment; mixins = mixins; depends = depends; breaks = breaks } in m)
    ≡ record { id = id'; version = version'; provides = provides'; environment = environment'; mixins = mixins'; depends = depends'; breaks = breaks' }
same-manifest id id' version version' provides provides' environment environment' mixins mixins' depends depends' breaks breaks' e f g h i j k = cc

pub manifest-one : IsOne IsManifest
manifest-one value m n g h =
    let id : m.id ≡ n.id = required-one IsText text-one (get (codes "id") value) m.id n.id g.id h.id in
    let version : m.version ≡ n.version = required-one IsText text-one (get (codes "version") value) m.version n.version g.version h.version in
    let provides : m.provides ≡ n.provides = optional-one IsTexts [] texts-one (get (codes "provides") value) m.provides n.provides g.provides h.provides in
    let environment : m.environment ≡ n.environment = optional-one IsEnvironment Both environment-one (get (codes "environment") value) m.environment n.environment g.environment h.environment in
    let mixins : m.mixins ≡ n.mixins = optional-one IsMixinList [] mixin_list-one (get (codes "mixins") value) m.mixins n.mixins g.mixins h.mixins in
    let depends : m.depends ≡ n.depends = entries-one (get (codes "depends") value) m.depends n.depends g.depends h.depends in
    let breaks : m.breaks ≡ n.breaks = entries-one (get (codes "breaks") value) m.breaks n.breaks g.breaks h.breaks in
    same-manifest m.id n.id m.version n.version m.provides n.provides m.environment n.environment m.mixins n.mixins m.depends n.depends m.breaks n.breaks id version provides environment mixins depends breaks

-- ---- The mod

same-requirement : (a b : List ℕ) (p q : Predicate) → a ≡ b → p ≡ q → (let r : Requirement = record { text = a; predicate = p } in r) ≡ record { text = b; predicate = q }
same-requirement a b p q e f = cc

requirement-one : IsOne IsRequirement
requirement-one text y z g h = same-requirement y.text z.text y.predicate z.predicate (g.0 ∙ sym h.0) (one-predicate text y.predicate z.predicate g.1 h.1)

same-dependency : (a b : List ℕ) (p q : List Requirement) → a ≡ b → p ≡ q → (let d : Dependency = record { id = a; any_of = p } in d) ≡ record { id = b; any_of = q }
same-dependency a b p q e f = cc

dependency-one : IsOne IsDependency
dependency-one entry y z g h = same-dependency y.id z.id y.any_of z.any_of (g.0 ∙ sym h.0) (zip-one IsRequirement requirement-one entry.1 y.any_of z.any_of g.1 h.1)

bool-one : (a b : Bool) (P : Type 0) → IsTrue a ↔ P → IsTrue b ↔ P → a ≡ b
bool-one true true P g h = refl
bool-one false false P g h = refl
bool-one true false P g h = sym (h.1 (g.0 refl))
bool-one false true P g h = g.1 (h.0 refl)

same-mod : (path path' id id' version version' : List ℕ) (provides provides' : List (List ℕ)) (mixins mixins' : List MixinConfig) (depends depends' breaks breaks' : List Dependency) (loaded loaded' : Bool)
    → path ≡ path' → id ≡ id' → version ≡ version' → provides ≡ provides' → mixins ≡ mixins' → depends ≡ depends' → breaks ≡ breaks' → loaded ≡ loaded'
    → (let i : ModInfo = record { path = path; id = id; version = version; provides = provides; mixins = mixins; depends = depends; breaks = breaks; loaded = loaded } in i)
    ≡ record { path = path'; id = id'; version = version'; provides = provides'; mixins = mixins'; depends = depends'; breaks = breaks'; loaded = loaded' }
same-mod path path' id id' version version' provides provides' mixins mixins' depends depends' breaks breaks' loaded loaded' d e f g h i j k = cc

says-one : (path : List ℕ) (side : Side) → IsOne (SaysAs path side)
says-one path side m y z g h =
    let at : y.path ≡ z.path = g.at ∙ sym h.at in
    let id : y.id ≡ z.id = g.id ∙ sym h.id in
    let version : y.version ≡ z.version = g.version ∙ sym h.version in
    let provides : y.provides ≡ z.provides = g.provides ∙ sym h.provides in
    let mixins : y.mixins ≡ z.mixins = g.mixins ∙ sym h.mixins in
    let depends : y.depends ≡ z.depends = zip-one IsDependency dependency-one m.depends y.depends z.depends g.depends h.depends in
    let breaks : y.breaks ≡ z.breaks = zip-one IsDependency dependency-one m.breaks y.breaks z.breaks g.breaks h.breaks in
    let loaded : y.loaded ≡ z.loaded = bool-one y.loaded z.loaded (IsFor side m.environment) g.loaded h.loaded in
    same-mod y.path z.path y.id z.id y.version z.version y.provides z.provides y.mixins z.mixins y.depends z.depends y.breaks z.breaks y.loaded z.loaded at id version provides mixins depends breaks loaded

pub object-one : IsOne IsObjectText
object-one bytes v w g h = let both : Some v ≡ Some w = sym g.whole ∙ h.whole in cc

pub mod-one : (path content : List ℕ) (side : Side) (info other : ModInfo) → IsMod path content side info → IsMod path content side other → info ≡ other
mod-one path content side info other (value, text, g) (value', text', h) =
    let same : value ≡ value' = object-one content value value' text text' in
    let keys : g.manifest ≡ h.manifest = manifest-one value g.manifest h.manifest g.keys (subst (λ (v : Data). IsManifest v h.manifest) (sym same) h.keys) in
    says-one path side g.manifest info other g.says (subst (λ (m : Manifest). SaysAs path side m other) (sym keys) h.says)
