-- A description has one flaw, and none where it says what its mod is.
use Rattle.std.proofs.Common.{◌≡◌, ℕ, List, [], ◌∷◌, ◌++◌, flat_map, Some, None, refl, ap, sym, ◌∙◌, subst, inl, inr}
use Rattle.std.specs.List.{AllByRecursion}
use Rattle.serde_json.specs.Data.{Data}
use Rattle.wv_base.specs.declared.side.Side.{Side}
use Rattle.wv_mod.specs.declared.fault.Flaw.{Flaw}
use Rattle.wv_mod.specs.declared.fault.Flaw.TheVariants.{Json, Key, Id, Jars, Predicate}
use Rattle.wv_mod.specs.declared.manifest.Manifest.{Manifest}
use Rattle.wv_mod.specs.declared.mod_info.ModInfo.{ModInfo}
use Rattle.wv_mod.specs.Dependency.{texts_of, SpellsPredicate}
use Rattle.wv_mod.specs.Id.{first_bad_id}
use Rattle.wv_mod.specs.Key.{key_order, IsRight}
use Rattle.wv_mod.specs.Manifest.{IsManifest}
use Rattle.wv_mod.specs.Flaw.{IsFirstWithout, predicate_texts, IsFlaw, IsFlawOf}
use Rattle.wv_mod.specs.ModInfo.{IsModOf, IsMod}
use Rattle.wv_mod.proofs.OneMod.{manifest-one, object-one}
use Rattle.wv_mod.proofs.Stopping.{dependencies-spell}

-- ---- The first without a property

without-one : {A : Type 0} (Has : A → Type 0) (list front after front' after' : List A) (x x' : A) → list ≡ front ++ x ∷ after → list ≡ front' ++ x' ∷ after' → AllByRecursion Has front → AllByRecursion Has front' → (Has x → ⊥) → (Has x' → ⊥) → x ≡ x'
without-one Has list [] after [] after' x x' e e' h h' lacks lacks' = cc
without-one Has list [] after (k ∷ front') after' x x' e e' h h' lacks lacks' =
    let same : k ≡ x = cc in absurd (lacks (subst Has same h'.0))
without-one Has list (k ∷ front) after [] after' x x' e e' h h' lacks lacks' =
    let same : k ≡ x' = cc in absurd (lacks' (subst Has same h.0))
without-one Has [] (k ∷ front) after (k' ∷ front') after' x x' e e' h h' lacks lacks' = cc
without-one Has (z ∷ list) (k ∷ front) after (k' ∷ front') after' x x' e e' h h' lacks lacks' =
    let rest : list ≡ front ++ x ∷ after = cc in
    let rest' : list ≡ front' ++ x' ∷ after' = cc in
    without-one Has list front after front' after' x x' rest rest' h.1 h'.1 lacks lacks'

first-one : {A : Type 0} (Has : A → Type 0) (list : List A) (x x' : A) → IsFirstWithout Has list x → IsFirstWithout Has list x' → x ≡ x'
first-one Has list x x' g h = without-one Has list g.front g.after h.front h.after x x' g.split h.split g.before h.before g.lacks h.lacks

within : {A : Type 0} (Has : A → Type 0) (front after : List A) (x : A) → AllByRecursion Has (front ++ x ∷ after) → Has x
within Has [] after x h = h.0
within Has (y ∷ front) after x h = within Has front after x h.1

all-not_first : {A : Type 0} (Has : A → Type 0) (list : List A) (x : A) → AllByRecursion Has list → IsFirstWithout Has list x → ⊥
all-not_first Has list x all first = first.lacks (within Has first.front first.after x (subst (AllByRecursion Has) first.split all))

-- ---- Flaws of one object

keys-right : (value : Data) (m : Manifest) → IsManifest value m → AllByRecursion (IsRight value) key_order
keys-right value m h = (h.schema, ((m.id, h.id), ((m.version, h.version), ((m.provides, h.provides), ((m.environment, h.environment), ((m.mixins, h.mixins), ((m.depends, h.depends), ((m.breaks, h.breaks), tt))))))))

-- what the ids of an object are doesn't depend on the reading
ids-same : (value : Data) (m n : Manifest) → IsManifest value m → IsManifest value n → first_bad_id m ≡ first_bad_id n
ids-same value m n g h = ap first_bad_id (manifest-one value m n g h)

some-none : {A : Type 0} (x : A) → Some x ≡ None → ⊥
some-none x e = cc

some-same : {A : Type 0} (x y : A) → Some x ≡ Some y → x ≡ y
some-same x y e = cc

objects-one : (value : Data) (f g : Flaw) → IsFlaw value f → IsFlaw value g → f ≡ g
objects-one value Json g h k = absurd h
objects-one value f Json h k = absurd k
objects-one value (Key x) (Key y) h k = ap Key (first-one (IsRight value) key_order x y h k)
objects-one value (Key x) (Id t) h k = absurd (all-not_first (IsRight value) key_order x (keys-right value k.0 k.1) h)
objects-one value (Key x) Jars h k = absurd (all-not_first (IsRight value) key_order x (keys-right value k.0 k.1) h)
objects-one value (Key x) (Predicate t) h k = absurd (all-not_first (IsRight value) key_order x (keys-right value k.0 k.1) h)
objects-one value (Id t) (Key y) h k = absurd (all-not_first (IsRight value) key_order y (keys-right value h.0 h.1) k)
objects-one value (Id s) (Id t) h k = ap Id (some-same s t (sym h.2 ∙ ids-same value h.0 k.0 h.1 k.1 ∙ k.2))
objects-one value (Id s) Jars h k = absurd (some-none s (sym h.2 ∙ ids-same value h.0 k.0 h.1 k.1 ∙ k.2))
objects-one value (Id s) (Predicate t) h k = absurd (some-none s (sym h.2 ∙ ids-same value h.0 k.0 h.1 k.1 ∙ k.2))
objects-one value Jars (Key y) h k = absurd (all-not_first (IsRight value) key_order y (keys-right value h.0 h.1) k)
objects-one value Jars (Id t) h k = absurd (some-none t (sym k.2 ∙ ids-same value k.0 h.0 k.1 h.1 ∙ h.2))
objects-one value Jars Jars h k = refl
objects-one value Jars (Predicate t) h k = absurd (h.3 k.3)
objects-one value (Predicate s) (Key y) h k = absurd (all-not_first (IsRight value) key_order y (keys-right value h.0 h.1) k)
objects-one value (Predicate s) (Id t) h k = absurd (some-none t (sym k.2 ∙ ids-same value k.0 h.0 k.1 h.1 ∙ h.2))
objects-one value (Predicate s) Jars h k = absurd (k.3 h.3)
objects-one value (Predicate s) (Predicate t) h k =
    let same : h.0 ≡ k.0 = manifest-one value h.0 k.0 h.1 k.1 in
    ap Predicate (first-one SpellsPredicate (predicate_texts k.0) s t (subst (λ (m : Manifest). IsFirstWithout SpellsPredicate (predicate_texts m) s) same h.4) k.4)

-- ---- Flaws of a description

pub one-flaw : (content : List ℕ) (f g : Flaw) → IsFlawOf content f → IsFlawOf content g → f ≡ g
one-flaw content f g (inl h) (inl k) = h.0 ∙ sym k.0
one-flaw content f g (inl h) (inr (value, text, k)) = absurd (h.1 value text)
one-flaw content f g (inr (value, text, h)) (inl k) = absurd (k.1 value text)
one-flaw content f g (inr (value, text, h)) (inr (value', text', k)) =
    objects-one value' f g (subst (λ (v : Data). IsFlaw v f) (object-one content value value' text text') h) k

each-append : {A : Type 0} (Has : A → Type 0) (xs ys : List A) → AllByRecursion Has xs → AllByRecursion Has ys → AllByRecursion Has (xs ++ ys)
each-append Has [] ys h k = k
each-append Has (x ∷ xs) ys h k = (h.0, each-append Has xs ys h.1 k)

mod-not_flawed : (path : List ℕ) (value : Data) (side : Side) (info : ModInfo) (flaw : Flaw) → IsModOf path value side info → IsFlaw value flaw → ⊥
mod-not_flawed path value side info Json h k = k
mod-not_flawed path value side info (Key x) h k = all-not_first (IsRight value) key_order x (keys-right value h.manifest h.keys) k
mod-not_flawed path value side info (Id t) h k = some-none t (sym k.2 ∙ ids-same value k.0 h.manifest k.1 h.keys ∙ h.ids)
mod-not_flawed path value side info Jars h k = k.3 h.jars
mod-not_flawed path value side info (Predicate t) h k =
    all-not_first SpellsPredicate (predicate_texts h.manifest) t
    (each-append SpellsPredicate (flat_map texts_of h.manifest.depends) (flat_map texts_of h.manifest.breaks) (dependencies-spell h.manifest.depends info.depends h.says.depends) (dependencies-spell h.manifest.breaks info.breaks h.says.breaks))
    (subst (λ (m : Manifest). IsFirstWithout SpellsPredicate (predicate_texts m) t) (manifest-one value k.0 h.manifest k.1 h.keys) k.4)

pub mod-no_flaw : (path content : List ℕ) (side : Side) (info : ModInfo) (flaw : Flaw) → IsMod path content side info → IsFlawOf content flaw → ⊥
mod-no_flaw path content side info flaw (value, text, h) (inl k) = k.1 value text
mod-no_flaw path content side info flaw (value, text, h) (inr (value', text', k)) =
    mod-not_flawed path value side info flaw h (subst (λ (v : Data). IsFlaw v flaw) (object-one content value' value text' text) k)
