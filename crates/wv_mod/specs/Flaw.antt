use Rattle.std.specs.Prelude.{◌≡◌, ◌⊎◌, ℕ, List, ◌∷◌, ◌++◌, Some, None, IfSome, codes, flat_map}
use Rattle.std.specs.List.{AllByRecursion}
use Rattle.serde_json.specs.Data.{Data, array, no_items}
use Rattle.serde_json.specs.Find.{get}
use Rattle.wv_base.specs.declared.rule.Rule.{Rule}
use Rattle.wv_base.specs.declared.rule.Rule.TheVariants.{ModBad, IdBad, NestedJars, PredicateBad}
use Rattle.wv_base.specs.declared.broken.Broken.{Broken}
use Rattle.wv_json.specs.Object.{IsObjectText}
use Rattle.wv_mod.specs.declared.manifest.Manifest.{Manifest}
use Rattle.wv_mod.specs.declared.fault.Flaw.{Flaw}
use Rattle.wv_mod.specs.declared.fault.Flaw.TheVariants.{Json, Key, Id, Jars, Predicate}
use Rattle.wv_mod.specs.declared.fault.Stop.{Stop}
use Rattle.wv_mod.specs.declared.fault.Stop.TheVariants as stop
use Rattle.wv_mod.specs.declared.fault.ModFault.{ModFault}
use Rattle.wv_mod.specs.declared.fault.ModFault.TheVariants as fault
use Rattle.wv_mod.specs.Manifest.{IsManifest}
use Rattle.wv_mod.specs.Key.{key_order, key_name, IsRight}
use Rattle.wv_mod.specs.Id.{first_bad_id}
use Rattle.wv_mod.specs.Dependency.{texts_of, SpellsPredicate}

-- the first of the list that lacks the property
pub record IsFirstWithout {A : Type 0} (Has : A → Type 0) (list : List A) (x : A) : Type 0 where
  pub front : List A
  pub after : List A
  pub split : list ≡ front ++ x ∷ after
  pub before : AllByRecursion Has front
  pub lacks : Has x → ⊥

-- `jars` is absent, or an empty list
abbrev pub HasNoJars : Data → Type 0
HasNoJars value = IfSome (get (codes "jars") value) (λ jars. jars ≡ array no_items)

-- the texts of `depends`, then those of `breaks`
abbrev pub predicate_texts : Manifest → List (List ℕ)
predicate_texts manifest = flat_map texts_of manifest.depends ++ flat_map texts_of manifest.breaks

-- what is wrong with the object, where all that is looked at earlier is right (our own order)
abbrev pub IsFlaw : Data → Flaw → Type 0
IsFlaw value Json = ⊥
IsFlaw value (Key key) = IsFirstWithout (IsRight value) key_order key
IsFlaw value (Id text) = (manifest : Manifest) × IsManifest value manifest
    × (first_bad_id manifest ≡ Some text)
IsFlaw value Jars = (manifest : Manifest) × IsManifest value manifest
    × (first_bad_id manifest ≡ None) × (HasNoJars value → ⊥)
IsFlaw value (Predicate text) = (manifest : Manifest) × IsManifest value manifest
    × (first_bad_id manifest ≡ None) × HasNoJars value
    × IsFirstWithout SpellsPredicate (predicate_texts manifest) text

-- what is wrong with the bytes: they are no object, or the object has a flaw
abbrev pub IsFlawOf : List ℕ → Flaw → Type 0
IsFlawOf bytes flaw = ((flaw ≡ Json) × ((value : Data) → IsObjectText bytes value → ⊥))
    ⊎ ((value : Data) × IsObjectText bytes value × IsFlaw value flaw)

-- the rule that the flaw breaks (our own numbers)
abbrev pub rule_of : Flaw → Rule
rule_of Json = ModBad
rule_of (Key key) = ModBad
rule_of (Id text) = IdBad
rule_of Jars = NestedJars
rule_of (Predicate text) = PredicateBad

-- what a refusal says was found
abbrev pub found_of : Flaw → List ℕ
found_of Json = codes "json"
found_of (Key key) = key_name key
found_of (Id text) = text
found_of Jars = codes "-"
found_of (Predicate text) = text

-- the rule that is broken at this path
abbrev pub broken_of : List ℕ → Flaw → Broken
broken_of path flaw = record {
  rule = rule_of flaw;
  place = record { file = path; member = None; index = None };
  wanted = codes "-";
  found = found_of flaw;
}

-- the rule that the description of this path and these bytes breaks, or want of memory
abbrev pub IsModFault : List ℕ → List ℕ → ModFault → Type 0
IsModFault path bytes (fault.Broken broken) = (flaw : Flaw) × IsFlawOf bytes flaw × (broken ≡ broken_of path flaw)
IsModFault path bytes fault.Memory = Unit {0}

-- a stop at the first wrong key
abbrev pub IsStopAtKey : Data → Stop → Type 0
IsStopAtKey value (stop.Flaw (Key key)) = IsFlaw value (Key key)
IsStopAtKey value (stop.Flaw flaw) = ⊥
IsStopAtKey value stop.Memory = Unit {0}

-- a stop at the first text that is no predicate
abbrev pub IsStopAtPredicate : List (List ℕ) → Stop → Type 0
IsStopAtPredicate texts (stop.Flaw (Predicate text)) = IsFirstWithout SpellsPredicate texts text
IsStopAtPredicate texts (stop.Flaw flaw) = ⊥
IsStopAtPredicate texts stop.Memory = Unit {0}

-- a stop at a flaw of the object
abbrev pub IsStop : Data → Stop → Type 0
IsStop value (stop.Flaw flaw) = IsFlaw value flaw
IsStop value stop.Memory = Unit {0}

-- a stop at a flaw of the bytes
abbrev pub IsStopOf : List ℕ → Stop → Type 0
IsStopOf bytes (stop.Flaw flaw) = IsFlawOf bytes flaw
IsStopOf bytes stop.Memory = Unit {0}
