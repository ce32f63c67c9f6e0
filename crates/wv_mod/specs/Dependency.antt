use Rattle.std.specs.Prelude.{◌≡◌, ℕ, List}
use Rattle.std.specs.List.{AllZip}
use Rattle.wv_version.specs.declared.predicate.Predicate.{Predicate}
use Rattle.wv_version.specs.Predicate.{IsPredicate}
use Rattle.wv_mod.specs.declared.dependency.Requirement.{Requirement}
use Rattle.wv_mod.specs.declared.dependency.Dependency.{Dependency}

-- the text, and the predicate that it spells
abbrev pub IsRequirement : List ℕ → Requirement → Type 0
IsRequirement text requirement = (requirement.text ≡ text) × IsPredicate text requirement.predicate

-- the predicates that the texts spell, in their order
abbrev pub AreRequirements : List (List ℕ) → List Requirement → Type 0
AreRequirements texts requirements = AllZip IsRequirement texts requirements

-- the id and the texts of an entry, read as predicates (fabric.mod.json, `depends`)
abbrev pub IsDependency : List ℕ × List (List ℕ) → Dependency → Type 0
IsDependency entry dependency = (dependency.id ≡ entry.0) × AreRequirements entry.1 dependency.any_of

-- the entries, in their order
abbrev pub AreDependencies : List (List ℕ × List (List ℕ)) → List Dependency → Type 0
AreDependencies entries dependencies = AllZip IsDependency entries dependencies

-- the texts of an entry
abbrev pub texts_of : List ℕ × List (List ℕ) → List (List ℕ)
texts_of entry = entry.1

-- the text spells a predicate
abbrev pub SpellsPredicate : List ℕ → Type 0
SpellsPredicate text = (predicate : Predicate) × IsPredicate text predicate
