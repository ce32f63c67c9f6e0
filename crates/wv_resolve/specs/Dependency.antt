-- Entries of `depends` and `breaks`, and whether they are met (fabric.mod.json, schema version 1).
use Rattle.std.specs.Prelude.{◌≡◌, ℕ, List, map, flat_map, Any}
use Rattle.wv_base.specs.declared.rule.Rule.{Rule}
use Rattle.wv_base.specs.declared.rule.Rule.TheVariants.{DependsUnmet, BreaksMet}
use Rattle.wv_version.specs.declared.version.Version.{Version}
use Rattle.wv_version.specs.Version.{IsVersion}
use Rattle.wv_version.specs.Predicate.{Meets}
use Rattle.wv_mod.specs.declared.dependency.Dependency.{Dependency}
use Rattle.wv_mod.specs.declared.mod_info.ModInfo.{ModInfo}
use Rattle.wv_resolve.specs.declared.kind.Kind.{Kind}
use Rattle.wv_resolve.specs.declared.kind.Kind.TheVariants.{Depends, Breaks}
use Rattle.wv_resolve.specs.Presence.{Presence}

-- the version meets one of the predicates
abbrev pub MeetsOne : Version → Dependency → Type 0
MeetsOne version dependency = Any (λ requirement. Meets version requirement.predicate) dependency.any_of

-- the text spells a version that meets one of the predicates
abbrev pub SpellsMeeting : List ℕ → Dependency → Type 0
SpellsMeeting text dependency = (version : Version) × IsVersion text version × MeetsOne version dependency

-- an entry is met: what is present under its id has a version that meets one of its predicates
abbrev pub IsMet : List Presence → Dependency → Type 0
IsMet present dependency = Any (λ p. (p.id ≡ dependency.id) × SpellsMeeting p.version dependency) present

-- an entry of `depends` has to be met, and an entry of `breaks` must not be
abbrev pub Keeps : Kind → List Presence → Dependency → Type 0
Keeps Depends present dependency = IsMet present dependency
Keeps Breaks present dependency = IsMet present dependency → ⊥

-- an entry that doesn't keep what it asks
abbrev pub Fails : Kind → List Presence → Dependency → Type 0
Fails Depends present dependency = IsMet present dependency → ⊥
Fails Breaks present dependency = IsMet present dependency

-- the entries of a mod of one kind
abbrev pub entries_of : Kind → ModInfo → List Dependency
entries_of Depends info = info.depends
entries_of Breaks info = info.breaks

-- the rule that an entry breaks (our own numbers)
abbrev pub rule_of : Kind → Rule
rule_of Depends = DependsUnmet
rule_of Breaks = BreaksMet

-- the entries of a mod, each with the mod's path
abbrev pub mod_entries : Kind → ModInfo → List (List ℕ × Dependency)
mod_entries kind info = map (λ dependency. (info.path, dependency)) (entries_of kind info)

-- the entries of the mods in turn
abbrev pub all_entries : Kind → List ModInfo → List (List ℕ × Dependency)
all_entries kind mods = flat_map (mod_entries kind) mods
