-- The first rule that mods break, and what its refusal says (our own).
use Rattle.std.specs.Prelude.{◌≡◌, ◌⊎◌, ℕ, List, [], ◌∷◌, ◌++◌, flat_map, None, codes}
use Rattle.std.specs.List.{AllByRecursion}
use Rattle.wv_base.specs.declared.rule.Rule.{Rule}
use Rattle.wv_base.specs.declared.rule.Rule.TheVariants.{DuplicateId}
use Rattle.wv_base.specs.declared.broken.Broken.{Broken}
use Rattle.wv_mod.specs.declared.dependency.Requirement.{Requirement}
use Rattle.wv_mod.specs.declared.dependency.Dependency.{Dependency}
use Rattle.wv_mod.specs.declared.fault.ModFault.{ModFault}
use Rattle.wv_mod.specs.declared.fault.ModFault.TheVariants as fault
use Rattle.wv_resolve.specs.declared.kind.Kind.{Kind}
use Rattle.wv_resolve.specs.Presence.{Presence, IsAbsent, IsPresent, IsPresentAs, AreDistinct}
use Rattle.wv_resolve.specs.Dependency.{Keeps, Fails, rule_of}

-- the first of the list that has one property, where all before it have the other
pub record IsFirst {A : Type 0} (Before Here : A → Type 0) (list : List A) (x : A) : Type 0 where
  pub front : List A
  pub after : List A
  pub split : list ≡ front ++ x ∷ after
  pub before : AllByRecursion Before front
  pub here : Here x

-- the first whose id is present before it
pub record IsFirstTwice (present : List Presence) (p : Presence) : Type 0 where
  pub front : List Presence
  pub after : List Presence
  pub split : present ≡ front ++ p ∷ after
  pub before : AreDistinct front
  pub again : IsPresent front p.id

-- a rule is broken at a file
abbrev pub broken_at : Rule → List ℕ → (wanted found : List ℕ) → Broken
broken_at rule path wanted found = record {
  rule = rule;
  place = record { file = path; member = None; index = None };
  wanted = wanted;
  found = found;
}

-- an id is present twice
abbrev pub twice_broken : Presence → Broken
twice_broken p = broken_at DuplicateId p.path (codes "-") p.id

-- the texts of predicates, each behind ` or `
abbrev pub or_texts : List Requirement → List ℕ
or_texts requirements = flat_map (λ requirement. codes " or " ++ requirement.text) requirements

-- the texts of predicates with ` or ` between each two
abbrev pub either_text : List Requirement → List ℕ
either_text [] = []
either_text (first ∷ others) = first.text ++ or_texts others

-- what an entry asks: its id, a space, and its texts
abbrev pub wanted_text : Dependency → List ℕ
wanted_text dependency = dependency.id ++ codes " " ++ either_text dependency.any_of

-- the version that is present under the id, and `-` where none is
abbrev pub IsFound : List Presence → List ℕ → List ℕ → Type 0
IsFound present id found = IsPresentAs present id found ⊎ (IsAbsent present id × (found ≡ codes "-"))

-- the entry of the mod with this path is refused
abbrev pub IsRefused : Kind → List Presence → List ℕ × Dependency → Broken → Type 0
IsRefused kind present entry broken =
    (found : List ℕ) × IsFound present entry.1.id found × (broken ≡ broken_at (rule_of kind) entry.0 (wanted_text entry.1) found)

-- the first id that is present twice is refused
abbrev pub IsTwiceBroken : List Presence → Broken → Type 0
IsTwiceBroken present broken = (p : Presence) × IsFirstTwice present p × (broken ≡ twice_broken p)

-- the first entry that fails is refused
abbrev pub IsEntryBroken : Kind → List Presence → List (List ℕ × Dependency) → Broken → Type 0
IsEntryBroken kind present entries broken =
    (entry : List ℕ × Dependency) × IsFirst (λ e. Keeps kind present e.1) (λ e. Fails kind present e.1) entries entry
    × IsRefused kind present entry broken

-- a broken rule, or want of memory
abbrev pub IsBrokenFault : (Broken → Type 0) → ModFault → Type 0
IsBrokenFault Is (fault.Broken broken) = Is broken
IsBrokenFault Is fault.Memory = Unit {0}
