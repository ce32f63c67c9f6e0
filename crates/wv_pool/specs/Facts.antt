-- What the grammars say of the texts of a pool.
use Rattle.std.specs.Prelude.{◌≡◌, ℕ, zero, suc, List, [], ◌∷◌, Option, Some, None, IsTrue, ◌↔◌, slice_get, ◌⊎◌}
use Rattle.wv_base.specs.declared.class_file.PoolEntry.{PoolEntry}
use Rattle.wv_base.specs.declared.class_file.PoolEntry.TheVariants as entries
use Rattle.wv_base.specs.Names.{is_unqualified}
use Rattle.wv_base.specs.Descriptor.{IsFieldDescriptor, IsMethodDescriptor, IsClassConstant}
use Rattle.wv_pool.specs.declared.facts.Facts.{Facts}
use Rattle.wv_pool.specs.declared.facts.Grammar.{Grammar}
use Rattle.wv_pool.specs.declared.facts.Grammar.TheVariants as grammars
use Rattle.wv_pool.specs.References.{IsInit, IsSpecial, HasAngle}

-- what a grammar asks of a text
abbrev pub Meets : Grammar → List ℕ → Type 0
Meets grammars.Any name = Unit {0}
Meets grammars.Class name = IsClassConstant name
Meets grammars.Unqualified name = IsTrue (is_unqualified name)
Meets grammars.Angle name = HasAngle name
Meets grammars.Init name = IsInit name
Meets grammars.Ordinary name = IsSpecial name → ⊥
Meets grammars.Field name = IsFieldDescriptor name
Meets grammars.Method name = IsMethodDescriptor name
Meets grammars.Descriptor name = IsFieldDescriptor name ⊎ IsMethodDescriptor name

pub record AreFacts (name : List ℕ) (facts : Facts) : Type 0 where
  pub class : IsTrue facts.class ↔ IsClassConstant name
  pub unqualified : IsTrue facts.unqualified ↔ IsTrue (is_unqualified name)
  pub angle : IsTrue facts.angle ↔ HasAngle name
  pub init : IsTrue facts.init ↔ IsInit name
  pub ordinary : IsTrue facts.ordinary ↔ (IsSpecial name → ⊥)
  pub field : IsTrue facts.field ↔ IsFieldDescriptor name
  pub method : IsTrue facts.method ↔ IsMethodDescriptor name

abbrev pub AreEntryFacts : PoolEntry → Option Facts → Type 0
AreEntryFacts (entries.Utf8 name) (Some facts) = AreFacts name facts
AreEntryFacts (entries.Utf8 name) None = ⊥
AreEntryFacts entry facts = facts ≡ None

-- the facts of each text of the pool, by its place
abbrev pub AreAllFacts : List PoolEntry → List (Option Facts) → Type 0
AreAllFacts [] [] = Unit {0}
AreAllFacts [] (_ ∷ _) = ⊥
AreAllFacts (_ ∷ _) [] = ⊥
AreAllFacts (entry ∷ pool) (facts ∷ all) = AreEntryFacts entry facts × AreAllFacts pool all

abbrev pub slot_of : List (Option Facts) → ℕ → Option (Option Facts)
slot_of all zero = None
slot_of all (suc place) = slice_get all place

abbrev pub facts_in : Option (Option Facts) → Option Facts
facts_in (Some facts) = facts
facts_in None = None

-- what a table of facts has at a number
abbrev pub facts_of : List (Option Facts) → ℕ → Option Facts
facts_of all number = facts_in (slot_of all number)
