-- What the readers of a class file's parts answer: a fault is the number of bytes that are left from it on.
use Rattle.std.specs.Prelude.{◌≡◌, ℕ, ◌+◌, List, [], ◌∷◌, ◌++◌, length, Result, Ok, Err}
use Rattle.wv_base.specs.declared.class_file.PoolEntry.{PoolEntry}
use Rattle.wv_base.specs.declared.fault.ClassFault.{ClassFault}
use Rattle.wv_base.specs.declared.fault.ClassFault.TheVariants as faults
use Rattle.wv_pool.specs.References.{FirstBreaks}
use Rattle.wv_class.specs.declared.stop.Stop.{Stop}
use Rattle.wv_class.specs.declared.stop.Stop.TheVariants as stops
use Rattle.wv_class.specs.Layout.{Begins}

-- the bytes begin with an item, and go on with the rest
pub record Taken {X : Type 0} (S : ℕ → X → List ℕ → Type 0) (bytes : List ℕ) (value : X) (rest : List ℕ) : Type 0 where
  pub text : List ℕ
  pub parts : bytes ≡ text ++ rest
  pub spelled : S (length text) value text

-- The bytes begin with no item, and this is where it shows: some item begins with those before the place, and none with one
-- byte more, or the bytes end there.
pub record Stopped {X : Type 0} (S : ℕ → X → List ℕ → Type 0) (bytes : List ℕ) (left : ℕ) : Type 0 where
  pub front : List ℕ
  pub back : List ℕ
  pub parts : bytes ≡ front ++ back
  pub place : left ≡ length back
  pub begun : Begins S front
  pub none : (b : ℕ) (others : List ℕ) → back ≡ b ∷ others → Begins S (front ++ b ∷ []) → ⊥
  pub no_item : (value : X) (text rest : List ℕ) → bytes ≡ text ++ rest → S (length text) value text → ⊥

-- what a function returned, seen by view, is the item with which the bytes begin and what is behind it, unless memory ran out
abbrev pub Reads : {X Y : Type 0} → (X → Y × List ℕ) → (ℕ → Y → List ℕ → Type 0) → List ℕ → Result X Stop → Type 0
Reads view S bytes (Ok x) = Taken S bytes (view x).0 (view x).1
Reads view S bytes (Err (stops.Left left)) = Stopped S bytes left
Reads view S bytes (Err stops.Memory) = Unit {0}

-- the cause of a fault in the pool of a class file, which begins at place 8
abbrev pub PoolBreaks : List PoolEntry → ClassFault → Type 0
PoolBreaks pool (faults.Layout at) = ⊥
PoolBreaks pool (faults.Reference at) = (place : ℕ) × FirstBreaks pool place × (at ≡ 8 + place)
PoolBreaks pool faults.Memory = Unit {0}
