-- The first break of a pool, and where it stands.
use Rattle.std.proofs.Common.{◌≡◌, ℕ, ◌+◌, ◌<◌, ◌≤◌, List, [], ◌∷◌, ◌++◌, length, Some, refl, sym, ap, subst, ◌∙◌, inl, inr, arith, ◌⊎◌}
use Rattle.std.specs.Prelude.{IsSomeAnd}
use Rattle.std.specs.List.{flat_map, AllByRecursion}
use Rattle.std.proofs.lemmas.List.{length-append}
use Rattle.std.proofs.lemmas.List.Concat.{flat_map-append}
use Rattle.wv_base.specs.declared.class_file.PoolEntry.{PoolEntry}
use Rattle.wv_base.specs.declared.class_file.PoolEntry.TheVariants as entries
use Rattle.wv_pool.specs.Entries.{number_bytes, entry_bytes, pool_bytes}
use Rattle.wv_pool.specs.References.{FirstHolds, SecondHolds, second_place, IsSound, BreaksAt, FirstBreaks}

-- a field that breaks what it must meet stands within its entry
field_within : (pool : List PoolEntry) (entry : PoolEntry) (place : ℕ) → BreaksAt pool entry place → place ≤ length (entry_bytes entry)
field_within pool (entries.Utf8 name) place (inl b) = absurd (b.1 tt)
field_within pool (entries.Utf8 name) place (inr b) = absurd (b.2 tt)
field_within pool (entries.Integer value) place (inl b) = absurd (b.1 tt)
field_within pool (entries.Integer value) place (inr b) = absurd (b.2 tt)
field_within pool (entries.Float bits) place (inl b) = absurd (b.1 tt)
field_within pool (entries.Float bits) place (inr b) = absurd (b.2 tt)
field_within pool (entries.Long value) place (inl b) = absurd (b.1 tt)
field_within pool (entries.Long value) place (inr b) = absurd (b.2 tt)
field_within pool (entries.Double bits) place (inl b) = absurd (b.1 tt)
field_within pool (entries.Double bits) place (inr b) = absurd (b.2 tt)
field_within pool (entries.Class name) place (inl b) = omega (arith, b.0)
field_within pool (entries.Class name) place (inr b) = absurd (b.2 tt)
field_within pool (entries.String text) place (inl b) = omega (arith, b.0)
field_within pool (entries.String text) place (inr b) = absurd (b.2 tt)
field_within pool (entries.Field class pair) place (inl b) = omega (arith, b.0)
field_within pool (entries.Field class pair) place (inr b) = omega (arith, b.0)
field_within pool (entries.Method class pair) place (inl b) = omega (arith, b.0)
field_within pool (entries.Method class pair) place (inr b) = omega (arith, b.0)
field_within pool (entries.InterfaceMethod class pair) place (inl b) = omega (arith, b.0)
field_within pool (entries.InterfaceMethod class pair) place (inr b) = omega (arith, b.0)
field_within pool (entries.NameAndType name descriptor) place (inl b) = omega (arith, b.0)
field_within pool (entries.NameAndType name descriptor) place (inr b) = omega (arith, b.0)
field_within pool (entries.MethodHandle kind reference) place (inl b) = omega (arith, b.0)
field_within pool (entries.MethodHandle kind reference) place (inr b) = omega (arith, b.0)
field_within pool (entries.MethodType descriptor) place (inl b) = omega (arith, b.0)
field_within pool (entries.MethodType descriptor) place (inr b) = absurd (b.2 tt)
field_within pool (entries.InvokeDynamic bootstrap pair) place (inl b) = absurd (b.1 tt)
field_within pool (entries.InvokeDynamic bootstrap pair) place (inr b) = omega (arith, b.0)
field_within pool entries.Unusable place (inl b) = absurd (b.1 tt)
field_within pool entries.Unusable place (inr b) = absurd (b.2 tt)

entry_spans : (before : List PoolEntry) (entry : PoolEntry) (after : List PoolEntry) → length (flat_map entry_bytes (before ++ entry ∷ after)) ≡ length (flat_map entry_bytes before) + (length (entry_bytes entry) + length (flat_map entry_bytes after))
entry_spans before entry after =
    ap length (flat_map-append entry_bytes before (entry ∷ after)) ∙ length-append (flat_map entry_bytes before) (flat_map entry_bytes (entry ∷ after))
    ∙ ap (λ (n : ℕ). length (flat_map entry_bytes before) + n) (length-append (entry_bytes entry) (flat_map entry_bytes after))

-- the first break stands within the pool
pub break_within : (pool : List PoolEntry) (at : ℕ) → FirstBreaks pool at → at ≤ length (pool_bytes pool)
break_within pool at b =
    let field = field_within pool b.entry b.field b.breaks in
    let spans = ap (λ (p : List PoolEntry). length (flat_map entry_bytes p)) b.parts ∙ entry_spans b.before b.entry b.after in
    let front = length-append (number_bytes (length pool + 1)) (flat_map entry_bytes pool) in
    omega (arith, b.place, field, spans, front)

not_sound : (pool : List PoolEntry) (entry : PoolEntry) (place : ℕ) → BreaksAt pool entry place → IsSound pool entry → ⊥
not_sound pool entry place (inl b) s = b.1 s.0
not_sound pool entry place (inr b) s = b.2 s.1

one_field : (pool : List PoolEntry) (entry : PoolEntry) (place other : ℕ) → BreaksAt pool entry place → BreaksAt pool entry other → place ≡ other
one_field pool entry place other (inl a) (inl b) = a.0 ∙ sym b.0
one_field pool entry place other (inl a) (inr b) = absurd (a.1 b.1)
one_field pool entry place other (inr a) (inl b) = absurd (b.1 a.1)
one_field pool entry place other (inr a) (inr b) = a.0 ∙ sym b.0

-- of two splits of a list behind sound entries, both at an entry that isn't, the sound entries are the same
record SameSplit (before : List PoolEntry) (entry : PoolEntry) (before' : List PoolEntry) (entry' : PoolEntry) : Type 0 where
  fronts : before ≡ before'
  ones : entry ≡ entry'

one_split : (pool before : List PoolEntry) (entry : PoolEntry) (after before' : List PoolEntry) (entry' : PoolEntry) (after' : List PoolEntry) → AllByRecursion (IsSound pool) before → AllByRecursion (IsSound pool) before' → (IsSound pool entry → ⊥) → (IsSound pool entry' → ⊥)
    → before ++ entry ∷ after ≡ before' ++ entry' ∷ after' → SameSplit before entry before' entry'
one_split pool [] entry after [] entry' after' s s' n n' e = record { fronts = refl; ones = cc }
one_split pool [] entry after (x ∷ before') entry' after' s s' n n' e = absurd (n (subst (IsSound pool) (let same : entry ≡ x = cc in sym same) s'.0))
one_split pool (x ∷ before) entry after [] entry' after' s s' n n' e = absurd (n' (subst (IsSound pool) (let same : x ≡ entry' = cc in same) s.0))
one_split pool (x ∷ before) entry after (y ∷ before') entry' after' s s' n n' e =
    let first : x ≡ y = cc in
    let others : before ++ entry ∷ after ≡ before' ++ entry' ∷ after' = cc in
    let r = one_split pool before entry after before' entry' after' s.1 s'.1 n n' others in
    record { fronts = ap (λ (z : PoolEntry). z ∷ before) first ∙ ap (λ (b : List PoolEntry). y ∷ b) r.fronts; ones = r.ones }

-- there is one first break
pub one_break : (pool : List PoolEntry) (at other : ℕ) → FirstBreaks pool at → FirstBreaks pool other → at ≡ other
one_break pool at other a b =
    let r = one_split pool a.before a.entry a.after b.before b.entry b.after a.sound b.sound (not_sound pool a.entry a.field a.breaks) (not_sound pool b.entry b.field b.breaks) (sym a.parts ∙ b.parts) in
    let field = one_field pool b.entry a.field b.field (subst (λ (e : PoolEntry). BreaksAt pool e a.field) r.ones a.breaks) b.breaks in
    let fronts = ap (λ (p : List PoolEntry). length (flat_map entry_bytes p)) r.fronts in
    omega (arith, a.place, b.place, field, fronts)
