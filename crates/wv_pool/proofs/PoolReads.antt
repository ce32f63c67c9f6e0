-- What the calls that read a pool answer.
use Rattle.std.proofs.Common.{◌≡◌, ℕ, ◌+◌, ◌-◌, ◌≤◌, List, [], ◌∷◌, ◌++◌, length, take, Result, Ok, Err, refl, sym, ap, subst, ◌∙◌, inl, inr, arith}
use Rattle.std.specs.List.{AllByRecursion}
use Rattle.std.proofs.lemmas.List.{take_at, length-append}
use Rattle.wv_base.specs.declared.class_file.PoolEntry.{PoolEntry}
use Rattle.wv_pool.specs.Reading.{pool_at}
use Rattle.wv_pool.specs.Entries.{IsLayout, pool_bytes}
use Rattle.wv_pool.specs.References.{IsSound, BreaksAt, FirstBreaks, IsPool}
use Rattle.wv_pool.proofs.PlainEntries.{IsBytes}
use Rattle.wv_pool.proofs.Slots.{pool_takes, pool_again, ok_is}
use Rattle.wv_pool.proofs.Faults.{pool_stops}

abbrev Read : Type 0
Read = Result (List PoolEntry × List ℕ) ℕ

-- a pool that was read
pub record WasRead (bytes : List ℕ) (pool : List PoolEntry) (rest : List ℕ) : Type 0 where
  pub within : length rest ≤ length bytes
  pub layout : IsLayout pool
  pub taken : take (length bytes - length rest) bytes ≡ pool_bytes pool
  pub len : length bytes - length rest ≡ length (pool_bytes pool)

pub was_read : (bytes : List ℕ) (pool : List PoolEntry) (rest : List ℕ) → IsBytes bytes → pool_at bytes ≡ Ok (pool, rest) → WasRead bytes pool rest
was_read bytes pool rest fits e =
    let t = pool_takes bytes (pool, rest) fits e in
    let sum : length bytes ≡ length (pool_bytes pool) + length rest = ap length t.0.parts ∙ length-append (pool_bytes pool) rest in
    let len_is : length bytes - length rest ≡ length (pool_bytes pool) = omega (arith, sum) in
    record {
      within = omega (arith, sum);
      layout = t.1;
      taken = ap (λ (k : ℕ). take k bytes) len_is ∙ ap (take (length (pool_bytes pool))) t.0.parts ∙ take_at (pool_bytes pool) rest (length (pool_bytes pool)) refl;
      len = len_is;
    }

-- it is the only one that the bytes start with
pub one_read : (bytes : List ℕ) (pool other : List PoolEntry) (rest more : List ℕ) → pool_at bytes ≡ Ok (pool, rest) → IsLayout other → bytes ≡ pool_bytes other ++ more → pool ≡ other
one_read bytes pool other rest more e is starts = ap (λ (p : List PoolEntry × List ℕ). p.0) (ok_is (pool, rest) (other, more) (sym e ∙ ap pool_at starts ∙ pool_again other more is))

pub none_read : (bytes : List ℕ) (left : ℕ) (other : List PoolEntry) (more : List ℕ) → pool_at bytes ≡ Err left → IsLayout other → bytes ≡ pool_bytes other ++ more → ⊥
none_read bytes left other more e is starts = let never : ◌≡◌ {A = Read} (Ok (other, more)) (Err left) = sym (pool_again other more is) ∙ ap pool_at (sym starts) ∙ e in absurd cc

pub left_within : (bytes : List ℕ) (left : ℕ) → IsBytes bytes → pool_at bytes ≡ Err left → left ≤ length bytes
left_within bytes left fits e = (pool_stops bytes left fits e).within

sound_at : (pool before after all : List PoolEntry) (entry : PoolEntry) → AllByRecursion (IsSound pool) all → all ≡ before ++ entry ∷ after → IsSound pool entry
sound_at pool [] after all entry h e = (subst (AllByRecursion (IsSound pool)) e h).0
sound_at pool (b ∷ before) after all entry h e = sound_at pool before after (before ++ entry ∷ after) entry (subst (AllByRecursion (IsSound pool)) e h).1 refl

not_sound : (pool : List PoolEntry) (entry : PoolEntry) (field : ℕ) → IsSound pool entry → BreaksAt pool entry field → ⊥
not_sound pool entry field h (inl b) = b.1 h.0
not_sound pool entry field h (inr b) = b.2 h.1

pub no_break : (pool : List PoolEntry) (at : ℕ) → IsPool pool → FirstBreaks pool at → ⊥
no_break pool at is f = not_sound pool f.entry f.field (sound_at pool f.before f.after pool f.entry is.1 f.parts) f.breaks
