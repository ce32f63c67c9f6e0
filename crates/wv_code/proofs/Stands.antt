-- The offsets of a layout.
use Rattle.std.proofs.Common.{◌≡◌, ℕ, zero, suc, ◌+◌, ◌^◌, ◌≤◌, ◌<◌, ℤ, List, [], ◌∷◌, ◌++◌, length, get_or, take, drop, refl, sym, ap, subst, ◌∙◌, append_assoc, arith}
use Rattle.std.specs.Prelude.{FitsSigned}
use Rattle.std.specs.List.{AllByRecursion}
use Rattle.std.specs.Int.{w32}
use Rattle.std.proofs.lemmas.Int.{ints}
use Rattle.std.proofs.lemmas.List.{take_more}
use Rattle.wv_base.specs.declared.class_file.PoolEntry.{PoolEntry}
use Rattle.wv_base.specs.declared.insn.Insn.{Insn}
use Rattle.wv_code.specs.Formed.{last_key}
use Rattle.wv_code.specs.Laying.{Takes, Stand, IsLarge}
use Rattle.wv_code.proofs.Lists.{split_at}

-- a tableswitch has at most 2^32 targets
pub targets_few : (low : ℤ) (count : ℕ) → FitsSigned w32 low → FitsSigned w32 (last_key low count) → count ≤ 2 ^ 32
targets_few low count a b = omega (arith, ints, a.sfits, b.sfits)

-- one instruction more
pub stand_push : (pool : List PoolEntry) (at : ℕ) (insns : List Insn) (offsets : List ℕ) (end bytes : ℕ) (i : Insn) → Stand pool at insns offsets end → Takes pool end i bytes
    → Stand pool at (insns ++ i ∷ []) (offsets ++ end ∷ []) (end + bytes)
stand_push pool at [] [] end bytes i h takes = (h, (bytes, subst (λ (z : ℕ). Takes pool z i bytes) h takes, ap (λ (z : ℕ). z + bytes) h))
stand_push pool at [] (o ∷ offsets) end bytes i h takes = absurd h
stand_push pool at (j ∷ insns) [] end bytes i h takes = absurd h
stand_push pool at (j ∷ insns) (o ∷ offsets) end bytes i h takes = (h.0, (h.1.0, h.1.1, stand_push pool (at + h.1.0) insns offsets end bytes i h.1.2 takes))

pub stands_on : (pool : List PoolEntry) (insns : List Insn) (k : ℕ) (d : Insn) (offsets : List ℕ) (at bytes : ℕ) → k < length insns → Stand pool 0 (take k insns) offsets at → Takes pool at (get_or insns k d) bytes
    → Stand pool 0 (take (k + 1) insns) (offsets ++ at ∷ []) (at + bytes)
stands_on pool insns k d offsets at bytes lt stand takes =
    subst (λ (front : List Insn). Stand pool 0 front (offsets ++ at ∷ []) (at + bytes)) (sym (take_more insns k d lt)) (stand_push pool 0 (take k insns) offsets at bytes (get_or insns k d) stand takes)

pub is_large : (pool : List PoolEntry) (insns : List Insn) (k : ℕ) (d : Insn) (offsets : List ℕ) (at bytes : ℕ) → k < length insns → Stand pool 0 (take k insns) offsets at → Takes pool at (get_or insns k d) bytes → 65535 < at + bytes → IsLarge pool insns
is_large pool insns k d offsets at bytes lt stand takes passes = record {
  front = take k insns ++ get_or insns k d ∷ [];
  back = drop (k + 1) insns;
  parts = split_at insns k d lt ∙ sym (append_assoc (take k insns) (get_or insns k d ∷ []) (drop (k + 1) insns));
  offsets = offsets ++ at ∷ [];
  end = at + bytes;
  stand = stand_push pool 0 (take k insns) offsets at bytes (get_or insns k d) stand takes;
  passes = passes;
}

-- each instruction has an offset
pub as_many : (pool : List PoolEntry) (at : ℕ) (insns : List Insn) (offsets : List ℕ) (end : ℕ) → Stand pool at insns offsets end → length offsets ≡ length insns
as_many pool at [] [] end h = refl
as_many pool at [] (o ∷ offsets) end h = absurd h
as_many pool at (i ∷ insns) [] end h = absurd h
as_many pool at (i ∷ insns) (o ∷ offsets) end h = ap suc (as_many pool (at + h.1.0) insns offsets end h.1.2)

-- where an instruction begins, or the code ends
abbrev pub start : List ℕ → ℕ → ℕ → ℕ
start offsets end k = get_or (offsets ++ end ∷ []) k 0

pub first_start : (pool : List PoolEntry) (at : ℕ) (insns : List Insn) (offsets : List ℕ) (end : ℕ) → Stand pool at insns offsets end → start offsets end 0 ≡ at
first_start pool at [] [] end h = h
first_start pool at [] (o ∷ offsets) end h = absurd h
first_start pool at (i ∷ insns) [] end h = absurd h
first_start pool at (i ∷ insns) (o ∷ offsets) end h = h.0

-- an instruction takes the bytes up to the next one
pub takes_at : (pool : List PoolEntry) (at : ℕ) (insns : List Insn) (offsets : List ℕ) (end k : ℕ) (d : Insn) → Stand pool at insns offsets end → k < length insns
    → (bytes : ℕ) × Takes pool (start offsets end k) (get_or insns k d) bytes × (start offsets end (suc k) ≡ start offsets end k + bytes)
takes_at pool at [] offsets end k d h lt = absurd (omega arith)
takes_at pool at (i ∷ insns) [] end k d h lt = absurd h
takes_at pool at (i ∷ insns) (o ∷ offsets) end zero d h lt =
    (h.1.0, subst (λ (z : ℕ). Takes pool z i h.1.0) (sym h.0) h.1.1, first_start pool (at + h.1.0) insns offsets end h.1.2 ∙ ap (λ (z : ℕ). z + h.1.0) (sym h.0))
takes_at pool at (i ∷ insns) (o ∷ offsets) end (suc k) d h lt = takes_at pool (at + h.1.0) insns offsets end k d h.1.2 (omega arith)

-- the offset of an instruction
pub start_is : (offsets : List ℕ) (end k : ℕ) → k < length offsets → start offsets end k ≡ get_or offsets k 0
start_is [] end k lt = absurd (omega arith)
start_is (o ∷ offsets) end zero lt = refl
start_is (o ∷ offsets) end (suc k) lt = start_is offsets end k (omega arith)

pub last_start : (offsets : List ℕ) (end : ℕ) → start offsets end (length offsets) ≡ end
last_start [] end = refl
last_start (o ∷ offsets) end = last_start offsets end

-- no offset is behind the end
pub end_behind : (pool : List PoolEntry) (at : ℕ) (insns : List Insn) (offsets : List ℕ) (end : ℕ) → Stand pool at insns offsets end → at ≤ end
end_behind pool at [] [] end h = omega (arith, h)
end_behind pool at [] (o ∷ offsets) end h = absurd h
end_behind pool at (i ∷ insns) [] end h = absurd h
end_behind pool at (i ∷ insns) (o ∷ offsets) end h = omega (arith, end_behind pool (at + h.1.0) insns offsets end h.1.2)

pub within : (pool : List PoolEntry) (at : ℕ) (insns : List Insn) (offsets : List ℕ) (end : ℕ) → Stand pool at insns offsets end → AllByRecursion (λ o. o ≤ end) offsets
within pool at [] [] end h = tt
within pool at [] (o ∷ offsets) end h = absurd h
within pool at (i ∷ insns) [] end h = absurd h
within pool at (i ∷ insns) (o ∷ offsets) end h =
    (omega (arith, h.0, end_behind pool (at + h.1.0) insns offsets end h.1.2), within pool (at + h.1.0) insns offsets end h.1.2)
