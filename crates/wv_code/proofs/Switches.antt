-- What sound switches mean.
use Rattle.std.proofs.Common.{◌≡◌, ℕ, ◌+◌, ℤ, List, length, refl, sym, ◌∙◌, arith}
use Rattle.std.specs.Prelude.{◌<ℤ◌}
use Rattle.std.proofs.lemmas.Int.{ints}
use Rattle.wv_base.specs.declared.class_file.PoolEntry.{PoolEntry}
use Rattle.wv_base.specs.declared.insn.Insn.TheVariants as insn
use Rattle.wv_insn.specs.declared.raw.Raw.TheVariants as raw
use Rattle.wv_insn.specs.Spelling.{padding, targets}
use Rattle.wv_code.specs.Breaks.{InsnBreaks, table_low}
use Rattle.wv_code.specs.Formed.{last_key}
use Rattle.wv_code.specs.Meaning.{Leads, AllLead, Means}
use Rattle.wv_code.proofs.Leading.{lead_lengths}

-- the last of the keys from low to high
pub high_is : (low high : ℤ) (count : ℕ) → (high <ℤ low → ⊥) → count ≡ targets low high → high ≡ last_key low count
unfolding targets
high_is low high count ne e = grind (arith, ints)

pub table_is : (pool : List PoolEntry) (offsets : List ℕ) (at : ℕ) (low high other : ℤ) (distances : List ℤ) (to : ℕ) (tos : List ℕ) → length distances ≡ targets low high
    → ((place : ℕ) → InsnBreaks pool offsets at (raw.Table low high other distances) place → ⊥) → Leads offsets at other to → AllLead offsets at distances tos → Means pool offsets at (raw.Table low high other distances) (insn.Table low to tos)
table_is pool offsets at low high other distances to tos spelled sound leads all =
    let count : length tos ≡ targets low high = sym (lead_lengths offsets at distances tos all) ∙ spelled in
    (refl, high_is low high (length tos) (λ below. sound (1 + padding at + 4) (table_low below)) count, leads, all)
