-- Access flags (JVM Specification table 4.6-A).
use Rattle.std.specs.Prelude.{ℕ, Bool, ◌==◌, ◌||◌}
use Rattle.std.specs.Int.RustNames.{bit_and}

abbrev pub has_flag : ℕ → ℕ → Bool
has_flag flag flags = bit_and flags flag == flag

abbrev pub is_static : ℕ → Bool
is_static flags = has_flag 0x0008 flags

abbrev pub is_native : ℕ → Bool
is_native flags = has_flag 0x0100 flags

abbrev pub is_abstract : ℕ → Bool
is_abstract flags = has_flag 0x0400 flags

-- native and abstract methods have no code (4.7.3)
abbrev pub is_bodiless : ℕ → Bool
is_bodiless flags = is_native flags || is_abstract flags
