-- Names of classes with slashes (JVM Specification 4.2.1) in place of dots.
use Rattle.std.specs.Prelude.{◌==◌, if◌then◌else◌, ℕ, List, map}

-- a dot becomes a slash, and every other byte stays
abbrev pub with_slash : ℕ → ℕ
with_slash byte = if byte == 46 then 47 else byte

abbrev pub with_slashes : List ℕ → List ℕ
with_slashes text = map with_slash text
