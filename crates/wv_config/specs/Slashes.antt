-- Names of packages and classes with slashes (JVM Specification 4.2.1) in place of dots.
use Rattle.std.specs.Prelude.{◌≡◌, ◌==◌, if◌then◌else◌, ℕ, List, ◌∷◌, ◌++◌, map}

-- a dot becomes a slash, and every other byte stays
abbrev pub with_slash : ℕ → ℕ
with_slash byte = if byte == 46 then 47 else byte

abbrev pub with_slashes : List ℕ → List ℕ
with_slashes text = map with_slash text

-- the text that is read, with slashes
abbrev pub IsInSlashes : (List ℕ → Type 0) → List ℕ → Type 0
IsInSlashes IsRead slashed = (text : List ℕ) × IsRead text × (slashed ≡ with_slashes text)

-- the texts that are read, each with slashes
abbrev pub AreInSlashes : (List (List ℕ) → Type 0) → List (List ℕ) → Type 0
AreInSlashes IsRead slashed = (texts : List (List ℕ)) × IsRead texts × (slashed ≡ map with_slashes texts)

-- the class of an entry in a package (Mixin 0.8.5): the package, a slash, and the entry
abbrev pub class_of : List ℕ → List ℕ → List ℕ
class_of in_package entry = in_package ++ 47 ∷ entry
