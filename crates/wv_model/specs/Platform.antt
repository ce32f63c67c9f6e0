-- The names of the platform's classes that the machines ask for. What is outside of a program's classes is named by the
-- platform (java.lang and java.io of Java SE 8, and Mixin 0.8.5's callbacks) or by no one; the selection is our own.
use Rattle.std.specs.Prelude.{ℕ, Bool, List, [], ◌∷◌, ◌++◌, map, codes, bytes_eq}
use Rattle.std.specs.List.{list_any}

-- these names in a package
abbrev pub in_package : List ℕ → List (List ℕ) → List (List ℕ)
in_package front names = map (λ name. front ++ name) names

-- the package of Mixin's callbacks
abbrev pub callbacks : List ℕ
callbacks = codes "org/spongepowered/asm/mixin/injection/callback/"

-- the throwables and the interfaces of `java.lang`
abbrev pub lang_throwables : List (List ℕ)
lang_throwables =
    codes "Throwable" ∷ codes "Exception" ∷ codes "Error" ∷ codes "RuntimeException" ∷ codes "AssertionError"
    ∷ codes "ArithmeticException" ∷ codes "ArrayStoreException" ∷ codes "ClassCastException"
    ∷ codes "IllegalArgumentException" ∷ codes "IllegalStateException" ∷ codes "IllegalMonitorStateException"
    ∷ codes "IndexOutOfBoundsException" ∷ codes "NegativeArraySizeException" ∷ codes "NullPointerException"
    ∷ codes "UnsupportedOperationException" ∷ codes "ArrayIndexOutOfBoundsException"
    ∷ codes "StringIndexOutOfBoundsException" ∷ codes "NumberFormatException" ∷ []

abbrev pub lang_interfaces : List (List ℕ)
lang_interfaces =
    codes "Comparable" ∷ codes "CharSequence" ∷ codes "Cloneable" ∷ codes "Iterable" ∷ codes "Runnable" ∷ []

-- `Throwable` and the classes below it
unfoldable pub throwables : List (List ℕ)
throwables =
    in_package (codes "java/lang/") lang_throwables ++ in_package callbacks (codes "CancellationException" ∷ [])

-- the interfaces
unfoldable pub interfaces : List (List ℕ)
interfaces =
    in_package (codes "java/lang/") lang_interfaces ++ in_package (codes "java/io/") (codes "Serializable" ∷ [])
    ++ in_package callbacks (codes "Cancellable" ∷ [])

-- whether a name is one of these
abbrev pub is_throwable : List ℕ → Bool
is_throwable name = list_any (bytes_eq name) throwables

abbrev pub is_platform_interface : List ℕ → Bool
is_platform_interface name = list_any (bytes_eq name) interfaces
