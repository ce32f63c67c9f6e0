-- The keys of constants, as a map keeps them.
use Rattle.std.specs.Prelude.{ℕ, ℤ, pos, negsuc, List, [], ◌∷◌}
use Rattle.wv_pool.specs.declared.key.Key.{Key}
use Rattle.wv_pool.specs.declared.key.Key.TheVariants as keys

abbrev pub signed_words : ℕ → ℤ → List ℕ
signed_words tag (pos n) = tag ∷ 0 ∷ n ∷ []
signed_words tag (negsuc n) = tag ∷ 1 ∷ n ∷ []

-- a key's tag (JVM Specification 4.4) and its fields; a text's key is the text itself
abbrev pub words_of : Key → List ℕ
words_of (keys.Utf8 name) = 1 ∷ 0 ∷ 0 ∷ []
words_of (keys.Integer value) = signed_words 3 value
words_of (keys.Float bits) = 4 ∷ bits ∷ 0 ∷ []
words_of (keys.Long value) = signed_words 5 value
words_of (keys.Double bits) = 6 ∷ bits ∷ 0 ∷ []
words_of (keys.Class name) = 7 ∷ name ∷ 0 ∷ []
words_of (keys.String text) = 8 ∷ text ∷ 0 ∷ []
words_of (keys.Field class pair) = 9 ∷ class ∷ pair ∷ []
words_of (keys.Method class pair) = 10 ∷ class ∷ pair ∷ []
words_of (keys.InterfaceMethod class pair) = 11 ∷ class ∷ pair ∷ []
words_of (keys.NameAndType name descriptor) = 12 ∷ name ∷ descriptor ∷ []
words_of (keys.MethodHandle kind reference) = 15 ∷ kind ∷ reference ∷ []
words_of (keys.MethodType descriptor) = 16 ∷ descriptor ∷ 0 ∷ []
words_of (keys.InvokeDynamic bootstrap pair) = 18 ∷ bootstrap ∷ pair ∷ []
