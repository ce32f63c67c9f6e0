-- Bytes that are put one behind the other.
use Rattle.std.proofs.Common.{◌≡◌, ℕ, zero, suc, ◌+◌, ◌<◌, List, [], ◌∷◌, ◌++◌, length, get_or, take, refl, sym, ap, subst, ◌∙◌, append_assoc, arith}
use Rattle.std.specs.List.{AllByRecursion}
use Rattle.std.proofs.lemmas.List.{append-nil, take_more}
use Rattle.wv_base.specs.declared.class_file.PoolEntry.{PoolEntry}
use Rattle.wv_base.specs.declared.constant.Const.TheVariants as constants
use Rattle.wv_pool.specs.Numbers.{Named}
use Rattle.wv_pool.proofs.Behind.{text_is, class_is}
use Rattle.wv_class.specs.Appending.{Appends, WritesEach, WritesText, WritesClassName, WritesConstant, class_constants}

pub written_as : (P Q : List ℕ → Type 0) (old new : List ℕ) → ((bytes : List ℕ) → P bytes → Q bytes) → Appends P old new → Appends Q old new
written_as P Q old new f h = record { bytes = h.bytes; written = f h.bytes h.written; longer = h.longer }

-- two, one behind the other
pub both_appended : (P Q R : List ℕ → Type 0) (old middle new : List ℕ) → ((a b : List ℕ) → P a → Q b → R (a ++ b)) → Appends P old middle → Appends Q middle new → Appends R old new
both_appended P Q R old middle new f h k = record {
  bytes = h.bytes ++ k.bytes;
  written = f h.bytes k.bytes h.written k.written;
  longer = k.longer ∙ ap (λ (t : List ℕ). t ++ k.bytes) h.longer ∙ append_assoc old h.bytes k.bytes;
}

-- ---- Items one behind the other

module _ {X : Type 0} (Writes : X → List ℕ → Type 0) where
  pub each_more : (xs : List X) (x : X) (a b : List ℕ) → WritesEach Writes xs a → Writes x b → WritesEach Writes (xs ++ x ∷ []) (a ++ b)
  each_more [] x a b h k = (b, [], k, refl, ap (λ (t : List ℕ). t ++ b) h ∙ sym (append-nil b))
  each_more (y ∷ xs) x a b h k = (h.0, h.1 ++ b, h.2, each_more xs x h.1 b h.3 k, ap (λ (t : List ℕ). t ++ b) h.4 ∙ append_assoc h.0 h.1 b)

  pub none_appended : (old : List ℕ) → Appends (WritesEach Writes []) old old
  none_appended old = record { bytes = []; written = refl; longer = sym (append-nil old) }

  pub more_appended : (xs : List X) (x : X) (start old new : List ℕ) → Appends (WritesEach Writes xs) start old → Appends (Writes x) old new → Appends (WritesEach Writes (xs ++ x ∷ [])) start new
  more_appended xs x start old new all next = both_appended (WritesEach Writes xs) (Writes x) (WritesEach Writes (xs ++ x ∷ [])) start old new (each_more xs x) all next

  pub next_appended : (xs : List X) (i : ℕ) (x : X) (start old new : List ℕ) → i < length xs → x ≡ get_or xs i x → Appends (WritesEach Writes (take i xs)) start old → Appends (Writes x) old new
      → Appends (WritesEach Writes (take (i + 1) xs)) start new
  next_appended xs i x start old new within is all next =
      subst (λ (t : List X). Appends (WritesEach Writes t) start new) (sym (take_more xs i x within ∙ ap (λ y. take i xs ++ y ∷ []) (sym is)))
      (more_appended (take i xs) x start old new all next)

-- ---- Numbers

pub text_written : (pool : List PoolEntry) (text bytes : List ℕ) → WritesConstant pool (constants.Utf8 text) bytes → WritesText pool text bytes
text_written pool text bytes h = (h.0, h.1, text_is pool h.0 text h.2, h.3)

pub class_written : (pool : List PoolEntry) (name bytes : List ℕ) → WritesConstant pool (constants.Class name) bytes → WritesClassName pool name bytes
class_written pool name bytes h = (h.0, h.1, class_is pool h.0 name h.2, h.3)

-- the class of one of the names has a number
pub class_named : (pool : List PoolEntry) (names : List (List ℕ)) (i : ℕ) (name : List ℕ) → i < length names → name ≡ get_or names i name → AllByRecursion (Named pool) (class_constants names) → Named pool (constants.Class name)
class_named pool [] i name within is h = absurd (omega arith)
class_named pool (n ∷ names) zero name within is h = subst (λ (t : List ℕ). Named pool (constants.Class t)) (sym is) h.0
class_named pool (n ∷ names) (suc i) name within is h = class_named pool names i name (omega arith) is h.1
