-- Attributes with the names that the pool has.
use Rattle.std.proofs.Common.{◌≡◌, ℕ, List, [], ◌∷◌, Option, Some, refl, subst, codes}
use Rattle.std.specs.List.{AllByRecursion}
use Rattle.wv_base.specs.declared.class_file.PoolEntry.{PoolEntry}
use Rattle.wv_base.specs.declared.class_file.Body.{Body}
use Rattle.wv_base.specs.declared.constant.Const.{Const}
use Rattle.wv_base.specs.declared.constant.Const.TheVariants as constants
use Rattle.wv_pool.specs.Numbers.{Named}
use Rattle.wv_code.specs.BodyConstants.{body_constants}
use Rattle.wv_class.specs.Needs.{parts_of, value_constants, code_constants, exceptions_constants}
use Rattle.wv_class.specs.Appending.{WritesNamed, class_constants}
use Rattle.wv_class.proofs.HasParts.{each_has_parts, parts_together, parts_named, part_named}

-- the same attribute, of whose content more is known
pub content_as : (pool : List PoolEntry) (name bytes : List ℕ) (P Q : List ℕ → Type 0) → ((content : List ℕ) → P content → Q content) → WritesNamed pool name P bytes → WritesNamed pool name Q bytes
content_as pool name bytes P Q f h = record { number = h.number; small = h.small; named = h.named; content = h.content; short = h.short; written = f h.content h.written; spelled = h.spelled }

-- ---- what the pool has

pub value_named : (pool : List PoolEntry) (value : Option Const) (c : Const) → value ≡ Some c → AllByRecursion (Named pool) (parts_of (value_constants value)) → Named pool (constants.Utf8 (codes "ConstantValue")) × Named pool c
value_named pool value c is h =
    let each = each_has_parts pool (constants.Utf8 (codes "ConstantValue") ∷ c ∷ []) (subst (λ (o : Option Const). AllByRecursion (Named pool) (parts_of (value_constants o))) is h) in
    (part_named pool (constants.Utf8 (codes "ConstantValue")) each.0, part_named pool c each.1.0)

pub code_named : (pool : List PoolEntry) (body : Option Body) (b : Body) → body ≡ Some b → AllByRecursion (Named pool) (parts_of (code_constants body))
    → Named pool (constants.Utf8 (codes "Code")) × AllByRecursion (Named pool) (parts_of (body_constants b))
code_named pool body b is h =
    let each = each_has_parts pool (constants.Utf8 (codes "Code") ∷ body_constants b) (subst (λ (o : Option Body). AllByRecursion (Named pool) (parts_of (code_constants o))) is h) in
    (part_named pool (constants.Utf8 (codes "Code")) each.0, parts_together pool (body_constants b) each.1)

pub exceptions_named : (pool : List PoolEntry) (names : List (List ℕ)) → (names ≡ [] → ⊥) → AllByRecursion (Named pool) (parts_of (exceptions_constants names))
    → Named pool (constants.Utf8 (codes "Exceptions")) × AllByRecursion (Named pool) (class_constants names)
exceptions_named pool [] some h = absurd (some refl)
exceptions_named pool (name ∷ names) some h = (parts_named pool (exceptions_constants (name ∷ names)) h)
