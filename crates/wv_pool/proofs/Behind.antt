-- What entry stands behind a constant.
use Rattle.std.proofs.Common.{◌≡◌, ℕ, Bool, true, false, cond, List, length, Option, Some, None, refl, sym, ap, ◌∙◌, arith}
use Rattle.std.specs.Prelude.{nat_eq, nat_lt}
use Rattle.std.specs.Option.{option_map, option_and_then}
use Rattle.wv_base.specs.declared.class_file.PoolEntry.{PoolEntry}
use Rattle.wv_base.specs.declared.class_file.PoolEntry.TheVariants as entries
use Rattle.wv_base.specs.declared.constant.Const.{Const}
use Rattle.wv_base.specs.declared.constant.Const.TheVariants as constants
use Rattle.wv_base.specs.declared.constant.MemberReference.{MemberReference}
use Rattle.wv_pool.specs.References.{entry_of, text_in, text_of, class_in, pair_in}
use Rattle.wv_pool.specs.Adding.{slots_of, numbers_of}
use Rattle.wv_pool.specs.Building.{level_in}
use Rattle.wv_pool.specs.Constants.{class_name, both, pair_texts, named_pair, member, handle, constant_in, constant_of}

-- the tag of a constant's entry; a method's is one of two
pub const_tag : Const → ℕ
const_tag (constants.Utf8 x) = 1
const_tag (constants.Integer v) = 3
const_tag (constants.Float b) = 4
const_tag (constants.Long v) = 5
const_tag (constants.Double b) = 6
const_tag (constants.Class x) = 7
const_tag (constants.String x) = 8
const_tag (constants.Field m) = 9
const_tag (constants.Method m false) = 10
const_tag (constants.Method m true) = 11
const_tag (constants.NameAndType x y) = 12
const_tag (constants.MethodHandle kind m i) = 15
const_tag (constants.MethodType x) = 16
const_tag (constants.InvokeDynamic b x y) = 18

pub some_is : {A : Type 0} (a b : A) → ◌≡◌ {A = Option A} (Some a) (Some b) → a ≡ b
some_is a b e = cc

pub map_some : {A B : Type 0} (f : A → B) (o : Option A) (b : B) → option_map f o ≡ Some b → (a : A) × (o ≡ Some a) × (f a ≡ b)
map_some f None b e = absurd cc
map_some f (Some a) b e = (a, refl, some_is (f a) b e)

pub then_some : {A B : Type 0} (f : A → Option B) (o : Option A) (b : B) → option_and_then f o ≡ Some b → (a : A) × (o ≡ Some a) × (f a ≡ Some b)
then_some f None b e = absurd cc
then_some f (Some a) b e = (a, refl, e)

mapped_tag : {A : Type 0} (f : A → Const) (o : Option A) (c : Const) (tag : ℕ) → ((a : A) → const_tag (f a) ≡ tag) → option_map f o ≡ Some c → tag ≡ const_tag c
mapped_tag f o c tag h e = let m = map_some f o c e in sym (h m.0) ∙ ap const_tag m.2

handle_tag : (pool : List PoolEntry) (kind : ℕ) (o : Option PoolEntry) (c : Const) → handle pool kind o ≡ Some c → 15 ≡ const_tag c
unfolding const_tag
handle_tag pool kind None c e = absurd cc
handle_tag pool kind (Some (entries.Utf8 x)) c e = absurd cc
handle_tag pool kind (Some (entries.Integer v)) c e = absurd cc
handle_tag pool kind (Some (entries.Float b)) c e = absurd cc
handle_tag pool kind (Some (entries.Long v)) c e = absurd cc
handle_tag pool kind (Some (entries.Double b)) c e = absurd cc
handle_tag pool kind (Some (entries.Class n)) c e = absurd cc
handle_tag pool kind (Some (entries.String n)) c e = absurd cc
handle_tag pool kind (Some (entries.Field m n)) c e = mapped_tag (λ x. constants.MethodHandle kind x false) (member pool m n) c 15 (λ _. refl) e
handle_tag pool kind (Some (entries.Method m n)) c e = mapped_tag (λ x. constants.MethodHandle kind x false) (member pool m n) c 15 (λ _. refl) e
handle_tag pool kind (Some (entries.InterfaceMethod m n)) c e = mapped_tag (λ x. constants.MethodHandle kind x true) (member pool m n) c 15 (λ _. refl) e
handle_tag pool kind (Some (entries.NameAndType m n)) c e = absurd cc
handle_tag pool kind (Some (entries.MethodHandle m n)) c e = absurd cc
handle_tag pool kind (Some (entries.MethodType n)) c e = absurd cc
handle_tag pool kind (Some (entries.InvokeDynamic m n)) c e = absurd cc
handle_tag pool kind (Some entries.Unusable) c e = absurd cc

pub entry_tag : PoolEntry → ℕ
entry_tag (entries.Utf8 x) = 1
entry_tag (entries.Integer v) = 3
entry_tag (entries.Float b) = 4
entry_tag (entries.Long v) = 5
entry_tag (entries.Double b) = 6
entry_tag (entries.Class n) = 7
entry_tag (entries.String n) = 8
entry_tag (entries.Field m n) = 9
entry_tag (entries.Method m n) = 10
entry_tag (entries.InterfaceMethod m n) = 11
entry_tag (entries.NameAndType m n) = 12
entry_tag (entries.MethodHandle m n) = 15
entry_tag (entries.MethodType n) = 16
entry_tag (entries.InvokeDynamic m n) = 18
entry_tag entries.Unusable = 0

-- the level of an entry with a tag
pub tag_level : ℕ → ℕ
tag_level t = cond (nat_eq t 0) 4 (cond (nat_lt t 7) 0 (cond (nat_lt t 9) 1 (cond (nat_lt t 12) 2 (cond (nat_eq t 12) 1 (cond (nat_eq t 15) 3 (cond (nat_eq t 16) 1 2))))))

pub level_is : (e : PoolEntry) → level_in e ≡ tag_level (entry_tag e)
unfolding tag_level entry_tag
level_is (entries.Utf8 x) = refl
level_is (entries.Integer v) = refl
level_is (entries.Float b) = refl
level_is (entries.Long v) = refl
level_is (entries.Double b) = refl
level_is (entries.Class n) = refl
level_is (entries.String n) = refl
level_is (entries.Field m n) = refl
level_is (entries.Method m n) = refl
level_is (entries.InterfaceMethod m n) = refl
level_is (entries.NameAndType m n) = refl
level_is (entries.MethodHandle m n) = refl
level_is (entries.MethodType n) = refl
level_is (entries.InvokeDynamic m n) = refl
level_is entries.Unusable = refl

pub tag_is : (pool : List PoolEntry) (e : PoolEntry) (c : Const) → constant_in pool e ≡ Some c → entry_tag e ≡ const_tag c
unfolding const_tag entry_tag
tag_is pool (entries.Utf8 x) c e = ap const_tag (some_is (constants.Utf8 x) c e)
tag_is pool (entries.Integer v) c e = ap const_tag (some_is (constants.Integer v) c e)
tag_is pool (entries.Float b) c e = ap const_tag (some_is (constants.Float b) c e)
tag_is pool (entries.Long v) c e = ap const_tag (some_is (constants.Long v) c e)
tag_is pool (entries.Double b) c e = ap const_tag (some_is (constants.Double b) c e)
tag_is pool (entries.Class n) c e = mapped_tag (λ x. constants.Class x) (text_of pool n) c 7 (λ _. refl) e
tag_is pool (entries.String n) c e = mapped_tag (λ x. constants.String x) (text_of pool n) c 8 (λ _. refl) e
tag_is pool (entries.Field m n) c e = mapped_tag (λ x. constants.Field x) (member pool m n) c 9 (λ _. refl) e
tag_is pool (entries.Method m n) c e = mapped_tag (λ x. constants.Method x false) (member pool m n) c 10 (λ _. refl) e
tag_is pool (entries.InterfaceMethod m n) c e = mapped_tag (λ x. constants.Method x true) (member pool m n) c 11 (λ _. refl) e
tag_is pool (entries.NameAndType m n) c e = mapped_tag (λ p. constants.NameAndType p.0 p.1) (both (text_of pool m) (text_of pool n)) c 12 (λ _. refl) e
tag_is pool (entries.MethodHandle m n) c e = handle_tag pool m (entry_of pool n) c e
tag_is pool (entries.MethodType n) c e = mapped_tag (λ x. constants.MethodType x) (text_of pool n) c 16 (λ _. refl) e
tag_is pool (entries.InvokeDynamic m n) c e = mapped_tag (λ p. constants.InvokeDynamic m p.0 p.1) (named_pair pool n) c 18 (λ _. refl) e
tag_is pool entries.Unusable c e = absurd cc

text_behind : (pool : List PoolEntry) (entry : PoolEntry) (y : List ℕ) → constant_in pool entry ≡ Some (constants.Utf8 y) → text_in (Some entry) ≡ Some y
unfolding const_tag entry_tag
text_behind pool (entries.Utf8 x) y e = cc (some_is (constants.Utf8 x) (constants.Utf8 y) e)
text_behind pool (entries.Integer v) y e = let t = tag_is pool (entries.Integer v) (constants.Utf8 y) e in absurd (omega (arith, t))
text_behind pool (entries.Float b) y e = let t = tag_is pool (entries.Float b) (constants.Utf8 y) e in absurd (omega (arith, t))
text_behind pool (entries.Long v) y e = let t = tag_is pool (entries.Long v) (constants.Utf8 y) e in absurd (omega (arith, t))
text_behind pool (entries.Double b) y e = let t = tag_is pool (entries.Double b) (constants.Utf8 y) e in absurd (omega (arith, t))
text_behind pool (entries.Class n) y e = let t = tag_is pool (entries.Class n) (constants.Utf8 y) e in absurd (omega (arith, t))
text_behind pool (entries.String n) y e = let t = tag_is pool (entries.String n) (constants.Utf8 y) e in absurd (omega (arith, t))
text_behind pool (entries.Field m n) y e = let t = tag_is pool (entries.Field m n) (constants.Utf8 y) e in absurd (omega (arith, t))
text_behind pool (entries.Method m n) y e = let t = tag_is pool (entries.Method m n) (constants.Utf8 y) e in absurd (omega (arith, t))
text_behind pool (entries.InterfaceMethod m n) y e = let t = tag_is pool (entries.InterfaceMethod m n) (constants.Utf8 y) e in absurd (omega (arith, t))
text_behind pool (entries.NameAndType m n) y e = let t = tag_is pool (entries.NameAndType m n) (constants.Utf8 y) e in absurd (omega (arith, t))
text_behind pool (entries.MethodHandle m n) y e = let t = tag_is pool (entries.MethodHandle m n) (constants.Utf8 y) e in absurd (omega (arith, t))
text_behind pool (entries.MethodType n) y e = let t = tag_is pool (entries.MethodType n) (constants.Utf8 y) e in absurd (omega (arith, t))
text_behind pool (entries.InvokeDynamic m n) y e = let t = tag_is pool (entries.InvokeDynamic m n) (constants.Utf8 y) e in absurd (omega (arith, t))
text_behind pool entries.Unusable y e = let t = tag_is pool entries.Unusable (constants.Utf8 y) e in absurd (omega (arith, t))

class_behind : (pool : List PoolEntry) (entry : PoolEntry) (y : List ℕ) → constant_in pool entry ≡ Some (constants.Class y) → option_and_then (text_of pool) (class_in (Some entry)) ≡ Some y
unfolding const_tag entry_tag
class_behind pool (entries.Utf8 x) y e = let t = tag_is pool (entries.Utf8 x) (constants.Class y) e in absurd (omega (arith, t))
class_behind pool (entries.Integer v) y e = let t = tag_is pool (entries.Integer v) (constants.Class y) e in absurd (omega (arith, t))
class_behind pool (entries.Float b) y e = let t = tag_is pool (entries.Float b) (constants.Class y) e in absurd (omega (arith, t))
class_behind pool (entries.Long v) y e = let t = tag_is pool (entries.Long v) (constants.Class y) e in absurd (omega (arith, t))
class_behind pool (entries.Double b) y e = let t = tag_is pool (entries.Double b) (constants.Class y) e in absurd (omega (arith, t))
class_behind pool (entries.Class n) y e = let m = map_some (λ x. constants.Class x) (text_of pool n) (constants.Class y) e in let same : m.0 ≡ y = cc (m.2) in m.1 ∙ ap (λ (t : List ℕ). Some t) same
class_behind pool (entries.String n) y e = let t = tag_is pool (entries.String n) (constants.Class y) e in absurd (omega (arith, t))
class_behind pool (entries.Field m n) y e = let t = tag_is pool (entries.Field m n) (constants.Class y) e in absurd (omega (arith, t))
class_behind pool (entries.Method m n) y e = let t = tag_is pool (entries.Method m n) (constants.Class y) e in absurd (omega (arith, t))
class_behind pool (entries.InterfaceMethod m n) y e = let t = tag_is pool (entries.InterfaceMethod m n) (constants.Class y) e in absurd (omega (arith, t))
class_behind pool (entries.NameAndType m n) y e = let t = tag_is pool (entries.NameAndType m n) (constants.Class y) e in absurd (omega (arith, t))
class_behind pool (entries.MethodHandle m n) y e = let t = tag_is pool (entries.MethodHandle m n) (constants.Class y) e in absurd (omega (arith, t))
class_behind pool (entries.MethodType n) y e = let t = tag_is pool (entries.MethodType n) (constants.Class y) e in absurd (omega (arith, t))
class_behind pool (entries.InvokeDynamic m n) y e = let t = tag_is pool (entries.InvokeDynamic m n) (constants.Class y) e in absurd (omega (arith, t))
class_behind pool entries.Unusable y e = let t = tag_is pool entries.Unusable (constants.Class y) e in absurd (omega (arith, t))

pair_behind : (pool : List PoolEntry) (entry : PoolEntry) (left right : List ℕ) → constant_in pool entry ≡ Some (constants.NameAndType left right) → pair_texts pool (pair_in (Some entry)) ≡ Some (left, right)
unfolding const_tag entry_tag
pair_behind pool (entries.Utf8 x) left right e = let t = tag_is pool (entries.Utf8 x) (constants.NameAndType left right) e in absurd (omega (arith, t))
pair_behind pool (entries.Integer v) left right e = let t = tag_is pool (entries.Integer v) (constants.NameAndType left right) e in absurd (omega (arith, t))
pair_behind pool (entries.Float b) left right e = let t = tag_is pool (entries.Float b) (constants.NameAndType left right) e in absurd (omega (arith, t))
pair_behind pool (entries.Long v) left right e = let t = tag_is pool (entries.Long v) (constants.NameAndType left right) e in absurd (omega (arith, t))
pair_behind pool (entries.Double b) left right e = let t = tag_is pool (entries.Double b) (constants.NameAndType left right) e in absurd (omega (arith, t))
pair_behind pool (entries.Class n) left right e = let t = tag_is pool (entries.Class n) (constants.NameAndType left right) e in absurd (omega (arith, t))
pair_behind pool (entries.String n) left right e = let t = tag_is pool (entries.String n) (constants.NameAndType left right) e in absurd (omega (arith, t))
pair_behind pool (entries.Field m n) left right e = let t = tag_is pool (entries.Field m n) (constants.NameAndType left right) e in absurd (omega (arith, t))
pair_behind pool (entries.Method m n) left right e = let t = tag_is pool (entries.Method m n) (constants.NameAndType left right) e in absurd (omega (arith, t))
pair_behind pool (entries.InterfaceMethod m n) left right e = let t = tag_is pool (entries.InterfaceMethod m n) (constants.NameAndType left right) e in absurd (omega (arith, t))
pair_behind pool (entries.NameAndType m n) left right e = let p = map_some (λ p. constants.NameAndType p.0 p.1) (both (text_of pool m) (text_of pool n)) (constants.NameAndType left right) e in let a : p.0.0 ≡ left = cc (p.2) in let b : p.0.1 ≡ right = cc (p.2) in p.1 ∙ ap (λ (t : List ℕ). Some (t, p.0.1)) a ∙ ap (λ (t : List ℕ). Some (left, t)) b
pair_behind pool (entries.MethodHandle m n) left right e = let t = tag_is pool (entries.MethodHandle m n) (constants.NameAndType left right) e in absurd (omega (arith, t))
pair_behind pool (entries.MethodType n) left right e = let t = tag_is pool (entries.MethodType n) (constants.NameAndType left right) e in absurd (omega (arith, t))
pair_behind pool (entries.InvokeDynamic m n) left right e = let t = tag_is pool (entries.InvokeDynamic m n) (constants.NameAndType left right) e in absurd (omega (arith, t))
pair_behind pool entries.Unusable left right e = let t = tag_is pool entries.Unusable (constants.NameAndType left right) e in absurd (omega (arith, t))

pub text_is : (pool : List PoolEntry) (n : ℕ) (y : List ℕ) → constant_of pool n ≡ Some (constants.Utf8 y) → text_of pool n ≡ Some y
text_is pool n y e = let t = then_some (constant_in pool) (entry_of pool n) (constants.Utf8 y) e in ap text_in t.1 ∙ text_behind pool t.0 y t.2

pub class_is : (pool : List PoolEntry) (n : ℕ) (y : List ℕ) → constant_of pool n ≡ Some (constants.Class y) → class_name pool n ≡ Some y
class_is pool n y e = let t = then_some (constant_in pool) (entry_of pool n) (constants.Class y) e in ap (λ (o : Option PoolEntry). option_and_then (text_of pool) (class_in o)) t.1 ∙ class_behind pool t.0 y t.2

pub pair_is : (pool : List PoolEntry) (n : ℕ) (x y : List ℕ) → constant_of pool n ≡ Some (constants.NameAndType x y) → named_pair pool n ≡ Some (x, y)
pair_is pool n x y e = let t = then_some (constant_in pool) (entry_of pool n) (constants.NameAndType x y) e in ap (λ (o : Option PoolEntry). pair_texts pool (pair_in o)) t.1 ∙ pair_behind pool t.0 x y t.2

field_behind : (pool : List PoolEntry) (entry : PoolEntry) (kind : ℕ) (r : MemberReference) → constant_in pool entry ≡ Some (constants.Field r) → handle pool kind (Some entry) ≡ Some (constants.MethodHandle kind r false)
unfolding const_tag entry_tag
field_behind pool (entries.Utf8 x) kind r e = let t = tag_is pool (entries.Utf8 x) (constants.Field r) e in absurd (omega (arith, t))
field_behind pool (entries.Integer v) kind r e = let t = tag_is pool (entries.Integer v) (constants.Field r) e in absurd (omega (arith, t))
field_behind pool (entries.Float b) kind r e = let t = tag_is pool (entries.Float b) (constants.Field r) e in absurd (omega (arith, t))
field_behind pool (entries.Long v) kind r e = let t = tag_is pool (entries.Long v) (constants.Field r) e in absurd (omega (arith, t))
field_behind pool (entries.Double b) kind r e = let t = tag_is pool (entries.Double b) (constants.Field r) e in absurd (omega (arith, t))
field_behind pool (entries.Class n) kind r e = let t = tag_is pool (entries.Class n) (constants.Field r) e in absurd (omega (arith, t))
field_behind pool (entries.String n) kind r e = let t = tag_is pool (entries.String n) (constants.Field r) e in absurd (omega (arith, t))
field_behind pool (entries.Field m n) kind r e = let p = map_some (λ x. constants.Field x) (member pool m n) (constants.Field r) e in let same : p.0 ≡ r = cc (p.2) in ap (λ (o : Option MemberReference). option_map (λ x. constants.MethodHandle kind x false) o) p.1 ∙ ap (λ (x : MemberReference). Some (constants.MethodHandle kind x false)) same
field_behind pool (entries.Method m n) kind r e = let t = tag_is pool (entries.Method m n) (constants.Field r) e in absurd (omega (arith, t))
field_behind pool (entries.InterfaceMethod m n) kind r e = let t = tag_is pool (entries.InterfaceMethod m n) (constants.Field r) e in absurd (omega (arith, t))
field_behind pool (entries.NameAndType m n) kind r e = let t = tag_is pool (entries.NameAndType m n) (constants.Field r) e in absurd (omega (arith, t))
field_behind pool (entries.MethodHandle m n) kind r e = let t = tag_is pool (entries.MethodHandle m n) (constants.Field r) e in absurd (omega (arith, t))
field_behind pool (entries.MethodType n) kind r e = let t = tag_is pool (entries.MethodType n) (constants.Field r) e in absurd (omega (arith, t))
field_behind pool (entries.InvokeDynamic m n) kind r e = let t = tag_is pool (entries.InvokeDynamic m n) (constants.Field r) e in absurd (omega (arith, t))
field_behind pool entries.Unusable kind r e = let t = tag_is pool entries.Unusable (constants.Field r) e in absurd (omega (arith, t))

method_behind : (pool : List PoolEntry) (entry : PoolEntry) (kind : ℕ) (r : MemberReference) (i : Bool) → constant_in pool entry ≡ Some (constants.Method r i) → handle pool kind (Some entry) ≡ Some (constants.MethodHandle kind r i)
unfolding const_tag entry_tag
method_behind pool (entries.Utf8 x) kind r false e = let t = tag_is pool (entries.Utf8 x) (constants.Method r false) e in absurd (omega (arith, t))
method_behind pool (entries.Integer v) kind r false e = let t = tag_is pool (entries.Integer v) (constants.Method r false) e in absurd (omega (arith, t))
method_behind pool (entries.Float b) kind r false e = let t = tag_is pool (entries.Float b) (constants.Method r false) e in absurd (omega (arith, t))
method_behind pool (entries.Long v) kind r false e = let t = tag_is pool (entries.Long v) (constants.Method r false) e in absurd (omega (arith, t))
method_behind pool (entries.Double b) kind r false e = let t = tag_is pool (entries.Double b) (constants.Method r false) e in absurd (omega (arith, t))
method_behind pool (entries.Class n) kind r false e = let t = tag_is pool (entries.Class n) (constants.Method r false) e in absurd (omega (arith, t))
method_behind pool (entries.String n) kind r false e = let t = tag_is pool (entries.String n) (constants.Method r false) e in absurd (omega (arith, t))
method_behind pool (entries.Field m n) kind r false e = let t = tag_is pool (entries.Field m n) (constants.Method r false) e in absurd (omega (arith, t))
method_behind pool (entries.Method m n) kind r false e = let p = map_some (λ x. constants.Method x false) (member pool m n) (constants.Method r false) e in let same : p.0 ≡ r = cc (p.2) in ap (λ (o : Option MemberReference). option_map (λ x. constants.MethodHandle kind x false) o) p.1 ∙ ap (λ (x : MemberReference). Some (constants.MethodHandle kind x false)) same
method_behind pool (entries.InterfaceMethod m n) kind r false e = let t = tag_is pool (entries.InterfaceMethod m n) (constants.Method r false) e in absurd (omega (arith, t))
method_behind pool (entries.NameAndType m n) kind r false e = let t = tag_is pool (entries.NameAndType m n) (constants.Method r false) e in absurd (omega (arith, t))
method_behind pool (entries.MethodHandle m n) kind r false e = let t = tag_is pool (entries.MethodHandle m n) (constants.Method r false) e in absurd (omega (arith, t))
method_behind pool (entries.MethodType n) kind r false e = let t = tag_is pool (entries.MethodType n) (constants.Method r false) e in absurd (omega (arith, t))
method_behind pool (entries.InvokeDynamic m n) kind r false e = let t = tag_is pool (entries.InvokeDynamic m n) (constants.Method r false) e in absurd (omega (arith, t))
method_behind pool entries.Unusable kind r false e = let t = tag_is pool entries.Unusable (constants.Method r false) e in absurd (omega (arith, t))
method_behind pool (entries.Utf8 x) kind r true e = let t = tag_is pool (entries.Utf8 x) (constants.Method r true) e in absurd (omega (arith, t))
method_behind pool (entries.Integer v) kind r true e = let t = tag_is pool (entries.Integer v) (constants.Method r true) e in absurd (omega (arith, t))
method_behind pool (entries.Float b) kind r true e = let t = tag_is pool (entries.Float b) (constants.Method r true) e in absurd (omega (arith, t))
method_behind pool (entries.Long v) kind r true e = let t = tag_is pool (entries.Long v) (constants.Method r true) e in absurd (omega (arith, t))
method_behind pool (entries.Double b) kind r true e = let t = tag_is pool (entries.Double b) (constants.Method r true) e in absurd (omega (arith, t))
method_behind pool (entries.Class n) kind r true e = let t = tag_is pool (entries.Class n) (constants.Method r true) e in absurd (omega (arith, t))
method_behind pool (entries.String n) kind r true e = let t = tag_is pool (entries.String n) (constants.Method r true) e in absurd (omega (arith, t))
method_behind pool (entries.Field m n) kind r true e = let t = tag_is pool (entries.Field m n) (constants.Method r true) e in absurd (omega (arith, t))
method_behind pool (entries.Method m n) kind r true e = let t = tag_is pool (entries.Method m n) (constants.Method r true) e in absurd (omega (arith, t))
method_behind pool (entries.InterfaceMethod m n) kind r true e = let p = map_some (λ x. constants.Method x true) (member pool m n) (constants.Method r true) e in let same : p.0 ≡ r = cc (p.2) in ap (λ (o : Option MemberReference). option_map (λ x. constants.MethodHandle kind x true) o) p.1 ∙ ap (λ (x : MemberReference). Some (constants.MethodHandle kind x true)) same
method_behind pool (entries.NameAndType m n) kind r true e = let t = tag_is pool (entries.NameAndType m n) (constants.Method r true) e in absurd (omega (arith, t))
method_behind pool (entries.MethodHandle m n) kind r true e = let t = tag_is pool (entries.MethodHandle m n) (constants.Method r true) e in absurd (omega (arith, t))
method_behind pool (entries.MethodType n) kind r true e = let t = tag_is pool (entries.MethodType n) (constants.Method r true) e in absurd (omega (arith, t))
method_behind pool (entries.InvokeDynamic m n) kind r true e = let t = tag_is pool (entries.InvokeDynamic m n) (constants.Method r true) e in absurd (omega (arith, t))
method_behind pool entries.Unusable kind r true e = let t = tag_is pool entries.Unusable (constants.Method r true) e in absurd (omega (arith, t))

pub field_handle : (pool : List PoolEntry) (kind n : ℕ) (r : MemberReference) → constant_of pool n ≡ Some (constants.Field r) → handle pool kind (entry_of pool n) ≡ Some (constants.MethodHandle kind r false)
field_handle pool kind n r e = let t = then_some (constant_in pool) (entry_of pool n) (constants.Field r) e in ap (handle pool kind) t.1 ∙ field_behind pool t.0 kind r t.2

pub method_handle : (pool : List PoolEntry) (kind n : ℕ) (r : MemberReference) (i : Bool) → constant_of pool n ≡ Some (constants.Method r i) → handle pool kind (entry_of pool n) ≡ Some (constants.MethodHandle kind r i)
method_handle pool kind n r i e = let t = then_some (constant_in pool) (entry_of pool n) (constants.Method r i) e in ap (handle pool kind) t.1 ∙ method_behind pool t.0 kind r i t.2

-- how many numbers an entry or a constant with a tag takes
tag_numbers : ℕ → ℕ
tag_numbers t = cond (nat_eq t 5) 2 (cond (nat_eq t 6) 2 1)

entry_numbers : (e : PoolEntry) → length (slots_of e) ≡ tag_numbers (entry_tag e)
unfolding tag_numbers entry_tag
entry_numbers (entries.Utf8 x) = refl
entry_numbers (entries.Integer v) = refl
entry_numbers (entries.Float b) = refl
entry_numbers (entries.Long v) = refl
entry_numbers (entries.Double b) = refl
entry_numbers (entries.Class n) = refl
entry_numbers (entries.String n) = refl
entry_numbers (entries.Field m n) = refl
entry_numbers (entries.Method m n) = refl
entry_numbers (entries.InterfaceMethod m n) = refl
entry_numbers (entries.NameAndType m n) = refl
entry_numbers (entries.MethodHandle m n) = refl
entry_numbers (entries.MethodType n) = refl
entry_numbers (entries.InvokeDynamic m n) = refl
entry_numbers entries.Unusable = refl

const_numbers : (c : Const) → numbers_of c ≡ tag_numbers (const_tag c)
unfolding tag_numbers const_tag
const_numbers (constants.Utf8 x) = refl
const_numbers (constants.Integer v) = refl
const_numbers (constants.Float b) = refl
const_numbers (constants.Long v) = refl
const_numbers (constants.Double b) = refl
const_numbers (constants.Class x) = refl
const_numbers (constants.String x) = refl
const_numbers (constants.Field m) = refl
const_numbers (constants.Method m false) = refl
const_numbers (constants.Method m true) = refl
const_numbers (constants.NameAndType x y) = refl
const_numbers (constants.MethodHandle kind m i) = refl
const_numbers (constants.MethodType x) = refl
const_numbers (constants.InvokeDynamic b x y) = refl

pub slots_numbers : (pool : List PoolEntry) (e : PoolEntry) (c : Const) → constant_in pool e ≡ Some c → length (slots_of e) ≡ numbers_of c
slots_numbers pool e c is = entry_numbers e ∙ ap tag_numbers (tag_is pool e c is) ∙ sym (const_numbers c)

pub field_entry : (pool : List PoolEntry) (e : PoolEntry) (r : MemberReference) → constant_in pool e ≡ Some (constants.Field r) → (a : ℕ) × (b : ℕ) × (e ≡ entries.Field a b) × (member pool a b ≡ Some r)
unfolding const_tag entry_tag
field_entry pool (entries.Utf8 x) r e = let t = tag_is pool (entries.Utf8 x) (constants.Field r) e in absurd (omega (arith, t))
field_entry pool (entries.Integer v) r e = let t = tag_is pool (entries.Integer v) (constants.Field r) e in absurd (omega (arith, t))
field_entry pool (entries.Float b) r e = let t = tag_is pool (entries.Float b) (constants.Field r) e in absurd (omega (arith, t))
field_entry pool (entries.Long v) r e = let t = tag_is pool (entries.Long v) (constants.Field r) e in absurd (omega (arith, t))
field_entry pool (entries.Double b) r e = let t = tag_is pool (entries.Double b) (constants.Field r) e in absurd (omega (arith, t))
field_entry pool (entries.Class n) r e = let t = tag_is pool (entries.Class n) (constants.Field r) e in absurd (omega (arith, t))
field_entry pool (entries.String n) r e = let t = tag_is pool (entries.String n) (constants.Field r) e in absurd (omega (arith, t))
field_entry pool (entries.Field m n) r e = let t = map_some (λ x. constants.Field x) (member pool m n) (constants.Field r) e in let same : t.0 ≡ r = cc (t.2) in (m, n, refl, t.1 ∙ ap (λ (x : MemberReference). Some x) same)
field_entry pool (entries.Method m n) r e = let t = tag_is pool (entries.Method m n) (constants.Field r) e in absurd (omega (arith, t))
field_entry pool (entries.InterfaceMethod m n) r e = let t = tag_is pool (entries.InterfaceMethod m n) (constants.Field r) e in absurd (omega (arith, t))
field_entry pool (entries.NameAndType m n) r e = let t = tag_is pool (entries.NameAndType m n) (constants.Field r) e in absurd (omega (arith, t))
field_entry pool (entries.MethodHandle m n) r e = let t = tag_is pool (entries.MethodHandle m n) (constants.Field r) e in absurd (omega (arith, t))
field_entry pool (entries.MethodType n) r e = let t = tag_is pool (entries.MethodType n) (constants.Field r) e in absurd (omega (arith, t))
field_entry pool (entries.InvokeDynamic m n) r e = let t = tag_is pool (entries.InvokeDynamic m n) (constants.Field r) e in absurd (omega (arith, t))
field_entry pool entries.Unusable r e = absurd cc

pub method_entry : (pool : List PoolEntry) (e : PoolEntry) (r : MemberReference) → constant_in pool e ≡ Some (constants.Method r false) → (a : ℕ) × (b : ℕ) × (e ≡ entries.Method a b) × (member pool a b ≡ Some r)
unfolding const_tag entry_tag
method_entry pool (entries.Utf8 x) r e = let t = tag_is pool (entries.Utf8 x) (constants.Method r false) e in absurd (omega (arith, t))
method_entry pool (entries.Integer v) r e = let t = tag_is pool (entries.Integer v) (constants.Method r false) e in absurd (omega (arith, t))
method_entry pool (entries.Float b) r e = let t = tag_is pool (entries.Float b) (constants.Method r false) e in absurd (omega (arith, t))
method_entry pool (entries.Long v) r e = let t = tag_is pool (entries.Long v) (constants.Method r false) e in absurd (omega (arith, t))
method_entry pool (entries.Double b) r e = let t = tag_is pool (entries.Double b) (constants.Method r false) e in absurd (omega (arith, t))
method_entry pool (entries.Class n) r e = let t = tag_is pool (entries.Class n) (constants.Method r false) e in absurd (omega (arith, t))
method_entry pool (entries.String n) r e = let t = tag_is pool (entries.String n) (constants.Method r false) e in absurd (omega (arith, t))
method_entry pool (entries.Field m n) r e = let t = tag_is pool (entries.Field m n) (constants.Method r false) e in absurd (omega (arith, t))
method_entry pool (entries.Method m n) r e = let t = map_some (λ x. constants.Method x false) (member pool m n) (constants.Method r false) e in let same : t.0 ≡ r = cc (t.2) in (m, n, refl, t.1 ∙ ap (λ (x : MemberReference). Some x) same)
method_entry pool (entries.InterfaceMethod m n) r e = let t = tag_is pool (entries.InterfaceMethod m n) (constants.Method r false) e in absurd (omega (arith, t))
method_entry pool (entries.NameAndType m n) r e = let t = tag_is pool (entries.NameAndType m n) (constants.Method r false) e in absurd (omega (arith, t))
method_entry pool (entries.MethodHandle m n) r e = let t = tag_is pool (entries.MethodHandle m n) (constants.Method r false) e in absurd (omega (arith, t))
method_entry pool (entries.MethodType n) r e = let t = tag_is pool (entries.MethodType n) (constants.Method r false) e in absurd (omega (arith, t))
method_entry pool (entries.InvokeDynamic m n) r e = let t = tag_is pool (entries.InvokeDynamic m n) (constants.Method r false) e in absurd (omega (arith, t))
method_entry pool entries.Unusable r e = absurd cc

pub interface_entry : (pool : List PoolEntry) (e : PoolEntry) (r : MemberReference) → constant_in pool e ≡ Some (constants.Method r true) → (a : ℕ) × (b : ℕ) × (e ≡ entries.InterfaceMethod a b) × (member pool a b ≡ Some r)
unfolding const_tag entry_tag
interface_entry pool (entries.Utf8 x) r e = let t = tag_is pool (entries.Utf8 x) (constants.Method r true) e in absurd (omega (arith, t))
interface_entry pool (entries.Integer v) r e = let t = tag_is pool (entries.Integer v) (constants.Method r true) e in absurd (omega (arith, t))
interface_entry pool (entries.Float b) r e = let t = tag_is pool (entries.Float b) (constants.Method r true) e in absurd (omega (arith, t))
interface_entry pool (entries.Long v) r e = let t = tag_is pool (entries.Long v) (constants.Method r true) e in absurd (omega (arith, t))
interface_entry pool (entries.Double b) r e = let t = tag_is pool (entries.Double b) (constants.Method r true) e in absurd (omega (arith, t))
interface_entry pool (entries.Class n) r e = let t = tag_is pool (entries.Class n) (constants.Method r true) e in absurd (omega (arith, t))
interface_entry pool (entries.String n) r e = let t = tag_is pool (entries.String n) (constants.Method r true) e in absurd (omega (arith, t))
interface_entry pool (entries.Field m n) r e = let t = tag_is pool (entries.Field m n) (constants.Method r true) e in absurd (omega (arith, t))
interface_entry pool (entries.Method m n) r e = let t = tag_is pool (entries.Method m n) (constants.Method r true) e in absurd (omega (arith, t))
interface_entry pool (entries.InterfaceMethod m n) r e = let t = map_some (λ x. constants.Method x true) (member pool m n) (constants.Method r true) e in let same : t.0 ≡ r = cc (t.2) in (m, n, refl, t.1 ∙ ap (λ (x : MemberReference). Some x) same)
interface_entry pool (entries.NameAndType m n) r e = let t = tag_is pool (entries.NameAndType m n) (constants.Method r true) e in absurd (omega (arith, t))
interface_entry pool (entries.MethodHandle m n) r e = let t = tag_is pool (entries.MethodHandle m n) (constants.Method r true) e in absurd (omega (arith, t))
interface_entry pool (entries.MethodType n) r e = let t = tag_is pool (entries.MethodType n) (constants.Method r true) e in absurd (omega (arith, t))
interface_entry pool (entries.InvokeDynamic m n) r e = let t = tag_is pool (entries.InvokeDynamic m n) (constants.Method r true) e in absurd (omega (arith, t))
interface_entry pool entries.Unusable r e = absurd cc
