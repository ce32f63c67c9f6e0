-- What a pool says stays true when entries are added at its end.
use Rattle.std.proofs.Common.{◌≡◌, ℕ, zero, suc, true, false, List, [], ◌∷◌, ◌++◌, Option, Some, None, refl, sym, ap, ◌∙◌}
use Rattle.std.specs.Prelude.{slice_get}
use Rattle.std.specs.Option.{option_map, option_and_then}
use Rattle.wv_base.specs.declared.class_file.PoolEntry.{PoolEntry}
use Rattle.wv_base.specs.declared.class_file.PoolEntry.TheVariants as entries
use Rattle.wv_base.specs.declared.constant.Const.{Const}
use Rattle.wv_base.specs.declared.constant.Const.TheVariants as constants
use Rattle.wv_base.specs.declared.constant.MemberReference.{MemberReference}
use Rattle.wv_pool.specs.References.{entry_of, text_in, text_of, class_in, class_of, pair_in, pair_of}
use Rattle.wv_pool.specs.Constants.{class_name, both, pair_texts, named_pair, member_of, member, handle, constant_in, constant_of}
use Rattle.wv_pool.proofs.Behind.{some_is, map_some, then_some}

get_grows : {X : Type 0} (xs ys : List X) (i : ℕ) (x : X) → slice_get xs i ≡ Some x → slice_get (xs ++ ys) i ≡ Some x
get_grows [] ys i x e = absurd cc
get_grows (a ∷ xs) ys zero x e = e
get_grows (a ∷ xs) ys (suc i) x e = get_grows xs ys i x e

pub entry_grows : (pool more : List PoolEntry) (n : ℕ) (e : PoolEntry) → entry_of pool n ≡ Some e → entry_of (pool ++ more) n ≡ Some e
entry_grows pool more zero e h = absurd cc
entry_grows pool more (suc place) e h = get_grows pool more place e h

-- what a number names as, where the entry is of that kind
grows : {A : Type 0} (kind : Option PoolEntry → Option A) → (kind None ≡ None) → (pool more : List PoolEntry) (n : ℕ) (a : A) → kind (entry_of pool n) ≡ Some a → kind (entry_of (pool ++ more) n) ≡ Some a
grows kind none pool more n a h = go (entry_of pool n) refl h
  where
    go : (o : Option PoolEntry) → entry_of pool n ≡ o → kind o ≡ Some a → kind (entry_of (pool ++ more) n) ≡ Some a
    go None e h = let never : None ≡ Some a = sym none ∙ h in absurd cc
    go (Some entry) e h = ap kind (entry_grows pool more n entry e) ∙ h

pub text_grows : (pool more : List PoolEntry) (n : ℕ) (x : List ℕ) → text_of pool n ≡ Some x → text_of (pool ++ more) n ≡ Some x
text_grows pool more n x h = grows text_in refl pool more n x h

pub class_grows : (pool more : List PoolEntry) (n p : ℕ) → class_of pool n ≡ Some p → class_of (pool ++ more) n ≡ Some p
class_grows pool more n p h = grows class_in refl pool more n p h

pub pair_grows : (pool more : List PoolEntry) (n : ℕ) (p : ℕ × ℕ) → pair_of pool n ≡ Some p → pair_of (pool ++ more) n ≡ Some p
pair_grows pool more n p h = grows pair_in refl pool more n p h

both_some : (a b : Option (List ℕ)) (p : List ℕ × List ℕ) → both a b ≡ Some p → (a ≡ Some p.0) × (b ≡ Some p.1)
both_some (Some a) (Some b) p e = let same : (a, b) ≡ p = some_is (a, b) p e in (ap (λ (q : List ℕ × List ℕ). Some q.0) same, ap (λ (q : List ℕ × List ℕ). Some q.1) same)
both_some (Some a) None p e = absurd cc
both_some None b p e = absurd cc

both_grows : (pool more : List PoolEntry) (m n : ℕ) (p : List ℕ × List ℕ) → both (text_of pool m) (text_of pool n) ≡ Some p → both (text_of (pool ++ more) m) (text_of (pool ++ more) n) ≡ Some p
both_grows pool more m n p e =
    let b = both_some (text_of pool m) (text_of pool n) p e in
    ap (λ (o : Option (List ℕ)). both o (text_of (pool ++ more) n)) (text_grows pool more m p.0 b.0) ∙ ap (both (Some p.0)) (text_grows pool more n p.1 b.1)

class_name_grows : (pool more : List PoolEntry) (n : ℕ) (x : List ℕ) → class_name pool n ≡ Some x → class_name (pool ++ more) n ≡ Some x
class_name_grows pool more n x e =
    let t = then_some (text_of pool) (class_of pool n) x e in
    ap (option_and_then (text_of (pool ++ more))) (class_grows pool more n t.0 t.1) ∙ text_grows pool more t.0 x t.2

texts_some : (pool : List PoolEntry) (o : Option (ℕ × ℕ)) (p : List ℕ × List ℕ) → pair_texts pool o ≡ Some p → (q : ℕ × ℕ) × (o ≡ Some q) × (both (text_of pool q.0) (text_of pool q.1) ≡ Some p)
texts_some pool None p e = absurd cc
texts_some pool (Some q) p e = (q, refl, e)

named_pair_grows : (pool more : List PoolEntry) (n : ℕ) (p : List ℕ × List ℕ) → named_pair pool n ≡ Some p → named_pair (pool ++ more) n ≡ Some p
named_pair_grows pool more n p e =
    let t = texts_some pool (pair_of pool n) p e in
    ap (pair_texts (pool ++ more)) (pair_grows pool more n t.0 t.1) ∙ both_grows pool more t.0.0 t.0.1 p t.2

member_some : (a : Option (List ℕ)) (b : Option (List ℕ × List ℕ)) (m : MemberReference) → member_of a b ≡ Some m → (x : List ℕ) × (p : List ℕ × List ℕ) × (a ≡ Some x) × (b ≡ Some p) × (member_of (Some x) (Some p) ≡ Some m)
member_some (Some x) (Some p) m e = (x, p, refl, refl, e)
member_some (Some x) None m e = absurd cc
member_some None b m e = absurd cc

member_grows : (pool more : List PoolEntry) (c p : ℕ) (m : MemberReference) → member pool c p ≡ Some m → member (pool ++ more) c p ≡ Some m
member_grows pool more c p m e =
    let t = member_some (class_name pool c) (named_pair pool p) m e in
    ap (λ (o : Option (List ℕ)). member_of o (named_pair (pool ++ more) p)) (class_name_grows pool more c t.0 t.2) ∙ ap (member_of (Some t.0)) (named_pair_grows pool more p t.1 t.3) ∙ t.4

mapped : {A B : Type 0} (f : A → B) (old new : Option A) (b : B) → ((a : A) → old ≡ Some a → new ≡ Some a) → option_map f old ≡ Some b → option_map f new ≡ Some b
mapped f old new b h e = let m = map_some f old b e in ap (option_map f) (h m.0 m.1) ∙ ap (λ x. Some x) m.2

handle_in : (pool more : List PoolEntry) (kind : ℕ) (e : PoolEntry) (c : Const) → handle pool kind (Some e) ≡ Some c → handle (pool ++ more) kind (Some e) ≡ Some c
handle_in pool more kind (entries.Utf8 x) c h = absurd cc
handle_in pool more kind (entries.Integer v) c h = absurd cc
handle_in pool more kind (entries.Float b) c h = absurd cc
handle_in pool more kind (entries.Long v) c h = absurd cc
handle_in pool more kind (entries.Double b) c h = absurd cc
handle_in pool more kind (entries.Class n) c h = absurd cc
handle_in pool more kind (entries.String n) c h = absurd cc
handle_in pool more kind (entries.Field m n) c h = mapped (λ x. constants.MethodHandle kind x false) (member pool m n) (member (pool ++ more) m n) c (member_grows pool more m n) h
handle_in pool more kind (entries.Method m n) c h = mapped (λ x. constants.MethodHandle kind x false) (member pool m n) (member (pool ++ more) m n) c (member_grows pool more m n) h
handle_in pool more kind (entries.InterfaceMethod m n) c h = mapped (λ x. constants.MethodHandle kind x true) (member pool m n) (member (pool ++ more) m n) c (member_grows pool more m n) h
handle_in pool more kind (entries.NameAndType m n) c h = absurd cc
handle_in pool more kind (entries.MethodHandle m n) c h = absurd cc
handle_in pool more kind (entries.MethodType n) c h = absurd cc
handle_in pool more kind (entries.InvokeDynamic m n) c h = absurd cc
handle_in pool more kind entries.Unusable c h = absurd cc

handle_grows : (pool more : List PoolEntry) (kind n : ℕ) (c : Const) → handle pool kind (entry_of pool n) ≡ Some c → handle (pool ++ more) kind (entry_of (pool ++ more) n) ≡ Some c
handle_grows pool more kind n c h = go (entry_of pool n) refl h
  where
    go : (o : Option PoolEntry) → entry_of pool n ≡ o → handle pool kind o ≡ Some c → handle (pool ++ more) kind (entry_of (pool ++ more) n) ≡ Some c
    go None e h = absurd cc
    go (Some entry) e h = ap (handle (pool ++ more) kind) (entry_grows pool more n entry e) ∙ handle_in pool more kind entry c h

pub constant_in_grows : (pool more : List PoolEntry) (e : PoolEntry) (c : Const) → constant_in pool e ≡ Some c → constant_in (pool ++ more) e ≡ Some c
constant_in_grows pool more (entries.Utf8 x) c h = h
constant_in_grows pool more (entries.Integer v) c h = h
constant_in_grows pool more (entries.Float b) c h = h
constant_in_grows pool more (entries.Long v) c h = h
constant_in_grows pool more (entries.Double b) c h = h
constant_in_grows pool more (entries.Class n) c h = mapped (λ x. constants.Class x) (text_of pool n) (text_of (pool ++ more) n) c (text_grows pool more n) h
constant_in_grows pool more (entries.String n) c h = mapped (λ x. constants.String x) (text_of pool n) (text_of (pool ++ more) n) c (text_grows pool more n) h
constant_in_grows pool more (entries.Field m n) c h = mapped (λ x. constants.Field x) (member pool m n) (member (pool ++ more) m n) c (member_grows pool more m n) h
constant_in_grows pool more (entries.Method m n) c h = mapped (λ x. constants.Method x false) (member pool m n) (member (pool ++ more) m n) c (member_grows pool more m n) h
constant_in_grows pool more (entries.InterfaceMethod m n) c h = mapped (λ x. constants.Method x true) (member pool m n) (member (pool ++ more) m n) c (member_grows pool more m n) h
constant_in_grows pool more (entries.NameAndType m n) c h = mapped (λ p. constants.NameAndType p.0 p.1) (both (text_of pool m) (text_of pool n)) (both (text_of (pool ++ more) m) (text_of (pool ++ more) n)) c (both_grows pool more m n) h
constant_in_grows pool more (entries.MethodHandle m n) c h = handle_grows pool more m n c h
constant_in_grows pool more (entries.MethodType n) c h = mapped (λ x. constants.MethodType x) (text_of pool n) (text_of (pool ++ more) n) c (text_grows pool more n) h
constant_in_grows pool more (entries.InvokeDynamic m n) c h = mapped (λ p. constants.InvokeDynamic m p.0 p.1) (named_pair pool n) (named_pair (pool ++ more) n) c (named_pair_grows pool more n) h
constant_in_grows pool more entries.Unusable c h = h

-- every older number names what it named
pub constant_grows : (pool more : List PoolEntry) (n : ℕ) (c : Const) → constant_of pool n ≡ Some c → constant_of (pool ++ more) n ≡ Some c
constant_grows pool more n c h =
    let t = then_some (constant_in pool) (entry_of pool n) c h in
    ap (option_and_then (constant_in (pool ++ more))) (entry_grows pool more n t.0 t.1) ∙ constant_in_grows pool more t.0 c t.2
