-- Parts with numbers of a pool in place of their constants.
use Rattle.std.proofs.Common.{◌≡◌, ℕ, zero, suc, ◌+◌, ◌<◌, ◌≤◌, true, false, List, [], ◌∷◌, ◌++◌, length, get_or, take, Option, Some, refl, sym, ap, subst, ◌∙◌, append_assoc, arith, IsTrue}
use Rattle.std.specs.Option.{IsSomeAnd, option_map}
use Rattle.std.specs.List.{AllByRecursion}
use Rattle.std.proofs.lemmas.List.{append-nil, take_more}
use Rattle.wv_base.specs.declared.class_file.PoolEntry.{PoolEntry}
use Rattle.wv_base.specs.declared.class_file.PoolEntry.TheVariants as entries
use Rattle.wv_base.specs.declared.constant.Const.{Const}
use Rattle.wv_base.specs.declared.constant.Const.TheVariants as constants
use Rattle.wv_base.specs.declared.constant.MemberReference.{MemberReference}
use Rattle.wv_pool.specs.References.{entry_of, text_of}
use Rattle.wv_pool.specs.Constants.{both, named_pair, member, handle, constant_in, constant_of}
use Rattle.wv_pool.specs.Adding.{needs, Keeps, Grows}
use Rattle.wv_pool.proofs.Behind.{map_some, then_some, some_is}
use Rattle.wv_pool.proofs.Lacking.{grows_start, later}
use Rattle.wv_attr.specs.declared.mark.Mark.{Mark}
use Rattle.wv_attr.specs.declared.mark.Mark.TheVariants as marks
use Rattle.wv_attr.specs.declared.piece.Piece.{Piece}
use Rattle.wv_attr.specs.declared.piece.Piece.TheVariants as pieces
use Rattle.wv_attr.specs.Marks.{is_constant_tag, mark_bytes, table_bytes}
use Rattle.wv_attr.specs.References.{IsClassDescriptor, has_tag, IsSound}
use Rattle.wv_attr.specs.Meanings.{class_descriptor}
use Rattle.wv_attr.specs.Pieces.{piece_size, pieces_size, Names, AllName}
use Rattle.wv_attr.specs.Writing.{fits_tag, IsFormed, piece_needs, pieces_need}
use Rattle.wv_attr.proofs.Filling.{table-cons}
use Rattle.wv_attr.proofs.PoolGrowth.{text_kept}

-- ---- the constants that are needed

pub grows_nothing : (pool : List PoolEntry) (p : Piece) → piece_needs p ≡ [] → Grows pool (piece_needs p) pool
grows_nothing pool p e = subst (λ (cs : List Const). Grows pool cs pool) (sym e) (grows_start pool)

-- a constant that stands under a tag needs no other
pub alone : (c : Const) (tag : ℕ) → IsTrue (fits_tag c tag) → needs c ≡ c ∷ []
alone (constants.Integer v) tag h = refl
alone (constants.Float v) tag h = refl
alone (constants.Long v) tag h = refl
alone (constants.Double v) tag h = refl
alone (constants.Utf8 v) tag h = refl
alone (constants.Class n) tag h = absurd cc
alone (constants.String n) tag h = absurd cc
alone (constants.Field m) tag h = absurd cc
alone (constants.Method m i) tag h = absurd cc
alone (constants.NameAndType n d) tag h = absurd cc
alone (constants.MethodHandle k m i) tag h = absurd cc
alone (constants.MethodType d) tag h = absurd cc
alone (constants.InvokeDynamic b n d) tag h = absurd cc

pub need-append : (xs ys : List Piece) → pieces_need (xs ++ ys) ≡ pieces_need ys ++ pieces_need xs
need-append [] ys = sym (append-nil (pieces_need ys))
need-append (x ∷ xs) ys = ap (λ (cs : List Const). cs ++ piece_needs x) (need-append xs ys) ∙ append_assoc (pieces_need ys) (pieces_need xs) (piece_needs x)

pub need-more : (xs : List Piece) (x : Piece) → pieces_need (xs ++ x ∷ []) ≡ piece_needs x ++ pieces_need xs
need-more xs x = need-append xs (x ∷ [])

pub need-split : (all before after : List Piece) (x : Piece) → all ≡ before ++ x ∷ after → pieces_need all ≡ pieces_need after ++ (piece_needs x ++ pieces_need before)
need-split all before after x e = ap pieces_need e ∙ need-append before (x ∷ after) ∙ append_assoc (pieces_need after) (piece_needs x) (pieces_need before)

-- ---- what numbers name

pub names_kept : (old new : List PoolEntry) (p : Piece) (m : Mark) → Keeps old new → Names old p m → Names new p m
names_kept old new (pieces.List count) (marks.List n) k h = h
names_kept old new (pieces.Annotation class count) (marks.Annotation type n) k h = (text_kept old new type (class_descriptor class) k h.0, h.1)
names_kept old new (pieces.Name name) (marks.Name n) k h = text_kept old new n name k h
names_kept old new (pieces.Constant tag value) (marks.Constant t n) k h = (h.0, later old new n value k h.1)
names_kept old new (pieces.Enum descriptor name) (marks.Enum d n) k h = (text_kept old new d descriptor k h.0, text_kept old new n name k h.1)
names_kept old new (pieces.Class descriptor) (marks.Class d) k h = text_kept old new d descriptor k h
names_kept old new pieces.Nested marks.Nested k h = tt
names_kept old new (pieces.Array count) (marks.Array n) k h = h
names_kept old new _ _ k h = absurd h

pub all_kept : (old new : List PoolEntry) (ps : List Piece) (ms : List Mark) → Keeps old new → AllName old ps ms → AllName new ps ms
all_kept old new [] [] k h = tt
all_kept old new (p ∷ ps) (m ∷ ms) k h = (names_kept old new p m k h.0, all_kept old new ps ms k h.1)
all_kept old new [] (m ∷ ms) k h = absurd h
all_kept old new (p ∷ ps) [] k h = absurd h

pub all_push : (pool : List PoolEntry) (ps : List Piece) (ms : List Mark) (p : Piece) (m : Mark) → AllName pool ps ms → Names pool p m → AllName pool (ps ++ p ∷ []) (ms ++ m ∷ [])
all_push pool [] [] p m h k = (k, tt)
all_push pool (q ∷ ps) (n ∷ ms) p m h k = (h.0, all_push pool ps ms p m h.1 k)
all_push pool [] (n ∷ ms) p m h k = absurd h
all_push pool (q ∷ ps) [] p m h k = absurd h

-- ---- what they name is what their places need

some_and : (P : List ℕ → Type 0) (o : Option (List ℕ)) (x : List ℕ) → o ≡ Some x → P x → IsSomeAnd o P
some_and P o x e h = subst (λ (q : Option (List ℕ)). IsSomeAnd q P) (sym e) h

mapped_tag : {A : Type 0} (f : A → Const) (o : Option A) (c : Const) (tag : ℕ) → ((a : A) → fits_tag (f a) tag ≡ false) → option_map f o ≡ Some c → fits_tag c tag ≡ false
mapped_tag f o c tag h e = let m = map_some f o c e in ap (λ (d : Const). fits_tag d tag) (sym m.2) ∙ h m.0

handle_tag : (pool : List PoolEntry) (kind : ℕ) (o : Option PoolEntry) (c : Const) (tag : ℕ) → handle pool kind o ≡ Some c → fits_tag c tag ≡ false
handle_tag pool kind (Some (entries.Field m n)) c tag e = mapped_tag (λ (x : MemberReference). constants.MethodHandle kind x false) (member pool m n) c tag (λ _. refl) e
handle_tag pool kind (Some (entries.Method m n)) c tag e = mapped_tag (λ (x : MemberReference). constants.MethodHandle kind x false) (member pool m n) c tag (λ _. refl) e
handle_tag pool kind (Some (entries.InterfaceMethod m n)) c tag e = mapped_tag (λ (x : MemberReference). constants.MethodHandle kind x true) (member pool m n) c tag (λ _. refl) e
handle_tag pool kind _ c tag e = absurd cc

same_tag : (pool : List PoolEntry) (e : PoolEntry) (c : Const) (tag : ℕ) → constant_in pool e ≡ Some c → fits_tag c tag ≡ has_tag e tag
same_tag pool (entries.Utf8 x) c tag h = ap (λ (d : Const). fits_tag d tag) (sym (some_is (constants.Utf8 x) c h))
same_tag pool (entries.Integer v) c tag h = ap (λ (d : Const). fits_tag d tag) (sym (some_is (constants.Integer v) c h))
same_tag pool (entries.Float v) c tag h = ap (λ (d : Const). fits_tag d tag) (sym (some_is (constants.Float v) c h))
same_tag pool (entries.Long v) c tag h = ap (λ (d : Const). fits_tag d tag) (sym (some_is (constants.Long v) c h))
same_tag pool (entries.Double v) c tag h = ap (λ (d : Const). fits_tag d tag) (sym (some_is (constants.Double v) c h))
same_tag pool (entries.Class n) c tag h = mapped_tag (λ (x : List ℕ). constants.Class x) (text_of pool n) c tag (λ _. refl) h
same_tag pool (entries.String n) c tag h = mapped_tag (λ (x : List ℕ). constants.String x) (text_of pool n) c tag (λ _. refl) h
same_tag pool (entries.Field m n) c tag h = mapped_tag (λ (x : MemberReference). constants.Field x) (member pool m n) c tag (λ _. refl) h
same_tag pool (entries.Method m n) c tag h = mapped_tag (λ (x : MemberReference). constants.Method x false) (member pool m n) c tag (λ _. refl) h
same_tag pool (entries.InterfaceMethod m n) c tag h = mapped_tag (λ (x : MemberReference). constants.Method x true) (member pool m n) c tag (λ _. refl) h
same_tag pool (entries.NameAndType m n) c tag h = mapped_tag (λ (p : List ℕ × List ℕ). constants.NameAndType p.0 p.1) (both (text_of pool m) (text_of pool n)) c tag (λ _. refl) h
same_tag pool (entries.MethodHandle m n) c tag h = handle_tag pool m (entry_of pool n) c tag h
same_tag pool (entries.MethodType n) c tag h = mapped_tag (λ (x : List ℕ). constants.MethodType x) (text_of pool n) c tag (λ _. refl) h
same_tag pool (entries.InvokeDynamic m n) c tag h = mapped_tag (λ (p : List ℕ × List ℕ). constants.InvokeDynamic m p.0 p.1) (named_pair pool n) c tag (λ _. refl) h
same_tag pool entries.Unusable c tag h = absurd cc

constant_sound : (pool : List PoolEntry) (n : ℕ) (c : Const) (tag : ℕ) → constant_of pool n ≡ Some c → IsTrue (fits_tag c tag) → IsSomeAnd (entry_of pool n) (λ (e : PoolEntry). IsTrue (has_tag e tag))
constant_sound pool n c tag h fits =
    let t = then_some (constant_in pool) (entry_of pool n) c h in
    subst (λ (o : Option PoolEntry). IsSomeAnd o (λ (e : PoolEntry). IsTrue (has_tag e tag))) (sym t.1) (sym (same_tag pool t.0 c tag t.2) ∙ fits)

names_sound : (pool : List PoolEntry) (p : Piece) (m : Mark) → IsFormed p → Names pool p m → IsSound pool m
names_sound pool (pieces.List count) (marks.List n) f h = (tt, tt)
names_sound pool (pieces.Annotation class count) (marks.Annotation type n) f h = (some_and IsClassDescriptor (text_of pool type) (class_descriptor class) h.0 (class, f.0, refl), tt)
names_sound pool (pieces.Name name) (marks.Name n) f h = (some_and (λ _. Unit {0}) (text_of pool n) name h tt, tt)
names_sound pool (pieces.Constant tag value) (marks.Constant t n) f h = (constant_sound pool n value t h.1 (subst (λ (k : ℕ). IsTrue (fits_tag value k)) (sym h.0) f.0), tt)
names_sound pool (pieces.Enum descriptor name) (marks.Enum d n) f h = (some_and _ (text_of pool d) descriptor h.0 f.1, some_and (λ _. Unit {0}) (text_of pool n) name h.1 tt)
names_sound pool (pieces.Class descriptor) (marks.Class d) f h = (some_and _ (text_of pool d) descriptor h f.1, tt)
names_sound pool pieces.Nested marks.Nested f h = (tt, tt)
names_sound pool (pieces.Array count) (marks.Array n) f h = (tt, tt)
names_sound pool _ _ f h = absurd h

pub all_sound : (pool : List PoolEntry) (ps : List Piece) (ms : List Mark) → AllByRecursion IsFormed ps → AllName pool ps ms → AllByRecursion (IsSound pool) ms
all_sound pool [] [] f h = tt
all_sound pool (p ∷ ps) (m ∷ ms) f h = (names_sound pool p m f.0 h.0, all_sound pool ps ms f.1 h.1)
all_sound pool [] (m ∷ ms) f h = absurd h
all_sound pool (p ∷ ps) [] f h = absurd h

-- ---- sizes

names_size : (pool : List PoolEntry) (p : Piece) (m : Mark) → Names pool p m → length (mark_bytes m) ≡ piece_size p
names_size pool (pieces.List count) (marks.List n) h = refl
names_size pool (pieces.Annotation class count) (marks.Annotation type n) h = refl
names_size pool (pieces.Name name) (marks.Name n) h = refl
names_size pool (pieces.Constant tag value) (marks.Constant t n) h = refl
names_size pool (pieces.Enum descriptor name) (marks.Enum d n) h = refl
names_size pool (pieces.Class descriptor) (marks.Class d) h = refl
names_size pool pieces.Nested marks.Nested h = refl
names_size pool (pieces.Array count) (marks.Array n) h = refl
names_size pool _ _ h = absurd h

pub all_size : (pool : List PoolEntry) (ps : List Piece) (ms : List Mark) → AllName pool ps ms → length (table_bytes ms) ≡ pieces_size ps
all_size pool [] [] h = refl
all_size pool (p ∷ ps) (m ∷ ms) h = omega (arith, table-cons m ms, names_size pool p m h.0, all_size pool ps ms h.1)
all_size pool [] (m ∷ ms) h = absurd h
all_size pool (p ∷ ps) [] h = absurd h

size-append : (xs ys : List Piece) → pieces_size (xs ++ ys) ≡ pieces_size xs + pieces_size ys
size-append [] ys = omega arith
size-append (x ∷ xs) ys = omega (arith, size-append xs ys)

pub size_more : (ps : List Piece) (i : ℕ) (d : Piece) → i < length ps → pieces_size (take (i + 1) ps) ≡ pieces_size (take i ps) + piece_size (get_or ps i d)
size_more ps i d lt = ap pieces_size (take_more ps i d lt) ∙ size-append (take i ps) (get_or ps i d ∷ []) ∙ omega arith

pub size_front : (ps : List Piece) (i : ℕ) → pieces_size (take i ps) ≤ pieces_size ps
size_front ps zero = omega arith
size_front [] (suc i) = omega arith
size_front (p ∷ ps) (suc i) = omega (arith, size_front ps i)

-- ---- tags

pub constant_tag : (c : Const) (tag : ℕ) → IsTrue (fits_tag c tag) → IsTrue (is_constant_tag tag)
constant_tag (constants.Integer v) tag h = grind arith
constant_tag (constants.Float v) tag h = grind arith
constant_tag (constants.Long v) tag h = grind arith
constant_tag (constants.Double v) tag h = grind arith
constant_tag (constants.Utf8 v) tag h = grind arith
constant_tag (constants.Class n) tag h = absurd cc
constant_tag (constants.String n) tag h = absurd cc
constant_tag (constants.Field m) tag h = absurd cc
constant_tag (constants.Method m i) tag h = absurd cc
constant_tag (constants.NameAndType n d) tag h = absurd cc
constant_tag (constants.MethodHandle k m i) tag h = absurd cc
constant_tag (constants.MethodType d) tag h = absurd cc
constant_tag (constants.InvokeDynamic b n d) tag h = absurd cc
