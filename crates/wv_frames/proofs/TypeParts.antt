-- Types and lists of types: how they are read, and what fits.
use Rattle.std.proofs.Common.{◌≡◌, ℕ, zero, suc, ◌+◌, ◌<◌, ◌≤◌, List, [], ◌∷◌, ◌++◌, length, Option, Some, None, Result, Ok, refl, sym, ap, subst, ◌∙◌, inl, inr, arith}
use Rattle.std.specs.List.{flat_map, AllByRecursion}
use Rattle.std.proofs.lemmas.Bool.{ne_eqb}
use Rattle.std.proofs.lemmas.List.Concat.{flat_map-cons}
use Rattle.wv_room.specs.declared.frames.Frames.{Frames}
use Rattle.wv_room.specs.declared.frame_count.FrameKind.TheVariants as kinds
use Rattle.wv_room.specs.Frames.{FramesFill, plain, numbered, list}
use Rattle.wv_pool.specs.Reading.{◌>>=◌, fixed, number}
use Rattle.wv_pool.specs.Entries.{number_bytes}
use Rattle.wv_frames.specs.declared.raw.RawType.{RawType}
use Rattle.wv_frames.specs.declared.raw.RawType.TheVariants as types
use Rattle.wv_frames.specs.declared.tag.TypeTag.{TypeTag}
use Rattle.wv_frames.specs.declared.tag.TypeTag.TheVariants as type_tags
use Rattle.wv_frames.specs.Spelling.{type_bytes, list_bytes, IsType, IsList}
use Rattle.wv_frames.specs.Reading.{tag_at, count_at, type_tag, behind_type_tag, type_behind, type_at, items_in, types_in, list_at}
use Rattle.wv_frames.proofs.Sizes.{Fit, shift_up, shift_down, type_first, list_first}
use Rattle.wv_frames.proofs.Readers.{Fill, Reads, resized, renamed, done, Then, then, Seen, seen, alike}
use Rattle.wv_frames.proofs.Tags.{Short, Room2, short_len, short, Meant, TagRoom, tag, CountRoom, count}

pub some_is : {A : Type 0} (a b : A) → Path (Option A) (Some a) (Some b) → a ≡ b
some_is a b e = cc

-- types, lists and frames that are to come, and no other bytes
abbrev pub coming : (t l f : ℕ) → Frames
coming t l f = record { bytes = 0; types = t; lists = l; frames = f }

-- ---- tags

pub data IsTypeTag : ℕ → TypeTag → Type 0 where
  top : IsTypeTag 0 (type_tags.Plain types.Top)
  int : IsTypeTag 1 (type_tags.Plain types.Int)
  float : IsTypeTag 2 (type_tags.Plain types.Float)
  double : IsTypeTag 3 (type_tags.Plain types.Double)
  long : IsTypeTag 4 (type_tags.Plain types.Long)
  null : IsTypeTag 5 (type_tags.Plain types.Null)
  this : IsTypeTag 6 (type_tags.Plain types.UninitializedThis)
  object : IsTypeTag 7 type_tags.Object
  uninitialized : IsTypeTag 8 type_tags.Uninitialized

other_tag : (b : ℕ) → 9 ≤ b → type_tag b ≡ None
unfolding type_tag
other_tag b ge = rw (ne_eqb b 0 (λ e. omega arith), ne_eqb b 1 (λ e. omega arith), ne_eqb b 2 (λ e. omega arith), ne_eqb b 3 (λ e. omega arith), ne_eqb b 4 (λ e. omega arith), ne_eqb b 5 (λ e. omega arith), ne_eqb b 6 (λ e. omega arith), ne_eqb b 7 (λ e. omega arith), ne_eqb b 8 (λ e. omega arith)) refl

is_type_tag : (b : ℕ) (t : TypeTag) → type_tag b ≡ Some t → IsTypeTag b t
unfolding type_tag
is_type_tag zero t e = subst (IsTypeTag 0) (some_is _ t e) top
is_type_tag (suc zero) t e = subst (IsTypeTag 1) (some_is _ t e) int
is_type_tag (suc (suc zero)) t e = subst (IsTypeTag 2) (some_is _ t e) float
is_type_tag (suc (suc (suc zero))) t e = subst (IsTypeTag 3) (some_is _ t e) double
is_type_tag (suc (suc (suc (suc zero)))) t e = subst (IsTypeTag 4) (some_is _ t e) long
is_type_tag (suc (suc (suc (suc (suc zero))))) t e = subst (IsTypeTag 5) (some_is _ t e) null
is_type_tag (suc (suc (suc (suc (suc (suc zero)))))) t e = subst (IsTypeTag 6) (some_is _ t e) this
is_type_tag (suc (suc (suc (suc (suc (suc (suc zero))))))) t e = subst (IsTypeTag 7) (some_is _ t e) object
is_type_tag (suc (suc (suc (suc (suc (suc (suc (suc zero)))))))) t e = subst (IsTypeTag 8) (some_is _ t e) uninitialized
is_type_tag (suc (suc (suc (suc (suc (suc (suc (suc (suc b))))))))) t e = let never : Path (Option TypeTag) None (Some t) = sym (other_tag (suc (suc (suc (suc (suc (suc (suc (suc (suc b))))))))) (omega arith)) ∙ e in absurd cc

type_tag_is : {b : ℕ} {t : TypeTag} → IsTypeTag b t → type_tag b ≡ Some t
unfolding type_tag
type_tag_is top = refl
type_tag_is int = refl
type_tag_is float = refl
type_tag_is double = refl
type_tag_is long = refl
type_tag_is null = refl
type_tag_is this = refl
type_tag_is object = refl
type_tag_is uninitialized = refl

pub meant_type : {b : ℕ} {t : TypeTag} → b < 256 → IsTypeTag b t → Meant type_tag t (b ∷ [])
meant_type {b} {t} lt i = record { byte = b; small = lt; means = type_tag_is i; alone = refl }

-- ---- one type

-- what stands behind a tag
abbrev pub Operand : TypeTag → RawType → List ℕ → Type 0
Operand (type_tags.Plain one) = λ raw text. (raw ≡ one) × (text ≡ [])
Operand type_tags.Object = Seen (λ n. types.Object n) Short
Operand type_tags.Uninitialized = Seen (λ n. types.Uninitialized n) Short

abbrev pub TypeText : RawType → List ℕ → Type 0
TypeText raw text = IsType raw × (text ≡ type_bytes raw)

two_more : (t l f n : ℕ) → FramesFill 2 t l f n → Room2 (λ m. FramesFill 0 t l f m) n
two_more t l f n h = let s = shift_down 2 h in record { more = s.0; sum = s.1; rest = s.2 }

more_two : (t l f n : ℕ) → Room2 (λ m. FramesFill 0 t l f m) n → FramesFill 2 t l f n
more_two t l f n r = subst (λ (k : ℕ). FramesFill 2 t l f k) (sym r.sum) (shift_up 2 r.rest)

-- a number in front of what is to come
pub short_before : (t l f : ℕ) → Reads (λ missing. fixed 2 number) Short (λ n. FramesFill 2 t l f n) (λ _ n. FramesFill 0 t l f n)
short_before t l f = resized (Room2 (λ m. FramesFill 0 t l f m)) (λ n. FramesFill 2 t l f n) (two_more t l f) (more_two t l f) (short (λ m. FramesFill 0 t l f m))

operand : (t l f : ℕ) (one : TypeTag) → Reads (λ missing. type_behind one) (Operand one) (TagRoom type_tag (behind_type_tag (coming t l f)) one) (λ _. Fit (coming t l f))
operand t l f (type_tags.Plain raw) = done raw (Fit (coming t l f))
operand t l f type_tags.Object = seen (Fit (coming t l f)) (λ n. types.Object n) (short_before t l f)
operand t l f type_tags.Uninitialized = seen (Fit (coming t l f)) (λ n. types.Uninitialized n) (short_before t l f)

plainly : (b : ℕ) (one raw : RawType) (back : List ℕ) → IsType one → type_bytes one ≡ b ∷ [] → (raw ≡ one) × (back ≡ []) → TypeText raw (b ∷ back)
plainly b one raw back is bytes s = subst (λ (r : RawType). TypeText r (b ∷ back)) (sym s.0) (is, ap (λ (t : List ℕ). b ∷ t) s.1 ∙ sym bytes)

type_to : {b : ℕ} {t : TypeTag} → IsTypeTag b t → (raw : RawType) (back : List ℕ) → Operand t raw back → TypeText raw (b ∷ back)
type_to top raw back s = plainly 0 types.Top raw back tt refl s
type_to int raw back s = plainly 1 types.Int raw back tt refl s
type_to float raw back s = plainly 2 types.Float raw back tt refl s
type_to double raw back s = plainly 3 types.Double raw back tt refl s
type_to long raw back s = plainly 4 types.Long raw back tt refl s
type_to null raw back s = plainly 5 types.Null raw back tt refl s
type_to this raw back s = plainly 6 types.UninitializedThis raw back tt refl s
type_to object raw back s = subst (λ (r : RawType). TypeText r (7 ∷ back)) (sym s.1) (s.2.0, ap (λ (t : List ℕ). 7 ∷ t) s.2.1)
type_to uninitialized raw back s = subst (λ (r : RawType). TypeText r (8 ∷ back)) (sym s.1) (s.2.0, ap (λ (t : List ℕ). 8 ∷ t) s.2.1)

abbrev Tagged : RawType → List ℕ → Type 0
Tagged = Then (Meant type_tag) Operand

tagged : {b : ℕ} {t : TypeTag} (raw : RawType) (back text : List ℕ) → b < 256 → IsTypeTag b t → Operand t raw back → text ≡ b ∷ back → Tagged raw text
tagged {b} {t} raw back text lt i o e = record { first = t; front = b ∷ []; back = back; parts = e; first_is = meant_type lt i; second_is = o }

type_from : (raw : RawType) (text : List ℕ) → TypeText raw text → Tagged raw text
type_from types.Top text s = tagged types.Top [] text (omega arith) top (refl, refl) s.1
type_from types.Int text s = tagged types.Int [] text (omega arith) int (refl, refl) s.1
type_from types.Float text s = tagged types.Float [] text (omega arith) float (refl, refl) s.1
type_from types.Double text s = tagged types.Double [] text (omega arith) double (refl, refl) s.1
type_from types.Long text s = tagged types.Long [] text (omega arith) long (refl, refl) s.1
type_from types.Null text s = tagged types.Null [] text (omega arith) null (refl, refl) s.1
type_from types.UninitializedThis text s = tagged types.UninitializedThis [] text (omega arith) this (refl, refl) s.1
type_from (types.Object n) text s = tagged (types.Object n) (number_bytes n) text (omega arith) object (n, refl, (s.0, refl)) s.1
type_from (types.Uninitialized n) text s = tagged (types.Uninitialized n) (number_bytes n) text (omega arith) uninitialized (n, refl, (s.0, refl)) s.1

type_text : (raw : RawType) (text : List ℕ) → Tagged raw text → TypeText raw text
type_text raw text t =
    let m = t.first_is in
    let whole : text ≡ m.byte ∷ t.back = t.parts ∙ ap (λ (z : List ℕ). z ++ t.back) m.alone in
    subst (TypeText raw) (sym whole) (type_to (is_type_tag m.byte t.first m.means) raw t.back t.second_is)

-- a type in front of what is to come
abbrev TagsFill : (t l f n : ℕ) → Type 0
TagsFill t l f n = Fill (Meant type_tag) (TagRoom type_tag (behind_type_tag (coming t l f))) n

type_there : (t l f n : ℕ) → FramesFill 0 (suc t) l f n → TagsFill t l f n
type_there t l f n h = elim (type_first h t refl) [
  | inl g ↦ let s = shift_down 1 g in record { value = type_tags.Plain types.Top; text = 0 ∷ []; more = s.0; spelled = meant_type (omega arith) top; rest = s.2; sum = s.1 }
  | inr g ↦ let s = shift_down 1 g in record { value = type_tags.Object; text = 7 ∷ []; more = s.0; spelled = meant_type (omega arith) object; rest = s.2; sum = s.1 }
]

type_size : (t l f m : ℕ) (one : TypeTag) → TagRoom type_tag (behind_type_tag (coming t l f)) one m → FramesFill 0 (suc t) l f (1 + m)
type_size t l f m (type_tags.Plain raw) h = plain (shift_up 1 h)
type_size t l f m type_tags.Object h = numbered (shift_up 1 h)
type_size t l f m type_tags.Uninitialized h = numbered (shift_up 1 h)

type_back : (t l f n : ℕ) → TagsFill t l f n → FramesFill 0 (suc t) l f n
type_back t l f n p = subst (λ (k : ℕ). FramesFill 0 (suc t) l f k) (omega (arith, p.sum, ap length p.spelled.alone)) (type_size t l f p.more p.value p.rest)

abbrev type_steps : (t l f missing : ℕ) → List ℕ → Result (RawType × List ℕ) ℕ
type_steps t l f missing bytes = tag_at missing type_tag (behind_type_tag (coming t l f)) bytes >>= λ one. type_behind one.0 one.1

type_alike : (t l f missing : ℕ) (bytes : List ℕ) → type_at missing (coming t l f) bytes ≡ type_steps t l f missing bytes
unfolding type_at
type_alike t l f missing bytes = refl

pub one_read : (t l f : ℕ) → Reads (λ missing. type_at missing (coming t l f)) TypeText (Fit (coming (suc t) l f)) (λ _. Fit (coming t l f))
one_read t l f =
    alike (type_steps t l f) (λ missing. type_at missing (coming t l f)) (type_alike t l f)
    (resized (TagsFill t l f) (Fit (coming (suc t) l f)) (type_there t l f) (type_back t l f)
    (renamed Tagged TypeText type_text type_from
    (then (λ one missing bytes. type_behind one bytes) (tag type_tag (behind_type_tag (coming t l f))) (operand t l f))))

-- ---- so many types

abbrev pub TypesText : ℕ → List RawType → List ℕ → Type 0
TypesText k all text = (length all ≡ k) × AllByRecursion IsType all × (text ≡ flat_map type_bytes all)

types_to : (k : ℕ) (all : List RawType) (text : List ℕ) → Then TypeText (λ one. Seen (λ others. one ∷ others) (TypesText k)) all text → TypesText (suc k) all text
types_to k all text t =
    let s = t.second_is in
    subst (λ (xs : List RawType). TypesText (suc k) xs text) (sym s.1)
    (ap suc s.2.0, (t.first_is.0, s.2.1), t.parts ∙ ap (λ (z : List ℕ). z ++ t.back) t.first_is.1 ∙ ap (λ (z : List ℕ). type_bytes t.first ++ z) s.2.2 ∙ sym (flat_map-cons type_bytes t.first s.0))

types_from : (k : ℕ) (all : List RawType) (text : List ℕ) → TypesText (suc k) all text → Then TypeText (λ one. Seen (λ others. one ∷ others) (TypesText k)) all text
types_from k [] text s = absurd (omega (arith, s.0))
types_from k (one ∷ others) text s = record {
  first = one;
  front = type_bytes one;
  back = flat_map type_bytes others;
  parts = s.2 ∙ flat_map-cons type_bytes one others;
  first_is = (s.1.0, refl);
  second_is = (others, refl, (omega (arith, s.0), s.1.1, refl));
}

types_none : (l f : ℕ) → Reads (λ missing. types_in missing 0 (coming 0 l f)) (TypesText 0) (Fit (coming 0 l f)) (λ _. Fit (coming 0 l f))
unfolding items_in
types_none l f =
    renamed (λ (all : List RawType) text. (all ≡ []) × (text ≡ [])) (TypesText 0)
    (λ all text s. subst (λ (xs : List RawType). TypesText 0 xs text) (sym s.0) (refl, tt, s.1))
    (λ all text s. none all text s)
    (done [] (Fit (coming 0 l f)))
  where
    none : (all : List RawType) (text : List ℕ) → TypesText 0 all text → (all ≡ []) × (text ≡ [])
    none [] text s = (refl, s.2)
    none (one ∷ others) text s = absurd (omega (arith, s.0))

abbrev types_steps : (k l f missing : ℕ) → List ℕ → Result (List RawType × List ℕ) ℕ
types_steps k l f missing bytes = type_at missing (coming k l f) bytes >>= λ one. types_in missing k (coming 0 l f) one.1 >>= λ others. Ok (one.0 ∷ others.0, others.1)

types_alike : (k l f missing : ℕ) (bytes : List ℕ) → types_in missing (suc k) (coming 0 l f) bytes ≡ types_steps k l f missing bytes
unfolding items_in
types_alike k l f missing bytes = refl

pub types_read : (k l f : ℕ) → Reads (λ missing. types_in missing k (coming 0 l f)) (TypesText k) (Fit (coming k l f)) (λ _. Fit (coming 0 l f))
types_read zero l f = types_none l f
types_read (suc k) l f =
    alike (types_steps k l f) (λ missing. types_in missing (suc k) (coming 0 l f)) (types_alike k l f)
    (renamed (Then TypeText (λ one. Seen (λ others. one ∷ others) (TypesText k))) (TypesText (suc k)) (types_to k) (types_from k)
    (then (λ one missing bytes. types_in missing k (coming 0 l f) bytes >>= λ others. Ok (one ∷ others.0, others.1)) (one_read k l f) (λ one. seen (Fit (coming 0 l f)) (λ others. one ∷ others) (types_read k l f))))

-- ---- a list

abbrev pub ListText : List RawType → List ℕ → Type 0
ListText all text = IsList all × (text ≡ list_bytes all)

list_to : (all : List RawType) (text : List ℕ) → Then Short TypesText all text → ListText all text
list_to all text t =
    let len : length all ≡ t.first = t.second_is.0 in
    ((omega (arith, t.first_is.0), t.second_is.1), t.parts ∙ ap (λ (z : List ℕ). z ++ t.back) (t.first_is.1 ∙ ap number_bytes (sym len)) ∙ ap (λ (z : List ℕ). number_bytes (length all) ++ z) t.second_is.2)

list_from : (all : List RawType) (text : List ℕ) → ListText all text → Then Short TypesText all text
list_from all text s = record { first = length all; front = number_bytes (length all); back = flat_map type_bytes all; parts = s.1; first_is = (s.0.0, refl); second_is = (refl, s.0.1, refl) }

abbrev CountFill : (l f n : ℕ) → Type 0
CountFill l f n = Fill Short (CountRoom kinds.Type (coming 0 l f)) n

list_there : (l f n : ℕ) → FramesFill 0 0 (suc l) f n → CountFill l f n
list_there l f n h =
    let g = list_first h l refl in
    let s = shift_down 2 g.rest in
    record { value = g.count; text = number_bytes g.count; more = s.0; spelled = (g.small, refl); rest = subst (λ (k : ℕ). FramesFill 0 k l f s.0) (omega arith) s.2; sum = s.1 }

list_back : (l f n : ℕ) → CountFill l f n → FramesFill 0 0 (suc l) f n
list_back l f n p =
    let few : p.value < 65536 = p.spelled.0 in
    let all : FramesFill 2 (p.value + 0) l f (2 + p.more) = shift_up 2 (subst (λ (k : ℕ). FramesFill 0 k l f p.more) (omega arith) p.rest) in
    subst (λ (k : ℕ). FramesFill 0 0 (suc l) f k) (omega (arith, p.sum, short_len p.value p.text p.spelled)) (list p.value few all)

counted_types : (k l f : ℕ) → Reads (λ missing. types_in missing k (coming 0 l f)) (TypesText k) (CountRoom kinds.Type (coming 0 l f) k) (λ _. Fit (coming 0 l f))
counted_types k l f =
    resized (Fit (coming k l f)) (CountRoom kinds.Type (coming 0 l f) k)
    (λ n h. subst (λ (j : ℕ). FramesFill 0 j l f n) (omega arith) h)
    (λ n h. subst (λ (j : ℕ). FramesFill 0 j l f n) (omega arith) h)
    (types_read k l f)

abbrev list_steps : (l f missing : ℕ) → List ℕ → Result (List RawType × List ℕ) ℕ
list_steps l f missing bytes = count_at missing kinds.Type (coming 0 l f) bytes >>= λ count. types_in missing count.0 (coming 0 l f) count.1

list_alike : (l f missing : ℕ) (bytes : List ℕ) → list_at missing (coming 0 l f) bytes ≡ list_steps l f missing bytes
unfolding list_at
list_alike l f missing bytes = refl

pub list_read : (l f : ℕ) → Reads (λ missing. list_at missing (coming 0 l f)) ListText (Fit (coming 0 (suc l) f)) (λ _. Fit (coming 0 l f))
list_read l f =
    alike (list_steps l f) (λ missing. list_at missing (coming 0 l f)) (list_alike l f)
    (resized (CountFill l f) (Fit (coming 0 (suc l) f)) (list_there l f) (list_back l f)
    (renamed (Then Short TypesText) ListText list_to list_from
    (then (λ count missing bytes. types_in missing count (coming 0 l f) bytes) (count kinds.Type (coming 0 l f)) (λ k. counted_types k l f))))
