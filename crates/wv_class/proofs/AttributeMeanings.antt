-- What attributes mean, one after the other.
use Rattle.std.proofs.Common.{◌≡◌, ℕ, ◌+◌, ◌<◌, ◌≤◌, List, [], ◌∷◌, ◌++◌, length, get_or, take, drop, Option, Some, None, refl, sym, ap, subst, ◌∙◌, arith}
use Rattle.std.specs.Prelude.{Result, Ok, Err, IfOk}
use Rattle.std.specs.List.{AllZip, AllByRecursion, flat_map}
use Rattle.std.proofs.lemmas.List.{append_assoc, append-nil, take_more}
use Rattle.std.proofs.lemmas.List.Concat.{flat_map-append}
use Rattle.wv_base.specs.declared.class_file.PoolEntry.{PoolEntry}
use Rattle.wv_base.specs.declared.constant.Const.{Const}
use Rattle.wv_base.specs.declared.memory.Memory.{Memory}
use Rattle.wv_base.specs.declared.note.Note.{Note}
use Rattle.wv_pool.specs.Constants.{class_name, constant_of}
use Rattle.wv_code.proofs.Lists.{split_at}
use Rattle.wv_class.specs.declared.raw_class.Content.TheVariants as contents
use Rattle.wv_class.specs.declared.raw_class.RawAttribute.{RawAttribute}
use Rattle.wv_class.specs.Meaning.{content_values, content_exceptions, values_in, exceptions_in, IsNotesOf, AreNotesOf, AreClasses, IsValueIn}
use Rattle.wv_class.specs.Meaning as meaning
use Rattle.wv_class.specs.MemberRead.{NamesConstant}

-- ---- Lists

pub zip_push : {A B : Type 0} (R : A → B → Type 0) (xs : List A) (ys : List B) (x : A) (y : B) → AllZip R xs ys → R x y → AllZip R (xs ++ x ∷ []) (ys ++ y ∷ [])
zip_push R [] [] x y h k = (k, tt)
zip_push R [] (b ∷ ys) x y h k = absurd h
zip_push R (a ∷ xs) [] x y h k = absurd h
zip_push R (a ∷ xs) (b ∷ ys) x y h k = (h.0, zip_push R xs ys x y h.1 k)

pub all_front : {X : Type 0} (P : X → Type 0) (xs ys : List X) → AllByRecursion P (xs ++ ys) → AllByRecursion P xs
all_front P [] ys h = tt
all_front P (x ∷ xs) ys h = (h.0, all_front P xs ys h.1)

pub all_back : {X : Type 0} (P : X → Type 0) (xs ys : List X) → AllByRecursion P (xs ++ ys) → AllByRecursion P ys
all_back P [] ys h = h
all_back P (x ∷ xs) ys h = all_back P xs ys h.1

-- what stands at a place, between the others
abbrev between : {X Y : Type 0} → (X → List Y) → List X → ℕ → X → List Y
between f xs i x = flat_map f (take i xs) ++ (f x ++ flat_map f (drop (i + 1) xs))

flat_at : {X Y : Type 0} (f : X → List Y) (xs : List X) (i : ℕ) (x : X) → i < length xs → x ≡ get_or xs i x → flat_map f xs ≡ between f xs i x
flat_at f xs i x lt is =
    ap (flat_map f) (split_at xs i x lt) ∙ flat_map-append f (take i xs) (get_or xs i x ∷ drop (i + 1) xs) ∙ ap (λ y. flat_map f (take i xs) ++ (f y ++ flat_map f (drop (i + 1) xs))) (sym is)

-- what holds of all that is in the list holds of what is in one of its items
pub all_in : {X Y : Type 0} (P : Y → Type 0) (f : X → List Y) (xs : List X) (i : ℕ) (x : X) → i < length xs → x ≡ get_or xs i x → AllByRecursion P (flat_map f xs) → AllByRecursion P (f x)
all_in P f xs i x lt is h =
    all_front P (f x) (flat_map f (drop (i + 1) xs)) (all_back P (flat_map f (take i xs)) (f x ++ flat_map f (drop (i + 1) xs)) (subst (AllByRecursion P) (flat_at f xs i x lt is) h))

-- ---- Names

pub classes_more : (pool : List PoolEntry) (before numbers : List ℕ) (names : List (List ℕ)) (i : ℕ) (name : List ℕ) → i < length numbers → AreClasses pool (before ++ take i numbers) names → class_name pool (get_or numbers i 0) ≡ Some name
    → AreClasses pool (before ++ take (i + 1) numbers) (names ++ name ∷ [])
classes_more pool before numbers names i name lt h k =
    let more : before ++ take (i + 1) numbers ≡ (before ++ take i numbers) ++ get_or numbers i 0 ∷ [] = ap (λ t. before ++ t) (take_more numbers i 0 lt) ∙ sym (append_assoc before (take i numbers) (get_or numbers i 0 ∷ [])) in
    subst (λ t. AreClasses pool t (names ++ name ∷ [])) (sym more) (zip_push (λ n m. class_name pool n ≡ Some m) (before ++ take i numbers) names (get_or numbers i 0) name h k)

-- ---- Annotations

notes_push : (pool : List PoolEntry) (all : List RawAttribute) (found notes : List Note) (a : RawAttribute) → AreNotesOf pool all found → IsNotesOf pool a.content notes → AreNotesOf pool (all ++ a ∷ []) (found ++ notes)
notes_push pool [] _ notes a meaning.none k = subst (AreNotesOf pool (a ∷ [])) (append-nil notes) (meaning.next notes [] k meaning.none)
notes_push pool (b ∷ all) _ notes a (meaning.next ms others h rest) k =
    subst (AreNotesOf pool (b ∷ (all ++ a ∷ []))) (sym (append_assoc ms others notes)) (meaning.next ms (others ++ notes) h (notes_push pool all others notes a rest k))

pub notes_more : (pool : List PoolEntry) (all : List RawAttribute) (found notes : List Note) (i : ℕ) (a : RawAttribute) → i < length all → a ≡ get_or all i a → AreNotesOf pool (take i all) found → IsNotesOf pool a.content notes
    → AreNotesOf pool (take (i + 1) all) (found ++ notes)
notes_more pool all found notes i a lt is h k =
    let more : take (i + 1) all ≡ take i all ++ a ∷ [] = take_more all i a lt ∙ ap (λ b. take i all ++ b ∷ []) (sym is) in
    subst (λ t. AreNotesOf pool t (found ++ notes)) (sym more) (notes_push pool (take i all) found notes a h k)

-- ---- Values

short_tail : (number : ℕ) (others : List ℕ) → length (number ∷ others) ≤ 1 → number ∷ others ≡ number ∷ []
short_tail number [] le = refl
short_tail number (n ∷ others) le = absurd (omega arith)

only_value : (all : List RawAttribute) (i number : ℕ) (a : RawAttribute) → i < length all → a ≡ get_or all i a → values_in (take i all) ≡ [] → a.content ≡ contents.ConstantValue number → length (values_in all) ≤ 1 → values_in all ≡ number ∷ []
only_value all i number a lt is none here one =
    let f : RawAttribute → List ℕ = λ (b : RawAttribute). content_values b.content in
    let parts : values_in all ≡ number ∷ values_in (drop (i + 1) all) = flat_at f all i a lt is ∙ ap (λ t. t ++ (f a ++ values_in (drop (i + 1) all))) none ∙ ap (λ c. content_values c ++ values_in (drop (i + 1) all)) here in
    parts ∙ short_tail number (values_in (drop (i + 1) all)) (subst (λ t. length t ≤ 1) parts one)

value_is : (pool : List PoolEntry) (number : ℕ) (found : Option Const) → AllByRecursion (NamesConstant pool) (number ∷ []) → found ≡ constant_of pool number → IsValueIn pool (number ∷ []) found
value_is pool number (Some value) h e = sym e
value_is pool number None h e = let named = h.0.1 in absurd cc

pub value_found : (pool : List PoolEntry) (all : List RawAttribute) (i number : ℕ) (a : RawAttribute) (found : Result (Option Const) Memory) → i < length all → a ≡ get_or all i a → values_in (take i all) ≡ [] → a.content ≡ contents.ConstantValue number
    → length (values_in all) ≤ 1 → AllByRecursion (NamesConstant pool) (values_in all) → IfOk found (λ value. value ≡ constant_of pool number) → IfOk found (IsValueIn pool (values_in all))
value_found pool all i number a (Err e) lt is none here one named h = h
value_found pool all i number a (Ok value) lt is none here one named h =
    let only = only_value all i number a lt is none here one in
    subst (λ t. IsValueIn pool t value) (sym only) (value_is pool number value (subst (AllByRecursion (NamesConstant pool)) only named) h)

-- ---- Exceptions

pub exceptions_named : (P : ℕ → Type 0) (all : List RawAttribute) (i : ℕ) (a : RawAttribute) (numbers : List ℕ) → i < length all → a ≡ get_or all i a → a.content ≡ contents.Exceptions numbers → AllByRecursion P (exceptions_in all) → AllByRecursion P numbers
exceptions_named P all i a numbers lt is here h =
    subst (λ c. AllByRecursion P (content_exceptions c)) here (all_in P (λ (b : RawAttribute). content_exceptions b.content) all i a lt is h)
