-- Attributes that are read can be written: annotations in tables, and those that are kept.
use Rattle.std.proofs.Common.{◌≡◌, ℕ, zero, suc, ◌+◌, ◌-◌, ◌*◌, ◌<◌, ◌≤◌, ◌^◌, Bool, true, false, cond, if◌then◌else◌, List, [], ◌∷◌, length, Option, Some, None, refl, sym, ap, subst, ◌∙◌, arith}
use Rattle.std.specs.Prelude.{IsTrue, bytes_eq, codes}
use Rattle.std.specs.List.{flat_map, filter, sum_by, AllByRecursion}
use Rattle.std.proofs.lemmas.Bool.{and_parts, leb-true}
use Rattle.std.proofs.lemmas.List.{length-append}
use Rattle.std.proofs.lemmas.List.Sums.{sum_by-cons}
use Rattle.wv_base.specs.declared.class_file.PoolEntry.{PoolEntry}
use Rattle.wv_base.specs.declared.note.Note.{Note}
use Rattle.wv_pool.specs.References.{text_of, IsPool}
use Rattle.wv_code.specs.Body.{kept_name}
use Rattle.wv_code.proofs.OffsetFrames.{all_append}
use Rattle.wv_attr.specs.Pieces.{annotation_pieces, list_pieces, pieces_size}
use Rattle.wv_attr.specs.Writing.{IsFormed, AreShallow, AreWritable, AreOrdered, is_place, by_place, lists_pieces, AreWritableOf}
use Rattle.wv_class.specs.declared.raw_class.Place.{Place}
use Rattle.wv_class.specs.declared.raw_class.Place.TheVariants as places
use Rattle.wv_class.specs.declared.raw_class.Kind.{Kind}
use Rattle.wv_class.specs.declared.raw_class.Kind.TheVariants as kinds
use Rattle.wv_class.specs.declared.raw_class.Content.{Content}
use Rattle.wv_class.specs.declared.raw_class.Content.TheVariants as contents
use Rattle.wv_class.specs.declared.raw_class.RawAttribute.{RawAttribute}
use Rattle.wv_class.specs.Kinds.{text_kind, kind_at, kind_of}
use Rattle.wv_class.specs.Layout.{SpellsContent, SpellsAttribute, SpellsAll, none, next}
use Rattle.wv_class.specs.Breaks.{content_len, attribute_len}
use Rattle.wv_class.specs.Tables.{parameters_follow, same, follows, with_tables, tables_of}
use Rattle.wv_class.specs.Meaning.{content_kept, kept_in, IsNotesOf, AreNotesOf}
use Rattle.wv_class.specs.Meaning as meaning
use Rattle.wv_class.specs.MemberRead.{HasReadNotes, HaveReadNotes}
use Rattle.wv_class.specs.Formed.{IsFormedKept, AreFormedKept, IsFormedTableOf, IsFormedTable, AreFormedNotes}
use Rattle.wv_class.proofs.FormedBodies.{kept_as}
use Rattle.wv_class.proofs.FormedNotes.{together, FitsPlace, IsGood, notes_size, notes_together, list_good, lists_good}

-- ---- items, each within the bytes that are looked at

pub record Placed {X : Type 0} (S : ℕ → X → List ℕ → Type 0) (x : X) : Type 0 where
  pub near : ℕ
  pub bytes : List ℕ
  pub spelled : S near x bytes
  pub room : length bytes ≤ near

pub each_placed : {X : Type 0} (S : ℕ → X → List ℕ → Type 0) (near : ℕ) (xs : List X) (bytes : List ℕ) → SpellsAll S near xs bytes → length bytes ≤ near → AllByRecursion (Placed S) xs
each_placed S near [] bytes none le = tt
each_placed S near (x ∷ xs) bytes (next {front = front} {back = back} first rest) le =
    let sum = length-append front back in
    (record { near = near; bytes = front; spelled = first; room = omega (arith, sum, le) }, each_placed S (near - length front) xs back rest (omega (arith, sum, le)))

-- ---- which attributes stand where

abbrev pub StandsOnClass : Kind → Type 0
StandsOnClass kinds.Code = ⊥
StandsOnClass kinds.ConstantValue = ⊥
StandsOnClass kinds.Exceptions = ⊥
StandsOnClass (kinds.Annotations visible) = Unit {0}
StandsOnClass (kinds.ParameterAnnotations visible) = ⊥
StandsOnClass kinds.Other = Unit {0}

abbrev pub StandsOnField : Kind → Type 0
StandsOnField kinds.Code = ⊥
StandsOnField kinds.ConstantValue = Unit {0}
StandsOnField kinds.Exceptions = ⊥
StandsOnField (kinds.Annotations visible) = Unit {0}
StandsOnField (kinds.ParameterAnnotations visible) = ⊥
StandsOnField kinds.Other = Unit {0}

abbrev pub StandsOnMethod : Kind → Type 0
StandsOnMethod kinds.Code = Unit {0}
StandsOnMethod kinds.ConstantValue = ⊥
StandsOnMethod kinds.Exceptions = Unit {0}
StandsOnMethod (kinds.Annotations visible) = Unit {0}
StandsOnMethod (kinds.ParameterAnnotations visible) = Unit {0}
StandsOnMethod kinds.Other = Unit {0}

abbrev pub Stands : Place → Kind → Type 0
Stands places.Class kind = StandsOnClass kind
Stands places.Field kind = StandsOnField kind
Stands places.Method kind = StandsOnMethod kind

class_kinds : (v i : Bool) → StandsOnClass (if v then kinds.Annotations true else if i then kinds.Annotations false else kinds.Other)
class_kinds true i = tt
class_kinds false true = tt
class_kinds false false = tt

field_kinds : (c v i : Bool) → StandsOnField (if c then kinds.ConstantValue else if v then kinds.Annotations true else if i then kinds.Annotations false else kinds.Other)
field_kinds true v i = tt
field_kinds false true i = tt
field_kinds false false true = tt
field_kinds false false false = tt

method_kinds : (c e pv pi v i : Bool) → StandsOnMethod (if c then kinds.Code else if e then kinds.Exceptions else if pv then kinds.ParameterAnnotations true else if pi then kinds.ParameterAnnotations false else if v then kinds.Annotations true else if i then kinds.Annotations false else kinds.Other)
method_kinds true e pv pi v i = tt
method_kinds false true pv pi v i = tt
method_kinds false false true pi v i = tt
method_kinds false false false true v i = tt
method_kinds false false false false true i = tt
method_kinds false false false false false true = tt
method_kinds false false false false false false = tt

text_stands : (place : Place) (o : Option (List ℕ)) → Stands place (text_kind place o)
text_stands places.Class None = tt
text_stands places.Class (Some name) = class_kinds (bytes_eq name (codes "RuntimeVisibleAnnotations")) (bytes_eq name (codes "RuntimeInvisibleAnnotations"))
text_stands places.Field None = tt
text_stands places.Field (Some name) = field_kinds (bytes_eq name (codes "ConstantValue")) (bytes_eq name (codes "RuntimeVisibleAnnotations")) (bytes_eq name (codes "RuntimeInvisibleAnnotations"))
text_stands places.Method None = tt
text_stands places.Method (Some name) =
    method_kinds (bytes_eq name (codes "Code")) (bytes_eq name (codes "Exceptions")) (bytes_eq name (codes "RuntimeVisibleParameterAnnotations"))
    (bytes_eq name (codes "RuntimeInvisibleParameterAnnotations")) (bytes_eq name (codes "RuntimeVisibleAnnotations")) (bytes_eq name (codes "RuntimeInvisibleAnnotations"))

stands : (pool : List PoolEntry) (place : Place) (number : ℕ) → Stands place (kind_at pool place number)
unfolding kind_at
stands pool place number = text_stands place (text_of pool number)

no_kind : (pool : List PoolEntry) (place : Place) → kind_at pool place 0 ≡ kinds.Other
unfolding kind_at
no_kind pool place = refl

pub attribute_stands : (pool : List PoolEntry) (place : Place) (near : ℕ) (a : RawAttribute) (bytes : List ℕ) → SpellsAttribute pool place near a bytes → Stands place (kind_of a.content)
attribute_stands pool place near a bytes s = subst (Stands place) s.known (stands pool place a.name)

-- ---- attributes that are kept

kept_content : (pool : List PoolEntry) (place : Place) (near name : ℕ) (content : Content) (bytes : List ℕ) → kind_at pool place name ≡ kind_of content → SpellsContent near pool content bytes → length bytes < 2 ^ 32
    → AllByRecursion (IsFormedKept pool place) (content_kept (kept_name pool name) content)
kept_content pool place near name (contents.Code raw) bytes known s small = tt
kept_content pool place near name (contents.ConstantValue number) bytes known s small = tt
kept_content pool place near name (contents.Exceptions numbers) bytes known s small = tt
kept_content pool place near name (contents.Annotations visible parts) bytes known s small = tt
kept_content pool place near name (contents.ParameterAnnotations visible parts) bytes known s small = tt
kept_content pool place near name (contents.Other content) bytes known s small =
    let few : length content < 2 ^ 32 = subst (λ (t : List ℕ). length t < 2 ^ 32) s.1 small in
    (kept_as pool name (λ n. IsFormedKept pool place (record { name = n; content = content })) (λ le. (le, known, few)) (omega arith, no_kind pool place, few), tt)

pub kept_written : (pool : List PoolEntry) (place : Place) (all : List RawAttribute) → AllByRecursion (Placed (SpellsAttribute pool place)) all → AreFormedKept pool place (flat_map (kept_in pool) all)
kept_written pool place [] h = tt
kept_written pool place (a ∷ all) h =
    let s = h.0.spelled in
    all_append (IsFormedKept pool place) (kept_in pool a) (flat_map (kept_in pool) all) (kept_content pool place (h.0.near - 6) a.name a.content s.content s.known s.content_is s.short) (kept_written pool place all h.1)

-- ---- annotations of attributes

nothing_good : (place : Place) (notes : List Note) (n : ℕ) → notes ≡ [] → AllByRecursion (IsGood place) notes × (notes_size notes ≤ n)
nothing_good place notes n e = subst (λ (t : List Note). AllByRecursion (IsGood place) t × (notes_size t ≤ n)) (sym e) (tt, omega arith)

module _ (pool : List PoolEntry) (whole : IsPool pool) where
  content_notes : (place : Place) (near : ℕ) (content : Content) (bytes : List ℕ) → SpellsContent near pool content bytes → length bytes ≤ near → Stands place (kind_of content) → HasReadNotes pool content → (notes : List Note)
      → IsNotesOf pool content notes → AllByRecursion (IsGood place) notes × (notes_size notes ≤ content_len content)
  content_notes place near (contents.Code raw) bytes s le st r notes is = nothing_good place notes (content_len (contents.Code raw)) is
  content_notes place near (contents.ConstantValue number) bytes s le st r notes is = nothing_good place notes 2 is
  content_notes place near (contents.Exceptions numbers) bytes s le st r notes is = nothing_good place notes (content_len (contents.Exceptions numbers)) is
  content_notes place near (contents.Annotations visible parts) bytes s le st r notes is =
      let spelled = s.spelled in
      list_good pool whole place visible notes parts is r.1 (record { near = near; enough = omega (arith, ap length spelled, le); follows = s.follows })
  content_notes places.Class near (contents.ParameterAnnotations visible parts) bytes s le st r notes is = absurd st
  content_notes places.Field near (contents.ParameterAnnotations visible parts) bytes s le st r notes is = absurd st
  content_notes places.Method near (contents.ParameterAnnotations visible parts) [] s le st r notes is = absurd s
  content_notes places.Method near (contents.ParameterAnnotations visible parts) (count ∷ bytes) s le st r notes is =
      let few = s.0 in
      let spelled = s.1.spelled in
      let g = lists_good pool whole visible 0 count (omega (arith, few)) is r.1 (record { near = near - 1; enough = omega (arith, ap length spelled, le); follows = s.1.follows }) in
      let long = g.1 in
      (g.0, omega (arith, long))
  content_notes place near (contents.Other content) bytes s le st r notes is = nothing_good place notes (length content) is

  attribute_notes : (place : Place) (a : RawAttribute) → Placed (SpellsAttribute pool place) a → HasReadNotes pool a.content → (notes : List Note) → IsNotesOf pool a.content notes
      → AllByRecursion (IsGood place) notes × (notes_size notes ≤ content_len a.content)
  attribute_notes place a p r notes is =
      let s = p.spelled in
      let room = p.room in
      let spelled = s.spelled in
      content_notes place (p.near - 6) a.content s.content s.content_is (omega (arith, ap length spelled, room)) (attribute_stands pool place p.near a p.bytes s) r notes is

  pub attributes_notes : (place : Place) {all : List RawAttribute} {notes : List Note} → AllByRecursion (Placed (SpellsAttribute pool place)) all → HaveReadNotes pool all → AreNotesOf pool all notes
      → AllByRecursion (IsGood place) notes × (notes_size notes ≤ sum_by attribute_len all)
  attributes_notes place p r meaning.none = (tt, omega arith)
  attributes_notes place p r (meaning.next {a = a} {all = all} notes others is rest) =
      let i = attribute_notes place a p.0 r.0 notes is in
      let j = attributes_notes place p.1 r.1 rest in
      let first = i.1 in
      let last = j.1 in
      let both = notes_together notes others in
      let sum = sum_by-cons attribute_len a all in
      (all_append (IsGood place) notes others i.0 j.0, omega (arith, first, last, both, sum))

-- ---- annotations in tables

notes_formed : (place : Place) (notes : List Note) → AllByRecursion (IsGood place) notes → AllByRecursion IsFormed (flat_map (λ (n : Note). annotation_pieces n.annotation) notes)
notes_formed place [] g = tt
notes_formed place (n ∷ notes) g = all_append IsFormed (annotation_pieces n.annotation) (flat_map (λ (n : Note). annotation_pieces n.annotation) notes) g.0.formed (notes_formed place notes g.1)

notes_shallow : (place : Place) (notes : List Note) → AllByRecursion (IsGood place) notes → AreShallow notes
notes_shallow place [] g = tt
notes_shallow place (n ∷ notes) g = (g.0.shallow, notes_shallow place notes g.1)

notes_long : (notes : List Note) → pieces_size (flat_map (λ (n : Note). annotation_pieces n.annotation) notes) ≡ notes_size notes
notes_long [] = refl
notes_long (n ∷ notes) = let e = notes_long notes in together (annotation_pieces n.annotation) (flat_map (λ (n : Note). annotation_pieces n.annotation) notes) ∙ omega (arith, e)

notes_few : (place : Place) (notes : List Note) → AllByRecursion (IsGood place) notes → length notes ≤ notes_size notes
notes_few place [] g = omega arith
notes_few place (n ∷ notes) g =
    let some = g.0.some in
    let others = notes_few place notes g.1 in
    omega (arith, some, others)

list_formed : (place : Place) (notes : List Note) → AllByRecursion (IsGood place) notes → notes_size notes < 2 ^ 16 → AllByRecursion IsFormed (list_pieces notes) × (pieces_size (list_pieces notes) ≤ 65538)
list_formed place notes g small =
    let few = notes_few place notes g in
    let long = notes_long notes in
    ((omega (arith, few, small), notes_formed place notes g), omega (arith, long, small))

writable : (place : Place) (notes : List Note) → AllByRecursion (IsGood place) notes → notes_size notes < 2 ^ 16 → AreWritable notes
writable place notes g small =
    let l = list_formed place notes g small in
    let long = l.1 in
    (notes_shallow place notes g, l.0, omega (arith, long))

filtered : (place : Place) (test : Note → Bool) (notes : List Note) → AllByRecursion (IsGood place) notes → AllByRecursion (IsGood place) (filter test notes) × (notes_size (filter test notes) ≤ notes_size notes)
filtered place test [] g = (tt, omega arith)
filtered place test (n ∷ notes) g = go (test n) (filtered place test notes g.1)
  where
    go : (b : Bool) → AllByRecursion (IsGood place) (filter test notes) × (notes_size (filter test notes) ≤ notes_size notes)
        → AllByRecursion (IsGood place) (cond b (n ∷ filter test notes) (filter test notes)) × (notes_size (cond b (n ∷ filter test notes) (filter test notes)) ≤ notes_size (n ∷ notes))
    go true f = let le = f.1 in ((g.0, f.0), omega (arith, le))
    go false f = let le = f.1 in (f.0, omega (arith, le))

lists_formed : (place : Place) (first count : ℕ) (notes : List Note) → AllByRecursion (IsGood place) notes → notes_size notes < 2 ^ 16
    → AllByRecursion IsFormed (lists_pieces (by_place first count notes)) × (pieces_size (lists_pieces (by_place first count notes)) ≤ count * 65538)
lists_formed place first zero notes g small = (tt, omega arith)
lists_formed place first (suc count) notes g small =
    let here = filter (λ (n : Note). is_place first n.parameter) notes in
    let f = filtered place (λ (n : Note). is_place first n.parameter) notes g in
    let fewer = f.1 in
    let one = list_formed place here f.0 (omega (arith, fewer, small)) in
    let others = lists_formed place (first + 1) count notes g small in
    let both = together (list_pieces here) (lists_pieces (by_place (first + 1) count notes)) in
    let a = one.1 in
    let b = others.1 in
    (all_append IsFormed (list_pieces here) (lists_pieces (by_place (first + 1) count notes)) one.0 others.0, omega (arith, a, b, both))

writable_lists : (place : Place) (count : ℕ) (notes : List Note) → count ≤ 255 → AllByRecursion (IsGood place) notes → notes_size notes < 2 ^ 16 → AreOrdered 0 count notes → AreWritableOf count notes
writable_lists place count notes le g small ordered =
    let l = lists_formed place 0 count notes g small in
    let long = l.1 in
    (ordered, notes_shallow place notes g, l.0, omega (arith, long, le))

-- ---- tables, one behind the other

abbrev Chain : List Note → Type 0
Chain [] = Unit {0}
Chain (a ∷ []) = Unit {0}
Chain (a ∷ b ∷ notes) = IsTrue (follows a b) × Chain (b ∷ notes)

-- annotations that stand in one table, of so many bytes at most
record IsFine (place : Place) (n : ℕ) (notes : List Note) : Type 0 where
  good : AllByRecursion (IsGood place) notes
  size : notes_size notes ≤ n
  chain : Chain notes

more_fine : (place : Place) (m n : ℕ) (tables : List (List Note)) → m ≤ n → AllByRecursion (IsFine place m) tables → AllByRecursion (IsFine place n) tables
more_fine place m n [] le h = tt
more_fine place m n (t ∷ tables) le h =
    let size = h.0.size in
    (record { good = h.0.good; size = omega (arith, size, le); chain = h.0.chain }, more_fine place m n tables le h.1)

with_fine : (place : Place) (note : Note) (n : ℕ) (tables : List (List Note)) → IsGood place note → AllByRecursion (IsFine place n) tables → AllByRecursion (IsFine place (pieces_size (annotation_pieces note.annotation) + n)) (with_tables note tables)
with_fine place note n tables g h = by_tables tables h
  where
    all : ℕ
    all = pieces_size (annotation_pieces note.annotation) + n

    alone : IsFine place all (note ∷ [])
    alone = record { good = (g, tt); size = omega arith; chain = tt }

    by_test : (b : Bool) (behind : Note) (table : List Note) (others : List (List Note)) → follows note behind ≡ b → IsFine place n (behind ∷ table) → AllByRecursion (IsFine place n) others
        → AllByRecursion (IsFine place all) (if b then (note ∷ behind ∷ table) ∷ others else (note ∷ []) ∷ (behind ∷ table) ∷ others)
    by_test true behind table others e f h = let size = f.size in (record { good = (g, f.good); size = omega (arith, size); chain = (e, f.chain) }, more_fine place n all others (omega arith) h)
    by_test false behind table others e f h = (alone, more_fine place n all ((behind ∷ table) ∷ others) (omega arith) (f, h))

    by_tables : (tables : List (List Note)) → AllByRecursion (IsFine place n) tables → AllByRecursion (IsFine place all) (with_tables note tables)
    by_tables [] h = (alone, tt)
    by_tables ([] ∷ others) h = (alone, more_fine place n all others (omega arith) h.1)
    by_tables ((behind ∷ table) ∷ others) h = by_test (follows note behind) behind table others refl h.0 h.1

tables_fine : (place : Place) (notes : List Note) → AllByRecursion (IsGood place) notes → AllByRecursion (IsFine place (notes_size notes)) (tables_of notes)
tables_fine place [] g = tt
tables_fine place (note ∷ notes) g = with_fine place note (notes_size notes) (tables_of notes) g.0 (tables_fine place notes g.1)

-- the parameter of the next one
next_parameter : (o p : Option ℕ) (q : ℕ) → o ≡ Some q → parameters_follow o p ≡ true → (r : ℕ) × (p ≡ Some r) × (q ≤ r)
next_parameter None p q e f = absurd cc
next_parameter (Some x) None q e f = absurd cc
next_parameter (Some x) (Some r) q e f =
    let is : x ≡ q = cc in
    let le = leb-true x r f in
    (r, refl, omega (arith, is, le))

ordered : (least q : ℕ) (note : Note) (notes : List Note) → note.parameter ≡ Some q → least ≤ q → AllByRecursion (IsGood places.Method) (note ∷ notes) → Chain (note ∷ notes) → AreOrdered least 255 (note ∷ notes)
ordered least q note [] e le g chain = (q, e, le, subst (FitsPlace places.Method) e g.0.fits, tt)
ordered least q note (behind ∷ notes) e le g chain =
    let parts = and_parts (same note.visible behind.visible) (parameters_follow note.parameter behind.parameter) chain.0 in
    let r = next_parameter note.parameter behind.parameter q e parts.1 in
    (q, e, le, subst (FitsPlace places.Method) e g.0.fits, ordered q r.0 behind notes r.1 r.2 g.1 chain.1)

table_formed : (place : Place) (n : ℕ) (table : List Note) → n < 2 ^ 16 → IsFine place n table → IsFormedTable place table
table_formed place n [] small f = tt
table_formed place n (note ∷ notes) small f = go place note.parameter refl f.good f.chain
  where
    size : notes_size (note ∷ notes) < 2 ^ 16
    size = let le = f.size in omega (arith, le, small)

    go : (place : Place) (p : Option ℕ) → note.parameter ≡ p → AllByRecursion (IsGood place) (note ∷ notes) → Chain (note ∷ notes) → IsFormedTableOf place p (note ∷ notes)
    go places.Class None e g chain = writable places.Class (note ∷ notes) g size
    go places.Field None e g chain = writable places.Field (note ∷ notes) g size
    go places.Method None e g chain = writable places.Method (note ∷ notes) g size
    go places.Class (Some q) e g chain = absurd (subst (FitsPlace places.Class) e g.0.fits)
    go places.Field (Some q) e g chain = absurd (subst (FitsPlace places.Field) e g.0.fits)
    go places.Method (Some q) e g chain = writable_lists places.Method 255 (note ∷ notes) (omega arith) g size (ordered 0 q note notes e (omega arith) g chain)

tables_formed : (place : Place) (n : ℕ) (tables : List (List Note)) → n < 2 ^ 16 → AllByRecursion (IsFine place n) tables → AllByRecursion (IsFormedTable place) tables
tables_formed place n [] small h = tt
tables_formed place n (t ∷ tables) small h = (table_formed place n t small h.0, tables_formed place n tables small h.1)

pub notes_written : (place : Place) (notes : List Note) → AllByRecursion (IsGood place) notes → notes_size notes < 2 ^ 16 → AreFormedNotes place notes
notes_written place notes g small = tables_formed place (notes_size notes) (tables_of notes) small (tables_fine place notes g)
