-- Few bytes spell few annotations, which name few constants.
use Rattle.std.proofs.Common.{◌≡◌, ℕ, zero, suc, ◌+◌, ◌*◌, ◌≤◌, Bool, true, false, cond, if◌then◌else◌, List, [], ◌∷◌, ◌++◌, length, Option, Some, None, refl, ap, arith}
use Rattle.std.specs.Prelude.{nat_le, ◌==◌}
use Rattle.std.specs.List.{flat_map, filter}
use Rattle.std.proofs.lemmas.Bool.{eqb-true, leb-true, leb-false}
use Rattle.wv_base.specs.declared.class_file.PoolEntry.{PoolEntry}
use Rattle.wv_base.specs.declared.constant.Const.TheVariants as constants
use Rattle.wv_base.specs.declared.note.Annotation.{Annotation}
use Rattle.wv_base.specs.declared.note.NamedElement.{NamedElement}
use Rattle.wv_base.specs.declared.note.Element.{Element}
use Rattle.wv_base.specs.declared.note.Note.{Note}
use Rattle.wv_attr.specs.declared.mark.Mark.{Mark}
use Rattle.wv_attr.specs.declared.piece.Piece.{Piece}
use Rattle.wv_attr.specs.declared.piece.Piece.TheVariants as pieces
use Rattle.wv_attr.specs.Marks.{table_bytes}
use Rattle.wv_attr.specs.Meanings.{IsValue, AreValues, IsAnnotation, IsPair, ArePairs, AreNotes, IsNoteList, AreListed}
use Rattle.wv_attr.specs.Meanings as meanings
use Rattle.wv_attr.specs.Pieces.{value_pieces, annotation_pieces, pair_pieces, list_pieces}
use Rattle.wv_attr.specs.Writing.{piece_needs, pieces_need, parameters_need, is_place, by_place, lists_pieces}
use Rattle.wv_attr.proofs.Flattened.{constant_pieces, enum_pieces, class_pieces, nested_pieces, array_pieces, annotation_rolled, pair_rolled}
use Rattle.wv_attr.proofs.Numbered.{need-append}
use Rattle.wv_class.specs.Tables.{follows, with_tables, tables_of, table_name}
use Rattle.wv_class.specs.Needs.{content_needs, table_needs, all_tables_need, annotations_need}
use Rattle.wv_class.proofs.SmallCounts.{count, count-append, needs_few}

-- ---- Parts

abbrev size : List Mark → ℕ
size ms = length (table_bytes ms)

abbrev cost : List Piece → ℕ
cost ps = count (pieces_need ps)

cost-cons : (p : Piece) (ps : List Piece) → cost (p ∷ ps) ≡ cost ps + count (piece_needs p)
cost-cons p ps = count-append (pieces_need ps) (piece_needs p)

cost-append : (xs ys : List Piece) → cost (xs ++ ys) ≡ cost xs + cost ys
cost-append xs ys = omega (arith, ap count (need-append xs ys), count-append (pieces_need ys) (pieces_need xs))

-- ---- Annotations

-- with room for the name of its table
abbrev weight : Note → ℕ
weight n = 4 + cost (annotation_pieces n.annotation)

abbrev pub weights : List Note → ℕ
weights [] = 0
weights (n ∷ ns) = weight n + weights ns

pub weights-append : (xs ys : List Note) → weights (xs ++ ys) ≡ weights xs + weights ys
weights-append [] ys = omega arith
weights-append (n ∷ xs) ys = omega (arith, weights-append xs ys)

-- each part has the bytes for its constants, and the first of an annotation more
module _ (pool : List PoolEntry) where
  mutual
    value_room : {v : Element} {ms rest : List Mark} → IsValue pool v ms rest → cost (value_pieces v) + 4 * size rest ≤ 4 * size ms
    value_room (meanings.constant tag n value rest h) = omega (arith, ap cost (constant_pieces tag value), needs_few value)
    value_room (meanings.enumerator d n descriptor name rest h k) = omega (arith, ap cost (enum_pieces descriptor name))
    value_room (meanings.class d descriptor rest h) = omega (arith, ap cost (class_pieces descriptor))
    value_room (meanings.nested a ms rest h) = omega (arith, ap cost (nested_pieces a), cost-cons pieces.Nested (annotation_pieces a), annotation_room h)
    value_room (meanings.array es ms rest h) = omega (arith, ap cost (array_pieces es), cost-cons (pieces.Array (length es)) (flat_map value_pieces es), values_room h)

    values_room : {es : List Element} {ms rest : List Mark} → AreValues pool es ms rest → cost (flat_map value_pieces es) + 4 * size rest ≤ 4 * size ms
    values_room (meanings.no_values rest) = omega arith
    values_room (meanings.one_value e es ms next rest h k) = omega (arith, cost-append (value_pieces e) (flat_map value_pieces es), value_room h, values_room k)

    annotation_room : {a : Annotation} {ms rest : List Mark} → IsAnnotation pool a ms rest → 15 + cost (annotation_pieces a) + 4 * size rest ≤ 4 * size ms
    annotation_room (meanings.annotation type name ps ms rest h k) = omega (arith, ap cost (annotation_rolled name ps), cost-cons (pieces.Annotation name (length ps)) (flat_map pair_pieces ps), pairs_room k)

    pair_room : {p : NamedElement} {ms rest : List Mark} → IsPair pool p ms rest → cost (pair_pieces p) + 4 * size rest ≤ 4 * size ms
    pair_room (meanings.pair n name value ms rest h k) = omega (arith, ap cost (pair_rolled name value), cost-cons (pieces.Name name) (value_pieces value), value_room k)

    pairs_room : {ps : List NamedElement} {ms rest : List Mark} → ArePairs pool ps ms rest → cost (flat_map pair_pieces ps) + 4 * size rest ≤ 4 * size ms
    pairs_room (meanings.no_pairs rest) = omega arith
    pairs_room (meanings.one_pair p ps ms next rest h k) = omega (arith, cost-append (pair_pieces p) (flat_map pair_pieces ps), pair_room h, pairs_room k)

  notes_room : {visible : Bool} {parameter : Option ℕ} {notes : List Note} {ms rest : List Mark} → AreNotes pool visible parameter notes ms rest → weights notes + 4 * size rest ≤ 4 * size ms
  notes_room (meanings.no_notes rest) = omega arith
  notes_room (meanings.one_note a notes ms next rest h k) = omega (arith, annotation_room h, notes_room k)

  pub list_room : (visible : Bool) (notes : List Note) (parts : List Mark) → IsNoteList pool visible notes parts → weights notes ≤ 4 * size parts
  list_room visible notes parts h = omega (arith, notes_room h.are, ap size h.starts)

  pub listed_room : {visible : Bool} {place : ℕ} {notes : List Note} {ms : List Mark} → AreListed pool visible place notes ms → weights notes ≤ 4 * size ms
  listed_room (meanings.no_lists place) = omega arith
  listed_room (meanings.one_list place notes others ms next h k) = omega (arith, weights-append notes others, notes_room h, listed_room k)

-- ---- The constants of one table

abbrev costs : List Note → ℕ
costs [] = 0
costs (n ∷ ns) = cost (annotation_pieces n.annotation) + costs ns

flat_cost : (notes : List Note) → cost (flat_map (λ (n : Note). annotation_pieces n.annotation) notes) ≡ costs notes
flat_cost [] = refl
flat_cost (n ∷ ns) = omega (arith, cost-append (annotation_pieces n.annotation) (flat_map (λ (n : Note). annotation_pieces n.annotation) ns), flat_cost ns)

list_cost : (notes : List Note) → cost (list_pieces notes) ≡ costs notes
list_cost notes = omega (arith, cost-cons (pieces.List (length notes)) (flat_map (λ (n : Note). annotation_pieces n.annotation) notes), flat_cost notes)

-- so many, where the annotation is of the parameter at the place or of one behind it
abbrev later : ℕ → Option ℕ → ℕ → ℕ
later place None n = 0
later place (Some q) n = if nat_le place q then n else 0

abbrev costs_from : ℕ → List Note → ℕ
costs_from place [] = 0
costs_from place (n ∷ ns) = later place n.parameter (cost (annotation_pieces n.annotation)) + costs_from place ns

later_tests : (place q n : ℕ) (a b c : Bool) → (q == place) ≡ a → nat_le (place + 1) q ≡ b → nat_le place q ≡ c → (if a then n else 0) + (if b then n else 0) ≤ (if c then n else 0)
later_tests place q n true true c e f g = absurd (omega (arith, eqb-true q place e, leb-true (place + 1) q f))
later_tests place q n true false true e f g = omega arith
later_tests place q n true false false e f g = absurd (omega (arith, eqb-true q place e, leb-false place q g))
later_tests place q n false true true e f g = omega arith
later_tests place q n false true false e f g = absurd (omega (arith, leb-true (place + 1) q f, leb-false place q g))
later_tests place q n false false true e f g = omega arith
later_tests place q n false false false e f g = omega arith

later_here : (place : ℕ) (o : Option ℕ) (n : ℕ) → (if is_place place o then n else 0) + later (place + 1) o n ≤ later place o n
later_here place None n = omega arith
later_here place (Some q) n = later_tests place q n (q == place) (nat_le (place + 1) q) (nat_le place q) refl refl refl

later_most : (place : ℕ) (o : Option ℕ) (n : ℕ) → later place o n ≤ n
later_most place None n = omega arith
later_most place (Some q) n = by_test (nat_le place q)
  where
    by_test : (t : Bool) → (if t then n else 0) ≤ n
    by_test true = omega arith
    by_test false = omega arith

abbrev of_place : ℕ → List Note → List Note
of_place place notes = filter (λ (n : Note). is_place place n.parameter) notes

chosen : (t : Bool) (n : Note) (ns : List Note) → costs (cond t (n ∷ ns) ns) ≡ (if t then cost (annotation_pieces n.annotation) else 0) + costs ns
chosen true n ns = refl
chosen false n ns = omega arith

place_costs : (place : ℕ) (notes : List Note) → costs (of_place place notes) + costs_from (place + 1) notes ≤ costs_from place notes
place_costs place [] = omega arith
place_costs place (n ∷ ns) =
    let first : costs (of_place place (n ∷ ns)) ≡ (if is_place place n.parameter then cost (annotation_pieces n.annotation) else 0) + costs (of_place place ns) = chosen (is_place place n.parameter) n (of_place place ns) in
    omega (arith, first, later_here place n.parameter (cost (annotation_pieces n.annotation)), place_costs place ns)

places_cost : (place count : ℕ) (notes : List Note) → cost (lists_pieces (by_place place count notes)) ≤ costs_from place notes
places_cost place zero notes = omega arith
places_cost place (suc count) notes =
    omega (arith, cost-append (list_pieces (of_place place notes)) (lists_pieces (by_place (place + 1) count notes)), list_cost (of_place place notes), place_costs place notes, places_cost (place + 1) count notes)

from_most : (place : ℕ) (notes : List Note) → costs_from place notes ≤ costs notes
from_most place [] = omega arith
from_most place (n ∷ ns) = omega (arith, later_most place n.parameter (cost (annotation_pieces n.annotation)), from_most place ns)

parameters_cost : (limit : ℕ) (notes : List Note) → count (parameters_need limit notes) ≤ costs notes
parameters_cost limit notes = omega (arith, places_cost 0 limit notes, from_most 0 notes)

content_cost : (o : Option ℕ) (notes : List Note) → count (content_needs o notes) ≤ costs notes
content_cost None notes = omega (arith, list_cost notes)
content_cost (Some place) notes = parameters_cost 255 notes

-- ---- Tables

weights_are : (notes : List Note) → weights notes ≡ 4 * length notes + costs notes
weights_are [] = refl
weights_are (n ∷ ns) = omega (arith, weights_are ns)

table_cost : (table : List Note) → count (table_needs table) ≤ weights table
table_cost [] = omega arith
table_cost (n ∷ ns) =
    omega (arith, count-append (content_needs n.parameter (n ∷ ns)) (constants.Utf8 (table_name n) ∷ []), content_cost n.parameter (n ∷ ns), weights_are (n ∷ ns))

abbrev all_weights : List (List Note) → ℕ
all_weights [] = 0
all_weights (table ∷ tables) = weights table + all_weights tables

tables_cost : (tables : List (List Note)) → count (all_tables_need tables) ≤ all_weights tables
tables_cost [] = omega arith
tables_cost (table ∷ tables) = omega (arith, count-append (all_tables_need tables) (table_needs table), table_cost table, tables_cost tables)

record IsPut (note : Note) (old new : List (List Note)) : Type 0 where
  pub weight_is : all_weights new ≡ weight note + all_weights old
  pub few : length new ≤ 1 + length old

put : (note : Note) (tables : List (List Note)) → IsPut note tables (with_tables note tables)
put note [] = record { weight_is = omega arith; few = omega arith }
put note ([] ∷ others) = record { weight_is = omega arith; few = omega arith }
put note ((next ∷ table) ∷ others) = by_test (follows note next)
  where
    by_test : (t : Bool) → IsPut note ((next ∷ table) ∷ others) (if t then (note ∷ next ∷ table) ∷ others else (note ∷ []) ∷ (next ∷ table) ∷ others)
    by_test true = record { weight_is = omega arith; few = omega arith }
    by_test false = record { weight_is = omega arith; few = omega arith }

tables_weights : (notes : List Note) → all_weights (tables_of notes) ≡ weights notes
tables_weights [] = refl
tables_weights (n ∷ ns) = omega (arith, (put n (tables_of ns)).weight_is, tables_weights ns)

tables_few : (notes : List Note) → length (tables_of notes) ≤ length notes
tables_few [] = omega arith
tables_few (n ∷ ns) = omega (arith, (put n (tables_of ns)).few, tables_few ns)

pub notes_cost : (notes : List Note) → count (annotations_need notes) ≤ weights notes
notes_cost notes = omega (arith, tables_cost (tables_of notes), tables_weights notes)

pub notes_tables : (notes : List Note) → 4 * length (tables_of notes) ≤ weights notes
notes_tables notes = omega (arith, tables_few notes, weights_are notes)
